use Rattle.std.proofs.Common.{◌≡◌, drop}
use Rattle.btf_rewrite_model.specs.Feature.{answer_to}
use Rattle.btf_table.proofs.sanitize.features.answer_to.Given as goal

abbrev pub invariant-loop-answer : goal.invariant-loop-answer
invariant-loop-answer l = answer_to l.answers l.feature ≡ answer_to (drop l.answer-index l.answers) l.feature
