-- The answer so far, and the answers in the other tables, complete the answers in all of them.
use Rattle.btf_relocate_model.specs.Modules as model
use Rattle.btf_relocate.specs.Resolving.{subject_view}
use Rattle.btf_relocate.proofs.Among.{Left}
use Rattle.btf_relocate.proofs.modules.answers_among.Given as goal

abbrev pub invariant-loop-one : goal.invariant-loop-one
invariant-loop-one l =
    Left (model.answer_in l.local l.question.kind (subject_view l.question.subject)) l.found l.common l.matching.items l.one-index
