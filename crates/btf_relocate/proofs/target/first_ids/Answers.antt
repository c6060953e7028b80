use Rattle.std.proofs.Common.{◌≡◌, ◌∙◌, ◌+◌, sym, arith}
use Rattle.std.proofs.lemmas.List.{take_all}
use Rattle.btf_relocate_model.specs.Candidates.{candidate_limit}
use Rattle.btf_relocate.proofs.target.first_ids.Goals as goal

pub returns : goal.returns
returns c = sym (take_all (candidate_limit + 1) c.args.ids.now (omega (arith, c.if-ids-gt-CANDIDATE_LIMIT.false)))
