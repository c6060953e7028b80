use Rattle.std.proofs.Common.{sym, ap, ◌∙◌, Bool, true}
use Rattle.std.specs.Prelude.{cond}
use Rattle.btf_model.specs.Compat.{pair_eq}
use Rattle.btf_compare.specs.Compared.{passed_in}
use Rattle.btf_compare.specs.Pairs.{pair_of}
use Rattle.btf_compare.proofs.Comparing.{now_in}
use Rattle.btf_compare.proofs.Passed.{inserted}
use Rattle.btf_compare.proofs.run.Run.pass.Goals as goal

pub returns-in_ok-insert-clause-passes : goal.returns-in_ok-insert-clause-passes
returns-in_ok-insert-clause-passes c p =
    let was = passed_in c.args.self.now.passed p in
    let ids = pair_of c.args.found.now.ids in
    inserted c.args.self.now.passed c.insert.new.self ids c.in_ok-insert.ensures.updates.0 p
    ∙ ap (λ (long : Bool). cond long (cond (pair_eq ids p) true was) was) (sym c.if-are_long.true ∙ c.are_long.ensures)

pub returns-in_ok-insert-clause-passed : goal.returns-in_ok-insert-clause-passed
returns-in_ok-insert-clause-passed c =
    let ids = pair_of c.args.found.now.ids in
    now_in (passed_in c.args.self.now.passed) (passed_in c.insert.new.self) ids (inserted c.args.self.now.passed c.insert.new.self ids c.in_ok-insert.ensures.updates.0)
