use Rattle.std.proofs.Common.{ℕ, ap, subst, Option}
use Rattle.std.specs.Prelude.{is_err, IfSome}
use Rattle.std.proofs.lemmas.Bool.{ltb-true}
use Rattle.btf_table.specs.Readable.{IsReadableEnd}
use Rattle.btf_loader.proofs.step.Loader.is_readable.Goals as goal

pub returns-in-Some : goal.returns-in-Some
returns-in-Some c test =
    let end : IsReadableEnd c.args.self.now.local.now.strings c.in-Some.end = subst (λ (o : Option ℕ). IfSome o (IsReadableEnd c.args.self.now.local.now.strings)) c.in-Some.is c.requires in
    let text = end.below c.args.name_offset (ltb-true c.args.name_offset c.in-Some.end test) in
    ap is_err text.1
