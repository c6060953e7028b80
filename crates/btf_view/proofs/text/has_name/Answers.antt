use Rattle.std.proofs.Common.{subst, Option, ℕ, arith}
use Rattle.std.specs.Prelude.{IfSome}
use Rattle.btf_table.specs.Readable.{IsReadableEnd, IsComparable}
use Rattle.btf_table.proofs.Names.{bytes_compared}
use Rattle.btf_view.proofs.text.has_name.Goals as goal

pub returns-then-offset-end : goal.returns-then-offset-end
returns-then-offset-end c =
    let strings = c.args.strings.now in
    let comparable = subst (λ (o : Option ℕ). IfSome o (λ end. IsReadableEnd strings end × IsComparable c.args.name.now)) c.in-Some.is c.requires in
    comparable.0.from c.args.offset (omega (arith, c.if-offset-end.true))

pub returns : goal.returns
returns c =
    let strings = c.args.strings.now in
    let comparable = subst (λ (o : Option ℕ). IfSome o (λ end. IsReadableEnd strings end × IsComparable c.args.name.now)) c.in-Some.is c.requires in
    bytes_compared strings c.args.name.now c.args.offset c.in-Some.end c.has_name_at.result comparable.0 c.utf8.name comparable.1 (omega (arith, c.if-offset-end.false)) c.has_name_at.ensures
