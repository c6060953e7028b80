use Rattle.std.proofs.Common.{ap, subst, ◌∙◌, List, ℕ, Ok, Option, arith}
use Rattle.std.specs.Prelude.{IfSome}
use Rattle.btf_table.specs.Readable.{IsReadableEnd, IsComparable}
use Rattle.btf_table.proofs.Names.{text_compared, bytes_compared}
use Rattle.btf_table.proofs.table.text.has_name.Goals as goal

pub returns-in_default-clause-named : goal.returns-in_default-clause-named
returns-in_default-clause-named c =
    text_compared c.args.strings.now c.args.name.now c.as_str.result.now c.args.offset c.eq.result
    (ap (λ (text : List ℕ). Ok text) c.as_str.ensures ∙ c.in_ok-text.ensures.text) c.eq.ensures

pub returns-in_default-clause-no_memory : goal.returns-in_default-clause-no_memory
returns-in_default-clause-no_memory c = λ _. returns-in_default-clause-named c

pub returns-clause-named : goal.returns-clause-named
returns-clause-named c =
    let comparable : IsReadableEnd c.args.strings.now c.in-Some.end × IsComparable c.args.name.now = subst (λ (o : Option ℕ). IfSome o (λ end. IsReadableEnd c.args.strings.now end × IsComparable c.args.name.now)) c.in-Some.is c.requires in
    bytes_compared c.args.strings.now c.args.name.now c.args.offset c.in-Some.end c.has_name_at.result comparable.0 c.utf8.name comparable.1 (omega (arith, c.if-offset-end.false)) c.has_name_at.ensures

pub returns-clause-no_memory : goal.returns-clause-no_memory
returns-clause-no_memory c = λ _. returns-clause-named c
