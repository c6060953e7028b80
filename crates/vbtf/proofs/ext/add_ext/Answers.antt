use Rattle.std.proofs.Common.{◌∙◌, refl, sym}
use Rattle.std.proofs.lemmas.Option.{IfSome_then}
use Rattle.btf_plain.proofs.Refused.{handed_on}
use Rattle.btf_plain.specs.Error.{refusal_of}
use Rattle.vbtf.specs.Ext.{AddsExt}
use Rattle.vbtf.proofs.ExtOpening.{some_by_test, none_by_test}
use Rattle.vbtf.proofs.ext.add_ext.Goals as goal

pub returns-then-is_some-clause-added : goal.returns-then-is_some-clause-added
returns-then-is_some-clause-added c =
    let there = some_by_test c.args.opened.now.ext (sym c.is_some.ensures ∙ c.if-is_some.true) in (there.0, there.1, refl)

pub returns-in_err-ext-clause-added : goal.returns-in_err-ext-clause-added
returns-in_err-ext-clause-added c =
    let none = none_by_test c.args.opened.now.ext (sym c.is_some.ensures ∙ c.if-is_some.false) in
    handed_on (λ b. b) c.in_err-ext.field-0.0 c.from_residual.result (AddsExt c.args.endianness c.args.data.now c.args.opened.now c.args.opened.now) c.from_residual.ensures.1
    (IfSome_then (refusal_of c.in_err-ext.field-0.0) c.in_err-ext.ensures.ext (λ refusal is. (none, refl, is)))

pub returns-clause-added : goal.returns-clause-added
returns-clause-added c =
    (none_by_test c.args.opened.now.ext (sym c.is_some.ensures ∙ c.if-is_some.false), c.in_ok-ext.ext, record { btf = refl; ext = refl; index = refl }, c.in_ok-ext.ensures.ext)
