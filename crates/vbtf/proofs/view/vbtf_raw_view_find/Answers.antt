use Rattle.std.proofs.Common.{inl, inr, refl}
use Rattle.btf_model.specs.Refusal.{InvalidStringOffset, UnknownBtfTypeName}
use Rattle.btf_plain.specs.Kind.{kind}
use Rattle.btf_view.specs.declared.finding.Lookup.TheVariants.{Found, Missing, Unreadable}
use Rattle.vbtf.proofs.Viewing.{looked_up}
use Rattle.vbtf.proofs.view.vbtf_raw_view_find.Goals as goal

pub returns-in-Found-clause-found : goal.returns-in-Found-clause-found
returns-in-Found-clause-found c order records h utf8 k is =
    let view = c.in-Some.ensures in
    inl (refl, looked_up c.in-Some.view.strings.now c.args.strings.now records c.in-Ok.text.now c.args.name.now c.args.kind (kind c.in-Ok-try_from.kind) k (Found c.in-Found.found) view.strings_are c.in-Ok.ensures.cases.0 c.in-Ok-try_from.ensures is (c.in-Found.ensures records (view.shows records h)))

pub returns-in-Missing-clause-found : goal.returns-in-Missing-clause-found
returns-in-Missing-clause-found c order records h utf8 k is =
    let view = c.in-Some.ensures in
    inr (UnknownBtfTypeName c.args.name.now, c.report_missing.ensures, looked_up c.in-Some.view.strings.now c.args.strings.now records c.in-Ok.text.now c.args.name.now c.args.kind (kind c.in-Ok-try_from.kind) k Missing view.strings_are c.in-Ok.ensures.cases.0 c.in-Ok-try_from.ensures is (c.in-Missing.ensures records (view.shows records h)))

pub returns-in-Unreadable-clause-found : goal.returns-in-Unreadable-clause-found
returns-in-Unreadable-clause-found c order records h utf8 k is =
    let view = c.in-Some.ensures in
    inr (InvalidStringOffset c.in-Unreadable.offset, c.report.ensures, looked_up c.in-Some.view.strings.now c.args.strings.now records c.in-Ok.text.now c.args.name.now c.args.kind (kind c.in-Ok-try_from.kind) k (Unreadable c.in-Unreadable.offset) view.strings_are c.in-Ok.ensures.cases.0 c.in-Ok-try_from.ensures is (c.in-Unreadable.ensures records (view.shows records h)))
