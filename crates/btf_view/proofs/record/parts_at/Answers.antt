use Rattle.std.proofs.Common.{◌≡◌, ◌∙◌, ◌+◌, None, refl, sym, ap, drop}
use Rattle.std.proofs.lemmas.Option.{none-some}
use Rattle.btf_model.specs.Record.{kind_of}
use Rattle.btf_view.proofs.Tails.{tail_there}
use Rattle.btf_view.proofs.record.parts_at.Goals as goal

pub returns-in_default : goal.returns-in_default
returns-in_default c r is =
    let types = c.args.types.now in
    let head = c.head_at-head.ensures r is in
    let none : kind_of r.info ≡ None = ap kind_of (sym head.info) ∙ sym c.in_default.ensures in
    let tail = tail_there c.args.endianness types (drop (c.args.place + 12) types) c.args.place r refl is in
    none-some tail.kind (sym none ∙ tail.has)

pub returns : goal.returns
returns c r is =
    let head = c.head_at-head.ensures r is in
    record { kind_is = ap kind_of (sym head.info) ∙ sym c.in-Some.ensures; info_is = head.info; tail_is = c.tail_at.ensures.tail r is }
