use Rattle.std.proofs.Common.{◌∙◌, ap, refl, sym, ℕ}
use Rattle.std.specs.Prelude.{map}
use Rattle.btf_plain.specs.declared.items.BtfMember.{BtfMember}
use Rattle.btf_records.specs.declared.btf_type.BtfType.TheVariants as types
use Rattle.btf_view.specs.Items.{member_form, members, member_forms}
use Rattle.vbtf.proofs.Listing.{listed, members_listed, no_members, unexpected, unknown}
use Rattle.vbtf.proofs.lists.fill_members.Goals as goal

pub returns-in_err-t : goal.returns-in_err-t
returns-in_err-t c =
    unknown members c.args.table.now.records c.args.id c.args.out.now c.in_err-t.field-0.0 c.from_residual.result c.from_residual.ensures.1 c.in_err-t.ensures.0 c.in_err-t.ensures.1

pub returns-in-Struct : goal.returns-in-Struct
returns-in-Struct c =
    let t = c.in-Struct.t in let ms = c.members.result.now in
    listed members c.args.table.now.records c.args.id c.in_ok-t.field-0.now (types.Struct t) (member_forms t.info t.tail) _ c.args.out.now c.fill_forms.new.out c.fill_forms.result
    c.in_ok-t.ensures.record_is c.in_ok-t.ensures.kind_is c.in-Struct.is refl
    (ap (member_forms t.info) c.members.ensures.words ∙ members_listed t.info ms ∙ ap (λ (info : ℕ). map (λ (m : BtfMember). member_form info m.name_offset m.btf_type m.offset) ms) (sym c.info.ensures.value))
    c.fill_forms.ensures

pub returns-in-Union : goal.returns-in-Union
returns-in-Union c =
    let t = c.in-Union.t in let ms = c.members-in-Union.result.now in
    listed members c.args.table.now.records c.args.id c.in_ok-t.field-0.now (types.Union t) (member_forms t.words.info t.words.tail) _ c.args.out.now c.fill_forms-in-Union.new.out c.fill_forms-in-Union.result
    c.in_ok-t.ensures.record_is c.in_ok-t.ensures.kind_is c.in-Union.is refl
    (ap (member_forms t.words.info) c.members-in-Union.ensures.words ∙ members_listed t.words.info ms ∙ ap (λ (info : ℕ). map (λ (m : BtfMember). member_form info m.name_offset m.btf_type m.offset) ms) (sym c.info-in-Union.ensures.value))
    c.fill_forms-in-Union.ensures

pub returns-in_default : goal.returns-in_default
returns-in_default c =
    unexpected members c.args.table.now.records c.args.id c.in_ok-t.field-0.now c.args.out.now c.in_ok-t.ensures.record_is c.in_ok-t.ensures.kind_is
    (no_members c.in_ok-t.field-0.now c.in_default.not-Struct c.in_default.not-Union)
