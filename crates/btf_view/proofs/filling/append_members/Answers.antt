use Rattle.std.proofs.Common.{◌≡◌, ◌∙◌, ◌⊎◌, Some, inl, inr, sym, ap}
use Rattle.std.specs.Prelude.{slice_get}
use Rattle.btf_model.specs.Record as model
use Rattle.btf_model.specs.Record.{Kind, kind_of}
use Rattle.btf_view.proofs.Appended.{no_members_of, none_appended, struct_appended}
use Rattle.btf_view.proofs.Heads.{read_info}
use Rattle.btf_view.proofs.KindNames.{members_by_number, no_members_by_number}
use Rattle.btf_view.proofs.Sizings.{kind_read}
use Rattle.btf_view.proofs.filling.append_members.Goals as goal

pub returns-then-not-has_members-clause-items : goal.returns-then-not-has_members-clause-items
returns-then-not-has_members-clause-items c r p =
    let head = c.raw_head_at-head.result in
    let h = c.raw_head_at-head.ensures r p in
    let none = no_members_by_number c.kind.result h.kind r (ap (slice_get model.kinds) c.kind.ensures ∙ h.has) (sym c.has_members.ensures ∙ c.if-not-has_members.true) in
    none_appended r c.args.out.now c.args.at (no_members_of r h.kind (kind_read head r h) none) c.requires

pub returns-clause-items : goal.returns-clause-items
returns-clause-items c r p =
    let head = c.raw_head_at-head.result in
    let h = c.raw_head_at-head.ensures r p in
    let either = members_by_number c.kind.result h.kind (ap (slice_get model.kinds) c.kind.ensures ∙ h.has) (sym c.has_members.ensures ∙ c.if-not-has_members.false) in
    let has : (kind_of r.info ≡ Some model.Struct) ⊎ (kind_of r.info ≡ Some model.Union) =
    elim either [ inl s ↦ inl (kind_read head r h ∙ ap (λ (k : Kind). Some k) s) | inr u ↦ inr (kind_read head r h ∙ ap (λ (k : Kind). Some k) u) ] in
    struct_appended c.args.endianness c.tail_at-tail.result.now head.info c.args.at c.append_items.result r c.args.out.now c.append_items.new.out has (read_info head r h either) (c.tail_at-tail.ensures.tail r p) c.append_items.ensures.items
