use Rattle.std.proofs.Common.{◌≡◌, refl, Vec, Global, List, ℕ, length, ap, subst, sym, ◌∙◌, ◌++◌, arith}
use Rattle.std.specs.Vec.{with_items}
use Rattle.std.proofs.lemmas.List.{with_items_is}
use Rattle.btf_records.specs.declared.btf_type.BtfType.{BtfType}
use Rattle.btf_table.specs.Changes.{AreChangesOf, changed, put_all, before_changes, Undoes}
use Rattle.btf_model.specs.Table.{Table}
use Rattle.btf_table.specs.Btf.{table_of}
use Rattle.btf_table.specs.declared.table.changes.Undo.{Undo}
use Rattle.btf_table.specs.declared.table.Btf.TheInside.{Inside}
use Rattle.btf_table.proofs.Put.{view_changed, consistent_changed, undoes}
use Rattle.btf_table.proofs.table.Btf.apply.Goals as goal

of : (c : goal.After-drop-changes-3) → AreChangesOf (table_of c.self.inside) c.args.changes
of c = subst (λ t. AreChangesOf t c.args.changes) (sym c.self.view_is) c.requires

strings : (c : goal.After-drop-changes-3) → c.extend_from_slice.new.self.items ≡ c.self.inside.strings.items ++ c.args.changes.new_strings.items
strings c = c.in_ok-extend_from_slice.ensures.items ∙ ap (λ (xs : List ℕ). xs ++ c.deref.result.now) c.in_ok-reserve.ensures.items ∙ ap (λ (xs : List ℕ). c.self.inside.strings.items ++ xs) c.deref.ensures.value

types : (c : goal.After-drop-changes-3) → (with_items c.append.new.self c.swap_types.new.types).items ≡ put_all c.args.changes.types.items (c.self.inside.types.items ++ c.args.changes.new_types.items)
types c =
    with_items_is c.append.new.self c.swap_types.new.types (omega (arith, c.swap_types.auto.types, ap length c.deref_mut.ensures.value, c.append.new.self.ok.0)) ∙ c.swap_types.ensures.put ∙ ap (λ xs. put_all xs c.deref_mut.result.now) c.deref_mut-2.ensures.value
    ∙ ap (put_all c.args.changes.types.items) (c.deref_mut.ensures.value ∙ c.in_ok-append.ensures.items ∙ ap (λ (xs : List BtfType). xs ++ c.args.changes.new_types.items) c.in_ok-reserve-2.ensures.items)

pub invariant_of-self-2 : goal.invariant_of-self-2
invariant_of-self-2 c = consistent_changed c.self.inside c.args.changes c.extend_from_slice.new.self (with_items c.append.new.self c.swap_types.new.types) c.self.invariant (of c) (strings c) (types c)

pub returns-clause-ok : goal.returns-clause-ok
returns-clause-ok c = view_changed c.self.inside c.args.changes c.extend_from_slice.new.self (with_items c.append.new.self c.swap_types.new.types) c.self.invariant (of c) (strings c) (types c) ∙ ap (λ t. changed t c.args.changes) c.self.view_is

pub returns-clause-undo : goal.returns-clause-undo
returns-clause-undo c =
    let kept : Vec (ℕ × BtfType) Global = with_items c.args.changes.types c.swap_types.new.changed in
    let undo : Undo = record { types = kept; string_len = c.len-string_len.result; count = c.len-count.result; type_len = c.self.inside.type_len } in
    let after : Inside = record c.self.inside { strings = c.extend_from_slice.new.self; types = with_items c.append.new.self c.swap_types.new.types; type_len = c.args.changes.type_len } in
    let old = with_items_is c.args.changes.types c.swap_types.new.changed (omega (arith, c.swap_types.auto.changed, ap length c.deref_mut-2.ensures.value, c.args.changes.types.ok.0)) ∙ c.swap_types.ensures.old
    ∙ ap (λ ds. before_changes ds c.deref_mut.result.now) c.deref_mut-2.ensures.value
    ∙ ap (before_changes c.args.changes.types.items) (c.deref_mut.ensures.value ∙ c.in_ok-append.ensures.items ∙ ap (λ (xs : List BtfType). xs ++ c.args.changes.new_types.items) c.in_ok-reserve-2.ensures.items) in
    subst (λ (t : Table). Undoes undo (table_of after) t) c.self.view_is
    (undoes c.self.inside c.args.changes c.extend_from_slice.new.self (with_items c.append.new.self c.swap_types.new.types) c.self.invariant (of c) (strings c) (types c) undo old
    (omega (arith, c.len-string_len.ensures, c.self.inside.strings.ok.0)) (omega (arith, c.len-count.ensures, c.self.inside.types.ok.0)) refl)
