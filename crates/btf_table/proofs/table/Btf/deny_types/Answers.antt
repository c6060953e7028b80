use Rattle.std.proofs.Common.{◌≡◌, ℕ, List, length, ap, subst, sym, ◌∙◌, arith, Vec, Global}
use Rattle.std.specs.Vec.{with_items}
use Rattle.std.proofs.lemmas.List.{length-map, with_items_is}
use Rattle.btf_model.specs.Table.{Table}
use Rattle.btf_records.specs.BtfType.{record_of}
use Rattle.btf_records.specs.declared.btf_type.BtfType.{BtfType}
use Rattle.btf_table.specs.Denied.{AreDenied, AreTypeIds}
use Rattle.btf_table.proofs.Denials.{consistent_denied}
use Rattle.btf_table.proofs.table.Btf.deny_types.Goals as goal

pub invariant_of-self : goal.invariant_of-self
invariant_of-self c =
    let ids : List ℕ = c.args.ids.now in
    let old : List BtfType = c.self.inside.types.items in
    let types : Vec BtfType Global = with_items c.self.inside.types c.deny_each.new.types in
    let types_are : types.items ≡ c.deny_each.new.types = with_items_is c.self.inside.types c.deny_each.new.types (omega (arith, c.deny_each.auto.types, ap length c.deref_mut.ensures.value, c.self.inside.types.ok.0)) in
    let inside : AreTypeIds (length old) ids = subst (λ (n : ℕ). AreTypeIds n ids) (ap (λ (t : Table). length t.records) (sym c.self.view_is) ∙ length-map old record_of) c.requires in
    consistent_denied c.self.inside types ids c.self.invariant inside
    (subst (AreDenied ids old) (sym types_are) (subst (λ (ts : List BtfType). AreDenied ids ts c.deny_each.new.types) c.deref_mut.ensures.value c.deny_each.ensures))
