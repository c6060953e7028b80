use Rattle.std.proofs.Common.{◌≡◌, ◌∙◌, List, ℕ, Bor, true, false, sym, rules}
use Rattle.std.specs.List.{list_any}
use Rattle.std.specs.Str.{bytes_eq}
use Rattle.std.proofs.lemmas.Iterator.{YieldsList-from_slice}
use Rattle.std.proofs.lemmas.Iterator.Search.{any_from_yields_List}
use Rattle.btf_view.specs.TypeRef.{record_in}
use Rattle.btf_relocate_model.specs.Types.{is_long, long_names}
use Rattle.btf_relocate.proofs.Pointers.{this_size, no_long}
use Rattle.btf_relocate.proofs.target.pointer_size.Goals as goal
use Rattle.btf_relocate.proofs.target.pointer_size.Goals.{in-Int+else-size-eq8, else-size-eq8-via-then-size-eq8+else-any, else-size-eq8-via-else-size-eq8, in_default-kind}

pub returns-then-any : goal.returns-then-any
returns-then-any c =
    let r = record_in c.in-Some.btf_type in
    let name = c.name_or_none-name.result.now in
    let any : c.any.result ≡ list_any (bytes_eq name) long_names = any_from_yields_List (λ (y : Bor (List ℕ)). bytes_eq name y.now) _ _ c.any.result c.any.ensures.ran (YieldsList-from_slice _ c.iter.ensures.rest) (λ x b q called. search rules) in
    let named : list_any (bytes_eq name) long_names ≡ true = sym any ∙ c.if-any.true in
    let long : is_long c.args.table.now r ≡ true = search rules in
    let size : c.third-size.result ≡ r.third = search rules in
    size ∙ this_size c.args.table.now c.loop-type_id.type_id r (sym c.in-Some.ensures) c.loop-type_id.invariant long

pub loop-type_id-preserved : goal.loop-type_id-preserved
loop-type_id-preserved c =
    let r = record_in c.in-Some.btf_type in
    let other : is_long c.args.table.now r ≡ false = elim c.match-kind.branch [
      | in-Int+else-size-eq8 w ↦ elim w.else-size-eq8.branch [
        | else-size-eq8-via-then-size-eq8+else-any v ↦
            let name = w.name_or_none-name.result.now in
            let any : v.any.result ≡ list_any (bytes_eq name) long_names = any_from_yields_List (λ (y : Bor (List ℕ)). bytes_eq name y.now) _ _ v.any.result v.any.ensures.ran (YieldsList-from_slice _ v.iter.ensures.rest) (λ x b q called. search rules) in
            let named : list_any (bytes_eq name) long_names ≡ false = sym any ∙ v.if-any.false in
            search rules
        | else-size-eq8-via-else-size-eq8 v ↦ search rules
      ]
      | in_default-kind w ↦ search rules
    ] in
    no_long c.args.table.now c.loop-type_id.type_id r (sym c.in-Some.ensures) c.loop-type_id.invariant other
