use Rattle.std.proofs.Common.{◌≡◌, ◌∙◌, Some, Ok, Err, sym}
use Rattle.std.specs.Option.{option_map}
use Rattle.btf_view.specs.TypeRef.{record_in}
use Rattle.btf_relocate_model.specs.Enumerator as model
use Rattle.btf_relocate_model.specs.Name.{essential}
use Rattle.btf_relocate.specs.Enumerators.{enumerator_variant, type_enumerators}
use Rattle.btf_relocate.proofs.Enumerators.{no_name, same_names, this_one, another, found_is}
use Rattle.btf_relocate.proofs.Errors.{left_by}
use Rattle.btf_relocate.proofs.enumerator.find_enumerator.Goals as goal

pub returns-in_err-other : goal.returns-in_err-other
returns-in_err-other c =
    let t = c.args.table.now in
    let r = record_in c.in_ok-btf_type.btf_type in
    let e = c.in_err-other.field-0.0 in
    left_by c.from_residual-in_err-other.result e (λ o. model.find_enumerator t c.args.type_id c.args.name.now ≡ Ok (option_map enumerator_variant o)) (λ x. model.find_enumerator t c.args.type_id c.args.name.now ≡ Err x)
    c.from_residual-in_err-other.ensures.1
    (found_is t c.args.type_id c.args.name.now r (Err e) c.in_ok-btf_type.ensures
    (no_name t c.args.name.now (type_enumerators r) c.loop-index.index c.loop-index.invariant (enumerator_variant c.in-Some.enumerator) (sym c.in-Some.ensures) e c.in_err-other.ensures))

pub returns-then-eq : goal.returns-then-eq
returns-then-eq c =
    let t = c.args.table.now in
    let r = record_in c.in_ok-btf_type.btf_type in
    found_is t c.args.type_id c.args.name.now r (Ok (Some (enumerator_variant c.in-Some.enumerator))) c.in_ok-btf_type.ensures
    (this_one t c.args.name.now (type_enumerators r) c.loop-index.index c.loop-index.invariant (enumerator_variant c.in-Some.enumerator) (sym c.in-Some.ensures) c.in_ok-other.other.now c.in_ok-other.ensures (same_names c.essential_name.result.now c.essential_name-in-loop-index.result.now (essential c.in_ok-other.other.now) (essential c.args.name.now) c.eq.result c.eq.ensures c.essential_name.ensures c.essential_name-in-loop-index.ensures ∙ c.if-eq.true))

pub loop-index-preserved : goal.loop-index-preserved
loop-index-preserved c =
    let t = c.args.table.now in
    let r = record_in c.in_ok-btf_type.btf_type in
    another t c.args.name.now (type_enumerators r) c.loop-index.index c.loop-index.invariant (enumerator_variant c.in-Some.enumerator) (sym c.in-Some.ensures) c.in_ok-other.other.now c.in_ok-other.ensures (same_names c.essential_name.result.now c.essential_name-in-loop-index.result.now (essential c.in_ok-other.other.now) (essential c.args.name.now) c.eq.result c.eq.ensures c.essential_name.ensures c.essential_name-in-loop-index.ensures ∙ c.if-eq.false)
