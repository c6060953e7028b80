use Rattle.std.proofs.Common.{◌≡◌, ℕ, List, Ok, Err, sym, inr}
use Rattle.std.specs.Prelude.{◌⊎◌}
use Rattle.btf_view.specs.TypeRef.{record_in}
use Rattle.btf_relocate_model.specs.Comparison.{enumerators_of}
use Rattle.btf_relocate_model.specs.Comparison as model
use Rattle.btf_relocate_model.specs.declared.error.RelocationError.TheVariants.{OutOfMemory}
use Rattle.btf_relocate.specs.Enumerators.{enumerator_variant}
use Rattle.btf_relocate.specs.Steps.{HasNames}
use Rattle.btf_relocate.proofs.Definitions.{starts, name_fails, all_read, one_more_name}
use Rattle.btf_relocate.proofs.Errors.{left_by}
use Rattle.btf_relocate.proofs.Pointers.{none_there}
use Rattle.btf_relocate.proofs.types.names.essential_names.Goals as goal

pub loop-index-init : goal.loop-index-init
loop-index-init c = starts c.args.table.now (enumerators_of (record_in c.args.btf_type.now)) c.new-names.result c.new-names.ensures.empty

pub returns-in_default : goal.returns-in_default
returns-in_default c =
    let vs = enumerators_of (record_in c.args.btf_type.now) in (
      c.loop-index.invariant.found,
      all_read c.args.table.now vs c.loop-index.names c.loop-index.index c.loop-index.invariant (none_there vs c.loop-index.index (sym c.in_default.ensures)),
      c.loop-index.invariant.names,
    )

pub returns-in_err-name : goal.returns-in_err-name
returns-in_err-name c =
    let vs = enumerators_of (record_in c.args.btf_type.now) in
    let e = c.in_err-name.field-0.0 in
    left_by c.from_residual.result e (λ set. (names : List (List ℕ)) × (model.essential_names c.args.table.now vs ≡ Ok names) × HasNames set names)
    (λ x. (x ≡ OutOfMemory) ⊎ (model.essential_names c.args.table.now vs ≡ Err x)) c.from_residual.ensures.1
    (inr (name_fails c.args.table.now vs c.loop-index.names c.loop-index.index c.loop-index.invariant (enumerator_variant c.in-Some.enumerator) (sym c.in-Some.ensures) e c.in_err-name.ensures))

pub loop-index-preserved : goal.loop-index-preserved
loop-index-preserved c =
    let vs = enumerators_of (record_in c.args.btf_type.now) in
    one_more_name c.args.table.now vs c.loop-index.names c.insert.new.self c.loop-index.index c.loop-index.invariant (enumerator_variant c.in-Some.enumerator) (sym c.in-Some.ensures)
    c.in_ok-name.name.now c.essential_name.result c.in_ok-name.ensures c.essential_name.ensures c.in_ok-insert.ensures.updates
