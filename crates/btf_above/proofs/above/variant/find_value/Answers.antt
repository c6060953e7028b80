use Rattle.std.proofs.Common.{map, length, refl, ap, ◌∙◌}
use Rattle.std.specs.Option.{option_map}
use Rattle.std.proofs.lemmas.Option.{slice_get-map, slice_get_read}
use Rattle.btf_above.proofs.Finding.{handed, found_here, passed_here, error_here, reported_here}
use Rattle.btf_above.proofs.above.variant.find_value.Goals as goal

pub returns-in_err-is_named-clause-found : goal.returns-in_err-is_named-clause-found
returns-in_err-is_named-clause-found g c =
    let vs : _ = c.args.variants.now in
    let i : _ = c.loop-variant.variant-index in
    error_here c.args.btf.now.strings c.args.name.now (map g.V.Variant.variant vs) i c.name_offset.result (g.V.Variant.variant c.variant-item.result) c.in_err-is_named.field-0.0 c.from_residual.result
    (handed c.from_residual.result c.in_err-is_named.field-0.0 c.from_residual.ensures.1)
    (slice_get-map g.V.Variant.variant vs i ∙ ap (option_map g.V.Variant.variant) (slice_get_read vs (length vs) i c.variant-item.result refl c.loop-variant-test.true c.variant-item.is))
    c.loop-variant.invariant c.name_offset.ensures c.in_err-is_named.ensures.named

pub returns-in_err-is_named-clause-no_memory : goal.returns-in_err-is_named-clause-no_memory
returns-in_err-is_named-clause-no_memory g c =
    let vs : _ = c.args.variants.now in
    let i : _ = c.loop-variant.variant-index in
    reported_here c.args.btf.now.strings c.args.name.now (map g.V.Variant.variant vs) i c.name_offset.result (g.V.Variant.variant c.variant-item.result) c.in_err-is_named.field-0.0 c.from_residual.result
    (handed c.from_residual.result c.in_err-is_named.field-0.0 c.from_residual.ensures.1)
    (slice_get-map g.V.Variant.variant vs i ∙ ap (option_map g.V.Variant.variant) (slice_get_read vs (length vs) i c.variant-item.result refl c.loop-variant-test.true c.variant-item.is))
    c.loop-variant.invariant c.name_offset.ensures c.in_err-is_named.ensures.no_memory

pub returns-then-branch-clause-found : goal.returns-then-branch-clause-found
returns-then-branch-clause-found g c =
    let vs : _ = c.args.variants.now in
    let i : _ = c.loop-variant.variant-index in
    found_here c.args.btf.now.strings c.args.name.now (map g.V.Variant.variant vs) i c.name_offset.result c.value.result (g.V.Variant.variant c.variant-item.result) c.in_ok-is_named.field-0
    (slice_get-map g.V.Variant.variant vs i ∙ ap (option_map g.V.Variant.variant) (slice_get_read vs (length vs) i c.variant-item.result refl c.loop-variant-test.true c.variant-item.is))
    c.loop-variant.invariant c.name_offset.ensures c.value.ensures c.if-branch.true c.in_ok-is_named.ensures.named

pub returns-then-branch-clause-no_memory : goal.returns-then-branch-clause-no_memory
returns-then-branch-clause-no_memory g c = λ _. returns-then-branch-clause-found g c

pub loop-variant-preserved : goal.loop-variant-preserved
loop-variant-preserved g c =
    let vs : _ = c.args.variants.now in
    let i : _ = c.loop-variant.variant-index in
    passed_here c.args.btf.now.strings c.args.name.now (map g.V.Variant.variant vs) i c.name_offset.result (g.V.Variant.variant c.variant-item.result) c.in_ok-is_named.field-0
    (slice_get-map g.V.Variant.variant vs i ∙ ap (option_map g.V.Variant.variant) (slice_get_read vs (length vs) i c.variant-item.result refl c.loop-variant-test.true c.variant-item.is))
    c.loop-variant.invariant c.name_offset.ensures c.if-branch.false c.in_ok-is_named.ensures.named
