use Rattle.std.proofs.Common.{refl, sym, ap, ◌∙◌, inl, inr, ◌+◌, suc, arith, ℕ}
use Rattle.std.specs.Prelude.{slice_get}
use Rattle.btf_model.specs.Refusal.{UnknownBtfType, MaximumTypeDepthReached}
use Rattle.btf_model.specs.Walk.{By, unmodified_in, after_modifier, walk_limit}
use Rattle.btf_model.proofs.Walks.{lead_on}
use Rattle.btf_view.proofs.Walking.{there, missing, as_many}
use Rattle.btf_view.proofs.walk.resolve_from.Goals as goal

pub returns-in_default : goal.returns-in_default
returns-in_default c records h =
    (UnknownBtfType c.loop.id, refl, inl (c.loop.counter, c.loop.id, c.loop-test.true, c.loop.invariant records h, ap (unmodified_in c.loop.id) (missing c.args.endianness c.args.types.now c.args.places.now records c.loop.id h c.in_default.ensures.lookup.0)))

pub returns-in_default-modified : goal.returns-in_default-modified
returns-in_default-modified c records h =
    let found = there c.args.endianness c.args.types.now c.args.places.now records c.loop.id c.in-Some.place.now h c.in-Some.ensures.lookup.0 c.in-Some.ensures.lookup.1 in
    inl (
      c.loop.counter,
      c.loop.id,
      c.loop-test.true,
      c.loop.invariant records h,
      ap (unmodified_in c.loop.id) found.1 ∙ ap (after_modifier c.loop.id) (sym (c.modified.ensures found.0 (c.raw_head_at-head.ensures found.0 found.2)) ∙ c.in_default-modified.is),
    )

pub loop-preserved : goal.loop-preserved
loop-preserved c records h =
    let found = there c.args.endianness c.args.types.now c.args.places.now records c.loop.id c.in-Some.place.now h c.in-Some.ensures.lookup.0 c.in-Some.ensures.lookup.1 in
    let find : _ = λ (at : ℕ). unmodified_in at (slice_get records at) in
    as_many (By find) (suc c.loop.counter) (c.loop.counter + 1) c.args.type_id c.in-Some-modified.next (omega arith)
    (lead_on (By find) c.loop.counter c.args.type_id c.loop.id c.in-Some-modified.next (c.loop.invariant records h)
    (ap (unmodified_in c.loop.id) found.1 ∙ ap (after_modifier c.loop.id) (sym (c.modified.ensures found.0 (c.raw_head_at-head.ensures found.0 found.2)) ∙ c.in-Some-modified.is)))

pub returns : goal.returns
returns c records h =
    let find : _ = λ (at : ℕ). unmodified_in at (slice_get records at) in
    (MaximumTypeDepthReached c.args.type_id, refl, inr (c.loop.id, as_many (By find) c.loop.counter walk_limit c.args.type_id c.loop.id (omega (arith, c.loop-test.false, c.loop.auto.counter-end)) (c.loop.invariant records h), refl))
