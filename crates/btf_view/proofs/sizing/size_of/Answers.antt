use Rattle.std.proofs.Common.{refl, sym, ap, ◌∙◌, inl, inr, ◌+◌, suc, arith, ℕ}
use Rattle.btf_model.specs.Refusal.{UnknownBtfType, UnexpectedBtfType, MaximumTypeDepthReached}
use Rattle.btf_model.specs.Walk.{By, Bytes, Times, NoExtent, GoesOn, Elements, size_in, walk_limit}
use Rattle.btf_model.proofs.Walks.{lead_on}
use Rattle.btf_view.proofs.Walking.{there, missing, as_many, one, find_size, size_found, times_fit, ends_with_bytes, ends_at_product}
use Rattle.btf_view.proofs.sizing.size_of.Goals as goal

pub returns-in_default : goal.returns-in_default
returns-in_default c records h =
    let at : Elements = record { count = c.loop.count; type = c.loop.id } in
    (UnknownBtfType c.loop.id, refl, inl (c.loop.counter, at, c.loop-test.true, c.loop.invariant records h, ap (size_in at) (missing c.args.endianness c.args.types.now c.args.places.now records c.loop.id h c.in_default.ensures.lookup.0)))

pub returns-in-Bytes : goal.returns-in-Bytes
returns-in-Bytes c records h =
    let at : Elements = record { count = c.loop.count; type = c.loop.id } in
    let found = there c.args.endianness c.args.types.now c.args.places.now records c.loop.id c.in-Some.place.now h c.in-Some.ensures.lookup.0 c.in-Some.ensures.lookup.1 in
    ends_with_bytes records c.loop.counter c.args.type_id c.in-Bytes.bytes at c.product.result c.loop-test.true (c.loop.invariant records h)
    (size_found records at found.0 (Bytes c.in-Bytes.bytes) found.1 (c.in-Bytes.ensures found.0 found.2))
    c.product.ensures

pub returns-in-Err : goal.returns-in-Err
returns-in-Err c records h =
    let at : Elements = record { count = c.loop.count; type = c.loop.id } in
    let found = there c.args.endianness c.args.types.now c.args.places.now records c.loop.id c.in-Some.place.now h c.in-Some.ensures.lookup.0 c.in-Some.ensures.lookup.1 in
    ends_at_product records c.loop.counter c.args.type_id c.in-Times.times c.in-Times.next at c.in-Err.error c.loop-test.true (c.loop.invariant records h)
    (size_found records at found.0 (Times c.in-Times.times c.in-Times.next) found.1 (c.in-Times.ensures found.0 found.2))
    c.in-Err.ensures.0 c.in-Err.ensures.1

pub returns-in-Nothing : goal.returns-in-Nothing
returns-in-Nothing c records h =
    let at : Elements = record { count = c.loop.count; type = c.loop.id } in
    let found = there c.args.endianness c.args.types.now c.args.places.now records c.loop.id c.in-Some.place.now h c.in-Some.ensures.lookup.0 c.in-Some.ensures.lookup.1 in
    (UnexpectedBtfType c.loop.id, refl, inl (c.loop.counter, at, c.loop-test.true, c.loop.invariant records h, size_found records at found.0 NoExtent found.1 (c.in-Nothing.ensures found.0 found.2)))

pub loop-preserved : goal.loop-preserved
loop-preserved c records h =
    let at : Elements = record { count = c.loop.count; type = c.loop.id } in
    let next : Elements = record { count = c.in-Ok.count; type = c.in-Times.next } in
    let found = there c.args.endianness c.args.types.now c.args.places.now records c.loop.id c.in-Some.place.now h c.in-Some.ensures.lookup.0 c.in-Some.ensures.lookup.1 in
    as_many (By (find_size records)) (suc c.loop.counter) (c.loop.counter + 1) (one c.args.type_id) next (omega arith)
    (lead_on (By (find_size records)) c.loop.counter (one c.args.type_id) at next (c.loop.invariant records h)
    (size_found records at found.0 (Times c.in-Times.times c.in-Times.next) found.1 (c.in-Times.ensures found.0 found.2)
    ∙ times_fit at c.in-Times.times c.in-Times.next c.in-Ok.ensures.1
    ∙ ap (λ (n : ℕ). GoesOn (record { count = n; type = c.in-Times.next })) (sym c.in-Ok.ensures.0)))

pub returns : goal.returns
returns c records h =
    let at : Elements = record { count = c.loop.count; type = c.loop.id } in
    (MaximumTypeDepthReached c.args.type_id, refl, inr (at, as_many (By (find_size records)) c.loop.counter walk_limit (one c.args.type_id) at (omega (arith, c.loop-test.false, c.loop.auto.counter-end)) (c.loop.invariant records h), refl))
