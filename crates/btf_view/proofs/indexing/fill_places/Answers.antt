use Rattle.std.proofs.Common.{◌≡◌, ◌-◌, length, take, drop, arith}
use Rattle.std.proofs.lemmas.List.{take_all, length-drop}
use Rattle.btf_view.proofs.Cuts.{filled_begins, filled_more, filled_ends, filled_whole}
use Rattle.btf_view.proofs.indexing.fill_places.Goals as goal

pub loop-at-init : goal.loop-at-init
loop-at-init c = rw c.put_place.ensures (filled_begins c.args.endianness c.args.types.now c.args.places.now)

pub returns-in-Err : goal.returns-in-Err
returns-in-Err c =
    let types = c.args.types.now in
    let at = c.loop-at.at in
    let rest-is : take (length types - at) (drop at types) ≡ drop at types = take_all (length types - at) (drop at types) (omega (arith, length-drop at types)) in
    filled_ends c.args.endianness types c.loop-at.places (take (length types - at) (drop at types)) c.loop-at.count at c.in-Err.error c.loop-at.invariant rest-is c.in-Err.ensures (omega (arith, c.loop-at-test.true))

pub loop-at-preserved : goal.loop-at-preserved
loop-at-preserved c =
    let types = c.args.types.now in
    let at = c.loop-at.at in
    let rest-is : take (length types - at) (drop at types) ≡ drop at types = take_all (length types - at) (drop at types) (omega (arith, length-drop at types)) in
    rw c.put_place-in-loop-at.ensures (filled_more c.args.endianness types c.loop-at.places (take (length types - at) (drop at types)) c.loop-at.count at c.in-Ok.len c.loop-at.invariant rest-is c.in-Ok.ensures)

pub returns : goal.returns
returns c = filled_whole c.args.endianness c.args.types.now c.loop-at.places c.loop-at.count c.loop-at.at c.loop-at.invariant (omega (arith, c.loop-at-test.false)) (omega (arith, c.requires)) (omega (arith, c.if-places-count.false))
