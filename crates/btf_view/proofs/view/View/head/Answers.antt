use Rattle.std.proofs.Common.{length, refl, sym, arith}
use Rattle.std.proofs.lemmas.Bool.{ltb-true, ltb-false}
use Rattle.std.proofs.lemmas.Option.{slice_get_read}
use Rattle.btf_view.proofs.Places.{placed, as_many_places}
use Rattle.btf_view.proofs.view.View.head.Goals as goal

pub returns-in-Some : goal.returns-in-Some
returns-in-Some c records shows =
    let view = c.args.self.now in
    let there = slice_get_read view.places.now (length view.places.now) c.args.type_id c.in-Some.place.now refl (ltb-true _ _ (sym c.in-Some.ensures.lookup.0)) c.in-Some.ensures.lookup.1 in
    let found = placed view.endianness view.types.now view.places.now records c.args.type_id c.in-Some.place.now shows.are there in
    (found.0, found.1, c.head_at.ensures found.0 found.2)

pub returns-in-None : goal.returns-in-None
returns-in-None c records shows =
    (omega (arith, as_many_places c.args.self.now.endianness c.args.self.now.types.now c.args.self.now.places.now records shows.are, ltb-false _ _ (sym c.in-None.ensures.lookup.0)), refl)
