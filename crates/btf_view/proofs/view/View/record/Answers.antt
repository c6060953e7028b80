use Rattle.std.proofs.Common.{◌≡◌, ◌∙◌, length, Some, refl, sym, arith}
use Rattle.std.specs.Prelude.{slice_get}
use Rattle.std.proofs.lemmas.Option.{slice_get_past, slice_get_read}
use Rattle.btf_view.proofs.Places.{as_many_places, placed}
use Rattle.btf_view.proofs.view.View.record.Goals as goal

pub returns-in-Some : goal.returns-in-Some
returns-in-Some c records shown =
    let v = c.args.self.now in
    let here : slice_get v.places.now c.args.type_id ≡ Some c.in-Some.place.now = slice_get_read v.places.now (length v.places.now) c.args.type_id c.in-Some.place.now refl c.in-Some.ensures.lookup.3.0 c.in-Some.ensures.lookup.1 in
    let at = placed v.endianness v.types.now v.places.now records c.args.type_id c.in-Some.place.now shown.are here in
    c.at.ensures at.0 at.2 ∙ sym at.1

pub returns-in-None : goal.returns-in-None
returns-in-None c records shown =
    let v = c.args.self.now in
    sym (slice_get_past records c.args.type_id (omega (arith, as_many_places v.endianness v.types.now v.places.now records shown.are, c.in-None.ensures.lookup.3)))
