use Rattle.std.proofs.Common.{length, refl, sym, arith}
use Rattle.std.proofs.lemmas.Bool.{ltb-false}
use Rattle.btf_view.proofs.Places.{as_many_places}
use Rattle.btf_view.proofs.Walking.{there}
use Rattle.btf_view.proofs.view.View.parts.Goals as goal

pub returns-in_default : goal.returns-in_default
returns-in_default c records h =
    let view = c.args.self.now in
    (omega (arith, as_many_places view.endianness view.types.now view.places.now records h.are, ltb-false c.args.type_id (length view.places.now) (sym c.in_default.ensures.lookup.0)), refl)

pub returns-in-Some-parts_at : goal.returns-in-Some-parts_at
returns-in-Some-parts_at c records h =
    let view = c.args.self.now in
    let found = there view.endianness view.types.now view.places.now records c.args.type_id c.in-Some.place.now h c.in-Some.ensures.lookup.0 c.in-Some.ensures.lookup.1 in
    (found.0, found.1, c.in-Some-parts_at.ensures found.0 found.2)

pub returns-in-None : goal.returns-in-None
returns-in-None c records h =
    let view = c.args.self.now in
    let found = there view.endianness view.types.now view.places.now records c.args.type_id c.in-Some.place.now h c.in-Some.ensures.lookup.0 c.in-Some.ensures.lookup.1 in
    absurd (c.in-None.ensures found.0 found.2)
