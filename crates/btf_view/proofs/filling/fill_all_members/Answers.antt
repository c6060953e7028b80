use Rattle.std.proofs.Common.{◌≡◌, ◌∙◌, ◌-◌, List, [], length, drop, inl, inr, sym, subst, arith}
use Rattle.std.proofs.lemmas.List.{length-drop, nil_from_length, take_all}
use Rattle.btf_model.specs.Record.{Record}
use Rattle.btf_view.specs.Items.{ListsMembers}
use Rattle.btf_view.proofs.Appended.{nothing_listed}
use Rattle.btf_view.proofs.Places.{as_many_places, places_after}
use Rattle.btf_view.proofs.filling.fill_all_members.Goals as goal

pub returns-in-Some : goal.returns-in-Some
returns-in-Some c records h =
    let first = c.args.first in
    let places = c.args.places.now in
    let rest : c.in-Some.rest.now ≡ drop first places = c.in-Some.ensures.lookup.0.2 ∙ take_all (length places - first) (drop first places) (omega (arith, length-drop first places)) in
    c.append_all.ensures (drop first records) (rw rest (places_after c.args.endianness c.args.types.now places records first h.are))

pub returns-in-None : goal.returns-in-None
returns-in-None c records h =
    let many = as_many_places c.args.endianness c.args.types.now c.args.places.now records h.are in
    let none : drop c.args.first records ≡ [] = nil_from_length (drop c.args.first records) (elim c.in-None.ensures.lookup.0 [ inl x ↦ omega (arith, x, many, length-drop c.args.first records) | inr x ↦ omega (arith, x, many, length-drop c.args.first records) ]) in
    subst (λ (rs : List Record). ListsMembers rs c.args.counts.now c.args.counts.now c.args.out.now c.args.out.now 0 0) (sym none) (nothing_listed c.args.counts.now c.args.out.now)
