use Rattle.std.proofs.Common.{◌≡◌, ◌∙◌, ◌++◌, ◌-◌, List, [], length, take, drop, inl, inr, sym, ap, subst, arith}
use Rattle.std.specs.Prelude.{map}
use Rattle.std.proofs.lemmas.List.{drop-map, length-drop, length-map, length-take, nil_from_length, take_all}
use Rattle.btf_view.specs.Forms.{Begins, words_in}
use Rattle.btf_view.specs.declared.forms.TypeWords.{TypeWords}
use Rattle.btf_view.proofs.Places.{as_many_places, places_after}
use Rattle.btf_view.proofs.filling.fill_types.Goals as goal

pub returns-in-Some : goal.returns-in-Some
returns-in-Some c records h =
    let first = c.args.first in
    let places = c.args.places.now in
    let rest : c.in-Some.rest.now ≡ drop first places = c.in-Some.ensures.lookup.0.2 ∙ take_all (length places - first) (drop first places) (omega (arith, length-drop first places)) in
    subst (λ (ws : List TypeWords). Begins (take (length c.args.out.now) ws) c.args.out.now c.fill_words.new.out c.fill_words.result) (sym (drop-map words_in first records))
    (c.fill_words.ensures (drop first records) (rw rest (places_after c.args.endianness c.args.types.now places records first h.are)))

pub returns-in-None : goal.returns-in-None
returns-in-None c records h =
    let items = map words_in records in
    let out = c.args.out.now in
    let many = as_many_places c.args.endianness c.args.types.now c.args.places.now records h.are in
    let none : take (length out) (drop c.args.first items) ≡ [] = nil_from_length (take (length out) (drop c.args.first items)) (elim c.in-None.ensures.lookup.0 [ inl x ↦ omega (arith, x, many, length-map records words_in, length-drop c.args.first items, length-take (length out) (drop c.args.first items)) | inr x ↦ omega (arith, x, many, length-map records words_in, length-drop c.args.first items, length-take (length out) (drop c.args.first items)) ]) in
    (ap length (sym none), ap (λ (ws : List TypeWords). ws ++ out) (sym none))
