-- A type that has an alignment has it also in a table with further types.
use Rattle.std.proofs.Common.{◌≡◌, ℕ, List, ◌∷◌, ◌++◌, refl, sym, ap, subst, ◌∙◌, inl, inr, Some, None, Option, Result, Ok, Err, slice_get}
use Rattle.std.proofs.lemmas.Option.{slice_get_within}
use Rattle.btf_model.specs.Record.{Record}
use Rattle.btf_model.specs.Refusal.{Refusal}
use Rattle.btf_model.proofs.Blobs.{slice_get-append_left}
use Rattle.btf_layout_model.specs.Alignment.{AlignedMember, Shape, Fixed, SameAs, Composed, Unaligned, shape_of, shape_in, decided_by, Aligns, InPlace, HasAlignment}

abbrev IsOkOption : Option (Result ℕ Refusal) → Type 0
IsOkOption (Some (Err refusal)) = ⊥
IsOkOption o = Unit {0}

abbrev IsAligned : Shape → Type 0
IsAligned (Unaligned refusal) = ⊥
IsAligned s = Unit {0}

module _ (base more : List Record) where
  same_shape : (id : ℕ) (s : Shape) → IsAligned s → shape_in base id ≡ s → shape_in (base ++ more) id ≡ s
  same_shape id s is_aligned is = known (slice_get base id) refl where
    known : (o : Option Record) → slice_get base id ≡ o → shape_in (base ++ more) id ≡ s
    known (Some r) here = ap (shape_of id) (slice_get-append_left base more id (slice_get_within base id r here)) ∙ is
    known None here = absurd (subst IsAligned (sym is ∙ ap (shape_of id) here) is_aligned)

  abbrev Stays : ℕ → Result ℕ Refusal → Type 0
  Stays id (Ok n) = Aligns (base ++ more) id (Ok n)
  Stays id (Err refusal) = Unit {0}

  -- a member that decides an alignment has an alignment
  stops_again : (id size largest : ℕ) (before after : List AlignedMember) (m : AlignedMember) (r a : Result ℕ Refusal) → shape_in (base ++ more) id ≡ Composed size (before ++ m ∷ after) → InPlace (base ++ more) before largest → Stays m.type r → decided_by m r ≡ Some a → Stays id a
  stops_again id size largest before after m r (Err refusal) is places h stops = tt
  stops_again id size largest before after m (Ok n) (Ok k) is places h stops = Aligns.decided id size largest before after m (Ok n) (Ok k) is places h stops
  stops_again id size largest before after m (Err refusal) (Ok k) is places h stops = cc

  same_stays : (id type : ℕ) (a : Result ℕ Refusal) → shape_in base id ≡ SameAs type → Stays type a → Stays id a
  same_stays id type (Ok n) is h = Aligns.same_as id type (Ok n) (same_shape id (SameAs type) tt is) h
  same_stays id type (Err refusal) is h = tt

  mutual
    stays : (id : ℕ) (a : Result ℕ Refusal) → Aligns base id a → Stays id a
    stays id a (Aligns.unaligned _ refusal is) = tt
    stays id a (Aligns.fixed _ n is) = Aligns.fixed id n (same_shape id (Fixed n) tt is)
    stays id a (Aligns.same_as _ type _ is h) = same_stays id type a is (stays type a h)
    stays id a (Aligns.decided _ size largest before after m r _ is places h stops) =
        stops_again id size largest before after m r a (same_shape id (Composed size (before ++ m ∷ after)) tt is) (places_stay before largest places) (stays m.type r h) stops
    stays id a (Aligns.all _ size largest members is places) =
        Aligns.all id size largest members (same_shape id (Composed size members) tt is) (places_stay members largest places)

    places_stay : (members : List AlignedMember) (largest : ℕ) → InPlace base members largest → InPlace (base ++ more) members largest
    places_stay members largest (InPlace.none) = InPlace.none
    places_stay members largest (InPlace.also m rest a k h goes places) = InPlace.also m rest a k (stays m.type (Ok a) h) goes (places_stay rest k places)

  pub alignment_stays : (id n : ℕ) → HasAlignment base id (Ok n) → HasAlignment (base ++ more) id (Ok n)
  alignment_stays id n (inl h) = inl (stays id (Ok n) h)
  alignment_stays id n (inr h) = cc
