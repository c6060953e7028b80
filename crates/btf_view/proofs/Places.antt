-- Looking up the places of records.
use Rattle.std.proofs.Common.{◌≡◌, ℕ, zero, suc, List, [], ◌∷◌, ◌++◌, length, drop, Some, slice_get, refl, ap, subst, arith}
use Rattle.std.proofs.lemmas.Option.{same_Some, slice_get_within}
use Rattle.btf_model.specs.declared.endianness.Endianness.{Endianness}
use Rattle.btf_model.specs.Record.{Record}
use Rattle.btf_view.specs.Places.{IsRecordAt, ArePlaces}

-- one place for each record
pub as_many_places : (order : Endianness) (types places : List ℕ) (rs : List Record) → ArePlaces order types places rs → length places ≡ length rs
as_many_places order types [] [] h = refl
as_many_places order types (p ∷ ps) (r ∷ rs) h = ap suc (as_many_places order types ps rs h.1)
as_many_places order types [] (r ∷ rs) h = absurd h
as_many_places order types (p ∷ ps) [] h = absurd h

-- one more
pub one_more_place : (order : Endianness) (types places : List ℕ) (rs : List Record) (p : ℕ) (r : Record) → ArePlaces order types places rs → IsRecordAt order types p r → ArePlaces order types (places ++ p ∷ []) (rs ++ r ∷ [])
one_more_place order types [] [] p r h is = (is, tt)
one_more_place order types (q ∷ ps) (s ∷ rs) p r h is = (h.0, one_more_place order types ps rs p r h.1 is)
one_more_place order types [] (s ∷ rs) p r h is = absurd h
one_more_place order types (q ∷ ps) [] p r h is = absurd h

-- the record at a place
pub placed : (order : Endianness) (types places : List ℕ) (rs : List Record) (id p : ℕ) → ArePlaces order types places rs → slice_get places id ≡ Some p → (r : Record) × (slice_get rs id ≡ Some r) × IsRecordAt order types p r
placed order types [] [] id p h is = absurd (omega (arith, slice_get_within [] id p is))
placed order types (q ∷ ps) (r ∷ rs) zero p h is = (r, refl, subst (λ (x : ℕ). IsRecordAt order types x r) (same_Some q p is) h.0)
placed order types (q ∷ ps) (r ∷ rs) (suc id) p h is = placed order types ps rs id p h.1 is
placed order types [] (r ∷ rs) id p h is = absurd h
placed order types (q ∷ ps) [] id p h is = absurd h

-- the places from an id on
pub places_after : (order : Endianness) (types places : List ℕ) (rs : List Record) (n : ℕ) → ArePlaces order types places rs → ArePlaces order types (drop n places) (drop n rs)
places_after order types places rs zero h = h
places_after order types [] [] (suc n) h = h
places_after order types (p ∷ ps) (r ∷ rs) (suc n) h = places_after order types ps rs n h.1
places_after order types [] (r ∷ rs) (suc n) h = absurd h
places_after order types (p ∷ ps) [] (suc n) h = absurd h
