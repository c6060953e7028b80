-- Finding the places of the records of a type section, one after another.
use Rattle.std.proofs.Common.{◌≡◌, ℕ, ◌+◌, ◌*◌, ◌<◌, ◌^◌, ◌≤◌, List, [], ◌∷◌, ◌++◌, length, take, drop, Ok, Err, refl, sym, ap, subst, ◌∙◌, arith, set, inl, inr}
use Rattle.std.specs.Prelude.{◌≢◌}
use Rattle.std.proofs.lemmas.List.{length-append, length-drop, length-set, take_all, take_more_set, take-append-drop}
use Rattle.std.proofs.Math.Seq.{take-add}
use Rattle.btf_model.specs.declared.endianness.Endianness.{Endianness}
use Rattle.btf_model.specs.Record.{Record, unknown}
use Rattle.btf_model.specs.Blob.{AreRecords, ReadsFront}
use Rattle.btf_model.proofs.Records.{AreRecords-push}
use Rattle.btf_model.proofs.Blobs.{rest_from_none}
use Rattle.btf_plain.specs.declared.error.BtfError.{BtfError}
use Rattle.btf_view.specs.Places.{ArePlaces}
use Rattle.btf_view.specs.Index.{HasLength, FillsPlaces}
use Rattle.btf_view.specs.declared.indexing.Unindexed.TheVariants.{Refused}
use Rattle.btf_view.proofs.Places.{one_more_place}

-- the bytes before an offset are records, whose places are the first ones, if there are as many
pub record Filled (order : Endianness) (types places : List ℕ) (count at : ℕ) : Type 0 where
  pub records : List Record
  pub cut : AreRecords order (take at types) records
  pub are : count ≤ length places → ArePlaces order types (take count places) (unknown ∷ records)
  pub number : count ≡ length records + 1
  pub within : at ≤ length types
  pub few : 12 * count ≤ at + 12

-- the place of id 0
first_place : (order : Endianness) (types places : List ℕ) (place : ℕ) → length types ≤ place → 1 ≤ length (set places 0 place) → ArePlaces order types (take 1 (set places 0 place)) (unknown ∷ [])
first_place order types [] place past le = absurd (omega (arith, le))
first_place order types (p ∷ ps) place past le = (inr (past, refl), tt)

-- before the first record
pub filled_begins : (order : Endianness) (types places : List ℕ) → Filled order types (set places 0 (length types)) 1 0
filled_begins order types places = record {
  records = [];
  cut = refl;
  are = first_place order types places (length types) (omega arith);
  number = refl;
  within = omega arith;
  few = omega arith;
}

-- one more record
pub filled_more : (order : Endianness) (types places rest : List ℕ) (count at len : ℕ) → Filled order types places count at → rest ≡ drop at types → HasLength order rest (Ok len) → Filled order types (set places count at) (count + 1) (at + len)
filled_more order types places rest count at len h rest-is has =
    let r = has.2 in
    let back : take len (drop at types) ≡ take len rest = ap (take len) (sym rest-is) in
    let front : take (at + len) types ≡ take at types ++ take len rest = take-add at len types ∙ ap (λ (x : List ℕ). take at types ++ x) back in
    let read : ReadsFront order (drop at types) (Ok r) = (take len rest, drop len rest, sym rest-is ∙ sym (take-append-drop len rest), has.3) in
    record {
      records = h.records ++ r ∷ [];
      cut = subst (λ (x : List ℕ). AreRecords order x (h.records ++ r ∷ [])) (sym front) (AreRecords-push order (take at types) (take len rest) h.records r h.cut has.3);
      are = λ le.
          let lt : count < length places = omega (arith, le, length-set places count at) in
          subst (λ (x : List ℕ). ArePlaces order types x (unknown ∷ (h.records ++ r ∷ []))) (sym (take_more_set places count at lt)) (one_more_place order types (take count places) (unknown ∷ h.records) at r (h.are (omega (arith, lt))) (inl read));
      number = omega (arith, h.number, length-append h.records (r ∷ []));
      within = omega (arith, h.within, has.1, ap length rest-is, length-drop at types);
      few = omega (arith, h.few, has.0);
    }

-- no record begins the rest
pub filled_ends : (order : Endianness) (types places rest : List ℕ) (count at : ℕ) (e : BtfError) → Filled order types places count at → rest ≡ drop at types → HasLength order rest (Err e) → at < length types → FillsPlaces order types places (Err (Refused e))
filled_ends order types places rest count at e h rest-is has lt =
    let whole : types ≡ take at types ++ rest = sym (take-append-drop at types) ∙ ap (λ (x : List ℕ). take at types ++ x) (sym rest-is) in
    let some : rest ≢ [] = λ (none : rest ≡ []). omega (arith, ap length none, ap length rest-is, length-drop at types, lt) in
    (has.0, has.1, rest, rest_from_none order types (take at types) rest h.records whole h.cut has.2.0, some, has.2.1)

-- the records that are read are all of them
whole_cut : (order : Endianness) (types places : List ℕ) (count at : ℕ) → (h : Filled order types places count at) → length types ≤ at → AreRecords order types h.records
whole_cut order types places count at h le =
    subst (λ (x : List ℕ). AreRecords order x h.records) (take_all at types le) h.cut

-- all is read, and has a place
pub filled_whole : (order : Endianness) (types places : List ℕ) (count at : ℕ) → Filled order types places count at → length types ≤ at → length types < 2 ^ 32 → count ≤ length places → FillsPlaces order types places (Ok count)
filled_whole order types places count at h le short fits =
    (h.records, whole_cut order types places count at h le, fits, omega (arith, h.few, h.within, short), h.are fits)
