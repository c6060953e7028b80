-- The hint, for a blob that represents a table: a name beyond its own strings among the first records.
use Rattle.std.proofs.Common.{◌≡◌, ℕ, zero, suc, ◌<◌, ◌≤◌, List, [], ◌∷◌, length, Some, refl, sym, ap, subst, ◌∙◌, arith, inl, inr, ◌⊎◌}
use Rattle.std.specs.Prelude.{slice_get, ◌↔◌}
use Rattle.std.proofs.lemmas.List.{length-append}
use Rattle.std.proofs.lemmas.Option.{none-some, same_Some}
use Rattle.btf_model.specs.declared.endianness.Endianness.{Endianness}
use Rattle.btf_model.specs.Record.{Record, unknown}
use Rattle.btf_model.specs.Table.{Table}
use Rattle.btf_model.specs.Blob.{header_of, string_section, type_section, AreRecords, IsTable}
use Rattle.btf_model.proofs.Records.{same_record, spelling_is_long}
use Rattle.btf_split_model.specs.Hint.{NamesBeyond, LooksSplit, hint_records}

-- one of the first n records has a name at the limit or above it
abbrev Beyond : ℕ → ℕ → List Record → Type 0
Beyond limit n rs = (id : ℕ) × (r : Record) × (id < n) × (slice_get rs id ≡ Some r) × (limit ≤ r.name)

found_in : (order : Endianness) (limit n : ℕ) (bytes : List ℕ) (rs : List Record) → AreRecords order bytes rs → NamesBeyond order limit n bytes → Beyond limit n rs
found_in order limit zero bytes rs are h = absurd h
found_in order limit (suc n) bytes [] are h =
    let long = spelling_is_long order h.0 h.2 h.4 in
    absurd (omega (arith, long, ap length (sym are ∙ h.3), length-append h.0 h.1))
found_in order limit (suc n) bytes (q ∷ rs) are h =
    let same = same_record order h.0 are.0 h.2 q h.1 are.1 h.4 are.3 (sym h.3 ∙ are.2) in
    found h.5 (ap (λ (x : Record). x.name) same.record_is) (λ more. found_in order limit n are.1 rs are.4 (subst (NamesBeyond order limit n) same.rest more))
  where
    found : (limit ≤ h.2.name) ⊎ NamesBeyond order limit n h.1 → h.2.name ≡ q.name → (NamesBeyond order limit n h.1 → Beyond limit n rs) → Beyond limit (suc n) (q ∷ rs)
    found (inl le) same others = (zero, q, omega arith, refl, omega (arith, le, same))
    found (inr more) same others = (suc (others more).0, (others more).1, omega (arith, (others more).2), (others more).3, (others more).4)

names_in : (order : Endianness) (limit n : ℕ) (bytes : List ℕ) (rs : List Record) (id : ℕ) (r : Record) → AreRecords order bytes rs → id < n → slice_get rs id ≡ Some r → limit ≤ r.name → NamesBeyond order limit n bytes
names_in order limit zero bytes rs id r are lt is le = absurd (omega (arith, lt))
names_in order limit (suc n) bytes [] id r are lt is le = absurd (none-some r is)
names_in order limit (suc n) bytes (q ∷ rs) zero r are lt is le =
    (are.0, are.1, q, are.2, are.3, inl (omega (arith, le, ap (λ (x : Record). x.name) (same_Some q r is))))
names_in order limit (suc n) bytes (q ∷ rs) (suc id) r are lt is le =
    (are.0, are.1, q, are.2, are.3, inr (names_in order limit n are.1 rs id r are.4 (omega (arith, lt)) is le))

-- the record after id 0
after : (records rs : List Record) (id : ℕ) → records ≡ unknown ∷ rs → slice_get records (suc id) ≡ slice_get rs id
after records rs id is = ap (λ (xs : List Record). slice_get xs (suc id)) is

pub looks_by_names : (order : Endianness) (bytes : List ℕ) (t : Table) → IsTable order bytes t → LooksSplit order bytes ↔ ((id : ℕ) × (r : Record) × (id < hint_records) × (slice_get t.records (suc id) ≡ Some r) × (length t.strings ≤ r.name))
looks_by_names order bytes t h = (there, back)
  where
    strings : length (string_section (header_of order bytes) bytes) ≡ length t.strings
    strings = ap length (sym h.strings)

    there : LooksSplit order bytes → (id : ℕ) × (r : Record) × (id < hint_records) × (slice_get t.records (suc id) ≡ Some r) × (length t.strings ≤ r.name)
    there is =
        let p = found_in order (length (string_section (header_of order bytes) bytes)) hint_records (type_section (header_of order bytes) bytes) h.records.0 h.records.2 is.1 in
        (p.0, p.1, p.2, after t.records h.records.0 p.0 h.records.1 ∙ p.3, omega (arith, p.4, strings))

    back : (id : ℕ) × (r : Record) × (id < hint_records) × (slice_get t.records (suc id) ≡ Some r) × (length t.strings ≤ r.name) → LooksSplit order bytes
    back p = (
      record { header = h.header_fits; strings = h.strings_fit; types = h.types_fit },
      names_in order (length (string_section (header_of order bytes) bytes)) hint_records (type_section (header_of order bytes) bytes) h.records.0 p.0 p.1 h.records.2 p.2
          (sym (after t.records h.records.0 p.0 h.records.1) ∙ p.3) (omega (arith, p.4, strings)),
    )
