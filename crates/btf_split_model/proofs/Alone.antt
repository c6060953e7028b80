-- Over a base without types and strings, a split table is a table without a base.
use Rattle.std.proofs.Common.{◌≡◌, ℕ, List, [], ◌∷◌, ◌++◌, drop, sym, ap, subst, ◌∙◌}
use Rattle.std.specs.Prelude.{All, ◌<◌, ◌^◌, ◌↔◌}
use Rattle.btf_model.specs.declared.endianness.Endianness.{Endianness}
use Rattle.btf_model.specs.Record.{Record, unknown}
use Rattle.btf_model.specs.Table.{Table}
use Rattle.btf_model.specs.Blob.{IsTable, IsValid}
use Rattle.btf_split_model.specs.Split.{with_sections, joined, IsJoined}
use Rattle.btf_split_model.proofs.Whole.{bytes_from_all, read_valid}

-- the joined table is the table that was read
joined_alone : (order : Endianness) (base own : Table) (bytes : List ℕ) → base.records ≡ unknown ∷ [] → base.strings ≡ [] → IsTable order bytes own → joined base own ≡ own
joined_alone order base own bytes records-are strings-are h =
    let strings : base.strings ++ own.strings ≡ own.strings = ap (λ (xs : List ℕ). xs ++ own.strings) strings-are in
    let first : unknown ∷ drop 1 own.records ≡ own.records = ap (λ (xs : List Record). unknown ∷ drop 1 xs) h.records.1 ∙ sym h.records.1 in
    let records : base.records ++ drop 1 own.records ≡ own.records = ap (λ (xs : List Record). xs ++ drop 1 own.records) records-are ∙ first in
    (λ i. with_sections (strings i) (records i) own) ∙ (λ i. record own { fallbacks = sym h.fallbacks i })

pub alone : (order : Endianness) (base : Table) (bytes : List ℕ) (t : Table) → All (λ byte. byte < 2 ^ 8) bytes → base.records ≡ unknown ∷ [] → base.strings ≡ [] → IsJoined order base bytes t ↔ IsTable order bytes t
alone order base bytes t fits records-are strings-are = (there, back)
  where
    there : IsJoined order base bytes t → IsTable order bytes t
    there h = subst (λ (u : Table). IsTable order bytes u) (sym (h.whole ∙ joined_alone order base h.own bytes records-are strings-are h.blob)) h.blob

    back : IsTable order bytes t → IsJoined order base bytes t
    back h =
        let v : IsValid t = read_valid order bytes t (bytes_from_all bytes fits) h in
        record { own = t; blob = h; whole = sym (joined_alone order base t bytes records-are strings-are h); strings = v.strings; types = v.types }
