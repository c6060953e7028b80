-- Blobs: their sections, and bytes that are a blob.
use Rattle.std.proofs.Common.{◌≡◌, ℕ, ◌≤◌, List, [], ◌∷◌, ◌++◌, length, get_or, take, drop, refl, sym, ap, ◌∙◌, append_assoc, arith}
use Rattle.std.specs.Prelude.{slice_index}
use Rattle.std.specs.List.{flat_map}
use Rattle.std.proofs.Math.Seq.{take-add}
use Rattle.std.proofs.lemmas.List.{length-take, drop_more}
use Rattle.btf_model.specs.declared.endianness.Endianness.{Endianness}
use Rattle.btf_model.specs.declared.endianness.Endianness.TheVariants.{Little, Big}
use Rattle.btf_model.specs.Word.{word, half}
use Rattle.btf_model.specs.Record.{Record}
use Rattle.btf_model.specs.Spelling.{spell}
use Rattle.btf_model.specs.Table.{Table, type_bytes}
use Rattle.btf_model.specs.Blob.{Header, header_of, header_bytes, canon_header, type_section, IsTable}
use Rattle.btf_model.proofs.Words.{IsBytes, IsBytes-take, half-half_of}
use Rattle.btf_model.proofs.Records.{length-records}
use Rattle.btf_split.specs.Blob.{written_header}

-- the type section is as long as the records that are read from it
pub types_len : (order : Endianness) (bytes : List ℕ) (t : Table) → IsTable order bytes t → length (type_section (header_of order bytes) bytes) ≡ length (type_bytes t)
types_len order bytes t h =
    let spelled : type_bytes t ≡ flat_map (spell order) h.records.0 = ap (λ (xs : List Record). flat_map (spell t.order) (drop 1 xs)) h.records.1 ∙ ap (λ (o : Endianness). flat_map (spell o) h.records.0) h.same_order in
    sym (ap length spelled ∙ length-records order (type_section (header_of order bytes) bytes) h.records.0 h.records.2)

-- ---- headers

-- the first four bytes of a blob are magic, version and flags
pub front_is : (order : Endianness) (bytes : List ℕ) (t : Table) → IsBytes bytes → IsTable order bytes t → take 4 bytes ≡ half order t.magic ++ t.version ∷ t.flags ∷ []
front_is order bytes t fits h =
    let long : 24 ≤ length bytes = h.header_fits in
    let magic : half order t.magic ≡ take 2 bytes = ap (half order) h.magic ∙ half-half_of order (take 2 bytes) (omega (arith, length-take 2 bytes)) (IsBytes-take 2 bytes fits) in
    let behind : take 2 (drop 2 bytes) ≡ slice_index bytes 2 ∷ slice_index bytes 3 ∷ [] = ap (take 2) (drop_more bytes 2 0 (omega arith) ∙ ap (λ (b : List ℕ). get_or bytes 2 0 ∷ b) (drop_more bytes 3 0 (omega arith))) in
    let named : slice_index bytes 2 ∷ slice_index bytes 3 ∷ [] ≡ t.version ∷ t.flags ∷ [] = λ i. sym h.version i ∷ sym h.flags i ∷ [] in
    take-add 2 2 bytes ∙ (λ i. sym magic i ++ (behind ∙ named) i)

-- a header that is written after the first four bytes of a blob
pub header_is : (order : Endianness) (front : List ℕ) (t : Table) (types strings : ℕ) → take 4 front ≡ half order t.magic ++ t.version ∷ t.flags ∷ [] → types ≡ length (type_bytes t) → strings ≡ length t.strings → written_header order front types strings ≡ header_bytes order (canon_header t)
header_is order front t types strings is a b =
    let words : ℕ → ℕ → List ℕ = λ x y. flat_map (word order) (24 ∷ 0 ∷ x ∷ x ∷ y ∷ []) in
    ap (λ (f : List ℕ). f ++ words types strings) is
    ∙ append_assoc (half order t.magic) (t.version ∷ t.flags ∷ []) (words types strings)
    ∙ (λ i. half order t.magic ++ t.version ∷ t.flags ∷ words (a i) (b i))

length-header : (order : Endianness) (h : Header) → length (header_bytes order h) ≡ 24
length-header Little h = refl
length-header Big h = refl
