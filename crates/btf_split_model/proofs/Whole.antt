-- A record that was read has a spelling that is read as this record, and a table that was read can be written.
use Rattle.std.proofs.Common.{◌≡◌, ℕ, ◌+◌, ◌^◌, ◌<◌, ◌≤◌, List, [], ◌∷◌, length, take, drop, refl, sym, ap, subst, ◌∙◌, arith, inl, inr}
use Rattle.std.specs.Prelude.{All, map, min}
use Rattle.std.specs.List.{flat_map, AllByRecursion}
use Rattle.std.proofs.lemmas.Bool.{cases_lt}
use Rattle.std.proofs.lemmas.List.{length-map, length-take, length-drop, get_or_past}
use Rattle.btf_model.specs.declared.endianness.Endianness.{Endianness}
use Rattle.btf_model.specs.Record.{Kind, Unknown, Int, Ptr, Array, Struct, Union, Enum, Fwd, Typedef, Volatile, Const, Restrict, Func, FuncProto, Var, DataSec, Float, DeclTag, TypeTag, Enum64, Record}
use Rattle.btf_model.specs.Spelling.{HasKind, spell, kept, IsWhole}
use Rattle.btf_model.specs.Table.{Table, type_bytes}
use Rattle.btf_model.specs.Blob.{header_of, slice, word_at, type_section, AreRecords, IsTable, IsValid}
use Rattle.btf_model.proofs.Words.{IsBytes, IsBytes-take, IsBytes-drop, half_of_below, word_of_below}
use Rattle.btf_model.proofs.Records.{length-records}

pub bytes_from_all : (bytes : List ℕ) → All (λ byte. byte < 2 ^ 8) bytes → IsBytes bytes
bytes_from_all bytes h i =
    elim (cases_lt i (length bytes)) [
      | inl lt ↦ h i 0 lt
      | inr le ↦ rw (get_or_past bytes i 0 le) (omega arith)
    ]

capped_fits : (ws : List ℕ) → AllByRecursion (λ w. w < 2 ^ 32) ws → AllByRecursion (λ w. w < 2 ^ 32) (map (min 3) ws)
capped_fits [] h = tt
capped_fits (w ∷ ws) h = (omega (arith, h.0), capped_fits ws h.1)

capped_twice : (ws : List ℕ) → map (min 3) (map (min 3) ws) ≡ map (min 3) ws
capped_twice [] = refl
capped_twice (w ∷ ws) =
    let first : min 3 (min 3 w) ≡ min 3 w = omega arith in
    ap (λ (x : ℕ). x ∷ map (min 3) (map (min 3) ws)) first ∙ ap (λ (xs : List ℕ). min 3 w ∷ xs) (capped_twice ws)

-- reading retains all of what reading retains
abbrev Again : Kind → Record → Type 0
Again k r = HasKind k r × (kept k r ≡ r)

kept_again : (k : Kind) (w : Record) → HasKind k w → Again k (kept k w)
kept_again Unknown w h = (record { kind = refl; tail = refl; words = (omega arith, (omega arith, (omega arith, tt))) }, refl)
kept_again Fwd w h = (record { kind = h.kind; tail = h.tail; words = (h.words.0, (h.words.1.0, (omega arith, h.words.1.1.1))) }, refl)
kept_again Array w h = (record { kind = h.kind; tail = h.tail; words = (h.words.0, (h.words.1.0, (omega arith, h.words.1.1.1))) }, refl)
kept_again Var w h = (
  record { kind = h.kind; tail = length-map w.tail (min 3) ∙ h.tail; words = (h.words.0, (h.words.1.0, (h.words.1.1.0, capped_fits w.tail h.words.1.1.1))) },
  ap (λ (t : List ℕ). record w { tail = t }) (capped_twice w.tail),
)
kept_again Int w h = (h, refl)
kept_again Ptr w h = (h, refl)
kept_again Struct w h = (h, refl)
kept_again Union w h = (h, refl)
kept_again Enum w h = (h, refl)
kept_again Typedef w h = (h, refl)
kept_again Volatile w h = (h, refl)
kept_again Const w h = (h, refl)
kept_again Restrict w h = (h, refl)
kept_again Func w h = (h, refl)
kept_again FuncProto w h = (h, refl)
kept_again DataSec w h = (h, refl)
kept_again Float w h = (h, refl)
kept_again DeclTag w h = (h, refl)
kept_again TypeTag w h = (h, refl)
kept_again Enum64 w h = (h, refl)

-- records that were read are whole
pub read_whole : (order : Endianness) (bytes : List ℕ) (rs : List Record) → AreRecords order bytes rs → AllByRecursion IsWhole rs
read_whole order bytes [] h = tt
read_whole order bytes (r ∷ rs) h =
    let p = h.3 in
    let here : Again p.0 r = subst (Again p.0) (sym p.4) (kept_again p.0 p.1 p.2) in
    ((p.0, here.0, here.1), read_whole order h.1 rs h.4)

length-slice : (at len : ℕ) (bytes : List ℕ) → at + len ≤ length bytes → length (slice at len bytes) ≡ len
length-slice at len bytes le = omega (arith, length-take len (drop at bytes), length-drop at bytes)

word_at_below : (order : Endianness) (at : ℕ) (bytes : List ℕ) → IsBytes bytes → word_at order at bytes < 2 ^ 32
word_at_below order at bytes fits = word_of_below order (slice at 4 bytes) (IsBytes-take 4 (drop at bytes) (IsBytes-drop at bytes fits))

-- a table that was read can be written
pub read_valid : (order : Endianness) (bytes : List ℕ) (t : Table) → IsBytes bytes → IsTable order bytes t → IsValid t
read_valid order bytes t fits h =
    let header = header_of order bytes in
    let rs = h.records.0 in
    let spelled : type_bytes t ≡ flat_map (spell order) rs = ap (λ (xs : List Record). flat_map (spell t.order) (drop 1 xs)) h.records.1 ∙ ap (λ (o : Endianness). flat_map (spell o) rs) h.same_order in
    let types : length (type_bytes t) ≡ header.type_len = ap length spelled ∙ length-records order (type_section header bytes) rs h.records.2 ∙ length-slice (header.hdr_len + header.type_off) header.type_len bytes h.types_fit in
    let strings : length t.strings ≡ header.str_len = ap length h.strings ∙ length-slice (header.hdr_len + header.str_off) header.str_len bytes h.strings_fit in
    let magic : t.magic < 2 ^ 16 = rw h.magic (half_of_below order (take 2 bytes) (IsBytes-take 2 bytes fits)) in
    let version : t.version < 2 ^ 8 = rw h.version (fits 2) in
    let flags : t.flags < 2 ^ 8 = rw h.flags (fits 3) in
    record {
      magic = magic;
      version = version;
      flags = flags;
      strings = omega (arith, strings, word_at_below order 20 bytes fits);
      types = omega (arith, types, word_at_below order 12 bytes fits);
      records = (rs, h.records.1, read_whole order (type_section header bytes) rs h.records.2);
      fallbacks = ap length h.fallbacks ∙ length-map t.records _;
    }
