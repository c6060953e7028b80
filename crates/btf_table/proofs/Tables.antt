-- The invariant of a `Btf`, and that the bytes determine the result of parsing.
use Rattle.std.proofs.Common.{◌≡◌, ℕ, ◌+◌, ◌*◌, ◌^◌, ◌<◌, ◌≤◌, Bool, true, false, List, [], ◌∷◌, ◌++◌, length, drop, Option, None, Some, Result, Ok, Err, refl, sym, ap, subst, ◌∙◌, arith, Vec, Global}
use Rattle.std.specs.Prelude.{map, nat_le, if◌then◌else◌}
use Rattle.std.specs.List.{flat_map, AllByRecursion}
use Rattle.std.proofs.lemmas.Bool.{le-leb, leb-true}
use Rattle.std.proofs.lemmas.List.{append-nil, map-append, length-append, length-map, length-take, length-drop, drop-map}
use Rattle.std.proofs.lemmas.List.Concat.{flat_map-append}
use Rattle.std.proofs.lemmas.Option.{IfSome_then, none-some}
use Rattle.btf_model.specs.declared.endianness.Endianness.{Endianness}
use Rattle.btf_model.specs.Record.{Record, Kind, kind_of, unknown}
use Rattle.btf_model.specs.Refusal.{Refusal, InvalidTypeInfo}
use Rattle.btf_model.specs.Spelling.{spell, IsWhole}
use Rattle.btf_model.specs.Table.{Table, type_bytes, section_limit, type_place}
use Rattle.btf_model.specs.Blob as blob
use Rattle.btf_model.specs.Blob.{header_of, slice, AreRecords, IsTable, IsRefusal, IsValid, Parses}
use Rattle.btf_model.proofs.Words.{IsBytes, IsBytes-take, IsBytes-drop, half_of_below, word_of_below}
use Rattle.btf_model.proofs.Records.{length-spell, length-records, records_are_long}
use Rattle.btf_model.proofs.Blobs.{same_table, same_refusal, table_not_refused}
use Rattle.btf_plain.specs.declared.error.BtfError.{BtfError}
use Rattle.btf_plain.specs.Error.{MeetsOrNoMemory, IsOrNoMemory, refusal_of}
use Rattle.btf_rewrite_model.specs.Checks.{fits}
use Rattle.btf_table.specs.Checked.{checked}
use Rattle.btf_table.proofs.Checks.{checked_ok}
use Rattle.btf_records.specs.BtfType.{record_of, fallback_of}
use Rattle.btf_records.specs.declared.btf_type.BtfType.{BtfType}
use Rattle.btf_table.specs.declared.table.Btf.{Btf}
use Rattle.btf_table.specs.declared.table.Btf.TheInside.{Inside}
use Rattle.btf_table.specs.declared.table.header.Header.{Header}
use Rattle.btf_table.specs.Denied.{AllHaveKinds}
use Rattle.btf_table.proofs.KnownKinds.{one_more_kind}
use Rattle.btf_table.specs.Header.{model_header}
use Rattle.btf_table.specs.Btf.{table_of, IsConsistent}

-- the type section without id 0
types_after : (order : Endianness) (types : List BtfType) (rs : List Record) → map record_of types ≡ unknown ∷ rs → flat_map (spell order) (drop 1 (map record_of types)) ≡ flat_map (spell order) rs
types_after order types rs h = ap (λ (xs : List Record). flat_map (spell order) (drop 1 xs)) h

-- ids have 32 bits each record except the first has at least 12 bytes
pub long_types : (b : Inside) → IsConsistent b → 12 * length b.types.items ≤ length (type_bytes (table_of b)) + 12
long_types b h =
    let rs = h.first.0 in
    omega (arith, ap length (types_after b.endianness b.types.items rs h.first.1), records_are_long b.endianness rs, ap length h.first.1, length-map b.types.items record_of)

pub few_types : (b : Inside) → IsConsistent b → length b.types.items < 2 ^ 32
few_types b h =
    let rs = h.first.0 in
    omega (arith, h.limit, h.types, ap length (types_after b.endianness b.types.items rs h.first.1), records_are_long b.endianness rs, ap length h.first.1, length-map b.types.items record_of)

-- the invariant holds with one more type
pub consistent_push : (b : Inside) (types : Vec BtfType Global) (t : BtfType) (size : ℕ) (k : Kind) → IsConsistent b → kind_of (record_of t).info ≡ Some k → types.items ≡ b.types.items ++ t ∷ [] → size ≡ 12 + 4 * length (record_of t).tail → b.type_len + size ≤ section_limit → IsConsistent (record b { types = types; type_len = b.type_len + size })
consistent_push b types t size k h kind is size-is fits =
    let order = b.endianness in
    let rs = h.first.0 in
    let r = record_of t in
    let records : map record_of types.items ≡ unknown ∷ (rs ++ r ∷ []) = ap (map record_of) is ∙ map-append record_of b.types.items (t ∷ []) ∙ ap (λ (xs : List Record). xs ++ r ∷ []) h.first.1 in
    let spelled : flat_map (spell order) (drop 1 (map record_of types.items)) ≡ flat_map (spell order) rs ++ (spell order r ++ []) = types_after order types.items (rs ++ r ∷ []) records ∙ flat_map-append (spell order) rs (r ∷ []) in
    record {
      magic = h.magic;
      version = h.version;
      flags = h.flags;
      limit = fits;
      strings = h.strings;
      types = omega (arith, h.types, size-is, ap length spelled, length-append (flat_map (spell order) rs) (spell order r ++ []), ap length (append-nil (spell order r)), length-spell order r, ap length (types_after order b.types.items rs h.first.1));
      first = (rs ++ r ∷ [], records);
      kinds = subst AllHaveKinds (sym (ap (map record_of) is ∙ map-append record_of b.types.items (t ∷ []))) (one_more_kind (map record_of b.types.items) r k h.kinds kind);
    }

-- the type section that was read has the length that the header gives
pub read_len : (order : Endianness) (bytes : List ℕ) (types : List BtfType) (rs : List Record) → map record_of types ≡ unknown ∷ rs → AreRecords order bytes rs → length bytes ≡ length (flat_map (spell order) (drop 1 (map record_of types)))
read_len order bytes types rs is h = sym (ap length (types_after order types rs is) ∙ length-records order bytes rs h)

-- a table with the invariant can be written
pub consistent_is_valid : (b : Inside) → IsConsistent b → AllByRecursion IsWhole (map record_of (drop 1 b.types.items)) → IsValid (table_of b)
consistent_is_valid b h whole =
    let rs = h.first.0 in
    let behind : map record_of (drop 1 b.types.items) ≡ rs = sym (drop-map record_of 1 b.types.items) ∙ ap (drop 1) h.first.1 in
    record {
      magic = h.magic;
      version = h.version;
      flags = h.flags;
      strings = h.strings;
      types = omega (arith, h.limit, h.types);
      records = (rs, h.first.1, subst (AllByRecursion IsWhole) behind whole);
      fallbacks = length-map b.types.items fallback_of ∙ sym (length-map b.types.items record_of);
    }

-- bytes that represent a table are parsed as this table
pub gives_table : (order : Endianness) (bytes : List ℕ) (r : Result Btf BtfError) → MeetsOrNoMemory (λ b. b) r (Parses order bytes) → (t : Table) → IsTable order bytes t → IsOrNoMemory (λ b. b) r (Ok t)
gives_table order bytes (Ok b) h t p = ap (λ (x : Table). Ok x) (same_table order bytes b t h p)
gives_table order bytes (Err e) h t p = IfSome_then (refusal_of e) h (λ f q. absurd (table_not_refused order bytes t f p q))

-- bytes that are refused are refused for their one reason
pub gives_refusal : (order : Endianness) (bytes : List ℕ) (r : Result Btf BtfError) → MeetsOrNoMemory (λ b. b) r (Parses order bytes) → (f : Refusal) → IsRefusal order bytes f → IsOrNoMemory (λ b. b) r (Err f)
gives_refusal order bytes (Ok b) h f p = absurd (table_not_refused order bytes b f h p)
gives_refusal order bytes (Err e) h f p = IfSome_then (refusal_of e) h (λ g q. ap (λ (x : Refusal). Err x) (same_refusal order bytes g f q p))

-- ---- headers

-- the parts of a header fit their fields
pub record HeaderFits (h : blob.Header) : Type 0 where
  pub magic : h.magic < 2 ^ 16
  pub version : h.version < 2 ^ 8
  pub flags : h.flags < 2 ^ 8
  pub type_len : h.type_len ≤ section_limit
  pub str_len : h.str_len ≤ section_limit

header_of_fits : (order : Endianness) (bytes : List ℕ) → IsBytes bytes → HeaderFits (header_of order bytes)
header_of_fits order bytes fits = record {
  magic = half_of_below order (slice 0 2 bytes) (IsBytes-take 2 (drop 0 bytes) (IsBytes-drop 0 bytes fits));
  version = fits 2;
  flags = fits 3;
  type_len = omega (arith, word_of_below order (slice 12 4 bytes) (IsBytes-take 4 (drop 12 bytes) (IsBytes-drop 12 bytes fits)));
  str_len = omega (arith, word_of_below order (slice 20 4 bytes) (IsBytes-take 4 (drop 20 bytes) (IsBytes-drop 20 bytes fits)));
}

pub read_header_fits : (order : Endianness) (bytes : List ℕ) (h : Header) → IsBytes bytes → model_header h ≡ header_of order bytes → HeaderFits (model_header h)
read_header_fits order bytes h fits is = subst HeaderFits (sym is) (header_of_fits order bytes fits)

pub length-slice : (at len : ℕ) (bytes : List ℕ) → at + len ≤ length bytes → length (slice at len bytes) ≡ len
length-slice at len bytes le = omega (arith, length-take len (drop at bytes), length-drop at bytes)

-- ---- whether a type fits

-- the test whether a record of this length fits decides the place of a type
pub place_checked : (t : Table) (r : Record) (size : ℕ) → size ≡ 12 + 4 * length r.tail → type_place r t ≡ checked (fits (length (type_bytes t)) size) (length t.records)
place_checked t r size is =
    let used : ℕ = length (type_bytes t) in
    let len : length (spell t.order r) ≡ size = length-spell t.order r ∙ sym is in
    ap (λ (n : ℕ). if nat_le (used + n) section_limit then Ok (length t.records) else Err InvalidTypeInfo) len
    ∙ elim (nat_le (used + size) section_limit) as (λ (b : Bool). (if b then Ok (length t.records) else Err InvalidTypeInfo) ≡ checked (if b then None else Some InvalidTypeInfo) (length t.records)) [ true ↦ refl | false ↦ refl ]

-- if the test passes, the record fits
pub fitting : (used bytes : ℕ) → ◌≡◌ {A = Result (Unit {0}) Refusal} (Ok tt) (checked (fits used bytes) tt) → used + bytes ≤ section_limit
fitting used bytes is =
    leb-true (used + bytes) section_limit
    (elim (nat_le (used + bytes) section_limit) as (λ (b : Bool). ◌≡◌ {A = Option Refusal} (if b then None else Some InvalidTypeInfo) None → b ≡ true)
    [ true ↦ λ none. refl | false ↦ λ none. absurd (none-some InvalidTypeInfo (sym none)) ]
    (checked_ok {X = Unit {0}} (fits used bytes) tt tt is).0)

pub has_room : (t : Table) (r : Record) (size id : ℕ) → size ≡ 12 + 4 * length r.tail → length (type_bytes t) + size ≤ section_limit → id ≡ length t.records → Ok id ≡ type_place r t
has_room t r size id is le id-is = rw (le-leb (length (type_bytes t) + length (spell t.order r)) section_limit (omega (arith, length-spell t.order r)), id-is) refl
