-- When a blob is written as it was read.
use Rattle.std.proofs.Common.{◌≡◌, ℕ, ◌+◌, ◌^◌, ◌<◌, ◌≤◌, List, [], ◌∷◌, ◌++◌, length, get_or, take, drop, refl, sym, ap, subst, ◌∙◌, arith}
use Rattle.std.specs.Prelude.{map, min, All, slice_index, ◌↔◌}
use Rattle.std.proofs.Common.{inl, inr}
use Rattle.std.proofs.lemmas.Bool.{cases_lt}
use Rattle.std.specs.List.{flat_map, AllByRecursion}
use Rattle.std.proofs.Math.Seq.{take-add}
use Rattle.std.proofs.lemmas.List.{length-take, length-drop, length-map, drop-drop, drop_more, take-append-drop, take_all, get_or_past}
use Rattle.btf_model.specs.Word.{word, word_of, words_at}
use Rattle.btf_model.specs.declared.endianness.Endianness.{Endianness}
use Rattle.btf_model.specs.Record.{Kind, Unknown, Int, Ptr, Array, Struct, Union, Enum, Fwd, Typedef, Volatile, Const, Restrict, Func, FuncProto, Var, DataSec, Float, DeclTag, TypeTag, Enum64, Record}
use Rattle.btf_model.specs.Spelling.{spell, HasKind, kept, IsWhole}
use Rattle.btf_model.specs.Table.{Table, type_bytes}
use Rattle.btf_model.specs.Blob.{Header, header_len, header_of, header_bytes, canon, canon_header, slice, AreRecords, IsTable, strings_end, type_section}
use Rattle.btf_model.specs.Laws.{IsWrittenAsRead, IsUsual}
use Rattle.btf_model.proofs.Words.{IsBytes, IsBytes-take, IsBytes-drop, half-half_of, spelled-words_at, half_of_below, word_of_below}
use Rattle.btf_model.proofs.Records.{length-records, whole_are_records, same_records}
use Rattle.btf_model.proofs.Blobs.{header_of-header_bytes, length-canon, canon_types, regrouped}

-- ---- retained words are written as they were read

capped_fits : (ws : List ℕ) → AllByRecursion (λ w. w < 2 ^ 32) ws → AllByRecursion (λ w. w < 2 ^ 32) (map (min 3) ws)
capped_fits [] h = tt
capped_fits (w ∷ ws) h = (omega (arith, h.0), capped_fits ws h.1)

capped_is_small : (ws : List ℕ) → AllByRecursion (λ w. w ≤ 3) (map (min 3) ws)
capped_is_small [] = tt
capped_is_small (w ∷ ws) = (omega arith, capped_is_small ws)

small_stays : (ws : List ℕ) → AllByRecursion (λ w. w ≤ 3) ws → map (min 3) ws ≡ ws
small_stays [] h = refl
small_stays (w ∷ ws) h =
    let first : min 3 w ≡ w = omega (arith, h.0) in
    ap (λ (x : ℕ). x ∷ map (min 3) ws) first ∙ ap (λ (xs : List ℕ). w ∷ xs) (small_stays ws h.1)

abbrev Both : Kind → Record → Type 0
Both k r = HasKind k r × IsWrittenAsRead k r

kept_both : (k : Kind) (w : Record) → HasKind k w → Both k (kept k w)
kept_both Unknown w h = (record { kind = refl; tail = refl; words = (omega arith, (omega arith, (omega arith, tt))) }, refl)
kept_both Fwd w h = (record { kind = h.kind; tail = h.tail; words = (h.words.0, (h.words.1.0, (omega arith, h.words.1.1.1))) }, refl)
kept_both Array w h = (record { kind = h.kind; tail = h.tail; words = (h.words.0, (h.words.1.0, (omega arith, h.words.1.1.1))) }, refl)
kept_both Var w h = (record { kind = h.kind; tail = length-map w.tail (min 3) ∙ h.tail; words = (h.words.0, (h.words.1.0, (h.words.1.1.0, capped_fits w.tail h.words.1.1.1))) }, capped_is_small w.tail)
kept_both Int w h = (h, tt)
kept_both Ptr w h = (h, tt)
kept_both Struct w h = (h, tt)
kept_both Union w h = (h, tt)
kept_both Enum w h = (h, tt)
kept_both Typedef w h = (h, tt)
kept_both Volatile w h = (h, tt)
kept_both Const w h = (h, tt)
kept_both Restrict w h = (h, tt)
kept_both Func w h = (h, tt)
kept_both FuncProto w h = (h, tt)
kept_both DataSec w h = (h, tt)
kept_both Float w h = (h, tt)
kept_both DeclTag w h = (h, tt)
kept_both TypeTag w h = (h, tt)
kept_both Enum64 w h = (h, tt)

-- words that are written as they were read are retained
stays : (k : Kind) (w : Record) → IsWrittenAsRead k w → kept k w ≡ w
stays Unknown w h = sym h
stays Fwd w h = ap (λ (t : ℕ). record w { third = t }) (sym h)
stays Array w h = ap (λ (t : ℕ). record w { third = t }) (sym h)
stays Var w h = ap (λ (t : List ℕ). record w { tail = t }) (small_stays w.tail h)
stays Int w h = refl
stays Ptr w h = refl
stays Struct w h = refl
stays Union w h = refl
stays Enum w h = refl
stays Typedef w h = refl
stays Volatile w h = refl
stays Const w h = refl
stays Restrict w h = refl
stays Func w h = refl
stays FuncProto w h = refl
stays DataSec w h = refl
stays Float w h = refl
stays DeclTag w h = refl
stays TypeTag w h = refl
stays Enum64 w h = refl

abbrev IsAsRead : Record → Type 0
IsAsRead w = (k : Kind) × HasKind k w × IsWrittenAsRead k w

read_as_written : (order : Endianness) (bytes : List ℕ) (rs : List Record) → AreRecords order bytes rs → AllByRecursion IsAsRead rs
read_as_written order bytes [] h = tt
read_as_written order bytes (r ∷ rs) h =
    let p = h.3 in
    let both = kept_both p.0 p.1 p.2 in
    let here : Both p.0 r = subst (Both p.0) (sym p.4) both in
    ((p.0, here.0, here.1), read_as_written order h.1 rs h.4)

written_whole : (rs : List Record) → AllByRecursion IsAsRead rs → AllByRecursion IsWhole rs
written_whole [] h = tt
written_whole (r ∷ rs) h = ((h.0.0, h.0.1, stays h.0.0 r h.0.2), written_whole rs h.1)

-- ---- the header

header_back : (order : Endianness) (bytes : List ℕ) → IsBytes bytes → header_len ≤ length bytes → header_bytes order (header_of order bytes) ≡ take 24 bytes
header_back order bytes fits le =
    let magic = half-half_of order (take 2 bytes) (omega (arith, length-take 2 bytes)) (IsBytes-take 2 bytes fits) in
    let flags : take 2 (drop 2 bytes) ≡ slice_index bytes 2 ∷ slice_index bytes 3 ∷ [] = ap (take 2) (drop_more bytes 2 0 (omega arith) ∙ ap (λ (b : List ℕ). get_or bytes 2 0 ∷ b) (drop_more bytes 3 0 (omega arith))) in
    let five = spelled-words_at order 5 (drop 4 bytes) (IsBytes-drop 4 bytes fits) (omega (arith, length-drop 4 bytes)) in
    let e8 : drop 4 (drop 4 bytes) ≡ drop 8 bytes = drop-drop 4 4 bytes in
    let e12 : drop 4 (drop 4 (drop 4 bytes)) ≡ drop 12 bytes = ap (drop 4) e8 ∙ drop-drop 4 8 bytes in
    let e16 : drop 4 (drop 4 (drop 4 (drop 4 bytes))) ≡ drop 16 bytes = ap (drop 4) e12 ∙ drop-drop 4 12 bytes in
    let e20 : drop 4 (drop 4 (drop 4 (drop 4 (drop 4 bytes)))) ≡ drop 20 bytes = ap (drop 4) e16 ∙ drop-drop 4 16 bytes in
    let h = header_of order bytes in
    let ws : words_at order 5 (drop 4 bytes) ≡ h.hdr_len ∷ h.type_off ∷ h.type_len ∷ h.str_off ∷ h.str_len ∷ [] =
    λ i. word_of order (take 4 (drop 4 bytes)) ∷ word_of order (take 4 (e8 i)) ∷ word_of order (take 4 (e12 i)) ∷ word_of order (take 4 (e16 i)) ∷ word_of order (take 4 (e20 i)) ∷ [] in
    let spelled : List ℕ = flat_map (word order) (h.hdr_len ∷ h.type_off ∷ h.type_len ∷ h.str_off ∷ h.str_len ∷ []) in
    let behind : take 22 (drop 2 bytes) ≡ take 2 (drop 2 bytes) ++ take 20 (drop 4 bytes) = take-add 2 20 (drop 2 bytes) ∙ ap (λ (b : List ℕ). take 2 (drop 2 bytes) ++ take 20 b) (drop-drop 2 2 bytes) in
    ap (λ (m : List ℕ). m ++ (h.version ∷ h.flags ∷ spelled)) magic
    ∙ ap (λ (v : List ℕ). take 2 bytes ++ (v ++ spelled)) (sym flags)
    ∙ ap (λ (x : List ℕ). take 2 bytes ++ (take 2 (drop 2 bytes) ++ x)) (ap (flat_map (word order)) (sym ws) ∙ five)
    ∙ sym (take-add 2 22 bytes ∙ ap (λ (x : List ℕ). take 2 bytes ++ x) behind)

-- ---- both directions

bytes_from_all : (bytes : List ℕ) → All (λ byte. byte < 2 ^ 8) bytes → IsBytes bytes
bytes_from_all bytes h i =
    elim (cases_lt i (length bytes)) [
      | inl lt ↦ h i 0 lt
      | inr le ↦ rw (get_or_past bytes i 0 le) (omega arith)
    ]

length-slice : (at len : ℕ) (bytes : List ℕ) → at + len ≤ length bytes → length (slice at len bytes) ≡ len
length-slice at len bytes le = omega (arith, length-take len (drop at bytes), length-drop at bytes)

-- the parts of a blob, by its table
record Parts (order : Endianness) (bytes : List ℕ) (t : Table) : Type 0 where
  types : length (type_bytes t) ≡ (header_of order bytes).type_len
  strings : length t.strings ≡ (header_of order bytes).str_len
  header : header_of order (canon t) ≡ canon_header t

parts : (order : Endianness) (bytes : List ℕ) (t : Table) → IsBytes bytes → IsTable order bytes t → Parts order bytes t
parts order bytes t fits h =
    let header = header_of order bytes in
    let rs = h.records.0 in
    let spelled : type_bytes t ≡ flat_map (spell order) rs = ap (λ (xs : List Record). flat_map (spell t.order) (drop 1 xs)) h.records.1 ∙ ap (λ (o : Endianness). flat_map (spell o) rs) h.same_order in
    let types : length (type_bytes t) ≡ header.type_len = ap length spelled ∙ length-records order (type_section header bytes) rs h.records.2 ∙ length-slice (header.hdr_len + header.type_off) header.type_len bytes h.types_fit in
    let strings : length t.strings ≡ header.str_len = ap length h.strings ∙ length-slice (header.hdr_len + header.str_off) header.str_len bytes h.strings_fit in
    let magic : t.magic < 2 ^ 16 = rw h.magic (half_of_below order (take 2 bytes) (IsBytes-take 2 bytes fits)) in
    let types_small : length (type_bytes t) < 2 ^ 32 = rw types (word_of_below order (slice 12 4 bytes) (IsBytes-take 4 (drop 12 bytes) (IsBytes-drop 12 bytes fits))) in
    let strings_small : length t.strings < 2 ^ 32 = rw strings (word_of_below order (slice 20 4 bytes) (IsBytes-take 4 (drop 20 bytes) (IsBytes-drop 20 bytes fits))) in
    record {
      types = types;
      strings = strings;
      header = subst (λ (o : Endianness). header_of o (canon t) ≡ canon_header t) h.same_order
          (ap (header_of t.order) (regrouped t) ∙ header_of-header_bytes t.order (canon_header t) (type_bytes t ++ t.strings) magic (omega arith) (omega arith) types_small types_small strings_small);
    }

-- a blob that is written as it was read has the written form
written_is_usual : (order : Endianness) (bytes : List ℕ) (t : Table) → IsBytes bytes → IsTable order bytes t → canon t ≡ bytes → IsUsual order bytes
written_is_usual order bytes t fits h e =
    let p = parts order bytes t fits h in
    let header : header_of order bytes ≡ canon_header t = ap (header_of order) (sym e) ∙ p.header in
    let rs = h.records.0 in
    let spelled : type_bytes t ≡ flat_map (spell order) rs = ap (λ (xs : List Record). flat_map (spell t.order) (drop 1 xs)) h.records.1 ∙ ap (λ (o : Endianness). flat_map (spell o) rs) h.same_order in
    let section : type_section (header_of order bytes) bytes ≡ flat_map (spell order) rs = ap (λ (x : Header). type_section x bytes) header ∙ ap (type_section (canon_header t)) (sym e) ∙ canon_types t ∙ spelled in
    record {
      hdr_len = ap (λ (x : Header). x.hdr_len) header;
      type_off = ap (λ (x : Header). x.type_off) header;
      str_off = ap (λ (x : Header). x.str_off) header ∙ sym (ap (λ (x : Header). x.type_len) header);
      nothing_after = sym (ap length e) ∙ length-canon t ∙ sym (ap strings_end header);
      records = (rs, read_as_written order (type_section (header_of order bytes) bytes) rs h.records.2, section);
    }

-- a blob of the written form is written as it was read
usual_is_written : (order : Endianness) (bytes : List ℕ) (t : Table) → IsBytes bytes → IsTable order bytes t → IsUsual order bytes → canon t ≡ bytes
usual_is_written order bytes t fits h u =
    let p = parts order bytes t fits h in
    let header = header_of order bytes in
    let section = type_section header bytes in
    let ws = u.records.0 in
    let again : AreRecords order section ws = subst (λ (b : List ℕ). AreRecords order b ws) (sym u.records.2) (whole_are_records order ws (written_whole ws u.records.1)) in
    let same : h.records.0 ≡ ws = same_records order section h.records.0 ws h.records.2 again in
    let spelled : type_bytes t ≡ section = ap (λ (xs : List Record). flat_map (spell t.order) (drop 1 xs)) h.records.1 ∙ ap (λ (o : Endianness). flat_map (spell o) h.records.0) h.same_order ∙ ap (flat_map (spell order)) same ∙ sym u.records.2 in
    let same_header : canon_header t ≡ header = λ i. record {
      magic = h.magic i;
      version = h.version i;
      flags = h.flags i;
      hdr_len = sym u.hdr_len i;
      type_off = sym u.type_off i;
      type_len = p.types i;
      str_off = (p.types ∙ sym u.str_off) i;
      str_len = p.strings i;
    } in
    let front : header_bytes t.order (canon_header t) ≡ take 24 bytes = ap (λ (o : Endianness). header_bytes o (canon_header t)) h.same_order ∙ ap (header_bytes order) same_header ∙ header_back order bytes fits h.header_fits in
    let types_at : header.hdr_len + header.type_off ≡ 24 = omega (arith, u.hdr_len, u.type_off) in
    let strings_at : header.hdr_len + header.str_off ≡ 24 + header.type_len = omega (arith, u.hdr_len, u.str_off) in
    let types : section ≡ take header.type_len (drop 24 bytes) = ap (λ (k : ℕ). take header.type_len (drop k bytes)) types_at in
    let strings : t.strings ≡ drop header.type_len (drop 24 bytes) =
    h.strings ∙ ap (λ (k : ℕ). take header.str_len (drop k bytes)) strings_at
    ∙ take_all header.str_len (drop (24 + header.type_len) bytes) (omega (arith, length-drop (24 + header.type_len) bytes, u.nothing_after, u.hdr_len, u.str_off))
    ∙ sym (drop-drop header.type_len 24 bytes) in
    regrouped t ∙ ap (λ (x : List ℕ). x ++ (type_bytes t ++ t.strings)) front
    ∙ ap (λ (x : List ℕ). take 24 bytes ++ (x ++ t.strings)) (spelled ∙ types)
    ∙ ap (λ (x : List ℕ). take 24 bytes ++ (take header.type_len (drop 24 bytes) ++ x)) strings
    ∙ ap (λ (x : List ℕ). take 24 bytes ++ x) (take-append-drop header.type_len (drop 24 bytes))
    ∙ take-append-drop 24 bytes

pub writes_back : (order : Endianness) (bytes : List ℕ) (t : Table) → All (λ byte. byte < 2 ^ 8) bytes → IsTable order bytes t → (canon t ≡ bytes) ↔ IsUsual order bytes
writes_back order bytes t fits h = (written_is_usual order bytes t (bytes_from_all bytes fits) h, usual_is_written order bytes t (bytes_from_all bytes fits) h)
