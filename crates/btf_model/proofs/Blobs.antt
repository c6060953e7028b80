-- Bytes determine the table that they represent, or why they are refused; what is written is read back.
use Rattle.std.specs.Prelude.{slice_get}
use Rattle.std.proofs.Common.{◌≡◌, ℕ, zero, suc, ◌+◌, ◌^◌, ◌<◌, List, [], ◌∷◌, ◌++◌, length, take, drop, Some, refl, sym, ap, subst, ◌∙◌, append_assoc, arith, inl, inr}
use Rattle.std.specs.List.{flat_map}
use Rattle.std.proofs.lemmas.Bool.{cases_lt}
use Rattle.std.proofs.lemmas.List.{length-append, take_at, drop_at, take_all, nil_from_length, append-nil}
use Rattle.btf_model.specs.declared.endianness.Endianness.{Endianness}
use Rattle.btf_model.specs.declared.endianness.Endianness.TheVariants.{Little, Big}
use Rattle.btf_model.specs.Record.{Record, unknown}
use Rattle.btf_model.specs.Refusal.{Refusal}
use Rattle.btf_model.specs.Spelling.{spell}
use Rattle.btf_model.specs.Table.{Table, strip, no_fallbacks, type_bytes}
use Rattle.btf_model.specs.Blob.{Header, header_len, header_of, header_bytes, string_section, type_section, strings_end, types_end, slice, AreRecords, BeginsNoRecord, IsTable, IsRest, IsRefusal, rest_refusal, canon, canon_header, IsValid}
use Rattle.btf_model.proofs.Words.{word_of-word, half_of-half}
use Rattle.btf_model.proofs.Records.{none_is_longer, same_records, whole_are_records}

-- the bytes after the longest front begin with no spelling
pub rest_from_none : (order : Endianness) (bytes front rest : List ℕ) (rs : List Record) → bytes ≡ front ++ rest → AreRecords order front rs → BeginsNoRecord order rest → IsRest order bytes rest
rest_from_none order bytes front rest rs whole cut none = record {
  front = front;
  whole = whole;
  cut = (rs, cut);
  longest = λ other more qs e h. none_is_longer order front rest other more rs qs none cut h (sym whole ∙ e);
}

same_back : (a b x y : List ℕ) → length a ≡ length b → a ++ x ≡ b ++ y → x ≡ y
same_back a b x y len e = sym (drop_at a x (length b) len) ∙ ap (drop (length b)) e ∙ drop_at b y (length b) refl

-- there is one rest
pub same_rest : (order : Endianness) (bytes x y : List ℕ) → IsRest order bytes x → IsRest order bytes y → x ≡ y
same_rest order bytes x y h g =
    let a = h.longest g.front y g.cut.0 g.whole g.cut.1 in
    let b = g.longest h.front x h.cut.0 h.whole h.cut.1 in
    same_back h.front g.front x y (omega arith) (sym h.whole ∙ g.whole)

-- bytes that consist of spellings leave no rest
pub no_rest : (order : Endianness) (bytes rest : List ℕ) (rs : List Record) → AreRecords order bytes rs → IsRest order bytes rest → rest ≡ []
no_rest order bytes rest rs cut h =
    let le = h.longest bytes [] rs (sym (append-nil bytes)) cut in
    nil_from_length rest (omega (arith, ap length h.whole, length-append h.front rest))

-- bytes represent one table
pub same_table : (order : Endianness) (bytes : List ℕ) (t u : Table) → IsTable order bytes t → IsTable order bytes u → t ≡ u
same_table order bytes t u h g =
    let rs = same_records order _ h.records.0 g.records.0 h.records.2 g.records.2 in
    let records : t.records ≡ u.records = h.records.1 ∙ ap (λ (rs : List Record). unknown ∷ rs) rs ∙ sym g.records.1 in
    let fallbacks : t.fallbacks ≡ u.fallbacks = h.fallbacks ∙ ap no_fallbacks records ∙ sym g.fallbacks in
    same (h.same_order ∙ sym g.same_order) (h.magic ∙ sym g.magic) (h.version ∙ sym g.version) (h.flags ∙ sym g.flags) (h.strings ∙ sym g.strings) records fallbacks
  where
    same : t.order ≡ u.order → t.magic ≡ u.magic → t.version ≡ u.version → t.flags ≡ u.flags → t.strings ≡ u.strings → t.records ≡ u.records → t.fallbacks ≡ u.fallbacks → t ≡ u
    same a b c d e f g = λ i. record { order = a i; magic = b i; version = c i; flags = d i; strings = e i; records = f i; fallbacks = g i }

-- bytes that represent a table are not refused
pub table_not_refused : (order : Endianness) (bytes : List ℕ) (t : Table) (refusal : Refusal) → IsTable order bytes t → IsRefusal order bytes refusal → ⊥
table_not_refused order bytes t refusal h g =
    let p = g.record_at h.header_fits h.strings_fit h.types_fit in
    p.2 (no_rest order _ p.0 h.records.0 h.records.2 p.1)

-- there is one first reason to refuse bytes
pub same_refusal : (order : Endianness) (bytes : List ℕ) (f g : Refusal) → IsRefusal order bytes f → IsRefusal order bytes g → f ≡ g
same_refusal order bytes f g h k =
    elim (cases_lt (length bytes) header_len) [
      | inl lt ↦ h.header lt ∙ sym (k.header lt)
      | inr le ↦ elim (cases_lt (length bytes) (strings_end (header_of order bytes))) [
        | inl lt ↦ h.strings le lt ∙ sym (k.strings le lt)
        | inr strings ↦ elim (cases_lt (length bytes) (types_end (header_of order bytes))) [
          | inl lt ↦ h.types le strings lt ∙ sym (k.types le strings lt)
          | inr types ↦
              let p = h.record_at le strings types in
              let q = k.record_at le strings types in
              p.3 ∙ ap (rest_refusal order) (same_rest order _ p.0 q.0 p.1 q.1) ∙ sym q.3
        ]
      ]
    ]

-- ---- what is written

-- the header that is written is read back
pub header_of-header_bytes : (order : Endianness) (h : Header) (rest : List ℕ) → h.magic < 2 ^ 16 → h.hdr_len < 2 ^ 32 → h.type_off < 2 ^ 32 → h.type_len < 2 ^ 32 → h.str_off < 2 ^ 32 → h.str_len < 2 ^ 32 → header_of order (header_bytes order h ++ rest) ≡ h
header_of-header_bytes Little h rest a b c d e f =
    λ i. record { magic = half_of-half Little h.magic a i; version = h.version; flags = h.flags; hdr_len = word_of-word Little h.hdr_len b i; type_off = word_of-word Little h.type_off c i; type_len = word_of-word Little h.type_len d i; str_off = word_of-word Little h.str_off e i; str_len = word_of-word Little h.str_len f i }
header_of-header_bytes Big h rest a b c d e f =
    λ i. record { magic = half_of-half Big h.magic a i; version = h.version; flags = h.flags; hdr_len = word_of-word Big h.hdr_len b i; type_off = word_of-word Big h.type_off c i; type_len = word_of-word Big h.type_len d i; str_off = word_of-word Big h.str_off e i; str_len = word_of-word Big h.str_len f i }

length-header_bytes : (order : Endianness) (h : Header) → length (header_bytes order h) ≡ 24
length-header_bytes Little h = refl
length-header_bytes Big h = refl

-- the header, the types and the strings that are written, each after the ones before it
pub regrouped : (t : Table) → canon t ≡ header_bytes t.order (canon_header t) ++ (type_bytes t ++ t.strings)
regrouped t = append_assoc (header_bytes t.order (canon_header t)) (type_bytes t) t.strings

pub length-canon : (t : Table) → length (canon t) ≡ 24 + length (type_bytes t) + length t.strings
length-canon t =
    omega (arith, length-append (header_bytes t.order (canon_header t) ++ type_bytes t) t.strings, length-append (header_bytes t.order (canon_header t)) (type_bytes t), length-header_bytes t.order (canon_header t))

pub canon_strings : (t : Table) → slice (24 + length (type_bytes t)) (length t.strings) (canon t) ≡ t.strings
canon_strings t =
    let front = header_bytes t.order (canon_header t) ++ type_bytes t in
    let len : length front ≡ 24 + length (type_bytes t) = omega (arith, length-append (header_bytes t.order (canon_header t)) (type_bytes t), length-header_bytes t.order (canon_header t)) in
    ap (take (length t.strings)) (drop_at front t.strings (24 + length (type_bytes t)) len) ∙ take_all (length t.strings) t.strings (omega arith)

pub canon_types : (t : Table) → slice 24 (length (type_bytes t)) (canon t) ≡ type_bytes t
canon_types t =
    let front = header_bytes t.order (canon_header t) in
    let behind = drop_at front (type_bytes t ++ t.strings) 24 (length-header_bytes t.order (canon_header t)) in
    ap (λ b. take (length (type_bytes t)) (drop 24 b)) (regrouped t) ∙ ap (take (length (type_bytes t))) behind ∙ take_at (type_bytes t) t.strings (length (type_bytes t)) refl

-- what is written represents the table without its fallbacks
pub canon_is_table : (t : Table) → IsValid t → IsTable t.order (canon t) (strip t)
canon_is_table t v =
    let small : length (type_bytes t) < 2 ^ 32 = omega (arith, v.types) in
    let h : header_of t.order (canon t) ≡ canon_header t =
    ap (header_of t.order) (regrouped t) ∙ header_of-header_bytes t.order (canon_header t) (type_bytes t ++ t.strings) v.magic (omega arith) (omega arith) small small (omega (arith, v.strings)) in
    let rs = v.records.0 in
    let spelled : type_bytes t ≡ flat_map (spell t.order) rs = ap (λ (xs : List Record). flat_map (spell t.order) (drop 1 xs)) v.records.1 in
    record {
      header_fits = omega (arith, length-canon t);
      strings_fit = omega (arith, length-canon t, ap strings_end h);
      types_fit = omega (arith, length-canon t, ap types_end h);
      same_order = refl;
      magic = ap (λ (x : Header). x.magic) (sym h);
      version = ap (λ (x : Header). x.version) (sym h);
      flags = ap (λ (x : Header). x.flags) (sym h);
      strings = sym (ap (λ (x : Header). string_section x (canon t)) h ∙ canon_strings t);
      records = (rs, v.records.1, subst (λ b. AreRecords t.order b rs) (sym (ap (λ (x : Header). type_section x (canon t)) h ∙ canon_types t ∙ spelled)) (whole_are_records t.order rs v.records.2));
      fallbacks = refl;
    }

-- ---- ids

-- an element has the same place after more elements are appended
pub slice_get-append_left : {X : Type 0} (xs ys : List X) (i : ℕ) → i < length xs → slice_get (xs ++ ys) i ≡ slice_get xs i
slice_get-append_left [] ys i lt = absurd (omega arith)
slice_get-append_left (x ∷ xs) ys zero lt = refl
slice_get-append_left (x ∷ xs) ys (suc i) lt = slice_get-append_left xs ys i (omega arith)

-- the element after the others
pub slice_get-push : {X : Type 0} (xs : List X) (x : X) → slice_get (xs ++ x ∷ []) (length xs) ≡ Some x
slice_get-push [] x = refl
slice_get-push (y ∷ xs) x = slice_get-push xs x
