-- The part of a table above a base, in the table's blob.
use Rattle.std.proofs.Common.{◌≡◌, ℕ, ◌-◌, ◌^◌, ◌<◌, ◌≤◌, List, ◌++◌, length, take, drop, Result, Ok, Err, refl, sym, ap, subst, ◌∙◌, arith}
use Rattle.std.specs.Prelude.{All, map}
use Rattle.std.specs.List.{flat_map}
use Rattle.std.proofs.lemmas.Bool.{le-ltb, lt-ltb, ne_eqb}
use Rattle.std.proofs.lemmas.List.{length-append, take-append-drop, drop-drop, drop-map, take-map, drop_at}
use Rattle.std.proofs.lemmas.List.Concat.{flat_map-append}
use Rattle.btf_model.specs.declared.endianness.Endianness.{Endianness}
use Rattle.btf_model.specs.Record.{Record}
use Rattle.btf_model.specs.Spelling.{spell}
use Rattle.btf_model.specs.Table.{Table, type_bytes, strip, section_limit}
use Rattle.btf_model.specs.Blob.{Header, header_of, header_bytes, canon, canon_header, string_section, type_section, IsTable, IsValid}
use Rattle.btf_model.specs.Refusal.{Refusal, InvalidStringOffset, UnknownBtfType}
use Rattle.btf_model.proofs.Words.{IsBytes}
use Rattle.btf_model.proofs.Comparisons.{same_ok}
use Rattle.btf_model.proofs.Blobs.{header_of-header_bytes, regrouped, canon_types}
use Rattle.btf_records.specs.BtfType.{record_of}
use Rattle.btf_records.specs.declared.btf_type.BtfType.{BtfType}
use Rattle.btf_table.proofs.Joining.{spelled}
use Rattle.btf_split_model.specs.Split.{above, over_base, split_canon, split_blob, Extends, IsJoined}
use Rattle.btf_split_model.proofs.Joining.{extending_joins}
use Rattle.btf_split_model.proofs.Whole.{read_valid, bytes_from_all}
use Rattle.btf_split.specs.Blob.{written_header}
use Rattle.btf_split.proofs.Blobs.{front_is, header_is}

-- the records of the first types after id 0
pub front_records : (n : ℕ) (xs : List BtfType) (rs : List Record) → map record_of xs ≡ rs → map record_of (take n (drop 1 xs)) ≡ take n (drop 1 rs)
front_records n xs rs is = sym (take-map record_of n (drop 1 xs)) ∙ ap (take n) (sym (drop-map record_of 1 xs) ∙ ap (drop 1) is)

-- ---- the result

pub split_given : (n m : ℕ) (t : Table) → 0 < n → n ≤ length t.records → m ≤ length t.strings → split_blob n m t ≡ Ok (split_canon n m t)
split_given n m t lt types strings = rw (ne_eqb n 0 (λ e. omega (arith, e, lt)), le-ltb (length t.records) n types, le-ltb (length t.strings) m strings) refl

-- a base without id 0, with more types, or with more strings
pub of_no_types : (n m : ℕ) (t : Table) → n ≡ 0 → ◌≡◌ {A = Result (Unit {0}) Refusal} (Err (UnknownBtfType n)) (over_base n m t tt)
of_no_types n m t is = subst (λ (k : ℕ). ◌≡◌ {A = Result (Unit {0}) Refusal} (Err (UnknownBtfType k)) (over_base k m t tt)) (sym is) refl

pub of_few_types : (n m : ℕ) (t : Table) → length t.records < n → ◌≡◌ {A = Result (Unit {0}) Refusal} (Err (UnknownBtfType n)) (over_base n m t tt)
of_few_types n m t lt = rw (ne_eqb n 0 (λ e. omega (arith, e, lt)), lt-ltb (length t.records) n lt) refl

pub of_few_strings : (n m : ℕ) (t : Table) → 0 < n → n ≤ length t.records → length t.strings < m → ◌≡◌ {A = Result (Unit {0}) Refusal} (Err (InvalidStringOffset m)) (over_base n m t tt)
of_few_strings n m t lt types strings = rw (ne_eqb n 0 (λ e. omega (arith, e, lt)), le-ltb (length t.records) n types, lt-ltb (length t.strings) m strings) refl

pub of_enough : (n m : ℕ) (t : Table) → 0 < n → n ≤ length t.records → m ≤ length t.strings → ◌≡◌ {A = Result (Unit {0}) Refusal} (Ok tt) (over_base n m t tt)
of_enough n m t lt types strings = rw (ne_eqb n 0 (λ e. omega (arith, e, lt)), le-ltb (length t.records) n types, le-ltb (length t.strings) m strings) refl

module _ (t : Table) (blob : List ℕ) (is : IsTable t.order blob (strip t)) (written : blob ≡ canon t) (fits : IsBytes blob) where
  valid : IsValid (strip t)
  valid = read_valid t.order blob (strip t) fits is

  header_same : header_of t.order blob ≡ canon_header t
  header_same =
      let v : IsValid (strip t) = valid in
      let types : length (type_bytes t) < 2 ^ 32 = omega (arith, v.types) in
      let strings : length t.strings < 2 ^ 32 = omega (arith, v.strings) in
      ap (header_of t.order) (written ∙ regrouped t)
      ∙ header_of-header_bytes t.order (canon_header t) (type_bytes t ++ t.strings) v.magic (omega arith) (omega arith) types types strings

  -- the type section consists of the spellings of the records
  pub types_are : type_section (header_of t.order blob) blob ≡ type_bytes t
  types_are = ap (λ (h : Header). type_section h blob) header_same ∙ ap (type_section (canon_header t)) written ∙ canon_types t

  -- the types before an id, and from it on
  cut_types : (n : ℕ) → 0 < n → type_bytes t ≡ flat_map (spell t.order) (take (n - 1) (drop 1 t.records)) ++ flat_map (spell t.order) (drop n t.records)
  cut_types n lt =
      let others : drop (n - 1) (drop 1 t.records) ≡ drop n t.records = drop-drop (n - 1) 1 t.records ∙ ap (λ (k : ℕ). drop k t.records) (omega arith) in
      ap (flat_map (spell t.order)) (sym (take-append-drop (n - 1) (drop 1 t.records)))
      ∙ flat_map-append (spell t.order) (take (n - 1) (drop 1 t.records)) (drop (n - 1) (drop 1 t.records))
      ∙ ap (λ (rs : List Record). flat_map (spell t.order) (take (n - 1) (drop 1 t.records)) ++ flat_map (spell t.order) rs) others

  pub start_within : (n : ℕ) → 0 < n → length (flat_map (spell t.order) (take (n - 1) (drop 1 t.records))) ≤ length (type_section (header_of t.order blob) blob)
  start_within n lt =
      omega (
        arith,
        ap length types_are,
        ap length (cut_types n lt),
        length-append (flat_map (spell t.order) (take (n - 1) (drop 1 t.records))) (flat_map (spell t.order) (drop n t.records)),
      )

  pub start_small : (n : ℕ) → 0 < n → length (flat_map (spell t.order) (take (n - 1) (drop 1 t.records))) ≤ section_limit
  start_small n lt =
      let v : IsValid (strip t) = valid in
      omega (arith, start_within n lt, ap length types_are, v.types)

  -- the bytes that are written for the part
  pub part_is : (n m start : ℕ) (out types strings : List ℕ) → 0 < n → start ≡ length (flat_map (spell t.order) (take (n - 1) (drop 1 t.records))) → types ≡ drop start (type_section (header_of t.order blob) blob) → strings ≡ drop m (string_section (header_of t.order blob) blob) → out ≡ written_header t.order blob (length types) (length strings) ++ types ++ strings → out ≡ split_canon n m t
  part_is n m start out types strings lt start-is types-is strings-is e =
      let own : types ≡ flat_map (spell t.order) (drop n t.records) =
      types-is ∙ ap (drop start) (types_are ∙ cut_types n lt)
      ∙ drop_at (flat_map (spell t.order) (take (n - 1) (drop 1 t.records))) (flat_map (spell t.order) (drop n t.records)) start (sym start-is) in
      let texts : strings ≡ drop m t.strings = strings-is ∙ ap (drop m) (sym is.strings) in
      let header : written_header t.order blob (length types) (length strings) ≡ header_bytes t.order (canon_header (above n m t)) =
      header_is t.order blob (above n m t) (length types) (length strings) (front_is t.order blob (strip t) fits is) (ap length own) (ap length texts) in
      e ∙ (λ i. header i ++ own i ++ texts i)

  -- the part joins to the table again
  pub part_joins : (n m : ℕ) (out : List ℕ) → 0 < n → out ≡ split_canon n m t → (base : Table) → Extends base t → length base.records ≡ n → length base.strings ≡ m → IsJoined t.order base out (strip t)
  part_joins n m out lt out-is base extends n-is m-is =
      let here : IsJoined t.order base (split_canon (length base.records) (length base.strings) t) (strip t) =
      extending_joins base (strip t) valid (omega (arith, n-is, lt)) (record { records = extends.records; strings = extends.strings }) in
      let same : split_canon (length base.records) (length base.strings) t ≡ out = (λ i. split_canon (n-is i) (m-is i) t) ∙ sym out-is in
      subst (λ (b : List ℕ). IsJoined t.order base b (strip t)) same here

-- ---- the steps of `split_bytes`

-- What is known of the table's blob, the byte order and the table's types, for a base of n types.
pub record Known (t : Table) (n : ℕ) (order : Endianness) (blob : List ℕ) (xs : List BtfType) : Type 0 where
  pub is : IsTable t.order blob (strip t)
  pub written : blob ≡ canon t
  pub fits : IsBytes blob
  pub order_is : order ≡ t.order
  pub records : map record_of xs ≡ t.records
  pub some : 0 < n

pub known : (t : Table) (n : ℕ) (order : Endianness) (slice bytes : List ℕ) (xs rest : List BtfType) → IsTable t.order bytes (strip t) → ◌≡◌ {A = Result (List ℕ) Refusal} (Ok bytes) (Ok (canon t)) → All (λ byte. byte < 2 ^ 8) slice → slice ≡ bytes → order ≡ t.order → xs ≡ rest → map record_of rest ≡ t.records → 0 < n → Known t n order slice xs
known t n order slice bytes xs rest is written fits same order-is xs-is records some = record {
  is = subst (λ (b : List ℕ). IsTable t.order b (strip t)) (sym same) is;
  written = same ∙ same_ok bytes (canon t) written;
  fits = bytes_from_all slice fits;
  order_is = order-is;
  records = ap (map record_of) xs-is ∙ records;
  some = some;
}

module _ (t : Table) (n : ℕ) (order : Endianness) (blob : List ℕ) (xs : List BtfType) (k : Known t n order blob xs) where
  front_len : spelled order (take (n - 1) (drop 1 xs)) ≡ length (flat_map (spell t.order) (take (n - 1) (drop 1 t.records)))
  front_len =
      ap (λ (rs : List Record). length (flat_map (spell order) rs)) (front_records (n - 1) xs t.records k.records)
      ∙ ap (λ (o : Endianness). length (flat_map (spell o) (take (n - 1) (drop 1 t.records)))) k.order_is

  pub known_small : spelled order (take (n - 1) (drop 1 xs)) ≤ section_limit
  known_small = omega (arith, front_len, start_small t blob k.is k.written k.fits n k.some)

  pub known_within : (start : ℕ) (types : List ℕ) → start ≡ spelled order (take (n - 1) (drop 1 xs)) → types ≡ type_section (header_of order blob) blob → start ≤ length types
  known_within start types start-is types-is =
      omega (
        arith,
        start-is,
        front_len,
        start_within t blob k.is k.written k.fits n k.some,
        ap length types-is,
        ap (λ (o : Endianness). length (type_section (header_of o blob) blob)) k.order_is,
      )

  pub known_part : (m start : ℕ) (out whole_types types whole_strings strings : List ℕ) → start ≡ spelled order (take (n - 1) (drop 1 xs)) → whole_types ≡ type_section (header_of order blob) blob → types ≡ drop start whole_types → whole_strings ≡ string_section (header_of order blob) blob → strings ≡ drop m whole_strings → out ≡ written_header order blob (length types) (length strings) ++ types ++ strings → out ≡ split_canon n m t
  known_part m start out whole_types types whole_strings strings start-is whole_types-is types-is whole_strings-is strings-is e =
      part_is t blob k.is k.written k.fits n m start out types strings k.some (start-is ∙ front_len)
      (types-is ∙ ap (drop start) (whole_types-is ∙ ap (λ (o : Endianness). type_section (header_of o blob) blob) k.order_is))
      (strings-is ∙ ap (drop m) (whole_strings-is ∙ ap (λ (o : Endianness). string_section (header_of o blob) blob) k.order_is))
      (e ∙ ap (λ (o : Endianness). written_header o blob (length types) (length strings) ++ types ++ strings) k.order_is)
