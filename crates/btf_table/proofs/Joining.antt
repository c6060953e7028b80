-- A table after another one.
use Rattle.std.proofs.Common.{◌≡◌, ℕ, zero, suc, ◌+◌, ◌-◌, ◌*◌, ◌<◌, ◌≤◌, List, [], ◌∷◌, ◌++◌, length, get_or, take, drop, refl, sym, ap, subst, ◌∙◌, arith, Vec, Global}
use Rattle.std.specs.Prelude.{map}
use Rattle.std.specs.List.{flat_map}
use Rattle.std.proofs.lemmas.List.{length-append, append-nil, map-append, take-append-drop, take_more, drop-drop, drop-map, take-map, length-take}
use Rattle.std.proofs.lemmas.List.Concat.{flat_map-append}
use Rattle.std.proofs.lemmas.Option.{slice_get_within}
use Rattle.btf_model.specs.declared.endianness.Endianness.{Endianness}
use Rattle.btf_model.specs.Record.{Record, unknown}
use Rattle.btf_model.specs.Refusal.{InvalidHeader, InvalidTypeInfo}
use Rattle.btf_model.specs.Spelling.{spell}
use Rattle.btf_model.specs.Table.{Table, type_bytes, section_limit}
use Rattle.btf_model.specs.Fields.{HaveKinds}
use Rattle.btf_model.proofs.Records.{length-spell}
use Rattle.btf_records.specs.BtfType.{record_of, fallback_of}
use Rattle.btf_records.specs.declared.btf_type.BtfType.{BtfType}
use Rattle.btf_table.specs.declared.table.Btf.TheInside.{Inside}
use Rattle.btf_table.specs.declared.table.changes.Changes.{Changes}
use Rattle.btf_table.specs.Btf.{table_of, IsConsistent}
use Rattle.btf_table.specs.Changes.{AreChangesOf, AreInside, changed, put_all, each}
use Rattle.btf_table.specs.Denied.{AllHaveKinds}
use Rattle.btf_table.specs.Joined.{ExceedsLimit, IsWithinLimit, followed}

-- ---- the length of some types

-- the length of the spellings of these types
abbrev pub spelled : Endianness → List BtfType → ℕ
spelled order xs = length (flat_map (spell order) (map record_of xs))

pub spelled-append : (order : Endianness) (xs ys : List BtfType) → spelled order (xs ++ ys) ≡ spelled order xs + spelled order ys
spelled-append order xs ys =
    ap (λ (rs : List Record). length (flat_map (spell order) rs)) (map-append record_of xs ys)
    ∙ ap length (flat_map-append (spell order) (map record_of xs) (map record_of ys))
    ∙ length-append (flat_map (spell order) (map record_of xs)) (flat_map (spell order) (map record_of ys))

-- one more type
pub spelled_more : (order : Endianness) (xs : List BtfType) (i : ℕ) (t : BtfType) (size : ℕ) → i < length xs → t ≡ get_or xs i t → size ≡ 12 + 4 * length (record_of t).tail → spelled order (take (i + 1) xs) ≡ spelled order (take i xs) + size
spelled_more order xs i t size lt is size-is =
    let more : take (i + 1) xs ≡ take i xs ++ t ∷ [] = take_more xs i t lt ∙ ap (λ (x : BtfType). take i xs ++ x ∷ []) (sym is) in
    omega (
      arith,
      ap (spelled order) more,
      spelled-append order (take i xs) (t ∷ []),
      ap length (append-nil (spell order (record_of t))),
      length-spell order (record_of t),
      size-is,
    )

-- the first types are not longer than all
pub spelled_front : (order : Endianness) (xs : List BtfType) (i : ℕ) → spelled order (take i xs) ≤ spelled order xs
spelled_front order xs i = omega (arith, ap (spelled order) (take-append-drop i xs), spelled-append order (take i xs) (drop i xs))

-- the byte order does not change the length of spellings
pub same_len : (a b : Endianness) (rs : List Record) → length (flat_map (spell a) rs) ≡ length (flat_map (spell b) rs)
same_len a b [] = refl
same_len a b (r ∷ rs) =
    omega (
      arith,
      length-append (spell a r) (flat_map (spell a) rs),
      length-append (spell b r) (flat_map (spell b) rs),
      length-spell a r,
      length-spell b r,
      same_len a b rs,
    )

-- ---- records that have kinds

pub kinds_append : (xs ys : List Record) → AllHaveKinds xs → AllHaveKinds ys → AllHaveKinds (xs ++ ys)
kinds_append [] ys h g id r is = g id r is
kinds_append (x ∷ xs) ys h g zero r is = h zero r is
kinds_append (x ∷ xs) ys h g (suc id) r is = kinds_append xs ys (λ i q e. h (suc i) q e) g id r is

kinds_behind : (xs : List Record) → AllHaveKinds xs → AllHaveKinds (drop 1 xs)
kinds_behind [] h id r is = h id r is
kinds_behind (x ∷ xs) h id r is = h (suc id) r is

kinds_take : (n : ℕ) (xs : List Record) → AllHaveKinds xs → AllHaveKinds (take n xs)
kinds_take zero xs h id r is = absurd (omega (arith, slice_get_within [] id r is))
kinds_take (suc n) [] h id r is = h id r is
kinds_take (suc n) (x ∷ xs) h zero r is = h zero r is
kinds_take (suc n) (x ∷ xs) h (suc id) r is = kinds_take n xs (λ i q e. h (suc i) q e) id r is

-- ---- a table and then another one

-- both type sections, in whatever byte orders
pub followed_len : (t own : Table) (rs : List Record) → t.records ≡ unknown ∷ rs → length (type_bytes (followed t own)) ≡ length (type_bytes t) + length (type_bytes own)
followed_len t own rs first =
    let more = drop 1 own.records in
    let all : type_bytes (followed t own) ≡ flat_map (spell t.order) rs ++ flat_map (spell t.order) more = ap (λ (xs : List Record). flat_map (spell t.order) (drop 1 (xs ++ more))) first ∙ flat_map-append (spell t.order) rs more in
    let here : length (type_bytes t) ≡ length (flat_map (spell t.order) rs) = ap (λ (xs : List Record). length (flat_map (spell t.order) (drop 1 xs))) first in
    omega (arith, ap length all, length-append (flat_map (spell t.order) rs) (flat_map (spell t.order) more), here, same_len t.order own.order more)

module _ (b own : Inside) (t u : Table) (view : table_of b ≡ t) (own_view : table_of own ≡ u) where
  strings_len : length (followed t u).strings ≡ length b.strings.items + length own.strings.items
  strings_len = length-append t.strings u.strings ∙ (λ i. length (sym view i).strings + length (sym own_view i).strings)

  types_len : IsConsistent b → IsConsistent own → length (type_bytes (followed t u)) ≡ b.type_len + own.type_len
  types_len h g =
      followed_len t u h.first.0 (ap (λ (x : Table). x.records) (sym view) ∙ h.first.1)
      ∙ (λ i. length (type_bytes (sym view i)) + length (type_bytes (sym own_view i)))
      ∙ (λ i. sym h.types i + sym g.types i)

  pub strings_exceed : section_limit < length b.strings.items + length own.strings.items → ExceedsLimit (followed t u) InvalidHeader
  strings_exceed long = record { strings = λ _. refl; types = λ le. absurd (omega (arith, le, long, strings_len)) }

  pub types_exceed : IsConsistent b → IsConsistent own → length b.strings.items + length own.strings.items ≤ section_limit → section_limit < b.type_len + own.type_len → ExceedsLimit (followed t u) InvalidTypeInfo
  types_exceed h g fit long = record {
    strings = λ lt. absurd (omega (arith, lt, fit, strings_len));
    types = λ _. (omega (arith, long, types_len h g), refl);
  }

  pub both_fit : IsConsistent b → IsConsistent own → length b.strings.items + length own.strings.items ≤ section_limit → b.type_len + own.type_len ≤ section_limit → (b.type_len + own.type_len ≡ length (type_bytes (followed t u))) × IsWithinLimit (followed t u)
  both_fit h g fit few = (sym (types_len h g), record { strings = omega (arith, fit, strings_len); types = omega (arith, few, types_len h g) })

-- what is appended, as changes
module _ (t u : Table) (own : Inside) (c : Changes) (view : table_of own ≡ u) (none : c.types.items ≡ []) (strings-are : c.new_strings.items ≡ own.strings.items) (types-are : c.new_types.items ≡ drop 1 own.types.items) where
  more_strings : c.new_strings.items ≡ u.strings
  more_strings = strings-are ∙ ap (λ (x : Table). x.strings) view

  pub changed_is : changed t c ≡ followed t u
  changed_is =
      let records : map record_of c.new_types.items ≡ drop 1 u.records = ap (map record_of) types-are ∙ sym (drop-map record_of 1 own.types.items) ∙ ap (λ (x : Table). drop 1 x.records) view in
      let fallbacks : map fallback_of c.new_types.items ≡ drop 1 u.fallbacks = ap (map fallback_of) types-are ∙ sym (drop-map fallback_of 1 own.types.items) ∙ ap (λ (x : Table). drop 1 x.fallbacks) view in
      λ i. record t {
        strings = t.strings ++ more_strings i;
        records = put_all (each record_of (none i)) t.records ++ records i;
        fallbacks = put_all (each fallback_of (none i)) t.fallbacks ++ fallbacks i;
      }

  pub are_of : IsConsistent own → HaveKinds t → c.type_len ≡ length (type_bytes (followed t u)) → IsWithinLimit (followed t u) → AreChangesOf t c
  are_of h kinds len fit = record {
    ids = subst (λ (cs : List (ℕ × BtfType)). AreInside (length t.records) cs) (sym none) tt;
    strings = omega (arith, fit.strings, length-append t.strings u.strings, ap length more_strings);
    limit = omega (arith, fit.types, len);
    types = len ∙ ap (λ (x : Table). length (type_bytes x)) (sym changed_is);
    kinds = subst HaveKinds (sym changed_is) (kinds_append t.records (drop 1 u.records) kinds (kinds_behind u.records (subst HaveKinds view h.kinds)));
  }

-- a base in the byte order and with the header of another table
pub consistent_under : (b own : Inside) (strings : Vec ℕ Global) (types : Vec BtfType Global) → IsConsistent b → IsConsistent own → strings.items ≡ b.strings.items → map record_of types.items ≡ map record_of b.types.items → IsConsistent (record own { strings = strings; types = types; type_len = b.type_len })
consistent_under b own strings types h g strings-are records-are = record {
  magic = g.magic;
  version = g.version;
  flags = g.flags;
  limit = h.limit;
  strings = omega (arith, h.strings, ap length strings-are);
  types = h.types ∙ same_len b.endianness own.endianness (drop 1 (map record_of b.types.items)) ∙ ap (λ (rs : List Record). length (flat_map (spell own.endianness) (drop 1 rs))) (sym records-are);
  first = (h.first.0, records-are ∙ h.first.1);
  kinds = subst AllHaveKinds (sym records-are) h.kinds;
}

-- ---- the first types of a table

behind_front : (n : ℕ) (xs : List BtfType) → 0 < n → drop (n - 1) (drop 1 xs) ≡ drop n xs
behind_front n xs lt = drop-drop (n - 1) 1 xs ∙ ap (λ (k : ℕ). drop k xs) (omega (arith, lt))

-- the first types and the others have the length of all
pub cut_len : (b : Inside) (n : ℕ) → IsConsistent b → 0 < n → b.type_len ≡ spelled b.endianness (take (n - 1) (drop 1 b.types.items)) + spelled b.endianness (drop n b.types.items)
cut_len b n h lt =
    let xs = b.types.items in
    h.types ∙ ap (λ (rs : List Record). length (flat_map (spell b.endianness) rs)) (drop-map record_of 1 xs)
    ∙ ap (spelled b.endianness) (sym (take-append-drop (n - 1) (drop 1 xs))) ∙ spelled-append b.endianness (take (n - 1) (drop 1 xs)) (drop (n - 1) (drop 1 xs))
    ∙ ap (λ (ys : List BtfType). spelled b.endianness (take (n - 1) (drop 1 xs)) + spelled b.endianness ys) (behind_front n xs lt)

first_of : (n : ℕ) (xs : List BtfType) (rs : List Record) → map record_of xs ≡ unknown ∷ rs → 0 < n → map record_of (take n xs) ≡ unknown ∷ take (n - 1) rs
first_of zero xs rs is lt = absurd (omega (arith, lt))
first_of (suc n) xs rs is lt = sym (take-map record_of (suc n) xs) ∙ ap (take (suc n)) is ∙ ap (λ (k : ℕ). unknown ∷ take k rs) (omega arith)

pub consistent_cut : (b : Inside) (n m : ℕ) (removed : ℕ) (strings : Vec ℕ Global) (types : Vec BtfType Global) → IsConsistent b → 0 < n → removed ≡ spelled b.endianness (drop n b.types.items) → strings.items ≡ take m b.strings.items → types.items ≡ take n b.types.items → IsConsistent (record b { strings = strings; types = types; type_len = b.type_len - removed })
consistent_cut b n m removed strings types h lt removed-is strings-are types-are =
    let rs = h.first.0 in
    let xs = b.types.items in
    let records : map record_of types.items ≡ unknown ∷ take (n - 1) rs = ap (map record_of) types-are ∙ first_of n xs rs h.first.1 lt in
    let front : map record_of (take (n - 1) (drop 1 xs)) ≡ take (n - 1) rs = sym (take-map record_of (n - 1) (drop 1 xs)) ∙ ap (take (n - 1)) (sym (drop-map record_of 1 xs) ∙ ap (drop 1) h.first.1) in
    let len : length (flat_map (spell b.endianness) (drop 1 (map record_of types.items))) ≡ spelled b.endianness (take (n - 1) (drop 1 xs)) =
    ap (λ (qs : List Record). length (flat_map (spell b.endianness) (drop 1 qs))) records ∙ ap (λ (qs : List Record). length (flat_map (spell b.endianness) qs)) (sym front) in
    record {
      magic = h.magic;
      version = h.version;
      flags = h.flags;
      limit = omega (arith, h.limit);
      strings = omega (arith, h.strings, ap length strings-are, length-take m b.strings.items);
      types = omega (arith, len, cut_len b n h lt, removed-is);
      first = (take (n - 1) rs, records);
      kinds = subst AllHaveKinds (take-map record_of n xs ∙ ap (map record_of) (sym types-are)) (kinds_take n (map record_of xs) h.kinds);
    }

-- the first types and the first bytes of the strings
abbrev pub first_part : ℕ → ℕ → Table → Table
first_part n m t = record t { strings = take m t.strings; records = take n t.records; fallbacks = take n t.fallbacks }

pub view_cut : (b : Inside) (n m len : ℕ) (strings : Vec ℕ Global) (types : Vec BtfType Global) → strings.items ≡ take m b.strings.items → types.items ≡ take n b.types.items → table_of (record b { strings = strings; types = types; type_len = len }) ≡ first_part n m (table_of b)
view_cut b n m len strings types strings-are types-are =
    let t : Table = table_of b in
    λ i. record t {
      strings = strings-are i;
      records = (ap (map record_of) types-are ∙ sym (take-map record_of n b.types.items)) i;
      fallbacks = (ap (map fallback_of) types-are ∙ sym (take-map fallback_of n b.types.items)) i;
    }
