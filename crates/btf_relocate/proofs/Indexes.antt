-- The index of a target's types: what a sort of its entries and two searches give.
use Rattle.std.proofs.Common.{◌≡◌, ℕ, zero, suc, ◌+◌, ◌-◌, ◌<◌, ◌≤◌, List, [], ◌∷◌, ◌++◌, length, get_or, take, drop, map, Bool, true, false, Option, Some, None, refl, sym, ap, subst, ◌∙◌, add-one, append_assoc, arith}
use Rattle.std.specs.Prelude.{◌&&◌, not, filter, if◌then◌else◌, slice_get}
use Rattle.std.specs.List.{All, AllWithin}
use Rattle.std.specs.List.Sorted.{IsPermutation, IsNonDecreasingBy, IsSortedBy, IsStableBy, IsPartitionPoint, IsPartitionedBy, ties}
use Rattle.std.specs.Cmp.{IsTotalOrder}
use Rattle.std.specs.Ordering.{is_lt, is_le, is_eq, nat_cmp, ordering_then, ordering_reverse, ordering_index}
use Rattle.std.specs.declared.cmp.Ordering.{Ordering}
use Rattle.std.specs.declared.cmp.Ordering.TheVariants.{Less, Equal, Greater}
use Rattle.std.proofs.lemmas.Cmp.{then_total, on_total, nat_list_cmp_total, nat_cmp_total}
use Rattle.std.proofs.lemmas.List.{get_or-map, length-map, map-append, append-nil, drop_all}
use Rattle.std.proofs.lemmas.List.Elements.{All-append, All-cons}
use Rattle.std.proofs.lemmas.Option.{slice_get-get_or}
use Rattle.btf_relocate.proofs.Pointers.{element_at}
use Rattle.std.proofs.lemmas.List.Sorted.{All-permutation, length_permutation, searchable_from_sorted}
use Rattle.std.proofs.lemmas.Map.Text.{is_eq-slice_cmp}
use Rattle.btf_relocate_model.specs.Name.{essential, separates, has_flavor}
use Rattle.btf_relocate_model.specs.Candidates.{is_nameless, compared_number, is_candidate, ids_from, candidates, first_candidates}
use Rattle.btf_relocate_model.specs.Types.{name_or_none, known_record, required_record}
use Rattle.btf_model.proofs.Comparisons.{same_ok}
use Rattle.btf_relocate_model.specs.Section.{candidates_by, candidates_of}
use Rattle.std.specs.Prelude.{◌==◌, Vec, Result, Ok, Err, IfOk}
use Rattle.std.specs.Str.{bytes_eq}
use Rattle.std.proofs.lemmas.Bool.{ne_eqb}
use Rattle.std.specs.Cmp.{unsigned_ties}
use Rattle.std.specs.Cmp.Lexicographic.{slice_cmp}
use Rattle.btf_model.specs.Record.{Record, unknown, kind_number}
use Rattle.btf_model.specs.Table.{Table}
use Rattle.btf_relocate.specs.Index.{IsIndex, key_by, record_key, is_named, key_of, key_lt, key_cmp, ids_with_name}
use Rattle.btf_relocate.specs.Entries.{AreEntries, entry_key, id_of}
use Rattle.btf_relocate.specs.declared.target.Entry.{Entry}

abbrev Key : Type 0
Key = List ℕ × ℕ

abbrev pub is_below : Entry → Entry → Bool
is_below x y = key_lt (entry_key x) (entry_key y)

-- ---- the ids of sorted entries

abbrev at_key : Table → Key → ℕ → Bool
at_key t k id = ties key_lt k (key_of t id)

abbrev HaveKeys : Table → List Entry → Type 0
HaveKeys t es = All (λ e. key_of t e.type_id ≡ entry_key e) es

-- an entry with this key
with_key : Entry → Key → Entry
with_key s k = record s { name = record s.name { now = k.0 }; kind = k.1 }

-- the ids at a key are those of the entries at it
ids_at : (t : Table) (k : Key) (es : List Entry) → HaveKeys t es
    → filter (at_key t k) (map id_of es) ≡ map id_of (filter (λ e. ties key_lt k (entry_key e)) es)
ids_at t k [] all = refl
ids_at t k (e ∷ es) all =
    let rest : filter (at_key t k) (map id_of es) ≡ map id_of (filter (λ e. ties key_lt k (entry_key e)) es) = ids_at t k es (λ j d l. all (suc j) d (omega (arith, l))) in
    let here : key_of t e.type_id ≡ entry_key e = all 0 e (omega arith) in
    rw here (elim (ties key_lt k (entry_key e)) as (λ b. (if b then e.type_id ∷ filter (at_key t k) (map id_of es) else filter (at_key t k) (map id_of es))
    ≡ map id_of (if b then e ∷ filter (λ e. ties key_lt k (entry_key e)) es else filter (λ e. ties key_lt k (entry_key e)) es)) [
      | true ↦ ap (λ (ids : List ℕ). e.type_id ∷ ids) rest
      | false ↦ rest
    ])

at_all : (t : Table) (s : Entry) (ys : List Entry) → HaveKeys t ys → (j d : ℕ) → j < length ys → key_of t (get_or (map id_of ys) j d) ≡ entry_key (get_or ys j s)
at_all t s ys all j d l = ap (key_of t) (get_or-map id_of ys j s d l) ∙ all j s l

sorted_ids : (t : Table) (ys : List Entry) → HaveKeys t ys → IsSortedBy is_below ys → IsSortedBy (λ x y. key_lt (key_of t x) (key_of t y)) (map id_of ys)
sorted_ids t [] all rising = λ j d low high. absurd (omega (arith, high))
sorted_ids t (s ∷ es) all rising = λ j d low high.
    let there : j + 1 < length (s ∷ es) = omega (arith, high, length-map (s ∷ es) id_of) in
    let next : key_of t (get_or (map id_of (s ∷ es)) (j + 1) d) ≡ entry_key (get_or (s ∷ es) (j + 1) s) = at_all t s (s ∷ es) all (j + 1) d there in
    let this : key_of t (get_or (map id_of (s ∷ es)) j d) ≡ entry_key (get_or (s ∷ es) j s) = at_all t s (s ∷ es) all j d (omega (arith, there)) in
    (λ i. key_lt (next i) (this i)) ∙ rising j s low there

same_at : (t : Table) (s : Entry) (xs ys : List Entry) → HaveKeys t xs → HaveKeys t ys → IsStableBy is_below xs ys → (k : Key) → filter (at_key t k) (map id_of ys) ≡ filter (at_key t k) (map id_of xs)
unfolding with_key
same_at t s xs ys before after stable k = ids_at t k ys after ∙ ap (map id_of) (stable (with_key s k)) ∙ sym (ids_at t k xs before)

empty_too : (xs ys : List Entry) → length ys ≡ length xs → length xs ≡ 0 → map id_of ys ≡ map id_of xs
empty_too [] [] len none = refl
empty_too [] (y ∷ ys) len none = absurd (omega (arith, len))
empty_too (x ∷ xs) ys len none = absurd (omega (arith, none))

same_ids : (t : Table) (xs ys : List Entry) → length ys ≡ length xs → HaveKeys t xs → HaveKeys t ys → IsStableBy is_below xs ys → (k : Key) → filter (at_key t k) (map id_of ys) ≡ filter (at_key t k) (map id_of xs)
same_ids t [] ys len before after stable k = ap (filter (at_key t k)) (empty_too [] ys len refl)
same_ids t (s ∷ xs) ys len before after stable k = same_at t s (s ∷ xs) ys before after stable k

pub index_made : (t : Table) (xs ys : List Entry) (ids : List ℕ) → AreEntries t xs (ids_with_name t) → IsPermutation xs ys → IsSortedBy is_below ys → IsStableBy is_below xs ys → ids ≡ map id_of ys → IsIndex t ids
index_made t xs ys ids are moved rising stable is =
    let after : HaveKeys t ys = All-permutation (λ e. key_of t e.type_id ≡ entry_key e) xs ys moved are.keys in
    let whole : IsIndex t (map id_of ys) = record {
      sorted = sorted_ids t ys after rising;
      same = λ k. same_ids t xs ys (length_permutation xs ys moved) are.keys after stable k ∙ ap (filter (at_key t k)) are.are;
    } in
    subst (λ (ns : List ℕ). IsIndex t ns) (sym is) whole

-- ---- the part of a list between two places

tail_within : {X : Type 0} (P : X → Type 0) (x : X) (xs : List X) (low high : ℕ) → AllWithin P (x ∷ xs) (suc low) (suc high) → AllWithin P xs low high
tail_within P x xs low high all = λ k d l h. all (suc k) d (omega (arith, l)) (omega (arith, h))

tail_from_zero : {X : Type 0} (P : X → Type 0) (x : X) (xs : List X) (high : ℕ) → AllWithin P (x ∷ xs) 0 (suc high) → AllWithin P xs 0 high
tail_from_zero P x xs high all = λ k d l h. all (suc k) d (omega arith) (omega (arith, h))

first_within : {X : Type 0} (P : X → Type 0) (x : X) (xs : List X) (high : ℕ) → AllWithin P (x ∷ xs) 0 (suc high) → P x
first_within P x xs high all = all 0 x (omega arith) (omega arith)

abbrev pub Splits : {X : Type 0} → (X → Bool) → List X → ℕ → Type 0
Splits p xs i = IsPartitionPoint (λ x. p x ≡ true) (λ x. p x ≡ false) xs i

none_taken : {X : Type 0} (n : ℕ) → take n (let none : List X = [] in none) ≡ []
none_taken zero = refl
none_taken (suc n) = refl

none_left : {X : Type 0} (n : ℕ) → drop n (let none : List X = [] in none) ≡ []
none_left zero = refl
none_left (suc n) = refl

module _ {X : Type 0} (p q r : X → Bool) (is : (x : X) → r x ≡ (q x && not (p x))) where
  abbrev Below : X → Type 0
  Below x = p x ≡ true

  abbrev NotBelow : X → Type 0
  NotBelow x = p x ≡ false

  abbrev UpTo : X → Type 0
  UpTo x = q x ≡ true

  abbrev Above : X → Type 0
  Above x = q x ≡ false

  pub between : (xs : List X) (i j : ℕ) → Splits p xs i → Splits q xs j → take (j - i) (drop i xs) ≡ filter r xs
  between [] i j a b = ap (take (j - i)) (none_left i) ∙ none_taken (j - i)
  between (x ∷ xs) zero zero a b =
      let past : q x ≡ false = first_within Above x xs (length xs) b.1 in
      let rest : take 0 xs ≡ filter r xs = between xs zero zero (λ k d l h. absurd (omega (arith, h)), tail_from_zero NotBelow x xs (length xs) a.1) (λ k d l h. absurd (omega (arith, h)), tail_from_zero Above x xs (length xs) b.1) in
      rw (is x, past) rest
  between (x ∷ xs) zero (suc j) a b =
      let here : q x ≡ true = first_within UpTo x xs j b.0 in
      let from : p x ≡ false = first_within NotBelow x xs (length xs) a.1 in
      let less : j ≡ j - 0 = omega arith in
      let rest : take j xs ≡ filter r xs = ap (λ (n : ℕ). take n xs) less ∙ between xs zero j (λ k d l h. absurd (omega (arith, h)), tail_from_zero NotBelow x xs (length xs) a.1) (tail_from_zero UpTo x xs j b.0, tail_within Above x xs j (length xs) b.1) in
      let whole : suc j - 0 ≡ suc j = omega arith in
      rw (is x, here, from) (ap (λ (n : ℕ). take n (x ∷ xs)) whole ∙ ap (λ (ys : List X). x ∷ ys) rest)
  between (x ∷ xs) (suc i) zero a b =
      let past : q x ≡ false = first_within Above x xs (length xs) b.1 in
      let rest : take (0 - i) (drop i xs) ≡ filter r xs = between xs i zero (tail_from_zero Below x xs i a.0, tail_within NotBelow x xs i (length xs) a.1) (λ k d l h. absurd (omega (arith, h)), tail_from_zero Above x xs (length xs) b.1) in
      let same : 0 - suc i ≡ 0 - i = omega arith in
      rw (is x, past) (ap (λ (n : ℕ). take n (drop i xs)) same ∙ rest)
  between (x ∷ xs) (suc i) (suc j) a b =
      let before : p x ≡ true = first_within Below x xs i a.0 in
      let here : q x ≡ true = first_within UpTo x xs j b.0 in
      let rest : take (j - i) (drop i xs) ≡ filter r xs = between xs i j (tail_from_zero Below x xs i a.0, tail_within NotBelow x xs i (length xs) a.1) (tail_from_zero UpTo x xs j b.0, tail_within Above x xs j (length xs) b.1) in
      let same : suc j - suc i ≡ j - i = omega arith in
      rw (is x, here, before) (ap (λ (n : ℕ). take n (drop i xs)) same ∙ rest)

-- ---- keys

key_total : IsTotalOrder key_cmp
key_total = then_total (on_total (λ (k : Key). k.0) nat_list_cmp_total) (on_total (λ (k : Key). k.1) nat_cmp_total)

not_above : (o : Ordering) → not (is_lt (ordering_reverse o)) ≡ is_le o
not_above Less = refl
not_above Equal = refl
not_above Greater = refl

upto_not_below : (o : Ordering) → (is_le o && not (is_lt o)) ≡ is_eq o
upto_not_below Less = refl
upto_not_below Equal = refl
upto_not_below Greater = refl

both_equal : (o p : Ordering) → is_eq (ordering_then o p) ≡ (is_eq o && is_eq p)
both_equal Less p = refl
both_equal Equal p = refl
both_equal Greater p = refl

-- a key that ties with another, from the order of the other to it
tied : (k other : Key) → ties key_lt k other ≡ (is_le (key_cmp other k) && not (is_lt (key_cmp other k)))
tied k other = ap (λ (o : Ordering). not (is_lt o) && not (is_lt (key_cmp other k))) (key_total.antisymm k other) ∙ ap (λ (b : Bool). b && not (is_lt (key_cmp other k))) (not_above (key_cmp other k))

pub at_index : (t : Table) (ids : List ℕ) (k : Key) (i j : ℕ) → IsIndex t ids → Splits (λ id. is_lt (key_cmp (key_of t id) k)) ids i → Splits (λ id. is_le (key_cmp (key_of t id) k)) ids j
    → take (j - i) (drop i ids) ≡ filter (at_key t k) (ids_with_name t)
at_index t ids k i j index a b =
    between (λ id. is_lt (key_cmp (key_of t id) k)) (λ id. is_le (key_cmp (key_of t id) k)) (at_key t k) (λ id. tied k (key_of t id)) ids i j a b ∙ index.same k

-- what the search of a place asks
rising_to : (t : Table) (ids : List ℕ) (k : Key) → IsIndex t ids → IsNonDecreasingBy (λ id. ordering_index (key_cmp (key_of t id) k)) ids
rising_to t ids k index = searchable_from_sorted key_total (key_of t) ids k index.sorted

-- the place among places of an order below and at another
below_low : (o p : Ordering) → ordering_index o ≤ ordering_index p → is_lt p ≡ true → is_lt o ≡ true
below_low Less p le is = refl
below_low Equal Less le is = absurd (omega (arith, le))
below_low Equal Equal le is = is
below_low Equal Greater le is = is
below_low Greater Less le is = absurd (omega (arith, le))
below_low Greater Equal le is = is
below_low Greater Greater le is = is

upto_low : (o p : Ordering) → ordering_index o ≤ ordering_index p → is_le p ≡ true → is_le o ≡ true
upto_low Less p le is = refl
upto_low Equal p le is = refl
upto_low Greater Less le is = absurd (omega (arith, le))
upto_low Greater Equal le is = absurd (omega (arith, le))
upto_low Greater Greater le is = is

pub below_parted : (t : Table) (ids : List ℕ) (k : Key) → IsIndex t ids → IsPartitionedBy (λ id. is_lt (key_cmp (key_of t id) k)) ids
below_parted t ids k index = λ i j d le lt is. below_low (key_cmp (key_of t (get_or ids i d)) k) (key_cmp (key_of t (get_or ids j d)) k) (rising_to t ids k index i j d le lt) is

pub upto_parted : (t : Table) (ids : List ℕ) (k : Key) → IsIndex t ids → IsPartitionedBy (λ id. is_le (key_cmp (key_of t id) k)) ids
upto_parted t ids k index = λ i j d le lt is. upto_low (key_cmp (key_of t (get_or ids i d)) k) (key_cmp (key_of t (get_or ids j d)) k) (rising_to t ids k index i j d le lt) is

-- ---- the named types at a key

has_name : (x : ℕ) (name : List ℕ) → is_nameless (x ∷ name) ≡ false
has_name x name = ne_eqb (suc (length name)) 0 (λ same. omega (arith, same))

keeps_nameless : (name : List ℕ) → is_nameless (essential name) ≡ is_nameless name
keeps_nameless [] = refl
keeps_nameless (x ∷ name) =
    elim (separates (x ∷ name) && not (has_flavor name)) as (λ b. is_nameless (if b then x ∷ [] else x ∷ essential name) ≡ is_nameless (x ∷ name)) [
      | true ↦ has_name x [] ∙ sym (has_name x name)
      | false ↦ has_name x (essential name) ∙ sym (has_name x name)
    ]

abbrev at_name : Table → List ℕ → ℕ → Record → Bool
at_name t name kind r = ties key_lt (essential name, compared_number kind) (record_key t r)

assoc : (k n b : Bool) → ((k && n) && b) ≡ (k && (n && b))
assoc true n b = refl
assoc false n b = refl

same_test : (k n b : Bool) → (k && (n && b)) ≡ (n && (b && k))
same_test true true true = refl
same_test true true false = refl
same_test true false b = refl
same_test false true true = refl
same_test false true false = refl
same_test false false b = refl

tie_of : (t : Table) (name : List ℕ) (kind : ℕ) (r : Record)
    → at_name t name kind r ≡ (bytes_eq (essential (name_or_none t r.name)) (essential name) && (compared_number (kind_number r.info) == compared_number kind))
tie_of t name kind r =
    let k : Key = (essential name, compared_number kind) in
    let other : Key = record_key t r in
    tied k other ∙ upto_not_below (key_cmp other k) ∙ both_equal (slice_cmp nat_cmp other.0 k.0) (nat_cmp other.1 k.1)
    ∙ ap (λ (b : Bool). b && is_eq (nat_cmp other.1 k.1)) (is_eq-slice_cmp other.0 k.0) ∙ ap (λ (b : Bool). bytes_eq other.0 k.0 && b) (sym (unsigned_ties other.1 k.1))

-- a candidate is a named type at the key
candidate_is : (t : Table) (name : List ℕ) (kind : ℕ) (r : Record) → is_candidate t name kind r ≡ (is_named t r && at_name t name kind r)
candidate_is t name kind r =
    let n : Bool = not (is_nameless (name_or_none t r.name)) in
    let b : Bool = bytes_eq (essential (name_or_none t r.name)) (essential name) in
    assoc (compared_number (kind_number r.info) == compared_number kind) n b ∙ same_test (compared_number (kind_number r.info) == compared_number kind) n b
    ∙ ap (λ (c : Bool). n && c) (sym (tie_of t name kind r))
    ∙ ap (λ (c : Bool). not c && at_name t name kind r) (sym (keeps_nameless (name_or_none t r.name)))

one_candidate : (a c : Bool) (x : ℕ) (p : ℕ → Bool) (some all : List ℕ) → p x ≡ c → filter p some ≡ all
    → filter p (if a then x ∷ some else some) ≡ (if a && c then x ∷ all else all)
one_candidate true true x p some all is rest = rw is (ap (λ (xs : List ℕ). x ∷ xs) rest)
one_candidate true false x p some all is rest = rw is rest
one_candidate false c x p some all is rest = rest

named_from : (t : Table) (name : List ℕ) (kind i : ℕ) (rs : List Record) → ((j : ℕ) (r : Record) → slice_get rs j ≡ Some r → slice_get t.records (i + j) ≡ Some r)
    → filter (at_key t (essential name, compared_number kind)) (ids_from (is_named t) i rs) ≡ ids_from (is_candidate t name kind) i rs
named_from t name kind i [] same = refl
named_from t name kind i (r ∷ rs) same =
    let k : Key = (essential name, compared_number kind) in
    let zero_more : i + 0 ≡ i = omega arith in
    let there : slice_get t.records i ≡ Some r = ap (slice_get t.records) (sym zero_more) ∙ same 0 r refl in
    let here : at_key t k i ≡ at_name t name kind r = ap (λ (o : Option Record). ties key_lt k (key_by t o)) there in
    let rest : filter (at_key t k) (ids_from (is_named t) (suc i) rs) ≡ ids_from (is_candidate t name kind) (suc i) rs =
    named_from t name kind (suc i) rs (λ j x is. ap (slice_get t.records) (omega arith) ∙ same (suc j) x is) in
    one_candidate (is_named t r) (at_name t name kind r) i (at_key t k) (ids_from (is_named t) (suc i) rs) (ids_from (is_candidate t name kind) (suc i) rs) here rest
    ∙ ap (λ (b : Bool). if b then i ∷ ids_from (is_candidate t name kind) (suc i) rs else ids_from (is_candidate t name kind) (suc i) rs) (sym (candidate_is t name kind r))

after_first : (rs : List Record) (j : ℕ) (r : Record) → slice_get (drop 1 rs) j ≡ Some r → slice_get rs (1 + j) ≡ Some r
after_first [] j r is = is
after_first (x ∷ rs) j r is = let same : 1 + j ≡ suc j = omega arith in rw same is

pub candidates_are : (t : Table) (name : List ℕ) (kind : ℕ) → filter (at_key t (essential name, compared_number kind)) (ids_with_name t) ≡ candidates t name kind
candidates_are t name kind = named_from t name kind 1 (drop 1 t.records) (after_first t.records)

-- what two searches of the index give
pub found_between : (t : Table) (ids : List ℕ) (name : List ℕ) (kind i j : ℕ) (own : List ℕ) (code : ℕ) → IsIndex t ids → own ≡ essential name → code ≡ compared_number kind
    → Splits (λ id. is_lt (key_cmp (key_of t id) (own, code))) ids i → Splits (λ id. is_le (key_cmp (key_of t id) (own, code))) ids j → take (j - i) (drop i ids) ≡ candidates t name kind
found_between t ids name kind i j own code index named_so coded_so a b =
    at_index t ids (own, code) i j index a b ∙ ap (λ (n : List ℕ). filter (at_key t (n, code)) (ids_with_name t)) named_so ∙ ap (λ (n : ℕ). filter (at_key t (essential name, n)) (ids_with_name t)) coded_so ∙ candidates_are t name kind

pub none_between : (t : Table) (ids : List ℕ) (name : List ℕ) (kind i j : ℕ) (own : List ℕ) (code : ℕ) → IsIndex t ids → own ≡ essential name → code ≡ compared_number kind
    → Splits (λ id. is_lt (key_cmp (key_of t id) (own, code))) ids i → Splits (λ id. is_le (key_cmp (key_of t id) (own, code))) ids j → j ≤ i → [] ≡ candidates t name kind
none_between t ids name kind i j own code index named_so coded_so a b le =
    let none : j - i ≡ 0 = omega (arith, le) in
    ap (λ (n : ℕ). take n (drop i ids)) (sym none) ∙ found_between t ids name kind i j own code index named_so coded_so a b

-- ---- the list of entries

-- the entries so far, and the ids that are left from this one on
pub record Before (t : Table) (es : List Entry) (i : ℕ) : Type 0 where
  pub are : map id_of es ++ ids_from (is_named t) i (drop i t.records) ≡ ids_with_name t
  pub keys : All (λ e. key_of t e.type_id ≡ entry_key e) es

pub none_before : (t : Table) → Before t [] 1
none_before t = record { are = refl; keys = λ j d l. absurd (omega (arith, l)) }

record_there : (t : Table) (i : ℕ) (d : Record) → i < length t.records → slice_get t.records i ≡ Some (get_or t.records i d)
record_there t i d lt = slice_get-get_or t.records i d lt

module _ (t : Table) (es : List Entry) (i : ℕ) (name : List ℕ) (kind : ℕ) (is : (name, kind) ≡ key_of t i) (lt : i < length t.records) (before : Before t es i) where
  abbrev r : Record
  r = get_or t.records i unknown

  there : slice_get t.records i ≡ Some r
  there = slice_get-get_or t.records i unknown lt

  left : drop i t.records ≡ r ∷ drop (i + 1) t.records
  left = element_at t.records i r there

  name_is : name ≡ essential (name_or_none t r.name)
  name_is = ap (λ (k : Key). k.0) is ∙ ap (λ (o : Option Record). (key_by t o).0) there

  named_is : is_named t r ≡ not (is_nameless name)
  named_is = ap (λ (n : List ℕ). not (is_nameless n)) (sym name_is)

  abbrev rest : List ℕ
  rest = ids_from (is_named t) (suc i) (drop (i + 1) t.records)

  now : map id_of es ++ (if not (is_nameless name) then i ∷ rest else rest) ≡ ids_with_name t
  now = ap (λ (b : Bool). map id_of es ++ (if b then i ∷ rest else rest)) (sym named_is) ∙ ap (λ (rs : List Record). map id_of es ++ ids_from (is_named t) i rs) (sym left) ∙ before.are

  same_rest : ids_from (is_named t) (i + 1) (drop (i + 1) t.records) ≡ rest
  same_rest = ap (λ (n : ℕ). ids_from (is_named t) n (drop (i + 1) t.records)) (add-one i)

  pub not_named : is_nameless name ≡ true → Before t es (i + 1)
  not_named none = record {
    are = ap (λ (ids : List ℕ). map id_of es ++ ids) same_rest ∙ ap (λ (b : Bool). map id_of es ++ (if not b then i ∷ rest else rest)) (sym none) ∙ now;
    keys = before.keys;
  }

  pub one_named : is_nameless name ≡ false → (e : Entry) (new : List Entry) → new ≡ es ++ e ∷ [] → e.type_id ≡ i → entry_key e ≡ (name, kind) → Before t new (i + 1)
  one_named some e new pushed id key =
      let ids : map id_of new ≡ map id_of es ++ i ∷ [] = ap (map id_of) pushed ∙ map-append id_of es (e ∷ []) ∙ ap (λ (n : ℕ). map id_of es ++ n ∷ []) id in
      let one : All (λ e. key_of t e.type_id ≡ entry_key e) (e ∷ []) = All-cons (λ e. key_of t e.type_id ≡ entry_key e) e [] (ap (key_of t) id ∙ sym is ∙ sym key) (λ j d l. absurd (omega (arith, l))) in
      record {
        are = ap (λ (ids : List ℕ). ids ++ ids_from (is_named t) (i + 1) (drop (i + 1) t.records)) ids
            ∙ append_assoc (map id_of es) (i ∷ []) (ids_from (is_named t) (i + 1) (drop (i + 1) t.records))
            ∙ ap (λ (ids : List ℕ). map id_of es ++ i ∷ ids) same_rest
            ∙ ap (λ (b : Bool). map id_of es ++ (if not b then i ∷ rest else rest)) (sym some) ∙ now;
        keys = subst (λ (xs : List Entry). All (λ e. key_of t e.type_id ≡ entry_key e) xs) (sym pushed) (All-append (λ e. key_of t e.type_id ≡ entry_key e) es (e ∷ []) before.keys one);
      }

pub all_before : (t : Table) (es : List Entry) (i : ℕ) → length t.records ≤ i → Before t es i → AreEntries t es (ids_with_name t)
all_before t es i le before = record {
  are = sym (append-nil (map id_of es)) ∙ ap (λ (rs : List Record). map id_of es ++ ids_from (is_named t) i rs) (sym (drop_all i t.records le)) ∙ before.are;
  keys = before.keys;
}

-- ---- the candidates of a type of the program's table

of_known : (local t : Table) (id : ℕ) (o : Option Record) (r : Record) → known_record id o ≡ Ok r → candidates_by local t (Some r) ≡ candidates_by local t o
of_known local t id (Some x) r is = ap (λ (y : Record). candidates_by local t (Some y)) (sym (same_ok x r is))
of_known local t id None r is = absurd (cc)

pub candidates_of_record : (local t : Table) (id : ℕ) (r : Record) → required_record local id ≡ Ok r → first_candidates t (name_or_none local r.name) (kind_number r.info) ≡ candidates_of local t id
candidates_of_record local t id r is = of_known local t id (slice_get local.records id) r is

pub items_are : {A E : Type 0} {xs ys : List ℕ} (r : Result (Vec ℕ A) E) → IfOk r (λ v. v.items ≡ xs) → xs ≡ ys → IfOk r (λ v. v.items ≡ ys)
items_are (Ok v) is same = is ∙ same
items_are (Err e) is same = tt
