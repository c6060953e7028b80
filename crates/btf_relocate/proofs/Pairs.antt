-- Pairs of types: which are equal, which are in the tables, and how many are left.
use Rattle.std.proofs.Common.{◌≡◌, ℕ, zero, suc, ◌*◌, ◌<◌, ◌≤◌, List, [], ◌∷◌, ◌++◌, length, Bool, true, false, Option, Some, None, Result, Ok, Err, refl, sym, ap, subst, ◌∙◌, inl, inr, arith, length-append}
use Rattle.std.specs.Prelude.{◌==◌, ◌&&◌, slice_get}
use Rattle.std.specs.Bool.{beq}
use Rattle.std.specs.BTreeMap.{is_at}
use Rattle.std.specs.Cmp.{both_tied, unsigned_ties}
use Rattle.std.specs.Ordering.{nat_cmp, bool_cmp, ordering_then, is_eq}
use Rattle.std.proofs.lemmas.Bool.Decides.{nat_tests}
use Rattle.std.proofs.lemmas.Bool.{cases_Bool}
use Rattle.btf_model.specs.Record.{Record}
use Rattle.btf_model.specs.Table.{Table}
use Rattle.btf_model.specs.Walk.{Finding, walk_limit, unmodified_in, after_modifier, modified_type}
use Rattle.btf_model.specs.Refusal as refusals
use Rattle.btf_model.specs.Refusal.{Refusal}
use Rattle.btf_relocate_model.specs.Comparison.{Comparison, pair, pair_count, resolved_pair, same_pair}
use Rattle.btf_relocate_model.specs.Types.{◌>>=◌, resolved, walked_id, walk, walk_on}
use Rattle.btf_relocate_model.specs.declared.comparison.Pair.{Pair}
use Rattle.btf_relocate_model.specs.declared.error.RelocationError.{RelocationError}
use Rattle.btf_relocate.specs.Comparing.{pair_cmp, is_among, InTables, pairs_of, all_pairs, count_without, left_of}

-- ---- equal pairs

bool_tied : (a b : Bool) → beq a b ≡ is_eq (bool_cmp a b)
bool_tied true true = refl
bool_tied true false = refl
bool_tied false true = refl
bool_tied false false = refl

pub at_same : (p q : Pair) → same_pair p q ≡ is_at (pair_cmp p) q
at_same p q =
    both_tied (p.local == q.local) (p.target == q.target && beq p.is_pointee q.is_pointee) (nat_cmp p.local q.local) (ordering_then (nat_cmp p.target q.target) (bool_cmp p.is_pointee q.is_pointee))
    (unsigned_ties p.local q.local)
    (both_tied (p.target == q.target) (beq p.is_pointee q.is_pointee) (nat_cmp p.target q.target) (bool_cmp p.is_pointee q.is_pointee) (unsigned_ties p.target q.target) (bool_tied p.is_pointee q.is_pointee))

nat_itself : (n : ℕ) → (n == n) ≡ true
nat_itself n = grind (arith, nat_tests)

nat_same : (m n : ℕ) → (m == n) ≡ true → m ≡ n
nat_same m n is = grind (arith, nat_tests)

beq_itself : (b : Bool) → beq b b ≡ true
beq_itself true = refl
beq_itself false = refl

beq_same : (a b : Bool) → beq a b ≡ true → a ≡ b
beq_same true true is = refl
beq_same true false is = absurd (cc)
beq_same false true is = absurd (cc)
beq_same false false is = refl

and_parts : (a b : Bool) → (a && b) ≡ true → (a ≡ true) × (b ≡ true)
and_parts true b is = (refl, is)
and_parts false b is = absurd (cc)

pub same_itself : (p : Pair) → same_pair p p ≡ true
same_itself p = rw (nat_itself p.local, nat_itself p.target, beq_itself p.is_pointee) refl

pub same_is : (p q : Pair) → same_pair p q ≡ true → p ≡ q
same_is p q is =
    let one = and_parts (p.local == q.local) (p.target == q.target && beq p.is_pointee q.is_pointee) is in
    let two = and_parts (p.target == q.target) (beq p.is_pointee q.is_pointee) one.1 in
    let first : p.local ≡ q.local = nat_same p.local q.local one.0 in
    let second : p.target ≡ q.target = nat_same p.target q.target two.0 in
    let third : p.is_pointee ≡ q.is_pointee = beq_same p.is_pointee q.is_pointee two.1 in
    ap (λ (n : ℕ). let r : Pair = record { local = n; target = p.target; is_pointee = p.is_pointee } in r) first
    ∙ ap (λ (n : ℕ). let r : Pair = record { local = q.local; target = n; is_pointee = p.is_pointee } in r) second
    ∙ ap (λ (b : Bool). let r : Pair = record { local = q.local; target = q.target; is_pointee = b } in r) third

false_true : (b : Bool) → b ≡ false → b ≡ true → ⊥
false_true b is_false is_true = cc

pub same_turned : (p q : Pair) → same_pair p q ≡ same_pair q p
same_turned p q =
    elim (cases_Bool (same_pair p q)) [
      | inl is ↦ is ∙ sym (subst (λ (r : Pair). same_pair r p ≡ true) (same_is p q is) (same_itself p))
      | inr differs ↦ elim (cases_Bool (same_pair q p)) [
        | inl is ↦ absurd (false_true (same_pair p q) differs (subst (λ (r : Pair). same_pair r q ≡ true) (same_is q p is) (same_itself q)))
        | inr other ↦ differs ∙ sym other
      ]
    ]

-- ---- pairs in the tables

among_front : (p : Pair) (ps qs : List Pair) → is_among p ps ≡ true → is_among p (ps ++ qs) ≡ true
among_front p [] qs is = absurd (cc)
among_front p (q ∷ ps) qs is = elim (cases_Bool (same_pair p q)) [
  | inl same ↦ rw same refl
  | inr other ↦ let rest : is_among p ps ≡ true = rw other at is in rw other (among_front p ps qs rest)
]

among_back : (p : Pair) (ps qs : List Pair) → is_among p qs ≡ true → is_among p (ps ++ qs) ≡ true
among_back p [] qs is = is
among_back p (q ∷ ps) qs is = elim (cases_Bool (same_pair p q)) [
  | inl same ↦ rw same refl
  | inr other ↦ rw other (among_back p ps qs is)
]

within_row : (b : Bool) (id t n : ℕ) → t < n → is_among (pair b id t) (pairs_of id n) ≡ true
within_row b id t zero lt = absurd (omega (arith, lt))
within_row true id t (suc n) lt = elim (cases_Bool (t == n)) [
  | inl same ↦ rw (nat_itself id, same) refl
  | inr other ↦ let less : t < n = grind (arith, nat_tests) in rw (nat_itself id, other) (within_row true id t n less)
]
within_row false id t (suc n) lt = elim (cases_Bool (t == n)) [
  | inl same ↦ rw (nat_itself id, same) refl
  | inr other ↦ let less : t < n = grind (arith, nat_tests) in rw (nat_itself id, other) (within_row false id t n less)
]

within_all : (b : Bool) (id t m n : ℕ) → id < m → t < n → is_among (pair b id t) (all_pairs m n) ≡ true
within_all b id t zero n low lt = absurd (omega (arith, low))
within_all b id t (suc m) n low lt = elim (cases_Bool (id == m)) [
  | inl same ↦ among_front (pair b id t) (pairs_of m n) (all_pairs m n) (subst (λ (k : ℕ). is_among (pair b id t) (pairs_of k n) ≡ true) (nat_same id m same) (within_row b id t n lt))
  | inr other ↦ among_back (pair b id t) (pairs_of m n) (all_pairs m n) (within_all b id t m n (grind (arith, nat_tests)) lt)
]

-- ---- pairs that are left

less_or_same : (p : Pair) (others ps : List Pair) → count_without (p ∷ others) ps ≤ count_without others ps
less_or_same p others [] = omega arith
less_or_same p others (q ∷ ps) =
    let rest : count_without (p ∷ others) ps ≤ count_without others ps = less_or_same p others ps in
    elim (cases_Bool (same_pair q p)) [
      | inl same ↦ elim (cases_Bool (is_among q others)) [
        | inl in_others ↦ rw (same, in_others) rest
        | inr out ↦ rw (same, out) (omega (arith, rest))
      ]
      | inr other ↦ elim (cases_Bool (is_among q others)) [
        | inl in_others ↦ rw (other, in_others) rest
        | inr out ↦ rw (other, out) (omega (arith, rest))
      ]
    ]

fewer : (p : Pair) (others ps : List Pair) → is_among p ps ≡ true → is_among p others ≡ false → count_without (p ∷ others) ps < count_without others ps
fewer p others [] is out = absurd (cc)
fewer p others (q ∷ ps) is out = elim (cases_Bool (same_pair p q)) [
  | inl same ↦
      let here : p ≡ q = same_is p q same in
      let again : same_pair q p ≡ true = sym (same_turned p q) ∙ same in
      let absent : is_among q others ≡ false = subst (λ (r : Pair). is_among r others ≡ false) here out in
      let rest : count_without (p ∷ others) ps ≤ count_without others ps = less_or_same p others ps in
      rw (again, absent) (omega (arith, rest))
  | inr other ↦
      let there : is_among p ps ≡ true = rw other at is in
      let rest : count_without (p ∷ others) ps < count_without others ps = fewer p others ps there out in
      let apart : same_pair q p ≡ false = sym (same_turned p q) ∙ other in
      elim (cases_Bool (is_among q others)) [
        | inl in_others ↦ rw (apart, in_others) rest
        | inr absent ↦ rw (apart, absent) (omega (arith, rest))
      ]
]

-- a pair of the tables is among all pairs
pub in_all_pairs : (c : Comparison) (p : Pair) → InTables c p → is_among p (all_pairs (length c.local.records) (length c.target.records)) ≡ true
in_all_pairs c p inside = within_all p.is_pointee p.local p.target (length c.local.records) (length c.target.records) inside.0 inside.1

pub fewer_left : (c : Comparison) (p : Pair) (begun : List Pair) → InTables c p → is_among p begun ≡ false → left_of c (p ∷ begun) < left_of c begun
unfolding left_of
fewer_left c p begun inside out =
    fewer p begun (all_pairs (length c.local.records) (length c.target.records))
    (within_all p.is_pointee p.local p.target (length c.local.records) (length c.target.records) inside.0 inside.1) out

row_length : (id n : ℕ) → length (pairs_of id n) ≡ 2 * n
row_length id zero = refl
row_length id (suc n) = let rest : length (pairs_of id n) ≡ 2 * n = row_length id n in omega (arith, rest)

all_length : (m n : ℕ) → length (all_pairs m n) ≡ 2 * (m * n)
all_length zero n = omega arith
all_length (suc m) n =
    let row : length (pairs_of m n) ≡ 2 * n = row_length m n in
    let rest : length (all_pairs m n) ≡ 2 * (m * n) = all_length m n in
    omega (arith, length-append (pairs_of m n) (all_pairs m n), row, rest)

none_begun : (ps : List Pair) → count_without [] ps ≡ length ps
none_begun [] = refl
none_begun (p ∷ ps) = let rest : count_without [] ps ≡ length ps = none_begun ps in omega (arith, rest)

pub all_left : (c : Comparison) → left_of c [] ≤ pair_count c
unfolding left_of
all_left c =
    let one = none_begun (all_pairs (length c.local.records) (length c.target.records)) in
    let two = all_length (length c.local.records) (length c.target.records) in
    omega (arith, one, two)

-- ---- a pair that ids resolve to is in the tables

module _ (records : List Record) where
  abbrev find : ℕ → Finding ℕ ℕ
  find at = unmodified_in at (slice_get records at)

  abbrev Within : Option (Result ℕ Refusal) → Type 0
  Within (Some (Ok id)) = id < length records
  Within o = Unit {0}

  has_one : (rs : List Record) (at : ℕ) (r : Record) → slice_get rs at ≡ Some r → at < length rs
  has_one [] at r is = absurd (cc)
  has_one (x ∷ rs) zero r is = omega arith
  has_one (x ∷ rs) (suc at) r is = omega (arith, has_one rs at r is)

  ends_within : (n at : ℕ) → ((next : ℕ) → Within (walk find n next)) → (o : Option Record) → slice_get records at ≡ o → Within (walk_on (walk find n) (unmodified_in at o))
  ends_within n at further None is = tt
  ends_within n at further (Some r) is = elim (modified_type r) as (λ t. Within (walk_on (walk find n) (after_modifier at t))) [
    | Some next ↦ further next
    | None ↦ has_one records at r is
  ]

  walk_within : (n at : ℕ) → Within (walk find n at)
  unfolding walk
  walk_within zero at = tt
  walk_within (suc n) at = ends_within n at (walk_within n) (slice_get records at) refl

resolves_within : (records : List Record) (id end : ℕ) (o : Option (Result ℕ Refusal)) → Within records o → walked_id id o ≡ Ok end → end < length records
resolves_within records id end (Some (Ok e)) in_it is = let same : e ≡ end = cc in subst (λ (n : ℕ). n < length records) same in_it
resolves_within records id end (Some (Err (refusals.UnknownBtfType unknown))) in_it is = absurd (cc)
resolves_within records id end o in_it is = absurd (cc)

pub resolved_within : (t : Table) (id end : ℕ) → resolved t id ≡ Ok end → end < length t.records
resolved_within t id end is = resolves_within t.records id end (walk (find t.records) walk_limit id) (walk_within t.records walk_limit id) is

pub pair_within : (c : Comparison) (p q : Pair) → resolved_pair c p ≡ Ok q → InTables c q
pair_within c p q is = by_ids (resolved c.local p.local) (resolved c.target p.target) refl refl is
  where
    by_ids : (one other : Result ℕ RelocationError) → resolved c.local p.local ≡ one → resolved c.target p.target ≡ other
        → (one >>= λ id. other >>= λ end. Ok (pair p.is_pointee id end)) ≡ Ok q → InTables c q
    by_ids (Err e) other first second is = absurd (cc)
    by_ids (Ok id) (Err e) first second is = absurd (cc)
    by_ids (Ok id) (Ok end) first second is =
        let same : pair p.is_pointee id end ≡ q = cc in
        subst (InTables c) same (resolved_within c.local p.local id first, resolved_within c.target p.target end second)
