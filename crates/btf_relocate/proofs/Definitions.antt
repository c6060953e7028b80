-- Definitions of two types, parameter by parameter, member by member and enumerator by enumerator.
use Rattle.std.proofs.Common.{◌≡◌, ℕ, ◌+◌, ◌<◌, ◌≤◌, List, [], ◌∷◌, ◌++◌, length, drop, Bool, true, false, cond, Option, Some, None, Result, Ok, Err, refl, sym, ap, ◌∙◌, inl, inr, arith, append_assoc}
use Rattle.std.specs.Prelude.{◌⊎◌, ◌==◌, ◌||◌, nat_lt, slice_get}
use Rattle.std.specs.Borrow.{Bor}
use Rattle.std.specs.BTreeSet.{BTreeSet, IsEmpty, Updates}
use Rattle.std.specs.Cmp.Lexicographic.{slice_cmp}
use Rattle.std.specs.List.{list_any}
use Rattle.std.specs.Ordering.{nat_cmp}
use Rattle.std.specs.Str.{bytes_eq}
use Rattle.std.proofs.lemmas.Bool.Decides.{nat_tests}
use Rattle.std.proofs.lemmas.List.{drop_all, append-nil}
use Rattle.std.proofs.lemmas.List.Folds.{list_any-append}
use Rattle.std.proofs.lemmas.Map.Text.{is_eq-slice_cmp}
use Rattle.btf_model.specs.Record.{Kind, FuncProto, Record, kind_of}
use Rattle.btf_model.specs.Table.{Table, Variant}
use Rattle.btf_relocate_model.specs.Comparison as model
use Rattle.btf_relocate_model.specs.Comparison.{parameter_ids, prototype_step, pair, all_among, essential_names, enumerators_of, named_enumerators, some_member, each_member, each_parameter, names_match}
use Rattle.btf_relocate_model.specs.Field.{Member}
use Rattle.btf_relocate_model.specs.Name.{essential}
use Rattle.btf_relocate_model.specs.Types.{◌>>=◌, name_at}
use Rattle.btf_relocate_model.specs.declared.comparison.Pair.{Pair}
use Rattle.btf_relocate_model.specs.declared.error.RelocationError.{RelocationError}
use Rattle.btf_relocate.specs.Members.{parameters_by, parameters_of}
use Rattle.btf_relocate.specs.Steps.{Compare, next_index, HasNames, has_name, resumed, from_member, place_after}
use Rattle.btf_relocate.proofs.Enumerators.{at_index}

-- ---- parameters

-- whether an answer is no
abbrev pub is_refusal : Option Bool → Bool
is_refusal (Some false) = true
is_refusal answer = false

-- two FUNC_PROTOs with these numbers of parameters
module _ (b : Bool) (r s : Record) (n m : ℕ) (one : n ≡ length (parameters_of r)) (two : m ≡ length (parameters_of s)) (one_is : kind_of r.info ≡ Some FuncProto) (two_is : kind_of s.info ≡ Some FuncProto) where
  first : parameters_of r ≡ parameter_ids r.tail
  first = ap (λ (k : Option Kind). parameters_by k r.tail) one_is

  second : parameters_of s ≡ parameter_ids s.tail
  second = ap (λ (k : Option Kind). parameters_by k s.tail) two_is

  pub prototypes_differ : (n ≡ m → ⊥) → model.Ends false ≡ prototype_step b r s
  prototypes_differ differ =
      let here : n ≡ length (parameter_ids r.tail) = one ∙ ap length first in
      let there : m ≡ length (parameter_ids s.tail) = two ∙ ap length second in
      let other : (length (parameter_ids r.tail) == length (parameter_ids s.tail)) ≡ false = grind (arith, nat_tests) in
      rw other refl

  pub prototypes_same : n ≡ m → (p : Pair) → p ≡ pair b r.third s.third → model.EachParameter (parameters_of r) (parameters_of s) p ≡ prototype_step b r s
  prototypes_same same p is =
      let here : n ≡ length (parameter_ids r.tail) = one ∙ ap length first in
      let there : m ≡ length (parameter_ids s.tail) = two ∙ ap length second in
      let equal : (length (parameter_ids r.tail) == length (parameter_ids s.tail)) ≡ true = grind (arith, nat_tests) in
      (λ i. model.EachParameter (first i) (second i) (is i)) ∙ rw equal refl

module _ (inner further : Compare) (local target : Table) (ps qs : List ℕ) (p : Pair) (i j : ℕ) where
  abbrev Parameters : Option Bool → Result Bool RelocationError
  Parameters a = resumed inner further local target (model.EachParameter ps qs p) i j a

  abbrev Not : Option Bool → Type 0
  Not a = is_refusal a ≡ false

  each_from : (a : Option Bool) → Not a → Parameters a ≡ each_parameter inner further p (drop i ps) (drop i qs)
  each_from (Some true) other = refl
  each_from (Some false) other = absurd (cc)
  each_from None other = refl

  last_with : (ts us : List ℕ) → (ts ≡ []) ⊎ (us ≡ []) → each_parameter inner further p ts us ≡ further p
  last_with [] us none = refl
  last_with (t ∷ ts) [] none = refl
  last_with (t ∷ ts) (u ∷ us) (inl none) = absurd (cc)
  last_with (t ∷ ts) (u ∷ us) (inr none) = absurd (cc)

  pub last_parameter : (a : Option Bool) → Not a → (length ps ≤ i) ⊎ (length qs ≤ i) → further p ≡ Parameters a
  last_parameter a other (inl le) = sym (each_from a other ∙ last_with (drop i ps) (drop i qs) (inl (drop_all i ps le)))
  last_parameter a other (inr le) = sym (each_from a other ∙ last_with (drop i ps) (drop i qs) (inr (drop_all i qs le)))

  then_parameters : (k : ℕ) → k ≡ i + 1 → (b : Bool) → resumed inner further local target (model.EachParameter ps qs p) k 0 (Some b)
      ≡ cond b (each_parameter inner further p (drop (i + 1) ps) (drop (i + 1) qs)) (Ok false)
  then_parameters k is true = ap (λ (n : ℕ). each_parameter inner further p (drop n ps) (drop n qs)) is
  then_parameters k is false = refl

  each_bound : (o : Result Bool RelocationError) (k : ℕ) → k ≡ i + 1 → (o >>= λ b. resumed inner further local target (model.EachParameter ps qs p) k 0 (Some b))
      ≡ (o >>= λ b. cond b (each_parameter inner further p (drop (i + 1) ps) (drop (i + 1) qs)) (Ok false))
  each_bound (Ok b) k is = then_parameters k is b
  each_bound (Err e) k is = refl

  pub next_parameter : (a : Option Bool) → Not a → (x y : ℕ) → drop i ps ≡ x ∷ drop (i + 1) ps → drop i qs ≡ y ∷ drop (i + 1) qs → (k : ℕ) → k ≡ i + 1
      → (inner (pair p.is_pointee x y) >>= λ b. resumed inner further local target (model.EachParameter ps qs p) k 0 (Some b)) ≡ Parameters a
  next_parameter a other x y first second k is =
      each_bound (inner (pair p.is_pointee x y)) k is
      ∙ sym (each_from a other
      ∙ ap (λ (ts : List ℕ). each_parameter inner further p ts (drop i qs)) first
      ∙ ap (λ (us : List ℕ). each_parameter inner further p (x ∷ drop (i + 1) ps) us) second)

-- ---- members of the target with the name of a local member

module _ (local target : Table) (m : Member) (others : List Member) (i : ℕ) where
  abbrev pub Same : ℕ → Type 0
  Same from = (inner : Compare) → some_member inner local target m (drop from others) ≡ some_member inner local target m (drop i others)

  module _ (from : ℕ) (same : Same from) (o : Member) (here : drop i others ≡ o ∷ drop (i + 1) others) (inner : Compare) where
    at_member : some_member inner local target m (drop from others) ≡ some_member inner local target m (o ∷ drop (i + 1) others)
    at_member = same inner ∙ ap (some_member inner local target m) here

    pub no_name : (e : RelocationError) → names_match local target m.name o.name ≡ Err e → some_member inner local target m (drop from others) ≡ Err e
    no_name e is = at_member ∙ rw is refl

    pub with_name : names_match local target m.name o.name ≡ Ok true → (k : ℕ) → k ≡ i + 1 → some_member inner local target m (drop from others)
        ≡ (inner (pair false m.type o.type) >>= λ b. cond b (Ok true) (some_member inner local target m (drop k others)))
    with_name is k next = rw next (at_member ∙ rw is refl)

    pub other_name : names_match local target m.name o.name ≡ Ok false → some_member inner local target m (drop from others) ≡ some_member inner local target m (drop (i + 1) others)
    other_name is = at_member ∙ rw is refl

  pub no_more : (from : ℕ) → Same from → length others ≤ i → (inner : Compare) → some_member inner local target m (drop from others) ≡ Ok false
  no_more from same le inner = same inner ∙ ap (some_member inner local target m) (drop_all i others le)

-- ---- names of enumerators

module _ (t : Table) (all : List (List ℕ)) (vs : List Variant) (i : ℕ) where
  abbrev pub AllLeft : Type 0
  AllLeft = all_among t all (drop i vs) ≡ all_among t all vs

  among_here : AllLeft → (v : Variant) → slice_get vs i ≡ Some v → all_among t all (v ∷ drop (i + 1) vs) ≡ all_among t all vs
  among_here left v is = ap (all_among t all) (sym (at_index vs i v is)) ∙ left

  pub unreadable : AllLeft → (v : Variant) → slice_get vs i ≡ Some v → (e : RelocationError) → name_at t v.name ≡ Err e → all_among t all vs ≡ Err e
  unreadable left v is e refused = sym (among_here left v is) ∙ rw refused refl

  pub one_missing : AllLeft → (v : Variant) → slice_get vs i ≡ Some v → (name : List ℕ) → name_at t v.name ≡ Ok name → list_any (bytes_eq (essential name)) all ≡ false → all_among t all vs ≡ Ok false
  one_missing left v is name read out = sym (among_here left v is) ∙ rw (read, out) refl

  pub one_among : AllLeft → (v : Variant) → slice_get vs i ≡ Some v → (name : List ℕ) → name_at t v.name ≡ Ok name → list_any (bytes_eq (essential name)) all ≡ true
      → all_among t all (drop (i + 1) vs) ≡ all_among t all vs
  one_among left v is name read within = rw (read, within) at (among_here left v is)

  pub all_are : AllLeft → length vs ≤ i → all_among t all vs ≡ Ok true
  all_are left le = sym left ∙ ap (all_among t all) (drop_all i vs le)

-- the names of the target are read, and it has enough enumerators
pub names_known : (local target : Table) (r s : Record) (few many : ℕ) → many ≡ length (enumerators_of s) → few ≡ length (enumerators_of r) → few ≤ many
    → (names : List (List ℕ)) → essential_names target (enumerators_of s) ≡ Ok names → named_enumerators local target r s ≡ all_among local names (enumerators_of r)
names_known local target r s few many of_target of_local le names read =
    let enough : nat_lt (length (enumerators_of s)) (length (enumerators_of r)) ≡ false = grind (arith, nat_tests) in
    rw (enough, read) refl

bytes_turned : (a b : List ℕ) → bytes_eq a b ≡ bytes_eq b a
bytes_turned [] [] = refl
bytes_turned [] (y ∷ b) = refl
bytes_turned (x ∷ a) [] = refl
bytes_turned (x ∷ a) (y ∷ b) =
    let heads : (x == y) ≡ (y == x) = grind (arith, nat_tests) in
    rw (heads, bytes_turned a b) refl

after_all : (found rest : List (List ℕ)) (o : Result (List (List ℕ)) RelocationError) (name : List ℕ)
    → ((o >>= λ names. Ok (name ∷ names)) >>= λ more. Ok (found ++ more)) ≡ (o >>= λ more. Ok ((found ++ name ∷ []) ++ more))
after_all found rest (Ok names) name = ap (λ (ns : List (List ℕ)). let r : Result (List (List ℕ)) RelocationError = Ok ns in r) (sym (append_assoc found (name ∷ []) names))
after_all found rest (Err e) name = refl

before_all : (o : Result (List (List ℕ)) RelocationError) → o ≡ (o >>= λ more. Ok ([] ++ more))
before_all (Ok names) = refl
before_all (Err e) = refl

module _ (t : Table) (vs : List Variant) (set : BTreeSet (Bor (List ℕ))) where
  -- the names that are read, and those of the other enumerators
  pub record NamesSoFar (i : ℕ) : Type 0 where
    pub found : List (List ℕ)
    pub rest : essential_names t vs ≡ (essential_names t (drop i vs) >>= λ more. Ok (found ++ more))
    pub names : HasNames set found

  pub starts : IsEmpty set → NamesSoFar 0
  starts empty = record { found = []; rest = before_all (essential_names t vs); names = λ name. rw empty refl }

  names_here : (i : ℕ) (sofar : NamesSoFar i) (v : Variant) → slice_get vs i ≡ Some v → essential_names t vs ≡ (essential_names t (v ∷ drop (i + 1) vs) >>= λ more. Ok (sofar.found ++ more))
  names_here i sofar v is = sofar.rest ∙ ap (λ (ws : List Variant). essential_names t ws >>= λ more. Ok (sofar.found ++ more)) (at_index vs i v is)

  pub name_fails : (i : ℕ) (sofar : NamesSoFar i) (v : Variant) → slice_get vs i ≡ Some v → (e : RelocationError) → name_at t v.name ≡ Err e → essential_names t vs ≡ Err e
  name_fails i sofar v is e refused = names_here i sofar v is ∙ rw refused refl

  pub all_read : (i : ℕ) (sofar : NamesSoFar i) → length vs ≤ i → essential_names t vs ≡ Ok sofar.found
  all_read i sofar le =
      sofar.rest ∙ ap (λ (ws : List Variant). essential_names t ws >>= λ more. Ok (sofar.found ++ more)) (drop_all i vs le)
      ∙ ap (λ (ns : List (List ℕ)). let r : Result (List (List ℕ)) RelocationError = Ok ns in r) (append-nil sofar.found)

pub one_more_name : (t : Table) (vs : List Variant) (old new : BTreeSet (Bor (List ℕ))) (i : ℕ) (sofar : NamesSoFar t vs old i) (v : Variant) → slice_get vs i ≡ Some v
    → (name : List ℕ) (key : Bor (List ℕ)) → name_at t v.name ≡ Ok name → key.now ≡ essential name → Updates (λ x y. slice_cmp nat_cmp x.now y.now) old new key true
    → NamesSoFar t vs new (i + 1)
one_more_name t vs old new i sofar v is name key read same updates = record {
  found = sofar.found ++ essential name ∷ [];
  rest = names_here t vs old i sofar v is ∙ rw read (after_all sofar.found [] (essential_names t (drop (i + 1) vs)) (essential name));
  names = λ q. has_more q;
}
  where
    either : (a b x : Bool) → cond a true b ≡ (b || (a || false))
    either true true x = refl
    either true false x = refl
    either false true x = refl
    either false false x = refl

    has_more : (q : Bor (List ℕ)) → has_name new q ≡ list_any (bytes_eq q.now) (sofar.found ++ essential name ∷ [])
    has_more q =
        updates.0 q
        ∙ ap (λ (b : Bool). cond b true (has_name old q)) (is_eq-slice_cmp key.now q.now ∙ bytes_turned key.now q.now ∙ ap (bytes_eq q.now) same)
        ∙ ap (λ (b : Bool). cond (bytes_eq q.now (essential name)) true b) (sofar.names q)
        ∙ either (bytes_eq q.now (essential name)) (list_any (bytes_eq q.now) sofar.found) true
        ∙ sym (list_any-append (bytes_eq q.now) sofar.found (essential name ∷ []))

pub has_it : (set : BTreeSet (Bor (List ℕ))) (all : List (List ℕ)) → HasNames set all → (key : Bor (List ℕ)) (name : List ℕ) (b : Bool) → b ≡ has_name set key → key.now ≡ essential name
    → list_any (bytes_eq (essential name)) all ≡ b
has_it set all has key name b is same = ap (λ (bs : List ℕ). list_any (bytes_eq bs) all) (sym same) ∙ sym (has key) ∙ sym is

-- a local member that needs one of these others
next_index_within : (i : ℕ) → i < 18446744073709551615 → next_index i ≡ i + 1
next_index_within i lt = grind (arith, nat_tests)

module _ (inner further : Compare) (local target : Table) (ms others : List Member) (i j : ℕ) (a : Option Bool) where
  abbrev Members : ℕ → ℕ → Option Bool → Result Bool RelocationError
  Members k l b = resumed inner further local target (model.EachMember ms others) k l b

  module _ (place : ℕ × ℕ) (is : place ≡ place_after i j a) where
    members_at : Members i j a ≡ from_member inner local target others (drop place.1 others) (drop place.0 ms)
    members_at = ap (λ (p : ℕ × ℕ). from_member inner local target others (drop p.1 others) (drop p.0 ms)) (sym is)

    pub members_over : length ms ≤ place.0 → Ok true ≡ Members i j a
    members_over le = sym (members_at ∙ ap (from_member inner local target others (drop place.1 others)) (drop_all place.0 ms le))

    module _ (m : Member) (here : drop place.0 ms ≡ m ∷ drop (place.0 + 1) ms) where
      abbrev each_after : Bool → Result Bool RelocationError
      each_after b = cond b (each_member inner local target others (drop (place.0 + 1) ms)) (Ok false)

      at_this : Members i j a ≡ (some_member inner local target m (drop place.1 others) >>= each_after)
      at_this = members_at ∙ ap (from_member inner local target others (drop place.1 others)) here

      pub member_fails : (e : RelocationError) → some_member inner local target m (drop place.1 others) ≡ Err e → Members i j a ≡ Err e
      member_fails e is-err = at_this ∙ ap (λ (o : Result Bool RelocationError). o >>= each_after) is-err

      pub member_missing : some_member inner local target m (drop place.1 others) ≡ Ok false → Ok false ≡ Members i j a
      member_missing none = sym (at_this ∙ ap (λ (o : Result Bool RelocationError). o >>= each_after) none)

      module _ (k : ℕ) (low : place.0 < 18446744073709551615) where
        start_each : (ns : List Member) → from_member inner local target others others ns ≡ each_member inner local target others ns
        start_each [] = refl
        start_each (n ∷ ns) = refl

        then_members : (b : Bool) → (cond b (Ok true) (some_member inner local target m (drop k others)) >>= each_after) ≡ Members place.0 k (Some b)
        then_members true =
            sym (ap (λ (n : ℕ). from_member inner local target others others (drop n ms)) (next_index_within place.0 low)
            ∙ start_each (drop (place.0 + 1) ms))
        then_members false = sym (ap (from_member inner local target others (drop k others)) here)

        bound_members : (o : Result Bool RelocationError)
            → ((o >>= λ b. cond b (Ok true) (some_member inner local target m (drop k others))) >>= each_after) ≡ (o >>= λ b. Members place.0 k (Some b))
        bound_members (Ok b) = then_members b
        bound_members (Err e) = refl

        pub member_asks : (type : ℕ) → some_member inner local target m (drop place.1 others)
            ≡ (inner (pair false m.type type) >>= λ b. cond b (Ok true) (some_member inner local target m (drop k others)))
            → (inner (pair false m.type type) >>= λ b. Members place.0 k (Some b)) ≡ Members i j a
        member_asks type found =
            sym (at_this ∙ ap (λ (o : Result Bool RelocationError). o >>= each_after) found ∙ bound_members (inner (pair false m.type type)))
