-- Worked examples of the comparison of types with themselves: pairs that are started twice, and walks that are too
-- deep.
use Rattle.std.specs.Prelude.{◌≡◌, ◌≢◌, ℕ, zero, suc, ◌+◌, ◌<◌, List, [], ◌∷◌, replicate, slice_get, slice_index_or, Option, Some, None, Bool, true, false, Result, Ok, Err, Contains, refl}
use Rattle.std.proofs.Common.{ap, ◌∙◌, arith, inr}
use Rattle.btf_model.specs.Record.{Record, Kind, Int, Ptr, FuncProto}
use Rattle.btf_model.specs.Refusal.{Refusal, MaximumTypeDepthReached}
use Rattle.btf_model.specs.Table.{Table}
use Rattle.btf_model.specs.Walk.{Resolves, unmodified_in, after_modifier, modified, walk_limit}
use Rattle.btf_model.specs.Fields.{Pair, IsAt}
use Rattle.btf_model.specs.Compat.{Plain, Walked, ComparedInOrder, Finds, ResolvesPair, position_by}
use Rattle.btf_model.specs.Compat.Plain.{walked}
use Rattle.btf_model.specs.Compat.Walked.{too_deep, decided, on, compared}
use Rattle.btf_model.specs.Compat.ComparedInOrder.{all, next}
use Rattle.btf_model.specs.CompatExamples.{table_with, pair_of_ids, itself, none_open}

-- ---- steps

-- a type that is no modifier resolves to itself
pub no_modifier : (t : Table) (id : ℕ) (k : Kind) (r : Record) → IsAt t id k r → modified (Some k) r ≡ None → Resolves t.records id (Ok id)
no_modifier t id k r is plain = itself t id (ap (unmodified_in id) is.0 ∙ ap (λ (x : Option Kind). after_modifier id (modified x r)) is.1 ∙ ap (after_modifier id) plain)

pending_itself : (t : Table) (id : ℕ) (k : Kind) (r : Record) → IsAt t id k r → modified (Some k) r ≡ None → ResolvesPair t t (pair_of_ids id id) (Ok (pair_of_ids id id))
pending_itself t id k r is plain = (no_modifier t id k r is plain, no_modifier t id k r is plain)

-- what is found when it is compared with itself
pub on_itself : (t : Table) (id : ℕ) (k : Kind) (r : Record) → IsAt t id k r → modified (Some k) r ≡ None → Finds t t (pair_of_ids id id) (position_by id k r r)
on_itself t id k r is plain = inr (pair_of_ids id id, k, k, r, r, pending_itself t id k r is plain, is, is, inr (refl, refl))

-- this pair is started while nothing is open, and while another type is compared with itself
pub alone : (t : Table) (id : ℕ) (k : Kind) (r : Record) (answer : Result Bool Refusal) (starts : List Pair) → IsAt t id k r → Walked t t (pair_of_ids id id ∷ []) walk_limit (pair_of_ids id id) answer starts → Plain t t [] (pair_of_ids id id) answer (pair_of_ids id id ∷ starts)
alone t id k r answer starts is walk = walked [] (pair_of_ids id id) k k answer starts (none_open (pair_of_ids id id)) (r, r, is, is) refl walk

other_open : (above id : ℕ) → above ≢ id → ¬ (Contains (pair_of_ids above above ∷ []) (pair_of_ids id id))
other_open above id differ c = at_place c.0 c.1 c.2
  where
    at_place : (k : ℕ) → k < 1 → slice_index_or (pair_of_ids above above ∷ []) k (pair_of_ids id id) ≡ pair_of_ids id id → ⊥
    at_place zero lt is = differ (ap (λ (x : Pair). x.local) is)
    at_place (suc k) lt is = omega (arith, lt)

under_one : (t : Table) (above id : ℕ) (k : Kind) (r : Record) (answer : Result Bool Refusal) (starts : List Pair) → above ≢ id → IsAt t id k r → Walked t t (pair_of_ids id id ∷ pair_of_ids above above ∷ []) walk_limit (pair_of_ids id id) answer starts
    → Plain t t (pair_of_ids above above ∷ []) (pair_of_ids id id) answer (pair_of_ids id id ∷ starts)
under_one t above id k r answer starts differ is walk = walked (pair_of_ids above above ∷ []) (pair_of_ids id id) k k answer starts (other_open above id differ) (r, r, is, is) refl walk

-- ---- small tables

abbrev int : Record
int = record { name = 0; info = 0x01000000; third = 4; tail = 0x20 ∷ [] }

abbrev pointer : ℕ → Record
pointer type = record { name = 0; info = 0x02000000; third = type; tail = [] }

-- a prototype with one parameter of a type, that returns another
abbrev prototype : ℕ → ℕ → Record
prototype parameter type = record { name = 0; info = 0x0d000001; third = type; tail = 0 ∷ parameter ∷ [] }

-- INT 1 begins at bit 8: it is not compatible even with itself.
abbrev shifted : Table
shifted = table_with (record { name = 0; info = 0x01000000; third = 4; tail = 0x00080010 ∷ [] } ∷ [])

shifted_is_not_itself : Plain shifted shifted [] (pair_of_ids 1 1) (Ok false) (pair_of_ids 1 1 ∷ [])
shifted_is_not_itself = alone shifted 1 Int _ (Ok false) [] (refl, refl) (decided _ 31 (pair_of_ids 1 1) (Ok false) (on_itself shifted 1 Int _ (refl, refl) refl))

-- FUNC_PROTO 1 has two parameters of type 2 and returns type 2, which is an INT. The pair of 2 is started for each
-- parameter, because no result is remembered. The return type is a position of the walk, so its pair is not started.
abbrev two_parameters : Table
two_parameters = table_with (record { name = 0; info = 0x0d000002; third = 2; tail = 0 ∷ 2 ∷ 0 ∷ 2 ∷ [] } ∷ int ∷ [])

int_parameter : Plain two_parameters two_parameters (pair_of_ids 1 1 ∷ []) (pair_of_ids 2 2) (Ok true) (pair_of_ids 2 2 ∷ [])
int_parameter = under_one two_parameters 1 2 Int _ (Ok true) [] (λ e. omega (arith, e)) (refl, refl) (decided _ 31 (pair_of_ids 2 2) (Ok true) (on_itself two_parameters 2 Int _ (refl, refl) refl))

parameters_are_started_again : Plain two_parameters two_parameters [] (pair_of_ids 1 1) (Ok true) (pair_of_ids 1 1 ∷ pair_of_ids 2 2 ∷ pair_of_ids 2 2 ∷ [])
parameters_are_started_again =
    let pending = pending_itself two_parameters 2 Int _ (refl, refl) refl in
    alone two_parameters 1 FuncProto _ (Ok true) (pair_of_ids 2 2 ∷ pair_of_ids 2 2 ∷ []) (refl, refl)
    (compared _ 31 (pair_of_ids 1 1) (pair_of_ids 2 2) (pair_of_ids 2 2 ∷ pair_of_ids 2 2 ∷ []) (Ok true) (pair_of_ids 2 2 ∷ pair_of_ids 2 2 ∷ []) [] (on_itself two_parameters 1 FuncProto _ (refl, refl) refl)
    (next _ (pair_of_ids 2 2) (pair_of_ids 2 2) (pair_of_ids 2 2 ∷ []) (Ok true) (pair_of_ids 2 2 ∷ []) (pair_of_ids 2 2 ∷ []) pending int_parameter
    (next _ (pair_of_ids 2 2) (pair_of_ids 2 2) [] (Ok true) (pair_of_ids 2 2 ∷ []) [] pending int_parameter (all _)))
    (decided _ 30 (pair_of_ids 2 2) (Ok true) (on_itself two_parameters 2 Int _ (refl, refl) refl)))

-- ---- a walk in a circle

-- FUNC_PROTO 1 has a parameter of type 2 and returns type 3; 2 is an INT, and 3 is a PTR to 1. The walk is cyclic, so
-- it ends at its limit. In each round the parameter's pair is started again, because no result is remembered.
abbrev circle : Table
circle = table_with (prototype 2 3 ∷ int ∷ pointer 1 ∷ [])

its_parameter : ComparedInOrder circle circle (pair_of_ids 1 1 ∷ []) (pair_of_ids 2 2 ∷ []) (Ok true) (pair_of_ids 2 2 ∷ [])
its_parameter =
    next _ (pair_of_ids 2 2) (pair_of_ids 2 2) [] (Ok true) (pair_of_ids 2 2 ∷ []) [] (pending_itself circle 2 Int _ (refl, refl) refl)
    (under_one circle 1 2 Int _ (Ok true) [] (λ e. omega (arith, e)) (refl, refl) (decided _ 31 (pair_of_ids 2 2) (Ok true) (on_itself circle 2 Int _ (refl, refl) refl)))
    (all _)

-- a round has two positions
abbrev positions : ℕ → ℕ
positions zero = zero
positions (suc turns) = suc (suc (positions turns))

turns : (n : ℕ) → Walked circle circle (pair_of_ids 1 1 ∷ []) (positions n) (pair_of_ids 1 1) (Err (MaximumTypeDepthReached 1)) (replicate n (pair_of_ids 2 2))
turns zero = too_deep _ (pair_of_ids 1 1)
turns (suc n) =
    compared _ (suc (positions n)) (pair_of_ids 1 1) (pair_of_ids 3 3) (pair_of_ids 2 2 ∷ []) (Err (MaximumTypeDepthReached 1)) (pair_of_ids 2 2 ∷ []) (replicate n (pair_of_ids 2 2)) (on_itself circle 1 FuncProto _ (refl, refl) refl) its_parameter
    (on _ (positions n) (pair_of_ids 3 3) (pair_of_ids 1 1) (Err (MaximumTypeDepthReached 1)) (replicate n (pair_of_ids 2 2)) (on_itself circle 3 Ptr _ (refl, refl) refl) (turns n))

circle_is_cut : Plain circle circle [] (pair_of_ids 1 1) (Err (MaximumTypeDepthReached 1)) (pair_of_ids 1 1 ∷ replicate 16 (pair_of_ids 2 2))
circle_is_cut = alone circle 1 FuncProto _ (Err (MaximumTypeDepthReached 1)) (replicate 16 (pair_of_ids 2 2)) (refl, refl) (turns 16)

-- ---- a walk that comes upon a pair that came out true

-- a number of pointers, the first to this type, and each other to the pointer before it; then a prototype
abbrev pointers : ℕ → ℕ → List Record
pointers type zero = prototype 32 32 ∷ []
pointers type (suc n) = pointer type ∷ pointers (suc type) n

-- INT 1, PTR 2 to 1 and so on up to PTR 32 to 31, and FUNC_PROTO 33 with a parameter of type 32 that returns type 32.
abbrev chain : Table
chain = table_with (int ∷ pointers 1 31)

pointer_at : (type n k : ℕ) → k < n → slice_get (pointers type n) k ≡ Some (pointer (type + k))
pointer_at type zero k lt = absurd (omega (arith, lt))
pointer_at type (suc n) zero lt = ap (λ (id : ℕ). Some (pointer id)) (omega arith)
pointer_at type (suc n) (suc k) lt = pointer_at (suc type) n k (omega (arith, lt)) ∙ ap (λ (id : ℕ). Some (pointer id)) (omega arith)

is_pointer : (k : ℕ) → k < 31 → IsAt chain (suc (suc k)) Ptr (pointer (suc k))
is_pointer k lt = (pointer_at 1 31 k lt ∙ ap (λ (id : ℕ). Some (pointer id)) (omega arith), refl)

-- the walk from the pointer k + 1 reaches the INT after k + 1 positions
comes_to_int : (above : List Pair) (k : ℕ) → k < 32 → Walked chain chain above (suc k) (pair_of_ids (suc k) (suc k)) (Ok true) []
comes_to_int above zero lt = decided above zero (pair_of_ids 1 1) (Ok true) (on_itself chain 1 Int _ (refl, refl) refl)
comes_to_int above (suc k) lt =
    on above (suc k) (pair_of_ids (suc (suc k)) (suc (suc k))) (pair_of_ids (suc k) (suc k)) (Ok true) [] (on_itself chain (suc (suc k)) Ptr (pointer (suc k)) (is_pointer k (omega (arith, lt))) refl) (comes_to_int above k (omega (arith, lt)))

-- with one position less the walk ends just before the INT
is_cut : (above : List Pair) (k : ℕ) → k < 32 → Walked chain chain above k (pair_of_ids (suc k) (suc k)) (Err (MaximumTypeDepthReached 1)) []
is_cut above zero lt = too_deep above (pair_of_ids 1 1)
is_cut above (suc k) lt =
    on above k (pair_of_ids (suc (suc k)) (suc (suc k))) (pair_of_ids (suc k) (suc k)) (Err (MaximumTypeDepthReached 1)) [] (on_itself chain (suc (suc k)) Ptr (pointer (suc k)) (is_pointer k (omega (arith, lt))) refl) (is_cut above k (omega (arith, lt)))

-- The parameter's pair is compatible. The walk reaches this pair again as its return type with 31 positions left, walks
-- through it, and ends at its limit.
true_pair_is_walked_through : Plain chain chain [] (pair_of_ids 33 33) (Err (MaximumTypeDepthReached 1)) (pair_of_ids 33 33 ∷ pair_of_ids 32 32 ∷ [])
true_pair_is_walked_through =
    alone chain 33 FuncProto _ (Err (MaximumTypeDepthReached 1)) (pair_of_ids 32 32 ∷ []) (refl, refl)
    (compared _ 31 (pair_of_ids 33 33) (pair_of_ids 32 32) (pair_of_ids 32 32 ∷ []) (Err (MaximumTypeDepthReached 1)) (pair_of_ids 32 32 ∷ []) [] (on_itself chain 33 FuncProto _ (refl, refl) refl)
    (next _ (pair_of_ids 32 32) (pair_of_ids 32 32) [] (Ok true) (pair_of_ids 32 32 ∷ []) [] (pending_itself chain 32 Ptr _ (refl, refl) refl)
    (under_one chain 33 32 Ptr _ (Ok true) [] (λ e. omega (arith, e)) (refl, refl) (comes_to_int _ 31 (omega arith)))
    (all _))
    (is_cut _ 31 (omega arith)))
