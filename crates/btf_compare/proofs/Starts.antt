-- The pairs that a comparison adds to a list of starts: pairs of known ids, none of them twice.
use Rattle.std.proofs.Common.{◌≡◌, ℕ, Bool, false, List, [], ◌∷◌, ◌++◌, length, Result, ap, subst, arith, inl, inr}
use Rattle.std.specs.Prelude.{All}
use Rattle.std.specs.List.{AllByRecursion, IsDistinct}
use Rattle.std.proofs.lemmas.List.{length-append, get_or_append_left}
use Rattle.btf_model.specs.Refusal.{Refusal}
use Rattle.btf_model.specs.Table.{Table}
use Rattle.btf_model.specs.Fields.{Pair}
use Rattle.btf_model.specs.Compat.{Plain, pair_eq, firsts}
use Rattle.btf_model.specs.Laws.{AreIdsOfPair}
use Rattle.btf_model.proofs.KnownStarts.{plain_known, firsts_distinct, firsts_few, all_known}
use Rattle.btf_model.proofs.RunStates.{among_of_firsts}
use Rattle.btf_plain.specs.declared.error.BtfError.{BtfError}
use Rattle.btf_compare.specs.Compared.{Traces, AreStarts, GainsStarts}

-- ---- a beginning of a list

all_front : (P : Pair → Type 0) (ps qs : List Pair) → AllByRecursion P (ps ++ qs) → AllByRecursion P ps
all_front P [] qs all = tt
all_front P (p ∷ ps) qs all = (all.0, all_front P ps qs all.1)

distinct_front : (ps qs : List Pair) → IsDistinct pair_eq (ps ++ qs) → IsDistinct pair_eq ps
unfolding IsDistinct
distinct_front [] qs distinct = tt
distinct_front (p ∷ ps) qs distinct = (all_front (λ q. pair_eq p q ≡ false) ps qs distinct.0, distinct_front ps qs distinct.1)

known_front : (P : Pair → Type 0) (ps qs : List Pair) → All P (ps ++ qs) → All P ps
known_front P ps qs all k d lt = subst P (get_or_append_left ps qs d k lt) (all k d (omega (arith, lt, length-append ps qs)))

starts_front : (local target : Table) (ps front rest : List Pair) → ps ≡ front ++ rest → AreStarts local target ps → AreStarts local target front
starts_front local target ps front rest is starts = record {
  known = known_front (AreIdsOfPair local target) front rest (subst (All (AreIdsOfPair local target)) is starts.known);
  once = distinct_front front rest (subst (IsDistinct pair_eq) is starts.once);
  few = omega (arith, starts.few, ap length is, length-append front rest);
}

-- ---- what is added

are_starts : (local target : Table) (p : Pair) (answer : Result Bool Refusal) (listed : List Pair) → Plain local target [] p answer listed → AreStarts local target (firsts listed)
are_starts local target p answer listed plain =
    let known = plain_known local target [] p answer listed plain in
    record { known = all_known local target (firsts listed) (λ q m. known q (among_of_firsts listed q m)); once = firsts_distinct listed; few = firsts_few local target listed known }

pub gains : (local target : Table) (p : Pair) (answer : Result Bool Refusal) (listed : List Pair) (result : Result Bool BtfError) (old new : List (ℕ × ℕ)) → Plain local target [] p answer listed
    → Traces result answer old new (firsts listed) → GainsStarts local target old new
gains local target p answer listed result old new plain (inl all) = (firsts listed, are_starts local target p answer listed plain, all.1)
gains local target p answer listed result old new plain (inr some) =
    (some.1, starts_front local target (firsts listed) some.1 some.2 some.3 (are_starts local target p answer listed plain), some.4)
