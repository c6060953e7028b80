-- Passed prototypes: long ones whose parameters are all known to be compatible. A walk that meets them again continues
-- with their return types.
use Rattle.std.proofs.Common.{◌≡◌, ℕ, ◌<◌, ◌≤◌, List, length, sym, ap, subst, ◌∙◌, inl, inr, Bool, true, false, Ok, arith}
use Rattle.std.specs.Prelude.{cond, ◌⊎◌, ◌==◌}
use Rattle.std.specs.List.{list_any}
use Rattle.std.specs.BTreeSet as ordered
use Rattle.std.specs.BTreeSet.{BTreeSet}
use Rattle.std.specs.BTreeMap.{is_at}
use Rattle.std.specs.Ordering.{is_eq, nat_cmp}
use Rattle.std.specs.Cmp.{both_tied, unsigned_ties}
use Rattle.std.proofs.lemmas.Bool.{false≢true}
use Rattle.btf_model.specs.Table.{Table}
use Rattle.btf_model.specs.Fields.{Pair}
use Rattle.btf_model.specs.Compat.{Pending, Finds, ResolvesPair, Position, pair_eq}
use Rattle.btf_model.specs.Run as runs
use Rattle.btf_model.specs.Run.{IsNext}
use Rattle.btf_model.proofs.Comparisons.{one_position, found_alike}
use Rattle.btf_model.proofs.RunLengths.{pending_at, left_to_do, less_passed}
use Rattle.btf_model.proofs.RunStates.{AllBefore, run_passes}
use Rattle.btf_compare.specs.Entries.{ids_cmp}
use Rattle.btf_compare.specs.Compared.{GoesPast, passed_in}
use Rattle.btf_compare.specs.Pairs.{ids_of}
use Rattle.btf_compare.proofs.Comparing.{PairSet, IsIn, Changes, IsRunning}

-- ---- the set

-- an empty set has nothing
pub nothing_in : (set : BTreeSet (ℕ × ℕ)) → ordered.IsEmpty set → (p : Pair) → passed_in set p ≡ false
nothing_in set is p = ap (list_any (is_at (ids_cmp (ids_of p)))) is

-- pairs that compare as equal are equal
same_ids : (p q : Pair) → is_eq (ids_cmp (ids_of p) (ids_of q)) ≡ pair_eq p q
same_ids p q = sym (both_tied (p.local == q.local) (p.target == q.target) (nat_cmp p.local q.local) (nat_cmp p.target q.target) (unsigned_ties p.local q.local) (unsigned_ties p.target q.target))

-- whether each pair is in the set after an insertion
pub inserted : (old new : BTreeSet (ℕ × ℕ)) (p : Pair) → ((ids : ℕ × ℕ) → ordered.contains ids_cmp new ids ≡ cond (is_at (ids_cmp (ids_of p)) ids) true (ordered.contains ids_cmp old ids)) → Changes (passed_in old) (passed_in new) p true
inserted old new p given q = given (ids_of q) ∙ ap (λ (x : Bool). cond x true (passed_in old q)) (same_ids p q)

-- ---- the passed prototypes

module _ (local target : Table) where
  -- Each parameter of the passed prototypes resolves to a pair that is known to be compatible.
  abbrev pub ArePassed : PairSet → PairSet → Type 0
  ArePassed settled passed = (p : Pair) → IsIn passed p → (at : Pair) → ResolvesPair local target at (Ok p) → (pending : List Pair) (to : Pair) → Finds local target at (Pending pending to) → AllBefore local target pending (length pending) (IsIn settled)

  pub none_passed : (settled passed : PairSet) → ((p : Pair) → passed p ≡ false) → ArePassed settled passed
  none_passed settled passed none p is = absurd (false≢true (sym (none p) ∙ is))

  pub still_passed : (settled more passed : PairSet) → ((q : Pair) → IsIn settled q → IsIn more q) → ArePassed settled passed → ArePassed more passed
  still_passed settled more passed still are p is at resolves pending to finds index lt at_index there =
      let was = are p is at resolves pending to finds index lt at_index there in
      (was.0, was.1, still was.0 was.2)

  module _ (root : Pair) (opened settled : PairSet) (top g : runs.Frame) (below : List runs.Frame) (many : ℕ) (IsReported : List (ℕ × ℕ) → Type 0) (state : IsRunning local target root opened settled top below many IsReported) (ids : Pair) (past : GoesPast local target top g ids) where
    -- after their last parameter, the prototypes are passed
    pub more_passed : (passed more : PairSet) → length past.pending ≤ top.parameter → ((q : Pair) → IsIn more q → IsIn passed q ⊎ (ids ≡ q)) → ArePassed settled passed → ArePassed settled more
    more_passed passed more le gains are p is at resolves pending to finds index lt at_index there =
        elim (gains p is) [
          | inl was ↦ are p was at resolves pending to finds index lt at_index there
          | inr same ↦
              let found : Finds local target (top.at) (Pending pending to) = found_alike local target at (top.at) p (Pending pending to) resolves (subst (λ (x : Pair). ResolvesPair local target (top.at) (Ok x)) same past.resolves) finds in
              let few : length pending ≡ length past.pending = ap (λ (x : Position). length (pending_at x)) (one_position local target (top.at) (Pending pending to) (Pending past.pending past.to) found past.finds) in
              state.run.walks.compared pending to found index (omega (arith, lt, few, le)) at_index there
        ]

    pub skips : (passed : PairSet) → IsIn passed ids → top.parameter ≡ 0 → ArePassed settled passed → IsRunning local target root opened settled g below many IsReported
    skips passed is none are =
        subst (λ (x : runs.Frame). IsRunning local target root opened settled x below many IsReported) (sym past.is)
        (record {
          listed = state.listed;
          counts = state.counts;
          added = state.added;
          run = run_passes local target (IsIn settled) root (length past.pending) top past.left past.pending past.to below state.listed state.run past.was past.finds (are ids is (top.at) past.resolves past.pending past.to past.finds) (omega (arith, none));
          among = state.among;
          has_all = state.has_all;
        })

    pub skips_less : (known w : ℕ) → left_to_do known many w g below < left_to_do known many w top below
    skips_less known w = subst (λ (x : runs.Frame). left_to_do known many w x below < left_to_do known many w top below) (sym past.is) (less_passed local target known many w past.left top past.to below past.was)
