-- The run of the comparison of types, from the walk of one open pair to the next.
use Rattle.std.proofs.Common.{◌≡◌, ℕ, ◌+◌, ◌<◌, ◌≤◌, List, [], ◌∷◌, ◌++◌, length, refl, sym, ap, subst, ◌∙◌, inr, Bool, true, false, Option, Some, None, Ok, Err, Result, arith}
use Rattle.std.specs.BTreeSet.{BTreeSet, IsEmpty}
use Rattle.btf_model.specs.Table.{Table}
use Rattle.btf_model.specs.Fields.{Pair}
use Rattle.btf_model.specs.Run as runs
use Rattle.btf_model.specs.Run.{new_frame, IsNext}
use Rattle.btf_model.proofs.Known.{known_pairs}
use Rattle.btf_model.proofs.RunLengths.{widest, left_to_do, less_on, less_settled}
use Rattle.btf_plain.specs.declared.error.BtfError.{BtfError}
use Rattle.btf_compare.specs.declared.frame.Frame.{Frame}
use Rattle.btf_compare.specs.declared.frame.Place.{Place}
use Rattle.btf_compare.specs.declared.frame.Place.TheVariants as places
use Rattle.btf_compare.specs.declared.position.ProtoPair.{ProtoPair}
use Rattle.btf_compare.specs.declared.entries.Progress.TheVariants.{Open, Compatible}
use Rattle.btf_compare.specs.declared.pair_map.PairMap.{PairMap}
use Rattle.btf_compare.specs.PairMap.{known_progress, count, Learns}
use Rattle.btf_compare.specs.Compared.{WalksTo, ComesTo, NextParameterIs, AreAt, GainsOnly, IsStarted, frame_of, pending_of, is_progress_open, is_progress_compatible, opened_in, compatible_in, passed_in, Compares}
use Rattle.btf_compare.specs.Pairs.{pair_of, ids_of}
use Rattle.btf_compare.proofs.Comparing.{PairSet, IsRunning, stack_of, stack_push, root_started, ends_refused, goes_on, starts, settles, still_in}
use Rattle.btf_compare.proofs.Passed.{ArePassed, none_passed, nothing_in, still_passed, more_passed, skips, skips_less}
use Rattle.btf_compare.proofs.Progresses.{learned, learned_nothing}
use Rattle.btf_compare.proofs.Steps.{GoesTo, goes_past}

-- ---- a walk that waits for no pair

module _ (local target : Table) (root : Pair) (opened settled passed : PairSet) (below : List runs.Frame) (many : ℕ) (IsReported : List (ℕ × ℕ) → Type 0) (are : ArePassed local target settled passed) (f : runs.Frame) (state : IsRunning local target root opened settled f below many IsReported) where
  pub walked : (h : runs.Frame) → WalksTo local target passed f h → IsRunning local target root opened settled h below many IsReported
  walked h (WalksTo.here) = state
  walked h (WalksTo.on g _ goes next) = goes_on local target root opened settled g below many IsReported (walked g goes) h next
  walked h (WalksTo.past g _ ids goes past is none) = skips local target root opened settled g h below many IsReported (walked g goes) ids past passed is none are

  pub walked_less : (pairs w : ℕ) (h : runs.Frame) → WalksTo local target passed f h → left_to_do pairs many w h below ≤ left_to_do pairs many w f below
  walked_less pairs w h (WalksTo.here) = omega arith
  walked_less pairs w h (WalksTo.on g _ goes next) = omega (arith, walked_less pairs w g goes, less_on local target pairs many w g h below next)
  walked_less pairs w h (WalksTo.past g _ ids goes past is none) =
      omega (arith, walked_less pairs w g goes, skips_less local target root opened settled g h below many IsReported (walked g goes) ids past pairs w)

-- ---- where a walk stops

pub ends_by : (local target : Table) (top : Frame) (place : Place) (answer b : Bool) → place ≡ places.Ends answer → answer ≡ b → ComesTo local target top (Ok place) → IsNext local target (frame_of top) (runs.Ends (Ok b))
ends_by local target top place answer b is same h =
    subst (λ (x : Bool). IsNext local target (frame_of top) (runs.Ends (Ok x))) same (subst (λ (p : Place). ComesTo local target top (Ok p)) is h)

-- the next parameter
pub waits_for : (local target : Table) (top g : Frame) (found : ProtoPair) (o : Option (ℕ × ℕ)) (ids : ℕ × ℕ) → o ≡ Some ids → NextParameterIs local target top g found (Ok o) → IsNext local target (frame_of top) (runs.Waits (pair_of ids) (frame_of g))
waits_for local target top g found o ids is h = subst (λ (x : Option (ℕ × ℕ)). NextParameterIs local target top g found (Ok x)) is h

-- the prototypes stay in their place
pub still_pending : (local target : Table) (g : Frame) (place : Place) (found : ProtoPair) → place ≡ places.Pending found → AreAt local target g found → ComesTo local target g (Ok place)
still_pending local target g place found is here = subst (λ (p : Place). ComesTo local target g (Ok p)) (sym is) here

-- ---- the run

-- This is the state of a run, in which this pair is open above the others.
abbrev pub Running : Table → Table → Pair → PairMap → List Frame → Frame → (List (ℕ × ℕ) → Type 0) → Type 0
Running local target root seen below top IsReported = IsRunning local target root (opened_in seen) (compatible_in seen) (frame_of top) (stack_of below) (count seen) IsReported

-- the passed prototypes
abbrev pub PassedIn : Table → Table → PairMap → BTreeSet (ℕ × ℕ) → Type 0
PassedIn local target seen passed = ArePassed local target (compatible_in seen) (passed_in passed)

-- what is left to do
abbrev pub left : Table → Table → PairMap → List Frame → Frame → ℕ
left local target seen below top = left_to_do (length (known_pairs local target)) (count seen) (widest local.records) (frame_of top) (stack_of below)

pub shorter : (a b c : ℕ) → a ≤ b → b < c → a < c
shorter a b c le lt = omega (arith, le, lt)

pub lower : (a b c : ℕ) → a < b → b < c → a < c
lower a b c lt more = omega (arith, lt, more)

-- ---- its beginning

module _ (local target : Table) (ids : ℕ × ℕ) (empty seen : PairMap) (is_empty : (q : ℕ × ℕ) → known_progress empty q ≡ None) (learns : Learns empty seen ids Open) where
  none_settled : (q : Pair) → compatible_in seen q ≡ false
  none_settled q = ap (λ (f : Pair → Bool). f q) (learned_nothing empty seen ids Open learns is_progress_compatible (ap is_progress_compatible (is_empty ids))) ∙ ap is_progress_compatible (is_empty (ids_of q))

  pub begun : (top : Frame) (below : List Frame) (IsReported : List (ℕ × ℕ) → Type 0) → IsStarted local target (pair_of ids) true → frame_of top ≡ new_frame (pair_of ids) → below ≡ [] → count seen ≡ count empty + 1 → count empty ≡ 0 → IsReported (ids ∷ []) → Running local target (pair_of ids) seen below top IsReported
  begun top below IsReported starts new none counts zero added =
      root_started local target ids top (opened_in empty) (opened_in seen) (compatible_in seen) below (count seen) IsReported starts new none (λ q. ap is_progress_open (is_empty (ids_of q))) none_settled
      (learned empty seen ids Open learns is_progress_open) (counts ∙ ap (λ (n : ℕ). n + 1) zero) added

  pub begun_passed : (old passed : BTreeSet (ℕ × ℕ)) → IsEmpty old → passed ≡ old → PassedIn local target seen passed
  begun_passed old passed none same = none_passed local target (compatible_in seen) (passed_in passed) (λ p. ap (λ (set : BTreeSet (ℕ × ℕ)). passed_in set p) same ∙ nothing_in old none p)

module _ (local target : Table) (root : Pair) (seen : PairMap) (passed : BTreeSet (ℕ × ℕ)) (below : List Frame) (top : Frame) (IsReported : List (ℕ × ℕ) → Type 0) (state : Running local target root seen below top IsReported) (are : PassedIn local target seen passed) where
  -- ---- its walk

  module _ (g : Frame) (goes : WalksTo local target (passed_in passed) (frame_of top) (frame_of g)) where
    pub walks : Running local target root seen below g IsReported
    walks = walked local target root (opened_in seen) (compatible_in seen) (passed_in passed) (stack_of below) (count seen) IsReported are (frame_of top) state (frame_of g) goes

    pub walks_less : left local target seen below g ≤ left local target seen below top
    walks_less = walked_less local target root (opened_in seen) (compatible_in seen) (passed_in passed) (stack_of below) (count seen) IsReported are (frame_of top) state (length (known_pairs local target)) (widest local.records) (frame_of g) goes

    pub walk_fails : (e : BtfError) (result : Result Bool BtfError) → ComesTo local target g (Err e) → result ≡ Err e → Compares local target root result IsReported
    walk_fails e result comes is = ends_refused local target root (opened_in seen) (compatible_in seen) (frame_of g) (stack_of below) (count seen) IsReported walks (Err e) result e refl is comes

  -- ---- it is compatible

  module _ (more : PairMap) (learns : Learns seen more top.pair Compatible) where
    pub settled_passed : (now : BTreeSet (ℕ × ℕ)) → now ≡ passed → PassedIn local target more now
    settled_passed now same =
        rw same (still_passed local target (compatible_in seen) (compatible_in more) (passed_in passed)
        (still_in (compatible_in seen) (compatible_in more) (pair_of top.pair) (learned seen more top.pair Compatible learns is_progress_compatible)) are)

    module _ (next : Frame) (fewer : List Frame) (is : below ≡ fewer ++ next ∷ []) (counts : count more ≡ count seen) where
      stack : stack_of below ≡ frame_of next ∷ stack_of fewer
      stack = stack_push fewer below next is

      pub settled_below : IsNext local target (frame_of top) (runs.Ends (Ok true)) → Running local target root more fewer next IsReported
      settled_below ends =
          subst (λ (n : ℕ). IsRunning local target root (opened_in more) (compatible_in more) (frame_of next) (stack_of fewer) n IsReported) (sym counts)
          (settles local target root (opened_in seen) (compatible_in seen) (frame_of top) (frame_of next) (stack_of fewer) (count seen) IsReported
          (subst (λ (s : List runs.Frame). IsRunning local target root (opened_in seen) (compatible_in seen) (frame_of top) s (count seen) IsReported) stack state) (opened_in more) (compatible_in more) ends
          (learned seen more top.pair Compatible learns is_progress_compatible) (learned seen more top.pair Compatible learns is_progress_open))

      pub settled_less : left local target more fewer next < left local target seen below top
      settled_less = rw (stack, counts) (less_settled local target (length (known_pairs local target)) (count seen) (widest local.records) (frame_of top) (frame_of next) (stack_of fewer))

  -- ---- all parameters of its prototypes are compatible

  module _ (found : ProtoPair) (here : AreAt local target top found) (le : length (pending_of found) ≤ top.parameter) (g : Frame) (goes : GoesTo local target top g found.returns) where
    is_next : IsNext local target (frame_of top) (runs.GoesOn (frame_of g))
    is_next = let past = goes_past local target top found here g goes in (past.left, past.to, past.was, past.is, inr (past.pending, past.finds, le))

    pub returned : Running local target root seen below g IsReported
    returned = goes_on local target root (opened_in seen) (compatible_in seen) (frame_of top) (stack_of below) (count seen) IsReported state (frame_of g) is_next

    pub returned_less : left local target seen below g < left local target seen below top
    returned_less = less_on local target (length (known_pairs local target)) (count seen) (widest local.records) (frame_of top) (frame_of g) (stack_of below) is_next

    pub returned_passed : (now : BTreeSet (ℕ × ℕ)) → GainsOnly passed now (pair_of found.ids) → PassedIn local target seen now
    returned_passed now gains =
        more_passed local target root (opened_in seen) (compatible_in seen) (frame_of top) (frame_of g) (stack_of below) (count seen) IsReported state (pair_of found.ids)
        (goes_past local target top found here g goes) (passed_in passed) (passed_in now) le gains are
