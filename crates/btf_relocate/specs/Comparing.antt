-- What is known while pairs of types are compared: the answers that are remembered, and the comparisons that are begun.
use Rattle.std.specs.Prelude.{◌≡◌, ◌⊎◌, ⊤, ℕ, zero, suc, ◌+◌, ◌-◌, ◌*◌, ◌<◌, ◌≤◌, ◌++◌, Bool, true, false, cond, List, [], ◌∷◌, length, map, reverse, Option, None, Some, Result, Ok, Err}
use Rattle.std.specs.BTreeMap.{BTreeMap, get, Updates}
use Rattle.std.specs.List.{list_any}
use Rattle.std.specs.Option.{is_some}
use Rattle.std.specs.Ordering.{nat_cmp, bool_cmp, ordering_then}
use Rattle.std.specs.declared.cmp.Ordering.{Ordering}
use Rattle.btf_model.specs.Walk.{walk_limit}
use Rattle.btf_relocate_model.specs.Comparison.{Comparison, compared, pair, pair_count, resolved_pair, same_pair}
use Rattle.btf_relocate_model.specs.Types.{◌>>=◌}
use Rattle.btf_relocate_model.specs.declared.comparison.Pair.{Pair}
use Rattle.btf_relocate_model.specs.declared.error.RelocationError.{RelocationError}
use Rattle.btf_relocate_model.specs.declared.error.RelocationError.TheVariants.{OutOfMemory, MaximumTypeDepthReached}
use Rattle.btf_relocate.specs.Steps.{Compare, rest}
use Rattle.btf_relocate.specs.declared.types.Frame.{Frame}
use Rattle.btf_relocate.specs.declared.types.Progress.{Progress}
use Rattle.btf_relocate.specs.declared.types.walk.Next.{Next}
use Rattle.btf_relocate.specs.declared.types.walk.Next.TheVariants as next
use Rattle.btf_relocate_model.specs.declared.comparison.Pair as pairs

-- ---- pairs

-- the order of pairs
abbrev pub pair_cmp : Pair → Pair → Ordering
pair_cmp p q =
    ordering_then (nat_cmp p.local q.local)
    (ordering_then (nat_cmp p.target q.target) (bool_cmp p.is_pointee q.is_pointee))

-- the pairs that have begun, with their answers
abbrev pub Answers : Type 0
Answers = BTreeMap Pair (Option Bool)

abbrev pub known_answer : Answers → Pair → Option (Option Bool)
known_answer m p = get pair_cmp m p

abbrev pub is_among : Pair → List Pair → Bool
is_among p ps = list_any (same_pair p) ps

-- both types are in the tables
abbrev pub InTables : Comparison → Pair → Type 0
InTables c p = (p.local < length c.local.records) × (p.target < length c.target.records)

-- the pairs of a local type and the first types of the target
abbrev pub pairs_of : ℕ → ℕ → List Pair
pairs_of id zero = []
pairs_of id (suc n) = pair true id n ∷ pair false id n ∷ pairs_of id n

-- the pairs of the first types of both tables
abbrev pub all_pairs : ℕ → ℕ → List Pair
all_pairs zero n = []
all_pairs (suc m) n = pairs_of m n ++ all_pairs m n

-- the number of these pairs that are not among others
abbrev pub count_without : List Pair → List Pair → ℕ
count_without others [] = 0
count_without others (p ∷ ps) = cond (is_among p others) (count_without others ps) (suc (count_without others ps))

-- the number of pairs that are not begun
unfoldable pub left_of : Comparison → List Pair → ℕ
left_of c begun = count_without begun (all_pairs (length c.local.records) (length c.target.records))

-- ---- answers

-- none of these pairs has an answer
abbrev pub Unanswered : Answers → List Pair → Type 0
Unanswered m begun = (p : Pair) (b : Bool) → known_answer m p ≡ Some (Some b) → is_among p begun ≡ false

-- Each answer is the result of the comparison inside any comparisons that have no answer.
abbrev pub AreResults : Comparison → Answers → Type 0
AreResults c m =
    (p : Pair) (b : Bool) → known_answer m p ≡ Some (Some b) → (room : ℕ) (begun : List Pair)
    → left_of c begun ≤ room → Unanswered m begun → compared room c begun p ≡ Ok b

-- ---- comparisons that are begun

-- the comparison of parameters and members inside a pair
abbrev pub inside : ℕ → Comparison → List Pair → Pair → Compare
inside room c begun p = λ q. resolved_pair c q >>= compared room c (p ∷ begun)

-- what is left of a comparison has the result of the comparison of its pair
abbrev pub GoesOn : Comparison → Answers → Frame → Option Bool → Type 0
GoesOn c m f answer =
    (room : ℕ) (begun : List Pair) → left_of c begun ≤ suc room → Unanswered m begun → is_among f.start begun ≡ false
    → rest (inside room c begun f.start) c f answer ≡ compared (suc room) c begun f.start

-- so has what is left after the answer of another pair
abbrev pub WaitsFor : Comparison → Answers → Frame → Pair → Type 0
WaitsFor c m f p =
    (room : ℕ) (begun : List Pair) → left_of c begun ≤ suc room → Unanswered m begun → is_among f.start begun ≡ false
    → (compared room c (f.start ∷ begun) p >>= λ is_alike. rest (inside room c begun f.start) c f (Some is_alike))
    ≡ compared (suc room) c begun f.start

-- the pairs of comparisons
abbrev pub starts : List Frame → List Pair
starts fs = map (λ f. f.start) fs

-- a comparison inside others that has no answer
pub record IsBegun (c : Comparison) (m : Answers) (f : Frame) (fs : List Frame) : Type 0 where
  pub within : InTables c f.start
  pub no_answer : known_answer m f.start ≡ Some None
  pub once : is_among f.start (starts fs) ≡ false

-- comparisons, each inside the next one, that wait for a pair; the last is of the root
abbrev pub AreWaiting : Comparison → Pair → Answers → List Frame → Pair → Type 0
AreWaiting c root m [] p = p ≡ root
AreWaiting c root m (f ∷ fs) p = WaitsFor c m f p × IsBegun c m f fs × AreWaiting c root m fs f.start

-- the comparisons that are begun, or the result of the root
abbrev pub AreBegun : Comparison → Pair → Answers → List Frame → Option Bool → Type 0
AreBegun c root m [] answer = (b : Bool) × (answer ≡ Some b) × (compared (pair_count c) c [] root ≡ Ok b)
AreBegun c root m (f ∷ fs) answer = GoesOn c m f answer × IsBegun c m f fs × AreWaiting c root m fs f.start

-- each pair without an answer has a comparison
abbrev pub HaveComparisons : Answers → List Frame → Type 0
HaveComparisons m fs = (p : Pair) → known_answer m p ≡ Some None → is_among p (starts fs) ≡ true

-- The comparison of a root is under way.
pub record IsUnderWay (c : Comparison) (root : Pair) (m : Answers) (fs : List Frame) (a : Option Bool) : Type 0 where
  pub results : AreResults c m
  pub found : HaveComparisons m fs
  pub begun : AreBegun c root m fs a

-- ---- what the code does

-- a comparison that begins
abbrev pub beginning : Pair → Frame
beginning p = record { start = p; at = p; left = walk_limit; index = 0; other = 0 }

-- a pair was asked for: it has an answer, its comparison begins, or it is refused
abbrev pub IsAsked : Comparison → Pair → Progress → Progress → Result (Option Bool) RelocationError → Type 0
IsAsked c p old new (Ok (Some b)) =
    (q : Pair) × (resolved_pair c p ≡ Ok q) × (known_answer old.pairs q ≡ Some (Some b)) × (new ≡ old)
IsAsked c p old new (Ok None) =
    (q : Pair) × (resolved_pair c p ≡ Ok q) × (known_answer old.pairs q ≡ None)
    × Updates pair_cmp old.pairs new.pairs q (Some None) × (new.frames.items ≡ old.frames.items ++ beginning q ∷ [])
IsAsked c p old new (Err e) =
    (e ≡ OutOfMemory) ⊎ ((resolved_pair c p ≡ Err e)
    ⊎ ((q : Pair) × (resolved_pair c p ≡ Ok q) × (known_answer old.pairs q ≡ Some None)
    × (e ≡ MaximumTypeDepthReached q.local)))

-- the comparison goes on, or the root has this error
abbrev pub RunsOn : Comparison → Pair → Progress → Result (Option Bool) RelocationError → Type 0
RunsOn c root new (Ok answer) = IsUnderWay c root new.pairs (reverse new.frames.items) answer
RunsOn c root new (Err e) = (e ≡ OutOfMemory) ⊎ (compared (pair_count c) c [] root ≡ Err e)

-- ---- the steps that are left

-- a bound on the indices of parameters and members
abbrev pub most : ℕ
most = 18446744073709551616

-- the parameters, or members of both types, that are left from these indices on
abbrev pub place_left : ℕ → ℕ → ℕ
place_left index other = (most - index) * (most + 1) + (most - other)

-- the steps that are left of a position
abbrev pub position_steps : ℕ
position_steps = most * (most + 1) + most + 1

abbrev pub steps_left : Frame → ℕ
steps_left f = f.left * position_steps + place_left f.index f.other + 1

abbrev pub all_steps_left : List Frame → ℕ
all_steps_left [] = 0
all_steps_left (f ∷ fs) = steps_left f + all_steps_left fs

-- the next step of a position leaves fewer parameters or members
abbrev pub LeavesFewerPlaces : ℕ → ℕ → Next → Type 0
LeavesFewerPlaces index other (next.Ends is_alike) = ⊤
LeavesFewerPlaces index other (next.GoesOn p) = ⊤
LeavesFewerPlaces index other (next.Asks p k l) = place_left k l < place_left index other

-- the next step of a comparison leaves fewer steps of it
abbrev pub LeavesFewer : Frame → Next → Type 0
LeavesFewer f (next.Ends is_alike) = ⊤
LeavesFewer f (next.GoesOn p) = 0 < f.left
LeavesFewer f (next.Asks p k l) = place_left k l < place_left f.index f.other

-- the number of these pairs that have not begun
abbrev pub count_new : Answers → List Pair → ℕ
count_new m [] = 0
count_new m (p ∷ ps) = cond (is_some (known_answer m p)) (count_new m ps) (suc (count_new m ps))

-- the steps that are left of a comparison that has not begun
abbrev pub pair_steps : ℕ
pair_steps = (walk_limit + 1) * position_steps + 1

-- the steps that are left at most of all comparisons
unfoldable pub work : Comparison → Progress → ℕ
work c p =
    count_new p.pairs (all_pairs (length c.local.records) (length c.target.records)) * pair_steps
    + all_steps_left p.frames.items

-- Whenever a comparison is under way with these open pairs, the result and the progress are those of its next step.
abbrev pub AdvancesIn : Frame → Option Bool → Comparison → Progress → Progress → Result (Option Bool)
    RelocationError → Type 0
AdvancesIn frame answer c old new result =
    (root : pairs.Pair) → IsUnderWay c root old.pairs (frame ∷ reverse old.frames.items) answer
    → RunsOn c root new result

-- less work is left than before a step of a comparison was taken out
abbrev pub TakesWork : Comparison → Frame → Progress → Progress → Type 0
TakesWork c frame old new = work c new < work c old + steps_left frame
