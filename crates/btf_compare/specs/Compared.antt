-- The parts of the comparison of types, in terms of the definitions of a run (`Rattle.btf_model.specs.Run`).
--
-- A pair is open while its walk is not finished. At two prototypes the walk has one pending pair per parameter. A pair
-- is known to be compatible when its walk has ended with true. Prototypes are passed when all their parameters are
-- known to be compatible, so that a walk that meets them again continues with their return types.
use Rattle.std.specs.BTreeSet as ordered
use Rattle.std.specs.BTreeSet.{BTreeSet}
use Rattle.std.specs.Prelude.{◌≡◌, ◌≢◌, ◌⊎◌, ◌<◌, ◌≤◌, ℕ, suc, ◌+◌, ◌-◌, ◌*◌, ◌^◌, length, All, Bool, true, false, cond, ltb, List, [], ◌++◌, map, slice_get, Option, Some, None, Result, Ok, Err, ◌∷◌}
use Rattle.std.specs.List.{IsDistinct}
use Rattle.btf_model.specs.Record.{Record, Kind, compared_kind}
use Rattle.btf_model.specs.Refusal.{Refusal}
use Rattle.btf_model.specs.Table.{Table}
use Rattle.btf_model.specs.Walk.{walk_limit}
use Rattle.btf_model.specs.Fields.{Pair, IsAt}
use Rattle.btf_model.specs.Compat.{Decided, On, Pending, Plain, firsts, pairs, Finds, ResolvesPair, AreKnown, pair_eq}
use Rattle.btf_model.specs.Compat as model
use Rattle.btf_model.specs.Laws.{AreIdsOfPair}
use Rattle.btf_model.specs.Run as runs
use Rattle.btf_model.specs.Run.{new_frame, IsNext}
use Rattle.btf_model.specs.Run.{Begins}
use Rattle.btf_plain.specs.Error.{Meets}
use Rattle.btf_plain.specs.declared.error.BtfError.{BtfError}
use Rattle.btf_plain.specs.declared.error.BtfError.TheVariants as errors
use Rattle.btf_plain.specs.declared.items.BtfParam.{BtfParam}
use Rattle.btf_compare.specs.declared.pair_map.PairMap.{PairMap}
use Rattle.btf_compare.specs.declared.entries.Progress.{Progress}
use Rattle.btf_compare.specs.declared.entries.Progress.TheVariants as progresses
use Rattle.btf_compare.specs.PairMap.{known_progress}
use Rattle.btf_compare.specs.Entries.{ids_cmp}
use Rattle.btf_compare.specs.declared.position.Position.{Position}
use Rattle.btf_compare.specs.declared.position.Position.TheVariants as positions
use Rattle.btf_compare.specs.declared.position.ProtoPair.{ProtoPair}
use Rattle.btf_compare.specs.declared.frame.Frame.{Frame}
use Rattle.btf_compare.specs.declared.frame.Place.{Place}
use Rattle.btf_compare.specs.declared.frame.Place.TheVariants as places
use Rattle.btf_compare.specs.Pairs.{pair_of, ids_of}
use Rattle.btf_records.specs.declared.btf_type.BtfType.{BtfType}
use Rattle.btf_records.specs.BtfType.{record_of, type_kind}

-- the types of parameters
abbrev pub types_of : List BtfParam → List ℕ
types_of params = map (λ p. p.btf_type) params

-- the pending pairs of two prototypes: the types of their parameters, pair by pair
abbrev pub pending_of : ProtoPair → List Pair
pending_of found = pairs (types_of found.params.now) (types_of found.others.now)

-- whether a run records two prototypes whose parameters are all known to be compatible
abbrev pub are_long : ProtoPair → Bool
are_long found = ltb 8 (length found.params.now)

-- P holds of the position
abbrev pub PositionIs : Position → (model.Position → Type 0) → Type 0
PositionIs (positions.Decided answer) P = Meets (λ b. b) answer (λ a. P (Decided a))
PositionIs (positions.On next) P = P (On (pair_of next))
PositionIs (positions.Prototypes found) P = P (Pending (pending_of found) (pair_of found.returns))

-- what two types that are no modifiers give, by the id of the first
abbrev pub TypesFind : ℕ → BtfType → BtfType → model.Position → Type 0
TypesFind id local target =
    model.PositionFound id (type_kind local) (type_kind target) (record_of local) (record_of target)

-- the position of two types of this kind, by the record of the first
abbrev pub IsOfKind : Kind → Record → BtfType → Position → Type 0
IsOfKind kind local target position =
    type_kind target ≡ kind → PositionIs position (λ found. found ≡ model.position_by 0 kind local (record_of target))

-- P holds of the ids of the prototypes, if the position is at prototypes
abbrev pub IfPrototypes : Position → (Pair → Type 0) → Type 0
IfPrototypes (positions.Prototypes found) P = P (pair_of found.ids)
IfPrototypes x P = Unit {0}

-- Two prototypes have fewer than 2 ^ 16 parameters, because their vlen counts them.
abbrev pub HasFew : Position → Type 0
HasFew (positions.Prototypes found) = length (pending_of found) < 2 ^ 16
HasFew x = Unit {0}

-- whether the set has the pair
abbrev pub passed_in : BTreeSet (ℕ × ℕ) → Pair → Bool
passed_in set p = ordered.contains ids_cmp set (ids_of p)

-- the frame of an open pair, in the definitions of a run
abbrev pub frame_of : Frame → runs.Frame
frame_of f = record { pair = pair_of f.pair; at = pair_of f.at; left = walk_limit - f.taken; parameter = f.parameter }

-- An open pair f is at prototypes of these ids, with these pending pairs. After these pairs it is g: its walk is at the
-- return types of the prototypes.
pub record GoesPast (local target : Table) (f g : runs.Frame) (ids : Pair) : Type 0 where
  pub pending : List Pair
  pub to : Pair
  pub left : ℕ
  pub finds : Finds local target f.at (Pending pending to)
  pub resolves : ResolvesPair local target f.at (Ok ids)
  pub was : f.left ≡ suc left
  pub is : g ≡ record { pair = f.pair; at = to; left = left; parameter = 0 }

-- An open pair is at these two prototypes, and its walk is not beyond the limit.
pub record AreAt (local target : Table) (f : Frame) (found : ProtoPair) : Type 0 where
  pub finds : Finds local target (pair_of f.at) (Pending (pending_of found) (pair_of found.returns))
  pub resolves : ResolvesPair local target (pair_of f.at) (Ok (pair_of found.ids))
  pub within : f.taken < walk_limit
  pub few : length (pending_of found) < 2 ^ 16

-- The walk of the open pair f gets to this frame without waiting for another pair: it takes steps, and continues with
-- the return types of passed prototypes.
pub data WalksTo (local target : Table) (passed : Pair → Bool) (f : runs.Frame) : runs.Frame → Type 0 where
  here : WalksTo local target passed f f
  on : (g h : runs.Frame) → WalksTo local target passed f g → IsNext local target g (runs.GoesOn h)
      → WalksTo local target passed f h
  past : (g h : runs.Frame) (ids : Pair) → WalksTo local target passed f g → GoesPast local target g h ids
      → passed ids ≡ true → g.parameter ≡ 0 → WalksTo local target passed f h

-- The walk of the open pair f stops: at two prototypes, or at its end with an answer or an error.
abbrev pub ComesTo : Table → Table → Frame → Result Place BtfError → Type 0
ComesTo local target f (Ok (places.Pending found)) = AreAt local target f found
ComesTo local target f (Ok (places.Ends answer)) = IsNext local target (frame_of f) (runs.Ends (Ok answer))
ComesTo local target f (Err e) = Meets (λ b. b) (Err e) (λ a. IsNext local target (frame_of f) (runs.Ends a))

-- This is at the position of the open pair f.
pub record IsFound (local target : Table) (position : Position) (f : Frame) : Type 0 where
  pub position_is : PositionIs position (Finds local target (pair_of f.at))
  pub ids : IfPrototypes position (λ ids. ResolvesPair local target (pair_of f.at) (Ok ids))
  pub few : HasFew position

-- The walk of the open pair f takes one step to g: to the next position, or past prototypes that are passed.
abbrev pub StepsTo : Table → Table → (Pair → Bool) → runs.Frame → runs.Frame → Type 0
StepsTo local target passed f g =
    IsNext local target f (runs.GoesOn g)
    ⊎ ((ids : Pair) × GoesPast local target f g ids × (passed ids ≡ true) × (f.parameter ≡ 0))

-- After one step of the walk of the open pair f, it is at g and goes on, or it stops with this end.
abbrev pub AfterStep : Table → Table → (Pair → Bool) → Frame → Frame → Option (Result Place BtfError) → Type 0
AfterStep local target passed f g None =
    StepsTo local target passed (frame_of f) (frame_of g) × (g.taken ≡ f.taken + 1)
AfterStep local target passed f g (Some end) = (g ≡ f) × ComesTo local target g end

-- The same after one step or none.
abbrev pub AfterSteps : Table → Table → (Pair → Bool) → Frame → Frame → Option (Result Place BtfError) → Type 0
AfterSteps local target passed f g None = WalksTo local target passed (frame_of f) (frame_of g)
AfterSteps local target passed f g (Some end) = (g ≡ f) × ComesTo local target g end

-- The next parameter of the open pair f at these prototypes: the pending pair `ids`, after which the open pair is g; or
-- none after the last parameter; or an error.
abbrev pub NextParameterIs : Table → Table → Frame → Frame → ProtoPair → Result (Option (ℕ × ℕ)) BtfError → Type 0
NextParameterIs local target f g found (Ok (Some ids)) =
    IsNext local target (frame_of f) (runs.Waits (pair_of ids) (frame_of g))
NextParameterIs local target f g found (Ok None) = (length (pending_of found) ≤ f.parameter) × (g ≡ f)
NextParameterIs local target f g found (Err e) = Meets (λ b. b) (Err e) (λ a. IsNext local target (frame_of f) (runs.Ends a))

-- the set gains the ids of the prototypes if these are long, and nothing else
abbrev pub NotesPrototypes : BTreeSet (ℕ × ℕ) → BTreeSet (ℕ × ℕ) → ProtoPair → Type 0
NotesPrototypes old new found = (p : Pair)
    → passed_in new p ≡ cond (are_long found) (cond (pair_eq (pair_of found.ids) p) true (passed_in old p)) (passed_in old p)

-- the set gains these ids at most
abbrev pub GainsOnly : BTreeSet (ℕ × ℕ) → BTreeSet (ℕ × ℕ) → Pair → Type 0
GainsOnly old new ids = (p : Pair) → passed_in new p ≡ true → (passed_in old p ≡ true) ⊎ (ids ≡ p)

-- whether a pair with this progress is open
abbrev pub is_progress_open : Option Progress → Bool
is_progress_open (Some progresses.Open) = true
is_progress_open o = false

-- whether a pair with this progress is known to be compatible
abbrev pub is_progress_compatible : Option Progress → Bool
is_progress_compatible (Some progresses.Compatible) = true
is_progress_compatible o = false

-- the progress of a pair after its first walk: compatible if the walk ended with true, and otherwise open
abbrev pub progress_of : Result Place BtfError → Progress
progress_of (Ok (places.Ends true)) = progresses.Compatible
progress_of end = progresses.Open

-- whether the pair is open in the map
abbrev pub opened_in : PairMap → Pair → Bool
opened_in seen p = is_progress_open (known_progress seen (ids_of p))

-- whether the pair is known to be compatible in the map
abbrev pub compatible_in : PairMap → Pair → Bool
compatible_in seen p = is_progress_compatible (known_progress seen (ids_of p))

-- whether a pair with this local id and this progress is known to be compatible; an open pair is an error
abbrev pub progress_compatible : ℕ → Option Progress → Result Bool BtfError
progress_compatible id (Some progresses.Open) = Err (errors.MaximumTypeDepthReached id)
progress_compatible id (Some progresses.Compatible) = Ok true
progress_compatible id None = Ok false

-- A started pair has known ids. Its walk begins if this is true; otherwise its kinds differ.
abbrev pub IsStarted : Table → Table → Pair → Bool → Type 0
IsStarted local target p true = Begins local target p
IsStarted local target p false = (k q : Kind) × AreKnown local target p k q × (compared_kind k ≢ compared_kind q)

-- the result is an error, and P holds of it
abbrev pub FailsFor : {X : Type 0} → Result X BtfError → (BtfError → Type 0) → Type 0
FailsFor (Ok x) P = ⊥
FailsFor (Err e) P = P e

-- A pair was started: its kinds differ, or its walk got from its first position to this frame, and stopped at this end.
abbrev pub HasStarted : Table → Table → (Pair → Bool) → Pair → Frame → Result Place BtfError → Type 0
HasStarted local target passed p f end =
    (IsStarted local target p false × (end ≡ Ok (places.Ends false)))
    ⊎ (IsStarted local target p true × WalksTo local target passed (new_frame p) (frame_of f)
    × ComesTo local target f end)

-- The errors of a pair that cannot be started: an allocation fails, or an id is not known, the local one first.
abbrev pub CannotStart : Table → Table → Pair → BtfError → Type 0
CannotStart local target p e =
    (e ≡ errors.OutOfMemory)
    ⊎ (((slice_get local.records p.local ≡ None) × (e ≡ errors.UnknownBtfType p.local))
    ⊎ ((r : Record) × (slice_get local.records p.local ≡ Some r) × (slice_get target.records p.target ≡ None)
    × (e ≡ errors.UnknownBtfType p.target)))

-- The call returns this, and these pairs were reported, by IsReported; or an allocation fails after a prefix of them.
abbrev pub TracesBy : (List (ℕ × ℕ) → Type 0) → Result Bool BtfError → Result Bool Refusal → List Pair → Type 0
TracesBy IsReported result answer listed =
    (Meets (λ b. b) result (λ a. a ≡ answer) × IsReported (map ids_of listed))
    ⊎ ((result ≡ Err errors.OutOfMemory) × (front rest : List Pair) × (listed ≡ front ++ rest)
    × IsReported (map ids_of front))

-- The call returns this, and appends these pairs to the list; or an allocation fails after a prefix of them.
abbrev pub Traces : Result Bool BtfError → Result Bool Refusal → List (ℕ × ℕ) → List (ℕ × ℕ) → List Pair → Type 0
Traces result answer old new listed =
    (Meets (λ b. b) result (λ a. a ≡ answer) × (new ≡ old ++ map ids_of listed))
    ⊎ ((result ≡ Err errors.OutOfMemory) × (front rest : List Pair) × (listed ≡ front ++ rest)
    × (new ≡ old ++ map ids_of front))

-- The answer is that of the recursion, which starts anew at each pair.
abbrev pub ComparesTypes : Table → Table → Pair → Result Bool Refusal → Type 0
ComparesTypes local target ids answer = (listed : List Pair) × Plain local target [] ids answer listed

-- The call returns that answer, and appends the pairs that the recursion starts, each at its first occurrence.
abbrev pub ComparesTraced : Table → Table → Pair → Result Bool BtfError → List (ℕ × ℕ) → List (ℕ × ℕ) → Type 0
ComparesTraced local target ids result old new =
    (answer : Result Bool Refusal) × (listed : List Pair) × Plain local target [] ids answer listed
    × Traces result answer old new (firsts listed)

-- Pairs of known ids, each of them once. So their number is at most the product of the two numbers of types.
pub record AreStarts (local target : Table) (ps : List Pair) : Type 0 where
  pub known : All (AreIdsOfPair local target) ps
  pub once : IsDistinct pair_eq ps
  pub few : length ps ≤ length local.records * length target.records

-- the list gains such pairs, at its end
abbrev pub GainsStarts : Table → Table → List (ℕ × ℕ) → List (ℕ × ℕ) → Type 0
GainsStarts local target old new = (ps : List Pair) × AreStarts local target ps × (new ≡ old ++ map ids_of ps)

-- Whenever the two types are those of the frame's ids, the result is the first step of the frame, and of all steps
-- that follow it without a new frame.
abbrev pub StepsFirst : Frame → Frame → BtfType → BtfType → (Pair → Bool) → Option (Result Place BtfError) → Type 0
StepsFirst old_self new_self local_type target_type passed result =
    (local target : Table) → IsAt local old_self.at.0 (type_kind local_type) (record_of local_type)
    → IsAt target old_self.at.1 (type_kind target_type) (record_of target_type)
    → AfterSteps local target passed old_self new_self result

-- Whenever the position is that of the frame's pair, the result is the step of the frame there.
abbrev pub StepsFrom : Frame → Frame → Position → (Pair → Bool) → Option (Result Place BtfError) → Type 0
StepsFrom old_self new_self position passed result =
    (local target : Table) → IsFound local target position old_self
    → AfterStep local target passed old_self new_self result

-- no pair is added to the starts; `has` says which pairs are added between two states
abbrev pub KeepsStarts : {S : Type 0} → (S → S → List (ℕ × ℕ) → Type 0) → S → S → Type 0
KeepsStarts has old new = (first : _) → (ids : List (ℕ × ℕ)) → has first old ids → has first new ids

-- this pair is added to the starts, as the last one
abbrev pub AddsStart : {S : Type 0} → (S → S → List (ℕ × ℕ) → Type 0) → S → S → ℕ × ℕ → Type 0
AddsStart has old new pair = (first : _) → (ids : List (ℕ × ℕ)) → has first old ids → has first new (ids ++ pair ∷ [])

-- The result is the answer of the plain comparison, and `Reports` holds of the pairs that it starts, in order.
abbrev pub Compares : Table → Table → Pair → Result Bool BtfError → (List (ℕ × ℕ) → Type 0) → Type 0
Compares local target root result Reports =
    (answer : Result Bool Refusal) × (listed : List Pair) × Plain local target [] root answer listed
    × TracesBy Reports result answer (firsts listed)

-- The same if the starts have gained the pair alone, whatever they were before.
abbrev pub ComparesFirst : {S : Type 0} → Table → Table → ℕ × ℕ → Result Bool BtfError
    → (S → S → List (ℕ × ℕ) → Type 0) → S → S → Type 0
ComparesFirst local target first result has old new =
    (before : _) → has before old (first ∷ []) → Compares local target (pair_of first) result (has before new)

-- The walk of a pair starts: it fails, and no pair is added to the starts; or the frame is that of the pair, `Learns`
-- holds of the pair and its progress, and the pair is added.
abbrev pub StartsPair : {S : Type 0} → Table → Table → BTreeSet (ℕ × ℕ) → ℕ × ℕ → Frame → Result Place BtfError
    → (ℕ × ℕ → Progress → Type 0) → (S → S → List (ℕ × ℕ) → Type 0) → S → S → Type 0
StartsPair local target passed pair frame result Learns has old new =
    (FailsFor result (CannotStart local target (pair_of pair)) × KeepsStarts has old new)
    ⊎ (HasStarted local target (passed_in passed) (pair_of pair) frame result × (frame.pair ≡ pair)
    × Learns pair (progress_of result) × AddsStart has old new pair)
