-- Comparisons of two types, step by step, as the definitions see them.
use Rattle.std.specs.Prelude.{◌≡◌, ◌⊎◌, ℕ, zero, suc, ◌+◌, ◌-◌, nat_lt, if◌then◌else◌, Bool, true, false, List, [], ◌∷◌, drop, Option, None, Some, Result, Ok, Err, MatchResult, reverse}
use Rattle.std.specs.Borrow.{Bor}
use Rattle.std.specs.BTreeSet.{BTreeSet, contains}
use Rattle.std.specs.List.{list_any}
use Rattle.std.specs.Str.{bytes_eq}
use Rattle.std.specs.Cmp.Lexicographic.{slice_cmp}
use Rattle.std.specs.Ordering.{nat_cmp}
use Rattle.btf_view.specs.TypeRef.{record_in}
use Rattle.btf_model.specs.Record.{Record, Kind, kind_of}
use Rattle.btf_model.specs.Table.{Table}
use Rattle.btf_relocate_model.specs.Comparison as model
use Rattle.btf_relocate_model.specs.Comparison.{Comparison, each_parameter, each_member, some_member, resolved_pair, step_at, walked, pair, is_enumeration}
use Rattle.btf_relocate_model.specs.Field.{Member}
use Rattle.btf_relocate_model.specs.Types.{◌>>=◌}
use Rattle.btf_relocate_model.specs.declared.comparison.Pair.{Pair}
use Rattle.btf_relocate_model.specs.declared.comparison.Rule.{Rule}
use Rattle.btf_relocate_model.specs.declared.error.RelocationError.{RelocationError}
use Rattle.btf_relocate_model.specs.declared.error.RelocationError.TheVariants.{OutOfMemory, MaximumTypeDepthReached}
use Rattle.btf_relocate.specs.Members.{members_held, parameters_of}
use Rattle.btf_relocate.specs.declared.types.Frame.{Frame}
use Rattle.btf_relocate.specs.declared.types.steps.Step.{Step}
use Rattle.btf_relocate.specs.declared.types.steps.Step.TheVariants as code
use Rattle.btf_relocate.specs.declared.types.walk.Next.{Next}
use Rattle.btf_relocate.specs.declared.types.walk.Next.TheVariants as next

-- a rule for two kinds, at the kinds of two records
abbrev pub by_kinds : {X : Type 0} → (Option Kind → Option Kind → Record → Record → X) → Record → Record → X
by_kinds rule one other = rule (kind_of one.info) (kind_of other.info) one other

abbrev pub step_view : Step → model.Step
step_view (code.Ends is_alike) = model.Ends is_alike
step_view (code.GoesOn p) = model.GoesOn p
step_view (code.EachParameter one other returned) =
    model.EachParameter (parameters_of (record_in one)) (parameters_of (record_in other)) returned
step_view (code.EachMember members others) = model.EachMember (members_held members) (members_held others)

abbrev pub comparison : Rule → Table → Table → Comparison
comparison rule local target = record { rule = rule; local = local; target = target }

-- the size of an enumeration
abbrev pub enumeration_size_by : Bool → Record → Option ℕ
enumeration_size_by true r = Some r.third
enumeration_size_by false r = None

abbrev pub enumeration_size : Record → Option ℕ
enumeration_size r = enumeration_size_by (is_enumeration (kind_of r.info)) r

-- what compares two other types
abbrev pub Compare : Type 0
Compare = Pair → Result Bool RelocationError

-- a member that needs one of these others, and then the members after it
abbrev pub from_member : Compare → Table → Table → List Member → List Member → List Member → Result Bool RelocationError
from_member inner local target all others [] = Ok true
from_member inner local target all others (m ∷ ms) =
    some_member inner local target m others >>= λ has_one.
    if has_one then each_member inner local target all ms else Ok false

-- the members from one on
abbrev pub members_from : Compare → Table → Table → List Member → List Member → ℕ × ℕ → Result Bool RelocationError
members_from inner local target members others place =
    from_member inner local target others (drop place.1 others) (drop place.0 members)

-- the index after another one; there is no element at the highest index
abbrev pub next_index : ℕ → ℕ
next_index index = if nat_lt index 18446744073709551615 then index + 1 else index

-- the local member that is next, and the first member of the target that it may match
abbrev pub place_after : ℕ → ℕ → Option Bool → ℕ × ℕ
place_after index other (Some true) = (next_index index, 0)
place_after index other answer = (index, other)

-- what is left of a step
abbrev pub resumed : Compare → Compare → Table → Table → model.Step → ℕ → ℕ → Option Bool → Result Bool RelocationError
resumed inner further local target (model.EachParameter types others returned) index other (Some false) = Ok false
resumed inner further local target (model.EachParameter types others returned) index other answer =
    each_parameter inner further returned (drop index types) (drop index others)
resumed inner further local target (model.EachMember members others) index other answer =
    members_from inner local target members others (place_after index other answer)
resumed inner further local target (model.Ends is_alike) index other answer = Ok is_alike
resumed inner further local target (model.GoesOn p) index other answer = further p

-- what comes next of a step
abbrev pub next_of : Compare → Compare → Table → Table → model.Step → Next → Result Bool RelocationError
next_of inner further local target s (next.Ends is_alike) = Ok is_alike
next_of inner further local target s (next.GoesOn p) = further p
next_of inner further local target s (next.Asks p index other) =
    inner p >>= λ is_alike. resumed inner further local target s index other (Some is_alike)

-- what comes next of the members of two types
abbrev pub NextMember : Table → Table → List Member → List Member → ℕ → ℕ → Option Bool → Result Next RelocationError
    → Type 0
NextMember local target members others index other answer (Ok n) =
    (inner further : Compare) → next_of inner further local target (model.EachMember members others) n
    ≡ resumed inner further local target (model.EachMember members others) index other answer
NextMember local target members others index other answer (Err e) =
    (inner further : Compare)
    → resumed inner further local target (model.EachMember members others) index other answer ≡ Err e

-- what is left of a comparison, of so many positions
abbrev pub rest_by : ℕ → Compare → Comparison → Frame → Option Bool → Result Bool RelocationError
rest_by zero inner c f answer = Err (MaximumTypeDepthReached f.start.local)
rest_by (suc n) inner c f answer =
    resolved_pair c f.at >>= λ p. step_at c p >>= λ s.
    resumed inner (walked n c f.start.local inner) c.local c.target s f.index f.other answer

abbrev pub rest : Compare → Comparison → Frame → Option Bool → Result Bool RelocationError
rest inner c f answer = rest_by f.left inner c f answer

-- what comes next of a comparison
abbrev pub after_comparison : Compare → Comparison → Frame → Next → Result Bool RelocationError
after_comparison inner c f (next.Ends is_alike) = Ok is_alike
after_comparison inner c f (next.GoesOn p) = walked (f.left - 1) c f.start.local inner p
after_comparison inner c f (next.Asks p index other) =
    inner p >>= λ is_alike. rest inner c (record f { index = index; other = other }) (Some is_alike)

-- the next step of a comparison leaves its result the same
abbrev pub Continues : Comparison → Frame → Option Bool → Result Next RelocationError → Type 0
Continues c f answer (Ok n) = (inner : Compare) → after_comparison inner c f n ≡ rest inner c f answer
Continues c f answer (Err e) = (e ≡ OutOfMemory) ⊎ ((inner : Compare) → rest inner c f answer ≡ Err e)

-- a member of the target with the name, and the members after it
abbrev pub NamedMember : Table → Table → Member → List Member → List Member → Result (Option (ℕ × ℕ)) RelocationError
    → Type 0
NamedMember local target m others from (Ok (Some found)) =
    (inner : Compare) → some_member inner local target m from
    ≡ (inner (pair false m.type found.0) >>= λ is_alike.
    if is_alike then Ok true else some_member inner local target m (drop found.1 others))
NamedMember local target m others from (Ok None) = (inner : Compare) → some_member inner local target m from ≡ Ok false
NamedMember local target m others from (Err e) = (inner : Compare) → some_member inner local target m from ≡ Err e

-- whether a set has a name
abbrev pub has_name : BTreeSet (Bor (List ℕ)) → Bor (List ℕ) → Bool
has_name names name = contains (λ x y. slice_cmp nat_cmp x.now y.now) names name

-- a set of these names
abbrev pub HasNames : BTreeSet (Bor (List ℕ)) → List (List ℕ) → Type 0
HasNames names all = (name : Bor (List ℕ)) → has_name names name ≡ list_any (bytes_eq name.now) all

-- The result is a set of these names, or the error, or an allocation failed.
abbrev pub GivesNames : Result (List (List ℕ)) RelocationError → Result (BTreeSet (Bor (List ℕ))) RelocationError
    → Type 0
GivesNames expected result =
    MatchResult result (λ set. (names : List (List ℕ)) × (expected ≡ Ok names) × HasNames set names)
    (λ e. (e ≡ OutOfMemory) ⊎ (expected ≡ Err e))

-- Under any comparisons and tables, what comes next is what the walk of parameters gives that is resumed in this
-- frame.
abbrev pub ResumesParameters : Frame → Option Bool → List ℕ → List ℕ → Pair → Next → Type 0
ResumesParameters frame answer types others returned result =
    (inner further : Compare) (local target : Table)
    → next_of inner further local target (model.EachParameter types others returned) result
    ≡ resumed inner further local target (model.EachParameter types others returned) frame.index frame.other answer
