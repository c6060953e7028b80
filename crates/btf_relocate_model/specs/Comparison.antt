-- Comparisons of two types, each in its own table, for the kinds of records that compare the record's type with a type
-- of the target: the kinds 7, 8 and 9 by the rule `Compatible`, and kind 12 by the rule `Matches`.
-- Source: libbpf's `__bpf_core_types_are_compat` and `__bpf_core_types_match`. The limit of 32 pointees, elements and
-- return types is libbpf's. libbpf also limits parameters and members to 32 levels; here a pair of types that is met
-- inside its own comparison is refused in place of that.
use Rattle.std.specs.Prelude.{ℕ, zero, suc, ◌*◌, ◌^◌, ◌==◌, ◌&&◌, nat_lt, if◌then◌else◌, Bool, true, false, List, [], ◌∷◌, length, slice_index, Option, Some, None, Result, Ok, Err}
use Rattle.std.specs.Bool.{beq}
use Rattle.std.specs.List.{list_any}
use Rattle.std.specs.Str.{bytes_eq}
use Rattle.btf_model.specs.Fields.{int_offset, element_type}
use Rattle.btf_model.specs.Record.{Kind, Unknown, Int, Ptr, Array, Struct, Union, Enum, Fwd, FuncProto, Enum64, Record, kind_of, kind_number, kind_flag}
use Rattle.btf_model.specs.Table.{Table, Variant}
use Rattle.btf_model.specs.Walk.{walk_limit}
use Rattle.btf_relocate_model.specs.Candidates.{compared_number, is_nameless}
use Rattle.btf_relocate_model.specs.Enumerator.{enumerators_by}
use Rattle.btf_relocate_model.specs.Field.{Member, members_of}
use Rattle.btf_relocate_model.specs.Name.{essential}
use Rattle.btf_relocate_model.specs.Types.{◌>>=◌, required_record, resolved, name_at, name_or_none}
use Rattle.btf_relocate_model.specs.Value.{is_signed_type}
use Rattle.btf_relocate_model.specs.declared.comparison.Pair.{Pair}
use Rattle.btf_relocate_model.specs.declared.comparison.Rule.{Rule}
use Rattle.btf_relocate_model.specs.declared.comparison.Rule.TheVariants.{Compatible, Matches}
use Rattle.btf_relocate_model.specs.declared.error.RelocationError.{RelocationError}
use Rattle.btf_relocate_model.specs.declared.error.RelocationError.TheVariants.{MaximumTypeDepthReached, TooManyMembers}

-- ---- what a rule finds at two types

abbrev pub pair : Bool → ℕ → ℕ → Pair
pair is_pointee id other = record { local = id; target = other; is_pointee = is_pointee }

-- What decides whether two types are as a rule asks: nothing further; the comparison of two other types; that of each
-- parameter with the one at its place, and then of the types returned; or for each local member a member of the target.
pub data Step : Type 0 where
  Ends : (is_alike : Bool) → Step
  GoesOn : (next : Pair) → Step
  EachParameter : (types : List ℕ) → (others : List ℕ) → (returned : Pair) → Step
  EachMember : (members : List Member) → (others : List Member) → Step

-- the types of the parameters in the words of a FUNC_PROTO, which has a name and a type for each
abbrev pub parameter_ids : List ℕ → List ℕ
parameter_ids (name ∷ type ∷ words) = type ∷ parameter_ids words
parameter_ids words = []

-- two FUNC_PROTOs, whose third words are the types returned
abbrev pub prototype_step : Bool → Record → Record → Step
prototype_step is_pointee r s =
    if length (parameter_ids r.tail) == length (parameter_ids s.tail)
    then EachParameter (parameter_ids r.tail) (parameter_ids s.tail) (pair is_pointee r.third s.third)
    else Ends false

-- ---- the rule `Compatible`

-- two types that lead to others; the third word of a PTR is the type of its pointees
abbrev pub compatible_through : Bool → Option Kind → Option Kind → Record → Record → Step
compatible_through is_pointee (Some Ptr) (Some Ptr) r s = GoesOn (pair is_pointee r.third s.third)
compatible_through is_pointee (Some Array) (Some Array) r s =
    GoesOn (pair is_pointee (element_type r) (element_type s))
compatible_through is_pointee (Some FuncProto) (Some FuncProto) r s = prototype_step is_pointee r s
compatible_through is_pointee k q r s = Ends false

-- two types of one kind
abbrev pub step_compatible_by : Bool → Option Kind → Option Kind → Record → Record → Step
step_compatible_by is_pointee (Some Unknown) q r s = Ends true
step_compatible_by is_pointee (Some Struct) q r s = Ends true
step_compatible_by is_pointee (Some Union) q r s = Ends true
step_compatible_by is_pointee (Some Enum) q r s = Ends true
step_compatible_by is_pointee (Some Enum64) q r s = Ends true
step_compatible_by is_pointee (Some Fwd) q r s = Ends true
step_compatible_by is_pointee (Some Int) (Some Int) r s = Ends (int_offset r == 0 && int_offset s == 0)
step_compatible_by is_pointee k q r s = compatible_through is_pointee k q r s

-- Types of different kinds are not compatible, but an ENUM64 counts as an ENUM.
abbrev pub compatible_step : Bool → Record → Record → Step
compatible_step is_pointee r s =
    if compared_number (kind_number r.info) == compared_number (kind_number s.info)
    then step_compatible_by is_pointee (kind_of r.info) (kind_of s.info) r s else Ends false

-- ---- the rule `Matches`

-- Two names match if their essential names are equal. A name of the target without a text counts as empty.
abbrev pub names_match : Table → Table → ℕ → ℕ → Result Bool RelocationError
names_match local target offset other =
    if is_nameless (name_or_none target other) then Ok (is_nameless (name_or_none local offset))
    else (name_at local offset >>= λ name. Ok (bytes_eq (essential name) (essential (name_or_none target other))))

-- the essential names of enumerators
abbrev pub essential_names : Table → List Variant → Result (List (List ℕ)) RelocationError
essential_names t [] = Ok []
essential_names t (v ∷ vs) =
    name_at t v.name >>= λ name. essential_names t vs >>= λ names. Ok (essential name ∷ names)

-- whether the essential names of enumerators are among these, up to the first that is not
abbrev pub all_among : Table → List (List ℕ) → List Variant → Result Bool RelocationError
all_among t names [] = Ok true
all_among t names (v ∷ vs) =
    name_at t v.name >>= λ name. if list_any (bytes_eq (essential name)) names then all_among t names vs else Ok false

abbrev pub enumerators_of : Record → List Variant
enumerators_of r = enumerators_by (kind_of r.info) r.tail

-- whether the target's enumeration has each enumerator of the local one by its name; the values do not count
abbrev pub named_enumerators : Table → Table → Record → Record → Result Bool RelocationError
named_enumerators local target r s =
    if nat_lt (length (enumerators_of s)) (length (enumerators_of r)) then Ok false
    else (essential_names target (enumerators_of s) >>= λ names. all_among local names (enumerators_of r))

-- Two enumerations match if they also have one size.
abbrev pub enumerators_match : Table → Table → Record → Record → Result Bool RelocationError
enumerators_match local target r s =
    if r.third == s.third then named_enumerators local target r s else Ok false

-- ENUM and ENUM64
abbrev pub is_enumeration : Option Kind → Bool
is_enumeration (Some Enum) = true
is_enumeration (Some Enum64) = true
is_enumeration k = false

-- whether a type is a UNION, or a FWD that declares one; none if it is no STRUCT, UNION or FWD
abbrev pub declares_union : Option Kind → Record → Option Bool
declares_union (Some Struct) r = Some false
declares_union (Some Union) r = Some true
declares_union (Some Fwd) r = Some (kind_flag r.info == 1)
declares_union k r = None

-- both are there, and equal
abbrev pub both_equal : Option Bool → Option Bool → Bool
both_equal (Some a) (Some b) = beq a b
both_equal a b = false

-- the members of two STRUCTs or two UNIONs, where the target's has no fewer
abbrev pub members_step : Record → Record → Step
members_step r s =
    if nat_lt (length (members_of s)) (length (members_of r)) then Ends false
    else EachMember (members_of r) (members_of s)

-- STRUCTs, UNIONs and FWDs behind a pointer: a FWD matches what it declares
abbrev pub declared_by : Bool → Option Kind → Option Kind → Record → Record → Step
declared_by true k q r s = Ends (both_equal (declares_union k r) (declares_union q s))
declared_by false (Some Fwd) (Some Fwd) r s = Ends (beq (kind_flag r.info == 1) (kind_flag s.info == 1))
declared_by false (Some Struct) (Some Struct) r s = members_step r s
declared_by false (Some Union) (Some Union) r s = members_step r s
declared_by false k q r s = Ends false

-- two types whose names match, and that are no enumerations
abbrev pub matches_by : Bool → Option Kind → Option Kind → Record → Record → Step
matches_by is_pointee (Some Unknown) (Some Unknown) r s = Ends true
matches_by is_pointee (Some Int) (Some Int) r s =
    Ends (r.third == s.third && beq (is_signed_type (Some Int) r) (is_signed_type (Some Int) s))
matches_by is_pointee (Some Ptr) (Some Ptr) r s = GoesOn (pair true r.third s.third)
matches_by is_pointee (Some Array) (Some Array) r s =
    if slice_index r.tail 2 == slice_index s.tail 2
    then GoesOn (pair is_pointee (element_type r) (element_type s)) else Ends false
matches_by is_pointee (Some FuncProto) (Some FuncProto) r s = prototype_step is_pointee r s
matches_by is_pointee k q r s = declared_by is_pointee k q r s

-- The maximum number of pairs of members of two STRUCTs or UNIONs: a limit of this project on what a comparison costs.
abbrev pub member_pair_limit : ℕ
member_pair_limit = 2 ^ 20

-- members that are too many to compare are refused
abbrev pub few_members : Step → Result Step RelocationError
few_members (EachMember members others) =
    if nat_lt member_pair_limit (length members * length others) then Err TooManyMembers
    else Ok (EachMember members others)
few_members s = Ok s

-- Two types whose names match.
abbrev pub matching_step : Table → Table → Bool → Record → Record → Result Step RelocationError
matching_step local target is_pointee r s =
    if is_enumeration (kind_of r.info) && is_enumeration (kind_of s.info)
    then (enumerators_match local target r s >>= λ is_alike. Ok (Ends is_alike))
    else few_members (matches_by is_pointee (kind_of r.info) (kind_of s.info) r s)

-- Two types, whose names have to match.
abbrev pub exact_step : Table → Table → Bool → Record → Record → Result Step RelocationError
exact_step local target is_pointee r s =
    names_match local target r.name s.name >>= λ same.
    if same then matching_step local target is_pointee r s else Ok (Ends false)

-- ---- the comparison

-- a rule, and the tables of the program and of the target
pub record Comparison : Type 0 where
  pub rule : Rule
  pub local : Table
  pub target : Table

abbrev pub step_by : Rule → Table → Table → Bool → Record → Record → Result Step RelocationError
step_by Compatible local target is_pointee r s = Ok (compatible_step is_pointee r s)
step_by Matches local target is_pointee r s = exact_step local target is_pointee r s

-- what a rule finds at a pair of types that are no modifiers
abbrev pub step_at : Comparison → Pair → Result Step RelocationError
step_at c at =
    required_record c.local at.local >>= λ r. required_record c.target at.target >>= λ s.
    step_by c.rule c.local c.target at.is_pointee r s

-- the pair of the types that two ids resolve to
abbrev pub resolved_pair : Comparison → Pair → Result Pair RelocationError
resolved_pair c p =
    resolved c.local p.local >>= λ id. resolved c.target p.target >>= λ other. Ok (pair p.is_pointee id other)

-- each parameter with the one at its place, and then what `further` gives for the types returned
abbrev pub each_parameter : (Pair → Result Bool RelocationError) → (Pair → Result Bool RelocationError) → Pair → List ℕ
    → List ℕ → Result Bool RelocationError
each_parameter inner further returned (type ∷ types) (other ∷ others) =
    inner (pair returned.is_pointee type other) >>= λ is_alike.
    if is_alike then each_parameter inner further returned types others else Ok false
each_parameter inner further returned types others = further returned

-- whether one of these members of the target has the name of a local member and a type that matches
abbrev pub some_member : (Pair → Result Bool RelocationError) → Table → Table → Member → List Member
    → Result Bool RelocationError
some_member inner local target m [] = Ok false
some_member inner local target m (other ∷ others) =
    names_match local target m.name other.name >>= λ same.
    if same
    then (inner (pair false m.type other.type) >>= λ is_alike.
    if is_alike then Ok true else some_member inner local target m others)
    else some_member inner local target m others

abbrev pub each_member : (Pair → Result Bool RelocationError) → Table → Table → List Member → List Member
    → Result Bool RelocationError
each_member inner local target others [] = Ok true
each_member inner local target others (m ∷ ms) =
    some_member inner local target m others >>= λ has_one.
    if has_one then each_member inner local target others ms else Ok false

-- what a step comes to, where `inner` compares parameters and members, and `further` the types that a pointer, an array
-- or a prototype leads to
abbrev pub decided : (Pair → Result Bool RelocationError) → (Pair → Result Bool RelocationError) → Comparison → Step
    → Result Bool RelocationError
decided inner further c (Ends is_alike) = Ok is_alike
decided inner further c (GoesOn next) = further next
decided inner further c (EachParameter types others returned) = each_parameter inner further returned types others
decided inner further c (EachMember members others) = each_member inner c.local c.target others members

-- The comparison of a pair, and of the at most so many pairs that pointers, arrays and prototypes lead to from it;
-- `start` is the local id with which it began. The ids of each are resolved first.
unfoldable pub walked : ℕ → Comparison → ℕ → (Pair → Result Bool RelocationError) → Pair → Result Bool RelocationError
walked zero c start inner at = Err (MaximumTypeDepthReached start)
walked (suc n) c start inner at =
    resolved_pair c at >>= λ p. step_at c p >>= decided inner (walked n c start inner) c

abbrev pub same_pair : Pair → Pair → Bool
same_pair p q = p.local == q.local && (p.target == q.target && beq p.is_pointee q.is_pointee)

-- The comparison of a pair of types that are no modifiers, inside the comparisons of the pairs in `begun`. A pair that
-- is one of these is refused. So no more pairs are inside one another than there are pairs, which is the room for them.
unfoldable pub compared : ℕ → Comparison → List Pair → Pair → Result Bool RelocationError
compared zero c begun p = Err (MaximumTypeDepthReached p.local)
compared (suc room) c begun p =
    if list_any (same_pair p) begun then Err (MaximumTypeDepthReached p.local)
    else walked walk_limit c p.local (λ inner. resolved_pair c inner >>= compared room c (p ∷ begun)) p

-- the number of pairs of a type of each table, behind a pointer or not
abbrev pub pair_count : Comparison → ℕ
pair_count c = 2 * (length c.local.records * length c.target.records)

-- Whether the type of an id of the target is as the type of a local id asks.
abbrev pub types_alike : Comparison → ℕ → ℕ → Result Bool RelocationError
types_alike c id other = resolved_pair c (pair false id other) >>= compared (pair_count c) c []
