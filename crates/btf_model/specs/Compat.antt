-- The comparison of two types, each in its own table.
-- Source: aya-obj's `types_are_compatible`, after libbpf's `bpf_core_types_are_compat`. Two things are this project's
-- profile: the comparison refuses a pair that it meets again while the pair is open, and a walk has at most 32
-- positions.
-- The words of this module: a pair of ids is *started* when its kinds are looked up and compared; it is then *walked*
-- from position to position (pointees, element types, return types), and is *open* until its walk ends. `Decided` means
-- that a position decides the answer; `On` means that the walk goes on to another position; `Pending` means that pairs
-- of parameters are pending, and must be compared before the walk goes on to the return types. `ComparedInOrder`
-- compares the pending pairs in order.
use Rattle.std.specs.Prelude.{◌≡◌, ◌≢◌, ◌⊎◌, ℕ, zero, suc, ◌==◌, ◌&&◌, not, Bool, true, false, if◌then◌else◌, List, [], ◌∷◌, ◌++◌, length, slice_get, Some, None, Result, Ok, Err, Contains}
use Rattle.std.specs.List.{filter}
use Rattle.btf_model.specs.Record.{Kind, Unknown, Int, Ptr, Array, Struct, Union, Enum, Fwd, FuncProto, Float, Enum64, Record, compared_kind}
use Rattle.btf_model.specs.Refusal.{Refusal, UnknownBtfType, UnexpectedBtfType, MaximumTypeDepthReached}
use Rattle.btf_model.specs.Table.{Table}
use Rattle.btf_model.specs.Walk.{walk_limit, Resolves}
use Rattle.btf_model.specs.Fields.{Pair, int_offset, element_type, IsAt}

-- ---- one position

-- What is found at a position: an answer, the next position, or the pairs of parameters of two prototypes, which must
-- be compatible first, with the position after them.
pub data Position : Type 0 where
  Decided : Result Bool Refusal → Position
  On : Pair → Position
  Pending : List Pair → Pair → Position

-- the types of a prototype's parameters, by its words: a name and a type for each parameter
abbrev pub parameter_types : List ℕ → List ℕ
parameter_types (name ∷ type ∷ words) = type ∷ parameter_types words
parameter_types words = []

-- the pairs of the types at the same index
abbrev pub pairs : List ℕ → List ℕ → List Pair
pairs (id ∷ ids) (other ∷ others) = record { local = id; target = other } ∷ pairs ids others
pairs ids others = []

-- what is found at two FUNC_PROTOs with these records
abbrev pub prototypes : Record → Record → Position
prototypes r s =
    if length (parameter_types r.tail) == length (parameter_types s.tail)
    then Pending (pairs (parameter_types r.tail) (parameter_types s.tail))
    (record { local = r.third; target = s.third }) else Decided (Ok false)

-- What is found at two types of compatible kinds, by the kind of the local type, which has this id.
abbrev pub position_by : ℕ → Kind → Record → Record → Position
position_by id Unknown r s = Decided (Ok true)
position_by id Struct r s = Decided (Ok true)
position_by id Union r s = Decided (Ok true)
position_by id Enum r s = Decided (Ok true)
position_by id Enum64 r s = Decided (Ok true)
position_by id Fwd r s = Decided (Ok true)
position_by id Float r s = Decided (Ok true)
position_by id Int r s = Decided (Ok (int_offset r == 0 && int_offset s == 0))
position_by id Ptr r s = On (record { local = r.third; target = s.third })
position_by id Array r s = On (record { local = element_type r; target = element_type s })
position_by id FuncProto r s = prototypes r s
position_by id k r s = Decided (Err (UnexpectedBtfType id))

-- what is found at two types of any kinds: types of different kinds are incompatible, except ENUM with ENUM64
abbrev pub PositionFound : ℕ → Kind → Kind → Record → Record → Position → Type 0
PositionFound id k q r s found =
    ((compared_kind k ≢ compared_kind q) × (found ≡ Decided (Ok false)))
    ⊎ ((compared_kind k ≡ compared_kind q) × (found ≡ position_by id k r s))

-- Two ids resolve to a pair, or to a refusal; the local id is resolved first.
abbrev pub ResolvesPair : Table → Table → Pair → Result Pair Refusal → Type 0
ResolvesPair local target at (Ok p) =
    Resolves local.records at.local (Ok p.local) × Resolves target.records at.target (Ok p.target)
ResolvesPair local target at (Err refusal) =
    Resolves local.records at.local (Err refusal)
    ⊎ ((id : ℕ) × Resolves local.records at.local (Ok id) × Resolves target.records at.target (Err refusal))

-- What is found at two ids: both are resolved first.
abbrev pub Finds : Table → Table → Pair → Position → Type 0
Finds local target at found =
    ((refusal : Refusal) × ResolvesPair local target at (Err refusal) × (found ≡ Decided (Err refusal)))
    ⊎ ((p : Pair) × (k q : Kind) × (r s : Record) × ResolvesPair local target at (Ok p) × IsAt local p.local k r
    × IsAt target p.target q s × PositionFound p.local k q r s found)

-- ---- the plain recursion

-- Both ids of the pair have a record, with these kinds.
abbrev pub AreKnown : Table → Table → Pair → Kind → Kind → Type 0
AreKnown local target p k q = (r s : Record) × IsAt local p.local k r × IsAt target p.target q s

-- The comparison of a pair, while the pairs in `above` are open: its answer, and the pairs that it starts, in order. It
-- does not remember earlier results.
mutual
  pub data Plain (local target : Table) : List Pair → Pair → Result Bool Refusal → List Pair → Type 0 where
    -- an open pair is refused
    again : (above : List Pair) (p : Pair) → Contains above p
        → Plain local target above p (Err (MaximumTypeDepthReached p.local)) []
    -- both ids are looked up; the local id is first
    no_local : (above : List Pair) (p : Pair) → ¬ (Contains above p) → slice_get local.records p.local ≡ None
        → Plain local target above p (Err (UnknownBtfType p.local)) []
    no_target : (above : List Pair) (p : Pair) (r : Record) → ¬ (Contains above p)
        → slice_get local.records p.local ≡ Some r → slice_get target.records p.target ≡ None
        → Plain local target above p (Err (UnknownBtfType p.target)) []
    -- the pair is started: the kinds of its own records, which may be modifiers, are compared
    kinds_differ : (above : List Pair) (p : Pair) (k q : Kind) → ¬ (Contains above p) → AreKnown local target p k q
        → compared_kind k ≢ compared_kind q → Plain local target above p (Ok false) (p ∷ [])
    -- then it is walked, and is open during the walk
    walked : (above : List Pair) (p : Pair) (k q : Kind) (answer : Result Bool Refusal) (starts : List Pair)
        → ¬ (Contains above p) → AreKnown local target p k q → compared_kind k ≡ compared_kind q
        → Walked local target (p ∷ above) walk_limit p answer starts → Plain local target above p answer (p ∷ starts)

  -- A walk that may visit this number of further positions.
  pub data Walked (local target : Table) : List Pair → ℕ → Pair → Result Bool Refusal → List Pair → Type 0 where
    too_deep : (above : List Pair) (at : Pair)
        → Walked local target above zero at (Err (MaximumTypeDepthReached at.local)) []
    decided : (above : List Pair) (n : ℕ) (at : Pair) (answer : Result Bool Refusal)
        → Finds local target at (Decided answer) → Walked local target above (suc n) at answer []
    on : (above : List Pair) (n : ℕ) (at next : Pair) (answer : Result Bool Refusal) (starts : List Pair)
        → Finds local target at (On next) → Walked local target above n next answer starts
        → Walked local target above (suc n) at answer starts
    -- all parameters are compatible, and the walk goes on to the return types
    compared : (above : List Pair) (n : ℕ) (at next : Pair) (pending : List Pair) (answer : Result Bool Refusal)
        (first behind : List Pair) → Finds local target at (Pending pending next)
        → ComparedInOrder local target above pending (Ok true) first
        → Walked local target above n next answer behind → Walked local target above (suc n) at answer (first ++ behind)
    -- a parameter is incompatible or refused, and its answer is the answer of the walk
    not_compatible : (above : List Pair) (n : ℕ) (at next : Pair) (pending : List Pair) (answer : Result Bool Refusal)
        (starts : List Pair) → Finds local target at (Pending pending next)
        → ComparedInOrder local target above pending answer starts
        → answer ≢ Ok true → Walked local target above (suc n) at answer starts

  -- The pending pairs of parameters in order: the result is true, or the first answer that is not true. Each pair is
  -- resolved just before it is compared.
  pub data ComparedInOrder (local target : Table)
      : List Pair → List Pair → Result Bool Refusal → List Pair → Type 0 where
    all : (above : List Pair) → ComparedInOrder local target above [] (Ok true) []
    unresolved : (above : List Pair) (at : Pair) (pending : List Pair) (refusal : Refusal)
        → ResolvesPair local target at (Err refusal)
        → ComparedInOrder local target above (at ∷ pending) (Err refusal) []
    other : (above : List Pair) (at p : Pair) (pending : List Pair) (answer : Result Bool Refusal) (starts : List Pair)
        → ResolvesPair local target at (Ok p) → Plain local target above p answer starts → answer ≢ Ok true
        → ComparedInOrder local target above (at ∷ pending) answer starts
    next : (above : List Pair) (at p : Pair) (pending : List Pair) (answer : Result Bool Refusal)
        (first behind : List Pair) → ResolvesPair local target at (Ok p) → Plain local target above p (Ok true) first
        → ComparedInOrder local target above pending answer behind
        → ComparedInOrder local target above (at ∷ pending) answer (first ++ behind)

-- ---- what is listed

-- whether two pairs are equal
abbrev pub pair_eq : Pair → Pair → Bool
pair_eq p q = p.local == q.local && p.target == q.target

-- the pairs of a list, each at its first place only
abbrev pub firsts : List Pair → List Pair
firsts [] = []
firsts (p ∷ ps) = p ∷ filter (λ q. not (pair_eq p q)) (firsts ps)
