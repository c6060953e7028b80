-- Walks from type to type: the type that an id resolves to after its modifiers, and the size of a type.
-- Source: aya-obj's `resolve_type` and `type_size`; the limit of 32 records is its `MAX_RESOLVE_DEPTH`.
use Rattle.std.specs.Prelude.{◌≡◌, ◌⊎◌, ℕ, zero, suc, ◌<◌, ◌*◌, ◌^◌, nat_lt, if◌then◌else◌, List, [], ◌∷◌, Option, Some, None, Result, Ok, Err, slice_get}
use Rattle.btf_model.specs.Record.{Kind, Int, Ptr, Array, Struct, Union, Enum, Typedef, Volatile, Const, Restrict, FuncProto, Var, DataSec, Float, DeclTag, TypeTag, Enum64, Record, kind_of}
use Rattle.btf_model.specs.Refusal.{Refusal, InvalidTypeInfo, UnknownBtfType, UnexpectedBtfType, MaximumTypeDepthReached}

-- what a walk finds at a place: its answer, or the next place
pub data Finding (Place Answer : Type 0) : Type 0 where
  Ends : Result Answer Refusal → Finding Place Answer
  GoesOn : Place → Finding Place Answer

-- n steps lead from one place to another
abbrev pub Leads : {Place Answer : Type 0} → (Place → Finding Place Answer → Type 0) → ℕ → Place → Place → Type 0
Leads Finds zero place end = place ≡ end
Leads Finds (suc n) place end = (next : _) × Finds place (GoesOn next) × Leads Finds n next end

-- the maximum number of records that a walk reads
abbrev pub walk_limit : ℕ
walk_limit = 32

-- The answer of a walk: the answer at its end, if the walk ends after fewer than 32 steps; else the refusal for a walk
-- that is too deep, by the place after 32 steps.
abbrev pub WalkAnswers : {Place Answer : Type 0} → (Place → Finding Place Answer → Type 0) → Place → (Place → Refusal)
    → Result Answer Refusal → Type 0
WalkAnswers Finds start too_deep answer =
    ((n : ℕ) × (end : _) × (n < walk_limit) × Leads Finds n start end × Finds end (Ends answer))
    ⊎ ((end : _) × Leads Finds walk_limit start end × (answer ≡ Err (too_deep end)))

-- what a walk finds, if it is a function of the place
abbrev pub By : {Place Answer : Type 0} → (Place → Finding Place Answer) → Place → Finding Place Answer → Type 0
By find place found = find place ≡ found

-- ---- resolving

-- the type that a record of this kind modifies, as a name, a qualifier or a tag of it: its third word, or none
abbrev pub modified : Option Kind → Record → Option ℕ
modified (Some Typedef) r = Some r.third
modified (Some Volatile) r = Some r.third
modified (Some Const) r = Some r.third
modified (Some Restrict) r = Some r.third
modified (Some TypeTag) r = Some r.third
modified k r = None

-- The type that a TYPEDEF, VOLATILE, CONST, RESTRICT or TYPE_TAG modifies; none for other records.
abbrev pub modified_type : Record → Option ℕ
modified_type r = modified (kind_of r.info) r

-- a walk over modifiers goes on from a modifier, and ends at any other type
abbrev pub after_modifier : ℕ → Option ℕ → Finding ℕ ℕ
after_modifier id (Some next) = GoesOn next
after_modifier id None = Ends (Ok id)

-- what this walk finds at an id, by its record, if there is one
abbrev pub unmodified_in : ℕ → Option Record → Finding ℕ ℕ
unmodified_in id (Some r) = after_modifier id (modified_type r)
unmodified_in id None = Ends (Err (UnknownBtfType id))

-- What an id resolves to: the first type that is no modifier, or why there is none.
abbrev pub Resolves : List Record → ℕ → Result ℕ Refusal → Type 0
Resolves records id =
    WalkAnswers (By (λ at. unmodified_in at (slice_get records at))) id (λ _. MaximumTypeDepthReached id)

-- ---- sizes

-- what a record gives for the size of its type: bytes, a count of another type, or nothing
pub data Extent : Type 0 where
  Bytes : (bytes : ℕ) → Extent
  Times : (count type : ℕ) → Extent
  NoExtent : Extent

-- an ARRAY, by its words: the type of its elements, the type of its index, the number of elements
abbrev pub array_extent : List ℕ → Extent
array_extent (element ∷ index ∷ count ∷ []) = Times count element
array_extent tail = NoExtent

-- The extent by the kind: a size in bytes, which is 8 for a pointer; the elements of an ARRAY; the one type that a
-- record refers to; nothing for Unknown, FWD and FUNC.
abbrev pub extent : Option Kind → Record → Extent
extent (Some Int) r = Bytes r.third
extent (Some Ptr) r = Bytes 8
extent (Some Array) r = array_extent r.tail
extent (Some Struct) r = Bytes r.third
extent (Some Union) r = Bytes r.third
extent (Some Enum) r = Bytes r.third
extent (Some Typedef) r = Times 1 r.third
extent (Some Volatile) r = Times 1 r.third
extent (Some Const) r = Times 1 r.third
extent (Some Restrict) r = Times 1 r.third
extent (Some FuncProto) r = Times 1 r.third
extent (Some Var) r = Times 1 r.third
extent (Some DataSec) r = Bytes r.third
extent (Some Float) r = Bytes r.third
extent (Some DeclTag) r = Times 1 r.third
extent (Some TypeTag) r = Times 1 r.third
extent (Some Enum64) r = Bytes r.third
extent k r = NoExtent

-- a place on the walk for a size: a count of a type
pub record Elements : Type 0 where
  pub count : ℕ
  pub type : ℕ

-- the walk ends with a size or goes on to another type, if the product has 32 bits
abbrev pub size_by : Elements → Extent → Finding Elements ℕ
size_by at (Bytes bytes) =
    if nat_lt (bytes * at.count) (2 ^ 32) then Ends (Ok (bytes * at.count)) else Ends (Err InvalidTypeInfo)
size_by at (Times count type) =
    if nat_lt (at.count * count) (2 ^ 32) then GoesOn (record { count = at.count * count; type = type })
    else Ends (Err InvalidTypeInfo)
size_by at NoExtent = Ends (Err (UnexpectedBtfType at.type))

-- what this walk finds at a type, by its record, if there is one
abbrev pub size_in : Elements → Option Record → Finding Elements ℕ
size_in at (Some r) = size_by at (extent (kind_of r.info) r)
size_in at None = Ends (Err (UnknownBtfType at.type))

-- The size of a type in bytes, or why it has none.
abbrev pub HasSize : List Record → ℕ → Result ℕ Refusal → Type 0
HasSize records id =
    WalkAnswers (By (λ at. size_in at (slice_get records at.type))) (record { count = 1; type = id })
    (λ _. MaximumTypeDepthReached id)
