-- The alignment of a type: the number of bytes to a multiple of which a value of the type is placed.
-- Source: libbpf's `btf__align_of`, with pointers of 8 bytes. Two things are this project's: a type of size 0 has no
-- alignment, where libbpf returns 0; and a type that contains itself is an error, where libbpf does not return.
use Rattle.std.specs.Prelude.{◌≡◌, ◌⊎◌, ℕ, ◌*◌, ◌%◌, ◌==◌, ◌||◌, not, min, max, Bool, if◌then◌else◌, List, [], ◌∷◌, ◌++◌, IsTrue, Option, Some, None, Result, Ok, Err, slice_get}
use Rattle.btf_model.specs.Fields.{element_type}
use Rattle.btf_model.specs.Record.{Kind, Int, Ptr, Array, Struct, Union, Enum, Typedef, Volatile, Const, Restrict, Float, TypeTag, Enum64, Record, kind_of, member_bit_offset, member_bit_field_size}
use Rattle.btf_model.specs.Refusal.{Refusal, UnknownBtfType, UnexpectedBtfType, MaximumTypeDepthReached}

-- ---- what a record gives

-- a member: its type, the bit at which it begins, and its number of bits if it is a bit-field, else 0
pub record AlignedMember : Type 0 where
  pub type : ℕ
  pub bit : ℕ
  pub bits : ℕ

-- the members in the words of a STRUCT or UNION with this info word
abbrev pub aligned_members_in : ℕ → List ℕ → List AlignedMember
aligned_members_in info (name ∷ type ∷ offset ∷ words) =
    record { type = type; bit = member_bit_offset info offset; bits = member_bit_field_size info offset }
    ∷ aligned_members_in info words
aligned_members_in info words = []

-- What a record gives for the alignment of its type: the alignment, another type with the same alignment, the size and
-- the members of a STRUCT or UNION, or the reason why there is none.
pub data Shape : Type 0 where
  Fixed : (alignment : ℕ) → Shape
  SameAs : (type : ℕ) → Shape
  Composed : (size : ℕ) (members : List AlignedMember) → Shape
  Unaligned : Refusal → Shape

-- the size of a pointer in bytes, which is the largest alignment
abbrev pub pointer_len : ℕ
pointer_len = 8

-- a number is aligned to its size, but at most to the size of a pointer
abbrev pub by_size : ℕ → ℕ → Shape
by_size id size = if size == 0 then Unaligned (UnexpectedBtfType id) else Fixed (min size pointer_len)

-- what the record of an id gives, by its kind; nothing for Unknown, FWD, FUNC, FUNC_PROTO, VAR, DATASEC and DECL_TAG
abbrev pub shape : ℕ → Option Kind → Record → Shape
shape id (Some Int) r = by_size id r.third
shape id (Some Ptr) r = Fixed pointer_len
shape id (Some Array) r = SameAs (element_type r)
shape id (Some Struct) r = Composed r.third (aligned_members_in r.info r.tail)
shape id (Some Union) r = Composed r.third (aligned_members_in r.info r.tail)
shape id (Some Enum) r = by_size id r.third
shape id (Some Typedef) r = SameAs r.third
shape id (Some Volatile) r = SameAs r.third
shape id (Some Const) r = SameAs r.third
shape id (Some Restrict) r = SameAs r.third
shape id (Some Float) r = by_size id r.third
shape id (Some TypeTag) r = SameAs r.third
shape id (Some Enum64) r = by_size id r.third
shape id k r = Unaligned (UnexpectedBtfType id)

-- what an id gives, by its record, if there is one
abbrev pub shape_of : ℕ → Option Record → Shape
shape_of id (Some r) = shape id (kind_of r.info) r
shape_of id None = Unaligned (UnknownBtfType id)

abbrev pub shape_in : List Record → ℕ → Shape
shape_in records id = shape_of id (slice_get records id)

-- ---- alignments

-- A member is in its place if it is a bit-field, or begins at a multiple of the alignment of its type.
abbrev pub is_in_place : AlignedMember → ℕ → Bool
is_in_place m alignment = not (m.bits == 0) || m.bit % (8 * alignment) == 0

-- The answer for a STRUCT or UNION that a member decides, by the alignment of the member's type: an error is the answer,
-- and a member that is not in its place means that the type is packed. Other members decide nothing.
abbrev pub decided_by : AlignedMember → Result ℕ Refusal → Option (Result ℕ Refusal)
decided_by m (Ok alignment) = if is_in_place m alignment then None else Some (Ok 1)
decided_by m (Err refusal) = Some (Err refusal)

-- The alignment of a STRUCT or UNION of this size whose members are in their places, by the largest of their alignments:
-- if the size is no multiple of it, the type is packed.
abbrev pub composed : ℕ → ℕ → ℕ
composed size largest = if size % largest == 0 then largest else 1

mutual
  -- The alignment of the type of an id, or why it has none. A derivation is finite, so it looks at no type that
  -- contains itself.
  pub data Aligns (records : List Record) : ℕ → Result ℕ Refusal → Type 0 where
    unaligned : (id : ℕ) (refusal : Refusal) → shape_in records id ≡ Unaligned refusal
        → Aligns records id (Err refusal)
    fixed : (id alignment : ℕ) → shape_in records id ≡ Fixed alignment → Aligns records id (Ok alignment)
    same_as : (id type : ℕ) (answer : Result ℕ Refusal) → shape_in records id ≡ SameAs type
        → Aligns records type answer → Aligns records id answer
    -- a member decides, and the members before it are in their places
    decided : (id size largest : ℕ) (before after : List AlignedMember) (m : AlignedMember) (alignment answer : Result ℕ Refusal)
        → shape_in records id ≡ Composed size (before ++ m ∷ after) → InPlace records before largest
        → Aligns records m.type alignment → decided_by m alignment ≡ Some answer → Aligns records id answer
    -- all members are in their places
    all : (id size largest : ℕ) (members : List AlignedMember) → shape_in records id ≡ Composed size members
        → InPlace records members largest → Aligns records id (Ok (composed size largest))

  -- These members are in their places, and this is the largest of their alignments, or 1 if there are no members.
  pub data InPlace (records : List Record) : List AlignedMember → ℕ → Type 0 where
    none : InPlace records [] 1
    also : (m : AlignedMember) (members : List AlignedMember) (alignment largest : ℕ) → Aligns records m.type (Ok alignment)
        → decided_by m (Ok alignment) ≡ None → InPlace records members largest
        → InPlace records (m ∷ members) (max alignment largest)

-- ---- types that contain themselves

-- To align one type, another has to be aligned: the one with the same alignment, or the type of a member after members
-- that are in their places.
abbrev pub Needs : List Record → ℕ → ℕ → Type 0
Needs records id type =
    (shape_in records id ≡ SameAs type)
    ⊎ ((size largest : ℕ) × (before after : List AlignedMember) × (m : AlignedMember)
    × (shape_in records id ≡ Composed size (before ++ m ∷ after)) × InPlace records before largest × (m.type ≡ type))

-- A type cannot be aligned, because it is one of a set of types each of which needs another of them.
abbrev pub IsEndless : List Record → ℕ → Type 0
IsEndless records id =
    (waits : ℕ → Bool) × IsTrue (waits id)
    × ((at : ℕ) → IsTrue (waits at) → (type : ℕ) × Needs records at type × IsTrue (waits type))

-- The alignment of a type in bytes, or why it has none.
abbrev pub HasAlignment : List Record → ℕ → Result ℕ Refusal → Type 0
HasAlignment records id answer =
    Aligns records id answer ⊎ (IsEndless records id × (answer ≡ Err (MaximumTypeDepthReached id)))
