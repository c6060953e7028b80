-- Records: one type of a table as a list of words.
-- Source: the kernel's BTF documentation, "Type Encoding", `struct btf_type` and what follows it for each kind.
use Rattle.std.specs.Prelude.{ℕ, ◌+◌, ◌*◌, ◌/◌, ◌%◌, ◌^◌, List, [], ◌∷◌, take, Bool, true, false, Option, Some, None, slice_get, ◌==◌, if◌then◌else◌}

-- the kinds of types that a record describes
pub data Kind : Type 0 where
  Unknown : Kind
  Int : Kind
  Ptr : Kind
  Array : Kind
  Struct : Kind
  Union : Kind
  Enum : Kind
  Fwd : Kind
  Typedef : Kind
  Volatile : Kind
  Const : Kind
  Restrict : Kind
  Func : Kind
  FuncProto : Kind
  Var : Kind
  DataSec : Kind
  Float : Kind
  DeclTag : Kind
  TypeTag : Kind
  Enum64 : Kind

-- the kinds in the order of their numbers, from 0 to 19
abbrev pub kinds : List Kind
kinds =
    Unknown ∷ Int ∷ Ptr ∷ Array ∷ Struct ∷ Union ∷ Enum ∷ Fwd ∷ Typedef ∷ Volatile ∷ Const ∷ Restrict ∷ Func ∷ FuncProto
    ∷ Var ∷ DataSec ∷ Float ∷ DeclTag ∷ TypeTag ∷ Enum64 ∷ []

-- the highest kind number that the library reads
abbrev pub highest_kind : ℕ
highest_kind = 19

-- A record: the string offset of its name, info, a third word (a size, a type, or unused), and the words after it.
pub record Record : Type 0 where
  pub name : ℕ
  pub info : ℕ
  pub third : ℕ
  pub tail : List ℕ

-- Bits 0 to 15 of info: the number of items in the tail, for the kinds that have a list.
abbrev pub vlen : ℕ → ℕ
vlen info = info % 2 ^ 16

-- Bits 24 to 28 of info.
abbrev pub kind_number : ℕ → ℕ
kind_number info = info / 2 ^ 24 % 2 ^ 5

-- Bit 31 of info, as 0 or 1.
abbrev pub kind_flag : ℕ → ℕ
kind_flag info = info / 2 ^ 31

-- the kind in an info word, if the library reads that kind
abbrev pub kind_of : ℕ → Option Kind
kind_of info = slice_get (take (highest_kind + 1) kinds) (kind_number info)

-- The number of words after the third, by the kind and the number of items.
abbrev pub tail_words : Kind → ℕ → ℕ
tail_words Unknown n = 0
tail_words Int n = 1
tail_words Ptr n = 0
tail_words Array n = 3
tail_words Struct n = 3 * n
tail_words Union n = 3 * n
tail_words Enum n = 2 * n
tail_words Fwd n = 0
tail_words Typedef n = 0
tail_words Volatile n = 0
tail_words Const n = 0
tail_words Restrict n = 0
tail_words Func n = 0
tail_words FuncProto n = 2 * n
tail_words Var n = 1
tail_words DataSec n = 3 * n
tail_words Float n = 0
tail_words DeclTag n = 1
tail_words TypeTag n = 0
tail_words Enum64 n = 3 * n

-- the record of id 0, which has no bytes
abbrev pub unknown : Record
unknown = record { name = 0; info = 0; third = 0; tail = [] }

-- the words of a record, in order
abbrev pub words : Record → List ℕ
words r = r.name ∷ r.info ∷ r.third ∷ r.tail

-- The size in bytes that a record gives: its third word, or 8 for a pointer; none for kinds without a size.
abbrev pub record_size : Kind → Record → Option ℕ
record_size Int r = Some r.third
record_size Ptr r = Some 8
record_size Struct r = Some r.third
record_size Union r = Some r.third
record_size Enum r = Some r.third
record_size DataSec r = Some r.third
record_size Float r = Some r.third
record_size Enum64 r = Some r.third
record_size k r = None

-- The one type that a record refers to: its third word, for the kinds whose third word is a type here; none for the
-- other kinds. FUNC is one of the others.
abbrev pub record_target : Kind → Record → Option ℕ
record_target Ptr r = Some r.third
record_target Typedef r = Some r.third
record_target Volatile r = Some r.third
record_target Const r = Some r.third
record_target Restrict r = Some r.third
record_target FuncProto r = Some r.third
record_target Var r = Some r.third
record_target DeclTag r = Some r.third
record_target TypeTag r = Some r.third
record_target k r = None

-- STRUCT and UNION
abbrev pub is_composite : Kind → Bool
is_composite Struct = true
is_composite Union = true
is_composite k = false

-- A comparison treats ENUM and ENUM64 as one kind, and each other kind as itself.
abbrev pub compared_kind : Kind → Kind
compared_kind Enum64 = Enum
compared_kind k = k

-- The bit at which a member of a STRUCT or UNION begins, by the record's info and the member's offset word: the low 24
-- bits of the word if the kind flag is set, else the whole word.
abbrev pub member_bit_offset : ℕ → ℕ → ℕ
member_bit_offset info offset = if kind_flag info == 1 then offset % 2 ^ 24 else offset

-- The number of bits of a bit-field member: the high 8 bits of its offset word if the kind flag is set, else 0.
abbrev pub member_bit_field_size : ℕ → ℕ → ℕ
member_bit_field_size info offset = if kind_flag info == 1 then offset / 2 ^ 24 else 0
