-- The value of a field, by the kind of the relocation.
-- Source: libbpf's `bpf_core_calc_field_relo`. A bit-field of a type that is no integer of 1, 2, 4 or 8 bytes, and a
-- shift of a member of more than 8 bytes, are refused here; libbpf divides by the size, and wraps the shift.
use Rattle.std.specs.Prelude.{ℕ, ◌+◌, ◌-◌, ◌*◌, ◌/◌, ◌%◌, ◌^◌, ◌==◌, ◌&&◌, ◌||◌, not, nat_lt, nat_le, if◌then◌else◌, Bool, true, false, List, [], ◌∷◌, slice_index, Option, Some, Result, Ok, Err}
use Rattle.btf_model.specs.Record.{Kind, Int, Ptr, Enum, Enum64, Record, kind_of, kind_flag}
use Rattle.btf_model.specs.Table.{Table}
use Rattle.btf_model.specs.declared.endianness.Endianness.{Endianness}
use Rattle.btf_model.specs.declared.endianness.Endianness.TheVariants.{Little, Big}
use Rattle.btf_relocate_model.specs.Types.{◌>>=◌, required_record, resolved, size_of}
use Rattle.btf_relocate_model.specs.declared.error.RelocationError.{RelocationError}
use Rattle.btf_relocate_model.specs.declared.error.RelocationError.TheVariants.{NotForElement, BadBitfield, BitfieldTooWide, ShiftTooWide}
use Rattle.btf_relocate_model.specs.declared.field.Field.{Field}
use Rattle.btf_relocate_model.specs.declared.field.Load.{Load}
use Rattle.btf_relocate_model.specs.declared.field.Value.{Value}
use Rattle.btf_relocate_model.specs.declared.kind.RelocationKind.{RelocationKind}
use Rattle.btf_relocate_model.specs.declared.kind.RelocationKind.TheVariants.{FieldByteOffset, FieldByteSize, FieldExists, FieldSigned, FieldLShift64, FieldRShift64}

-- the load of this many bytes that is aligned and has the first bit of a bit-field
abbrev pub aligned_load : Field → ℕ → Load
aligned_load f size = record {
  offset = f.bit / 8 / size * size;
  size = size;
  start = f.bit - f.bit / 8 / size * size * 8;
  bits = f.bits;
}

-- the load holds all bits of its field
abbrev pub holds : Load → Bool
holds l = nat_le (l.start + l.bits) (l.size * 8)

-- the first of these sizes, from a size on, whose aligned load holds the bit-field
abbrev pub first_holding : Field → ℕ → List ℕ → Result Load RelocationError
first_holding f from [] = Err BitfieldTooWide
first_holding f from (size ∷ sizes) =
    if nat_le from size && holds (aligned_load f size) then Ok (aligned_load f size) else first_holding f from sizes

-- the size of a type that a bit-field may have, else 0
abbrev pub bit_field_size : Option Kind → Record → ℕ
bit_field_size (Some Int) r = r.third
bit_field_size (Some Enum) r = r.third
bit_field_size (Some Enum64) r = r.third
bit_field_size k r = 0

-- 1, 2, 4 and 8
abbrev pub is_load_size : ℕ → Bool
is_load_size size = size == 1 || size == 2 || size == 4 || size == 8

-- the load of a bit-field whose type has this size
abbrev pub bit_field_load_of : Field → ℕ → ℕ → Result Load RelocationError
bit_field_load_of f id size =
    if is_load_size size then first_holding f size (1 ∷ 2 ∷ 4 ∷ 8 ∷ []) else Err (BadBitfield id)

-- The load of a bit-field whose type resolves to an id: the least aligned load, from the size of the type on, that
-- holds all of its bits.
abbrev pub bit_field_load : Table → Field → ℕ → Result Load RelocationError
bit_field_load t f id = required_record t id >>= λ r. bit_field_load_of f id (bit_field_size (kind_of r.info) r)

-- a member that is no bit-field
abbrev pub plain_load : Field → ℕ → Load
plain_load f size = record { offset = f.bit / 8; size = size; start = f.bit % 8; bits = size * 8 }

-- The load of a member whose type resolves to an id.
abbrev pub load_of : ℕ → Table → Field → ℕ → Result Load RelocationError
load_of pointer t f id =
    if not (f.bits == 0) then bit_field_load t f id
    else (size_of pointer t id >>= λ size. Ok (plain_load f size))

-- ---- shifts

-- a shift by the bits of a register of 64 bits that a number of them leaves
abbrev pub rest_of : ℕ → ℕ → Result ℕ RelocationError
rest_of whole bits = if nat_lt whole bits then Err ShiftTooWide else Ok (whole - bits)

-- The left shift that moves the last bit of a loaded field to the top of a register of 64 bits.
abbrev pub left_shift : Endianness → Load → Result ℕ RelocationError
left_shift Little l = rest_of 64 (l.start + l.bits)
left_shift Big l = rest_of 8 l.size >>= λ bytes. Ok (l.start + bytes * 8)

-- ---- signs

-- the bits of an INT's encoding
abbrev pub encoding : Record → ℕ
encoding r = slice_index r.tail 0 / 2 ^ 24 % 2 ^ 4

-- A signed type: an INT whose encoding has bit 0, or an ENUM or ENUM64 with the kind flag.
abbrev pub is_signed_type : Option Kind → Record → Bool
is_signed_type (Some Int) r = encoding r % 2 == 1
is_signed_type (Some Enum) r = kind_flag r.info == 1
is_signed_type (Some Enum64) r = kind_flag r.info == 1
is_signed_type k r = false

-- ---- sizes of loads and stores

-- A load or store of one type may become one of another type: both are PTRs, or both are INTs and none of them has the
-- encoding of a plain signed number, so that zero-extension is right.
abbrev pub is_adjustable : Option Kind → Option Kind → Record → Record → Bool
is_adjustable (Some Ptr) (Some Ptr) r s = true
is_adjustable (Some Int) (Some Int) r s = not (encoding r == 1) && not (encoding s == 1)
is_adjustable k q r s = false

-- ---- values

-- a value that sets no size of a load or store
abbrev pub plain : ℕ → Value
plain value = record { value = value; size = 0; type_id = 0 }

abbrev pub plainly : Result ℕ RelocationError → Result Value RelocationError
plainly (Ok value) = Ok (plain value)
plainly (Err e) = Err e

-- one or zero
abbrev pub truth_number : Bool → ℕ
truth_number true = 1
truth_number false = 0

-- the offset of a load, which sets the size of a load or store unless the member is a bit-field
abbrev pub offset_value : Field → ℕ → Load → Value
offset_value f id l =
    if f.bits == 0 then record { value = l.offset; size = l.size; type_id = id } else plain l.offset

-- the value of a member by its load; its type resolves to an id
abbrev pub member_value : Table → RelocationKind → Field → ℕ → Load → Result Value RelocationError
member_value t FieldByteOffset f id l = Ok (offset_value f id l)
member_value t FieldByteSize f id l = Ok (plain l.size)
member_value t FieldSigned f id l =
    required_record t id >>= λ r. Ok (plain (truth_number (is_signed_type (kind_of r.info) r)))
member_value t FieldLShift64 f id l = plainly (left_shift t.order l)
member_value t FieldRShift64 f id l = plainly (rest_of 64 l.bits)
member_value t k f id l = Ok (plain 0)

-- the value of an element, or of the type itself
abbrev pub element_value : ℕ → Table → RelocationKind → Field → Result Value RelocationError
element_value pointer t FieldByteOffset f =
    size_of pointer t f.type_id >>= λ size. Ok (record { value = f.bit / 8; size = size; type_id = f.type_id })
element_value pointer t FieldByteSize f = size_of pointer t f.type_id >>= λ size. Ok (plain size)
element_value pointer t k f = Err NotForElement

-- the value of a field that is no question of its existence
abbrev pub value_by : ℕ → Table → RelocationKind → Field → Result Value RelocationError
value_by pointer t k f =
    if not f.is_member then element_value pointer t k f
    else (resolved t f.type_id >>= λ id. load_of pointer t f id >>= λ l. member_value t k f id l)

-- The value of a field for a kind about fields, in a table whose pointers have a size.
abbrev pub field_value : ℕ → Table → RelocationKind → Field → Result Value RelocationError
field_value pointer t FieldExists f = Ok (plain 1)
field_value pointer t k f = value_by pointer t k f
