-- Places in a type: the type itself, elements of arrays, members.
-- Source: libbpf's `bpf_core_parse_spec`, `bpf_core_spec_match` and `is_flex_arr`. libbpf wraps the number of a field's
-- first bit at 2^32; here such a field is refused.
use Rattle.std.specs.Prelude.{ℕ, ◌+◌, ◌*◌, ◌^◌, ◌==◌, ◌&&◌, ◌||◌, nat_lt, if◌then◌else◌, Bool, true, false, List, [], ◌∷◌, length, slice_get, Option, Some, None, Result, Ok, Err}
use Rattle.btf_model.specs.Record.{Kind, Array, Struct, Union, Record, kind_of, member_bit_offset, member_bit_field_size}
use Rattle.btf_model.specs.Table.{Table}
use Rattle.btf_relocate_model.specs.Types.{◌>>=◌, required_record, resolved, resolved_record, size_of}
use Rattle.btf_relocate_model.specs.declared.error.RelocationError.{RelocationError}
use Rattle.btf_relocate_model.specs.declared.error.RelocationError.TheVariants.{BitOffsetTooBig}
use Rattle.btf_relocate_model.specs.declared.field.Field.{Field}

-- a bit after a number of bits, which has 32 bits
abbrev pub moved_bit : ℕ → ℕ → Result ℕ RelocationError
moved_bit bit by = if nat_lt (bit + by) (2 ^ 32) then Ok (bit + by) else Err BitOffsetTooBig

-- ---- the type itself and elements

-- a value of a type that begins at a bit
abbrev pub value_at : ℕ → ℕ → Field
value_at id bit = record { type_id = id; bit = bit; bits = 0; is_member = false; is_last = false }

-- the value at an index of values of a type, which begin at a bit
abbrev pub placed_value : ℕ → Table → ℕ → ℕ → ℕ → Result Field RelocationError
placed_value pointer t id bit index =
    size_of pointer t id >>= λ size. moved_bit bit (index * size * 8) >>= λ first. Ok (value_at id first)

-- The value of a type at an index, counted in whole values of the type.
abbrev pub root : ℕ → Table → ℕ → ℕ → Result Field RelocationError
root pointer t id index = resolved t id >>= λ end. placed_value pointer t end 0 index

-- A flexible array: it has length 0, and is the last member of its type. It has elements at all indices.
abbrev pub is_flexible : Field → ℕ → Bool
is_flexible f count = count == 0 && f.is_member && f.is_last

-- something that is there, if it is not refused
abbrev pub there : {A : Type 0} → Result A RelocationError → Result (Option A) RelocationError
there (Ok x) = Ok (Some x)
there (Err e) = Err e

-- the element of an ARRAY, by its words: the type of its elements, the type of its index, the number of elements
abbrev pub element_of : ℕ → Table → Field → ℕ → List ℕ → Result (Option Field) RelocationError
element_of pointer t f index (type ∷ index_type ∷ count ∷ []) =
    if nat_lt index count || is_flexible f count
    then (resolved t type >>= λ end. there (placed_value pointer t end f.bit index)) else Ok None
element_of pointer t f index words = Ok None

abbrev pub element_by : ℕ → Table → Field → ℕ → Option Kind → Record → Result (Option Field) RelocationError
element_by pointer t f index (Some Array) r = element_of pointer t f index r.tail
element_by pointer t f index k r = Ok None

-- The element at an index of the ARRAY at a place; none if there is no ARRAY, or no such element.
abbrev pub element : ℕ → Table → Field → ℕ → Result (Option Field) RelocationError
element pointer t f index =
    resolved t f.type_id >>= λ id. required_record t id >>= λ r. element_by pointer t f index (kind_of r.info) r

-- ---- members

-- a member: the string offset of its name, its type, and the word of its offset
pub record Member : Type 0 where
  pub name : ℕ
  pub type : ℕ
  pub offset : ℕ

-- the members in the words of a STRUCT or UNION
abbrev pub members_in : List ℕ → List Member
members_in (name ∷ type ∷ offset ∷ words) = record { name = name; type = type; offset = offset } ∷ members_in words
members_in words = []

-- a member of a type with this info word, which begins at a bit
abbrev pub member_field : ℕ → ℕ → Bool → Member → Result Field RelocationError
member_field info bit is_last m =
    moved_bit bit (member_bit_offset info m.offset) >>= λ first. Ok (record {
      type_id = m.type;
      bit = first;
      bits = member_bit_field_size info m.offset;
      is_member = true;
      is_last = is_last;
    })

-- the members of a type, by its kind; none for a type that is no STRUCT or UNION
abbrev pub members_by : Option Kind → List ℕ → List Member
members_by (Some Struct) words = members_in words
members_by (Some Union) words = members_in words
members_by k words = []

abbrev pub members_of : Record → List Member
members_of r = members_by (kind_of r.info) r.tail

-- a member of a type with this info word, with the string offset of its name
abbrev pub member_or_none : ℕ → ℕ → Bool → Option Member → Result (Option (Field × ℕ)) RelocationError
member_or_none info bit is_last (Some m) = member_field info bit is_last m >>= λ f. Ok (Some (f, m.name))
member_or_none info bit is_last None = Ok None

-- The member at an index of the STRUCT or UNION at a place, with the string offset of its name; none if there is no
-- STRUCT or UNION, or no such member.
abbrev pub member : Table → Field → ℕ → Result (Option (Field × ℕ)) RelocationError
member t f index =
    resolved_record t f.type_id >>= λ r.
    member_or_none r.info f.bit (index + 1 == length (members_of r)) (slice_get (members_of r) index)
