-- Worked examples of the definitions, computed.
use Rattle.std.specs.Prelude.{◌≡◌, [], ◌∷◌, Some, None, refl}
use Rattle.btf_model.specs.Word.{word, word_of, half}
use Rattle.btf_model.specs.declared.endianness.Endianness.TheVariants.{Little, Big}
use Rattle.btf_model.specs.Record.{Unknown, Int, Ptr, Struct, Fwd, Var, Enum64, Record, kind_of, kind_flag, vlen, tail_words, member_bit_offset, member_bit_field_size, unknown}
use Rattle.btf_model.specs.Spelling.{spell, kept}
use Rattle.btf_model.specs.Refusal.{InvalidTypeInfo, InvalidTypeKind}
use Rattle.btf_model.specs.Table.{empty_table, with_string, with_type}
use Rattle.btf_model.specs.Blob.{header_of, canon, rest_refusal}

word_in_both_orders : (word Little 0x0a0b0c0d ≡ 0x0d ∷ 0x0c ∷ 0x0b ∷ 0x0a ∷ []) × (word Big 0x0a0b0c0d ≡ 0x0a ∷ 0x0b ∷ 0x0c ∷ 0x0d ∷ [])
word_in_both_orders = (refl, refl)

word_is_read : word_of Big (0 ∷ 0 ∷ 1 ∷ 2 ∷ []) ≡ 258
word_is_read = refl

magic_in_both_orders : (half Little 0xeb9f ≡ 0x9f ∷ 0xeb ∷ []) × (half Big 0xeb9f ≡ 0xeb ∷ 0x9f ∷ [])
magic_in_both_orders = (refl, refl)

-- an INT of name 1, size 8 and 64 bits
int64 : Record
int64 = record { name = 1; info = 0x01000000; third = 8; tail = 0x40 ∷ [] }

kind_of_int : kind_of 0x01000000 ≡ Some Int
kind_of_int = refl

-- spare bits of info do not affect the kind
kind_of_ptr : (kind_of 0x82ff0005 ≡ Some Ptr) × (vlen 0x82ff0005 ≡ 5) × (kind_flag 0x82ff0005 ≡ 1)
kind_of_ptr = (refl, refl, refl)

kind_beyond : kind_of 0x14000000 ≡ None
kind_beyond = refl

int64_little : spell Little int64 ≡ 1 ∷ 0 ∷ 0 ∷ 0 ∷ 0 ∷ 0 ∷ 0 ∷ 1 ∷ 8 ∷ 0 ∷ 0 ∷ 0 ∷ 0x40 ∷ 0 ∷ 0 ∷ 0 ∷ []
unfolding int64
int64_little = refl

int64_big : spell Big int64 ≡ 0 ∷ 0 ∷ 0 ∷ 1 ∷ 1 ∷ 0 ∷ 0 ∷ 0 ∷ 0 ∷ 0 ∷ 0 ∷ 8 ∷ 0 ∷ 0 ∷ 0 ∷ 0x40 ∷ []
unfolding int64
int64_big = refl

-- a record of kind 0 is Unknown, whatever its other words are
unknown_keeps_nothing : kept Unknown (record { name = 7; info = 0; third = 9; tail = [] }) ≡ unknown
unknown_keeps_nothing = refl

-- a linkage of VAR above 2 is 3
linkage_without_a_name : kept Var (record { name = 5; info = 0x0e000000; third = 9; tail = 7 ∷ [] }) ≡ record { name = 5; info = 0x0e000000; third = 9; tail = 3 ∷ [] }
linkage_without_a_name = refl

-- a STRUCT of two members under the kind flag: 3 bits at bit 0, and the word at bit 32
bit_fields : (kind_of 0x84000002 ≡ Some Struct) × (tail_words Struct (vlen 0x84000002) ≡ 6) × (kind_flag 0x84000002 ≡ 1)
bit_fields = (refl, refl, refl)

bit_field_place : (member_bit_offset 0x84000002 0x03000020 ≡ 32) × (member_bit_field_size 0x84000002 0x03000020 ≡ 3)
bit_field_place = (refl, refl)

-- without the flag the whole word is the offset
plain_member_place : (member_bit_offset 0x04000002 0x03000020 ≡ 0x03000020) × (member_bit_field_size 0x04000002 0x03000020 ≡ 0)
plain_member_place = (refl, refl)

-- an ENUM64 of one value has three words after its third
enum64_words : (kind_of 0x13000001 ≡ Some Enum64) × (tail_words Enum64 (vlen 0x13000001) ≡ 3)
enum64_words = (refl, refl)

-- reading drops the third word of a FWD
fwd_keeps_no_third_word : kept Fwd (record { name = 5; info = 0x87000000; third = 9; tail = [] }) ≡ record { name = 5; info = 0x87000000; third = 0; tail = [] }
fwd_keeps_no_third_word = refl

-- why a rest begins with no spelling: an unknown kind, and then fewer than three words
unknown_kind : rest_refusal Little (0 ∷ 0 ∷ 0 ∷ 0 ∷ 0 ∷ 0 ∷ 0 ∷ 0x14 ∷ 0 ∷ 0 ∷ 0 ∷ 0 ∷ []) ≡ InvalidTypeKind 20
unknown_kind = refl

cut_record : rest_refusal Little (0 ∷ 0 ∷ 0 ∷ 0 ∷ 0 ∷ 0 ∷ 0 ∷ 0x14 ∷ 0 ∷ 0 ∷ 0 ∷ []) ≡ InvalidTypeInfo
cut_record = refl

-- a new table, written
empty_blob : canon empty_table ≡ 0x9f ∷ 0xeb ∷ 1 ∷ 0 ∷ 0x18 ∷ 0 ∷ 0 ∷ 0 ∷ 0 ∷ 0 ∷ 0 ∷ 0 ∷ 0 ∷ 0 ∷ 0 ∷ 0 ∷ 0 ∷ 0 ∷ 0 ∷ 0 ∷ 1 ∷ 0 ∷ 0 ∷ 0 ∷ 0 ∷ []
empty_blob = refl

-- its header
empty_header : header_of Little (canon empty_table) ≡ record { magic = 0xeb9f; version = 1; flags = 0; hdr_len = 24; type_off = 0; type_len = 0; str_off = 0; str_len = 1 }
empty_header = refl

-- "int" and an INT of 4 bytes with a sign
one_int : canon (with_type (record { name = 1; info = 0x01000000; third = 4; tail = 0x01000020 ∷ [] }) None (with_string (0x69 ∷ 0x6e ∷ 0x74 ∷ []) empty_table))
    ≡ 0x9f ∷ 0xeb ∷ 1 ∷ 0 ∷ 0x18 ∷ 0 ∷ 0 ∷ 0 ∷ 0 ∷ 0 ∷ 0 ∷ 0 ∷ 0x10 ∷ 0 ∷ 0 ∷ 0 ∷ 0x10 ∷ 0 ∷ 0 ∷ 0 ∷ 5 ∷ 0 ∷ 0 ∷ 0
    ∷ 1 ∷ 0 ∷ 0 ∷ 0 ∷ 0 ∷ 0 ∷ 0 ∷ 1 ∷ 4 ∷ 0 ∷ 0 ∷ 0 ∷ 0x20 ∷ 0 ∷ 0 ∷ 1
    ∷ 0 ∷ 0x69 ∷ 0x6e ∷ 0x74 ∷ 0 ∷ []
one_int = refl
