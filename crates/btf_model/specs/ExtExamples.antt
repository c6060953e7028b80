-- Worked examples of the definitions of `.BTF.ext`, computed.
use Rattle.std.specs.Prelude.{◌≡◌, [], ◌∷◌, Some, None, option_map, refl}
use Rattle.btf_model.specs.declared.endianness.Endianness.TheVariants.{Little, Big}
use Rattle.btf_model.specs.Refusal.{InvalidInfo}
use Rattle.btf_model.specs.Ext.{Section, ext_section_bytes, cut_refusal, record_words, in_instructions, section_named, ext_header_bytes, header_words, part_of}

one_section : Section
one_section = record { name = 7; count = 1; bytes = 1 ∷ 2 ∷ 3 ∷ 4 ∷ 5 ∷ 6 ∷ 7 ∷ 8 ∷ [] }

section_in_big_order : ext_section_bytes Big one_section ≡ 0 ∷ 0 ∷ 0 ∷ 7 ∷ 0 ∷ 0 ∷ 0 ∷ 1 ∷ 1 ∷ 2 ∷ 3 ∷ 4 ∷ 5 ∷ 6 ∷ 7 ∷ 8 ∷ []
unfolding one_section
section_in_big_order = refl

-- the first words of two records of five bytes
words_of_records : record_words Little 5 1 2 (1 ∷ 0 ∷ 0 ∷ 0 ∷ 9 ∷ 2 ∷ 0 ∷ 0 ∷ 0 ∷ 9 ∷ []) ≡ (1 ∷ []) ∷ (2 ∷ []) ∷ []
words_of_records = refl

instruction_2 : in_instructions (16 ∷ 42 ∷ []) ≡ 2 ∷ 42 ∷ []
instruction_2 = refl

-- a rest of seven bytes, one with no records, and one that is truncated: it should have 4,294,967,295 records of 8
-- bytes
cut_head : cut_refusal Little 8 (0 ∷ 0 ∷ 0 ∷ 0 ∷ 1 ∷ 0 ∷ 0 ∷ []) ≡ InvalidInfo 0 8 7
cut_head = refl

no_record : cut_refusal Little 8 (0 ∷ 0 ∷ 0 ∷ 0 ∷ 0 ∷ 0 ∷ 0 ∷ 0 ∷ []) ≡ InvalidInfo 8 0 8
no_record = refl

cut_records : cut_refusal Little 8 (0 ∷ 0 ∷ 0 ∷ 0 ∷ 255 ∷ 255 ∷ 255 ∷ 255 ∷ 0 ∷ 0 ∷ 0 ∷ 0 ∷ []) ≡ InvalidInfo 8 34359738360 12
cut_records = refl

-- the last section of a name
last_of_a_name : option_map (λ s. s.name) (section_named (record { text = 97 ∷ []; section = record { name = 1; count = 1; bytes = [] } } ∷ record { text = 97 ∷ []; section = record { name = 3; count = 1; bytes = [] } } ∷ record { text = []; section = record { name = 0; count = 1; bytes = [] } } ∷ []) (97 ∷ [])) ≡ Some 3
last_of_a_name = refl

none_of_a_name : option_map (λ s. s.name) (section_named (record { text = 97 ∷ []; section = one_section } ∷ []) []) ≡ None
none_of_a_name = refl

-- a header of 12 bytes: the words after them are zeros
short_header : header_words Little (ext_header_bytes Little (159 ∷ 235 ∷ 1 ∷ 0 ∷ 12 ∷ 0 ∷ 0 ∷ 0 ∷ 5 ∷ 0 ∷ 0 ∷ 0 ∷ 77 ∷ 0 ∷ 0 ∷ 0 ∷ []))
    ≡ record { func = record { start = 17; len = 0; least = 8 }; line = record { start = 12; len = 0; least = 16 }; core = record { start = 12; len = 0; least = 16 } }
short_header = refl

-- a header whose length is 0: all its words are zeros
no_header : ext_header_bytes Big (235 ∷ 159 ∷ 1 ∷ 0 ∷ 0 ∷ 0 ∷ 0 ∷ 0 ∷ []) ≡ 0 ∷ 0 ∷ 0 ∷ 0 ∷ 0 ∷ 0 ∷ 0 ∷ 0 ∷ 0 ∷ 0 ∷ 0 ∷ 0 ∷ 0 ∷ 0 ∷ 0 ∷ 0 ∷ 0 ∷ 0 ∷ 0 ∷ 0 ∷ 0 ∷ 0 ∷ 0 ∷ 0 ∷ 0 ∷ 0 ∷ 0 ∷ 0 ∷ 0 ∷ 0 ∷ 0 ∷ 0 ∷ []
no_header = refl

-- a range of six bytes: the record size 8, and two bytes of sections
part_of_range : part_of Little (9 ∷ 8 ∷ 0 ∷ 0 ∷ 0 ∷ 1 ∷ 2 ∷ 3 ∷ []) (record { start = 1; len = 6; least = 8 }) ≡ record { size = 8; bytes = 1 ∷ 2 ∷ [] }
part_of_range = refl

empty_range : part_of Little (9 ∷ 8 ∷ []) (record { start = 1; len = 0; least = 8 }) ≡ record { size = 0; bytes = [] }
empty_range = refl
