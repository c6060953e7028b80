-- Worked examples of the rules of DATASECs, computed.
use Rattle.std.specs.Prelude.{◌≡◌, ℕ, ◌+◌, length, List, [], ◌∷◌, codes, Some, None, refl}
use Rattle.std.specs.Option.{option_or}
use Rattle.std.specs.Fmt.{digits}
use Rattle.bstr.specs.Utf8.{pieces_from}
use lib.Utf8.{encode}
use Rattle.btf_model.specs.Record.{Record, unknown}
use Rattle.btf_model.specs.Refusal.{InvalidStringOffset, InvalidTypeInfo, InvalidDatasec, UnknownBtfType, UnknownSectionSize}
use Rattle.btf_rewrite_model.specs.declared.feature.BtfFeature.TheVariants as features
use Rattle.btf_rewrite_model.specs.Feature.{needs}
use Rattle.btf_rewrite_model.specs.declared.feature.BtfFeature.{BtfFeature}
use Rattle.btf_rewrite_model.specs.declared.feature.FillPolicy.{FillPolicy}
use Rattle.btf_rewrite_model.specs.declared.feature.FillPolicy.TheVariants.{KeepSized, FillSized}
use Rattle.btf_rewrite_model.specs.Pass.{Pass, no_layout, Asked, asks, texts_below, added_below}
use Rattle.btf_rewrite_model.specs.Fault.{fault}
use Rattle.btf_rewrite_model.specs.Rule.{ruled_below, becomes}
use Rattle.btf_rewrite_model.specs.Rewritten.{rewritten}
use Rattle.btf_model.specs.CompatExamples.{table_with}
use Rattle.btf_model.specs.Made.{data_sec}
use Rattle.btf_rewrite_model.specs.Made.{c_int}
use Rattle.btf_rewrite_model.specs.RewriteExamples.{only, named_table, granted}

-- ---- a section with a variable

-- "int" at 1, "foo" at 5, ".data/foo" at 9: INT 1, Global VAR 2 of it, and DATASEC 3 of size 0 with it as its entry
abbrev completed_section : Pass
completed_section = record {
  table = named_table (codes "int" ∷ codes "foo" ∷ codes ".data/foo" ∷ []) (c_int 1 ∷ record { name = 5; info = 0x0e000000; third = 1; tail = 1 ∷ [] } ∷ data_sec 9 0 1 (2 ∷ 0 ∷ 4 ∷ []) ∷ []);
  layout = record { sections = only (codes ".data/foo") 32; symbols = only (codes "foo") 64 };
  policy = KeepSized;
  answers = granted (features.DataSec ∷ []);
}

section_is_completed : becomes completed_section 3 ≡ data_sec 19 32 1 (2 ∷ 64 ∷ 4 ∷ [])
unfolding pieces_from encode
section_is_completed = refl

its_new_name : texts_below completed_section 4 ≡ codes ".data.foo" ∷ []
unfolding pieces_from encode
its_new_name = refl

variables_ask_for_sections : (Asked completed_section ≡ features.DataSec ∷ []) × (fault completed_section 3 ≡ None)
unfolding pieces_from encode
variables_ask_for_sections = (refl, refl)

-- the same without its section's size
unknown_section : fault (record completed_section { layout = no_layout }) 3 ≡ Some (UnknownSectionSize (codes ".data/foo"))
unfolding pieces_from encode
unknown_section = refl

-- ---- sections without entries

-- ".a" at 1, ".b" at 4: DATASECs 1 and 2 of size 0 without entries, of sections of 0 and 5 bytes, for a kernel that
-- does not accept a DATASEC without entries
abbrev empty_sections : Pass
empty_sections = record {
  table = named_table (codes ".a" ∷ codes ".b" ∷ []) (data_sec 1 0 0 [] ∷ data_sec 4 0 0 [] ∷ []);
  layout = record { sections = λ name. option_or (only (codes ".a") 0 name) (only (codes ".b") 5 name); symbols = λ name. None };
  policy = KeepSized;
  answers = granted (features.DataSec ∷ []);
}

both_are_filled : ruled_below empty_sections 3 ≡ unknown ∷ data_sec 1 1 1 (4 ∷ 0 ∷ 1 ∷ []) ∷ data_sec 4 5 1 (4 ∷ 0 ∷ 5 ∷ []) ∷ []
unfolding pieces_from encode
both_are_filled = refl

one_filler : added_below empty_sections 3 ≡ record { name = 7; info = 0x01000000; third = 1; tail = 8 ∷ [] } ∷ record { name = 33; info = 0x0e000000; third = 3; tail = 0 ∷ [] } ∷ []
unfolding pieces_from encode
one_filler = refl

strings_of_the_filler : length (rewritten empty_sections).strings ≡ 54
unfolding pieces_from encode
strings_of_the_filler = refl

-- the second asks for DataSecZero; the first does not, because its section is empty
empty_section_is_asked_about : (asks empty_sections 1 ≡ features.DataSec ∷ []) × (asks empty_sections 2 ≡ features.DataSec ∷ features.DataSecZero ∷ [])
unfolding pieces_from encode
empty_section_is_asked_about = (refl, refl)

-- ".a" at 1: DATASEC 1 of 9 bytes without entries, whose section is not known
abbrev sized_section : FillPolicy → List BtfFeature → Pass
sized_section policy fs = record { table = named_table (codes ".a" ∷ []) (data_sec 1 9 0 [] ∷ []); layout = no_layout; policy = policy; answers = granted fs }

-- it is unchanged, does not ask for DataSecZero, and needs nothing more
sized_section_stays : (becomes (sized_section KeepSized (features.DataSec ∷ [])) 1 ≡ data_sec 1 9 0 []) × (Asked (sized_section KeepSized (features.DataSec ∷ [])) ≡ features.DataSec ∷ [])
    × (needs KeepSized (data_sec 1 9 0 []) (data_sec 1 9 0 []) ≡ features.DataSec ∷ [])
unfolding pieces_from encode
sized_section_stays = (refl, refl, refl)

-- under the other policy it asks for DataSecZero, and gets the filler with its own size
sized_section_is_filled : (becomes (sized_section FillSized (features.DataSec ∷ [])) 1 ≡ data_sec 1 9 1 (3 ∷ 0 ∷ 9 ∷ [])) × (Asked (sized_section FillSized (features.DataSec ∷ [])) ≡ features.DataSec ∷ features.DataSecZero ∷ [])
unfolding pieces_from encode
sized_section_is_filled = (refl, refl)

-- or it is unchanged, if the kernel accepts it
sized_section_is_taken : (becomes (sized_section FillSized (features.DataSec ∷ features.DataSecZero ∷ [])) 1 ≡ data_sec 1 9 0 []) × (needs FillSized (data_sec 1 9 0 []) (data_sec 1 9 0 []) ≡ features.DataSec ∷ features.DataSecZero ∷ [])
unfolding pieces_from encode
sized_section_is_taken = (refl, refl)

-- ".a" at 1: ENUM64 1 without variants, and DATASEC 2 of size 0 without entries: the member type is appended before the
-- filler
abbrev member_type_and_filler : Pass
member_type_and_filler = record {
  table = named_table (codes ".a" ∷ []) (record { name = 0; info = 0x13000000; third = 8; tail = [] } ∷ data_sec 1 0 0 [] ∷ []);
  layout = record { sections = only (codes ".a") 0; symbols = λ name. None };
  policy = KeepSized;
  answers = granted (features.DataSec ∷ []);
}

three_types_are_added : added_below member_type_and_filler 3
    ≡ record { name = 4; info = 0x01000000; third = 1; tail = 8 ∷ [] } ∷ record { name = 23; info = 0x01000000; third = 1; tail = 8 ∷ [] } ∷ record { name = 49; info = 0x0e000000; third = 4; tail = 0 ∷ [] } ∷ []
unfolding pieces_from encode
three_types_are_added = refl

filled_by_the_third : becomes member_type_and_filler 2 ≡ data_sec 1 1 1 (5 ∷ 0 ∷ 1 ∷ [])
unfolding pieces_from encode
filled_by_the_third = refl

-- ---- sections that become structures

-- "p" at 1, "d" at 3: PTR 1 of name 1, DATASEC 2 of name 3 with 1 and 3 as entries, PTR 3 of name 1: only the member of
-- the lower id has its type's new name
abbrev no_sections : Pass
no_sections = record {
  table = named_table (codes "p" ∷ codes "d" ∷ [])
      (record { name = 1; info = 0x02000000; third = 0; tail = [] } ∷ data_sec 3 0 2 (1 ∷ 0 ∷ 8 ∷ 3 ∷ 8 ∷ 8 ∷ []) ∷ record { name = 1; info = 0x02000000; third = 0; tail = [] } ∷ []);
  layout = no_layout;
  policy = KeepSized;
  answers = [];
}

members_have_new_names : becomes no_sections 2 ≡ record { name = 3; info = 0x04000002; third = 2; tail = 0 ∷ 1 ∷ 0 ∷ 1 ∷ 3 ∷ 64 ∷ [] }
unfolding pieces_from encode
members_have_new_names = refl

-- ".d" at 1: if a DATASEC is its own entry, the member has the old name
abbrev own_entry : List BtfFeature → Pass
own_entry fs = record { table = named_table (codes ".d" ∷ []) (data_sec 1 0 1 (1 ∷ 0 ∷ 4 ∷ []) ∷ []); layout = record { sections = only (codes ".d") 8; symbols = λ name. None }; policy = KeepSized; answers = granted fs }

own_entry_becomes_member : (becomes (own_entry []) 1 ≡ record { name = 4; info = 0x04000001; third = 1; tail = 1 ∷ 1 ∷ 0 ∷ [] }) × (texts_below (own_entry []) 2 ≡ codes "_d" ∷ [])
unfolding pieces_from encode
own_entry_becomes_member = (refl, refl)

own_entry_is_no_variable : fault (own_entry (features.DataSec ∷ [])) 1 ≡ Some InvalidDatasec
unfolding pieces_from encode
own_entry_is_no_variable = refl

-- ".x" at 1: one of 5 bytes without entries becomes a STRUCT of size 0, because its size is the number of its entries
abbrev sized_structure : Pass
sized_structure = record { table = named_table (codes ".x" ∷ []) (data_sec 1 5 0 [] ∷ []); layout = no_layout; policy = KeepSized; answers = [] }

sized_section_becomes_struct : (becomes sized_structure 1 ≡ record { name = 4; info = 0x04000000; third = 0; tail = [] }) × (texts_below sized_structure 2 ≡ codes "_x" ∷ []) × (Asked sized_structure ≡ features.DataSec ∷ [])
unfolding pieces_from encode
sized_section_becomes_struct = (refl, refl, refl)

-- an offset in bits that exceeds 32 bits, and the last offset that does not
abbrev member_at : ℕ → Pass
member_at offset = record { table = named_table (codes "d" ∷ []) (data_sec 1 0 1 (0 ∷ offset ∷ 4 ∷ []) ∷ []); layout = no_layout; policy = KeepSized; answers = [] }

member_too_far : (fault (member_at 0x20000000) 1 ≡ Some InvalidTypeInfo) × (fault (member_at 0x1fffffff) 1 ≡ None) × ((becomes (member_at 0x1fffffff) 1).tail ≡ 0 ∷ 0 ∷ 0xfffffff8 ∷ [])
unfolding pieces_from encode
member_too_far = (refl, refl, refl)

-- an entry of a type that the pass itself appends: ENUM64 1, and DATASEC 2 with an entry of 3
abbrev appended_entry : Pass
appended_entry = record {
  table = named_table (codes "d" ∷ []) (record { name = 0; info = 0x13000000; third = 8; tail = [] } ∷ data_sec 1 0 1 (3 ∷ 0 ∷ 4 ∷ []) ∷ []);
  layout = no_layout;
  policy = KeepSized;
  answers = [];
}

appended_type_is_unknown : fault appended_entry 2 ≡ Some (UnknownBtfType 3)
unfolding pieces_from encode
appended_type_is_unknown = refl

-- ---- texts that are appended are not read

-- INT 1, FUNC_PROTO 2 with a parameter without a name, FUNC 3 of the name 1, an offset after all strings
abbrev after_all_strings : Pass
after_all_strings = record {
  table = table_with (c_int 0 ∷ record { name = 0; info = 0x0d000001; third = 0; tail = 0 ∷ 1 ∷ [] } ∷ record { name = 1; info = 0x0c000000; third = 2; tail = [] } ∷ []);
  layout = no_layout;
  policy = KeepSized;
  answers = granted (features.Func ∷ []);
}

appended_text_is_not_read : fault after_all_strings 3 ≡ Some (InvalidStringOffset 1)
unfolding digits
appended_text_is_not_read = refl
