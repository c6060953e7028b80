-- Worked examples of the rules of single records, computed.
use Rattle.std.specs.Prelude.{◌≡◌, ℕ, ◌+◌, ◌++◌, List, [], ◌∷◌, true, false, map, codes, if◌then◌else◌, Option, Some, None, refl}
use Rattle.std.specs.Str.{bytes_eq}
use Rattle.std.specs.List.{flat_map}
use Rattle.std.specs.Fmt.{digits}
use Rattle.bstr.specs.Utf8.{pieces_from}
use lib.Utf8.{encode}
use Rattle.btf_model.specs.Record.{Record, unknown}
use Rattle.btf_model.specs.Refusal.{InvalidStringOffset}
use Rattle.btf_model.specs.Table.{Table}
use Rattle.btf_rewrite_model.specs.declared.feature.BtfFeature.TheVariants as features
use Rattle.btf_rewrite_model.specs.declared.feature.BtfFeature.{BtfFeature}
use Rattle.btf_rewrite_model.specs.declared.feature.FeatureAnswer.{FeatureAnswer}
use Rattle.btf_rewrite_model.specs.declared.feature.FillPolicy.TheVariants.{KeepSized}
use Rattle.btf_rewrite_model.specs.Pass.{Pass, Layout, no_layout, Asked, asks, texts_below, added_below}
use Rattle.btf_rewrite_model.specs.Fault.{fault}
use Rattle.btf_rewrite_model.specs.Rule.{ruled_below, becomes, falls_back}
use Rattle.btf_model.specs.CompatExamples.{table_with}
use Rattle.btf_model.specs.Made.{func}
use Rattle.btf_rewrite_model.specs.Made.{c_int}

-- ---- how the examples are written

-- only this name is known, with this number
abbrev pub only : List ℕ → ℕ → List ℕ → Option ℕ
only known number name = if bytes_eq name known then Some number else None

-- the empty text, and texts after it, each with its zero byte
abbrev pub strings_of : List (List ℕ) → List ℕ
strings_of texts = 0 ∷ flat_map (λ text. text ++ 0 ∷ []) texts

-- a table of these texts and these records
abbrev pub named_table : List (List ℕ) → List Record → Table
named_table texts rs = record (table_with rs) { strings = strings_of texts }

-- answers that grant these features, and no others
abbrev pub granted : List BtfFeature → List FeatureAnswer
granted fs = map (λ feature. record { feature = feature; granted = true }) fs

-- ---- FLOAT, TYPE_TAG, DECL_TAG, ENUM, PTR

-- FLOATs of 4 and 8 bytes
abbrev floats : List BtfFeature → Pass
floats fs = record {
  table = table_with (record { name = 5; info = 0x10000000; third = 4; tail = [] } ∷ record { name = 9; info = 0x10000000; third = 8; tail = [] } ∷ []);
  layout = no_layout;
  policy = KeepSized;
  answers = granted fs;
}

floats_become_structs : ruled_below (floats []) 3 ≡ unknown ∷ record { name = 0; info = 0x04000000; third = 4; tail = [] } ∷ record { name = 0; info = 0x04000000; third = 8; tail = [] } ∷ []
floats_become_structs = refl

granted_floats_stay : ruled_below (floats (features.Float ∷ [])) 3 ≡ (floats []).table.records
granted_floats_stay = refl

float_is_asked_once : Asked (floats []) ≡ features.Float ∷ []
float_is_asked_once = refl

-- FLOAT 1, TYPE_TAG 2 to it, FLOAT 3, DECL_TAG 4 to 1 with component index -1; a signed ENUM 5; an unsigned one 6; PTR
-- 7 with a name
abbrev kept_and_replaced : Pass
kept_and_replaced = record {
  table = table_with (record { name = 0; info = 0x10000000; third = 4; tail = [] }
      ∷ record { name = 0; info = 0x12000000; third = 1; tail = [] }
      ∷ record { name = 0; info = 0x10000000; third = 4; tail = [] }
      ∷ record { name = 0; info = 0x11000000; third = 1; tail = 0xffffffff ∷ [] }
      ∷ record { name = 0; info = 0x86000001; third = 4; tail = 0 ∷ 0xffffffff ∷ [] }
      ∷ record { name = 0; info = 0x06000001; third = 4; tail = 0 ∷ 0xffffffff ∷ [] }
      ∷ record { name = 7; info = 0x02000000; third = 4; tail = [] }
      ∷ []);
  layout = no_layout;
  policy = KeepSized;
  answers = granted (features.Float ∷ []);
}

tag_becomes_const : becomes kept_and_replaced 2 ≡ record { name = 0; info = 0x0a000000; third = 1; tail = [] }
tag_becomes_const = refl

decl_tag_becomes_byte : becomes kept_and_replaced 4 ≡ record { name = 0; info = 0x01000000; third = 1; tail = 8 ∷ [] }
decl_tag_becomes_byte = refl

enum_loses_its_sign : becomes kept_and_replaced 5 ≡ record { name = 0; info = 0x06000001; third = 4; tail = 0 ∷ 0xffffffff ∷ [] }
enum_loses_its_sign = refl

pointer_loses_its_name : becomes kept_and_replaced 7 ≡ record { name = 0; info = 0x02000000; third = 4; tail = [] }
pointer_loses_its_name = refl

each_is_asked_for_once : Asked kept_and_replaced ≡ features.Float ∷ features.TypeTag ∷ features.DeclTag ∷ features.Enum64 ∷ []
each_is_asked_for_once = refl

-- an unsigned ENUM asks for nothing, nor does an INT
unsigned_enum_asks_nothing : asks kept_and_replaced 6 ≡ []
unsigned_enum_asks_nothing = refl

-- ---- FUNC and FUNC_PROTO

-- "int" at 1; INT 1, and FUNC_PROTO 2 with two parameters of type 1 that have no names
abbrev nameless : Pass
nameless = record {
  table = named_table (codes "int" ∷ []) (c_int 1 ∷ record { name = 0; info = 0x0d000002; third = 1; tail = 0 ∷ 1 ∷ 0 ∷ 1 ∷ [] } ∷ []);
  layout = no_layout;
  policy = KeepSized;
  answers = granted (features.Func ∷ []);
}

parameters_get_names : becomes nameless 2 ≡ record { name = 0; info = 0x0d000002; third = 1; tail = 5 ∷ 1 ∷ 12 ∷ 1 ∷ [] }
unfolding digits
parameters_get_names = refl

their_texts : texts_below nameless 3 ≡ codes "param0" ∷ codes "param1" ∷ []
unfolding digits
their_texts = refl

-- "static" at 1, "memcpy" at 8, "global" at 15: a FUNC of each, Static, Global and Global
abbrev three_funcs : List BtfFeature → Pass
three_funcs fs = record {
  table = named_table (codes "static" ∷ codes "memcpy" ∷ codes "global" ∷ []) (func 1 0 0 ∷ func 8 0 1 ∷ func 15 0 1 ∷ []);
  layout = no_layout;
  policy = KeepSized;
  answers = granted fs;
}

builtin_becomes_static : ruled_below (three_funcs (features.Func ∷ features.FuncGlobal ∷ [])) 4 ≡ unknown ∷ func 1 0 0 ∷ func 8 0 0 ∷ func 15 0 1 ∷ []
unfolding pieces_from encode
builtin_becomes_static = refl

-- the builtin does not ask for FuncGlobal, the other Global one does
global_asks_for_more : (asks (three_funcs (features.Func ∷ [])) 2 ≡ features.Func ∷ []) × (asks (three_funcs (features.Func ∷ [])) 3 ≡ features.Func ∷ features.FuncGlobal ∷ [])
unfolding pieces_from encode
global_asks_for_more = (refl, refl)

denied_global_becomes_static : becomes (three_funcs (features.Func ∷ [])) 3 ≡ func 15 0 0
unfolding pieces_from encode
denied_global_becomes_static = refl

-- a name that cannot be read: the rewrite asks for nothing, and is refused
abbrev unreadable : Pass
unreadable = record { table = table_with (func 1 0 1 ∷ []); layout = no_layout; policy = KeepSized; answers = [] }

unreadable_name_asks_nothing : (asks unreadable 1 ≡ []) × (fault unreadable 1 ≡ Some (InvalidStringOffset 1))
unreadable_name_asks_nothing = (refl, refl)

-- "int" at 1, "a" at 5, "b" at 7, "inc" at 9: INT 1, FUNC_PROTO 2 with the parameters a and b, Static FUNC 3 of it
abbrev no_functions : Pass
no_functions = record {
  table = named_table (codes "int" ∷ codes "a" ∷ codes "b" ∷ codes "inc" ∷ []) (c_int 1 ∷ record { name = 0; info = 0x0d000002; third = 1; tail = 5 ∷ 1 ∷ 7 ∷ 1 ∷ [] } ∷ func 9 2 0 ∷ []);
  layout = no_layout;
  policy = KeepSized;
  answers = [];
}

prototype_becomes_enum : becomes no_functions 2 ≡ record { name = 0; info = 0x06000002; third = 4; tail = 5 ∷ 1 ∷ 7 ∷ 1 ∷ [] }
prototype_becomes_enum = refl

func_becomes_typedef : becomes no_functions 3 ≡ record { name = 9; info = 0x08000000; third = 2; tail = [] }
func_becomes_typedef = refl

func_is_asked_once : Asked no_functions ≡ features.Func ∷ []
func_is_asked_once = refl

-- ---- ENUM64

-- an ENUM64 of two values without names
abbrev large_enum : Pass
large_enum = record {
  table = table_with (record { name = 0; info = 0x13000002; third = 8; tail = 0 ∷ 1 ∷ 0 ∷ 0 ∷ 5 ∷ 1 ∷ [] } ∷ []);
  layout = no_layout;
  policy = KeepSized;
  answers = [];
}

enum64_becomes_union : becomes large_enum 1 ≡ record { name = 0; info = 0x05000002; third = 8; tail = 0 ∷ 2 ∷ 0 ∷ 0 ∷ 2 ∷ 0 ∷ [] }
enum64_becomes_union = refl

its_member_type : (texts_below large_enum 2 ≡ codes "enum64_placeholder" ∷ []) × (added_below large_enum 2 ≡ record { name = 1; info = 0x01000000; third = 1; tail = 8 ∷ [] } ∷ [])
its_member_type = (refl, refl)

its_fallback : falls_back large_enum 1 ≡ Some (record { signed = false; variants = record { name = 0; value = 1 } ∷ record { name = 0; value = 4294967301 } ∷ [] })
its_fallback = refl
