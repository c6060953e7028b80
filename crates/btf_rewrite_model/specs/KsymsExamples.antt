-- Worked examples of the step of `.ksyms`, and of a whole rewrite, computed.
use Rattle.std.specs.Prelude.{◌≡◌, ℕ, ◌++◌, [], ◌∷◌, codes, Option, Some, None, refl}
use Rattle.bstr.specs.Utf8.{pieces_from}
use lib.Utf8.{encode}
use Rattle.btf_model.specs.Record.{Record, unknown}
use Rattle.btf_model.specs.Refusal.{InvalidDatasec, InvalidStringOffset, UnknownBtfType}
use Rattle.btf_model.specs.Table.{Table}
use Rattle.btf_rewrite_model.specs.declared.feature.FillPolicy.TheVariants.{KeepSized}
use Rattle.btf_rewrite_model.specs.declared.feature.BtfFeature.TheVariants as features
use Rattle.btf_rewrite_model.specs.Ksyms.{ksyms_table, ksyms_fault}
use Rattle.btf_rewrite_model.specs.declared.ksyms_ids.KsymsIds.{KsymsIds}
use Rattle.btf_rewrite_model.specs.Pass.{Pass, no_layout, Asked}
use Rattle.btf_rewrite_model.specs.Fault.{fault}
use Rattle.btf_rewrite_model.specs.Rewritten.{pass_of, rewritten}
use Rattle.btf_model.specs.CompatExamples.{table_with}
use Rattle.btf_model.specs.Made.{var, func}
use Rattle.btf_rewrite_model.specs.Made.{c_int}
use Rattle.btf_rewrite_model.specs.RewriteExamples.{named_table}

-- a DATASEC of this name and size, with one entry
abbrev one_entry : ℕ → ℕ → ℕ → ℕ → ℕ → Record
one_entry name section_size type offset size = record { name = name; info = 0x0f000001; third = section_size; tail = type ∷ offset ∷ size ∷ [] }

abbrev ids : ℕ → Option ℕ → KsymsIds
ids datasec placeholder = record { datasec_id = datasec; placeholder_id = placeholder }

-- ---- without a placeholder

-- "init_task" at 1, ".ksyms" at 11: an Extern VAR 1 without a type, and DATASEC 2 with it as its entry; the table has
-- no INT
abbrev extern_variable : Table
extern_variable = named_table (codes "init_task" ∷ codes ".ksyms" ∷ []) (var 1 0 2 ∷ one_entry 11 0 1 0 0 ∷ [])

variable_gets_a_type : (ksyms_table extern_variable (ids 2 None)).records ≡ unknown ∷ var 1 3 1 ∷ one_entry 11 4 1 0 4 ∷ record { name = 18; info = 0x01000000; third = 4; tail = 0x01000020 ∷ [] } ∷ []
variable_gets_a_type = refl

int_is_named : (ksyms_table extern_variable (ids 2 None)).strings ≡ extern_variable.strings ++ codes "int" ++ 0 ∷ []
int_is_named = refl

-- "int" at 1, "a" at 5, "b" at 7: INT 1, Extern VARs 2 and 3, and DATASEC 4 with both as entries: their offsets are 4
-- bytes apart
abbrev two_variables : Table
two_variables = named_table (codes "int" ∷ codes "a" ∷ codes "b" ∷ []) (c_int 1 ∷ var 5 0 2 ∷ var 7 0 2 ∷ record { name = 0; info = 0x0f000002; third = 0; tail = 2 ∷ 0 ∷ 0 ∷ 3 ∷ 0 ∷ 8 ∷ [] } ∷ [])

entries_are_laid_out : (ksyms_table two_variables (ids 4 None)).records ≡ unknown ∷ c_int 1 ∷ var 5 1 1 ∷ var 7 1 1 ∷ record { name = 0; info = 0x0f000002; third = 8; tail = 2 ∷ 0 ∷ 4 ∷ 3 ∷ 4 ∷ 4 ∷ [] } ∷ []
entries_are_laid_out = refl

-- the INT is appended, and is not a type of the table as the step began
appended_int_is_unknown : ksyms_fault extern_variable (ids 3 None) ≡ Some (UnknownBtfType 3)
appended_int_is_unknown = refl

-- ---- with a placeholder

-- "f" at 1, "ph" at 3, ".ksyms" at 6, "int" at 13: INT 1, FUNC_PROTO 2 with a parameter without a name, Extern FUNC 3
-- of it, Global VAR 4 "ph" of 1, and DATASEC 5 with the FUNC as its entry
abbrev extern_function : Table
extern_function = named_table (codes "f" ∷ codes "ph" ∷ codes ".ksyms" ∷ codes "int" ∷ [])
    (c_int 13 ∷ record { name = 0; info = 0x0d000001; third = 1; tail = 0 ∷ 1 ∷ [] } ∷ func 1 2 2 ∷ var 3 1 1 ∷ one_entry 6 0 3 0 0 ∷ [])

placeholder_replaces_it : ksyms_table extern_function (ids 5 (Some 4))
    ≡ record extern_function { records = unknown ∷ c_int 13 ∷ record { name = 0; info = 0x0d000001; third = 1; tail = 3 ∷ 1 ∷ [] } ∷ func 1 2 1 ∷ var 3 1 1 ∷ one_entry 6 4 4 0 4 ∷ [] }
placeholder_replaces_it = refl

-- a placeholder that is no VAR, one that does not exist, and a DATASEC id that is no DATASEC
wrong_ids : (ksyms_fault extern_function (ids 5 (Some 1)) ≡ Some InvalidDatasec) × (ksyms_fault extern_function (ids 5 (Some 9)) ≡ Some (UnknownBtfType 9)) × (ksyms_fault extern_function (ids 2 None) ≡ Some InvalidDatasec)
unfolding pieces_from encode
wrong_ids = (refl, refl, refl)

no_fault : ksyms_fault extern_function (ids 5 (Some 4)) ≡ None
unfolding pieces_from encode
no_fault = refl

-- a DATASEC ".d" at 1 that is its own entry: it is no variable, and no INT is appended for it
abbrev entry_of_itself : Table
entry_of_itself = named_table (codes ".d" ∷ []) (one_entry 1 0 1 0 4 ∷ [])

own_entry_is_no_symbol : ksyms_fault entry_of_itself (ids 1 None) ≡ Some InvalidDatasec
unfolding pieces_from encode
own_entry_is_no_symbol = refl

-- ---- the step and the pass

-- the strings end without a zero byte: 0x66 is no text, until "int" and its zero byte are appended after it
abbrev open_ended : Option KsymsIds → Pass
open_ended given = pass_of KeepSized (record (table_with (record { name = 0; info = 0x0f000000; third = 0; tail = [] } ∷ func 1 0 0 ∷ [])) { strings = 0 ∷ 0x66 ∷ [] }) given no_layout []

-- after the step the name of FUNC 2 is "fint"
read_after_the_step : (fault (open_ended (Some (ids 1 None))) 2 ≡ None)
    × ((rewritten (open_ended (Some (ids 1 None)))).records
    ≡ unknown ∷ record { name = 0; info = 0x04000000; third = 0; tail = [] } ∷ record { name = 1; info = 0x08000000; third = 0; tail = [] } ∷ record { name = 2; info = 0x01000000; third = 4; tail = 0x01000020 ∷ [] } ∷ [])
unfolding pieces_from encode
read_after_the_step = (refl, refl)

both_are_asked_for : Asked (open_ended (Some (ids 1 None))) ≡ features.DataSec ∷ features.Func ∷ []
unfolding pieces_from encode
both_are_asked_for = refl

-- without the step it cannot be read
unread_without_it : fault (open_ended None) 2 ≡ Some (InvalidStringOffset 1)
unread_without_it = refl
