-- The DATASEC `.ksyms` of a table, if there is one.
use Rattle.std.specs.Prelude.{◌≢◌, ℕ, Option, Some, None, Result, Ok, Err, [], length, ◌++◌, ◌∷◌}
use Rattle.btf_model.specs.Refusal.{Refusal, UnknownBtfTypeName}
use Rattle.btf_model.specs.Table.{Table, type_bytes}
use Rattle.btf_object_model.specs.Ksyms.{FindsDataSec, ksyms_name}
use Rattle.btf_table.specs.Checked.{checked}
use Rattle.btf_rewrite_model.specs.Checks.{first_fault, fits, has_room, record_len}
use Rattle.btf_object_model.specs.Finalized.{placeholder, placeholder_text, with_int}
use Rattle.btf_rewrite_model.specs.Ksyms.{placeholder_checks}

-- The id of the DATASEC, or none if there is none; or why the search is refused.
abbrev pub FindsDataSecOrNone : Table → Result (Option ℕ) Refusal → Type 0
FindsDataSecOrNone t (Ok (Some id)) = FindsDataSec t (Ok id)
FindsDataSecOrNone t (Ok None) = FindsDataSec t (Err (UnknownBtfTypeName ksyms_name))
FindsDataSecOrNone t (Err refusal) = FindsDataSec t (Err refusal) × (refusal ≢ UnknownBtfTypeName ksyms_name)

-- The id of the placeholder that is appended next, or why it does not fit.
abbrev pub placeholder_place : Table → Result ℕ Refusal
placeholder_place btf =
    checked (first_fault (placeholder_checks btf None ++ has_room (length (with_int btf).strings) placeholder_text
    ∷ fits (length (type_bytes (with_int btf))) (record_len (placeholder 0 0)) ∷ []))
    (length (with_int btf).records)
