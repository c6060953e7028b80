-- The ids of a table's `.ksyms`, by names.
-- Source: libbpf's `bpf_object__collect_externs`, `add_dummy_ksym_var` and `bpf_object__init_user_btf_maps`, which find
-- the DATASEC by its name; the search is aya-obj's `Btf::id_by_type_name_kind`.
use Rattle.std.specs.Prelude.{◌≡◌, ◌≢◌, ◌⊎◌, ℕ, List, codes, Option, Some, None, Result, Ok, Err}
use Rattle.btf_model.specs.Record.{Var, DataSec}
use Rattle.btf_model.specs.Refusal.{Refusal, UnknownBtfTypeName}
use Rattle.btf_model.specs.Table.{Table}
use Rattle.btf_model.specs.Text.{FindsName}
use Rattle.btf_rewrite_model.specs.declared.ksyms_ids.KsymsIds.{KsymsIds}

-- the name of the DATASEC of the kernel's symbols
abbrev pub ksyms_name : List ℕ
ksyms_name = codes ".ksyms"

-- The result of the search for this DATASEC: its id, or why it is not found.
abbrev pub FindsDataSec : Table → Result ℕ Refusal → Type 0
FindsDataSec t found = FindsName t.strings t.records DataSec ksyms_name found

-- The result of the search for the placeholder, which is the VAR with the given name, if a name is given.
abbrev pub FindsPlaceholder : Table → Option (List ℕ) → Result (Option ℕ) Refusal → Type 0
FindsPlaceholder t None found = found ≡ Ok None
FindsPlaceholder t (Some name) (Ok None) = ⊥
FindsPlaceholder t (Some name) (Ok (Some id)) = FindsName t.strings t.records Var name (Ok id)
FindsPlaceholder t (Some name) (Err refusal) = FindsName t.strings t.records Var name (Err refusal)

-- The ids of `.ksyms`. There are none if no DATASEC has this name, and then the placeholder is not searched for.
abbrev pub FindsKsyms : Table → Option (List ℕ) → Result (Option KsymsIds) Refusal → Type 0
FindsKsyms t placeholder (Ok None) = FindsDataSec t (Err (UnknownBtfTypeName ksyms_name))
FindsKsyms t placeholder (Ok (Some ids)) =
    FindsDataSec t (Ok ids.datasec_id) × FindsPlaceholder t placeholder (Ok ids.placeholder_id)
FindsKsyms t placeholder (Err refusal) =
    (FindsDataSec t (Err refusal) × (refusal ≢ UnknownBtfTypeName ksyms_name))
    ⊎ ((id : ℕ) × FindsDataSec t (Ok id) × FindsPlaceholder t placeholder (Err refusal))
