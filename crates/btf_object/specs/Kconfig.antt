-- What the steps find and make that lay out `.kconfig`.
use Rattle.std.specs.Prelude.{◌≡◌, ◌≢◌, ◌⊎◌, ℕ, ◌<◌, ◌≤◌, ◌^◌, Bool, true, false, List, length, map, slice_get, Option, Some, None, Ok, Err}
use Rattle.std.specs.List.Sorted.{IsSorted, IsStable}
use Rattle.btf_model.specs.Record as kinds
use Rattle.btf_model.specs.Record.{Kind, Record, kind_of, vlen}
use Rattle.btf_model.specs.Refusal.{Refusal}
use Rattle.btf_model.specs.Table.{Table}
use Rattle.btf_model.specs.Text.{FindsName}
use Rattle.btf_rewrite_model.specs.Made.{Entry, section_entries, record_at, kind_at, made_data_sec}
use Rattle.btf_table.specs.KsymsStep.{model_entry}
use Rattle.btf_object_model.specs.Finalized.{kconfig_name}
use Rattle.btf_object_model.specs.Kconfig as model
use Rattle.btf_object_model.specs.Kconfig.{FindsExterns, extern_cmp, total, externs_laid_out, with_record, with_globals, made_global}
use Rattle.btf_object.specs.declared.finalize.kconfig.Extern.{Extern}
use Rattle.btf_object.specs.declared.finalize.kconfig.Value.{Value}
use Rattle.btf_plain.specs.declared.items.DataSecEntry.{DataSecEntry}

-- ---- types of a kind

-- the kind is VAR
abbrev pub has_var_kind : Option Kind → Bool
has_var_kind (Some kinds.Var) = true
has_var_kind k = false

-- The type of an id is a VAR with this record.
pub record IsVariable (t : Table) (id : ℕ) (r : Record) : Type 0 where
  pub here : slice_get t.records id ≡ Some r
  pub fallback : slice_get t.fallbacks id ≡ Some None
  pub kind : kind_of r.info ≡ Some kinds.Var

-- The type of an id is a DATASEC with this record.
pub record IsDataSec (t : Table) (id : ℕ) (r : Record) : Type 0 where
  pub here : slice_get t.records id ≡ Some r
  pub fallback : slice_get t.fallbacks id ≡ Some None
  pub kind : kind_of r.info ≡ Some kinds.DataSec

-- ---- externs

-- a value and an extern of the code as those of the definitions
abbrev pub config_value_of : Value → model.ConfigValue
config_value_of v = record { size = v.size; alignment = v.alignment }

abbrev pub model_extern : Extern → model.Extern
model_extern x = record { entry = model_entry x.entry.now; value = config_value_of x.value; name = x.name.now }

-- The externs of a DATASEC's record, in order.
pub record HasExterns (t : Table) (r : Record) (sorted : List model.Extern) : Type 0 where
  pub externs : List model.Extern
  pub known : FindsExterns t (section_entries r.tail) (Some externs)
  pub rising : IsSorted extern_cmp sorted
  pub stable : IsStable extern_cmp externs sorted

-- The new record is the DATASEC, which had size 0, with its externs in order.
pub record IsKconfigSection (t : Table) (r new : Record) : Type 0 where
  pub sorted : List model.Extern
  pub externs : HasExterns t r sorted
  pub empty : r.third ≡ 0
  pub fits : total sorted < 2 ^ 32
  pub made : new ≡ made_data_sec r.name (total sorted) (vlen r.info) (externs_laid_out 0 sorted)
  pub len : length new.tail ≡ length r.tail

-- The DATASEC has a size, or not all externs are known, or their total size exceeds 32 bits.
abbrev pub StaysAsItIs : Table → Record → Type 0
StaysAsItIs t r =
    (r.third ≢ 0) ⊎ (FindsExterns t (section_entries r.tail) None
    ⊎ ((sorted : List model.Extern) × HasExterns t r sorted × (2 ^ 32 ≤ total sorted)))

-- The DATASEC with its externs in order, or none if it stays as it is.
abbrev pub LaysOutSection : Table → Record → Option Record → Type 0
LaysOutSection t r (Some new) = IsKconfigSection t r new
LaysOutSection t r None = StaysAsItIs t r

-- ---- the table

-- The record of an id is Global if it is a variable, and nothing else changes.
abbrev pub MakesGlobal : ℕ → Table → Table → Type 0
MakesGlobal id old new = new ≡ with_record old id (made_global (kind_at old id) (record_at old id))

-- The id of the DATASEC, or none if the search for it fails.
abbrev pub FindsKconfig : Table → Option ℕ → Type 0
FindsKconfig t (Some id) = FindsName t.strings t.records kinds.DataSec kconfig_name (Ok id)
FindsKconfig t None = (refusal : Refusal) × FindsName t.strings t.records kinds.DataSec kconfig_name (Err refusal)

-- The type of an id is a DATASEC with as many words as this one.
abbrev pub HasDataSecOf : Table → ℕ → Record → Type 0
HasDataSecOf t id section =
    (r : Record) × IsDataSec t id r × (kind_of section.info ≡ Some kinds.DataSec)
    × (length section.tail ≡ length r.tail)

-- A DATASEC is in place of the record of an id, and its variables are Global.
abbrev pub PutsSection : ℕ → Record → Table → Table → Type 0
PutsSection id section old new =
    new ≡ with_record (with_globals (map (λ (e : Entry). e.type) (section_entries section.tail)) old) id section

-- the entries of these externs, one after another, and their total size
abbrev pub AreLaidOut : List Extern → List DataSecEntry → ℕ → Type 0
AreLaidOut xs es size =
    (map model_entry es ≡ externs_laid_out 0 (map model_extern xs)) × (size ≡ total (map model_extern xs))
    × (size < 2 ^ 32)
