-- A DATASEC that a pass comes to, after its new name is made.
use Rattle.std.specs.Prelude.{◌≡◌, ℕ, [], ◌∷◌, ◌==◌, ◌*◌, length, ◌&&◌, ◌||◌, not, Bool, if◌then◌else◌, Option, Some, None, max}
use Rattle.btf_model.specs.Record as kinds
use Rattle.btf_model.specs.Record.{Record, kind_of, vlen}
use Rattle.btf_rewrite_model.specs.Made.{made_data_sec}
use Rattle.btf_rewrite_model.specs.Checks.{first_fault}
use Rattle.btf_rewrite_model.specs.Pass.{Pass, name_of, renaming, section_size, name_checks}
use Rattle.btf_rewrite_model.specs.Rule.{new_name}
use Rattle.btf_rewrite_model.specs.Feature.{fills_sized, has_no_entries}
use Rattle.btf_rewrite_model.specs.declared.feature.FillPolicy.{FillPolicy}
use Rattle.btf_records.specs.declared.btf_type.BtfType.TheVariants.{DataSec}
use Rattle.btf_table.specs.Adding.{Adds}
use Rattle.btf_table.specs.Btf.{IsType}
use Rattle.btf_table.specs.PassStep.{IsHere}
use Rattle.btf_table.specs.declared.sanitize.made.Made.{Made}

-- The id is this DATASEC. Its name is read and its new name is appended; nothing else is made for it yet.
pub record HasNewName (p : Pass) (id : ℕ) (r : Record) (name : ℕ) (before now : Made) : Type 0 where
  pub there : IsType p.table id (DataSec r)
  pub kind : kind_of r.info ≡ Some kinds.DataSec
  pub tail : length r.tail ≡ 3 * vlen r.info
  pub here : IsHere p id before
  pub passed : first_fault (name_checks p id) ≡ None
  pub name_is : new_name p id r ≡ name
  pub adds : Adds p.table before.changes now.changes (renaming p (name_of p id)) []
  pub names : now.names ≡ before.names
  pub member_type : now.member_type ≡ before.member_type
  pub filler : now.filler ≡ before.filler

-- a DATASEC of this name whose only entry is the filler with this id
abbrev pub filler_section : ℕ → ℕ → ℕ → Record
filler_section name size id = made_data_sec name (max size 1) 1 (record { type = id; offset = 0; size = max size 1 } ∷ [])

-- the final size of a DATASEC, if it is known: its own size, or the size of its section if its own is 0
abbrev pub final_size : Pass → ℕ → Record → Option ℕ
final_size p id r = if r.third == 0 then section_size p id else Some r.third

-- a DATASEC that gets the filler if it needs an entry: it has no entries, and its size is 0 unless the policy also
-- fills DATASECs that have a size
abbrev pub is_fillable : FillPolicy → Record → Bool
is_fillable policy r = (fills_sized policy || (r.third == 0)) && has_no_entries r

-- the rewrite asks for DataSecZero: the DATASEC is fillable, and its final size is above 0
abbrev pub asks_zero : FillPolicy → Record → ℕ → Bool
asks_zero policy r size = is_fillable policy r && not (size == 0)
