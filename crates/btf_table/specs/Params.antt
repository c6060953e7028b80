-- The parameters of a prototype, as words.
use Rattle.std.specs.Prelude.{ℕ, Bool, false, ◌||◌, List, ◌∷◌, Result, if◌then◌else◌}
use Rattle.btf_rewrite_model.specs.Made.{wants_name}
use Rattle.btf_table.specs.declared.table.changes.Changes.{Changes}
use Rattle.btf_model.specs.Record.{Record}
use Rattle.btf_model.specs.Refusal.{Refusal}
use Rattle.btf_model.specs.Table.{Table}
use Rattle.btf_table.specs.Checked.{checked}
use Rattle.btf_rewrite_model.specs.Checks.{first_fault, have_room}
use Rattle.btf_rewrite_model.specs.Rule.{named_params}
use Rattle.btf_table.specs.Adding.{next_string_offset}
use Rattle.btf_rewrite_model.specs.Pass.{param_texts}
use Rattle.btf_plain.specs.declared.items.BtfParam.{BtfParam}
use Rattle.btf_plain.specs.Items.{param_words}

-- a parameter of these words has a type and no name
abbrev pub lack_a_name : List ℕ → Bool
lack_a_name (name ∷ type ∷ words) = wants_name name type || lack_a_name words
lack_a_name words = false

-- A prototype whose parameters have names, or why the names do not fit.
abbrev pub proto_named : Table → Changes → Record → Result Record Refusal
proto_named btf changes proto =
    checked (first_fault (have_room (next_string_offset btf changes) (param_texts 0 proto.tail)))
    (record proto { tail = named_params 0 (next_string_offset btf changes) proto.tail })

-- The string offset of the name of the parameter at an index, or why a new name does not fit.
abbrev pub param_name_place : Table → Changes → ℕ → BtfParam → Result ℕ Refusal
param_name_place btf changes index param =
    checked (first_fault (have_room (next_string_offset btf changes) (param_texts index (param_words param))))
    (if wants_name param.name_offset param.btf_type then next_string_offset btf changes else param.name_offset)
