-- How the relocation records of an object ended.
use Rattle.std.specs.Prelude.{if◌then◌else◌, ℕ, Bool, true, false, List, Some, None, Result, Ok, Err}
use Rattle.std.specs.List.{list_any}
use Rattle.btf_loader_model.specs.Loader.{Outcomes, any_error}
use Rattle.btf_relocate_model.specs.declared.error.RelocationError.{RelocationError}
use Rattle.btf_relocate_model.specs.declared.instruction.Patched.{Patched}
use Rattle.btf_relocate_model.specs.declared.instruction.Patched.TheVariants as patched
use Rattle.btf_relocate_model.specs.declared.report.Report.{Report}
use Rattle.btfobj_cli.specs.declared.relocation.Ending.{Ending}
use Rattle.btfobj_cli.specs.declared.relocation.Ending.TheVariants.{Written, Poisoned, Refused}

-- a record poisoned its instruction
abbrev pub is_poison : Result Patched RelocationError → Bool
is_poison (Ok patched.Written) = false
is_poison (Ok patched.Poisoned) = true
is_poison (Err error) = false

abbrev pub is_poisoned : Report → Bool
is_poisoned report = is_poison report.outcome

-- a record of a section poisoned its instruction
abbrev pub has_poison : Outcomes → Bool
has_poison None = false
has_poison (Some outcomes) = list_any is_poisoned outcomes

-- a record of any section poisoned its instruction
abbrev pub any_poison : List (ℕ × Outcomes) → Bool
any_poison sections = list_any (λ (s : ℕ × Outcomes). has_poison s.1) sections

-- The records of these sections ended with an error, else with a poisoned instruction, else with their values.
abbrev pub ending_of : List (ℕ × Outcomes) → Ending
ending_of sections =
    if any_error sections then Refused else (if any_poison sections then Poisoned else Written)
