use Rattle.std.proofs.Common.{◌≡◌, None, take}
use Rattle.std.specs.Prelude.{map}
use Rattle.std.specs.List.{flat_map}
use Rattle.btf_rewrite_model.specs.Checks.{first_fault}
use Rattle.btf_rewrite_model.specs.Ksyms.{ksyms_entry_checks}
use Rattle.btf_table.specs.KsymsStep.{model_entry, HasSymbols}
use Rattle.btf_table.proofs.sanitize.ksyms.find_symbols.Given as goal

abbrev pub invariant-loop-entry : goal.invariant-loop-entry
invariant-loop-entry l =
    (first_fault (flat_map (ksyms_entry_checks l.btf l.placeholder_id) (map model_entry (take l.entry-index l.entry-items))) ≡ None)
    × HasSymbols l.btf (map model_entry (take l.entry-index l.entry-items)) l.symbols
