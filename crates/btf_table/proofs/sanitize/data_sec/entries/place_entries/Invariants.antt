use Rattle.std.proofs.Common.{◌≡◌, length, map, None, take}
use Rattle.std.specs.List.{flat_map}
use Rattle.btf_rewrite_model.specs.Checks.{first_fault}
use Rattle.btf_rewrite_model.specs.Pass.{Pass}
use Rattle.btf_rewrite_model.specs.Rule.{placed}
use Rattle.btf_rewrite_model.specs.Fault.{entry_checks}
use Rattle.btf_table.specs.KsymsStep.{model_entry}
use Rattle.btf_table.specs.ReadNames.{AreFound}
use Rattle.btf_table.specs.Layout.{offsets_of}
use Rattle.btf_table.proofs.sanitize.data_sec.entries.place_entries.Given as goal

abbrev pub invariant-loop-entry : goal.invariant-loop-entry
invariant-loop-entry g l =
    (length l.placed_entries.items ≡ l.entry-index)
    × AreFound l.btf.strings (offsets_of l.symbols) l.offsets
    × ((p : Pass) → p.table ≡ l.btf → p.layout.symbols ≡ offsets_of l.symbols
    → (first_fault (flat_map (entry_checks p) (map model_entry (take l.entry-index l.entry-items))) ≡ None)
    × (map model_entry l.placed_entries.items ≡ map (placed p) (map model_entry (take l.entry-index l.entry-items))))
