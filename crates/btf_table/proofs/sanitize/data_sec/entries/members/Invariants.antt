use Rattle.std.proofs.Common.{◌≡◌, List, length, map, None, take}
use Rattle.std.specs.List.{flat_map}
use Rattle.btf_model.specs.Record.{Record}
use Rattle.btf_rewrite_model.specs.Checks.{first_fault}
use Rattle.btf_rewrite_model.specs.Pass.{Pass}
use Rattle.btf_rewrite_model.specs.Rule.{entry_members}
use Rattle.btf_rewrite_model.specs.Fault.{member_checks}
use Rattle.btf_plain.specs.Items.{member_words}
use Rattle.btf_table.specs.KsymsStep.{model_entry}
use Rattle.btf_table.proofs.sanitize.data_sec.entries.members.Given as goal

abbrev pub invariant-loop-entry : goal.invariant-loop-entry
invariant-loop-entry l =
    (length l.members.items ≡ l.entry-index)
    × ((p : Pass) (lower : List Record) → p.table ≡ l.btf → l.names ≡ map (λ (r : Record). r.name) lower
    → (first_fault (flat_map (member_checks p) (map model_entry (take l.entry-index l.entry-items))) ≡ None)
    × (flat_map member_words l.members.items ≡ entry_members p lower (length lower) (map model_entry (take l.entry-index l.entry-items))))
