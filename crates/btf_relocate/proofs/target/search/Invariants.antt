-- The ids so far are those of the candidates so far, and no more than a record may have.
use Rattle.std.proofs.Common.{◌-◌, length}
use Rattle.btf_relocate.proofs.Scans.{Found}
use Rattle.btf_relocate.proofs.target.search.Given as goal

abbrev pub invariant-loop-type_id : goal.invariant-loop-type_id
invariant-loop-type_id l = Found l.table l.essential l.number l.ids.items l.from

abbrev pub decreases-loop-type_id : goal.decreases-loop-type_id
decreases-loop-type_id l = length l.table.records - l.from
