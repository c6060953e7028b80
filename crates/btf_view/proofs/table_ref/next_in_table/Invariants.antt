use Rattle.btf_view.specs.TableRef.{AreOfOtherKinds}
use Rattle.btf_view.proofs.table_ref.next_in_table.Given as goal

abbrev pub invariant-loop-id : goal.invariant-loop-id
invariant-loop-id l = AreOfOtherKinds l.table.records l.first l.id l.kind l.other
