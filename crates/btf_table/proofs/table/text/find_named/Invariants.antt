use Rattle.std.specs.Prelude.{map}
use Rattle.btf_model.specs.Text.{ArePassed}
use Rattle.btf_plain.specs.Kind as kinds
use Rattle.btf_records.specs.BtfType.{record_of}
use Rattle.btf_table.proofs.table.text.find_named.Given as goal

abbrev pub invariant-loop-id : goal.invariant-loop-id
invariant-loop-id l = ArePassed l.strings (map record_of l.types) (kinds.kind l.kind) l.name l.id
