use Rattle.std.proofs.Common.{◌≡◌, ◌+◌, drop}
use Rattle.std.specs.Prelude.{map}
use Rattle.std.specs.List.{position_or_len}
use Rattle.btf_model.specs.Record.{kind_of}
use Rattle.btf_rewrite_model.specs.Ksyms.{is_int_of_4}
use Rattle.btf_records.specs.BtfType.{record_of}
use Rattle.btf_table.proofs.sanitize.ksyms.int_of_4.Given as goal

abbrev pub invariant-loop-id : goal.invariant-loop-id
invariant-loop-id l =
    position_or_len (λ r. is_int_of_4 (kind_of r.info) r) (map record_of l.types)
    ≡ l.id + position_or_len (λ r. is_int_of_4 (kind_of r.info) r) (map record_of (drop l.id l.types))
