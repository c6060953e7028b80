use Rattle.btf_split.proofs.Hints.{Left}
use Rattle.btf_split.proofs.hint.has_name_beyond.Given as goal

abbrev pub invariant-loop-record : goal.invariant-loop-record
invariant-loop-record l = Left l.endianness l.limit l.types l.rest l._record
