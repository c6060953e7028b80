use Rattle.btf_ext.proofs.Infos.{RecordsSoFar}
use Rattle.btf_ext.proofs.records.read_records.Given as goal

abbrev pub invariant-loop : goal.invariant-loop
invariant-loop g l = RecordsSoFar g.T.Record.words g.T.Record.read_as l.endianness l.rec_size g.T.Record.width l.section.num_info l.section.bytes.now l.counter l.records.items l.rest
