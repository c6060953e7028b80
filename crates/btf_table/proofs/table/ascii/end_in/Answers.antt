use Rattle.btf_table.proofs.Ascii.{plain_ends}
use Rattle.btf_table.proofs.table.ascii.end_in.Goals as goal

pub returns-then-bytes-at-eq0 : goal.returns-then-bytes-at-eq0
returns-then-bytes-at-eq0 c = plain_ends c.args.bytes.now c.args.at c.plain_len-len.result c.requires.room c.plain_len-len.ensures c.requires.begins.each c.if-len-lt-LANES.true c.if-bytes-at-eq0.true
