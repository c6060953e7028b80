use Rattle.btf_ext.proofs.Infos.{one_more_record}
use Rattle.btf_ext.proofs.records.read_records.Goals as goal

pub loop-preserved : goal.loop-preserved
loop-preserved g c =
    one_more_record g.T.Record.words g.T.Record.read_as c.args.endianness c.args.rec_size g.T.Record.width c.args.section.now.num_info c.args.section.now.bytes.now c.loop.counter c.loop.records.items c.push.new.self.items c.loop.rest.now c.split_at.result.1.now c.read.result c.loop.invariant c.loop-test.true c.read.ensures c.in_ok-push.ensures.items c.split_at.ensures.back
