use Rattle.btf_view.proofs.Heads.{retained}
use Rattle.btf_view.proofs.record.head_at.Goals as goal

pub returns : goal.returns
returns c r is = retained c.raw_head_at.result c.kept_head.result r (c.raw_head_at.ensures r is) c.kept_head.ensures
