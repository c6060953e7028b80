use Rattle.btf_rewrite_model.specs.Made.{record_at, kind_at}
use Rattle.btf_rewrite_model.proofs.Asking.{needed_by}
use Rattle.btf_rewrite_model.proofs.asked_only_if_needed.Goals as goal

pub returns : goal.returns
returns c p id f is = needed_by p id f (kind_at p.table id) (record_at p.table id) is
