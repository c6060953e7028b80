use Rattle.btf_model.proofs.Blobs.{canon_is_table}
use Rattle.btf_model.proofs.written_parses_back.Goals as goal

pub returns : goal.returns
returns c = canon_is_table
