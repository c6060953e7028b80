use Rattle.btf_model.proofs.Blobs.{same_table, same_refusal, table_not_refused}
use Rattle.btf_model.proofs.blob_is_determined.Goals as goal

pub returns : goal.returns
returns c = record { one_table = same_table; one_refusal = same_refusal; not_both = table_not_refused }
