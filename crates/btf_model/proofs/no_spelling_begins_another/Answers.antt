use Rattle.std.proofs.Common.{◌++◌, [], sym}
use Rattle.std.proofs.lemmas.List.{append-nil}
use Rattle.btf_model.proofs.Records.{same_record}
use Rattle.btf_model.proofs.no_spelling_begins_another.Goals as goal

pub returns : goal.returns
returns c order bytes more r q p s =
    let same = same_record order bytes (bytes ++ more) r q more [] p s (sym (append-nil (bytes ++ more))) in
    (same.rest, same.record_is)
