use Rattle.std.proofs.Common.{[], ◌∷◌}
use Rattle.btf_model.proofs.Blobs.{slice_get-push, slice_get-append_left}
use Rattle.btf_model.proofs.added_type_is_found.Goals as goal

pub returns : goal.returns
returns c t r fallback = (slice_get-push t.records r, λ id lt. slice_get-append_left t.records (r ∷ []) id lt)
