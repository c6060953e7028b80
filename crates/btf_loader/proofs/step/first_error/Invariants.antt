-- No outcome before the index is an error.
use Rattle.std.proofs.Common.{◌≡◌, ℕ, drop}
use Rattle.std.specs.List.{list_any}
use Rattle.btf_loader_model.specs.Loader.{is_error}
use Rattle.btf_loader_model.specs.Refused.{bad_record}
use Rattle.btf_loader.proofs.step.first_error.Given as goal

abbrev pub invariant-loop-index : goal.invariant-loop-index
invariant-loop-index l =
    (list_any is_error l.outcomes ≡ list_any is_error (drop l.index l.outcomes))
    × ((name_offset : ℕ) → bad_record name_offset 0 l.outcomes ≡ bad_record name_offset l.index (drop l.index l.outcomes))
