-- The indices of the parts so far, and those of the parts that are left, are those of the text.
use Rattle.std.proofs.Common.{◌≡◌, ◌≤◌, length, drop}
use Rattle.std.specs.List.{slice_split}
use Rattle.btf_relocate_model.specs.Access.{access_limit, is_colon, indices_of}
use Rattle.btf_relocate.proofs.Accesses.{joined}
use Rattle.btf_relocate.proofs.access.Access.parse.Given as goal

abbrev pub invariant-loop-part : goal.invariant-loop-part
invariant-loop-part l = record {
  count : length l.indices.items ≡ length l.yielded;
  room : length l.indices.items ≤ access_limit;
  indices : joined l.indices.items (indices_of (drop (length l.yielded) (slice_split is_colon l.text))) ≡ indices_of (slice_split is_colon l.text);
}
