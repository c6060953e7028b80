use Rattle.std.proofs.Common.{◌≡◌, length, take}
use Rattle.std.specs.List.{flat_map}
use Rattle.btf_model.specs.Word.{word}
use Rattle.btf_plain.proofs.bytes.push_array.Given as goal

abbrev pub invariant-loop-index : goal.invariant-loop-index
invariant-loop-index g l = record {
  places : length l.bytes ≡ g.row.N;
  written : flat_map (λ x. x) (take l.index l.bytes) ≡ flat_map (word l.endianness) (take l.index l.values);
}
