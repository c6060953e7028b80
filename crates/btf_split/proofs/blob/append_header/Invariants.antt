use Rattle.std.proofs.Common.{◌≡◌, ◌++◌, take}
use Rattle.std.specs.List.{flat_map}
use Rattle.btf_model.specs.Word.{word}
use Rattle.btf_split.proofs.blob.append_header.Given as goal

abbrev pub invariant-loop-word : goal.invariant-loop-word
invariant-loop-word l = l.out.items ≡ l.initial.out.items ++ flat_map (word l.endianness) (take l.word-index l.word-items)
