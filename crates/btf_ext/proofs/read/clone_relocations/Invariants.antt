use Rattle.std.proofs.Common.{◌≡◌, take, map}
use Rattle.btf_ext.specs.Relocation.{relocation}
use Rattle.btf_ext.proofs.read.clone_relocations.Given as goal

abbrev pub invariant-loop-name_offset : goal.invariant-loop-name_offset
invariant-loop-name_offset l = map relocation l.copies.items ≡ map relocation (take l.name_offset-index l.name_offset-items)
