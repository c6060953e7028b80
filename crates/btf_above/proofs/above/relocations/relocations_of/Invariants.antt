use Rattle.std.proofs.Common.{◌≡◌, map, take}
use Rattle.btf_model.specs.RelocationWords.{SectionsHaveNames, words_named}
use Rattle.btf_ext.specs.Relocation.{relocation}
use Rattle.btf_above.proofs.above.relocations.relocations_of.Given as goal

abbrev pub invariant-loop-offset : goal.invariant-loop-offset
invariant-loop-offset g l = record {
  names : SectionsHaveNames l.btf.strings (take l.offset-index (map relocation l.offset-items));
  words : l.found.items ≡ words_named l.btf.strings l.name (take l.offset-index (map relocation l.offset-items));
}
