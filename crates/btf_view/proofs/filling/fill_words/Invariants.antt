use Rattle.std.proofs.Common.{List}
use Rattle.std.specs.Prelude.{map}
use Rattle.btf_model.specs.Record.{Record}
use Rattle.btf_view.specs.Forms.{words_in}
use Rattle.btf_view.specs.Places.{ArePlaces}
use Rattle.btf_view.proofs.Fills.{Written}
use Rattle.btf_view.proofs.filling.fill_words.Given as goal

abbrev pub invariant-loop-index : goal.invariant-loop-index
invariant-loop-index l = (rs : List Record) → ArePlaces l.endianness l.types l.places rs → Written (map words_in rs) l.initial.out l.out l.index
