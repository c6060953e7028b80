-- The places below the index have the words of the types, and the others are unchanged.
use Rattle.std.proofs.Common.{◌≡◌, take, drop}
use Rattle.std.specs.Prelude.{map}
use Rattle.btf_records.specs.BtfType.{record_of}
use Rattle.btf_records.specs.declared.btf_type.BtfType.{BtfType}
use Rattle.btf_view.specs.Forms.{words_in}
use Rattle.vbtf.proofs.many.fill_words.Given as goal

abbrev pub invariant-loop-index : goal.invariant-loop-index
invariant-loop-index l = record {
  written : take l.index l.out ≡ map (λ (t : BtfType). words_in (record_of t)) (take l.index l.types);
  unchanged : drop l.index l.out ≡ drop l.index l.initial.out;
}
