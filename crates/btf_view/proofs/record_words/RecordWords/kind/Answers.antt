use Rattle.std.proofs.Common.{◌∙◌}
use Rattle.btf_model.proofs.Words.{length-words_at}
use Rattle.btf_model.specs.Record.{tail_words, vlen}
use Rattle.btf_model.specs.Word.{words_at}
use Rattle.btf_plain.specs.Kind.{kind}
use Rattle.btf_view.proofs.Words.{length-kept}
use Rattle.btf_view.proofs.record_words.RecordWords.kind.Goals as goal

pub returns-clause-tail : goal.returns-clause-tail
returns-clause-tail c =
    let w = c.args.self.now in
    let n = tail_words (kind w.kind) (vlen w.head.info) in
    length-kept (kind w.kind) (words_at w.endianness n w.tail.now) ∙ length-words_at w.endianness n w.tail.now
