use Rattle.std.proofs.Common.{◌≡◌, ◌∙◌, ℕ, List, ◌<◌, Some, refl, sym, ap, arith}
use Rattle.std.specs.Prelude.{slice_get, map, min}
use Rattle.std.specs.Option.{option_map}
use Rattle.std.proofs.lemmas.Option.{slice_get_past, slice_get-map}
use Rattle.btf_model.proofs.Words.{length-words_at}
use Rattle.btf_model.specs.Record as model
use Rattle.btf_model.specs.Record.{tail_words, vlen}
use Rattle.btf_model.specs.Word.{words_at}
use Rattle.btf_plain.specs.Kind.{kind}
use Rattle.btf_view.specs.Words.{kept_words}
use Rattle.btf_view.proofs.Words.{length-kept, nth_word, words_kept}
use Rattle.btf_view.proofs.record_words.RecordWords.word.Goals as goal

pub returns-then-index-words_after : goal.returns-then-index-words_after
returns-then-index-words_after c =
    let w = c.args.self.now in
    let n = tail_words (kind w.kind) (vlen w.head.info) in
    let ws = words_at w.endianness n w.tail.now in
    sym (slice_get_past (kept_words (kind w.kind) ws) c.args.index (omega (arith, length-kept (kind w.kind) ws, length-words_at w.endianness n w.tail.now, c.words_after.ensures.value, c.if-index-words_after.true, ap (tail_words (kind w.kind)) c.vlen.ensures.value)))

pub returns-in_default : goal.returns-in_default
returns-in_default c =
    let w = c.args.self.now in
    let n = tail_words (kind w.kind) (vlen w.head.info) in
    let ws = words_at w.endianness n w.tail.now in
    let within : c.args.index < n = omega (arith, c.words_after.ensures.value, c.if-index-words_after.false, ap (tail_words (kind w.kind)) c.vlen.ensures.value) in
    ap (λ (x : ℕ). Some x) c.word_at-word.ensures ∙ sym (nth_word w.endianness n w.tail.now c.args.index within) ∙ ap (λ (xs : List ℕ). slice_get xs c.args.index) (sym (words_kept w.kind ws c.in_default.not-Var))
