use Rattle.std.proofs.Common.{◌≡◌, ◌∙◌, ◌++◌, ℕ, List, [], nat_eq, length, ap, sym}
use Rattle.std.proofs.lemmas.Bool.{false≢true, eqb-true}
use Rattle.std.proofs.lemmas.List.{append-nil, append_assoc, append_cancel_left, nil_from_length}
use Rattle.std.proofs.lemmas.Str.{utf8_lossy_empty}
use Rattle.std.specs.Str.Chunks.{utf8_chunks_rest}
use Rattle.std.specs.Str.Lossy.{utf8_lossy}
use Rattle.bstr.proofs.lemmas.LossyLemmas.{lossy_chars-utf8_lossy}
use Rattle.btf_view.specs.Finding.{chunk_text}
use Rattle.btf_view.proofs.Chunks.{first_chunk}
use Rattle.btf_view.proofs.text.is_text_of.Goals as goal

pub returns-in_default : goal.returns-in_default
returns-in_default c = (
  λ t. absurd (false≢true t),
  λ same.
      let steps = c.in-Some.ensures.steps in
      let (done, is, read) = c.loop-chunk.invariant in
      let left = utf8_lossy (utf8_chunks_rest c.next.new.self) in
      let chunk = first_chunk _ _ _ _ steps.0 steps.3.0 steps.3.1 steps.2 in
      let text : chunk_text c.in-Some.chunk.valid.now c.in-Some.chunk.invalid.now ≡ chunk_text c.valid.result.now c.invalid.result.now = (λ i. chunk_text (sym c.valid.ensures i) (sym c.invalid.ensures i)) in
      absurd (c.in_default.ensures left (append_cancel_left done c.loop-chunk.rest.now (chunk_text c.valid.result.now c.invalid.result.now ++ left)
      (sym is ∙ sym same ∙ lossy_chars-utf8_lossy c.args.bytes.now ∙ sym read ∙ ap (λ (xs : List ℕ). done ++ xs) (chunk ∙ ap (λ (xs : List ℕ). xs ++ left) text)))),
)

pub loop-chunk-preserved : goal.loop-chunk-preserved
loop-chunk-preserved c =
    let steps = c.in-Some.ensures.steps in
    let (done, is, read) = c.loop-chunk.invariant in
    let left = utf8_lossy (utf8_chunks_rest c.next.new.self) in
    let piece = chunk_text c.valid.result.now c.invalid.result.now in
    let chunk = first_chunk _ _ _ _ steps.0 steps.3.0 steps.3.1 steps.2 in
    let text : chunk_text c.in-Some.chunk.valid.now c.in-Some.chunk.invalid.now ≡ piece = (λ i. chunk_text (sym c.valid.ensures i) (sym c.invalid.ensures i)) in (
      done ++ piece,
      is ∙ ap (λ (xs : List ℕ). done ++ xs) c.in-Some-after_chunk.ensures ∙ sym (append_assoc done piece c.in-Some-after_chunk.after.now),
      append_assoc done piece left ∙ ap (λ (xs : List ℕ). done ++ xs) (sym (chunk ∙ ap (λ (xs : List ℕ). xs ++ left) text)) ∙ read,
    )

pub returns : goal.returns
returns c =
    let (done, is, read) = c.loop-chunk.invariant in
    let rest = c.loop-chunk.rest.now in
    let none = utf8_lossy_empty (utf8_chunks_rest c.loop-chunk.chunk-iterator) c.in-None.ensures.steps.0 in
    let whole : done ≡ utf8_lossy c.args.bytes.now = sym (append-nil done) ∙ ap (λ (xs : List ℕ). done ++ xs) (sym none) ∙ read in
    let text = lossy_chars-utf8_lossy c.args.bytes.now in (
      λ empty. text ∙ sym whole ∙ sym (append-nil done) ∙ ap (λ (xs : List ℕ). done ++ xs) (sym (nil_from_length rest (eqb-true _ _ (sym c.is_empty.ensures ∙ empty)))) ∙ sym is,
      λ same.
          let nothing : rest ≡ [] = append_cancel_left done rest [] (sym is ∙ sym same ∙ text ∙ sym whole ∙ sym (append-nil done)) in
          c.is_empty.ensures ∙ ap (λ (xs : List ℕ). nat_eq (length xs) 0) nothing,
    )
