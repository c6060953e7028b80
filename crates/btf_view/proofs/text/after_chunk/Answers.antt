use Rattle.std.proofs.Common.{◌∙◌, ◌++◌, ℕ, List, ap, sym}
use Rattle.std.proofs.lemmas.Bool.{eqb-true, eqb-false}
use Rattle.std.proofs.lemmas.List.{append_assoc, append_cancel_left}
use Rattle.std.specs.Str.Lossy.{replacement_bytes}
use Rattle.btf_view.proofs.Chunks.{chunk_begins, chunk_cut, chunk_whole}
use Rattle.btf_view.proofs.text.after_chunk.Goals as goal

pub returns-in_default : goal.returns-in_default
returns-in_default c more is =
    let begins = chunk_begins c.args.valid.now c.args.invalid.now more in
    c.in_default.ensures begins.0 (is ∙ begins.1)

pub returns-then-is_empty : goal.returns-then-is_empty
returns-then-is_empty c =
    c.in-Some.ensures ∙ ap (λ (xs : List ℕ). xs ++ c.in-Some.after.now)
    (sym (chunk_whole c.args.valid.now c.args.invalid.now (eqb-true _ _ (sym c.is_empty.ensures ∙ c.if-is_empty.true))))

pub returns-in-Some-after_text : goal.returns-in-Some-after_text
returns-in-Some-after_text c =
    let valid = c.args.valid.now in
    let cut = chunk_cut valid c.args.invalid.now (eqb-false _ _ (sym c.is_empty.ensures ∙ c.if-is_empty.false)) in
    c.in-Some.ensures ∙ ap (λ (xs : List ℕ). valid ++ xs) c.in-Some-after_text.ensures
    ∙ sym (append_assoc valid replacement_bytes c.in-Some-after_text.rest.now) ∙ ap (λ (xs : List ℕ). xs ++ c.in-Some-after_text.rest.now) (sym cut)

pub returns-in-None : goal.returns-in-None
returns-in-None c more is =
    let valid = c.args.valid.now in
    let cut = chunk_cut valid c.args.invalid.now (eqb-false _ _ (sym c.is_empty.ensures ∙ c.if-is_empty.false)) in
    c.in-None.ensures more (append_cancel_left valid c.in-Some.after.now (replacement_bytes ++ more) (sym c.in-Some.ensures ∙ is ∙ ap (λ (xs : List ℕ). xs ++ more) cut ∙ append_assoc valid replacement_bytes more))
