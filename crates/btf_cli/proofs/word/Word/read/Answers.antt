use Rattle.std.proofs.Common.{◌++◌, ◌∷◌, List, ℕ, Some, sym, ap, ◌∙◌, arith}
use Rattle.std.proofs.lemmas.Bool.{true≢false}
use Rattle.std.proofs.lemmas.Slice.Eq.{bytes_eq-Decides}
use Rattle.std.proofs.lemmas.Str.Pattern.{split_parts}
use Rattle.btf_cli.specs.Setting.{fill_word}
use Rattle.btf_cli.proofs.Colons.{IsCut, sets_by, section_unset, symbol_unset}
use Rattle.btf_cli.proofs.word.Word.read.Goals as goal

pub returns-in_err-name-in-section-clause-none : goal.returns-in_err-name-in-section-clause-none
returns-in_err-name-in-section-clause-none c =
    let parts = c.in_ok-what.ensures.byte (omega arith) (λ w o f. f) in
    let cut : IsCut c.args.text.now c.in_ok-what.what.now c.in_ok-what.rest.now = record { front = parts.0; back = parts.1 } in
    rw c.from_residual-in_err-name-in-section.ensures
    (λ setting sets.
    section_unset c.in_ok-what.what.now c.in_ok-what.rest.now c.in-section.is c.in_err-name-in-section.ensures.none setting
    (sets_by c.args.text.now c.in_ok-what.what.now c.in_ok-what.rest.now cut c.in_default.ensures.none (λ is. true≢false (sym (c.eq.ensures ∙ (bytes_eq-Decides c.args.text.now fill_word).1 is) ∙ c.if-eq.false)) setting sets))

pub returns-in_err-name-in-symbol-clause-none : goal.returns-in_err-name-in-symbol-clause-none
returns-in_err-name-in-symbol-clause-none c =
    let parts = c.in_ok-what.ensures.byte (omega arith) (λ w o f. f) in
    let cut : IsCut c.args.text.now c.in_ok-what.what.now c.in_ok-what.rest.now = record { front = parts.0; back = parts.1 } in
    rw c.from_residual-in_err-name-in-symbol.ensures
    (λ setting sets.
    symbol_unset c.in_ok-what.what.now c.in_ok-what.rest.now c.in-symbol.is c.in_err-name-in-symbol.ensures.none setting
    (sets_by c.args.text.now c.in_ok-what.what.now c.in_ok-what.rest.now cut c.in_default.ensures.none (λ is. true≢false (sym (c.eq.ensures ∙ (bytes_eq-Decides c.args.text.now fill_word).1 is) ∙ c.if-eq.false)) setting sets))

pub returns-in_ok-name-in-section-clause-some : goal.returns-in_ok-name-in-section-clause-some
returns-in_ok-name-in-section-clause-some c =
    let parts = split_parts 58 c.args.text.now (Some (c.in_ok-what.what, c.in_ok-what.rest)) c.in_ok-what.ensures.cases (omega arith) in
    (c.in_ok-what.rest.now, parts.0 ∙ ap (λ (what : List ℕ). what ++ 58 ∷ c.in_ok-what.rest.now) c.in-section.is, c.in_ok-name-in-section.ensures.some)
