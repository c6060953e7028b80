use Rattle.std.proofs.Common.{◌∙◌, ◌++◌, List, ℕ, Some, None, ap, sym}
use Rattle.std.proofs.lemmas.Bool.Decides.{Decides-eqb}
use Rattle.std.proofs.lemmas.Slice.Eq.{strip_prefix_is}
use Rattle.btf_view.proofs.text.after_text.Goals as goal

pub returns-in-Some : goal.returns-in-Some
returns-in-Some c =
    strip_prefix_is Decides-eqb c.args.bytes.now c.as_bytes.result.now (Some c.in-Some.after) c.in-Some.ensures.cases
    ∙ ap (λ (xs : List ℕ). xs ++ c.in-Some.after.now) c.as_bytes.ensures.value

pub returns-in-None : goal.returns-in-None
returns-in-None c more is =
    strip_prefix_is Decides-eqb c.args.bytes.now c.as_bytes.result.now None c.in-None.ensures.cases more
    (is ∙ ap (λ (xs : List ℕ). xs ++ more) (sym c.as_bytes.ensures.value))
