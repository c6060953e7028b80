use Rattle.std.proofs.Common.{ap, ◌∙◌, Option, ℕ}
use Rattle.std.specs.Option.{unwrap_or}
use Rattle.std.proofs.lemmas.Option.{unwrap_or-slice_get}
use Rattle.btf_view.specs.TypeRef.{record_in}
use Rattle.btf_relocate.proofs.kinds.word_at.Goals as goal

pub returns : goal.returns
returns c =
    c.unwrap_or.ensures ∙ ap (λ (o : Option ℕ). unwrap_or o 0) c.word.ensures ∙ unwrap_or-slice_get (record_in c.args.btf_type.now).tail c.args.index 0
