use Rattle.btf_model.proofs.Texts.{added_text, text_stays}
use Rattle.std.proofs.Common.{ℕ, List, [], ◌∷◌, ◌++◌, ap, ◌∙◌}
use Rattle.std.proofs.lemmas.List.{append_assoc}
use Rattle.btf_model.specs.Text.{text_at}
use Rattle.btf_model.proofs.added_string_reads_back.Goals as goal

pub returns : goal.returns
returns c = record {
  added = λ t text is none. added_text t.strings text is none;
  old = λ t text other offset is. ap (λ (xs : List ℕ). text_at xs offset) (append_assoc t.strings text (0 ∷ [])) ∙ text_stays t.strings (text ++ 0 ∷ []) offset other is;
}
