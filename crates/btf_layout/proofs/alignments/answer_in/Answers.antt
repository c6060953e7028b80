use Rattle.std.proofs.Common.{◌≡◌, refl, sym, ap, ◌∙◌, List, ℕ, inl, inr}
use Rattle.btf_model.specs.Refusal.{MaximumTypeDepthReached}
use Rattle.btf_layout.specs.declared.progress.Progress.{Progress}
use Rattle.btf_layout.specs.Progress.{alignment_answer, progress_in}
use Rattle.btf_layout.proofs.alignments.answer_in.Goals as goal

-- the progress of the type
same_progress : (found items : List Progress) (id : ℕ) (p q : Progress) → found ≡ items → p ≡ progress_in found id → p ≡ q → alignment_answer id q ≡ alignment_answer id (progress_in items id)
same_progress found items id p q same is e = ap (alignment_answer id) (sym e ∙ is ∙ ap (λ (ps : List Progress). progress_in ps id) same)

pub returns-in-New : goal.returns-in-New
returns-in-New c =
    elim c.in-New.is [
      | inl e ↦ (MaximumTypeDepthReached c.args.type_id, refl, same_progress c.args.known.now c.args.known.now c.args.type_id c.progress_of.result _ refl c.progress_of.ensures e)
      | inr e ↦ (MaximumTypeDepthReached c.args.type_id, refl, same_progress c.args.known.now c.args.known.now c.args.type_id c.progress_of.result _ refl c.progress_of.ensures e)
    ]
