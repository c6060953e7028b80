use Rattle.std.specs.Prelude.{slice_get}
use Rattle.btf_model.specs.Refusal.{MaximumTypeDepthReached}
use Rattle.btf_model.specs.Walk.{By, unmodified_in, size_in}
use Rattle.btf_model.proofs.Walks.{one_answer, by_one}
use Rattle.btf_model.proofs.walks_are_determined.Goals as goal

pub returns : goal.returns
returns c = record {
  resolving = λ records id a b p q. one_answer (By (λ at. unmodified_in at (slice_get records at))) (by_one (λ at. unmodified_in at (slice_get records at))) id (λ _. MaximumTypeDepthReached id) a b p q;
  size = λ records id a b p q. one_answer (By (λ at. size_in at (slice_get records at.type))) (by_one (λ at. size_in at (slice_get records at.type))) (record { count = 1; type = id }) (λ _. MaximumTypeDepthReached id) a b p q;
}
