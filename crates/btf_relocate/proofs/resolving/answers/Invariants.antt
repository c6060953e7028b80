-- The candidates so far have an answer, and some of them match. The answers of the others complete the answers of all.
use Rattle.btf_relocate.specs.Resolving.{subject_view, answer_at}
use Rattle.btf_relocate.proofs.Answering.{Left}
use Rattle.btf_relocate.proofs.resolving.answers.Given as goal

abbrev pub invariant-loop-candidate : goal.invariant-loop-candidate
invariant-loop-candidate l =
    Left (answer_at l.local l.target l.question.kind (subject_view l.question.subject)) l.fn.first l.candidates l.common l.kept.items l.candidate-index
