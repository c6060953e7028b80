-- What `resolve` and its parts return, as the definitions see it.
use Rattle.std.specs.Prelude.{◌≡◌, ◌⊎◌, ℕ, if◌then◌else◌, List, Option, Result, Ok, Err}
use Rattle.std.specs.Global.{Vec}
use Rattle.btf_model.specs.Table.{Table}
use Rattle.btf_relocate_model.specs.Candidates.{is_nameless}
use Rattle.btf_relocate_model.specs.Path.{local_pointer}
use Rattle.btf_relocate_model.specs.Resolution as model
use Rattle.btf_relocate_model.specs.Types.{◌>>=◌, pointer_size}
use Rattle.btf_relocate_model.specs.declared.answer.Answer.{Answer}
use Rattle.btf_relocate_model.specs.declared.error.RelocationError.{RelocationError}
use Rattle.btf_relocate_model.specs.declared.error.RelocationError.TheVariants.{AnonymousType, OutOfMemory}
use Rattle.btf_relocate_model.specs.declared.field.Value.{Value}
use Rattle.btf_relocate_model.specs.declared.kind.RelocationKind.{RelocationKind}
use Rattle.btf_relocate_model.specs.declared.resolved.Resolved.{Resolved}
use Rattle.btf_relocate.specs.Paths.{model_path}
use Rattle.btf_relocate.specs.declared.resolving.Question.{Question}
use Rattle.btf_relocate.specs.declared.resolving.Subject.{Subject}
use Rattle.btf_relocate.specs.declared.resolving.Subject.TheVariants.{OfField, OfType, OfEnumerator}

abbrev pub subject_view : Subject → model.Subject
subject_view (OfField path) = model.OfField (model_path path)
subject_view (OfType id) = model.OfType id
subject_view (OfEnumerator name value) = model.OfEnumerator name.now value

abbrev pub question_view : Question → model.Question
question_view q = record { kind = q.kind; name = q.name.now; subject = subject_view q.subject }

abbrev pub answer_ids_view : Option Answer × Vec ℕ → Option Answer × List ℕ
answer_ids_view p = (p.0, p.1.items)

-- the value of a question about a type of this id for the program's own table, where the kind needs a search
abbrev pub expected_of : Table → ℕ → model.Question → Result Value RelocationError
expected_of local id q =
    if is_nameless q.name then Err (AnonymousType id)
    else model.value_of local_pointer local q.kind (model.local_match q.subject)

-- the answer that a candidate has for a subject
abbrev pub answer_at : Table → Table → RelocationKind → model.Subject → ℕ → Result (Option Answer) RelocationError
answer_at local t k s c = model.match_of k local (pointer_size t) t s c >>= model.answer_of (pointer_size t) t k

-- The result is the expected one, and the candidates are those that remain; or an allocation failed. The candidates are
-- unchanged after an error.
abbrev pub HasResolved : List ℕ → List ℕ → Result (Resolved × List ℕ) RelocationError → Result Resolved RelocationError
    → Type 0
HasResolved old new expected (Ok r) = expected ≡ Ok (r, new)
HasResolved old new expected (Err e) = ((e ≡ OutOfMemory) ⊎ (expected ≡ Err e)) × (new ≡ old)

-- A record is resolved for its candidates in one table.
abbrev pub ResolvesFor : Table → Table → List ℕ → List ℕ → List ℕ → Result Resolved RelocationError → Type 0
ResolvesFor local target words old new result =
    HasResolved old new (model.resolution (record { local = local; target = target }) old words) result

-- the answer that a candidate has for a question
abbrev pub answer_for : Table → Table → Question → ℕ → Result (Option Answer) RelocationError
answer_for local target question = answer_at local target question.kind (subject_view question.subject)
