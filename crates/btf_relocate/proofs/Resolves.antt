-- What a record asks to be written, step by step.
use Rattle.std.proofs.Common.{◌≡◌, ℕ, List, Bool, true, false, Option, Some, None, Result, Ok, Err, refl, sym, ap, subst}
use Rattle.std.specs.Prelude.{◌⊎◌, if◌then◌else◌}
use Rattle.std.specs.Result.{IsErrAnd}
use Rattle.btf_relocate.specs.Resolving.{HasResolved, expected_of}
use Rattle.btf_relocate.proofs.Compatibles.{from_err}
use Rattle.std.specs.Option.{is_some}
use Rattle.btf_relocate_model.specs.Candidates.{is_nameless}
use Rattle.btf_relocate_model.specs.Path.{local_pointer}
use Rattle.btf_relocate_model.specs.Resolution.{TablePair, Question, is_local, question, resolution, table_answers, candidate_answer, resolved_by, validates, remaining, searched, type_word, value_of, local_match}
use Rattle.btf_relocate_model.specs.Types.{◌>>=◌}
use Rattle.btf_relocate_model.specs.declared.answer.Answer.{Answer}
use Rattle.btf_relocate_model.specs.declared.error.RelocationError.{RelocationError}
use Rattle.btf_relocate_model.specs.declared.error.RelocationError.TheVariants.{AnonymousType, OutOfMemory}
use Rattle.btf_relocate_model.specs.declared.field.Value.{Value}
use Rattle.btf_relocate_model.specs.declared.resolved.Resolved.{Resolved}

-- ---- the result

-- a question with a local value has a name
module _ (id : ℕ) where
  pub named : (b : Bool) (o : Result Value RelocationError) (v : Value) → (if b then Err (AnonymousType id) else o) ≡ Ok v → (b ≡ false) × (o ≡ Ok v)
  named true o v is = absurd (cc)
  named false o v is = (refl, is)

  pub not_expected : {A : Type 0} (b : Bool) (o : Result Value RelocationError) (search : Value → Result A RelocationError) (e : RelocationError) → (if b then Err (AnonymousType id) else o) ≡ Err e
      → (if b then Err (AnonymousType id) else (o >>= search)) ≡ Err e
  not_expected {A} true o search e is = as_error (AnonymousType id) is
    where
      as_error : (f : RelocationError) → ◌≡◌ {A = Result Value RelocationError} (Err f) (Err e) → ◌≡◌ {A = Result A RelocationError} (Err f) (Err e)
      as_error f same = cc
  not_expected {A} false o search e is = ap (λ (x : Result Value RelocationError). x >>= search) is

-- a question without a local value
pub unexpected : (g : TablePair) (candidates words : List ℕ) (q : Question) (e : RelocationError) → question g.local g.target.order words ≡ Ok q → is_local q.kind ≡ false → expected_of g.local (type_word words) q ≡ Err e
    → resolution g candidates words ≡ Err e
unexpected g candidates words q e asks searches is =
    rw (asks, searches) (not_expected (type_word words) (is_nameless q.name) (value_of local_pointer g.local q.kind (local_match q.subject)) (searched g q.kind q.subject candidates) e is)

module _ (g : TablePair) (candidates words : List ℕ) (q : Question) (expected : Value) where
  pub record Asked : Type 0 where
    pub asks : question g.local g.target.order words ≡ Ok q
    pub searches : is_local q.kind ≡ false
    pub expects : expected_of g.local (type_word words) q ≡ Ok expected

  parts : Asked → (is_nameless q.name ≡ false) × (value_of local_pointer g.local q.kind (local_match q.subject) ≡ Ok expected)
  parts a = named (type_word words) (is_nameless q.name) (value_of local_pointer g.local q.kind (local_match q.subject)) expected a.expects

  pub refused : Asked → (e : RelocationError) → table_answers (candidate_answer g q.kind q.subject) None candidates ≡ Err e → resolution g candidates words ≡ Err e
  refused a e is = rw (a.asks, a.searches, (parts a).0, (parts a).1, is) refl

  pub answered_by : Asked → (found : Option Answer × List ℕ) → table_answers (candidate_answer g q.kind q.subject) None candidates ≡ Ok found
      → resolution g candidates words ≡ Ok (resolved_by g.local g.target q.kind (validates q.kind q.subject) expected found.0, remaining candidates found.0 found.1)
  answered_by a found is = rw (a.asks, a.searches, (parts a).0, (parts a).1, is) refl

pub remain_some : (a : Option Answer) (b : Bool) (old matching new : List ℕ) → b ≡ is_some a → b ≡ true → new ≡ matching → remaining old a matching ≡ new
remain_some (Some a) b old matching new is so same = sym same
remain_some None b old matching new is so same = absurd (cc)

pub remain_none : (a : Option Answer) (b : Bool) (old matching new : List ℕ) → b ≡ is_some a → b ≡ false → new ≡ old → remaining old a matching ≡ new
remain_none (Some a) b old matching new is not_so same = absurd (cc)
remain_none None b old matching new is not_so same = sym same

-- an error of the answers
pub left_refused : (old : List ℕ) (expected : Result (Resolved × List ℕ) RelocationError) (r : Result Resolved RelocationError) (e : RelocationError) → IsErrAnd r (λ x. x ≡ e)
    → ((e ≡ OutOfMemory) ⊎ (expected ≡ Err e)) → HasResolved old old expected r
left_refused old expected r e same is = subst (λ (x : Result Resolved RelocationError). HasResolved old old expected x) (sym (from_err r e same)) (is, refl)
