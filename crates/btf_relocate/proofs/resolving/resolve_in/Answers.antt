use Rattle.std.proofs.Common.{◌≡◌, ◌∙◌, List, ℕ, Bool, false, Option, Ok, Err, None, sym, ap, inl, inr, rules}
use Rattle.std.specs.Prelude.{◌⊎◌}
use Rattle.std.specs.Global.{Vec}
use Rattle.btf_model.specs.Table.{Table}
use Rattle.btf_model.specs.declared.endianness.Endianness.{Endianness}
use Rattle.btf_relocate_model.specs.Resolution as model
use Rattle.btf_relocate_model.specs.Resolution.{TablePair, Question, question, table_answers, candidate_answer, resolution, resolved_by, remaining, is_local}
use Rattle.btf_relocate_model.specs.declared.answer.Answer.{Answer}
use Rattle.btf_relocate_model.specs.declared.error.RelocationError.TheVariants.{OutOfMemory}
use Rattle.btf_relocate_model.specs.declared.resolved.Resolved.{Resolved}
use Rattle.btf_relocate.specs.Resolving.{question_view}
use Rattle.btf_relocate.proofs.Resolves.{Asked, refused, answered_by, remain_some, remain_none, left_refused}
use Rattle.btf_relocate.proofs.resolving.resolve_in.Goals as goal
use Rattle.btf_relocate.proofs.resolving.resolve_in.Goals.{then-is_some, else-is_some}

pub returns-in_err-answer : goal.returns-in_err-answer
returns-in_err-answer c =
    let g : TablePair = record { local = c.args.local.now; target = c.args.target.now } in
    let words = c.args.record.now in
    let q : Question = question_view c.in_ok-question.question in
    let e = c.in_err-answer.field-0.0 in
    let order : c.endianness.result ≡ c.args.target.now.order = c.endianness.ensures ∙ ap (λ (t : Table). t.order) c.table.ensures in
    let asks : question g.local g.target.order words ≡ Ok q = ap (λ (o : Endianness). question g.local o words) (sym order) ∙ c.in_ok-question.ensures in
    let searches : is_local q.kind ≡ false = search rules in
    let asked : Asked g c.args.candidates.now.items words q c.in_ok-expected.expected = record {
      asks = asks;
      searches = searches;
      expects = sym c.in_ok-expected.ensures;
    } in
    let known = c.in_err-answer.ensures in
    left_refused c.args.candidates.now.items (resolution g c.args.candidates.now.items words) c.from_residual-in_err-answer.result e c.from_residual-in_err-answer.ensures.1
    (elim known as (λ x. (e ≡ OutOfMemory) ⊎ (resolution g c.args.candidates.now.items words ≡ Err e)) [
      | inl memory ↦ inl memory
      | inr is ↦ inr (refused g c.args.candidates.now.items words q c.in_ok-expected.expected asked e
          (ap (λ (cs : List ℕ). table_answers (candidate_answer g q.kind q.subject) None cs) (sym c.as_slice.ensures.value) ∙ is))
    ])

pub returns : goal.returns
returns c =
    let g : TablePair = record { local = c.args.local.now; target = c.args.target.now } in
    let words = c.args.record.now in
    let q : Question = question_view c.in_ok-question.question in
    let order : c.endianness.result ≡ c.args.target.now.order = c.endianness.ensures ∙ ap (λ (t : Table). t.order) c.table.ensures in
    let asks : question g.local g.target.order words ≡ Ok q = ap (λ (o : Endianness). question g.local o words) (sym order) ∙ c.in_ok-question.ensures in
    let searches : is_local q.kind ≡ false = search rules in
    let asked : Asked g c.args.candidates.now.items words q c.in_ok-expected.expected = record {
      asks = asks;
      searches = searches;
      expects = sym c.in_ok-expected.ensures;
    } in
    let found : Option Answer × List ℕ = (c.in_ok-answer.answer, c.in_ok-answer.matching.items) in
    let known : table_answers (candidate_answer g q.kind q.subject) None c.as_slice.result.now ≡ Ok found =
    c.in_ok-answer.ensures in
    let left : remaining c.args.candidates.now.items found.0 found.1 ≡ c.if-is_some.candidates.items = elim c.if-is_some.branch [
      | then-is_some w ↦ remain_some found.0 c.is_some.result c.args.candidates.now.items found.1 c.if-is_some.candidates.items c.is_some.ensures w.if-is_some.true (ap (λ (v : Vec ℕ). v.items) w.candidates-is)
      | else-is_some w ↦ remain_none found.0 c.is_some.result c.args.candidates.now.items found.1 c.if-is_some.candidates.items c.is_some.ensures w.if-is_some.false (ap (λ (v : Vec ℕ). v.items) w.candidates-is)
    ] in
    let result : resolved_by g.local g.target q.kind (model.validates q.kind q.subject) c.in_ok-expected.expected found.0 ≡ c.resolve_by.result = sym (c.resolve_by.ensures
    ∙ ap (λ (t : Table). resolved_by g.local t q.kind c.validates-validates.result c.in_ok-expected.expected found.0) c.table-2.ensures
    ∙ ap (λ (b : Bool). resolved_by g.local g.target q.kind b c.in_ok-expected.expected found.0) c.validates-validates.ensures) in
    answered_by g c.args.candidates.now.items words q c.in_ok-expected.expected asked found
    (ap (λ (cs : List ℕ). table_answers (candidate_answer g q.kind q.subject) None cs) (sym c.as_slice.ensures.value) ∙ known)
    ∙ ap (λ (r : Resolved). let p : Resolved × List ℕ = (r, remaining c.args.candidates.now.items found.0 found.1) in Ok p) result
    ∙ ap (λ (cs : List ℕ). let p : Resolved × List ℕ = (c.resolve_by.result, cs) in Ok p) left
