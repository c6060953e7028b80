use Rattle.std.proofs.Common.{◌∙◌, None, map, ap, sym}
use Rattle.btf_relocate_model.specs.Modules as model
use Rattle.btf_relocate_model.specs.Resolution.{table_answers}
use Rattle.btf_relocate.specs.Modules.{found_view}
use Rattle.btf_relocate.specs.Resolving.{subject_view}
use Rattle.btf_relocate.proofs.Among.{at_item, goes_on, refused, refused_by}
use Rattle.btf_relocate.proofs.modules.answers_among.Goals as goal

pub returns-in_err-answer : goal.returns-in_err-answer
returns-in_err-answer c =
    let answer = model.answer_in c.args.local.now c.args.question.now.kind (subject_view c.args.question.now.subject) in
    let found = c.args.found.now in
    let i = c.loop-one.one-index in
    let one = c.one-item.result in
    refused_by c.from_residual-in_err-answer.result c.in_err-answer.field-0.0 (model.answers_among answer None (map found_view found))
    (table_answers (answer one.target.now) c.loop-one.common c.as_slice.result.now) c.from_residual-in_err-answer.ensures.1
    (λ is. refused answer found c.loop-one.common c.loop-one.matching.items i one (at_item found i one c.loop-one-test.true c.one-item.is) c.loop-one.invariant c.in_err-answer.field-0.0
    (ap (table_answers (answer one.target.now) c.loop-one.common) (sym c.as_slice.ensures.value) ∙ is))
    c.in_err-answer.ensures

pub loop-one-preserved : goal.loop-one-preserved
loop-one-preserved c =
    let answer = model.answer_in c.args.local.now c.args.question.now.kind (subject_view c.args.question.now.subject) in
    let found = c.args.found.now in
    let i = c.loop-one.one-index in
    let one = c.one-item.result in
    goes_on answer found c.loop-one.common c.loop-one.matching.items i one (at_item found i one c.loop-one-test.true c.one-item.is) c.loop-one.invariant c.in_ok-answer.answer c.in_ok-answer.ids
    (ap (table_answers (answer one.target.now) c.loop-one.common) (sym c.as_slice.ensures.value) ∙ c.in_ok-answer.ensures) c.push.new.self.items c.in_ok-push.ensures.items
