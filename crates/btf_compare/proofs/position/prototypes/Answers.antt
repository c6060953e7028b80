use Rattle.std.proofs.Common.{◌∙◌, sym, ap}
use Rattle.btf_model.specs.Compat.{prototypes}
use Rattle.btf_records.specs.BtfType.{record_of}
use Rattle.btf_compare.proofs.Positions.{as_many_parameters, few_pending, other_parameters}
use Rattle.btf_compare.proofs.position.prototypes.Goals as goal

pub returns-then-params-others-clause-position : goal.returns-then-params-others-clause-position
returns-then-params-others-clause-position c is =
    other_parameters c.args.local.now c.in-FuncProto.target c.params-params.result.now c.params-others.result.now c.params-params.ensures.words c.params-others.ensures.words c.if-params-others.true
    ∙ ap (λ t. prototypes c.args.local.now (record_of t)) (sym c.in-FuncProto.is)

pub returns-clause-position : goal.returns-clause-position
returns-clause-position c is =
    rw (c.return_type.ensures, c.return_type-2.ensures)
    (as_many_parameters c.args.local.now c.in-FuncProto.target c.params-params.result.now c.params-others.result.now c.params-params.ensures.words c.params-others.ensures.words c.if-params-others.false
    ∙ ap (λ t. prototypes c.args.local.now (record_of t)) (sym c.in-FuncProto.is))

pub returns-clause-few : goal.returns-clause-few
returns-clause-few c = few_pending c.params-params.result.now c.params-others.result.now c.args.local.now.info c.params-params.ensures.count
