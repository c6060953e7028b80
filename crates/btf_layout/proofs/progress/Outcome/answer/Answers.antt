use Rattle.std.proofs.Common.{refl, sym, ap}
use Rattle.btf_model.specs.Refusal.{UnknownBtfType, UnexpectedBtfType, MaximumTypeDepthReached}
use Rattle.btf_layout.specs.Progress.{outcome_answer}
use Rattle.btf_layout.proofs.progress.Outcome.answer.Goals as goal

pub returns-in-Unknown : goal.returns-in-Unknown
returns-in-Unknown c = (UnknownBtfType c.in-Unknown.type_id, refl, ap (outcome_answer c.args.type_id) (sym c.in-Unknown.is))

pub returns-in-Unexpected : goal.returns-in-Unexpected
returns-in-Unexpected c = (UnexpectedBtfType c.in-Unexpected.type_id, refl, ap (outcome_answer c.args.type_id) (sym c.in-Unexpected.is))

pub returns-in-Endless : goal.returns-in-Endless
returns-in-Endless c = (MaximumTypeDepthReached c.args.type_id, refl, ap (outcome_answer c.args.type_id) (sym c.in-Endless.is))
