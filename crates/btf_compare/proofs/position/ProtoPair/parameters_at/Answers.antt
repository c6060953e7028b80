use Rattle.std.proofs.Common.{◌∙◌, ap}
use Rattle.std.specs.Option.{option_map}
use Rattle.btf_compare.specs.Pairs.{pair_of}
use Rattle.btf_compare.proofs.Positions.{parameters_there, no_parameter, no_other_parameter}
use Rattle.btf_compare.proofs.position.ProtoPair.parameters_at.Goals as goal

pub returns-in_err-param : goal.returns-in_err-param
returns-in_err-param c = record { pair = ap (option_map pair_of) c.from_residual.ensures ∙ no_parameter c.args.self.now.params.now c.args.self.now.others.now c.args.index c.in_err-param.ensures.lookup.0 }

pub returns-in_err-other : goal.returns-in_err-other
returns-in_err-other c = record { pair = ap (option_map pair_of) c.from_residual-in_err-other.ensures ∙ no_other_parameter c.args.self.now.params.now c.args.self.now.others.now c.args.index c.in_err-other.ensures.lookup.0 }

pub returns : goal.returns
returns c =
    record {
      pair = parameters_there c.args.self.now.params.now c.args.self.now.others.now c.args.index c.in_ok-param.param.now c.in_ok-other.other.now c.in_ok-param.ensures.lookup.0 c.in_ok-param.ensures.lookup.1 c.in_ok-other.ensures.lookup.0 c.in_ok-other.ensures.lookup.1;
    }
