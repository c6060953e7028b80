use Rattle.std.proofs.Common.{Ok, Err}
use Rattle.std.specs.Prelude.{IfOk}
use Rattle.std.specs.Option.{option_map}
use Rattle.btfobj_cli.specs.Part.{RewritesFileOver, IsRewrittenOver}
use Rattle.btfobj_cli.proofs.Files.{rewritten_over}
use Rattle.btfobj_cli.proofs.rewrite.sanitize.Goals as goal

pub returns : goal.returns
returns g c =
    let base = option_map (λ b. b.now) c.args.base in
    elim c.sanitize_parsed_input.result as (λ r. IfOk r (λ x. RewritesFileOver c.in_ok-input.input base c.args.rewrite.now x.0.items x.1.items) → IfOk r (λ x. IsRewrittenOver c.args.bytes.now base c.args.rewrite.now x.0.items x.1.items)) [
      | Ok x ↦ rewritten_over c.args.bytes.now base c.args.rewrite.now c.in_ok-input.input x.0.items x.1.items c.in_ok-input.ensures.read c.in_ok-input.ensures.object c.in_ok-input.ensures.little c.in_ok-input.ensures.big
      | Err e ↦ λ _. tt
    ] c.sanitize_parsed_input.ensures
