use Rattle.btf_relocate.specs.Modules.{targets_view}
use Rattle.btf_relocate.proofs.Among.{in_kernel}
use Rattle.btf_relocate.proofs.modules.resolve_among_in.Goals as goal

pub returns-in-InKernel : goal.returns-in-InKernel
returns-in-InKernel c =
    in_kernel c.args.local.now (targets_view c.args.targets.now) c.args.record.now c.args.candidates.now c.in-InKernel.ids c.resolve_in.new.candidates c.resolve_in.result c.in-InKernel.is c.resolve_in.ensures
