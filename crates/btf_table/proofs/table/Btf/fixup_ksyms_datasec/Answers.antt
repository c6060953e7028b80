use Rattle.std.proofs.Common.{Some, sym, subst, ◌∙◌}
use Rattle.btf_rewrite_model.proofs.FewAdded.{few_in_the_step}
use Rattle.btf_table.specs.KsymsStep.{ksyms_ids}
use Rattle.btf_table.specs.Rewrites.{AppendsAtMost}
use Rattle.btf_table.proofs.table.Btf.fixup_ksyms_datasec.Goals as goal

pub returns-clause-appended : goal.returns-clause-appended
returns-clause-appended c =
    subst (AppendsAtMost 1 c.args.self.now) (sym (c.in_ok-apply.ensures.ok ∙ c.in_ok-changes.ensures.2)) (few_in_the_step c.args.self.now (Some (ksyms_ids c.args.datasec_id c.args.placeholder_id)))
