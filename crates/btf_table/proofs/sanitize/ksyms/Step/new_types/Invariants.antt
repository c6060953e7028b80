use Rattle.btf_rewrite_model.specs.declared.ksyms_ids.KsymsIds.{KsymsIds}
use Rattle.btf_table.specs.KsymsStep.{IsStep, AreStepped}
use Rattle.btf_table.proofs.sanitize.ksyms.Step.new_types.Given as goal

abbrev pub invariant-loop-id : goal.invariant-loop-id
invariant-loop-id l = (ids : KsymsIds) → IsStep l.btf ids l.self → AreStepped l.btf ids l.id l.new_types.items
