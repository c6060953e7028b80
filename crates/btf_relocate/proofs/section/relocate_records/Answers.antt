use Rattle.std.proofs.Common.{◌≡◌, subst}
use Rattle.std.specs.Prelude.{IfOk}
use Rattle.btf_model.specs.Table.{Table}
use Rattle.btf_relocate.specs.SectionsAmong.{reported_among}
use Rattle.btf_relocate.proofs.section.relocate_records.Goals as goal

pub returns-clause-reported : goal.returns-clause-reported
returns-clause-reported c =
    subst (λ (t : Table). IfOk c.relocate_all.result (λ v. (v.items, c.relocate_all.new.code) ≡ reported_among c.args.policy t c.args.targets.now c.args.left.now c.args.code.now c.args.records.now))
    c.of_table-local.ensures c.relocate_all.ensures.reported
