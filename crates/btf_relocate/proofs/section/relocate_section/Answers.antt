use Rattle.btf_relocate.specs.Sections.{is_shared}
use Rattle.btf_relocate.proofs.Sections.{all_defined, all_records}
use Rattle.btf_relocate.proofs.section.relocate_section.Goals as goal

pub returns-clause-records : goal.returns-clause-records
returns-clause-records c =
    all_records (is_shared c.args.policy) c.args.local.now c.args.target.now c.args.code.now c.args.records.now c.relocate_section_among.result c.relocate_section_among.new.code c.relocate_section_among.ensures

pub returns-clause-defined : goal.returns-clause-defined
returns-clause-defined c =
    all_defined (is_shared c.args.policy) c.args.local.now c.args.target.now c.args.code.now c.args.records.now c.relocate_section_among.result c.relocate_section_among.new.code c.relocate_section_among.ensures
