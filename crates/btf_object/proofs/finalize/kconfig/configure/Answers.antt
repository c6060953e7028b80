use Rattle.std.proofs.lemmas.Bool.{cases_eq}
use Rattle.btf_object.proofs.FinalSections.{none_there}
use Rattle.btf_object.proofs.Globals.{not_found, found_id, section_stays, section_is, configures, stays}
use Rattle.btf_object.proofs.finalize.kconfig.configure.Goals as goal

pub returns-in_default-clause-made : goal.returns-in_default-clause-made
returns-in_default-clause-made c = not_found c.args.btf.now c.in_ok-type_id.field-0 (none_there c.in_ok-type_id.field-0 c.in_default.not-Some) c.in_ok-type_id.ensures.found

pub returns-in_default-2-clause-made : goal.returns-in_default-2-clause-made
returns-in_default-2-clause-made c =
    stays c.args.btf.now c.in-Some.type_id c.in-Some-data_sec.found.now (found_id c.args.btf.now c.in_ok-type_id.field-0 c.in-Some.type_id c.in-Some.is c.in_ok-type_id.ensures.found) c.in-Some-data_sec.ensures.some
    (cases_eq c.in-Some-data_sec.found.now.third 0)
    (section_stays c.args.btf.now c.in-Some-data_sec.found.now c.in_ok-section.field-0 (none_there c.in_ok-section.field-0 c.in_default-2.not-Some) c.in_ok-section.ensures.made)

pub returns-clause-made : goal.returns-clause-made
returns-clause-made c =
    configures c.args.btf.now c.in-Some.type_id c.in-Some-data_sec.found.now (found_id c.args.btf.now c.in_ok-type_id.field-0 c.in-Some.type_id c.in-Some.is c.in_ok-type_id.ensures.found) c.in-Some-data_sec.ensures.some
    c.in-Some-2.section c.put_section.new.btf (section_is c.args.btf.now c.in-Some-data_sec.found.now c.in_ok-section.field-0 c.in-Some-2.section c.in-Some-2.is c.in_ok-section.ensures.made) c.put_section.ensures
