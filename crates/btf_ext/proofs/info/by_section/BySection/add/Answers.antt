use Rattle.std.proofs.Common.{ℕ, List, ap, sym, ◌∙◌}
use Rattle.std.specs.Option.{is_some}
use Rattle.std.specs.HashMap.{get_by_text}
use Rattle.btf_model.specs.Ext.{instruction_records}
use Rattle.btf_model.specs.Text.{text_at}
use Rattle.btf_ext.specs.SecInfo.{section_of}
use Rattle.btf_ext.proofs.NamedSections.{added_under}
use Rattle.btf_ext.proofs.info.by_section.BySection.add.Goals as goal

pub returns-clause-added : goal.returns-clause-added
returns-clause-added g c =
    added_under g.S.SectionRecords.records c.args.self.now.sections c.insert.new.self c.in_ok-name.name c.in_ok-records.records (instruction_records c.args.endianness c.args.rec_size g.S.SectionRecords.width (section_of c.args.section.now)) (text_at c.args.btf.now.strings c.args.section.now.name_offset) c.in_ok-name.ensures
    (ap (λ (t : List ℕ). is_some (get_by_text c.args.self.now.sections t)) (sym c.as_str.ensures.value) ∙ sym c.contains_key.ensures ∙ c.if-contains_key.false) c.in_ok-records.ensures c.in_ok-insert.ensures.updates
