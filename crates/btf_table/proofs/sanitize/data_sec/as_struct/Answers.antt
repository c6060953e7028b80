use Rattle.std.proofs.Common.{length}
use Rattle.std.specs.List.{flat_map}
use Rattle.btf_model.specs.Record.{vlen}
use Rattle.btf_rewrite_model.specs.Made as model
use Rattle.btf_rewrite_model.specs.Made.{section_entries}
use Rattle.btf_rewrite_model.specs.Checks.{first_fault}
use Rattle.btf_rewrite_model.specs.Rule.{entry_members}
use Rattle.btf_rewrite_model.specs.Fault.{member_checks}
use Rattle.std.specs.Option.{unwrap_or}
use Rattle.btf_records.specs.BtfType.{record_of}
use Rattle.btf_records.specs.declared.btf_type.BtfType.TheVariants.{DataSec}
use Rattle.btf_table.proofs.SectionRules.{reported_on}
use Rattle.btf_table.proofs.sanitize.data_sec.as_struct.Goals as goal

pub returns-in_err-members-clause-answer : goal.returns-in_err-members-clause-answer
returns-in_err-members-clause-answer c = λ p lower same names.
    reported_on (λ new. record_of (unwrap_or new (DataSec c.args.data_sec.now))) c.in_err-members.field-0.0 c.from_residual.result (first_fault (flat_map (member_checks p) (section_entries c.args.data_sec.now.tail))) _
    (model.struct c.args.name_offset (vlen c.args.data_sec.now.info) (vlen c.args.data_sec.now.info) (entry_members p lower (length lower) (section_entries c.args.data_sec.now.tail))) c.from_residual.ensures.1
    (c.in_err-members.ensures.answer p lower same names)
