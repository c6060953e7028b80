use Rattle.std.proofs.Common.{◌∙◌, sym}
use Rattle.btf_model.specs.Record.{kind_of, vlen}
use Rattle.btf_view.specs.TypeRef.{record_in}
use Rattle.btf_relocate.proofs.Items.{members_counted, no_members}
use Rattle.btf_relocate.proofs.kinds.member_count.Goals as goal

pub returns-then-is_composite-clause-value : goal.returns-then-is_composite-clause-value
returns-then-is_composite-clause-value c =
    let r = record_in c.args.btf_type.now in
    c.vlen.ensures.value ∙ members_counted c.kind.result (kind_of r.info) (vlen r.info) r.tail c.kind.ensures.info (sym c.is_composite.ensures ∙ c.if-is_composite.true) c.kind.ensures.tail

pub returns-else-is_composite-clause-value : goal.returns-else-is_composite-clause-value
returns-else-is_composite-clause-value c =
    let r = record_in c.args.btf_type.now in
    no_members c.kind.result (kind_of r.info) r.tail c.kind.ensures.info (sym c.is_composite.ensures ∙ c.if-is_composite.false)
