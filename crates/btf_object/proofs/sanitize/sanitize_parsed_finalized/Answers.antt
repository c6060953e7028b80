use Rattle.std.proofs.Common.{List, ℕ, subst}
use Rattle.btf_elf.specs.Writing.{HasReplaced}
use Rattle.btf_object_model.specs.SanitizedFinalized.{IsSanitizedFinalized}
use Rattle.btf_object_model.proofs.Kept.{finalized_keeps_ext}
use Rattle.btf_object.specs.Errors.{from_table, of_section, RefusesFinalizedFor, RewritesFinalizedFor}
use Rattle.btf_object.specs.Kernel.{kernel_has}
use Rattle.btf_object.proofs.Objects.{becomes, whole, table_cause, section_cause, sanitized_finalized}
use Rattle.btf_object.proofs.sanitize.sanitize_parsed_finalized.Given.{Over}
use Rattle.btf_object.proofs.sanitize.sanitize_parsed_finalized.Goals as goal
use Rattle.btf_object.proofs.sanitize.sanitize_parsed_finalized.Goals.{In_ok-with_section}

pub returns-in_err-written-clause-refused : goal.returns-in_err-written-clause-refused
returns-in_err-written-clause-refused g c =
    becomes _ (from_table c.in_err-written.field-0.0) c.from_residual.result
    (table_cause c.args.object.now.bytes c.args.object.now c.in-Some.index c.in-Some.table.now (whole c.args.object.now c.bytes.result.now c.bytes.ensures.value c.bytes.ensures.object) c.in-Some.ensures.some
    (RefusesFinalizedFor (kernel_has c.args.kernel.now) c.args.reader) (RewritesFinalizedFor (kernel_has c.args.kernel.now) c.args.reader) c.in_err-written.field-0.0 c.in_err-written.ensures.refused)
    c.from_residual.ensures.1

pub returns-in_err-with_section-clause-refused : goal.returns-in_err-with_section-clause-refused
returns-in_err-with_section-clause-refused g c =
    let made = c.in_ok-written.ensures.made in
    becomes _ (of_section c.in_err-with_section.field-0.0) c.from_residual-in_err-with_section.result
    (section_cause c.args.object.now.bytes c.args.object.now c.in-Some.index c.in-Some.table.now (whole c.args.object.now c.bytes.result.now c.bytes.ensures.value c.bytes.ensures.object) c.in-Some.ensures.some
    (RefusesFinalizedFor (kernel_has c.args.kernel.now) c.args.reader) (RewritesFinalizedFor (kernel_has c.args.kernel.now) c.args.reader) c.in_err-with_section.field-0.0 (made.0, made.1, made.2, c.in_ok-written.answers.items, made.3) c.in_err-with_section.ensures.only)
    c.from_residual-in_err-with_section.ensures.1

-- the file is the object with the new table
made : (g : Over) (c : In_ok-with_section g) → IsSanitizedFinalized c.args.object.now.bytes (kernel_has c.args.kernel.now) c.args.reader c.in_ok-with_section.field-0.items c.in_ok-written.answers.items
made g c =
    let replaced : HasReplaced c.args.object.now c.in-Some.index c.in_ok-written.written.items c.in_ok-with_section.field-0.items =
    subst (λ (given : List ℕ). HasReplaced c.args.object.now c.in-Some.index given c.in_ok-with_section.field-0.items) c.deref.ensures.value c.in_ok-with_section.ensures.ok in
    sanitized_finalized c.args.object.now.bytes c.args.object.now c.in-Some.index c.in-Some.table.now (whole c.args.object.now c.bytes.result.now c.bytes.ensures.value c.bytes.ensures.object) c.in-Some.ensures.some (kernel_has c.args.kernel.now) c.args.reader c.in_ok-written.written.items c.in_ok-with_section.field-0.items
    c.in_ok-written.answers.items c.in_ok-written.ensures.made replaced

pub returns-clause-sanitized : goal.returns-clause-sanitized
returns-clause-sanitized g c = made g (goal.at.returns-clause-sanitized g c).In_ok-with_section

pub returns-clause-ext : goal.returns-clause-ext
returns-clause-ext g c =
    finalized_keeps_ext c.args.object.now.bytes c.in_ok-with_section.field-0.items (kernel_has c.args.kernel.now) c.args.reader c.in_ok-written.answers.items (made g (goal.at.returns-clause-ext g c).In_ok-with_section)
