use Rattle.std.proofs.Common.{List, ℕ, Bor, subst}
use Rattle.std.specs.Option.{option_map}
use Rattle.btf_elf.specs.Writing.{HasReplaced}
use Rattle.btf_object_model.specs.Sanitized.{IsSanitized}
use Rattle.btf_object_model.proofs.Kept.{keeps_ext}
use Rattle.btf_object.specs.Errors.{target_of, from_table, of_section, RefusesFor, RewritesFor}
use Rattle.btf_object.proofs.Objects.{becomes, whole, table_cause, section_cause, sanitized}
use Rattle.btf_object.proofs.sanitize.sanitize_parsed.Given.{Over}
use Rattle.btf_object.proofs.sanitize.sanitize_parsed.Goals as goal
use Rattle.btf_object.proofs.sanitize.sanitize_parsed.Goals.{In_ok-file}

pub returns-in_err-written-clause-refused : goal.returns-in_err-written-clause-refused
returns-in_err-written-clause-refused g c =
    becomes _ (from_table c.in_err-written.field-0.0) c.from_residual.result
    (table_cause c.args.object.now.bytes c.args.object.now c.in-Some.index c.in-Some.table.now (whole c.args.object.now c.bytes.result.now c.bytes.ensures.value c.bytes.ensures.object) c.in-Some.ensures.some
    (RefusesFor (target_of c.args.kernel.now c.args.policy (option_map (λ (name : Bor (List ℕ)). name.now) c.args.placeholder))) (RewritesFor (target_of c.args.kernel.now c.args.policy (option_map (λ (name : Bor (List ℕ)). name.now) c.args.placeholder)))
    c.in_err-written.field-0.0 c.in_err-written.ensures.refused)
    c.from_residual.ensures.1

pub returns-in_err-file-clause-refused : goal.returns-in_err-file-clause-refused
returns-in_err-file-clause-refused g c =
    let made = c.in_ok-written.ensures.made in
    becomes _ (of_section c.in_err-file.field-0.0) c.from_residual-in_err-file.result
    (section_cause c.args.object.now.bytes c.args.object.now c.in-Some.index c.in-Some.table.now (whole c.args.object.now c.bytes.result.now c.bytes.ensures.value c.bytes.ensures.object) c.in-Some.ensures.some
    (RefusesFor (target_of c.args.kernel.now c.args.policy (option_map (λ (name : Bor (List ℕ)). name.now) c.args.placeholder))) (RewritesFor (target_of c.args.kernel.now c.args.policy (option_map (λ (name : Bor (List ℕ)). name.now) c.args.placeholder)))
    c.in_err-file.field-0.0 (made.0, made.1, c.in_ok-written.answers.items, made.2) c.in_err-file.ensures.only)
    c.from_residual-in_err-file.ensures.1

-- the file is the rewritten object
made : (g : Over) (c : In_ok-file g) → IsSanitized c.args.object.now.bytes (target_of c.args.kernel.now c.args.policy (option_map (λ (name : Bor (List ℕ)). name.now) c.args.placeholder)) c.in_ok-file.file.items c.in_ok-written.answers.items
made g c =
    let replaced : HasReplaced c.args.object.now c.in-Some.index c.in_ok-written.written.items c.in_ok-file.file.items =
    subst (λ (given : List ℕ). HasReplaced c.args.object.now c.in-Some.index given c.in_ok-file.file.items) c.deref.ensures.value c.in_ok-file.ensures.ok in
    sanitized c.args.object.now.bytes c.args.object.now c.in-Some.index c.in-Some.table.now (whole c.args.object.now c.bytes.result.now c.bytes.ensures.value c.bytes.ensures.object) c.in-Some.ensures.some
    (target_of c.args.kernel.now c.args.policy (option_map (λ (name : Bor (List ℕ)). name.now) c.args.placeholder))
    c.in_ok-written.written.items c.in_ok-file.file.items c.in_ok-written.answers.items c.in_ok-written.ensures.made replaced

pub returns-clause-sanitized : goal.returns-clause-sanitized
returns-clause-sanitized g c = made g (goal.at.returns-clause-sanitized g c).In_ok-file

pub returns-clause-ext : goal.returns-clause-ext
returns-clause-ext g c = keeps_ext c.args.object.now.bytes c.in_ok-file.file.items _ c.in_ok-written.answers.items (made g (goal.at.returns-clause-ext g c).In_ok-file)
