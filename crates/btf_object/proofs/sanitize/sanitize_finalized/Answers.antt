use Rattle.std.proofs.Common.{List, ℕ}
use Rattle.std.specs.Prelude.{IfOk, IfErr}
use Rattle.btf_elf_model.specs.Object as elf
use Rattle.btf_elf_model.specs.declared.section_header.SectionHeader.{SectionHeader}
use Rattle.btf_object_model.specs.Laws.{KeepsExt}
use Rattle.btf_object_model.specs.Sanitized.{HasSection, ext_name}
use Rattle.btf_object_model.specs.SanitizedFinalized.{IsSanitizedFinalized}
use Rattle.btf_object.specs.Errors.{IsFinalizedCause}
use Rattle.btf_object.specs.Kernel.{kernel_has}
use Rattle.btf_object.proofs.Objects.{of_bytes}
use Rattle.btf_object.proofs.sanitize.sanitize_finalized.Goals as goal

pub returns-clause-sanitized : goal.returns-clause-sanitized
returns-clause-sanitized g c =
    of_bytes (λ (b : List ℕ). IfOk c.sanitize_parsed_finalized.result (λ r. IsSanitizedFinalized b (kernel_has c.args.kernel.now) c.args.reader r.0.items r.1.items)) c.args.bytes.now c.in_ok-object.object c.in_ok-object.ensures c.sanitize_parsed_finalized.ensures.sanitized

pub returns-clause-ext : goal.returns-clause-ext
returns-clause-ext g c =
    of_bytes (λ (b : List ℕ). IfOk c.sanitize_parsed_finalized.result (λ r. (o : elf.Object) (index : ℕ) (s : SectionHeader) → HasSection b ext_name o index s → (new : elf.Object) × KeepsExt b r.0.items o new index s)) c.args.bytes.now
    c.in_ok-object.object c.in_ok-object.ensures c.sanitize_parsed_finalized.ensures.ext

pub returns-clause-refused : goal.returns-clause-refused
returns-clause-refused g c =
    of_bytes (λ (b : List ℕ). IfErr c.sanitize_parsed_finalized.result (IsFinalizedCause b (kernel_has c.args.kernel.now) c.args.reader)) c.args.bytes.now c.in_ok-object.object c.in_ok-object.ensures c.sanitize_parsed_finalized.ensures.refused
