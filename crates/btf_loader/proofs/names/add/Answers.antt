use Rattle.std.proofs.Common.{◌≡◌, ◌+◌, ◌∷◌, List, drop, sym, subst}
use Rattle.btf_elf_model.specs.declared.section_header.SectionHeader.{SectionHeader}
use Rattle.btf_loader.proofs.Indices.{added, no_bytes}
use Rattle.btf_loader.proofs.names.add.Goals as goal

pub returns-then-not-has_bytes : goal.returns-then-not-has_bytes
returns-then-not-has_bytes c =
    no_bytes c.args.named.now c.args.object.now c.args.index c.header_at-section.result.now
    (subst (λ (ss : List SectionHeader). drop c.args.index ss ≡ c.header_at-section.result.now ∷ drop (c.args.index + 1) ss) c.sections.ensures c.header_at-section.ensures)
    (sym c.if-not-has_bytes.ensures)

pub returns-in_ok-insert : goal.returns-in_ok-insert
returns-in_ok-insert c =
    added c.args.named.now c.insert.new.self c.args.object.now c.args.index c.header_at-section.result.now c.in-Some.name
    (subst (λ (ss : List SectionHeader). drop c.args.index ss ≡ c.header_at-section.result.now ∷ drop (c.args.index + 1) ss) c.sections.ensures c.header_at-section.ensures)
    (sym c.if-not-has_bytes.ensures) c.in-Some.ensures.some.0 c.in_ok-insert.ensures.updates
