use Rattle.std.proofs.Common.{◌≡◌, ◌∙◌, ◌+◌, ◌^◌, ◌<◌, ◌≤◌, ◌*◌, ℕ, length, sym, ap, subst, arith}
use Rattle.btf_elf_model.specs.Object as model
use Rattle.btf_elf_model.specs.Header.{file_header_len}
use Rattle.btf_elf_model.specs.Replaced.{place}
use Rattle.btf_elf.specs.Writing.{file_with_section}
use Rattle.btf_elf.proofs.Options.{some_since_test}
use Rattle.btf_elf.proofs.Replacing.{IsRewrite, has_replaced, header_within}
use Rattle.btf_elf.proofs.object.Object.with_section.Goals as goal

pub write_replaced-requires-clause-header : goal.write_replaced-requires-clause-header
write_replaced-requires-clause-header c =
    let o = c.args.self.now in
    let valid : model.IsObject o.bytes o = subst (λ (x : model.Object). model.IsObject x.bytes x) c.self.view_is c.self.invariant.object in
    subst (λ (x : model.Object). x.header.section_headers + file_header_len * c.args.index + 40 ≤ length x.bytes) (sym c.self.view_is)
    (header_within o c.args.index c.in_ok-section.section valid c.in_ok-section.ensures.0)

pub returns-clause-ok : goal.returns-clause-ok
returns-clause-ok c =
    let o = c.args.self.now in
    let s = c.in_ok-section.section in
    let given = c.args.given.now in
    let offset = c.place-offset.result in
    let at : offset ≡ place o c.args.index s (length given) = c.place-offset.ensures in
    let fits : offset + length given < 2 ^ 64 = some_since_test c.checked_add.result _ _ c.checked_add.ensures c.if-is_none.ensures in
    let made : IsRewrite o c.args.index s given c.in_ok-file.file.items = record {
      valid = subst (λ (x : model.Object). model.IsObject x.bytes x) c.self.view_is c.self.invariant.object;
      section = c.in_ok-section.ensures.0;
      replaceable = c.in_ok-section.ensures.1;
      end = omega (arith, fits, at);
      file_is =
          c.in_ok-file.ensures
          ∙ ap (λ (x : model.Object). file_with_section x.header x.bytes c.args.index offset given) c.self.view_is
          ∙ ap (λ (n : ℕ). file_with_section o.header o.bytes c.args.index n given) at;
    } in
    has_replaced o c.args.index s given c.in_ok-file.file.items made
