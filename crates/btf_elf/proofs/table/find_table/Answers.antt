use Rattle.std.proofs.Common.{◌≡◌, ◌∙◌, ℕ, length, ap, arith, take, ⊎_elim}
use Rattle.btf_elf_model.specs.Section.{section_count}
use Rattle.btf_elf.specs.Table.{section_header_bytes, IsTableOutside}
use Rattle.btf_elf.proofs.Options.{match_more}
use Rattle.btf_elf.proofs.Tables.{IsFound, stated, is_outside, is_inside, table_is}
use Rattle.btf_elf.proofs.table.find_table.Goals as goal

pub returns : goal.returns
returns c =
    let h = c.args.header.now in
    let bytes = c.args.bytes.now in
    let entries = c.in_ok-entries.entries.now in
    let first = c.in_ok-first.first.now in
    let count = c.stated_count.result in
    let found : IsFound h bytes entries first count = record {
      some = c.requires;
      after = omega arith;
      within = c.in_ok-entries.ensures.0;
      entries_are = c.in_ok-entries.ensures.1;
      count_of_entries = c.in_ok-entries.ensures.2;
      entry = c.in_ok-first.ensures.item.3.0;
      first_is = c.in_ok-first.ensures.item.1;
      count_is = c.stated_count.ensures;
    } in
    match_more c.get.result _ (IsTableOutside h bytes) _ (λ t. ¬ (IsTableOutside h bytes) × (t.now ≡ section_header_bytes h bytes) × (length t.now ≡ section_count h bytes))
    (⊎_elim (λ lt. absurd (omega (arith, lt))) (λ lt. is_outside h bytes entries first count found lt))
    (λ t p. (is_inside h bytes entries first count found p.1, p.2 ∙ ap (λ (n : ℕ). take n entries) (omega arith) ∙ table_is h bytes entries first count found p.1, omega (arith, p.3) ∙ stated h bytes entries first count found))
    c.get.ensures.lookup.0
