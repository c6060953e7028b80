use Rattle.std.proofs.Common.{ℕ, List, Option, Some, take, slice_index_or, sym, ap, ◌∙◌}
use Rattle.std.specs.Prelude.{if◌then◌else◌, option_map, string_bytes}
use Rattle.std.specs.HashMap.{get_by_text}
use Rattle.std.specs.Str.{bytes_eq}
use Rattle.std.proofs.lemmas.Map.Text.{hash_map_updates_text}
use Rattle.btf_plain.specs.declared.section_index.SectionIndex.{SectionIndex}
use Rattle.vbtf.specs.Program.{number_named}
use Rattle.vbtf.proofs.Layouts.{no_entry, next_entry, next_readable, section_kept}
use Rattle.vbtf.proofs.program.read_sections.Goals as goal

pub loop-entry-preserved : goal.loop-entry-preserved
loop-entry-preserved c = record {
  numbers = λ name.
      let i : ℕ = c.loop-entry.entry-index in
      let key : List ℕ = string_bytes c.in_ok-to_string.field-0 in
      let size : ℕ = (slice_index_or c.args.entries.now i no_entry).number in
      let section : SectionIndex × ℕ = (record { 0 = 0 }, size) in
      let rest = number_named c.args.names.now (take i c.args.entries.now) name in
      let updated = hash_map_updates_text key c.loop-entry.map c.insert.new.self (Some section) c.in_ok-insert.ensures.updates name in
      ap (λ (o : Option (SectionIndex × ℕ)). option_map (λ (s : SectionIndex × ℕ). s.1) o) updated
      ∙ section_kept (bytes_eq key name) section (get_by_text c.loop-entry.map name) rest (c.loop-entry.invariant.numbers name)
      ∙ ap (λ (k : List ℕ). if bytes_eq k name then Some size else rest) (c.in_ok-to_string.ensures.ok ∙ c.in-Some.ensures.some.0)
      ∙ sym (next_entry c.args.names.now c.args.entries.now i name c.loop-entry-test.true);
  readable = next_readable c.args.names.now c.args.entries.now c.loop-entry.entry-index c.loop-entry.invariant.readable c.in-Some.ensures.some.1 c.loop-entry-test.true;
}
