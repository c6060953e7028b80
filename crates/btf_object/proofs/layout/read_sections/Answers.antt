use Rattle.std.proofs.Common.{ℕ, ◌<◌, List, length, Option, Some, take, sym, ap, ◌∙◌, arith}
use Rattle.std.specs.Prelude.{if◌then◌else◌, option_map, string_bytes}
use Rattle.std.specs.HashMap.{get_by_text, hasher_of}
use Rattle.std.specs.Str.{bytes_eq}
use Rattle.std.proofs.lemmas.Map.Text.{hash_map_updates_text}
use Rattle.btf_elf_model.specs.Object.{section_name}
use Rattle.btf_elf_model.specs.declared.section_header.SectionHeader.{SectionHeader}
use Rattle.btf_object_model.specs.Layout.{last_named}
use Rattle.btf_table.specs.Layout.{sizes_of}
use Rattle.btf_plain.specs.declared.section_index.SectionIndex.{SectionIndex}
use Rattle.btf_object.specs.Names.{name_indices}
use Rattle.btf_object.proofs.Named.{section_push, section_pass, section_kept, indexed, last_indexed, index_push, index_pass, index_kept}
use Rattle.btf_object.proofs.layout.read_sections.Goals as goal
use Rattle.btf_object.proofs.layout.read_sections.Goals.{in-Some+in_ok-to_string+in_ok-insert, in_default}

pub loop-index-preserved : goal.loop-index-preserved
loop-index-preserved g c = (
  λ name.
      let i : ℕ = c.loop-index.index in
      let o = c.args.object.now in
      let rest : Option ℕ = last_named (section_name o) (λ (t : SectionHeader). t.size) (take i o.sections) name in
      let above : Option ℕ = last_indexed o (indexed o i) name in
      elim c.match-read_section.branch [
        | in-Some+in_ok-to_string+in_ok-insert w ↦
            let key : List ℕ = string_bytes w.in_ok-to_string.field-0 in
            let section : SectionIndex × ℕ = (record { 0 = i }, w.in-Some.size) in
            let updated = hash_map_updates_text key c.loop-index.map w.insert.new.self (Some section) w.in_ok-insert.ensures.updates name in (
              ap (λ m. sizes_of m name) w.map-is ∙ ap (λ (o : Option (SectionIndex × ℕ)). option_map (λ (t : SectionIndex × ℕ). t.1) o) updated
                  ∙ section_kept (bytes_eq key name) section (get_by_text c.loop-index.map name) rest (c.loop-index.invariant.0 name).0
                  ∙ ap (λ (k : List ℕ). if bytes_eq k name then Some w.in-Some.size else rest) w.in_ok-to_string.ensures.ok
                  ∙ sym (section_push o i w.in-Some.name.now w.in-Some.size name w.in-Some.ensures.some),
              ap (λ m. name_indices m name) w.map-is ∙ ap (λ (o : Option (SectionIndex × ℕ)). option_map (λ (t : SectionIndex × ℕ). t.0.0) o) updated
                  ∙ index_kept (bytes_eq key name) section (get_by_text c.loop-index.map name) above (c.loop-index.invariant.0 name).1
                  ∙ ap (λ (k : List ℕ). if bytes_eq k name then Some i else above) w.in_ok-to_string.ensures.ok
                  ∙ sym (index_push o i w.in-Some.name.now w.in-Some.size name w.in-Some.ensures.some),
            )
        | in_default w ↦
            let lt : i < length o.sections = omega (arith, c.loop-index-test.true, ap (λ (ss : List SectionHeader). length ss) c.sections-index-end.ensures) in (
              ap (λ m. sizes_of m name) w.map-is ∙ (c.loop-index.invariant.0 name).0 ∙ sym (section_pass o i name lt w.in_default.ensures.none),
              ap (λ m. name_indices m name) w.map-is ∙ (c.loop-index.invariant.0 name).1 ∙ sym (index_pass o i name lt w.in_default.ensures.none),
            )
      ],
  elim c.match-read_section.branch [
    | in-Some+in_ok-to_string+in_ok-insert w ↦ ap (λ m. hasher_of m) w.map-is ∙ w.insert.ensures.hasher ∙ c.loop-index.invariant.1
    | in_default w ↦ ap (λ m. hasher_of m) w.map-is ∙ c.loop-index.invariant.1
  ],
)
