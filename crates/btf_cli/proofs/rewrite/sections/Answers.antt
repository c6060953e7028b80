use Rattle.std.proofs.Common.{ℕ, List, Option, Some, take, sym, ap, ◌∙◌}
use Rattle.std.specs.Prelude.{if◌then◌else◌, option_map, string_bytes}
use Rattle.std.specs.HashMap.{get_by_text}
use Rattle.std.specs.Str.{bytes_eq}
use Rattle.std.proofs.lemmas.Map.Text.{hash_map_updates_text}
use Rattle.btf_plain.specs.declared.section_index.SectionIndex.{SectionIndex}
use Rattle.btf_table.specs.Layout.{sizes_of}
use Rattle.btf_cli.specs.Settings.{last_set, size_set}
use Rattle.btf_cli.proofs.Layouts.{next_set, settings_whole, no_section, one_section, section_kept}
use Rattle.btf_cli.proofs.rewrite.sections.Goals as goal
use Rattle.btf_cli.proofs.rewrite.sections.Goals.{in-Some+in_ok-to_string+in_ok-insert, in_default}

pub loop-word-preserved : goal.loop-word-preserved
loop-word-preserved c = λ settings all name.
    let i : ℕ = c.loop-word.word-index in
    let next = next_set c.args.words.now settings i c.word-item.result c.as_str.result.now all c.loop-word-test.true c.word-item.is c.as_str.ensures.value in
    let before = c.loop-word.invariant settings all name in
    elim c.match-read_section.branch [
      | in-Some+in_ok-to_string+in_ok-insert w ↦
          let key : List ℕ = string_bytes w.in_ok-to_string.field-0 in
          let section : SectionIndex × ℕ = (record { 0 = 0 }, w.in-Some.size) in
          let updated = hash_map_updates_text key c.loop-word.sections w.insert.new.self (Some section) w.in_ok-insert.ensures.updates name in
          ap (λ m. sizes_of m name) w.sections-is ∙ ap (λ (o : Option (SectionIndex × ℕ)). option_map (λ (s : SectionIndex × ℕ). s.1) o) updated
          ∙ section_kept (bytes_eq key name) section (get_by_text c.loop-word.sections name) (last_set (size_set name) (take i settings)) before
          ∙ ap (λ (k : List ℕ). if bytes_eq k name then Some w.in-Some.size else last_set (size_set name) (take i settings)) w.in_ok-to_string.ensures.ok
          ∙ sym (one_section c.as_str.result.now settings i w.in-Some.name.now w.in-Some.size name next w.in-Some.ensures.some)
      | in_default w ↦ ap (λ m. sizes_of m name) w.sections-is ∙ before ∙ sym (no_section c.as_str.result.now settings i name next w.in_default.ensures.none)
    ]

pub returns : goal.returns
returns c = λ settings all name. c.loop-word.invariant settings all name ∙ ap (last_set (size_set name)) (settings_whole c.args.words.now settings c.loop-word.word-index all c.loop-word-test.false)
