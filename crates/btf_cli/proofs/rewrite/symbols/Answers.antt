use Rattle.std.proofs.Common.{ℕ, List, Some, take, sym, ap, ◌∙◌}
use Rattle.std.specs.Prelude.{if◌then◌else◌, string_bytes}
use Rattle.std.specs.HashMap.{get_by_text}
use Rattle.std.specs.Str.{bytes_eq}
use Rattle.std.proofs.lemmas.Map.Text.{hash_map_updates_text}
use Rattle.btf_table.specs.Layout.{offsets_of}
use Rattle.btf_cli.specs.Settings.{last_set, offset_set}
use Rattle.btf_cli.proofs.Layouts.{next_set, settings_whole, no_symbol, one_symbol, symbol_kept}
use Rattle.btf_cli.proofs.rewrite.symbols.Goals as goal
use Rattle.btf_cli.proofs.rewrite.symbols.Goals.{in-Some+in_ok-to_string+in_ok-insert, in_default}

pub loop-word-preserved : goal.loop-word-preserved
loop-word-preserved c = λ settings all name.
    let i : ℕ = c.loop-word.word-index in
    let next = next_set c.args.words.now settings i c.word-item.result c.as_str.result.now all c.loop-word-test.true c.word-item.is c.as_str.ensures.value in
    let before = c.loop-word.invariant settings all name in
    elim c.match-read_symbol.branch [
      | in-Some+in_ok-to_string+in_ok-insert w ↦
          let key : List ℕ = string_bytes w.in_ok-to_string.field-0 in
          let updated = hash_map_updates_text key c.loop-word.symbols w.insert.new.self (Some w.in-Some.offset) w.in_ok-insert.ensures.updates name in
          ap (λ m. offsets_of m name) w.symbols-is ∙ updated ∙ symbol_kept (bytes_eq key name) w.in-Some.offset (get_by_text c.loop-word.symbols name) (last_set (offset_set name) (take i settings)) before
          ∙ ap (λ (k : List ℕ). if bytes_eq k name then Some w.in-Some.offset else last_set (offset_set name) (take i settings)) w.in_ok-to_string.ensures.ok
          ∙ sym (one_symbol c.as_str.result.now settings i w.in-Some.name.now w.in-Some.offset name next w.in-Some.ensures.some)
      | in_default w ↦ ap (λ m. offsets_of m name) w.symbols-is ∙ before ∙ sym (no_symbol c.as_str.result.now settings i name next w.in_default.ensures.none)
    ]

pub returns : goal.returns
returns c = λ settings all name. c.loop-word.invariant settings all name ∙ ap (last_set (offset_set name)) (settings_whole c.args.words.now settings c.loop-word.word-index all c.loop-word-test.false)
