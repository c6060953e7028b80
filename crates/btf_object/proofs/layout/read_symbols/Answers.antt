use Rattle.std.proofs.Common.{ℕ, ◌<◌, List, length, Option, Some, take, sym, ap, ◌∙◌, arith}
use Rattle.std.specs.Prelude.{if◌then◌else◌, string_bytes}
use Rattle.std.specs.HashMap.{get_by_text, hasher_of}
use Rattle.std.specs.List.{filter}
use Rattle.std.specs.Str.{bytes_eq}
use Rattle.std.proofs.lemmas.Map.Text.{hash_map_updates_text}
use Rattle.btf_elf_model.specs.Object.{symbols, symbol_name}
use Rattle.btf_elf_model.specs.declared.symbol.Symbol.{Symbol}
use Rattle.btf_object_model.specs.Layout.{last_named, is_read_symbol}
use Rattle.btf_table.specs.Layout.{offsets_of}
use Rattle.btf_object.proofs.Named.{symbol_push, symbol_pass, symbol_kept}
use Rattle.btf_object.proofs.layout.read_symbols.Goals as goal
use Rattle.btf_object.proofs.layout.read_symbols.Goals.{in-Some+in_ok-to_string+in_ok-insert, in_default}

pub loop-index-preserved : goal.loop-index-preserved
loop-index-preserved g c = (
  λ name.
      let i : ℕ = c.loop-index.index in
      let o = c.args.object.now in
      let value = λ (t : Symbol). t.value in
      let rest : Option ℕ = last_named (symbol_name o) value (filter is_read_symbol (take i (symbols o))) name in
      elim c.match-read_symbol.branch [
        | in-Some+in_ok-to_string+in_ok-insert w ↦
            let key : List ℕ = string_bytes w.in_ok-to_string.field-0 in
            let updated = hash_map_updates_text key c.loop-index.map w.insert.new.self (Some w.in-Some.value) w.in_ok-insert.ensures.updates name in
            ap (λ m. offsets_of m name) w.map-is ∙ updated
            ∙ symbol_kept (bytes_eq key name) w.in-Some.value (get_by_text c.loop-index.map name) rest (c.loop-index.invariant.0 name)
            ∙ ap (λ (k : List ℕ). if bytes_eq k name then Some w.in-Some.value else rest) w.in_ok-to_string.ensures.ok
            ∙ sym (symbol_push is_read_symbol value o i w.in-Some.name.now w.in-Some.value name w.in-Some.ensures.some)
        | in_default w ↦
            let lt : i < length (symbols o) = omega (arith, c.loop-index-test.true, c.symbol_count-index-end.ensures) in
            ap (λ m. offsets_of m name) w.map-is ∙ c.loop-index.invariant.0 name ∙ sym (symbol_pass is_read_symbol value o i name lt w.in_default.ensures.none)
      ],
  elim c.match-read_symbol.branch [
    | in-Some+in_ok-to_string+in_ok-insert w ↦ ap (λ m. hasher_of m) w.map-is ∙ w.insert.ensures.hasher ∙ c.loop-index.invariant.1
    | in_default w ↦ ap (λ m. hasher_of m) w.map-is ∙ c.loop-index.invariant.1
  ],
)
