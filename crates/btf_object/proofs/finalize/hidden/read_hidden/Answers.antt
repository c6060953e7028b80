use Rattle.std.proofs.Common.{ℕ, ◌<◌, Bool, List, length, Option, Some, take, sym, ap, ◌∙◌, arith}
use Rattle.std.specs.Prelude.{if◌then◌else◌, string_bytes}
use Rattle.std.specs.HashMap.{get_by_text}
use Rattle.std.specs.List.{filter}
use Rattle.std.specs.Str.{bytes_eq}
use Rattle.std.proofs.lemmas.Map.Text.{hash_map_updates_text}
use Rattle.btf_elf_model.specs.Object.{symbols, symbol_name}
use Rattle.btf_elf_model.specs.declared.symbol.Symbol.{Symbol}
use Rattle.btf_object_model.specs.Hidden.{is_hidden_symbol}
use Rattle.btf_object_model.specs.Layout.{last_named}
use Rattle.btf_object.proofs.Named.{symbol_push, symbol_pass, symbol_kept}
use Rattle.btf_object.proofs.finalize.hidden.read_hidden.Goals as goal
use Rattle.btf_object.proofs.finalize.hidden.read_hidden.Goals.{in-Some+in_ok-to_string+in_ok-insert, in_default}

pub loop-index-preserved : goal.loop-index-preserved
loop-index-preserved g c = λ name.
    let i : ℕ = c.loop-index.index in
    let o = c.args.object.now in
    let kind = λ (t : Symbol). t.kind in
    let wants : Symbol → Bool = is_hidden_symbol c.args.text in
    let rest : Option ℕ = last_named (symbol_name o) kind (filter wants (take i (symbols o))) name in
    elim c.match-hidden_symbol.branch [
      | in-Some+in_ok-to_string+in_ok-insert w ↦
          let key : List ℕ = string_bytes w.in_ok-to_string.field-0 in
          let updated = hash_map_updates_text key c.loop-index.map w.insert.new.self (Some w.in-Some.kind) w.in_ok-insert.ensures.updates name in
          ap (λ m. get_by_text m name) w.map-is ∙ updated
          ∙ symbol_kept (bytes_eq key name) w.in-Some.kind (get_by_text c.loop-index.map name) rest (c.loop-index.invariant name)
          ∙ ap (λ (k : List ℕ). if bytes_eq k name then Some w.in-Some.kind else rest) w.in_ok-to_string.ensures.ok
          ∙ sym (symbol_push wants kind o i w.in-Some.name.now w.in-Some.kind name w.in-Some.ensures.some)
      | in_default w ↦
          let lt : i < length (symbols o) = omega (arith, c.loop-index-test.true, c.symbol_count-index-end.ensures) in
          ap (λ m. get_by_text m name) w.map-is ∙ c.loop-index.invariant name ∙ sym (symbol_pass wants kind o i name lt w.in_default.ensures.none)
    ]
