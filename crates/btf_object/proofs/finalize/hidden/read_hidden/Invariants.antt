use Rattle.std.proofs.Common.{◌≡◌, ℕ, List, take}
use Rattle.std.specs.HashMap.{get_by_text}
use Rattle.std.specs.List.{filter}
use Rattle.btf_elf_model.specs.Object.{symbols, symbol_name}
use Rattle.btf_elf_model.specs.declared.symbol.Symbol.{Symbol}
use Rattle.btf_object_model.specs.Hidden.{is_hidden_symbol}
use Rattle.btf_object_model.specs.Layout.{last_named}
use Rattle.btf_object.proofs.finalize.hidden.read_hidden.Given as goal

abbrev pub invariant-loop-index : goal.invariant-loop-index
invariant-loop-index g l = (name : List ℕ) → get_by_text l.map name ≡ last_named (symbol_name l.object) (λ (s : Symbol). s.kind) (filter (is_hidden_symbol l.text) (take l.index (symbols l.object))) name
