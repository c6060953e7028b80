use Rattle.std.proofs.Common.{◌≡◌, ℕ, List, take}
use Rattle.std.specs.HashMap.{hasher_of}
use Rattle.std.specs.List.{filter}
use Rattle.btf_elf_model.specs.Object.{symbols, symbol_name}
use Rattle.btf_elf_model.specs.declared.symbol.Symbol.{Symbol}
use Rattle.btf_object_model.specs.Layout.{last_named, is_read_symbol}
use Rattle.btf_table.specs.Layout.{offsets_of}
use Rattle.btf_object.proofs.layout.read_symbols.Given as goal

abbrev pub invariant-loop-index : goal.invariant-loop-index
invariant-loop-index g l =
    ((name : List ℕ) → offsets_of l.map name ≡ last_named (symbol_name l.object) (λ (s : Symbol). s.value) (filter is_read_symbol (take l.index (symbols l.object))) name)
    × (hasher_of l.map ≡ l.fn.hash_builder)
