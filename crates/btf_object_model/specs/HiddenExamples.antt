-- Worked examples of hidden functions and variables, computed.
use Rattle.std.specs.Prelude.{◌≡◌, ℕ, ◌*◌, ◌^◌, true, false, [], ◌∷◌, codes, Some, None, refl}
use Rattle.bstr.specs.Utf8.{pieces_from}
use Rattle.std.specs.Str.{is_utf8, chars}
use lib.Utf8.{encode}
use Rattle.btf_elf_model.specs.declared.symbol.Symbol.{Symbol}
use Rattle.btf_model.specs.Made.{func}
use Rattle.btf_model.specs.Record.{Record}
use Rattle.btf_model.specs.Table.{Table}
use Rattle.btf_rewrite_model.specs.Made.{c_int}
use Rattle.btf_rewrite_model.specs.RewriteExamples.{only, named_table}
use Rattle.btf_object_model.specs.Hidden.{is_hidden_symbol, with_hidden_static}

-- a symbol of a binding, a type and a visibility, in section 2
symbol_with : ℕ → ℕ → ℕ → Symbol
symbol_with binding kind other =
    record { name = 1; binding = binding; kind = kind; other = other; section = 2; value = 0; size = 0 }

-- a global variable and a weak function of `.text` that are hidden, and an internal variable
hidden_symbols :
    (is_hidden_symbol (Some 2) (symbol_with 1 1 2) ≡ true) × (is_hidden_symbol (Some 2) (symbol_with 2 2 2) ≡ true)
    × (is_hidden_symbol (Some 2) (symbol_with 1 1 1) ≡ true)
unfolding symbol_with
hidden_symbols = (refl, refl, refl)

-- a default and a protected variable, a local one, a symbol of no type, and functions outside `.text`
other_symbols :
    (is_hidden_symbol (Some 2) (symbol_with 1 1 0) ≡ false) × (is_hidden_symbol (Some 2) (symbol_with 1 1 3) ≡ false)
    × (is_hidden_symbol (Some 2) (symbol_with 0 1 2) ≡ false) × (is_hidden_symbol (Some 2) (symbol_with 1 0 2) ≡ false)
    × (is_hidden_symbol (Some 3) (symbol_with 1 2 2) ≡ false) × (is_hidden_symbol None (symbol_with 1 2 2) ≡ false)
unfolding symbol_with
other_symbols = (refl, refl, refl, refl, refl, refl)

-- a VAR of the type of id 1
var : ℕ → ℕ → Record
var name linkage = record { name = name; info = 14 * 2 ^ 24; third = 1; tail = linkage ∷ [] }

-- "f" at 1 and "v" at 3: INT 1, a Global and an Extern FUNC, and a Global and an Extern VAR
table : Table
table = named_table (codes "f" ∷ codes "v" ∷ []) (c_int 0 ∷ func 1 1 1 ∷ func 1 1 2 ∷ var 3 1 ∷ var 3 2 ∷ [])

-- a hidden function named "f": its Global FUNC becomes Static
hidden_function :
    with_hidden_static (only (codes "f") 2) table
    ≡ named_table (codes "f" ∷ codes "v" ∷ []) (c_int 0 ∷ func 1 1 0 ∷ func 1 1 2 ∷ var 3 1 ∷ var 3 2 ∷ [])
unfolding table var is_utf8 chars pieces_from encode
hidden_function = refl

-- a hidden variable named "v": its Global VAR becomes Static
hidden_variable :
    with_hidden_static (only (codes "v") 1) table
    ≡ named_table (codes "f" ∷ codes "v" ∷ []) (c_int 0 ∷ func 1 1 1 ∷ func 1 1 2 ∷ var 3 0 ∷ var 3 2 ∷ [])
unfolding table var is_utf8 chars pieces_from encode
hidden_variable = refl

-- a hidden variable named "f" is not the FUNC of this name
other_type : with_hidden_static (only (codes "f") 1) table ≡ table
unfolding table var is_utf8 chars pieces_from encode
other_type = refl
