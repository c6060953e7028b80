-- Worked examples of the definitions, computed.
use Rattle.std.specs.Prelude.{◌≡◌, ℕ, Bool, List, [], ◌∷◌, map, Some, None, codes, refl, replicate, true, false}
use lib.Utf8.{encode}
use Rattle.std.specs.Str.{is_utf8, chars}
use Rattle.btf_elf_model.specs.declared.symbol.Symbol.{Symbol}
use Rattle.btf_rewrite_model.specs.declared.feature.FeatureAnswer.{FeatureAnswer}
use Rattle.btf_object_model.specs.Layout.{last_named, is_read_symbol}
use Rattle.btf_rewrite_model.specs.FeatureSet.{answers_of}
use Rattle.btf_object_model.specs.Kernel.{version, is_up_to, has_by_version}

-- names and numbers; two numbers have the same name
numbers : List (List ℕ × ℕ)
numbers = (codes ".data", 8) ∷ (codes ".bss", 4) ∷ (codes ".data", 16) ∷ []

-- if several have the same name, the last counts
last_of_a_name :
    (last_named (λ (n : List ℕ × ℕ). n.0) (λ (n : List ℕ × ℕ). n.1) numbers (codes ".data") ≡ Some 16)
    × (last_named (λ (n : List ℕ × ℕ). n.0) (λ (n : List ℕ × ℕ). n.1) numbers (codes ".rodata") ≡ None)
unfolding numbers is_utf8 chars encode
last_of_a_name = (refl, refl)

-- a symbol of a binding and a type
symbol_with : ℕ → ℕ → Symbol
symbol_with binding kind =
    record { name = 1; binding = binding; kind = kind; other = 0; section = 0; value = 0; size = 0 }

-- a local symbol of no type and a local variable; an undefined global symbol of no type and a weak function
symbols_that_are_read :
    (is_read_symbol (symbol_with 0 0) ≡ false) × (is_read_symbol (symbol_with 0 1) ≡ true) × (is_read_symbol (symbol_with 1 0) ≡ true)
    × (is_read_symbol (symbol_with 2 2) ≡ true)
unfolding symbol_with
symbols_that_are_read = (refl, refl, refl, refl)

-- versions are compared by their numbers, not as texts
order_of_versions :
    (is_up_to (version 5 9) (version 5 10) ≡ true) × (is_up_to (version 5 10) (version 5 9) ≡ false)
    × (is_up_to (version 5 17) (version 6 0) ≡ true)
order_of_versions = (refl, refl, refl)

-- what kernels of four versions have, in the order of the features' numbers
granted_by : ℕ → ℕ → List Bool
granted_by major minor =
    map (λ (a : FeatureAnswer). a.granted) (answers_of (has_by_version (version major minor)))

kernels :
    (granted_by 4 18 ≡ replicate 8 false)
    × (granted_by 5 4 ≡ true ∷ false ∷ true ∷ false ∷ false ∷ false ∷ false ∷ false ∷ [])
    × (granted_by 5 15 ≡ true ∷ true ∷ true ∷ true ∷ true ∷ false ∷ false ∷ false ∷ [])
    × (granted_by 6 0 ≡ replicate 8 true)
unfolding granted_by
kernels = (refl, refl, refl, refl)
