-- Worked examples of the definitions, computed.
use Rattle.std.specs.Prelude.{◌≡◌, ℕ, Bool, true, false, List, [], ◌∷◌, Some, None, refl}
use Rattle.btf_model.specs.Made.{int, ptr, array, struct, union, enum, fwd, typedef, volatile, const, restrict, func_proto}
use Rattle.btf_model.specs.Record.{Record, unknown}
use Rattle.btf_order_model.specs.Order.{value_types_in, is_declared, may_be_declared}
use Rattle.btf_order_model.specs.Uses.{Use, uses_in, counted}
use Rattle.btf_order_model.specs.Loops.{is_function}

-- A table: 1 is an INT, 2 is `struct a { struct b x[2]; struct a *y; }`, 3 an ARRAY of 4, 4 is `struct b { int x; }`,
-- 5 a PTR to 2, 6 is `typedef struct b c`, 7 a CONST of 6, 8 a VOLATILE of 7, 9 a RESTRICT of 5, 10 a prototype that
-- returns 4, 11 a UNION of 4 without a name, 12 an ENUM with a name, 13 a FWD, 14 a STRUCT without a name.
abbrev pub types : List Record
types =
    unknown ∷ int 1 4 32 ∷ struct 1 16 2 (0 ∷ 3 ∷ 0 ∷ 0 ∷ 5 ∷ 64 ∷ []) ∷ array 0 4 1 2 ∷ struct 1 4 1 (0 ∷ 1 ∷ 0 ∷ [])
    ∷ ptr 0 2 ∷ typedef 1 4 ∷ const 6 ∷ volatile 7 ∷ restrict 5 ∷ func_proto 4 0 [] ∷ union 0 4 1 (0 ∷ 4 ∷ 0 ∷ [])
    ∷ enum 1 0 [] ∷ fwd 1 false ∷ struct 0 0 0 [] ∷ []

-- members, elements, and what a typedef and modifiers are for
by_value : (value_types_in types 2 ≡ 3 ∷ 5 ∷ []) × (value_types_in types 3 ≡ 4 ∷ []) × (value_types_in types 6 ≡ 4 ∷ []) × (value_types_in types 7 ≡ 6 ∷ []) × (value_types_in types 8 ≡ 7 ∷ []) × (value_types_in types 9 ≡ 5 ∷ []) × (value_types_in types 11 ≡ 4 ∷ [])
by_value = (refl, refl, refl, refl, refl, refl, refl)

-- an INT, a PTR and a prototype have nothing by value, nor has an id without a type
nothing : (value_types_in types 1 ≡ []) × (value_types_in types 5 ≡ []) × (value_types_in types 10 ≡ []) × (value_types_in types 99 ≡ [])
nothing = (refl, refl, refl, refl)

declared : (is_declared types 2 ≡ true) × (is_declared types 4 ≡ true) × (is_declared types 6 ≡ true) × (is_declared types 12 ≡ true) × (is_declared types 13 ≡ true)
declared = (refl, refl, refl, refl, refl)

-- a type without a name is written where it is used; the other kinds are written without a declaration
not_declared : (is_declared types 0 ≡ false) × (is_declared types 1 ≡ false) × (is_declared types 5 ≡ false) × (is_declared types 7 ≡ false) × (is_declared types 10 ≡ false) × (is_declared types 11 ≡ false) × (is_declared types 14 ≡ false) × (is_declared types 99 ≡ false)
not_declared = (refl, refl, refl, refl, refl, refl, refl, refl)

-- an ENUM without a name may be declared alone, a STRUCT without a name may not
may_be_alone : (may_be_declared (enum 0 0 [] ∷ struct 0 0 0 [] ∷ int 1 4 32 ∷ []) 0 ≡ true) × (may_be_declared (enum 0 0 [] ∷ struct 0 0 0 [] ∷ int 1 4 32 ∷ []) 1 ≡ false) × (may_be_declared (enum 0 0 [] ∷ struct 0 0 0 [] ∷ int 1 4 32 ∷ []) 2 ≡ false)
may_be_alone = (refl, refl, refl)

-- ---- uses

abbrev pub by : ℕ → Bool → Use
by id behind = record { type = id; behind_pointer = behind }

-- members and elements by value, what is behind a pointer, and what a modifier and a prototype pass on
uses : (uses_in types (by 2 false) ≡ by 3 false ∷ by 5 false ∷ []) × (uses_in types (by 3 true) ≡ by 4 false ∷ []) × (uses_in types (by 5 false) ≡ by 2 true ∷ []) × (uses_in types (by 7 true) ≡ by 6 true ∷ []) × (uses_in types (by 10 true) ≡ by 4 true ∷ []) × (uses_in types (by 1 false) ≡ [])
uses = (refl, refl, refl, refl, refl, refl)

-- a prototype uses the type that it returns, and those of its parameters
prototype_uses : uses_in (func_proto 1 1 (0 ∷ 2 ∷ []) ∷ []) (by 0 true) ≡ by 1 true ∷ by 2 true ∷ []
prototype_uses = refl

-- Behind a pointer a STRUCT with a name does not count, a UNION without a name counts as by value, and a typedef as it is.
counts : (counted types (by 2 true) ≡ None) × (counted types (by 2 false) ≡ Some (by 2 false)) × (counted types (by 11 true) ≡ Some (by 11 false)) × (counted types (by 6 true) ≡ Some (by 6 true)) × (counted types (by 1 true) ≡ Some (by 1 false)) × (counted types (by 99 false) ≡ None)
counts = (refl, refl, refl, refl, refl, refl)

-- Of the types of the table only the prototype is a function, unless it is behind a pointer.
functions : (is_function types (by 10 false) ≡ true) × (is_function types (by 10 true) ≡ false) × (is_function types (by 5 false) ≡ false) × (is_function types (by 99 false) ≡ false)
functions = (refl, refl, refl, refl)
