-- Worked examples of comparisons of types, computed.
use Rattle.std.specs.Prelude.{◌≡◌, ℕ, ◌+◌, ◌*◌, ◌^◌, true, false, List, [], ◌∷◌, ◌++◌, codes, replicate, Ok, Err, refl}
use Rattle.btf_model.specs.Record.{Record, unknown}
use Rattle.btf_model.specs.Table.{Table}
use Rattle.btf_model.specs.declared.endianness.Endianness.TheVariants.{Little}
use Rattle.btf_relocate_model.specs.Comparison.{Comparison, EachMember, compared, few_members, types_alike, walked}
use Rattle.btf_relocate_model.specs.Field.{Member}
use Rattle.btf_relocate_model.specs.Types.{walk}
use Rattle.btf_relocate_model.specs.declared.comparison.Rule.{Rule}
use Rattle.btf_relocate_model.specs.declared.comparison.Rule.TheVariants.{Compatible, Matches}
use Rattle.btf_relocate_model.specs.declared.error.RelocationError.TheVariants.{MaximumTypeDepthReached, TooManyMembers, UnknownBtfType}

-- `int` at 1, `s` at 5, `a` at 7, `b` at 9, `u` at 11, `s___old` at 13
texts : List ℕ
texts =
    (0 ∷ []) ++ codes "int" ++ (0 ∷ []) ++ codes "s" ++ (0 ∷ []) ++ codes "a" ++ (0 ∷ []) ++ codes "b" ++ (0 ∷ [])
    ++ codes "u" ++ (0 ∷ []) ++ codes "s___old" ++ (0 ∷ [])

of_kind : ℕ → ℕ → ℕ → ℕ → List ℕ → Record
of_kind kind name count third words =
    record { name = name; info = kind * 2 ^ 24 + count; third = third; tail = words }

table : List Record → Table
table records = record {
  order = Little;
  magic = 0xeb9f;
  version = 1;
  flags = 0;
  strings = texts;
  records = unknown ∷ records;
  fallbacks = [];
}

-- `int`, `struct s { int a; }`, `struct s *`, `struct u { struct u b; }`, and the prototypes `int (int)` and
-- `int (struct s)`
local : Table
local =
    table (of_kind 1 1 0 4 ((1 * 2 ^ 24 + 32) ∷ []) ∷ of_kind 4 5 1 4 (7 ∷ 1 ∷ 0 ∷ []) ∷ of_kind 2 0 0 2 []
    ∷ of_kind 4 11 1 4 (9 ∷ 4 ∷ 0 ∷ []) ∷ of_kind 13 0 1 1 (0 ∷ 1 ∷ []) ∷ of_kind 13 0 1 1 (0 ∷ 2 ∷ []) ∷ [])

-- `int`, `struct s___old { struct u a; int b; int a; }`, `struct s *` of a declared `struct s`,
-- `struct u { struct u b; }`, and the prototype `int (int)`
target : Table
target =
    table (of_kind 1 1 0 4 ((1 * 2 ^ 24 + 32) ∷ []) ∷ of_kind 4 13 3 12 (7 ∷ 4 ∷ 0 ∷ 9 ∷ 1 ∷ 32 ∷ 7 ∷ 1 ∷ 64 ∷ [])
    ∷ of_kind 2 0 0 6 [] ∷ of_kind 4 11 1 4 (9 ∷ 4 ∷ 0 ∷ []) ∷ of_kind 13 0 1 1 (0 ∷ 1 ∷ [])
    ∷ of_kind 7 5 0 0 [] ∷ [])

by : Rule → Comparison
by rule = record { rule = rule; local = local; target = target }

-- The rule `Compatible` compares kinds, and the types of parameters, in order. A type that is unknown is an error.
kinds_compared :
    (types_alike (by Compatible) 2 2 ≡ Ok true) × (types_alike (by Compatible) 2 1 ≡ Ok false)
    × (types_alike (by Compatible) 3 3 ≡ Ok false) × (types_alike (by Compatible) 5 5 ≡ Ok true)
    × (types_alike (by Compatible) 6 5 ≡ Ok false) × (types_alike (by Compatible) 9 1 ≡ Err (UnknownBtfType 9))
unfolding by local target table of_kind texts walk compared walked
kinds_compared = (refl, refl, refl, refl, refl, refl)

-- By the rule `Matches` the second member `a` of `s___old` matches, and the declared `struct s` behind a pointer. The
-- other names differ, and a STRUCT in itself is refused.
definitions_compared :
    (types_alike (by Matches) 2 2 ≡ Ok true) × (types_alike (by Matches) 3 3 ≡ Ok true)
    × (types_alike (by Matches) 2 4 ≡ Ok false) × (types_alike (by Matches) 2 6 ≡ Ok false)
    × (types_alike (by Matches) 4 4 ≡ Err (MaximumTypeDepthReached 4))
unfolding by local target table of_kind texts walk compared walked
definitions_compared = (refl, refl, refl, refl, refl)

-- members without a name: 1,024 times 1,024 of them, and 1,024 times 1,025
members : ℕ → List Member
members count = replicate count (record { name = 0; type = 1; offset = 0 })

limits :
    (few_members (EachMember (members 1024) (members 1024)) ≡ Ok (EachMember (members 1024) (members 1024)))
    × (few_members (EachMember (members 1024) (members 1025)) ≡ Err TooManyMembers)
unfolding members
limits = (refl, refl)
