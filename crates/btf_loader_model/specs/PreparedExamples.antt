-- Why the code is relocated before the table is rewritten, by a worked example: a record asks for the value of `a` of
-- the ENUM64 `e`, and the kernel has no ENUM64s.
use Rattle.std.specs.Prelude.{◌≡◌, ℕ, ◌+◌, ◌*◌, ◌^◌, Bool, false, if◌then◌else◌, List, [], ◌∷◌, ◌++◌, codes, Result, Ok, Err, refl}
use Rattle.std.proofs.Common.{ap}
use Rattle.btf_model.specs.Record.{Record, unknown, kind_of}
use Rattle.btf_model.specs.Table.{Table}
use Rattle.btf_model.specs.declared.endianness.Endianness.TheVariants.{Little}
use Rattle.btf_relocate_model.specs.Candidates.{candidates}
use Rattle.btf_relocate_model.specs.Resolution.{TablePair, resolution}
use Rattle.btf_relocate_model.specs.Types.{walk}
use Rattle.btf_relocate_model.specs.declared.error.RelocationError.{RelocationError}
use Rattle.btf_relocate_model.specs.declared.error.RelocationError.TheVariants.{BadIndex}
use Rattle.btf_relocate_model.specs.declared.resolved.Resolved.{Resolved}
use Rattle.btf_rewrite_model.specs.Pass.{Pass, has}
use Rattle.btf_rewrite_model.specs.Rule.{becomes_by, member_type_id}
use Rattle.btf_rewrite_model.specs.declared.feature.BtfFeature.TheVariants as features

-- `e` at 1, `a` at 3, the access `0` at 5
texts : List ℕ
texts = (0 ∷ []) ++ codes "e" ++ (0 ∷ []) ++ codes "a" ++ (0 ∷ []) ++ codes "0" ++ (0 ∷ [])

-- an ENUM64 whose `a` has a value, and a UNION with a member `a` of a type
enum64 : ℕ → Record
enum64 value = record { name = 1; info = 19 * 2 ^ 24 + 1; third = 8; tail = 3 ∷ value ∷ 0 ∷ [] }

union : ℕ → Record
union type_id = record { name = 1; info = 5 * 2 ^ 24 + 1; third = 8; tail = 3 ∷ type_id ∷ 0 ∷ [] }

table : Record → Table
table r = record {
  order = Little;
  magic = 0xeb9f;
  version = 1;
  flags = 0;
  strings = texts;
  records = unknown ∷ r ∷ [];
  fallbacks = [];
}

-- the program's table, and the table of the kernel's types, in which `a` is 7
setting : Record → TablePair
setting r = record { local = table r; target = table (enum64 7) }

-- the value that a record asks for
value_of : Result (Resolved × List ℕ) RelocationError → Result ℕ RelocationError
value_of (Ok r) = Ok r.0.value
value_of (Err error) = Err error

-- the record of the value of enumerator 0 of type 1
value_of_enumerator : List ℕ
value_of_enumerator = 0 ∷ 1 ∷ 5 ∷ 11 ∷ []

-- With the table of the compiler, in which `a` is 5, the record gets the kernel's value.
before_the_rewrite :
    (candidates (table (enum64 7)) (codes "e") 19 ≡ 1 ∷ [])
    × (value_of (resolution (setting (enum64 5)) (1 ∷ []) value_of_enumerator) ≡ Ok 7)
unfolding texts enum64 table setting value_of value_of_enumerator walk
before_the_rewrite = (refl, refl)

-- The rewrite makes the ENUM64 a UNION, which has no enumerators.
after_the_rewrite :
    ((p : Pass) → has p features.Enum64 ≡ false
    → becomes_by p [] 1 (kind_of (enum64 5).info) (enum64 5) ≡ union (member_type_id p 1))
    × ((type_id : ℕ) → value_of (resolution (setting (union type_id)) (1 ∷ []) value_of_enumerator) ≡ Err BadIndex)
unfolding texts enum64 union table setting value_of value_of_enumerator walk
after_the_rewrite =
    (λ p none. ap (λ (b : Bool). if b then enum64 5 else union (member_type_id p 1)) none, λ type_id. refl)
