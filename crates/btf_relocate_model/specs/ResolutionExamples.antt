-- Worked examples of paths, searches, matches and results, computed. The program was compiled against
-- `struct s { int a; int b; }`; the target has `struct s { struct { int c; int b; }; int a; }`, and `struct s___old` with
-- an `int a`.
use Rattle.std.specs.Prelude.{◌≡◌, ℕ, ◌+◌, ◌*◌, ◌^◌, Bool, true, false, List, [], ◌∷◌, ◌++◌, codes, replicate, Some, None, Ok, Err, refl}
use Rattle.btf_model.specs.Record.{Record, unknown}
use Rattle.btf_model.specs.Table.{Table}
use Rattle.btf_model.specs.declared.endianness.Endianness.TheVariants.{Little}
use Rattle.btf_relocate_model.specs.Candidates.{candidates}
use Rattle.btf_relocate_model.specs.Compatible.{compatible_within}
use Rattle.btf_relocate_model.specs.Match.{match_path}
use Rattle.btf_relocate_model.specs.Path.{AtIndex, ToMember, path_of}
use Rattle.btf_relocate_model.specs.Resolution.{TablePair, resolution, table_answers}
use Rattle.btf_relocate_model.specs.Search.{search}
use Rattle.btf_relocate_model.specs.Types.{walk}
use Rattle.btf_relocate_model.specs.declared.error.RelocationError.TheVariants.{BadAccess, BadIndex, TooDeep, TooManyCandidates, UnknownBtfType, UnknownKind}
use Rattle.btf_relocate_model.specs.declared.field.Field.{Field}
use Rattle.btf_relocate_model.specs.declared.resolved.Resolved.{Resolved}

-- `int` at 1, `s` at 5, `a` at 7, `b` at 9, `c` at 11, the access `0:1` at 13, the access `0:2` at 17, `s___old` at 21
texts : List ℕ
texts =
    (0 ∷ []) ++ codes "int" ++ (0 ∷ []) ++ codes "s" ++ (0 ∷ []) ++ codes "a" ++ (0 ∷ []) ++ codes "b" ++ (0 ∷ [])
    ++ codes "c" ++ (0 ∷ []) ++ codes "0:1" ++ (0 ∷ []) ++ codes "0:2" ++ (0 ∷ []) ++ codes "s___old" ++ (0 ∷ [])

int : Record
int = record { name = 1; info = 1 * 2 ^ 24; third = 4; tail = (1 * 2 ^ 24 + 32) ∷ [] }

structure : ℕ → ℕ → ℕ → List ℕ → Record
structure name members size words = record { name = name; info = 4 * 2 ^ 24 + members; third = size; tail = words }

table : List Record → Table
table records = record {
  order = Little;
  magic = 0xeb9f;
  version = 1;
  flags = 0;
  strings = texts;
  records = unknown ∷ records;
  fallbacks = [];
}

local : Table
local = table (int ∷ structure 5 2 8 (7 ∷ 1 ∷ 0 ∷ 9 ∷ 1 ∷ 32 ∷ []) ∷ [])

target : Table
target = table (int ∷ structure 0 2 8 (11 ∷ 1 ∷ 0 ∷ 9 ∷ 1 ∷ 32 ∷ []) ∷ structure 5 2 12 (0 ∷ 2 ∷ 0 ∷ 7 ∷ 1 ∷ 64 ∷ [])
    ∷ structure 21 1 4 (7 ∷ 1 ∷ 0 ∷ []) ∷ [])

-- an `int` that is a member, at a bit
member_at : ℕ → Bool → Field
member_at bit is_last = record { type_id = 1; bit = bit; bits = 0; is_member = true; is_last = is_last }

paths :
    (path_of local 2 (0 ∷ 1 ∷ [])
    ≡ Ok (record { steps = AtIndex 0 ∷ ToMember (codes "b") 1 ∷ []; field = member_at 32 true }))
    × (path_of local 2 (0 ∷ 2 ∷ []) ≡ Err BadIndex) × (path_of local 3 (0 ∷ []) ≡ Err (UnknownBtfType 3))
    × (path_of target 3 (0 ∷ 0 ∷ []) ≡ Err BadAccess)
unfolding local target table structure int texts member_at walk
paths = (refl, refl, refl, refl)

-- `b` is in the member without a name; there is no `d`; the member without a name needs room for its own members
searches :
    (search 63 target (codes "b") 3 ≡ Ok (Some (record { field = member_at 32 true; count = 2 })))
    × (search 63 target (codes "a") 3 ≡ Ok (Some (record { field = member_at 64 true; count = 1 })))
    × (search 63 target (codes "d") 3 ≡ Ok None) × (search 1 target (codes "a") 3 ≡ Err TooDeep)
unfolding target table structure int texts member_at walk search
searches = (refl, refl, refl, refl)

matches :
    (match_path local 8 target (AtIndex 0 ∷ ToMember (codes "b") 1 ∷ []) 3 ≡ Ok (Some (member_at 32 true)))
    × (match_path local 8 target (AtIndex 0 ∷ ToMember (codes "b") 1 ∷ []) 4 ≡ Ok None)
unfolding local target table structure int texts member_at walk search compatible_within
matches = (refl, refl)

setting : TablePair
setting = record { local = local; target = target }

-- an offset of 4 bytes, whose field has 4 bytes in both tables
moved : ℕ → ℕ → Resolved
moved expected value = record {
  expected = expected;
  value = value;
  is_matched = true;
  is_poisoned = false;
  validates = true;
  local_size = 4;
  target_size = 4;
  is_adjustable = true;
}

results :
    (candidates target (codes "s") 4 ≡ 3 ∷ 4 ∷ [])
    × (resolution setting (3 ∷ 4 ∷ []) (0 ∷ 2 ∷ 13 ∷ 0 ∷ []) ≡ Ok (moved 4 4, 3 ∷ []))
    × (resolution setting (3 ∷ 4 ∷ []) (0 ∷ 2 ∷ 17 ∷ 0 ∷ []) ≡ Err BadIndex)
    × (resolution setting (3 ∷ 4 ∷ []) (0 ∷ 2 ∷ 13 ∷ 13 ∷ []) ≡ Err (UnknownKind 13))
unfolding local target table structure int texts member_at walk search compatible_within setting moved
results = (refl, refl, refl, refl)

-- 256 candidates that do not match, and one more than a record may have
limits :
    (table_answers (λ c. Ok None) None (replicate 256 1) ≡ Ok (None, []))
    × (table_answers (λ c. Ok None) None (replicate 257 1) ≡ Err TooManyCandidates)
limits = (refl, refl)
