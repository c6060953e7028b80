-- Worked examples of sections, computed. Tables, code and outcomes are the rows `pruned`, `not_yet_pruned` and
-- `missing_type` of `tests/rows/relocations.rows`, where libbpf has these outcomes; libbpf shares candidates. The
-- program was compiled against `struct s { int a; int b; }`; the target has `struct s { int a; }`, of 8 bytes, and
-- `struct s___2 { int b; int a; }`.
use Rattle.std.specs.Prelude.{◌≡◌, ℕ, ◌+◌, ◌*◌, ◌^◌, true, false, List, [], ◌∷◌, ◌++◌, codes, Ok, Err, refl}
use Rattle.btf_model.specs.Record.{Record, unknown}
use Rattle.btf_model.specs.Table.{Table}
use Rattle.btf_model.specs.declared.endianness.Endianness.TheVariants.{Little}
use Rattle.btf_relocate_model.specs.Compatible.{compatible_within}
use Rattle.btf_relocate_model.specs.Modules as modules
use Rattle.btf_relocate_model.specs.Modules.{KernelSetting, all_candidates, left_after_section, reported_section}
use Rattle.btf_relocate_model.specs.Resolution.{TablePair}
use Rattle.btf_relocate_model.specs.Search.{search}
use Rattle.btf_relocate_model.specs.Section.{relocated_section}
use Rattle.btf_relocate_model.specs.Types.{walk}
use Rattle.btf_relocate_model.specs.declared.error.RelocationError.TheVariants.{Ambiguous}
use Rattle.btf_relocate_model.specs.declared.instruction.Patched.TheVariants.{Written, Poisoned}
use Rattle.btf_relocate_model.specs.declared.report.Change.TheVariants.{Offset}
use Rattle.btf_relocate_model.specs.declared.report.Matched.TheVariants.{InKernel}
use Rattle.btf_relocate_model.specs.declared.report.Report.{Report}

-- `int` at 1, `s` at 5, `a` at 7, `b` at 9, `.text` at 11, the access `0:1` at 17, the access `0:0` at 21
local_texts : List ℕ
local_texts =
    (0 ∷ []) ++ codes "int" ++ (0 ∷ []) ++ codes "s" ++ (0 ∷ []) ++ codes "a" ++ (0 ∷ []) ++ codes "b" ++ (0 ∷ [])
    ++ codes ".text" ++ (0 ∷ []) ++ codes "0:1" ++ (0 ∷ []) ++ codes "0:0" ++ (0 ∷ [])

-- `int` at 1, `s` at 5, `a` at 7, `s___2` at 9, `b` at 15
target_texts : List ℕ
target_texts =
    (0 ∷ []) ++ codes "int" ++ (0 ∷ []) ++ codes "s" ++ (0 ∷ []) ++ codes "a" ++ (0 ∷ []) ++ codes "s___2" ++ (0 ∷ [])
    ++ codes "b" ++ (0 ∷ [])

int : Record
int = record { name = 1; info = 1 * 2 ^ 24; third = 4; tail = (1 * 2 ^ 24 + 32) ∷ [] }

structure : ℕ → ℕ → List ℕ → Record
structure name members words = record { name = name; info = 4 * 2 ^ 24 + members; third = 8; tail = words }

table : List ℕ → List Record → Table
table texts records = record {
  order = Little;
  magic = 0xeb9f;
  version = 1;
  flags = 0;
  strings = texts;
  records = unknown ∷ records;
  fallbacks = [];
}

-- the target has these types
setting : List Record → TablePair
setting records = record {
  local = table local_texts (int ∷ structure 5 2 (7 ∷ 1 ∷ 0 ∷ 9 ∷ 1 ∷ 32 ∷ []) ∷ []);
  target = table target_texts records;
}

-- the target with both structs, and a target without them
both : TablePair
both = setting (int ∷ structure 5 1 (7 ∷ 1 ∷ 0 ∷ []) ∷ structure 9 2 (15 ∷ 1 ∷ 0 ∷ 7 ∷ 1 ∷ 32 ∷ []) ∷ [])

neither : TablePair
neither = setting (int ∷ [])

-- the program's own table as the target
own : TablePair
own = record neither { target = table local_texts (int ∷ structure 5 2 (7 ∷ 1 ∷ 0 ∷ 9 ∷ 1 ∷ 32 ∷ []) ∷ []) }

-- a load of 4 bytes at an offset
abbrev pub load : ℕ → List ℕ
load offset = 0x61 ∷ 0x12 ∷ offset ∷ 0 ∷ 0 ∷ 0 ∷ 0 ∷ 0 ∷ []

-- the records of the offsets of `b` and of `a`, whose instruction is at a place
abbrev offset_of_b : ℕ → List ℕ
offset_of_b at = at ∷ 2 ∷ 17 ∷ 0 ∷ []

abbrev offset_of_a : ℕ → List ℕ
offset_of_a at = at ∷ 2 ∷ 21 ∷ 0 ∷ []

-- `b` is in `s___2` alone, which is then the one candidate for `a`
shared :
    relocated_section both true (load 4 ++ load 0) (offset_of_b 0 ∷ offset_of_a 8 ∷ [])
    ≡ (Ok Written ∷ Ok Written ∷ [], load 0 ++ load 4)
unfolding both setting table local_texts target_texts int structure walk search compatible_within
shared = refl

-- With all candidates `a` is ambiguous, and so it is if its record comes first.
fresh :
    (relocated_section both false (load 4 ++ load 0) (offset_of_b 0 ∷ offset_of_a 8 ∷ [])
    ≡ (Ok Written ∷ Err Ambiguous ∷ [], load 0 ++ load 0))
    × (relocated_section both true (load 0 ++ load 4) (offset_of_a 0 ∷ offset_of_b 8 ∷ [])
    ≡ (Err Ambiguous ∷ Ok Written ∷ [], load 0 ++ load 0))
unfolding both setting table local_texts target_texts int structure walk search compatible_within
fresh = (refl, refl)

-- no type of the target is a candidate
missing :
    relocated_section neither true (load 4) (offset_of_b 0 ∷ [])
    ≡ (Ok Poisoned ∷ [], 0x85 ∷ 0 ∷ 0 ∷ 0 ∷ 0x10 ∷ 0x23 ∷ 0xad ∷ 0x0b ∷ [])
unfolding neither setting table local_texts target_texts int structure walk
missing = refl

-- against its own table the program is not changed
unchanged :
    relocated_section own true (load 4 ++ load 0) (offset_of_b 0 ∷ offset_of_a 8 ∷ [])
    ≡ (Ok Written ∷ Ok Written ∷ [], load 4 ++ load 0)
unfolding own neither setting table local_texts target_texts int structure walk search compatible_within
unchanged = refl

-- ---- two sections of one program

program : KernelSetting
program = record { local = both.local; targets = modules.alone both.target }

-- a load of 4 bytes that got the offset of a member of a type
moved : ℕ → ℕ → ℕ → Report
moved id old new = record { outcome = Ok Written; matched = InKernel id; change = Offset old new 4 4 }

-- In the first section `b` is found in `s___2`, which is then the one candidate for `a` in the second. Without the first
-- section both candidates have an `a`, at different offsets.
shared_by_sections :
    let left = left_after_section program true (all_candidates program) (offset_of_b 0 ∷ []) in
    (reported_section program true (all_candidates program) (load 4) (offset_of_b 0 ∷ []) ≡ (moved 3 4 0 ∷ [], load 0))
    × (reported_section program true left (load 0) (offset_of_a 0 ∷ []) ≡ (moved 3 0 4 ∷ [], load 4))
    × ((reported_section program true (all_candidates program) (load 0) (offset_of_a 0 ∷ [])).1 ≡ load 0)
unfolding program moved both setting table local_texts target_texts int structure walk search compatible_within
shared_by_sections = (refl, refl, refl)
