-- Worked examples of relocation for a kernel with modules, computed. The program was compiled against
-- `struct s { int a; int b; }`, and loads `b`. By libbpf's `bpf_core_find_cands` and `bpf_core_calc_relo_insn`: modules
-- that agree give the offset; those that differ are ambiguous; one without `b` does not count; and none is searched if
-- the kernel has the struct.
use Rattle.std.specs.Prelude.{◌≡◌, ℕ, ◌+◌, ◌*◌, ◌^◌, true, List, [], ◌∷◌, ◌++◌, codes, Result, Ok, Err, refl}
use Rattle.btf_model.specs.Record.{Record, unknown}
use Rattle.btf_model.specs.Table.{Table}
use Rattle.btf_model.specs.declared.endianness.Endianness.TheVariants.{Little}
use Rattle.btf_relocate_model.specs.SectionExamples.{load}
use Rattle.btf_relocate_model.specs.Compatible.{compatible_within}
use Rattle.btf_relocate_model.specs.Modules.{InKernel, InModules, candidates_among, relocated_section_among}
use Rattle.btf_relocate_model.specs.Search.{search}
use Rattle.btf_relocate_model.specs.Types.{walk}
use Rattle.btf_relocate_model.specs.declared.error.RelocationError.{RelocationError}
use Rattle.btf_relocate_model.specs.declared.error.RelocationError.TheVariants.{Ambiguous}
use Rattle.btf_relocate_model.specs.declared.instruction.Patched.{Patched}
use Rattle.btf_relocate_model.specs.declared.instruction.Patched.TheVariants.{Written, Poisoned}

-- `int` at 1, `s` at 5, `a` at 7, `b` at 9, the access `0:1` at 11
texts : List ℕ
texts =
    (0 ∷ []) ++ codes "int" ++ (0 ∷ []) ++ codes "s" ++ (0 ∷ []) ++ codes "a" ++ (0 ∷ []) ++ codes "b" ++ (0 ∷ [])
    ++ codes "0:1" ++ (0 ∷ [])

int : Record
int = record { name = 1; info = 1 * 2 ^ 24; third = 4; tail = (1 * 2 ^ 24 + 32) ∷ [] }

-- a table with `int` at 1 and `s` at 2, which has these members
table : List Record → Table
table records = record {
  order = Little;
  magic = 0xeb9f;
  version = 1;
  flags = 0;
  strings = texts;
  records = unknown ∷ int ∷ records;
  fallbacks = [];
}

structure : ℕ → List ℕ → List Record
structure members words = record { name = 5; info = 4 * 2 ^ 24 + members; third = 8; tail = words } ∷ []

-- the tables where `b` is after `a`, where it is before `a`, with `a` alone, and without the struct
after : Table
after = table (structure 2 (7 ∷ 1 ∷ 0 ∷ 9 ∷ 1 ∷ 32 ∷ []))

before : Table
before = table (structure 2 (9 ∷ 1 ∷ 0 ∷ 7 ∷ 1 ∷ 32 ∷ []))

alone : Table
alone = table (structure 1 (7 ∷ 1 ∷ 0 ∷ []))

without : Table
without = table []

-- the outcome of the load of `b`, and the code after it
abbrev loaded : Table → List Table → List (Result Patched RelocationError) × List ℕ
loaded kernel modules =
    relocated_section_among after (record { kernel = kernel; modules = modules }) true (load 4) ((0 ∷ 2 ∷ 11 ∷ 0 ∷ []) ∷ [])

searched :
    (candidates_among after (record { kernel = without; modules = before ∷ without ∷ [] }) 2
    ≡ InModules (record { table = before; ids = 2 ∷ [] } ∷ record { table = without; ids = [] } ∷ []))
    × (candidates_among after (record { kernel = alone; modules = before ∷ [] }) 2 ≡ InKernel (2 ∷ []))
    × (candidates_among after (record { kernel = without; modules = [] }) 2 ≡ InKernel [])
unfolding after before alone without table structure texts int
searched = (refl, refl, refl)

agreed : loaded without (before ∷ before ∷ []) ≡ (Ok Written ∷ [], load 0)
unfolding after before without table structure texts int walk search compatible_within
agreed = refl

differing : loaded without (before ∷ after ∷ []) ≡ (Err Ambiguous ∷ [], load 4)
unfolding after before without table structure texts int walk search compatible_within
differing = refl

one_matches :
    (loaded without (alone ∷ before ∷ []) ≡ (Ok Written ∷ [], load 0))
    × (loaded without (alone ∷ []) ≡ (Ok Poisoned ∷ [], 0x85 ∷ 0 ∷ 0 ∷ 0 ∷ 0x10 ∷ 0x23 ∷ 0xad ∷ 0x0b ∷ []))
unfolding after before alone without table structure texts int walk search compatible_within
one_matches = (refl, refl)

-- Modules do not count if the kernel has a candidate, also one that does not match.
kernel_first :
    (loaded after (before ∷ []) ≡ (Ok Written ∷ [], load 4))
    × (loaded alone (before ∷ []) ≡ (Ok Poisoned ∷ [], 0x85 ∷ 0 ∷ 0 ∷ 0 ∷ 0x10 ∷ 0x23 ∷ 0xad ∷ 0x0b ∷ []))
unfolding after before alone without table structure texts int walk search compatible_within
kernel_first = (refl, refl)
