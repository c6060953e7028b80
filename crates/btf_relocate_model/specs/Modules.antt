-- Relocation for a kernel with modules: a type that the kernel's table does not have may be in the tables of modules.
-- Source: libbpf's `bpf_core_find_cands`, which searches the tables of modules only if the kernel's table has no
-- candidate, and its `bpf_core_calc_relo_insn`, where all candidates of all tables have to agree. The table of a module
-- is whole here: the kernel's types and then the module's own. Since the kernel's table has no candidate, each candidate
-- in it is the module's own.
use Rattle.std.specs.Prelude.{ℕ, suc, ◌^◌, ◌==◌, ◌&&◌, nat_lt, not, if◌then◌else◌, Bool, List, [], ◌∷◌, length, map, slice_get, Option, Some, None, Result, Ok, Err}
use Rattle.btf_model.specs.Table.{Table}
use Rattle.btf_relocate_model.specs.Resolution.{Subject, question, table_answers, answered_by, candidate_answer, remaining, resolution, resolved_by, validates, type_word}
use Rattle.btf_relocate_model.specs.Section.{candidates_of, left_after_all, relocated_by, reported_by}
use Rattle.btf_relocate_model.specs.Types.{◌>>=◌}
use Rattle.btf_relocate_model.specs.declared.answer.Answer.{Answer}
use Rattle.btf_relocate_model.specs.declared.error.RelocationError.{RelocationError}
use Rattle.btf_relocate_model.specs.declared.field.Value.{Value}
use Rattle.btf_relocate_model.specs.declared.instruction.Patched.{Patched}
use Rattle.btf_relocate_model.specs.declared.kind.RelocationKind.{RelocationKind}
use Rattle.btf_relocate_model.specs.declared.report.Matched.{Matched}
use Rattle.btf_relocate_model.specs.declared.report.Matched.TheVariants.{Nothing, InKernel as kernel_match, InModule as module_match}
use Rattle.btf_relocate_model.specs.declared.report.Report.{Report}
use Rattle.btf_relocate_model.specs.declared.resolved.Resolved.{Resolved}

-- The table of a kernel, and those of its modules.
pub record Targets : Type 0 where
  pub kernel : Table
  pub modules : List Table

-- A program's table, and the tables that it is relocated against.
pub record KernelSetting : Type 0 where
  pub local : Table
  pub targets : Targets

-- ---- candidates

-- candidates in the table of a module
pub record InModule : Type 0 where
  pub table : Table
  pub ids : List ℕ

-- The candidates of a type: all are in the kernel's table, or all are in the tables of modules.
pub data Candidates : Type 0 where
  InKernel : (ids : List ℕ) → Candidates
  InModules : (found : List InModule) → Candidates

-- the candidates of a type of the program's table in the table of a module
abbrev pub found_in : Table → ℕ → Table → InModule
found_in local id t = record { table = t; ids = candidates_of local t id }

-- The modules count only if there are some, and the kernel has no candidate.
abbrev pub in_first : List ℕ → List InModule → Candidates
in_first ids found = if not (length found == 0) && (length ids == 0) then InModules found else InKernel ids

-- The candidates for a type of the program's table.
abbrev pub candidates_among : Table → Targets → ℕ → Candidates
candidates_among local ts id = in_first (candidates_of local ts.kernel id) (map (found_in local id) ts.modules)

-- ---- one record

-- The answer of the candidates of several tables after an earlier one, and the candidates that match. `answer` has the
-- answer of a candidate in a table.
abbrev pub answers_among : (Table → ℕ → Result (Option Answer) RelocationError) → Option Answer → List InModule
    → Result (Option Answer × List InModule) RelocationError
answers_among answer first [] = Ok (first, [])
answers_among answer first (m ∷ ms) =
    table_answers (answer m.table) first m.ids >>= λ here. answers_among answer here.0 ms >>= λ rest.
    Ok (rest.0, record { table = m.table; ids = here.1 } ∷ rest.1)

-- the table of the first of these candidates, and another if there is none
abbrev pub first_table : Table → List InModule → Table
first_table other [] = other
first_table other (m ∷ ms) = if length m.ids == 0 then first_table other ms else m.table

-- the answer that a candidate has in a table, in which it is compared
abbrev pub answer_in : Table → RelocationKind → Subject → Table → ℕ → Result (Option Answer) RelocationError
answer_in local k s t c = candidate_answer (record { local = local; target = t }) k s c

-- a record whose kind needs a search, after its local value
abbrev pub searched_among : Table → Table → List InModule → RelocationKind → Subject → Value
    → Result (Resolved × List InModule) RelocationError
searched_among local kernel found k s expected =
    answers_among (answer_in local k s) None found >>= λ all.
    Ok (resolved_by local (first_table kernel all.1) k (validates k s) expected all.0, remaining found all.0 all.1)

-- what a record asks to be written whose candidates are in the tables of modules
abbrev pub resolution_in_modules : Table → Table → List InModule → List ℕ
    → Result (Resolved × List InModule) RelocationError
resolution_in_modules local kernel found words =
    question local kernel.order words >>= answered_by local (searched_among local kernel found) (type_word words) found

-- a result, with its candidates seen as those of a kernel with modules
abbrev pub left_as : {A : Type 0} → (A → Candidates) → Result (Resolved × A) RelocationError
    → Result (Resolved × Candidates) RelocationError
left_as view (Ok r) = Ok (r.0, view r.1)
left_as view (Err e) = Err e

-- What a record asks to be written for a kernel with modules, and the candidates that remain for the next record of its
-- type. The tables of modules have the byte order of the kernel's table.
abbrev pub resolution_among : Table → Targets → Candidates → List ℕ → Result (Resolved × Candidates) RelocationError
resolution_among local ts (InKernel ids) words =
    left_as InKernel (resolution (record { local = local; target = ts.kernel }) ids words)
resolution_among local ts (InModules found) words =
    left_as InModules (resolution_in_modules local ts.kernel found words)

-- ---- all records

-- The outcome of each record of a section, and its code after all of them.
abbrev pub relocated_section_among : Table → Targets → Bool → List ℕ → List (List ℕ)
    → List (Result Patched RelocationError) × List ℕ
relocated_section_among local ts is_shared code records =
    relocated_by local.order (resolution_among local ts) is_shared (candidates_among local ts) code records

-- ---- all records of a program

-- the type of an id in the kernel's table, if there is one
abbrev pub in_kernel : Option ℕ → Matched
in_kernel (Some id) = kernel_match id
in_kernel None = Nothing

-- the type of an id in the table of the module of an index, which has 32 bits; else what another module has
abbrev pub in_module_or : Matched → ℕ → Option ℕ → Matched
in_module_or other index (Some id) = if nat_lt index (2 ^ 32) then module_match index id else Nothing
in_module_or other index None = other

-- the first of the candidates in the tables of modules, where the first table is that of the module of this index
abbrev pub first_in_modules : ℕ → List InModule → Matched
first_in_modules index [] = Nothing
first_in_modules index (m ∷ ms) = in_module_or (first_in_modules (suc index) ms) index (slice_get m.ids 0)

-- The first candidate.
abbrev pub first_matched : Candidates → Matched
first_matched (InKernel ids) = in_kernel (slice_get ids 0)
first_matched (InModules found) = first_in_modules 0 found

-- the candidates of each type before the first record of a program
abbrev pub all_candidates : KernelSetting → ℕ → Candidates
all_candidates g id = candidates_among g.local g.targets id

-- What is done for the records of one section of a program, and the code after them, where the records of the sections
-- before it have left these candidates of each type.
abbrev pub reported_section : KernelSetting → Bool → (ℕ → Candidates) → List ℕ → List (List ℕ)
    → List Report × List ℕ
reported_section g is_shared left code records =
    reported_by first_matched g.local.order (resolution_among g.local g.targets) is_shared left code records

-- the candidates of each type after the records of the section
abbrev pub left_after_section : KernelSetting → Bool → (ℕ → Candidates) → List (List ℕ) → ℕ → Candidates
left_after_section g is_shared left records =
    left_after_all (resolution_among g.local g.targets) is_shared left records

-- ---- without modules

-- a kernel without modules
abbrev pub alone : Table → Targets
alone kernel = record { kernel = kernel; modules = [] }
