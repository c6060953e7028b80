-- What becomes of the code of a section: its records in order.
-- Source: libbpf's `bpf_object__relocate_core`, whose candidates of a type are shared by all records of the type in an
-- object (`cand_cache`); the kernel's `bpf_core_apply` gives each record all candidates.
use Rattle.std.specs.Prelude.{ℕ, ◌%◌, ◌==◌, ◌&&◌, ◌||◌, nat_lt, nat_le, if◌then◌else◌, Bool, List, [], ◌∷◌, slice_get, Option, Some, None, Result, Ok, Err}
use Rattle.std.specs.Result.{result_ok}
use Rattle.btf_model.specs.Record.{Record, kind_number}
use Rattle.btf_model.specs.Table.{Table}
use Rattle.btf_model.specs.declared.endianness.Endianness.{Endianness}
use Rattle.btf_relocate_model.specs.Candidates.{first_candidates}
use Rattle.btf_relocate_model.specs.Instruction.{access_size, instruction_at, patched_code}
use Rattle.btf_relocate_model.specs.Resolution.{TablePair, resolution, type_word, instruction_word}
use Rattle.btf_relocate_model.specs.Types.{name_or_none}
use Rattle.btf_relocate_model.specs.declared.error.RelocationError.{RelocationError}
use Rattle.btf_relocate_model.specs.declared.instruction.Instruction.{Instruction}
use Rattle.btf_relocate_model.specs.declared.instruction.Instruction.TheVariants.{Narrow, Wide as WideInstruction}
use Rattle.btf_relocate_model.specs.declared.instruction.Patched.{Patched}
use Rattle.btf_relocate_model.specs.declared.instruction.Patched.TheVariants.{Poisoned}
use Rattle.btf_relocate_model.specs.declared.instruction.Slot.{Slot}
use Rattle.btf_relocate_model.specs.declared.report.Change.{Change}
use Rattle.btf_relocate_model.specs.declared.report.Change.TheVariants.{NoField, Offset, Immediate, Wide}
use Rattle.btf_relocate_model.specs.declared.report.Matched.{Matched}
use Rattle.btf_relocate_model.specs.declared.report.Matched.TheVariants.{Nothing}
use Rattle.btf_relocate_model.specs.declared.report.Report.{Report}
use Rattle.btf_relocate_model.specs.declared.resolved.Resolved.{Resolved}

-- the candidates for a type of the program's table; none if the id has no type
abbrev pub candidates_by : Table → Table → Option Record → List ℕ
candidates_by local t (Some r) = first_candidates t (name_or_none local r.name) (kind_number r.info)
candidates_by local t None = []

abbrev pub candidates_of : Table → Table → ℕ → List ℕ
candidates_of local t id = candidates_by local t (slice_get local.records id)

-- ---- one record

-- the code after a patch, and unchanged after an error
abbrev pub code_after : List ℕ → Result (Patched × List ℕ) RelocationError → List ℕ
code_after code (Ok p) = p.1
code_after code (Err e) = code

abbrev pub patched_outcome : Result (Patched × List ℕ) RelocationError → Result Patched RelocationError
patched_outcome (Ok p) = Ok p.0
patched_outcome (Err e) = Err e

-- the patch of a record of a program of this byte order
abbrev pub patch_in : {A : Type 0} → Endianness → List ℕ → List ℕ → Result (Resolved × A) RelocationError
    → Result (Patched × List ℕ) RelocationError
patch_in order code words (Ok r) = patched_code order r.0 code (instruction_word words)
patch_in order code words (Err e) = Err e

abbrev pub patch_of : TablePair → List ℕ → List ℕ → Result (Resolved × List ℕ) RelocationError
    → Result (Patched × List ℕ) RelocationError
patch_of g code words r = patch_in g.local.order code words r

-- the candidates that remain after a record
abbrev pub candidates_after : {A : Type 0} → A → Result (Resolved × A) RelocationError → A
candidates_after before (Ok r) = r.1
candidates_after before (Err e) = before

-- ---- all records

-- the candidates of each type of the program's table, after those of one type have changed
abbrev pub changed_at : {A : Type 0} → ℕ → A → (ℕ → A) → ℕ → A
changed_at id new left other = if id == other then new else left other

-- the candidates for later records, by whether the records of a type share them
abbrev pub left_after : {A : Type 0} → Bool → List ℕ → Result (Resolved × A) RelocationError → (ℕ → A) → ℕ → A
left_after is_shared words r left =
    if is_shared then changed_at (type_word words) (candidates_after (left (type_word words)) r) left else left

-- The candidates for the records after all of these, where `resolve` has what a record asks to be written for its
-- candidates.
abbrev pub left_after_all : {A : Type 0} → (A → List ℕ → Result (Resolved × A) RelocationError) → Bool → (ℕ → A)
    → List (List ℕ) → ℕ → A
left_after_all resolve is_shared left [] = left
left_after_all resolve is_shared left (words ∷ records) =
    left_after_all resolve is_shared (left_after is_shared words (resolve (left (type_word words)) words) left) records

-- an outcome, before those of later records
abbrev pub then_outcomes : Result Patched RelocationError → List (Result Patched RelocationError) × List ℕ
    → List (Result Patched RelocationError) × List ℕ
then_outcomes o rest = (o ∷ rest.0, rest.1)

-- The outcome of each record of a program of this byte order, and the code after all of them, where `resolve` has what
-- a record asks to be written for its candidates, and `left` has the candidates of each type.
abbrev pub relocated_by : {A : Type 0} → Endianness → (A → List ℕ → Result (Resolved × A) RelocationError) → Bool
    → (ℕ → A) → List ℕ → List (List ℕ) → List (Result Patched RelocationError) × List ℕ
relocated_by order resolve is_shared left code [] = ([], code)
relocated_by order resolve is_shared left code (words ∷ records) =
    let r = resolve (left (type_word words)) words in
    let p = patch_in order code words r in
    then_outcomes (patched_outcome p)
    (relocated_by order resolve is_shared (left_after is_shared words r left) (code_after code p) records)

-- the same for one target table
abbrev pub section_relocated_from : TablePair → Bool → (ℕ → List ℕ) → List ℕ → List (List ℕ)
    → List (Result Patched RelocationError) × List ℕ
section_relocated_from g is_shared left code records =
    relocated_by g.local.order (resolution g) is_shared left code records

-- The outcome of each record of a section, and its code after all of them.
abbrev pub relocated_section : TablePair → Bool → List ℕ → List (List ℕ)
    → List (Result Patched RelocationError) × List ℕ
relocated_section g is_shared code records =
    section_relocated_from g is_shared (candidates_of g.local g.target) code records

-- ---- what was done

-- the instruction at a place of the code, if there is one
abbrev pub instruction_in : Endianness → List ℕ → ℕ → Option Instruction
instruction_in order code at = result_ok (instruction_at order code at)

-- The field of an instruction of one slot, by the three low bits of its opcode: the offset of a load or store, or the
-- immediate of an arithmetic instruction.
abbrev pub slot_change : Slot → Slot → Change
slot_change s u =
    if nat_lt 0 (s.opcode % 8) && nat_le (s.opcode % 8) 3
    then Offset s.offset u.offset (access_size s) (access_size u)
    else (if (s.opcode % 8 == 4) || (s.opcode % 8 == 7) then Immediate s.immediate u.immediate else NoField)

-- The field that is patched, in the instruction before and after.
abbrev pub change_between : Option Instruction → Option Instruction → Change
change_between (Some (Narrow s)) (Some (Narrow u)) = slot_change s u
change_between (Some (WideInstruction s t)) (Some (WideInstruction u v)) = Wide (s.immediate, t.immediate) (u.immediate, v.immediate)
change_between before after = NoField

-- A poisoned instruction has another form, in which the field is lost.
abbrev pub change_by : Result Patched RelocationError → Option Instruction → Option Instruction → Change
change_by (Ok Poisoned) before after = NoField
change_by outcome before after = change_between before after

-- the type that matches first: `first` has it for the candidates that remain after a record
abbrev pub matched_by : {A : Type 0} → (A → Matched) → Result (Resolved × A) RelocationError → Matched
matched_by first (Ok r) = if r.0.is_matched then first r.1 else Nothing
matched_by first (Err e) = Nothing

-- What was done for a record of a program of this byte order, by the code before it and the patch.
abbrev pub report_of : Endianness → List ℕ → List ℕ → Matched → Result (Patched × List ℕ) RelocationError → Report
report_of order code words matched p = record {
  outcome = patched_outcome p;
  matched = matched;
  change = change_by (patched_outcome p) (instruction_in order code (instruction_word words))
      (instruction_in order (code_after code p) (instruction_word words));
}

-- a report, before those of later records
abbrev pub then_reports : Report → List Report × List ℕ → List Report × List ℕ
then_reports r rest = (r ∷ rest.0, rest.1)

-- What was done for each record, and the code after all of them.
abbrev pub reported_by : {A : Type 0} → (A → Matched) → Endianness
    → (A → List ℕ → Result (Resolved × A) RelocationError) → Bool → (ℕ → A) → List ℕ → List (List ℕ)
    → List Report × List ℕ
reported_by first order resolve is_shared left code [] = ([], code)
reported_by first order resolve is_shared left code (words ∷ records) =
    let r = resolve (left (type_word words)) words in
    let p = patch_in order code words r in
    then_reports (report_of order code words (matched_by first r) p)
    (reported_by first order resolve is_shared (left_after is_shared words r left) (code_after code p) records)
