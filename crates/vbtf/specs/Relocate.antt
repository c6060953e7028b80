-- The relocation of an object for a target table, for C.
use Rattle.std.specs.Prelude.{◌≡◌, ◌⊎◌, ◌==◌, ℕ, ◌/◌, ◌%◌, Bool, true, false, List, [], length, unwrap_or, flat_map, count_by, None, Result, Ok, Err, ◌≤◌}
use Rattle.std.specs.Io.Iter.{u64_saturate}
use Rattle.btf_elf.specs.declared.error.ObjectError.TheVariants as elf
use Rattle.btf_loader.specs.Errors.{IsLoaderCause}
use Rattle.btf_loader.specs.declared.error.LoaderError.{LoaderError}
use Rattle.btf_loader.specs.declared.error.LoaderError.TheVariants.{Object, NoTable, Table, Ext, SectionName, SharedPlace, Refused, OutOfMemory}
use Rattle.btf_loader_model.specs.Loader.{Outcomes, IsRelocated, any_error, is_error}
use Rattle.btf_loader_model.specs.Refused.{IsReason}
use Rattle.btf_model.specs.Table as tables
use Rattle.btf_plain.specs.Error.{refusal_of}
use Rattle.btf_relocate_model.specs.declared.error.RelocationError.{RelocationError}
use Rattle.btf_relocate_model.specs.declared.error.RelocationError.TheVariants as relocation
use Rattle.btf_relocate_model.specs.declared.instruction.Patched.{Patched}
use Rattle.btf_relocate_model.specs.declared.instruction.Patched.TheVariants.{Written, Poisoned}
use Rattle.btf_relocate_model.specs.declared.report.Report.{Report}
use Rattle.vbtf.specs.Object as object
use Rattle.vbtf.specs.Object.{ReportsNumber}
use Rattle.vbtf.specs.Status.{no_details, Fills, ReportsError, ReportsNoMemory}
use Rattle.vbtf.specs.declared.fault.Fault.{Fault}
use Rattle.vbtf.specs.declared.relocate.Tally.{Tally}
use Rattle.vbtf.specs.declared.handle.Handle.{Handle}

-- Bit 0 of the options is not set: the records of one type share their candidates.
abbrev pub shares_candidates : ℕ → Bool
shares_candidates options = options % 2 == 0

-- Bit 1 of the options is not set: a record with an error refuses the object.
abbrev pub refuses_records : ℕ → Bool
refuses_records options = options / 2 % 2 == 0

-- ---- the numbers of records

-- an instruction was poisoned
abbrev pub poisons_record : Result Patched RelocationError → Bool
poisons_record (Ok Written) = false
poisons_record (Ok Poisoned) = true
poisons_record (Err error) = false

-- the instruction of the record is poisoned
abbrev pub poisons_instruction : Report → Bool
poisons_instruction report = poisons_record report.outcome

-- the reports of the records of a section; none if it has no code in the file
abbrev pub reports_in : ℕ × Outcomes → List Report
reports_in section = unwrap_or section.1 []

-- the reports of the records of all sections, one after another
abbrev pub all_reports : List (ℕ × Outcomes) → List Report
all_reports sections = flat_map reports_in sections

-- The numbers of records, of poisoned instructions and of errors; 2^64 - 1 for a number that does not fit.
pub record Counts (tally : Tally) (reports : List Report) : Type 0 where
  pub records : tally.records ≡ u64_saturate (length reports)
  pub poisoned : tally.poisoned ≡ u64_saturate (count_by poisons_instruction reports)
  pub refused : tally.refused ≡ u64_saturate (count_by is_error reports)

-- ---- errors

-- The position of an error in `RelocationError`, from 1 on.
abbrev pub relocation_place : RelocationError → ℕ
relocation_place relocation.OrderMismatch = 1
relocation_place (relocation.UnknownKind kind) = 2
relocation_place (relocation.UnknownBtfType type_id) = 3
relocation_place (relocation.InvalidStringOffset offset) = 4
relocation_place (relocation.MaximumTypeDepthReached type_id) = 5
relocation_place (relocation.AnonymousType type_id) = 6
relocation_place relocation.BadAccess = 7
relocation_place relocation.BadIndex = 8
relocation_place (relocation.NoSize type_id) = 9
relocation_place relocation.BitOffsetTooBig = 10
relocation_place relocation.NotForElement = 11
relocation_place relocation.BitfieldTooWide = 12
relocation_place (relocation.BadBitfield type_id) = 13
relocation_place relocation.ShiftTooWide = 14
relocation_place relocation.TooDeep = 15
relocation_place relocation.Ambiguous = 16
relocation_place relocation.Misaligned = 17
relocation_place relocation.NoInstruction = 18
relocation_place relocation.NoSecondSlot = 19
relocation_place relocation.NotImmediate = 20
relocation_place relocation.WrongImmediate = 21
relocation_place relocation.ImmediateOverflow = 22
relocation_place relocation.OffsetTooBig = 23
relocation_place relocation.WrongAccessSize = 24
relocation_place relocation.BadAccessSize = 25
relocation_place relocation.BadLdImm64 = 26
relocation_place relocation.NotPatchable = 27
relocation_place relocation.TooManyCandidates = 28
relocation_place relocation.TooManyMembers = 29
relocation_place relocation.OutOfMemory = 30

-- The field of an error: a kind, the id of a type, or a string offset; 0 if it has none.
abbrev pub relocation_detail : RelocationError → ℕ
relocation_detail (relocation.UnknownKind kind) = kind
relocation_detail (relocation.UnknownBtfType type_id) = type_id
relocation_detail (relocation.InvalidStringOffset offset) = offset
relocation_detail (relocation.MaximumTypeDepthReached type_id) = type_id
relocation_detail (relocation.AnonymousType type_id) = type_id
relocation_detail (relocation.NoSize type_id) = type_id
relocation_detail (relocation.BadBitfield type_id) = type_id
relocation_detail e = 0

-- The status and the fault report the error of a record, with its field, the string offset of the section's name and
-- the index of the record in the section.
abbrev pub ReportsRefused : ℕ → Fault → RelocationError → ℕ → ℕ → Type 0
ReportsRefused status fault e name_offset index = ReportsNumber status fault 107
    (record no_details {
      id = relocation_place e;
      offset = name_offset;
      len = index;
      section_len = relocation_detail e;
    })

-- The status and the fault report the reason for which an object is not relocated, or a failed allocation.
abbrev pub ReportsReason : ℕ → Fault → LoaderError → Type 0
ReportsReason status fault (Object (elf.Parse e)) =
    ReportsNumber status fault 104 (record no_details { id = object.parse_place e; offset = object.parse_detail e })
ReportsReason status fault (Object elf.OutOfMemory) = ReportsNoMemory status fault
ReportsReason status fault NoTable = ReportsNumber status fault 105 no_details
ReportsReason status fault (Table e) = ReportsError status fault (refusal_of e)
ReportsReason status fault (Ext e) = ReportsError status fault (refusal_of e)
ReportsReason status fault (Refused name_offset index cause) = ReportsRefused status fault cause name_offset index
ReportsReason status fault (SharedPlace index) = ReportsNumber status fault 108 (record no_details { offset = index })
ReportsReason status fault (SectionName name_offset) =
    ReportsNumber status fault 109 (record no_details { offset = name_offset })
ReportsReason status fault OutOfMemory = ReportsNoMemory status fault

-- ---- the call

-- The object with its code relocated is in the buffer, if it fits, and the tally has the numbers of its records. It is
-- as long as the object. If errors of records are refused, there is none.
abbrev pub FillsRelocated : ℕ → List ℕ → tables.Table → ℕ → List ℕ → List ℕ → ℕ → Tally → Type 0
FillsRelocated status object target options old new needed tally =
    (file : List ℕ) × (outcomes : List (ℕ × Outcomes))
    × IsRelocated object target (shares_candidates options) outcomes file
    × (refuses_records options ≡ true → any_error outcomes ≡ false)
    × (length file ≡ length object)
    × Counts tally (all_reports outcomes) × Fills file old new needed status

-- The outcomes of a call that relocates an object: the relocated object, and nothing is a reason to refuse it; or the
-- first reason or a failed allocation, and the buffer and the tally are unchanged.
abbrev pub EndsRelocating : ℕ → List ℕ → tables.Table → ℕ → List ℕ → List ℕ → ℕ → Tally → Tally → Fault → Type 0
EndsRelocating status object target options old new needed old_tally tally fault =
    (FillsRelocated status object target options old new needed tally
    × IsReason object target (shares_candidates options) (refuses_records options) None)
    ⊎ ((new ≡ old) × (tally ≡ old_tally) × ((e : LoaderError)
    × IsLoaderCause (IsReason object target (shares_candidates options) (refuses_records options)) e
    × ReportsReason status fault e))

-- The same for the table that a handle lends, with options that are known.
abbrev pub EndsRelocatingFor : Handle → List ℕ → ℕ → List ℕ → List ℕ → ℕ → Tally → Tally → Fault → ℕ → Type 0
EndsRelocatingFor target object options old new needed old_tally tally fault status =
    target.state ≡ 2 → options ≤ 3
    → EndsRelocating status object target.opened.btf options old new needed old_tally tally fault
