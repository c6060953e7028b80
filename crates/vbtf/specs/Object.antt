-- The rewrite of an object for a kernel, for C.
use Rattle.std.specs.Prelude.{◌≡◌, ◌⊎◌, ℕ, List, Option, Some, None, if◌then◌else◌, length, ◌==◌}
use Rattle.btf_elf_model.specs.declared.error.ParseError.{ParseError}
use Rattle.btf_elf_model.specs.declared.error.ParseError.TheVariants as parse
use Rattle.btf_elf.specs.declared.error.ObjectError.TheVariants as elf
use Rattle.btf_elf.specs.declared.error.ReplaceError.TheVariants as replace
use Rattle.btf_object_model.specs.Sanitized.{Target, IsSanitized, HasSection, ext_name}
use Rattle.btf_object.specs.Errors.{IsSanitizeCause}
use Rattle.btf_object.specs.declared.error.SanitizeError.{SanitizeError}
use Rattle.btf_object.specs.declared.error.SanitizeError.TheVariants.{Object, NoTable, Table, Section, OutOfMemory}
use Rattle.btf_rewrite_model.specs.declared.feature.FeatureAnswer.{FeatureAnswer}
use Rattle.btf_plain.specs.Error.{refusal_of}
use Rattle.btf_rewrite_model.specs.FeatureSet.{has_bit}
use Rattle.vbtf.specs.Kernel.{policy_chosen, ListsAnswers}
use Rattle.vbtf.specs.Status.{Details, no_details, HasDetails, Fills, ReportsError, ReportsNoMemory}
use Rattle.vbtf.specs.declared.fault.Fault.{Fault}
use Rattle.vbtf.specs.declared.kernel.Asked.{Asked}
use Rattle.vbtf.specs.declared.kernel.Kernel.{Kernel}
use Rattle.btf_elf_model.specs.declared.section_header.SectionHeader.{SectionHeader}
use Rattle.btf_object_model.specs.Laws.{KeepsExt}
use Rattle.btf_elf_model.specs.Object as objects
use Rattle.std.specs.Str.{IsUtf8}

-- a name, or None if it is empty
abbrev pub text_or_none : List ℕ → Option (List ℕ)
text_or_none name = if length name == 0 then None else Some name

-- the target of the rewrite of an object, by the kernel and the name of a placeholder
abbrev pub target_chosen : Kernel → List ℕ → Target
target_chosen kernel placeholder = record {
  has = has_bit kernel.features;
  policy = policy_chosen kernel;
  placeholder = text_or_none placeholder;
}

-- The position of an error in `ParseError`, from 1 on.
abbrev pub parse_place : ParseError → ℕ
parse_place parse.NotElf = 1
parse_place (parse.UnsupportedClass class) = 2
parse_place (parse.UnsupportedEncoding encoding) = 3
parse_place parse.UnsupportedVersion = 4
parse_place parse.BadHeaderSize = 5
parse_place parse.SectionTableOutOfRange = 6
parse_place (parse.SectionOutOfRange index) = 7
parse_place (parse.SectionOverHeaders index) = 8
parse_place parse.BadNameTable = 9
parse_place (parse.BadSectionName index) = 10
parse_place parse.BadSymbolTable = 11
parse_place (parse.BadSymbolName index) = 12

-- The detail of an error: a class, an encoding, or the index of a section or symbol; 0 if it has none.
abbrev pub parse_detail : ParseError → ℕ
parse_detail (parse.UnsupportedClass class) = class
parse_detail (parse.UnsupportedEncoding encoding) = encoding
parse_detail (parse.SectionOutOfRange index) = index
parse_detail (parse.SectionOverHeaders index) = index
parse_detail (parse.BadSectionName index) = index
parse_detail (parse.BadSymbolName index) = index
parse_detail e = 0

-- The status and the fault report an error of an object by its number, with these details.
abbrev pub ReportsNumber : ℕ → Fault → ℕ → Details → Type 0
ReportsNumber status fault number details =
    (status ≡ number) × (fault.number ≡ number) × HasDetails fault details

-- The status and the fault report the cause.
abbrev pub ReportsCause : ℕ → Fault → SanitizeError → Type 0
ReportsCause status fault (Object (elf.Parse e)) =
    ReportsNumber status fault 104 (record no_details { id = parse_place e; offset = parse_detail e })
ReportsCause status fault (Object elf.OutOfMemory) = ReportsNoMemory status fault
ReportsCause status fault NoTable = ReportsNumber status fault 105 no_details
ReportsCause status fault (Table e) = ReportsError status fault (refusal_of e)
ReportsCause status fault (Section replace.OutOfMemory) = ReportsNoMemory status fault
ReportsCause status fault (Section e) = ReportsNumber status fault 106 no_details
ReportsCause status fault OutOfMemory = ReportsNoMemory status fault

-- The outcomes of a call that rewrites an object: the rewritten object in the buffer, if it fits, and the answers of
-- the kernel; or the first error, and the buffer is unchanged.
abbrev pub EndsSanitizing : ℕ → List ℕ → Target → List ℕ → List ℕ → ℕ → Asked → Fault → Type 0
EndsSanitizing status object target old new needed asked fault =
    ((file : List ℕ) × (answers : List FeatureAnswer) × IsSanitized object target file answers
    × ListsAnswers asked answers × Fills file old new needed status)
    ⊎ ((new ≡ old) × ((e : SanitizeError) × IsSanitizeCause object target e × ReportsCause status fault e))

-- The same for the kernel that a C program names, and for a placeholder that is UTF-8.
abbrev pub EndsSanitizingFor : Kernel → List ℕ → List ℕ → List ℕ → List ℕ → ℕ → Asked → Fault → ℕ → Type 0
EndsSanitizingFor kernel placeholder object old new needed asked fault status =
    IsUtf8 placeholder → EndsSanitizing status object (target_chosen kernel placeholder) old new needed asked fault

-- If the object has a section `.BTF.ext`, the file that fills the buffer is an object that keeps it.
abbrev pub WritesKeepingExt : List ℕ → List ℕ → List ℕ → ℕ → ℕ → Type 0
WritesKeepingExt object old_out new_out needed result =
    (o : objects.Object) (index : ℕ) (s : SectionHeader) → HasSection object ext_name o index s
    → (file : List ℕ) × Fills file old_out new_out needed result
    × (new : objects.Object) × KeepsExt object file o new index s
