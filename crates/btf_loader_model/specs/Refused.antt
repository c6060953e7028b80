-- Why an object is not relocated: the first reason.
-- Source: the order of the tests is a choice of this project. So is the refusal of code that shares its place in the file
-- with another section, because a patch would change that section too.
use Rattle.std.specs.Prelude.{◌≡◌, ℕ, ◌+◌, ◌&&◌, Bool, false, if◌then◌else◌, List, [], ◌∷◌, remove, slice_get, Option, Some, None, Result, Ok, Err, is_err}
use Rattle.std.specs.List.{list_any}
use Rattle.std.specs.Option.{option_and_then, option_map_or, option_or}
use Rattle.btf_model.specs.Blob.{IsTable, IsRefusal}
use Rattle.btf_model.specs.Ext.{IsExt}
use Rattle.btf_model.specs.Refusal.{Refusal}
use Rattle.btf_model.specs.Table.{Table}
use Rattle.btf_model.specs.Text.{text_at}
use Rattle.btf_elf_model.specs.Object.{Object, IsObject, IsParseError}
use Rattle.btf_elf_model.specs.Replaced.{shares_bytes}
use Rattle.btf_elf_model.specs.Section.{has_bytes}
use Rattle.btf_elf_model.specs.declared.error.ParseError.{ParseError}
use Rattle.btf_elf_model.specs.declared.section_header.SectionHeader.{SectionHeader}
use Rattle.btf_object_model.specs.Sanitized.{table_name, ext_name}
use Rattle.btf_relocate_model.specs.Modules.{Candidates, KernelSetting, Targets, all_candidates, alone}
use Rattle.btf_relocate_model.specs.declared.error.RelocationError.{RelocationError}
use Rattle.btf_relocate_model.specs.declared.instruction.Patched.{Patched}
use Rattle.btf_relocate_model.specs.declared.report.Report.{Report}
use Rattle.btf_loader_model.specs.Loader.{Outcomes, AreRelocationSections, bytes_named, index_at, left_at, section_at, relocated_at}

-- The reasons for which an object is not relocated, apart from allocation failure.
pub data Reason : Type 0 where
  BadObject : (error : ParseError) → Reason
  NoTable : Reason
  BadTable : (refusal : Refusal) → Reason
  BadExt : (refusal : Refusal) → Reason
  BadSectionName : (name_offset : ℕ) → Reason
  SharedPlace : (index : ℕ) → Reason
  BadRecord : (name_offset index : ℕ) (error : RelocationError) → Reason

-- ---- places

-- A section, which is not among the others, has a byte of the file that one of them has too.
abbrev pub shares_with : List SectionHeader → SectionHeader → Bool
shares_with others s = has_bytes s && list_any (shares_bytes s.offset s.size) others

-- The section of an index shares its place in the file with another section.
abbrev pub shares_place : List SectionHeader → ℕ → Bool
shares_place sections index = option_map_or (shares_with (remove sections index)) (slice_get sections index) false

-- ---- a section of records

-- the reason, if the test holds
abbrev pub reason_when : Bool → Reason → Option Reason
reason_when holds reason = if holds then Some reason else None

-- the outcome of the record of an index, if it is an error
abbrev pub bad_outcome_of : ℕ → ℕ → Result Patched RelocationError → Option Reason
bad_outcome_of name_offset index (Ok patched) = None
bad_outcome_of name_offset index (Err error) = Some (BadRecord name_offset index error)

-- The first outcome that is an error, by its index, where the first record of the list has this index.
abbrev pub bad_record : ℕ → ℕ → List Report → Option Reason
bad_record name_offset index [] = None
bad_record name_offset index (r ∷ rest) =
    option_or (bad_outcome_of name_offset index r.outcome) (bad_record name_offset (index + 1) rest)

-- the first record of a section that has an error
abbrev pub bad_outcome : ℕ → Outcomes → Option Reason
bad_outcome name_offset None = None
bad_outcome name_offset (Some reports) = bad_record name_offset 0 reports

-- the place of the section of an index is shared
abbrev pub shared_place : Object → ℕ → Option Reason
shared_place o index = reason_when (shares_place o.sections index) (SharedPlace index)

-- Why a section of records is refused: its name cannot be read; or its code shares its place; or, if errors of records
-- are refused, the first record with an error.
abbrev pub section_reason : KernelSetting → Bool → Object → ℕ → Outcomes → Option Reason
section_reason g refuses_errors o name_offset outcomes =
    option_or (reason_when (is_err (text_at g.local.strings name_offset)) (BadSectionName name_offset))
    (option_or (option_and_then (shared_place o) (index_at g o name_offset))
    (if refuses_errors then bad_outcome name_offset outcomes else None))

-- Why a section of records is refused, when the file is this one, and these candidates are left.
abbrev pub records_reason : KernelSetting → Bool → Bool → Object → (ℕ → Candidates) → List ℕ → ℕ × List (List ℕ)
    → Option Reason
records_reason g is_shared refuses_errors o left file s =
    section_reason g refuses_errors o s.0 (relocated_at g is_shared left (section_at g o s.0) file s.1).0

-- Why the first section of records that is refused is refused. The file is relocated for each section in turn.
abbrev pub reason_from : KernelSetting → Bool → Bool → Object → (ℕ → Candidates) → List ℕ
    → List (ℕ × List (List ℕ)) → Option Reason
reason_from g is_shared refuses_errors o left file [] = None
reason_from g is_shared refuses_errors o left file (s ∷ rest) =
    let at = section_at g o s.0 in
    option_or (records_reason g is_shared refuses_errors o left file s)
    (reason_from g is_shared refuses_errors o (left_at g is_shared left at s.1)
    (relocated_at g is_shared left at file s.1).1 rest)

-- The same from the start.
abbrev pub sections_reason : KernelSetting → Bool → Bool → Object → List ℕ → List (ℕ × List (List ℕ)) → Option Reason
sections_reason g is_shared refuses_errors o file sections =
    reason_from g is_shared refuses_errors o (all_candidates g) file sections

-- ---- the object

-- The bytes are an object, and its section `.BTF` has this table.
pub record HasTable (bytes : List ℕ) (o : Object) (local : Table) : Type 0 where
  pub is_object : IsObject bytes o
  pub table : List ℕ
  pub has_table : bytes_named o table_name ≡ Some table
  pub is_table : IsTable o.header.order table local

-- The bytes are an object with a table, and this is the reason to refuse one of its sections of records, if there is
-- one.
pub record HasReason (bytes : List ℕ) (targets : Targets) (is_shared refuses_errors : Bool) (reason : Option Reason)
    : Type 0 where
  pub object : Object
  pub local : Table
  pub has_table : HasTable bytes object local
  pub sections : List (ℕ × List (List ℕ))
  pub are_sections : AreRelocationSections object.header.order local.strings (bytes_named object ext_name) sections
  pub reason_is : sections_reason (record { local = local; targets = targets }) is_shared refuses_errors object bytes
      sections ≡ reason

-- The reason for which an object is not relocated for a kernel with modules; none if it is relocated. The tests are in this
-- order: the object, the section `.BTF`, its table, `.BTF.ext`, and each section of records in turn.
abbrev pub IsReasonAmong : List ℕ → Targets → Bool → Bool → Option Reason → Type 0
IsReasonAmong bytes targets is_shared refuses_errors (Some (BadObject error)) = IsParseError bytes error
IsReasonAmong bytes targets is_shared refuses_errors (Some NoTable) =
    (o : Object) × IsObject bytes o × (bytes_named o table_name ≡ None)
IsReasonAmong bytes targets is_shared refuses_errors (Some (BadTable refusal)) =
    (o : Object) × (table : List ℕ) × IsObject bytes o × (bytes_named o table_name ≡ Some table)
    × IsRefusal o.header.order table refusal
IsReasonAmong bytes targets is_shared refuses_errors (Some (BadExt refusal)) =
    (o : Object) × (local : Table) × (ext : List ℕ) × HasTable bytes o local × (bytes_named o ext_name ≡ Some ext)
    × IsExt o.header.order ext local.strings (Err refusal)
IsReasonAmong bytes targets is_shared refuses_errors reason = HasReason bytes targets is_shared refuses_errors reason

-- the same for a target table, which is that of a kernel without modules
abbrev pub IsReason : List ℕ → Table → Bool → Bool → Option Reason → Type 0
IsReason bytes target is_shared refuses_errors reason = IsReasonAmong bytes (alone target) is_shared refuses_errors reason

-- An object is refused for at most one reason, and not if it is relocated.
abbrev pub ReasonIsDetermined : Type 0
ReasonIsDetermined =
    (bytes : List ℕ) (targets : Targets) (is_shared refuses_errors : Bool) (x y : Option Reason)
    → IsReasonAmong bytes targets is_shared refuses_errors x → IsReasonAmong bytes targets is_shared refuses_errors y → x ≡ y
