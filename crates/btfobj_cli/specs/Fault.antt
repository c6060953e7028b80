-- The faults that report the errors of the libraries.
use Rattle.std.specs.Prelude.{◌≡◌, ℕ, List, Option, Some, None}
use Rattle.btf_model.specs.Blob.{IsRefusal}
use Rattle.btf_model.specs.Refusal.{Refusal}
use Rattle.btf_plain.specs.Error.{refusal_of}
use Rattle.btf_plain.specs.declared.error.BtfError.{BtfError}
use Rattle.btf_elf.specs.declared.error.ObjectError.{ObjectError}
use Rattle.btf_elf.specs.declared.error.ObjectError.TheVariants as errors
use Rattle.btf_elf.specs.Results.{IsElfError}
use Rattle.btf_elf_model.specs.Object.{Object}
use Rattle.btf_object_model.specs.Sanitized.{first_section_index, table_name, ext_name}
use Rattle.btfobj_cli.specs.InputFile.{HasTableBytes, file_order}
use Rattle.btfobj_cli.specs.declared.input_file.InputFile.{InputFile}
use Rattle.btfobj_cli.specs.declared.input_file.InputFile.TheVariants as inputs
use Rattle.btfobj_cli.specs.declared.fault.Fault.{Fault}
use Rattle.btfobj_cli.specs.declared.fault.Fault.TheVariants as faults

-- the fault that reports an error of an object
abbrev pub object_fault : ObjectError → Fault
object_fault (errors.Parse e) = faults.Object (errors.Parse e)
object_fault errors.OutOfMemory = faults.OutOfMemory

-- the fault that reports an error of a table, by the refusal in it; none if an allocation failed
abbrev pub fault_by : BtfError → Option Refusal → Fault
fault_by e (Some refusal) = faults.Table e
fault_by e None = faults.OutOfMemory

-- the fault that reports an error of a table
abbrev pub table_fault : BtfError → Fault
table_fault e = fault_by e (refusal_of e)

-- The fault reports why the bytes are no object, or that an allocation failed.
abbrev pub ReportsObject : List ℕ → Fault → Type 0
ReportsObject bytes (faults.Object e) = IsElfError bytes e
ReportsObject bytes faults.OutOfMemory = Unit {0}
ReportsObject bytes fault = ⊥

-- The object has no section of this name, and the fault names it.
abbrev pub LacksSection : Object → List ℕ → Fault → Type 0
LacksSection o name (faults.NoSection named) = (first_section_index o name ≡ None) × (named.now ≡ name)
LacksSection o name fault = ⊥

-- The file is an object without a section `.BTF`, which has this name.
abbrev pub LacksTable : InputFile → List ℕ → Type 0
LacksTable (inputs.Object object) name = (first_section_index object table_name ≡ None) × (name ≡ table_name)
LacksTable (inputs.Table own order) name = ⊥

-- The fault reports why the file has no table: its object has no section `.BTF`, the bytes represent no table, or an
-- allocation failed.
abbrev pub ReportsTable : InputFile → Fault → Type 0
ReportsTable input (faults.NoSection name) = LacksTable input name.now
ReportsTable input (faults.Table e) =
    (bytes : List ℕ) × (refusal : Refusal) × HasTableBytes input bytes × (refusal_of e ≡ Some refusal)
    × IsRefusal (file_order input) bytes refusal
ReportsTable input faults.OutOfMemory = Unit {0}
ReportsTable input fault = ⊥

-- The fault reports that the file is a table alone, or an object without a section `.BTF.ext`.
abbrev pub ReportsExt : InputFile → Fault → Type 0
ReportsExt (inputs.Table own order) fault = fault ≡ faults.NoExt
ReportsExt (inputs.Object object) fault = LacksSection object ext_name fault
