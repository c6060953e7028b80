-- Errors of the steps, as the loader reports them, and their reasons.
use Rattle.std.specs.Prelude.{◌≡◌, ⊤, Option, Some, None, Result, Ok, Err}
use Rattle.btf_elf.specs.declared.error.ObjectError.{ObjectError}
use Rattle.btf_elf.specs.declared.error.ObjectError.TheVariants as object
use Rattle.btf_elf_model.specs.declared.error.ParseError.{ParseError}
use Rattle.btf_loader_model.specs.Refused as reason
use Rattle.btf_loader_model.specs.Refused.{Reason}
use Rattle.btf_model.specs.Refusal.{Refusal}
use Rattle.btf_plain.specs.Error.{refusal_of}
use Rattle.btf_plain.specs.declared.error.BtfError.{BtfError}
use Rattle.btf_plain.specs.declared.error.BtfError.TheVariants as table
use Rattle.btf_loader.specs.declared.error.LoaderError.{LoaderError}
use Rattle.btf_loader.specs.declared.error.LoaderError.TheVariants.{Object, NoTable, Table, Ext, SectionName, SharedPlace, Refused, OutOfMemory}

abbrev pub of_object : ObjectError → LoaderError
of_object object.OutOfMemory = OutOfMemory
of_object e = Object e

abbrev pub of_table : BtfError → LoaderError
of_table table.OutOfMemory = OutOfMemory
of_table e = Table e

abbrev pub of_ext : BtfError → LoaderError
of_ext table.OutOfMemory = OutOfMemory
of_ext e = Ext e

-- The error reports this reason to refuse a section of records, or that an allocation failed.
abbrev pub IsReport : Option Reason → LoaderError → Type 0
IsReport found (SectionName name_offset) = found ≡ Some (reason.BadSectionName name_offset)
IsReport found (SharedPlace index) = found ≡ Some (reason.SharedPlace index)
IsReport found (Refused name_offset index cause) = found ≡ Some (reason.BadRecord name_offset index cause)
IsReport found OutOfMemory = ⊤
IsReport found e = ⊥

-- The result is a success if there is no reason to refuse; else it is an error that reports the reason.
abbrev pub Reports : {T : Type 0} → Option Reason → Result T LoaderError → Type 0
Reports found (Ok _) = found ≡ None
Reports found (Err e) = IsReport found e

-- The error is a reason to refuse an object, or reports that an allocation failed.
abbrev pub IsLoaderCause : (Option Reason → Type 0) → LoaderError → Type 0
IsLoaderCause Is (Object e) = (p : ParseError) × (e ≡ object.Parse p) × Is (Some (reason.BadObject p))
IsLoaderCause Is NoTable = Is (Some reason.NoTable)
IsLoaderCause Is (Table e) = (f : Refusal) × (refusal_of e ≡ Some f) × Is (Some (reason.BadTable f))
IsLoaderCause Is (Ext e) = (f : Refusal) × (refusal_of e ≡ Some f) × Is (Some (reason.BadExt f))
IsLoaderCause Is (SectionName name_offset) = Is (Some (reason.BadSectionName name_offset))
IsLoaderCause Is (SharedPlace index) = Is (Some (reason.SharedPlace index))
IsLoaderCause Is (Refused name_offset index cause) = Is (Some (reason.BadRecord name_offset index cause))
IsLoaderCause Is OutOfMemory = ⊤
