-- The relation between results and the errors of the definitions.
use Rattle.std.specs.Prelude.{◌≡◌, ⊤, ℕ, List, Option, Some, None, Result, Ok, Err, MatchResult, slice_get, true}
use Rattle.btf_elf_model.specs.Object.{Object, IsParseError}
use Rattle.btf_elf_model.specs.declared.error.ParseError.{ParseError}
use Rattle.btf_elf.specs.declared.error.ObjectError.{ObjectError}
use Rattle.btf_elf.specs.declared.error.ObjectError.TheVariants.{Parse, OutOfMemory}
use Rattle.btf_elf.specs.declared.error.ReplaceError.{ReplaceError}
use Rattle.btf_elf_model.specs.declared.section_header.SectionHeader.{SectionHeader}
use Rattle.btf_elf_model.specs.Replaced.{is_replaceable}
use Rattle.btf_elf.specs.Writing.{replace_error}

-- The result is the error if there is one, and otherwise a success.
abbrev pub HasError : {T : Type 0} → Result T ParseError → Option ParseError → Type 0
HasError (Ok _) error = error ≡ None
HasError (Err e) error = error ≡ Some e

-- The error is the first error of the bytes, or reports that an allocation failed.
abbrev pub IsElfError : List ℕ → ObjectError → Type 0
IsElfError bytes (Parse e) = IsParseError bytes e
IsElfError bytes OutOfMemory = ⊤

-- The result is the section at the index, if it can be replaced, or why it can't.
abbrev pub FindsReplaceable : Object → ℕ → Result SectionHeader ReplaceError → Type 0
FindsReplaceable own index result =
    MatchResult result (λ s. (slice_get own.sections index ≡ Some s) × (is_replaceable index s ≡ true))
    (λ e. replace_error own index ≡ Some e)
