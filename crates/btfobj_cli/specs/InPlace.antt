-- A table that is read in the bytes of its file.
use Rattle.std.specs.Prelude.{◌≡◌, ℕ, List}
use Rattle.btf_model.specs.declared.endianness.Endianness.{Endianness}
use Rattle.btfobj_cli.specs.InputFile.{IsFile, HasTableBytes, file_order}
use Rattle.btfobj_cli.specs.declared.input_file.InputFile.{InputFile}

-- These are the bytes of the table of a file, and the byte order of the file.
abbrev pub HasBytesInPlace : List ℕ → Endianness × List ℕ → Type 0
HasBytesInPlace file t =
    (input : InputFile) × IsFile file input × (t.0 ≡ file_order input) × HasTableBytes input t.1
