-- The sections and symbols of a program, as C names them.
use Rattle.std.specs.Prelude.{◌≤◌, ◌+◌, ℕ, List, [], ◌∷◌, take, drop, length, Option, Some, None, if◌then◌else◌}
use Rattle.std.specs.Str.{bytes_eq, IsUtf8}
use Rattle.std.specs.List.{AllByRecursion}
use Rattle.std.specs.Option.{option_or}
use Rattle.btf_rewrite_model.specs.Pass.{Layout}
use Rattle.vbtf.specs.declared.program.Named.{Named}
use Rattle.btf_table.specs.Layout.{layout_of}
use Rattle.vbtf.specs.declared.program.Program.{Program}

-- the name of an entry, in the buffer of names
abbrev pub name_in : List ℕ → Named → List ℕ
name_in names entry = take entry.len (drop entry.at names)

-- the name is in the buffer, and is UTF-8
abbrev pub IsReadable : List ℕ → Named → Type 0
IsReadable names entry = (entry.at + entry.len ≤ length names) × IsUtf8 (name_in names entry)

-- the name of each entry is readable
abbrev pub AreReadableEntries : List ℕ → List Named → Type 0
AreReadableEntries names entries = AllByRecursion (IsReadable names) entries

-- the number of the last entry of a name
abbrev pub number_named : List ℕ → List Named → List ℕ → Option ℕ
number_named names [] name = None
number_named names (entry ∷ entries) name =
    option_or (number_named names entries name)
    (if bytes_eq (name_in names entry) name then Some entry.number else None)

-- the layout that the entries of sections and of symbols give
abbrev pub layout_named : List ℕ → List Named → List ℕ → List Named → Layout
layout_named section_names sections symbol_names symbols =
    record { sections = number_named section_names sections; symbols = number_named symbol_names symbols }

-- the names of the sections and of the symbols are UTF-8, and their places are inside the names
abbrev pub AreReadable : List ℕ → List Named → List ℕ → List Named → Type 0
AreReadable section_names sections symbol_names symbols =
    AreReadableEntries section_names sections × AreReadableEntries symbol_names symbols

-- the layout of a program
abbrev pub program_layout : Program → Layout
program_layout program = layout_of program.sections program.symbols
