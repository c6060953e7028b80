-- The types that a rewrite changes or adds.
use Rattle.std.specs.Prelude.{◌≡◌, ℕ, not, Bool, true, List, slice_get, Option, Some, None}
use Rattle.std.specs.List.{list_any, enumerate_from}
use Rattle.std.specs.Str.{bytes_eq}
use Rattle.btf_model.specs.Record.{Record}
use Rattle.btf_model.specs.Spelling.{spell}
use Rattle.btf_model.specs.Table as tables
use Rattle.btf_model.specs.declared.endianness.Endianness.TheVariants.{Little}
use Rattle.btf_rewrite_model.specs.declared.feature.FeatureAnswer.{FeatureAnswer}
use Rattle.btf_object_model.specs.Externs.{table_has_externs}
use Rattle.btfobj_cli.specs.InputFile.{IsFile, HasFileTable, HasTableOver}
use Rattle.btfobj_cli.specs.Part.{IsRewrittenOver}
use Rattle.btfobj_cli.specs.declared.input_file.InputFile.{InputFile}
use Rattle.btfobj_cli.specs.declared.changes.Checked.{Checked}
use Rattle.btfobj_cli.specs.declared.rewrite.Rewrite.{Rewrite}

-- whether a type differs from the old type of its id: it has other words, or there is no such type
abbrev pub is_changed : Option Record → Record → Bool
is_changed None new = true
is_changed (Some old) new = not (bytes_eq (spell Little old) (spell Little new))

-- whether one of these types differs from the old type of its id
abbrev pub has_changed : List Record → List Record → Bool
has_changed old new =
    list_any (λ (p : ℕ × Record). is_changed (slice_get old p.0) p.1) (enumerate_from 0 new)

-- The file of these bytes has this table.
abbrev pub FileHasTable : List ℕ → tables.Table → Type 0
FileHasTable bytes t = (input : InputFile) × IsFile bytes input × HasFileTable input t

-- The file of these bytes has this table, over a base if there is one.
abbrev pub FileHasTableOver : List ℕ → Option tables.Table → tables.Table → Type 0
FileHasTableOver bytes base t = (input : InputFile) × IsFile bytes input × HasTableOver input base t

-- The file of these bytes has a table with a DATASEC of externs, or one without.
abbrev pub FileHasExterns : List ℕ → Bool → Type 0
FileHasExterns bytes has = (t : tables.Table) × FileHasTable bytes t × (has ≡ table_has_externs t)

-- whether one of these answers is that the kernel lacks the feature
abbrev pub lacks_any : List FeatureAnswer → Bool
lacks_any answers = list_any (λ (a : FeatureAnswer). not a.granted) answers

-- The rewrite of a file by these settings, over a base if there is one, asks for a feature that the kernel lacks, or
-- for none; it changes or adds a type, or it does not. Both tables begin with the records of the base.
abbrev pub Checks : List ℕ → Option tables.Table → Rewrite → Checked → Type 0
Checks bytes base rewrite checked =
    (file : List ℕ) × (answers : List FeatureAnswer) × IsRewrittenOver bytes base rewrite file answers
    × (checked.lacks ≡ lacks_any answers)
    × ((old new : tables.Table) × FileHasTableOver bytes base old × FileHasTableOver file base new
    × (checked.changes ≡ has_changed old.records new.records))
