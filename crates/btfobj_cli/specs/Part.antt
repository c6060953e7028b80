-- The part of a split table above its base, rewritten for a kernel.
-- Source: a choice of this project. The new part is read over the base as it is, so a rewrite changes no type of the
-- base, and asks and appends nothing for one.
use Rattle.std.specs.Prelude.{◌≡◌, ℕ, List, [], ◌++◌, length, take, drop, map, false, Option, Some, None, refl}
use Rattle.btf_model.specs.Blob.{IsTable}
use Rattle.btf_model.specs.Made.{fwd}
use Rattle.btf_model.specs.Record.{Record, kind_of}
use Rattle.btf_model.specs.Table.{Table}
use Rattle.btf_model.specs.declared.endianness.Endianness.{Endianness}
use Rattle.btf_split_model.specs.Split.{with_sections, joined, split_canon, IsJoined}
use Rattle.btf_elf.specs.Writing.{HasReplaced}
use Rattle.btf_rewrite_model.specs.Pass.{Pass, asks_by, texts_by, added_by}
use Rattle.btf_rewrite_model.specs.Fault.{checks_by}
use Rattle.btf_rewrite_model.specs.Rule.{becomes_by}
use Rattle.btf_rewrite_model.specs.declared.feature.FeatureAnswer.{FeatureAnswer}
use Rattle.btf_object_model.specs.Sanitized.{Target, first_section_index, table_name}
use Rattle.btfobj_cli.specs.InputFile.{IsFile, HasTableBytes, file_order}
use Rattle.btfobj_cli.specs.Rewrite.{chosen_target, RewritesTable, RewritesFile, IsRewritten}
use Rattle.btfobj_cli.specs.declared.input_file.InputFile.{InputFile}
use Rattle.btfobj_cli.specs.declared.input_file.InputFile.TheVariants.{Object, Table as TableAlone}
use Rattle.btfobj_cli.specs.declared.rewrite.Rewrite.{Rewrite}

-- a FWD of the name of a record, for which a rewrite does nothing
abbrev pub only_name : Record → Record
only_name r = fwd r.name false

-- id 0, and for each other record a FWD of its name
abbrev pub only_names : List Record → List Record
only_names records = take 1 records ++ map only_name (drop 1 records)

-- a base of which only strings and names are left: all ids and offsets of the part are as over the base
abbrev pub names_only : Table → Table
names_only base = with_sections base.strings (only_names base.records) base

-- whatever the kernel has, a rewrite asks and appends nothing for such a FWD, and leaves it as it is
nothing_for_a_name : (p : Pass) (lower : List Record) (id free : ℕ) (r : Record)
    → (asks_by p id (kind_of (only_name r).info) (only_name r) ≡ [])
    × (texts_by p id (kind_of (only_name r).info) (only_name r) ≡ [])
    × (added_by p free id (kind_of (only_name r).info) ≡ [])
    × (checks_by p id (kind_of (only_name r).info) (only_name r) ≡ [])
    × (becomes_by p lower id (kind_of (only_name r).info) (only_name r) ≡ only_name r)
nothing_for_a_name p lower id free r = (refl, refl, refl, refl, refl)

-- The table has the strings and the records of the names of a base.
pub record HasNamesOf (base names : Table) : Type 0 where
  pub strings : names.strings ≡ base.strings
  pub records : names.records ≡ only_names base.records

-- The file is a split table. Over the base its strings are those of the table, and from the base's number of records on
-- its records are those of the table.
pub record HasPartOf (order : Endianness) (base : Table) (file : List ℕ) (t : Table) : Type 0 where
  pub own : Table
  pub is_table : IsTable order file own
  pub strings : (joined base own).strings ≡ t.strings
  pub records : drop (length base.records) (joined base own).records ≡ drop (length base.records) t.records

-- The bytes are a split table over the base. The file has the part of its rewrite for the target, of which only the
-- names of the base are known; the part that is written begins above the base.
pub record RewritesPart (order : Endianness) (base : Table) (bytes : List ℕ) (target : Target) (file : List ℕ)
    (answers : List FeatureAnswer) : Type 0 where
  pub old : Table
  pub new : Table
  pub table : IsJoined order (names_only base) bytes old
  pub rewritten : RewritesTable old target new answers
  pub written : file ≡ split_canon (length base.records) (length base.strings) new
  pub part : HasPartOf order base file new

-- The file is the old one with these bytes as its table: in the first section `.BTF` of an object, or alone.
abbrev pub HasNewTable : InputFile → List ℕ → List ℕ → Type 0
HasNewTable (Object object) part file =
    (index : ℕ) × (first_section_index object table_name ≡ Some index) × HasReplaced object index part file
HasNewTable (TableAlone own order) part file = file ≡ part

-- The part is that of the file's table, rewritten for the target.
abbrev pub HasRewrittenPart : InputFile → Table → Target → List ℕ → List FeatureAnswer → Type 0
HasRewrittenPart input base target part answers =
    (bytes : List ℕ) × HasTableBytes input bytes × RewritesPart (file_order input) base bytes target part answers

-- The file is the old one with the part of its table above the base rewritten for the target.
abbrev pub RewritesPartOf : InputFile → Table → Target → List ℕ → List FeatureAnswer → Type 0
RewritesPartOf input base target file answers =
    (part : List ℕ) × HasRewrittenPart input base target part answers × HasNewTable input part file

-- The file is rewritten: its whole table, or if there is a base, the part above it.
abbrev pub RewritesFileOver : InputFile → Option Table → Rewrite → List ℕ → List FeatureAnswer → Type 0
RewritesFileOver input None rewrite file answers = RewritesFile input rewrite file answers
RewritesFileOver input (Some base) rewrite file answers = RewritesPartOf input base (chosen_target rewrite) file answers

-- The same for the bytes of a file.
abbrev pub IsRewrittenOver : List ℕ → Option Table → Rewrite → List ℕ → List FeatureAnswer → Type 0
IsRewrittenOver bytes None rewrite file answers = IsRewritten bytes rewrite file answers
IsRewrittenOver bytes (Some base) rewrite file answers =
    (input : InputFile) × IsFile bytes input × RewritesPartOf input base (chosen_target rewrite) file answers
