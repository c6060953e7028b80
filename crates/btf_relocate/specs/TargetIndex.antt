-- The index of a target, as it is stored beside its table.
use Rattle.std.specs.Prelude.{◌≡◌, ℕ, ◌==◌, ◌&&◌, not, Bool, List, Option, Some, None}
use Rattle.std.specs.Str.{bytes_eq}
use Rattle.btf_model.specs.Record.{Record, kind_number}
use Rattle.btf_model.specs.Table.{Table}
use Rattle.btf_relocate_model.specs.Candidates.{compared_number, is_nameless}
use Rattle.btf_relocate_model.specs.Name.{essential}
use Rattle.btf_relocate_model.specs.Types.{name_or_none, pointer_size}
use Rattle.btf_relocate.specs.Index.{IsIndex}
use Rattle.btf_relocate.specs.declared.target.IndexRef.{IndexRef}
use Rattle.btf_relocate.specs.declared.target.IndexRef.TheVariants.{Owned, Borrowed, Missing}
use Rattle.btf_relocate.specs.declared.target.TargetIndex.{TargetIndex}

-- The index is of this table: it has the size of a pointer, and the ids of the types that have a name, in the order of
-- their keys.
abbrev pub IndexesTable : Table → TargetIndex → Type 0
IndexesTable t index = (index.pointer_size ≡ pointer_size t) × IsIndex t index.ids.items

-- the index, wherever it is stored, if there is one
abbrev pub index_in : IndexRef → Option TargetIndex
index_in (Owned index) = Some index
index_in (Borrowed index) = Some index.now
index_in (Missing pointer) = None

-- The index is of this table; if there is none, the size of a pointer is the table's.
abbrev pub IsIndexOf : Table → IndexRef → Type 0
IsIndexOf t (Owned index) = IndexesTable t index
IsIndexOf t (Borrowed index) = IndexesTable t index.now
IsIndexOf t (Missing pointer) = pointer ≡ pointer_size t

-- whether a record has a kind and a name with an essential name
abbrev pub has_key : Table → List ℕ → ℕ → Record → Bool
has_key t name kind r =
    (compared_number (kind_number r.info) == kind)
    && not (is_nameless (name_or_none t r.name))
    && bytes_eq (essential (name_or_none t r.name)) name
