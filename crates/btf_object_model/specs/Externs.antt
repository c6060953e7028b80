-- Externs in the table of an object for loaders, where they stay as the compiler wrote them.
-- Source: libbpf's `bpf_object__collect_externs`, which a loader calls when it opens an object. For each undefined symbol
-- it looks for the VAR or FUNC of this name with Extern linkage, and for the DATASEC that has it as an entry
-- (`find_extern_btf_id`, `find_extern_sec_btf_id`), and refuses the object if there is none. Then it makes these types
-- Global, and determines the sizes and the offsets.
use Rattle.std.specs.Prelude.{ℕ, zero, suc, ◌==◌, ◌&&◌, ◌||◌, Bool, true, false, if◌then◌else◌, List, [], ◌∷◌, length, map, Option, Some, None}
use Rattle.std.specs.List.{list_any}
use Rattle.btf_model.specs.Record as kinds
use Rattle.btf_model.specs.Record.{Kind, Record, kind_of, vlen}
use Rattle.btf_model.specs.Table.{Table}
use Rattle.btf_rewrite_model.specs.Ksyms.{is_func}
use Rattle.btf_rewrite_model.specs.Made.{Entry, section_entries, record_at, kind_at}
use Rattle.btf_object_model.specs.Finalized.{is_of_externs, has_data_sec_kind}
use Rattle.btf_object_model.specs.Kconfig.{extern_name, with_record}
use Rattle.btf_object_model.specs.declared.reader.TableReader.{TableReader}
use Rattle.btf_object_model.specs.declared.reader.TableReader.TheVariants.{Kernel, Loaders}

-- The name is `.ksyms` or `.kconfig`.
abbrev pub is_externs_name : Option (List ℕ) → Bool
is_externs_name (Some name) = is_of_externs name
is_externs_name None = false

-- The record is a DATASEC of externs.
abbrev pub has_externs : Table → Record → Bool
has_externs t r = has_data_sec_kind (kind_of r.info) && is_externs_name (extern_name t.strings r.name)

-- The table has a DATASEC of externs.
abbrev pub table_has_externs : Table → Bool
table_has_externs t = list_any (has_externs t) t.records

-- the kind is VAR
abbrev pub is_variable : Option Kind → Bool
is_variable (Some kinds.Var) = true
is_variable k = false

-- Both kinds are VAR, or both are FUNC.
abbrev pub is_still_extern : Option Kind → Option Kind → Bool
is_still_extern old new = (is_variable old && is_variable new) || (is_func old && is_func new)

-- the new table with the old record of an id, if both records are VARs or FUNCs
abbrev pub with_old_extern : Table → ℕ → Table → Table
with_old_extern old id new =
    if is_still_extern (kind_at old id) (kind_at new id) then with_record new id (record_at old id) else new

-- the same for several ids
abbrev pub with_old_externs : Table → List ℕ → Table → Table
with_old_externs old [] new = new
with_old_externs old (id ∷ ids) new = with_old_externs old ids (with_old_extern old id new)

-- The new record is a DATASEC with as many entries as the old one.
abbrev pub is_still_section : Record → Record → Bool
is_still_section old new = has_data_sec_kind (kind_of new.info) && (vlen new.info == vlen old.info)

-- the types of the entries of a DATASEC
abbrev pub entry_types : Record → List ℕ
entry_types r = map (λ (e : Entry). e.type) (section_entries r.tail)

-- The new table with the old record of a DATASEC of externs, if it is still a DATASEC, and with the old records of its
-- entries' types.
abbrev pub with_old_section : Table → ℕ → Table → Table
with_old_section old id new =
    let section = record_at old id in
    if has_externs old section && is_still_section section (record_at new id)
    then with_old_externs old (entry_types section) (with_record new id section)
    else new

-- the same for all ids below a number
abbrev pub with_old_sections : Table → ℕ → Table → Table
with_old_sections old zero new = new
with_old_sections old (suc id) new = with_old_section old id (with_old_sections old id new)

-- the new table for loaders: its externs are as in the old table
abbrev pub for_loaders : Table → Table → Table
for_loaders old new = with_old_sections old (length old.records) new

-- the new table as its reader gets it
abbrev pub for_reader : TableReader → Table → Table → Table
for_reader Kernel old new = new
for_reader Loaders old new = for_loaders old new
