-- A table as a loader finalizes it from its object, before it rewrites the table for a kernel: the sizes of DATASECs,
-- and the offsets and the order of their entries; then a placeholder for functions of the kernel. After the rewrite,
-- the sizes of the STRUCTs that DATASECs became.
-- Source: libbpf's `btf_fixup_datasec`. Compilers leave these sizes and offsets 0, because they do not know the
-- sections of the object. libbpf does not determine the order of entries with the same offset; here it stays.
use Rattle.std.specs.Prelude.{◌≡◌, ℕ, ◌<◌, ◌*◌, ◌^◌, ◌==◌, ◌&&◌, ◌||◌, Bool, true, false, if◌then◌else◌, List, [], ◌∷◌, ◌++◌, length, map, set, slice_index, codes, Option, Some, None, Result, Ok, Err}
use Rattle.std.specs.List.{list_all, list_any}
use Rattle.std.specs.List.Sorted.{IsSortedByKey, IsStableByKey}
use Rattle.std.specs.Option.{is_some, option_map, unwrap_or}
use Rattle.std.specs.Ordering.{nat_cmp}
use Rattle.std.specs.Str.{bytes_eq}
use Rattle.btf_model.specs.Record as kinds
use Rattle.btf_model.specs.Record.{Kind, Record, kind_of, vlen}
use Rattle.btf_model.specs.Refusal.{Refusal}
use Rattle.btf_model.specs.Table.{Table, type_bytes, with_string, with_type}
use Rattle.btf_model.specs.Text.{text_at}
use Rattle.btf_rewrite_model.specs.Checks.{in_a_word, first_fault, has_room, fits, record_len}
use Rattle.btf_rewrite_model.specs.Ksyms.{appends_int, int_of_4, int_text, is_func, ksyms_entries, placeholder_checks}
use Rattle.btf_rewrite_model.specs.Made.{Entry, section_entries, record_at, kind_at, table_ids, is_static, c_int, struct, made_data_sec}
use Rattle.btf_rewrite_model.specs.Pass.{Layout}
use Rattle.btf_rewrite_model.specs.declared.ksyms_ids.KsymsIds.{KsymsIds}
use Rattle.btf_object_model.specs.Ksyms.{ksyms_name}

-- ---- what is known from the object

-- the name of the DATASEC of the configuration of the kernel
abbrev pub kconfig_name : List ℕ
kconfig_name = codes ".kconfig"

-- The variables of a DATASEC of this name are externs, which no section has. Source: `btf_fixup_datasec`, which only
-- sorts the entries of `.kconfig` and `.ksyms`.
abbrev pub is_of_externs : List ℕ → Bool
is_of_externs name = bytes_eq name ksyms_name || bytes_eq name kconfig_name

-- a size that is known and is not 0
abbrev pub if_positive : Option ℕ → Option ℕ
if_positive (Some size) = if size == 0 then None else Some size
if_positive None = None

-- The size of the section of a name, if it is known, has 32 bits, and is not 0. Source: `find_elf_sec_sz`.
abbrev pub known_section_size : Layout → Result (List ℕ) Refusal → Option ℕ
known_section_size layout (Ok name) = if is_of_externs name then None else if_positive (in_a_word (layout.sections name))
known_section_size layout (Err refusal) = None

-- A Static or an Extern variable retains its offset. Source: `btf_fixup_datasec`.
abbrev pub retains_offset : Record → Bool
retains_offset r = is_static r || (slice_index r.tail 0 == 2)

-- The offset of a variable in its section, by its name: its own if it retains it, and else the offset of its symbol, if
-- it is known and has 32 bits. Source: `btf_fixup_datasec`, `find_elf_var_sym`.
abbrev pub variable_offset : Layout → Bool → ℕ → Result (List ℕ) Refusal → Option ℕ
variable_offset layout retains old (Ok name) = if retains then Some old else in_a_word (layout.symbols name)
variable_offset layout retains old (Err refusal) = None

-- the offset of an entry by its type, which has to be a VAR
abbrev pub offset_by : Layout → Table → Option Kind → Record → ℕ → Option ℕ
offset_by layout t (Some kinds.Var) r old = variable_offset layout (retains_offset r) old (text_at t.strings r.name)
offset_by layout t k r old = None

-- the offset of an entry, if it is known
abbrev pub entry_offset : Layout → Table → Entry → Option ℕ
entry_offset layout t e = offset_by layout t (kind_at t e.type) (record_at t e.type) e.offset

-- the entry at its offset
abbrev pub entry_at_offset : Layout → Table → Entry → Entry
entry_at_offset layout t e = record e { offset = unwrap_or (entry_offset layout t e) e.offset }

-- ---- DATASECs

-- A DATASEC of size 0 is completed if the size of its section and the offsets of all its entries are known. Otherwise
-- it stays as it is, and the rewrite reports what is unknown.
abbrev pub is_completed : Layout → Table → Record → Bool
is_completed layout t r =
    (r.third == 0) && is_some (known_section_size layout (text_at t.strings r.name))
    && list_all (λ e. is_some (entry_offset layout t e)) (section_entries r.tail)

-- the size of a DATASEC: the size of its section if it is completed, else its own size
abbrev pub completed_size : Layout → Table → Record → ℕ
completed_size layout t r =
    if is_completed layout t r then unwrap_or (known_section_size layout (text_at t.strings r.name)) 0 else r.third

-- the entries of a DATASEC: at the offsets of their variables if it is completed, else unchanged
abbrev pub final_entries : Layout → Table → Record → List Entry
final_entries layout t r =
    if is_completed layout t r then map (entry_at_offset layout t) (section_entries r.tail) else section_entries r.tail

-- The same entries by rising offset; those with the same offset retain their order. Source: the kernel's
-- `btf_datasec_check_meta` refuses an entry that begins before the end of the previous one ("Invalid offset").
pub record AreInOrder (es sorted : List Entry) : Type 0 where
  pub rising : IsSortedByKey (λ (e : Entry). e.offset) nat_cmp sorted
  pub stable : IsStableByKey (λ (e : Entry). e.offset) nat_cmp es sorted

-- What a record becomes, by its kind: a DATASEC gets its size and its entries in order, and other records are
-- unchanged.
abbrev pub IsFinal : Layout → Table → Option Kind → Record → Record → Type 0
IsFinal layout t (Some kinds.DataSec) r new =
    (es : List Entry) × AreInOrder (final_entries layout t r) es
    × (new ≡ made_data_sec r.name (completed_size layout t r) (vlen r.info) es)
IsFinal layout t k r new = new ≡ r

-- The new table is the old one, finalized from an object of this layout: each record becomes its final record, and
-- nothing else changes.
pub record IsFinalized (layout : Layout) (old new : Table) : Type 0 where
  pub others : new ≡ record old { records = new.records }
  pub count : length new.records ≡ length old.records
  pub each : (id : ℕ) → id < length old.records
      → IsFinal layout old (kind_at old id) (record_at old id) (record_at new id)

-- ---- the placeholder for functions of the kernel
-- Source: libbpf's `add_dummy_ksym_var`, which appends a variable that replaces functions in `.ksyms`, because a
-- DATASEC has only variables; and `find_int_btf_id`. libbpf takes the first INT of 32 bits.

-- the name of the placeholder
abbrev pub placeholder_text : List ℕ
placeholder_text = codes "dummy_ksym"

-- the placeholder: a Global VAR
abbrev pub placeholder : ℕ → ℕ → Record
placeholder name type = record { name = name; info = 14 * 2 ^ 24; third = type; tail = 1 ∷ [] }

-- the table with an INT of 4 bytes, which is appended if there is none
abbrev pub with_int : Table → Table
with_int t =
    if appends_int t None then with_type (c_int (length t.strings)) None (with_string int_text t) else t

-- the table with a placeholder of this type
abbrev pub with_variable : ℕ → Table → Table
with_variable type t = with_type (placeholder (length t.strings) type) None (with_string placeholder_text t)

-- A function is among the entries of `.ksyms`, if the table has this DATASEC.
abbrev pub has_functions : Table → Option KsymsIds → Bool
has_functions t (Some ids) = list_any (λ e. is_func (kind_at t e.type)) (ksyms_entries t ids)
has_functions t None = false

-- the table with the placeholder, if it is needed; its type is the first INT of 4 bytes, or the INT that is appended
abbrev pub with_placeholder : Table → Option KsymsIds → Table
with_placeholder t ids = if has_functions t ids then with_variable (int_of_4 t) (with_int t) else t

-- the ids of `.ksyms` with the id of the placeholder, if it is needed
abbrev pub with_placeholder_id : Table → Option KsymsIds → Option KsymsIds
with_placeholder_id t ids =
    if has_functions t ids
    then option_map (λ (i : KsymsIds). record i { placeholder_id = Some (length (with_int t).records) }) ids else ids

-- Why the placeholder does not fit, if it is needed: first the INT, and then the VAR, each with its name before it.
abbrev pub placeholder_fault : Table → Option KsymsIds → Option Refusal
placeholder_fault t ids =
    if has_functions t ids
    then first_fault (placeholder_checks t None ++ has_room (length (with_int t).strings) placeholder_text
    ∷ fits (length (type_bytes (with_int t))) (record_len (placeholder 0 0)) ∷ [])
    else None

-- The table in which `.ksyms`, if the table has it, has 4 bytes for each entry, as after the step of `.ksyms`. Source:
-- libbpf's `bpf_object__collect_externs`, which lays out `.ksyms` with the size of an `int` for each entry.
abbrev pub with_ksyms_size : Table → Option KsymsIds → Table
with_ksyms_size t (Some ids) =
    record t {
      records = set t.records ids.datasec_id
          (record (record_at t ids.datasec_id) { third = 4 * length (ksyms_entries t ids) });
    }
with_ksyms_size t None = t

-- ---- STRUCTs that were DATASECs

-- the kind is DATASEC
abbrev pub has_data_sec_kind : Option Kind → Bool
has_data_sec_kind (Some kinds.DataSec) = true
has_data_sec_kind k = false

-- the kind is STRUCT
abbrev pub is_struct : Option Kind → Bool
is_struct (Some kinds.Struct) = true
is_struct k = false

-- A STRUCT that was a DATASEC before the rewrite gets the size of the DATASEC, in place of the number of its entries.
-- Source: the kernel's `btf_struct_check_meta` refuses a member that begins after the end ("Member bits_offset exceeds
-- its struct size").
abbrev pub sized_record : Record → Record → Record
sized_record old new =
    if has_data_sec_kind (kind_of old.info) && is_struct (kind_of new.info)
    then struct new.name old.third (vlen new.info) new.tail else new

-- the rewritten table with the sizes that the DATASECs of the table before the rewrite have
abbrev pub with_old_sizes : Table → Table → Table
with_old_sizes old new =
    record new { records = map (λ id. sized_record (record_at old id) (record_at new id)) (table_ids new) }
