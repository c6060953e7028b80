-- The first step of a rewrite: the entries of `.ksyms`, which represent symbols of the kernel, become ordinary
-- variables. Source: aya-obj's `fixup_ksyms_datasec`, after libbpf's `bpf_object__fixup_btf`. This project's profile
-- reads names and ids in the table as the step began.
use Rattle.std.specs.Prelude.{ℕ, ◌+◌, ◌*◌, ◌==◌, ◌&&◌, Bool, true, false, if◌then◌else◌, List, [], ◌∷◌, ◌++◌, length, map, codes, Option, Some, None}
use Rattle.std.specs.List.{flat_map, list_any, position_or_len}
use Rattle.std.specs.Option.{is_some}
use Rattle.btf_model.specs.Record.{Kind, Int, Func, FuncProto, Var, DataSec, Record, kind_of}
use Rattle.btf_model.specs.Refusal.{Refusal, InvalidDatasec}
use Rattle.btf_model.specs.Table.{Table, type_bytes, with_string, with_type}
use Rattle.btf_model.specs.Text.{text_at}
use Rattle.btf_rewrite_model.specs.Made.{Entry, section_entries, entry_words, record_at, kind_at, table_ids, c_int, with_linkage, wants_name}
use Rattle.btf_rewrite_model.specs.Checks.{Check, first_fault, name_is_read, is_known, has_room, fits, record_len}
use Rattle.btf_rewrite_model.specs.declared.ksyms_ids.KsymsIds.{KsymsIds}

-- ---- what the step reads

-- an INT of 4 bytes
abbrev pub is_int_of_4 : Option Kind → Record → Bool
is_int_of_4 (Some Int) r = r.third == 4
is_int_of_4 k r = false

-- the id of the first INT of 4 bytes, or the number of types
abbrev pub int_of_4 : Table → ℕ
int_of_4 t = position_or_len (λ r. is_int_of_4 (kind_of r.info) r) t.records

-- The step appends an INT of 4 bytes if there is no placeholder and the table has no such INT.
abbrev pub appends_int : Table → Option ℕ → Bool
appends_int t (Some placeholder) = false
appends_int t None = int_of_4 t == length t.records

-- the name of the INT that the step appends
abbrev pub int_text : List ℕ
int_text = codes "int"

-- the type that each variable of the symbols gets: the type of the placeholder, or an INT of 4 bytes
abbrev pub symbol_type : Table → Option ℕ → ℕ
symbol_type t (Some placeholder) = (record_at t placeholder).third
symbol_type t None = int_of_4 t

-- the entries of the DATASEC of the symbols
abbrev pub ksyms_entries : Table → KsymsIds → List Entry
ksyms_entries t ids = section_entries (record_at t ids.datasec_id).tail

-- an entry has this id as its type
abbrev pub names_ksyms : Table → KsymsIds → ℕ → Bool
names_ksyms t ids id = list_any (λ e. e.type == id) (ksyms_entries t ids)

-- the kind is FUNC
abbrev pub is_func : Option Kind → Bool
is_func (Some Func) = true
is_func k = false

-- a FUNC among the entries has this prototype
abbrev pub is_prototype : Table → KsymsIds → ℕ → Bool
is_prototype t ids id = list_any (λ e. is_func (kind_at t e.type) && (record_at t e.type).third == id) (ksyms_entries t ids)

-- ---- what becomes of a record

-- the parameters that have a type and no name get this name
abbrev pub named_parameters : ℕ → List ℕ → List ℕ
named_parameters new (name ∷ type ∷ words) = (if wants_name name type then new else name) ∷ type ∷ named_parameters new words
named_parameters new words = words

-- the parameters of a prototype: if there is a placeholder, they get its name
abbrev pub with_names : Table → Option ℕ → List ℕ → List ℕ
with_names t (Some placeholder) words = named_parameters (record_at t placeholder).name words
with_names t None words = words

-- the type of an entry: the placeholder, if there is one, replaces a FUNC
abbrev pub entry_type : Table → Option ℕ → ℕ → ℕ
entry_type t (Some placeholder) type = if is_func (kind_at t type) then placeholder else type
entry_type t None type = type

-- the entries one after the other from this offset on, with 4 bytes for each
abbrev pub laid_out : Table → Option ℕ → ℕ → List Entry → List Entry
laid_out t placeholder offset [] = []
laid_out t placeholder offset (e ∷ es) = record { type = entry_type t placeholder e.type; offset = offset; size = 4 } ∷ laid_out t placeholder (offset + 4) es

-- What a record becomes, by its kind. A FUNC or VAR among the entries becomes Global, and such a VAR gets the type of
-- the symbols. The parameters of such a FUNC get names. The DATASEC gets a new layout. All other records are unchanged.
abbrev pub stepped : Table → KsymsIds → ℕ → Option Kind → Record → Record
stepped t ids id (Some Func) r = if names_ksyms t ids id then with_linkage 1 r else r
stepped t ids id (Some Var) r =
    if names_ksyms t ids id then record r { third = symbol_type t ids.placeholder_id; tail = 1 ∷ [] } else r
stepped t ids id (Some FuncProto) r =
    if is_prototype t ids id then record r { tail = with_names t ids.placeholder_id r.tail } else r
stepped t ids id (Some DataSec) r =
    if id == ids.datasec_id then record r {
      third = 4 * length (ksyms_entries t ids);
      tail = flat_map entry_words (laid_out t ids.placeholder_id 0 (ksyms_entries t ids));
    } else r
stepped t ids id k r = r

-- ---- the tests, in order

-- the kind is VAR
abbrev pub is_var : Option Kind → Check
is_var (Some Var) = None
is_var k = Some InvalidDatasec

-- the kind is DATASEC
abbrev pub is_data_sec : Option Kind → Check
is_data_sec (Some DataSec) = None
is_data_sec k = Some InvalidDatasec

-- the placeholder exists and is a VAR; without a placeholder, the INT fits if it is appended
abbrev pub placeholder_checks : Table → Option ℕ → List Check
placeholder_checks t (Some id) = is_known t id ∷ is_var (kind_at t id) ∷ []
placeholder_checks t None =
    if appends_int t None then has_room (length t.strings) int_text
    ∷ fits (length (type_bytes t)) (record_len (c_int 0)) ∷ [] else []

-- the id is a DATASEC whose name can be read
abbrev pub data_sec_checks : Table → ℕ → List Check
data_sec_checks t id =
    is_known t id ∷ is_data_sec (kind_at t id) ∷ name_is_read (text_at t.strings (record_at t id).name) ∷ []

-- the tests of an entry's type, by its kind: its name can be read, and the prototype of a FUNC exists if there is a
-- placeholder
abbrev pub symbol_checks : Table → Option ℕ → Option Kind → Record → List Check
symbol_checks t placeholder (Some Func) r =
    name_is_read (text_at t.strings r.name) ∷ (if is_some placeholder then is_known t r.third ∷ [] else [])
symbol_checks t placeholder (Some Var) r = name_is_read (text_at t.strings r.name) ∷ []
symbol_checks t placeholder k r = Some InvalidDatasec ∷ []

-- the tests of an entry: its type exists, and is a symbol
abbrev pub ksyms_entry_checks : Table → Option ℕ → Entry → List Check
ksyms_entry_checks t placeholder e = is_known t e.type ∷ symbol_checks t placeholder (kind_at t e.type) (record_at t e.type)

-- Why the step is refused, if it is.
abbrev pub ksyms_fault : Table → KsymsIds → Option Refusal
ksyms_fault t ids =
    first_fault (placeholder_checks t ids.placeholder_id ++ data_sec_checks t ids.datasec_id
    ++ flat_map (ksyms_entry_checks t ids.placeholder_id) (ksyms_entries t ids))

-- ---- the table

-- the table with each record changed, without the appended INT
abbrev pub each_stepped : Table → KsymsIds → Table
each_stepped t ids = record t { records = map (λ id. stepped t ids id (kind_at t id) (record_at t id)) (table_ids t) }

-- The table after the step, if it is not refused: each record is changed, and then the INT is appended if it is needed.
abbrev pub ksyms_table : Table → KsymsIds → Table
ksyms_table t ids =
    if appends_int t ids.placeholder_id
    then with_type (c_int (length t.strings)) None (with_string int_text (each_stepped t ids)) else each_stepped t ids
