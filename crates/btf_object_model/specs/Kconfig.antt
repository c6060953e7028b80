-- `.kconfig`: the variables to which a loader gives values of the kernel's configuration, as it lays them out in a map
-- of its own. No section of an object has them.
-- Source: libbpf's `bpf_object__collect_externs`, which determines the offsets and the size and makes the variables
-- Global; `cmp_externs`, the order; `find_kcfg_type`, the types; and `btf__align_of`, the alignments. libbpf refuses an
-- object whose variables it cannot lay out; here its `.kconfig` stays as it is.
use Rattle.std.specs.Prelude.{◌≡◌, ℕ, ◌+◌, ◌^◌, ◌==◌, ◌&&◌, ◌||◌, nat_lt, not, Bool, true, false, if◌then◌else◌, List, [], ◌∷◌, map, take, drop, set, slice_get, Option, Some, None, Result, Ok, Err}
use Rattle.std.specs.Cmp.Lexicographic.{slice_cmp}
use Rattle.std.specs.List.{AllByRecursion}
use Rattle.std.specs.List.Sorted.{IsSorted, IsStable}
use Rattle.std.specs.Ordering.{ordering_then, nat_cmp}
use Rattle.std.specs.declared.cmp.Ordering.{Ordering}
use Rattle.btf_model.specs.Record as kinds
use Rattle.btf_model.specs.Record.{Kind, Record, vlen}
use Rattle.btf_model.specs.Refusal.{Refusal}
use Rattle.btf_model.specs.Table.{Table}
use Rattle.btf_model.specs.Text.{FindsName, bytes_at}
use Rattle.btf_model.specs.Walk.{Resolves}
use Rattle.btf_rewrite_model.specs.Made.{Entry, section_entries, record_at, kind_at, made_data_sec}
use Rattle.btf_object_model.specs.Finalized.{kconfig_name}
use Rattle.btf_object_model.specs.Layout.{name_limit}

-- ---- values

-- a value of the configuration in memory: its bytes, and the alignment of its offset in bytes
pub record ConfigValue : Type 0 where
  pub size : ℕ
  pub alignment : ℕ

-- A number of 1, 2, 4 or 8 bytes is aligned to its size.
abbrev pub config_number : ℕ → Option ConfigValue
config_number size =
    if size == 1 || size == 2 || size == 4 || size == 8 then Some (record { size = size; alignment = size }) else None

-- the value of a type that is no array: an INT or an enumeration is a number
abbrev pub plain_value : Option Kind → Record → Option ConfigValue
plain_value (Some kinds.Int) r = config_number r.third
plain_value (Some kinds.Enum) r = config_number r.third
plain_value (Some kinds.Enum64) r = config_number r.third
plain_value k r = None

-- the value of an array of this many elements, by the type of an element: INTs of one byte are a text
abbrev pub text_value : Option Kind → Record → ℕ → Option ConfigValue
text_value (Some kinds.Int) r count =
    if (r.third == 1) && not (count == 0) then Some (record { size = count; alignment = 1 }) else None
text_value k r count = None

-- the same by what the type of the elements resolves to
abbrev pub config_text : Table → Result ℕ Refusal → ℕ → Option ConfigValue
config_text t (Ok element) count = text_value (kind_at t element) (record_at t element) count
config_text t (Err refusal) count = None

-- The value of an ARRAY, by its words: the type of its elements, the type of its index, the number of elements.
abbrev pub FindsText : Table → List ℕ → Option ConfigValue → Type 0
FindsText t (element ∷ index ∷ count ∷ []) found =
    (resolved : Result ℕ Refusal) × Resolves t.records element resolved × (found ≡ config_text t resolved count)
FindsText t tail found = found ≡ None

-- the value of a type that is no modifier, if it has one
abbrev pub FindsPlain : Table → Option Kind → Record → Option ConfigValue → Type 0
FindsPlain t (Some kinds.Array) r found = FindsText t r.tail found
FindsPlain t k r found = found ≡ plain_value k r

-- the same by what a type resolves to
abbrev pub FindsResolved : Table → Result ℕ Refusal → Option ConfigValue → Type 0
FindsResolved t (Ok id) found = FindsPlain t (kind_at t id) (record_at t id) found
FindsResolved t (Err refusal) found = found ≡ None

-- The value of a type, after its modifiers, if it has one.
abbrev pub FindsValue : Table → ℕ → Option ConfigValue → Type 0
FindsValue t type found =
    (resolved : Result ℕ Refusal) × Resolves t.records type resolved × FindsResolved t resolved found

-- ---- externs

-- a variable of `.kconfig`: its entry, its value, and its name
pub record Extern : Type 0 where
  pub entry : Entry
  pub value : ConfigValue
  pub name : List ℕ

-- The name of a variable, if it has fewer bytes than the limit, above which no kernel accepts a name.
abbrev pub extern_name : List ℕ → ℕ → Option (List ℕ)
extern_name strings offset = bytes_at (take name_limit (drop offset strings)) 0

abbrev pub extern_of : Entry → Option ConfigValue → Option (List ℕ) → Option Extern
extern_of e (Some value) (Some name) = Some (record { entry = e; value = value; name = name })
extern_of e value name = None

-- the extern of an entry by its type, which has to be a VAR
abbrev pub FindsExternBy : Table → Option Kind → Record → Entry → Option Extern → Type 0
FindsExternBy t (Some kinds.Var) r e found =
    (value : Option ConfigValue) × FindsValue t r.third value × (found ≡ extern_of e value (extern_name t.strings r.name))
FindsExternBy t k r e found = found ≡ None

-- The extern of an entry, if its value and its name are known.
abbrev pub FindsExtern : Table → Entry → Option Extern → Type 0
FindsExtern t e found = FindsExternBy t (kind_at t e.type) (record_at t e.type) e found

-- The externs of all entries, if each is known.
abbrev pub FindsExterns : Table → List Entry → Option (List Extern) → Type 0
FindsExterns t es (Some xs) =
    (map (λ (x : Extern). x.entry) xs ≡ es) × AllByRecursion (λ x. FindsExtern t x.entry (Some x)) xs
FindsExterns t es None = (i : ℕ) × (e : Entry) × (slice_get es i ≡ Some e) × FindsExtern t e None

-- ---- the layout

-- Externs stand by falling alignment, then by rising size, and then by name. As a size is a multiple of the alignment,
-- no gap is between them.
abbrev pub extern_cmp : Extern → Extern → Ordering
extern_cmp x y =
    ordering_then
    (ordering_then (nat_cmp y.value.alignment x.value.alignment) (nat_cmp x.value.size y.value.size))
    (slice_cmp nat_cmp x.name y.name)

-- the bytes of all externs
abbrev pub total : List Extern → ℕ
total [] = 0
total (x ∷ xs) = x.value.size + total xs

-- the entries of externs, one after another from an offset on
abbrev pub externs_laid_out : ℕ → List Extern → List Entry
externs_laid_out at [] = []
externs_laid_out at (x ∷ xs) = record x.entry { offset = at } ∷ externs_laid_out (at + x.value.size) xs

-- the table with another record of an id
abbrev pub with_record : Table → ℕ → Record → Table
with_record t id r = record t { records = set t.records id r }

-- a variable with Global linkage; another record is unchanged
abbrev pub made_global : Option Kind → Record → Record
made_global (Some kinds.Var) r = record r { tail = 1 ∷ [] }
made_global k r = r

-- the table with Global variables of these ids
abbrev pub with_globals : List ℕ → Table → Table
with_globals [] t = t
with_globals (id ∷ ids) t = with_globals ids (with_record t id (made_global (kind_at t id) (record_at t id)))

-- the table with these externs in the DATASEC of an id, one after another, with their total size; and their variables are
-- Global
abbrev pub with_externs : Table → ℕ → List Extern → Table
with_externs t id xs =
    with_record (with_globals (map (λ (x : Extern). x.entry.type) xs) t) id
    (made_data_sec (record_at t id).name (total xs) (vlen (record_at t id).info) (externs_laid_out 0 xs))

-- The DATASEC of an id has these externs in order. The table stays as it is if their total size exceeds 32 bits.
pub record IsLaidOut (t : Table) (id : ℕ) (xs : List Extern) (new : Table) : Type 0 where
  pub sorted : List Extern
  pub rising : IsSorted extern_cmp sorted
  pub stable : IsStable extern_cmp xs sorted
  pub table : new ≡ (if nat_lt (total sorted) (2 ^ 32) then with_externs t id sorted else t)

-- The table is laid out if there are externs, and else it is unchanged.
abbrev pub LaysOut : Table → ℕ → Option (List Extern) → Table → Type 0
LaysOut t id (Some xs) new = IsLaidOut t id xs new
LaysOut t id None new = new ≡ t

-- a DATASEC of size 0 is laid out, if all its externs are known
abbrev pub ConfiguresIf : Bool → Table → ℕ → Table → Type 0
ConfiguresIf true t id new =
    (xs : Option (List Extern)) × FindsExterns t (section_entries (record_at t id).tail) xs × LaysOut t id xs new
ConfiguresIf false t id new = new ≡ t

-- the same by the result of the search for the DATASEC
abbrev pub ConfiguresAt : Table → Result ℕ Refusal → Table → Type 0
ConfiguresAt t (Ok id) new = ConfiguresIf ((record_at t id).third == 0) t id new
ConfiguresAt t (Err refusal) new = new ≡ t

-- The new table is the old one with its first DATASEC named `.kconfig` laid out.
abbrev pub IsConfigured : Table → Table → Type 0
IsConfigured old new =
    (found : Result ℕ Refusal) × FindsName old.strings old.records kinds.DataSec kconfig_name found
    × ConfiguresAt old found new
