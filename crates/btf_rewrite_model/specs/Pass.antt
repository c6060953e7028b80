-- The features that each record asks the kernel for in a rewrite, and what the record appends to the table. Source:
-- aya-obj's `fixup_and_sanitize`. This project's profile asks for a feature when its answer is first needed. It also
-- determines when DataSecZero is asked for, and the policy on DATASECs that have a size.
use Rattle.std.specs.Prelude.{ℕ, zero, suc, ◌+◌, ◌==◌, ◌&&◌, ◌||◌, not, Bool, true, false, if◌then◌else◌, List, [], ◌∷◌, ◌++◌, length, map, codes, Option, Some, None, Result, Ok, Err}
use Rattle.std.specs.List.{list_any, filter, sum_by}
use Rattle.std.specs.Option.{is_none}
use Rattle.std.specs.Str.{bytes_eq}
use Rattle.std.specs.Fmt.{decimal}
use Rattle.btf_model.specs.Record.{Kind, FuncProto, Record}
use Rattle.btf_model.specs.Record as kinds
use Rattle.btf_model.specs.Refusal.{Refusal}
use Rattle.btf_model.specs.Table.{Table, type_bytes}
use Rattle.btf_model.specs.Text.{text_at}
use Rattle.btf_rewrite_model.specs.declared.feature.BtfFeature.TheVariants as features
use Rattle.btf_rewrite_model.specs.Feature.{fills_sized, grants, same_feature, is_global, is_signed, has_no_entries, is_sized_and_empty}
use Rattle.btf_rewrite_model.specs.declared.feature.BtfFeature.{BtfFeature}
use Rattle.btf_rewrite_model.specs.declared.feature.FeatureAnswer.{FeatureAnswer}
use Rattle.btf_rewrite_model.specs.declared.feature.FillPolicy.{FillPolicy}
use Rattle.btf_rewrite_model.specs.Made.{record_at, kind_at, byte_int, static_var, wants_name}
use Rattle.btf_rewrite_model.specs.Checks.{Check, first_fault, name_is_read, have_room, record_len, in_a_word}

-- what a rewrite knows about the program: the sizes of its sections and the offsets of its symbols, by name
pub record Layout : Type 0 where
  pub sections : List ℕ → Option ℕ
  pub symbols : List ℕ → Option ℕ

-- the layout of a program that has no sections and no symbols
abbrev pub no_layout : Layout
no_layout = record { sections = λ name. None; symbols = λ name. None }

-- A pass over a table: the table as the pass begins, in which all names and ids are read; the layout of the program;
-- the policy for DATASECs that have a size and no entries; and the kernel's answers.
pub record Pass : Type 0 where
  pub table : Table
  pub layout : Layout
  pub policy : FillPolicy
  pub answers : List FeatureAnswer

-- the kernel has a feature, by the answers
abbrev pub has : Pass → BtfFeature → Bool
has p feature = grants p.answers feature

-- the name of the record of an id, or why it cannot be read
abbrev pub name_of : Pass → ℕ → Result (List ℕ) Refusal
name_of p id = text_at p.table.strings (record_at p.table id).name

-- n if it passes the test, else the other number
abbrev pub passing_or : (ℕ → Bool) → ℕ → ℕ → ℕ
passing_or test n other = if test n then n else other

-- The least number up to this one that passes the test, or this one if no lower number passes.
abbrev pub least : (ℕ → Bool) → ℕ → ℕ
least test zero = zero
least test (suc n) = passing_or test (least test n) (suc n)

-- This number passes the test, and no lower number does.
abbrev pub is_least : (ℕ → Bool) → ℕ → Bool
is_least test n = test n && (least test n == n)

-- ---- names of sections

-- the byte of `/`
abbrev pub slash : ℕ
slash = 0x2f

-- the byte of `.`
abbrev pub dot : ℕ
dot = 0x2e

-- the byte of `_`
abbrev pub underscore_byte : ℕ
underscore_byte = 0x5f

-- a name in which each occurrence of one byte is replaced by another
abbrev pub replaced : ℕ → ℕ → List ℕ → List ℕ
replaced byte other name = map (λ b. if b == byte then other else b) name

-- The new name of a DATASEC. If it stays a DATASEC, `.` replaces `/`, because kernels refuse `/`. If it becomes a
-- STRUCT, `_` replaces `.`, because no C name has a `.`.
abbrev pub new_section_name : Pass → List ℕ → List ℕ
new_section_name p name = if has p features.DataSec then replaced slash dot name else replaced dot underscore_byte name

-- the text that is appended for a new name; none if the name is unchanged
abbrev pub renaming : Pass → Result (List ℕ) Refusal → List (List ℕ)
renaming p (Ok name) = if bytes_eq (new_section_name p name) name then [] else new_section_name p name ∷ []
renaming p (Err refusal) = []

-- ---- sizes of sections, offsets of symbols, and the filler

-- the size of the section that a DATASEC describes, by its name, if the size is known and has 32 bits
abbrev pub size_by_name : Pass → Result (List ℕ) Refusal → Option ℕ
size_by_name p (Ok name) = in_a_word (p.layout.sections name)
size_by_name p (Err refusal) = None

-- the size of the section with the name of this id, if the size is known and has 32 bits
abbrev pub section_size : Pass → ℕ → Option ℕ
section_size p id = size_by_name p (name_of p id)

-- the offset of the symbol of a variable, by its name, if the offset is known and has 32 bits
abbrev pub symbol_by_name : Pass → Result (List ℕ) Refusal → Option ℕ
symbol_by_name p (Ok name) = in_a_word (p.layout.symbols name)
symbol_by_name p (Err refusal) = None

-- the offset of the symbol with the name of this id, if the offset is known and has 32 bits
abbrev pub symbol_offset : Pass → ℕ → Option ℕ
symbol_offset p id = symbol_by_name p (name_of p id)

-- A DATASEC of size 0, as compilers write it. The pass completes it.
abbrev pub is_unsized : Option Kind → Record → Bool
is_unsized (Some kinds.DataSec) r = r.third == 0
is_unsized k r = false

-- the size is known, and it is 0 or this holds
abbrev pub is_zero_or : Bool → Option ℕ → Bool
is_zero_or other (Some size) = (size == 0) || other
is_zero_or other None = false

-- the kernel does not accept a DATASEC without entries
abbrev pub wants_entries : Pass → Bool
wants_entries p = not (has p features.DataSecZero)

-- A DATASEC of size 0 without entries gets the filler as its entry if the size of its section is known, and if this
-- size is 0 or the kernel does not accept a DATASEC without entries.
abbrev pub fills_unsized : Pass → ℕ → Bool
fills_unsized p id =
    let r = record_at p.table id in
    is_unsized (kind_at p.table id) r && has_no_entries r && is_zero_or (wants_entries p) (section_size p id)

-- A DATASEC that has a size and no entries gets the filler if the policy fills it and the kernel does not accept a
-- DATASEC without entries.
abbrev pub fills_sized_one : Pass → ℕ → Bool
fills_sized_one p id =
    fills_sized p.policy && is_sized_and_empty (kind_at p.table id) (record_at p.table id) && wants_entries p

-- The id is a DATASEC that gets the filler as its entry.
abbrev pub gets_filler : Pass → ℕ → Bool
gets_filler p id = has p features.DataSec && (fills_sized_one p id || fills_unsized p id)

-- The least id that gets the filler makes it: an INT, and a VAR of this INT.
abbrev pub makes_filler : Pass → ℕ → Bool
makes_filler p id = is_least (gets_filler p) id

-- the name of the filler's INT
abbrev pub filler_type_text : List ℕ
filler_type_text = codes "__aya_datasec_filler_type"

-- the name of the filler's VAR
abbrev pub filler_text : List ℕ
filler_text = codes "__aya_datasec_filler"

-- ---- the member type of the UNIONs that ENUM64s become

-- the kind is ENUM64
abbrev pub is_enum64 : Option Kind → Bool
is_enum64 (Some kinds.Enum64) = true
is_enum64 k = false

-- The id is an ENUM64 that becomes a UNION, whose members all have the member type.
abbrev pub wants_member_type : Pass → ℕ → Bool
wants_member_type p id = is_enum64 (kind_at p.table id) && not (has p features.Enum64)

-- The least such id appends the member type, an INT of one byte.
abbrev pub makes_member_type : Pass → ℕ → Bool
makes_member_type p id = is_least (wants_member_type p) id

-- the name of the INT of one byte
abbrev pub member_type_text : List ℕ
member_type_text = codes "enum64_placeholder"

-- ---- what an id appends

-- the name of the parameter at a place
abbrev pub param_text : ℕ → List ℕ
param_text k = codes "param" ++ decimal k

-- a name for each parameter that has a type and no name, by its index among all parameters, counted from k
abbrev pub param_texts : ℕ → List ℕ → List (List ℕ)
param_texts k (name ∷ type ∷ words) =
    (if wants_name name type then param_text k ∷ [] else []) ++ param_texts (k + 1) words
param_texts k words = []

-- The texts that an id appends to the strings, in order.
abbrev pub texts_by : Pass → ℕ → Option Kind → Record → List (List ℕ)
texts_by p id (Some kinds.FuncProto) r = if has p features.Func then param_texts 0 r.tail else []
texts_by p id (Some kinds.Enum64) r = if makes_member_type p id then member_type_text ∷ [] else []
texts_by p id (Some kinds.DataSec) r =
    renaming p (name_of p id) ++ (if makes_filler p id then filler_type_text ∷ filler_text ∷ [] else [])
texts_by p id k r = []

-- the texts that an id appends, by its record
abbrev pub texts : Pass → ℕ → List (List ℕ)
texts p id = texts_by p id (kind_at p.table id) (record_at p.table id)

-- the texts that all ids below this one append
abbrev pub texts_below : Pass → ℕ → List (List ℕ)
texts_below p zero = []
texts_below p (suc id) = texts_below p id ++ texts p id

-- the number of bytes of the texts, each with its zero byte
abbrev pub texts_len : List (List ℕ) → ℕ
texts_len ts = sum_by (λ text. length text + 1) ts

-- the offset of the first text that an id appends
abbrev pub offset_at : Pass → ℕ → ℕ
offset_at p id = length p.table.strings + texts_len (texts_below p id)

-- the offset of the filler's first text, after the new name
abbrev pub filler_offset : Pass → ℕ → ℕ
filler_offset p id = offset_at p id + texts_len (renaming p (name_of p id))

-- the INT and the VAR of the filler, if its texts begin at this offset and its ids at this id
abbrev pub filler : ℕ → ℕ → List Record
filler offset id = byte_int offset ∷ static_var (offset + length filler_type_text + 1) id ∷ []

-- The records that an id appends to the types, in order; `free` is the first free id.
abbrev pub added_by : Pass → ℕ → ℕ → Option Kind → List Record
added_by p free id (Some kinds.Enum64) = if makes_member_type p id then byte_int (offset_at p id) ∷ [] else []
added_by p free id (Some kinds.DataSec) = if makes_filler p id then filler (filler_offset p id) free else []
added_by p free id k = []

-- the records that are appended before, and then the records of this id
abbrev pub with_added : Pass → ℕ → List Record → List Record
with_added p id before = before ++ added_by p (length p.table.records + length before) id (kind_at p.table id)

-- the records that all ids below this one append
abbrev pub added_below : Pass → ℕ → List Record
added_below p zero = []
added_below p (suc id) = with_added p id (added_below p id)

-- the id of the first record that this id appends
abbrev pub free_id : Pass → ℕ → ℕ
free_id p id = length p.table.records + length (added_below p id)

-- the records that an id appends
abbrev pub added : Pass → ℕ → List Record
added p id = added_by p (free_id p id) id (kind_at p.table id)

-- the number of bytes by which all DATASECs below this id grow: 12 for each entry
abbrev pub growth_below : Pass → ℕ → ℕ
growth_below p zero = 0
growth_below p (suc id) = growth_below p id + (if gets_filler p id then 12 else 0)

-- the length of all records when the pass comes to an id
abbrev pub type_len_at : Pass → ℕ → ℕ
type_len_at p id = length (type_bytes p.table) + sum_by record_len (added_below p id) + growth_below p id

-- ---- what an id asks

-- the names of functions that compilers emit as Global, and that kernels require to be Static
abbrev pub builtins : List (List ℕ)
builtins = codes "memset" ∷ codes "memcpy" ∷ codes "memmove" ∷ codes "memcmp" ∷ []

-- the name is one of these
abbrev pub is_builtin : List ℕ → Bool
is_builtin name = list_any (bytes_eq name) builtins

-- A FUNC asks for Func first; a Global one that is no builtin then asks for FuncGlobal.
abbrev pub func_asks : Pass → Record → Result (List ℕ) Refusal → List BtfFeature
func_asks p r (Ok name) =
    if has p features.Func && is_global r && not (is_builtin name)
    then features.Func ∷ features.FuncGlobal ∷ [] else features.Func ∷ []
func_asks p r (Err refusal) = []

-- the size is known, and is not 0
abbrev pub is_positive : Option ℕ → Bool
is_positive (Some size) = not (size == 0)
is_positive None = false

-- the name of a DATASEC can be read, and its new name fits
abbrev pub name_checks : Pass → ℕ → List Check
name_checks p id = name_is_read (name_of p id) ∷ have_room (offset_at p id) (renaming p (name_of p id))

-- A DATASEC of size 0 without entries asks for DataSecZero if its section has a size above 0, after the test that its
-- new name fits.
abbrev pub unsized_asks_zero : Pass → ℕ → Record → Bool
unsized_asks_zero p id r =
    (r.third == 0) && has_no_entries r && is_none (first_fault (have_room (offset_at p id) (renaming p (name_of p id))))
    && is_positive (section_size p id)

-- A DATASEC that has a size and no entries asks for DataSecZero if the policy fills it, after the tests of its name.
abbrev pub sized_asks_zero : Pass → ℕ → Record → Bool
sized_asks_zero p id r =
    fills_sized p.policy && not (r.third == 0) && has_no_entries r && is_none (first_fault (name_checks p id))

-- A DATASEC asks for DataSec first, and then for DataSecZero in these two cases.
abbrev pub data_sec_asks : Pass → ℕ → Record → List BtfFeature
data_sec_asks p id r =
    if has p features.DataSec && (sized_asks_zero p id r || unsized_asks_zero p id r)
    then features.DataSec ∷ features.DataSecZero ∷ [] else features.DataSec ∷ []

-- The features that an id asks for, in order, by its kind.
abbrev pub asks_by : Pass → ℕ → Option Kind → Record → List BtfFeature
asks_by p id (Some kinds.Var) r = features.DataSec ∷ []
asks_by p id (Some kinds.Float) r = features.Float ∷ []
asks_by p id (Some kinds.DeclTag) r = features.DeclTag ∷ []
asks_by p id (Some kinds.TypeTag) r = features.TypeTag ∷ []
asks_by p id (Some kinds.Enum) r = if is_signed r then features.Enum64 ∷ [] else []
asks_by p id (Some kinds.Enum64) r = features.Enum64 ∷ []
asks_by p id (Some kinds.Func) r = func_asks p r (name_of p id)
asks_by p id (Some kinds.FuncProto) r = features.Func ∷ []
asks_by p id (Some kinds.DataSec) r = data_sec_asks p id r
asks_by p id k r = []

-- the features that an id asks for, in order
abbrev pub asks : Pass → ℕ → List BtfFeature
asks p id = asks_by p id (kind_at p.table id) (record_at p.table id)

-- what all ids below this one ask for
abbrev pub asks_below : Pass → ℕ → List BtfFeature
asks_below p zero = []
asks_below p (suc id) = asks_below p id ++ asks p id

-- each feature at its first place only
abbrev pub each_once : List BtfFeature → List BtfFeature
each_once [] = []
each_once (feature ∷ fs) = feature ∷ filter (λ f. not (same_feature feature f)) (each_once fs)

-- The features that a whole pass asks for, in order.
abbrev pub Asked : Pass → List BtfFeature
Asked p = each_once (asks_below p (length p.table.records))
