-- What a rewrite changes each record to. Source: aya-obj's `fixup_and_sanitize`, kind by kind. As in aya-obj, a member
-- gets the new name of its type if the type has a lower id.
use Rattle.std.specs.Prelude.{ℕ, zero, suc, ◌+◌, ◌*◌, nat_lt, max, ◌==◌, ◌&&◌, ◌||◌, not, if◌then◌else◌, List, [], ◌∷◌, ◌++◌, length, map, slice_get, Option, Some, None, Result, Ok, Err}
use Rattle.std.specs.List.{flat_map}
use Rattle.std.specs.Option.{unwrap_or}
use Rattle.btf_model.specs.Record as kinds
use Rattle.btf_model.specs.Record.{Kind, Record, unknown, vlen}
use Rattle.btf_model.specs.Refusal.{Refusal}
use Rattle.btf_model.specs.Table.{Variant, Fallback}
use Rattle.btf_rewrite_model.specs.declared.feature.BtfFeature.TheVariants as features
use Rattle.btf_rewrite_model.specs.Feature.{is_global, is_signed}
use Rattle.btf_rewrite_model.specs.Made.{Entry, section_entries, variants, record_at, kind_at, is_static, wants_name, byte_int, const, typedef, struct, union, enum, made_data_sec, with_linkage, unsigned, enum64_fallback}
use Rattle.btf_rewrite_model.specs.Pass.{Pass, has, name_of, least, renaming, section_size, gets_filler, wants_member_type, offset_at, free_id, is_builtin, param_text, symbol_offset}

-- ---- functions

-- a FUNC for a kernel that has Func: a Global builtin becomes Static, and every Global function becomes Static if the
-- kernel does not have FuncGlobal
abbrev pub known_func : Pass → Record → Result (List ℕ) Refusal → Record
known_func p r (Ok name) = if is_global r && (is_builtin name || not (has p features.FuncGlobal)) then with_linkage 0 r else r
known_func p r (Err refusal) = r

-- the parameters of a prototype, counted from k: each one that has a type and no name gets the next of the texts that
-- begin at this offset
abbrev pub named_params : ℕ → ℕ → List ℕ → List ℕ
named_params k offset (name ∷ type ∷ words) =
    if wants_name name type then offset ∷ type ∷ named_params (k + 1) (offset + length (param_text k) + 1) words
    else name ∷ type ∷ named_params (k + 1) offset words
named_params k offset words = words

-- ---- ENUM64

-- the id of the member type, which is appended by the lowest ENUM64 that becomes a UNION
abbrev pub member_type_id : Pass → ℕ → ℕ
member_type_id p id = free_id p (least (wants_member_type p) id)

-- a member for each variant, with the variant's name and this type, at bit 0
abbrev pub variant_members : ℕ → List Variant → List ℕ
variant_members type vs = flat_map (λ (v : Variant). v.name ∷ type ∷ 0 ∷ []) vs

-- ---- DATASEC

-- the new name: this offset if a text is appended for it, else the old name
abbrev pub name_or : ℕ → ℕ → List (List ℕ) → ℕ
name_or old offset [] = old
name_or old offset (text ∷ texts) = offset

-- the string offset of the new name of an id
abbrev pub new_name : Pass → ℕ → Record → ℕ
new_name p id r = name_or r.name (offset_at p id) (renaming p (name_of p id))

-- the name of an entry's type for the member of this id: the new name if the type has a lower id, else the old name
abbrev pub member_name : Pass → List Record → ℕ → ℕ → ℕ
member_name p lower id type = if nat_lt type id then (unwrap_or (slice_get lower type) unknown).name else (record_at p.table type).name

-- a member for each entry, at its offset in bits
abbrev pub entry_members : Pass → List Record → ℕ → List Entry → List ℕ
entry_members p lower id es = flat_map (λ (e : Entry). member_name p lower id e.type ∷ e.type ∷ e.offset * 8 ∷ []) es

-- the id of the filler's VAR, which is after the filler's INT
abbrev pub filler_id : Pass → ℕ → ℕ
filler_id p id = free_id p (least (gets_filler p) id) + 1

-- the entry of a variable at the offset of its symbol; the entry of a Static variable is unchanged
abbrev pub placed : Pass → Entry → Entry
placed p e =
    if is_static (record_at p.table e.type) then e
    else record e { offset = unwrap_or (symbol_offset p e.type) e.offset }

-- a DATASEC of this size whose only entry is the filler
abbrev pub filled : Pass → ℕ → ℕ → Record → Record
filled p id size r = made_data_sec (new_name p id r) size 1 (record { type = filler_id p id; offset = 0; size = size } ∷ [])

-- A DATASEC of size 0 is completed: it gets the size of its section, and each entry gets its offset; or the filler
-- becomes its only entry.
abbrev pub completed : Pass → ℕ → ℕ → Record → Record
completed p id size r =
    if gets_filler p id then filled p id (max size 1) r
    else made_data_sec (new_name p id r) size (vlen r.info) (map (placed p) (section_entries r.tail))

-- A DATASEC that has a size retains it: it only gets its new name, or also the filler.
abbrev pub sized : Pass → ℕ → Record → Record
sized p id r = if gets_filler p id then filled p id r.third r else record r { name = new_name p id r }

-- ---- the rule of each kind

-- What the record of an id becomes, by its kind; `lower` has the new records of all lower ids.
abbrev pub becomes_by : Pass → List Record → ℕ → Option Kind → Record → Record
becomes_by p lower id (Some kinds.Ptr) r = record r { name = 0 }
becomes_by p lower id (Some kinds.Var) r = if has p features.DataSec then r else byte_int r.name
becomes_by p lower id (Some kinds.Float) r = if has p features.Float then r else struct 0 r.third 0 []
becomes_by p lower id (Some kinds.DeclTag) r = if has p features.DeclTag then r else byte_int r.name
becomes_by p lower id (Some kinds.TypeTag) r = if has p features.TypeTag then r else const r.third
becomes_by p lower id (Some kinds.Enum) r = if is_signed r && not (has p features.Enum64) then unsigned r else r
becomes_by p lower id (Some kinds.Enum64) r =
    if has p features.Enum64 then r
    else union r.name r.third (vlen r.info) (variant_members (member_type_id p id) (variants r.tail))
becomes_by p lower id (Some kinds.Func) r =
    if has p features.Func then known_func p r (name_of p id) else typedef r.name r.third
becomes_by p lower id (Some kinds.FuncProto) r =
    if has p features.Func then record r { tail = named_params 0 (offset_at p id) r.tail }
    else enum r.name (vlen r.info) r.tail
becomes_by p lower id (Some kinds.DataSec) r =
    if has p features.DataSec then (if r.third == 0 then completed p id (unwrap_or (section_size p id) 0) r
    else sized p id r)
    else struct (new_name p id r) (vlen r.info) (vlen r.info) (entry_members p lower id (section_entries r.tail))
becomes_by p lower id k r = r

-- the new records of this id and all lower ids, given the new records of the lower ids
abbrev pub with_ruled : Pass → ℕ → List Record → List Record
with_ruled p id lower = lower ++ becomes_by p lower id (kind_at p.table id) (record_at p.table id) ∷ []

-- the new records of all ids below this one
abbrev pub ruled_below : Pass → ℕ → List Record
ruled_below p zero = []
ruled_below p (suc id) = with_ruled p id (ruled_below p id)

-- the record that the record of an id becomes
abbrev pub becomes : Pass → ℕ → Record
becomes p id = becomes_by p (ruled_below p id) id (kind_at p.table id) (record_at p.table id)

-- The fallback of an id after the pass: an ENUM64 that becomes a UNION leaves a fallback; otherwise the old one is
-- retained.
abbrev pub falls_back_by : Pass → Option Kind → Record → Option Fallback → Option Fallback
falls_back_by p (Some kinds.Enum64) r old = if has p features.Enum64 then old else Some (enum64_fallback r)
falls_back_by p k r old = old

-- the fallback that an id has after the pass
abbrev pub falls_back : Pass → ℕ → Option Fallback
falls_back p id =
    falls_back_by p (kind_at p.table id) (record_at p.table id) (unwrap_or (slice_get p.table.fallbacks id) None)
