-- Why a rewrite is refused at an id. Source: aya-obj's `fixup_and_sanitize`, whose order the tests have; the limits are
-- tested where a text or a record is appended.
use Rattle.std.specs.Prelude.{ℕ, ◌+◌, ◌*◌, ◌^◌, nat_lt, ◌==◌, if◌then◌else◌, List, [], ◌∷◌, ◌++◌, length, Option, Some, None, Result, Ok}
use Rattle.std.specs.List.{flat_map, sum_by}
use Rattle.btf_model.specs.Record as kinds
use Rattle.btf_model.specs.Record.{Kind, Record}
use Rattle.btf_model.specs.Refusal.{Refusal, InvalidTypeInfo, UnknownSectionSize, SymbolOffsetNotFound}
use Rattle.btf_rewrite_model.specs.declared.feature.BtfFeature.TheVariants as features
use Rattle.btf_rewrite_model.specs.Made.{Entry, section_entries, record_at, kind_at, is_static, byte_int, static_var}
use Rattle.btf_rewrite_model.specs.Checks.{Check, first_fault, name_is_read, is_known, has_room, have_room, fits, record_len}
use Rattle.btf_rewrite_model.specs.Ksyms.{is_var}
use Rattle.btf_rewrite_model.specs.Pass.{Pass, has, name_of, name_checks, section_size, gets_filler, makes_filler, filler_type_text, filler_text, filler_offset, texts, added, offset_at, type_len_at, symbol_offset, member_type_text}

-- ---- DATASEC

-- an entry that becomes a member: its type exists, and its offset in bits has 32 bits
abbrev pub member_checks : Pass → Entry → List Check
member_checks p e =
    is_known p.table e.type ∷ (if nat_lt (e.offset * 8) (2 ^ 32) then None else Some InvalidTypeInfo) ∷ []

-- the size of its section is known; the refusal for an unknown size needs a name that can be read
abbrev pub is_sized : Option ℕ → Result (List ℕ) Refusal → Check
is_sized None (Ok name) = Some (UnknownSectionSize name)
is_sized size name = None

-- the symbol of a variable is known; the refusal for an unknown symbol needs a name that can be read
abbrev pub is_placed : Option ℕ → Result (List ℕ) Refusal → Check
is_placed None (Ok name) = Some (SymbolOffsetNotFound name)
is_placed offset name = None

-- an entry that is completed: its type exists, is a VAR, has a name, and has a symbol unless it is Static
abbrev pub entry_checks : Pass → Entry → List Check
entry_checks p e =
    is_known p.table e.type ∷ is_var (kind_at p.table e.type) ∷ name_is_read (name_of p e.type)
    ∷ (if is_static (record_at p.table e.type) then None else is_placed (symbol_offset p e.type) (name_of p e.type))
    ∷ []

-- the filler fits, with its texts from this offset on and its records after the bytes that are used: each text, then
-- its record
abbrev pub filler_has_room : ℕ → ℕ → List Check
filler_has_room offset used =
    has_room offset filler_type_text ∷ fits used (record_len (byte_int 0))
    ∷ has_room (offset + length filler_type_text + 1) filler_text
    ∷ fits (used + record_len (byte_int 0)) (record_len (static_var 0 0)) ∷ []

-- the filler that an id appends fits
abbrev pub filler_checks : Pass → ℕ → List Check
filler_checks p id = filler_has_room (filler_offset p id) (type_len_at p id)

-- the entry of the filler fits, after what was appended
abbrev pub growth_checks : Pass → ℕ → List Check
growth_checks p id = if gets_filler p id then fits (type_len_at p id + sum_by record_len (added p id)) 12 ∷ [] else []

-- the tests of a DATASEC that has a size, after the tests of its name: the filler fits, if this id makes it, and the
-- filler's entry fits
abbrev pub filling_checks : Pass → ℕ → List Check
filling_checks p id = (if makes_filler p id then filler_checks p id else []) ++ growth_checks p id

-- the tests of a DATASEC of size 0, after the tests of its name
abbrev pub completing_checks : Pass → ℕ → Record → List Check
completing_checks p id r =
    is_sized (section_size p id) (name_of p id) ∷ (if makes_filler p id then filler_checks p id else [])
    ++ flat_map (entry_checks p) (section_entries r.tail) ++ growth_checks p id

-- ---- the tests of each kind

-- records fit, one after the other
abbrev pub all_fit : ℕ → List Record → List Check
all_fit used [] = []
all_fit used (r ∷ rs) = fits used (record_len r) ∷ all_fit (used + record_len r) rs

-- the member type fits, with its text at this offset and its record after the bytes that are used
abbrev pub member_type_has_room : ℕ → ℕ → List Check
member_type_has_room offset used = have_room offset (member_type_text ∷ []) ++ all_fit used (byte_int offset ∷ [])

-- The tests of an id, in order, by its kind.
abbrev pub checks_by : Pass → ℕ → Option Kind → Record → List Check
checks_by p id (Some kinds.Func) r = name_is_read (name_of p id) ∷ []
checks_by p id (Some kinds.FuncProto) r = have_room (offset_at p id) (texts p id)
checks_by p id (Some kinds.Enum64) r =
    have_room (offset_at p id) (texts p id) ++ all_fit (type_len_at p id) (added p id)
checks_by p id (Some kinds.DataSec) r =
    name_checks p id ++ (if has p features.DataSec
    then (if r.third == 0 then completing_checks p id r else filling_checks p id)
    else flat_map (member_checks p) (section_entries r.tail))
checks_by p id k r = []

-- Why a rewrite is refused at this id, if it is.
abbrev pub fault : Pass → ℕ → Option Refusal
fault p id = first_fault (checks_by p id (kind_at p.table id) (record_at p.table id))
