-- The search for a member, with the number of levels that were searched in vain, and what is remembered of it.
use Rattle.std.specs.Prelude.{◌≡◌, ℕ, zero, suc, max, ◌<◌, ◌≤◌, if◌then◌else◌, List, [], ◌∷◌, Option, Some, None, Result, Ok, Err}
use Rattle.std.specs.BTreeMap.{BTreeMap, get}
use Rattle.std.specs.Ordering.{nat_cmp}
use Rattle.std.specs.Str.{bytes_eq}
use Rattle.btf_model.specs.Record.{Record, member_bit_offset}
use Rattle.btf_model.specs.Table.{Table}
use Rattle.btf_relocate_model.specs.Candidates.{is_nameless}
use Rattle.btf_relocate_model.specs.Field.{Member, member_field, members_of, moved_bit}
use Rattle.btf_relocate_model.specs.Search as model
use Rattle.btf_relocate_model.specs.Search.{is_end}
use Rattle.btf_relocate_model.specs.Types.{◌>>=◌, name_or_none, required_record, resolved_record}
use Rattle.btf_relocate_model.specs.declared.error.RelocationError.{RelocationError}
use Rattle.btf_relocate_model.specs.declared.error.RelocationError.TheVariants.{TooDeep}
use Rattle.btf_relocate_model.specs.declared.field.Field.{Field}
use Rattle.btf_relocate.specs.declared.search.Found.{Found}
use Rattle.btf_relocate.specs.declared.search.Found.TheVariants as code

-- what was found, as the definition sees it
abbrev pub found_of : Found → Option model.Found
found_of (code.Member f n) = Some (record { field = f; count = n })
found_of (code.Nothing h) = None

-- the number of members on the way to what was found, or of levels
abbrev pub levels_of : Found → ℕ
levels_of (code.Member f n) = n
levels_of (code.Nothing h) = h

-- what was found in a member without a name, which begins at this bit
abbrev pub outward : ℕ → Field → ℕ → Result Found RelocationError
outward bit f n = moved_bit bit f.bit >>= λ first. Ok (code.Member (record f { bit = first }) (suc n))

-- what was found in a member without a name; or what later members have, after so many levels
abbrev pub or_later : ℕ → (ℕ → Result Found RelocationError) → Found → Result Found RelocationError
or_later bit later (code.Member f n) = outward bit f n
or_later bit later (code.Nothing h) = later (suc h)

-- the members from one on, after so many levels
abbrev pub among : (ℕ → Result Found RelocationError) → Table → List ℕ → ℕ → ℕ → List Member
    → Result Found RelocationError
among inside t name info levels [] = Ok (code.Nothing levels)
among inside t name info levels (m ∷ ms) =
    if is_nameless (name_or_none t m.name)
    then (inside m.type
    >>= or_later (member_bit_offset info m.offset) (λ h. among inside t name info (max levels h) ms))
    else (if bytes_eq (name_or_none t m.name) name
    then (member_field info 0 (is_end ms) m >>= λ f. Ok (code.Member f 1))
    else among inside t name info (max levels 1) ms)

-- no member may be looked at
abbrev pub found_without_room : List Member → Result Found RelocationError
found_without_room [] = Ok (code.Nothing 0)
found_without_room ms = Err TooDeep

-- the search in a type
unfoldable pub within : ℕ → Table → List ℕ → Record → Result Found RelocationError
within zero t name r = found_without_room (members_of r)
within (suc room) t name r =
    among (λ id. resolved_record t id >>= within room t name) t name r.info 0 (members_of r)

-- the search in the type that an id resolves to
abbrev pub from_id : ℕ → Table → List ℕ → ℕ → Result Found RelocationError
from_id room t name id = resolved_record t id >>= within room t name

-- A search that finds nothing finds nothing with more room. It needs room for its levels.
abbrev pub InVain : Table → List ℕ → Record → ℕ → Type 0
InVain t name r h =
    (room : ℕ) → (h ≤ room → within room t name r ≡ Ok (code.Nothing h))
    × (room < h → within room t name r ≡ Err TooDeep)

-- what is remembered of the types that were searched in vain
abbrev pub Remembers : Table → List ℕ → BTreeMap ℕ ℕ → Type 0
Remembers t name searched =
    (id h : ℕ) → get nat_cmp searched id ≡ Some h → (r : Record) → required_record t id ≡ Ok r → InVain t name r h
