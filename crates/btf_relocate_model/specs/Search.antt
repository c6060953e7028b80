-- The search for a member of the target by its name, through members without a name.
-- Source: libbpf's `bpf_core_match_member`, with the limit of its `BPF_CORE_SPEC_MAX_LEN`. libbpf goes on after a
-- member whose type is not compatible, and adds its offset to a later one; here the first member of a name counts.
use Rattle.std.specs.Prelude.{ℕ, zero, suc, if◌then◌else◌, Bool, true, false, List, [], ◌∷◌, Option, Some, None, Result, Ok, Err}
use Rattle.std.specs.Str.{bytes_eq}
use Rattle.btf_model.specs.Record.{member_bit_offset}
use Rattle.btf_model.specs.Table.{Table}
use Rattle.btf_relocate_model.specs.Candidates.{is_nameless}
use Rattle.btf_relocate_model.specs.Field.{Member, member_field, members_of, moved_bit}
use Rattle.btf_relocate_model.specs.Types.{◌>>=◌, name_or_none, resolved_record}
use Rattle.btf_relocate_model.specs.declared.error.RelocationError.{RelocationError}
use Rattle.btf_relocate_model.specs.declared.error.RelocationError.TheVariants.{TooDeep}
use Rattle.btf_relocate_model.specs.declared.field.Field.{Field}

-- a place, and the number of members and elements on the way to it, the last one included
pub record Found : Type 0 where
  pub field : Field
  pub count : ℕ

-- whether no member follows
abbrev pub is_end : List Member → Bool
is_end [] = true
is_end ms = false

-- what was found in a member without a name, which begins at this bit of the type around it
abbrev pub further_out : ℕ → Found → Result (Option Found) RelocationError
further_out bit found =
    moved_bit bit found.field.bit >>= λ first.
    Ok (Some (record { field = record found.field { bit = first }; count = suc found.count }))

-- what a member without a name has; else what later members have
abbrev pub else_later : ℕ → Result (Option Found) RelocationError → Option Found → Result (Option Found) RelocationError
else_later bit later (Some found) = further_out bit found
else_later bit later None = later

-- The first member of a name, in order, where a member without a name has the members of its type in its place.
-- `inside` searches a type; `info` is the info word of the type whose members these are.
abbrev pub first_member : (ℕ → Result (Option Found) RelocationError) → Table → List ℕ → ℕ → List Member
    → Result (Option Found) RelocationError
first_member inside t name info [] = Ok None
first_member inside t name info (m ∷ ms) =
    if is_nameless (name_or_none t m.name)
    then (inside m.type >>= else_later (member_bit_offset info m.offset) (first_member inside t name info ms))
    else (if bytes_eq (name_or_none t m.name) name
    then (member_field info 0 (is_end ms) m >>= λ f. Ok (Some (record { field = f; count = 1 })))
    else first_member inside t name info ms)

-- no member may be looked at
abbrev pub without_room : List Member → Result (Option Found) RelocationError
without_room [] = Ok None
without_room ms = Err TooDeep

-- The member of a name in the STRUCT or UNION that an id resolves to, with its bit in this type. At most `room` members
-- may be on the way to any member that is looked at.
unfoldable pub search : ℕ → Table → List ℕ → ℕ → Result (Option Found) RelocationError
search zero t name id = resolved_record t id >>= λ r. without_room (members_of r)
search (suc room) t name id =
    resolved_record t id >>= λ r. first_member (search room t name) t name r.info (members_of r)
