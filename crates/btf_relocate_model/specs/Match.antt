-- The place in a candidate that a path of the program's table matches.
-- Source: libbpf's `bpf_core_spec_match`.
use Rattle.std.specs.Prelude.{ℕ, ◌+◌, ◌-◌, nat_lt, if◌then◌else◌, List, [], ◌∷◌, Option, Some, None, Result, Ok, Err}
use Rattle.btf_model.specs.Table.{Table}
use Rattle.btf_relocate_model.specs.Compatible.{compatible}
use Rattle.btf_relocate_model.specs.Field.{root, element, moved_bit}
use Rattle.btf_relocate_model.specs.Path.{PathStep, AtIndex, ToMember}
use Rattle.btf_relocate_model.specs.Search.{Found, search}
use Rattle.btf_relocate_model.specs.Types.{◌>>=◌}
use Rattle.btf_relocate_model.specs.declared.error.RelocationError.{RelocationError}
use Rattle.btf_relocate_model.specs.declared.error.RelocationError.TheVariants.{TooDeep}
use Rattle.btf_relocate_model.specs.declared.field.Field.{Field}

-- the maximum number of members and elements on the way to a field, members without a name included
abbrev pub path_limit : ℕ
path_limit = 64

-- an element, after so many members and elements
abbrev pub element_after : ℕ → Option Field → Result (Option Found) RelocationError
element_after count (Some f) =
    if nat_lt count path_limit then Ok (Some (record { field = f; count = count + 1 })) else Err TooDeep
element_after count None = Ok None

-- a member found in the type at a place
abbrev pub in_place : Found → Found → Result Found RelocationError
in_place at found =
    moved_bit at.field.bit found.field.bit >>= λ first.
    Ok (record { field = record found.field { bit = first }; count = at.count + found.count })

-- a member counts only if its type is compatible with that of the local member
abbrev pub if_compatible : Table → Table → ℕ → Found → Result (Option Found) RelocationError
if_compatible local t type found =
    compatible local t type found.field.type_id >>= λ is_compatible.
    if is_compatible then Ok (Some found) else Ok None

abbrev pub member_after : Table → Table → ℕ → Found → Option Found → Result (Option Found) RelocationError
member_after local t type at (Some found) = in_place at found >>= if_compatible local t type
member_after local t type at None = Ok None

-- The place that a step leads to from another place; none if the step does not match.
abbrev pub match_step : Table → ℕ → Table → Found → PathStep → Result (Option Found) RelocationError
match_step local pointer t at (AtIndex index) = element pointer t at.field index >>= element_after at.count
match_step local pointer t at (ToMember name type) =
    search (path_limit - at.count) t name at.field.type_id >>= member_after local t type at

-- the place after all steps, from a place on
abbrev pub match_from : Table → ℕ → Table → List PathStep → Option Found → Result (Option Field) RelocationError
match_from local pointer t steps None = Ok None
match_from local pointer t [] (Some at) = Ok (Some at.field)
match_from local pointer t (s ∷ ss) (Some at) =
    match_step local pointer t at s >>= match_from local pointer t ss

-- The place in a candidate that the steps of a path lead to; none if the candidate does not match.
abbrev pub match_path : Table → ℕ → Table → List PathStep → ℕ → Result (Option Field) RelocationError
match_path local pointer t (AtIndex index ∷ ss) candidate =
    root pointer t candidate index >>= λ f. match_from local pointer t ss (Some (record { field = f; count = 1 }))
match_path local pointer t steps candidate = Ok None
