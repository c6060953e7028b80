-- The path of a record about a field, in the program's own table.
-- Source: libbpf's `bpf_core_parse_spec`. A path that ends in a member without a name is refused here, because its
-- offset is not part of the path that is searched for in the target.
use Rattle.std.specs.Prelude.{ℕ, ◌==◌, if◌then◌else◌, List, [], ◌∷◌, Option, Some, None, Result, Ok, Err}
use Rattle.btf_model.specs.Table.{Table}
use Rattle.btf_relocate_model.specs.Candidates.{is_nameless}
use Rattle.btf_relocate_model.specs.Field.{root, element, member}
use Rattle.btf_relocate_model.specs.Types.{◌>>=◌, name_at}
use Rattle.btf_relocate_model.specs.declared.error.RelocationError.{RelocationError}
use Rattle.btf_relocate_model.specs.declared.error.RelocationError.TheVariants.{BadAccess, BadIndex}
use Rattle.btf_relocate_model.specs.declared.field.Field.{Field}

-- the size of a pointer in a program's own table
abbrev pub local_pointer : ℕ
local_pointer = 8

-- A step of a path: the element at an index, where the first step counts whole values of the type, or the member of a
-- name, with the id of its type. A member without a name is no step, because the target may have its members elsewhere.
pub data PathStep : Type 0 where
  AtIndex : (index : ℕ) → PathStep
  ToMember : (name : List ℕ) → (type : ℕ) → PathStep

-- the place that an index leads to, and the step to it, if it is one
pub record Place : Type 0 where
  pub field : Field
  pub step : Option PathStep

-- the path that an access describes: its steps, and the place that it leads to
pub record Path : Type 0 where
  pub steps : List PathStep
  pub field : Field

-- ---- one index

-- A member without a name. Whether an array in it is flexible depends on the last member that has a name.
abbrev pub nameless_place : Field → Field → Place
nameless_place around f =
    record { field = record f { is_member = around.is_member; is_last = around.is_last }; step = None }

-- a member whose name has this text
abbrev pub named_place : Field → List ℕ → Result Place RelocationError
named_place f name =
    if is_nameless name then Err BadAccess
    else Ok (record { field = f; step = Some (ToMember name f.type_id) })

-- a member whose name is at this string offset
abbrev pub member_place : Table → Field → Field → ℕ → Result Place RelocationError
member_place t around f offset =
    if offset == 0 then Ok (nameless_place around f) else (name_at t offset >>= named_place f)

-- an element, if there is one
abbrev pub element_place : ℕ → Option Field → Result Place RelocationError
element_place index (Some f) = Ok (record { field = f; step = Some (AtIndex index) })
element_place index None = Err BadIndex

-- a member, if there is one, else an element
abbrev pub place_by : Table → Field → ℕ → Option (Field × ℕ) → Result Place RelocationError
place_by t around index (Some m) = member_place t around m.0 m.1
place_by t around index None = element local_pointer t around index >>= element_place index

-- The place that an index leads to from another place.
abbrev pub place_at : Table → Field → ℕ → Result Place RelocationError
place_at t around index = member t around index >>= place_by t around index

-- ---- all indices

-- the path of one place, which has to be a step
abbrev pub ended_path : Field → Option PathStep → Result Path RelocationError
ended_path f (Some s) = Ok (record { steps = s ∷ []; field = f })
ended_path f None = Err BadAccess

-- a path after a step, if there is one
abbrev pub after_step : Option PathStep → Path → Path
after_step (Some s) p = record { steps = s ∷ p.steps; field = p.field }
after_step None p = p

-- the path from a place on
abbrev pub path_from : Table → Place → List ℕ → Result Path RelocationError
path_from t p [] = ended_path p.field p.step
path_from t p (i ∷ is) = place_at t p.field i >>= λ q. path_from t q is >>= λ path. Ok (after_step p.step path)

-- The path that the indices of an access describe, from a type on.
abbrev pub path_of : Table → ℕ → List ℕ → Result Path RelocationError
path_of t id [] = Err BadAccess
path_of t id (i ∷ is) =
    root local_pointer t id i >>= λ f. path_from t (record { field = f; step = Some (AtIndex i) }) is
