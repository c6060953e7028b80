-- Compatible types of two fields, each in its own table.
-- Source: libbpf's `bpf_core_fields_are_compat`. The limit of 32 arrays, and the refusal of a name without a text, are
-- this project's: libbpf follows arrays without a limit, and reads past the strings.
use Rattle.std.specs.Prelude.{ℕ, zero, suc, ◌==◌, ◌&&◌, ◌||◌, not, if◌then◌else◌, Bool, true, false, List, Option, Some, None, Result, Ok, Err}
use Rattle.std.specs.Str.{bytes_eq}
use Rattle.btf_model.specs.Record.{Kind, Int, Ptr, Array, Enum, Fwd, Float, Enum64, Record, kind_of, kind_number, is_composite}
use Rattle.btf_model.specs.Fields.{int_offset, element_type}
use Rattle.btf_model.specs.Table.{Table}
use Rattle.btf_model.specs.Walk.{walk_limit}
use Rattle.btf_relocate_model.specs.Candidates.{compared_number, is_nameless}
use Rattle.btf_relocate_model.specs.Name.{essential}
use Rattle.btf_relocate_model.specs.Types.{◌>>=◌, name_at, resolved_record}
use Rattle.btf_relocate_model.specs.declared.error.RelocationError.{RelocationError}
use Rattle.btf_relocate_model.specs.declared.error.RelocationError.TheVariants.{MaximumTypeDepthReached}

-- two names agree if one is empty, or if their essential names are equal
abbrev pub names_agree : List ℕ → List ℕ → Bool
names_agree name other =
    is_nameless (essential name) || is_nameless (essential other) || bytes_eq (essential name) (essential other)

abbrev pub named_alike : Table → Table → Record → Record → Result Bool RelocationError
named_alike local target r s =
    name_at local r.name >>= λ name. name_at target s.name >>= λ other. Ok (names_agree name other)

-- two types of one kind, by their kinds
abbrev pub alike_by : Table → Table → Option Kind → Option Kind → Record → Record → Result Bool RelocationError
alike_by local target (Some Ptr) q r s = Ok true
alike_by local target (Some Float) q r s = Ok true
alike_by local target (Some Int) (Some Int) r s = Ok (int_offset r == 0 && int_offset s == 0)
alike_by local target (Some Fwd) q r s = named_alike local target r s
alike_by local target (Some Enum) q r s = named_alike local target r s
alike_by local target (Some Enum64) q r s = named_alike local target r s
alike_by local target k q r s = Ok false

-- STRUCT and UNION
abbrev pub is_composite_kind : Option Kind → Bool
is_composite_kind (Some k) = is_composite k
is_composite_kind None = false

-- Two types that are not both ARRAYs: STRUCTs and UNIONs are compatible, types of other kinds only with their kind.
abbrev pub alike : Table → Table → Record → Record → Result Bool RelocationError
alike local target r s =
    if is_composite_kind (kind_of r.info) && is_composite_kind (kind_of s.info) then Ok true
    else (if not (compared_number (kind_number r.info) == compared_number (kind_number s.info)) then Ok false
    else alike_by local target (kind_of r.info) (kind_of s.info) r s)

-- two ARRAYs are compared by their elements
abbrev pub compatible_by : (ℕ → ℕ → Result Bool RelocationError) → Table → Table → Option Kind → Option Kind → Record
    → Record → Result Bool RelocationError
compatible_by elements local target (Some Array) (Some Array) r s = elements (element_type r) (element_type s)
compatible_by elements local target k q r s = alike local target r s

-- The comparison of two ids, which may go through so many ARRAYs; `start` is the local id with which it began. Both ids
-- are resolved first.
unfoldable pub compatible_within : ℕ → ℕ → Table → Table → ℕ → ℕ → Result Bool RelocationError
compatible_within zero start local target id other = Err (MaximumTypeDepthReached start)
compatible_within (suc n) start local target id other =
    resolved_record local id >>= λ r. resolved_record target other >>= λ s.
    compatible_by (compatible_within n start local target) local target (kind_of r.info) (kind_of s.info) r s

-- Whether the types of two fields are compatible.
abbrev pub compatible : Table → Table → ℕ → ℕ → Result Bool RelocationError
compatible local target id other = compatible_within walk_limit id local target id other
