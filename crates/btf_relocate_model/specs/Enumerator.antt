-- Enumerators, by index and by name.
-- Source: libbpf's `bpf_core_parse_spec`, `bpf_core_spec_match` and `bpf_core_calc_enumval_relo`, for enumerators. The
-- value of an ENUM is sign-extended whatever its kind flag says, as there.
use Rattle.std.specs.Prelude.{ℕ, ◌+◌, ◌*◌, ◌^◌, if◌then◌else◌, List, [], ◌∷◌, slice_get, Option, Some, None, Result, Ok, Err}
use Rattle.std.specs.Str.{bytes_eq}
use Rattle.btf_model.specs.Record.{Kind, Enum, Enum64, kind_of}
use Rattle.btf_model.specs.Table.{Table, Variant}
use Rattle.btf_relocate_model.specs.Instruction.{sign_extended}
use Rattle.btf_relocate_model.specs.Name.{essential}
use Rattle.btf_relocate_model.specs.Types.{◌>>=◌, name_at, resolved_record}
use Rattle.btf_relocate_model.specs.declared.error.RelocationError.{RelocationError}
use Rattle.btf_relocate_model.specs.declared.error.RelocationError.TheVariants.{BadIndex}

-- the enumerators in the words of an ENUM: a name and a value of 32 bits
abbrev pub narrow_enumerators : List ℕ → List Variant
narrow_enumerators (name ∷ value ∷ words) =
    record { name = name; value = sign_extended 32 value } ∷ narrow_enumerators words
narrow_enumerators words = []

-- the enumerators in the words of an ENUM64: a name and the two halves of a value
abbrev pub wide_enumerators : List ℕ → List Variant
wide_enumerators (name ∷ low ∷ high ∷ words) =
    record { name = name; value = high * 2 ^ 32 + low } ∷ wide_enumerators words
wide_enumerators words = []

-- the enumerators of a type, by its kind; none for a type that is no enumeration
abbrev pub enumerators_by : Option Kind → List ℕ → List Variant
enumerators_by (Some Enum) words = narrow_enumerators words
enumerators_by (Some Enum64) words = wide_enumerators words
enumerators_by k words = []

-- The enumerators of the type that an id resolves to.
abbrev pub enumerators : Table → ℕ → Result (List Variant) RelocationError
enumerators t id =
    resolved_record t id >>= λ r. Ok (enumerators_by (kind_of r.info) r.tail)

-- the enumerator at an index, and its name
abbrev pub named_enumerator : Table → Option Variant → Result (Variant × List ℕ) RelocationError
named_enumerator t (Some v) = name_at t v.name >>= λ name. Ok (v, name)
named_enumerator t None = Err BadIndex

abbrev pub enumerator_at : Table → ℕ → ℕ → Result (Variant × List ℕ) RelocationError
enumerator_at t id index = enumerators t id >>= λ vs. named_enumerator t (slice_get vs index)

-- The first of these enumerators that has the essential name of a name; none if no name agrees. The names are read in
-- order, up to that one.
abbrev pub first_named : Table → List ℕ → List Variant → Result (Option Variant) RelocationError
first_named t name [] = Ok None
first_named t name (v ∷ vs) =
    name_at t v.name >>= λ other.
    if bytes_eq (essential other) (essential name) then Ok (Some v) else first_named t name vs

-- The enumerator of a candidate that has the essential name of a name.
abbrev pub find_enumerator : Table → ℕ → List ℕ → Result (Option Variant) RelocationError
find_enumerator t id name = enumerators t id >>= λ vs. first_named t name vs
