-- The kinds of relocations.
-- Source: the kernel's `enum bpf_core_relo_kind` in include/uapi/linux/bpf.h; the texts are those of libbpf's
-- `core_relo_kind_str`.
use Rattle.std.specs.Prelude.{◌≡◌, ℕ, List, [], ◌∷◌, codes, Result, Ok, Err, None, Some, slice_get}
use Rattle.btf_relocate_model.specs.declared.error.RelocationError.{RelocationError}
use Rattle.btf_relocate_model.specs.declared.error.RelocationError.TheVariants.{UnknownKind}
use Rattle.btf_relocate_model.specs.declared.kind.RelocationKind.{RelocationKind}
use Rattle.btf_relocate_model.specs.declared.kind.RelocationKind.TheVariants.{FieldByteOffset, FieldByteSize, FieldExists, FieldSigned, FieldLShift64, FieldRShift64, TypeIdLocal, TypeIdTarget, TypeExists, TypeSize, EnumeratorExists, EnumeratorValue, TypeMatches}

-- the kinds in the order of their numbers, from 0 to 12
abbrev pub relocation_kinds : List RelocationKind
relocation_kinds =
    FieldByteOffset ∷ FieldByteSize ∷ FieldExists ∷ FieldSigned ∷ FieldLShift64 ∷ FieldRShift64 ∷ TypeIdLocal
    ∷ TypeIdTarget ∷ TypeExists ∷ TypeSize ∷ EnumeratorExists ∷ EnumeratorValue ∷ TypeMatches ∷ []

-- The result for a number: its kind if the list has one, else an error.
abbrev pub RelocationKindOf : ℕ → Result RelocationKind RelocationError → Type 0
RelocationKindOf n (Ok k) = slice_get relocation_kinds n ≡ Some k
RelocationKindOf n (Err e) = (slice_get relocation_kinds n ≡ None) × (e ≡ UnknownKind n)

-- how a kind is printed
abbrev pub relocation_kind_text : RelocationKind → List ℕ
relocation_kind_text FieldByteOffset = codes "byte_off"
relocation_kind_text FieldByteSize = codes "byte_sz"
relocation_kind_text FieldExists = codes "field_exists"
relocation_kind_text FieldSigned = codes "signed"
relocation_kind_text FieldLShift64 = codes "lshift_u64"
relocation_kind_text FieldRShift64 = codes "rshift_u64"
relocation_kind_text TypeIdLocal = codes "local_type_id"
relocation_kind_text TypeIdTarget = codes "target_type_id"
relocation_kind_text TypeExists = codes "type_exists"
relocation_kind_text TypeSize = codes "type_size"
relocation_kind_text EnumeratorExists = codes "enumval_exists"
relocation_kind_text EnumeratorValue = codes "enumval_value"
relocation_kind_text TypeMatches = codes "type_matches"
