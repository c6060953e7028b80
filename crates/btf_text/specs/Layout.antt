-- The type that has a layout, by its name.
use Rattle.std.specs.Prelude.{◌≡◌, ◌⊎◌, ℕ, Bool, true, false, if◌then◌else◌, List, Option, Some, None, Result, Ok, Err, slice_get}
use Rattle.btf_model.specs.Ext.{Then}
use Rattle.btf_model.specs.Record.{Record, Kind, Struct, Union, Typedef, kind_of, is_composite}
use Rattle.btf_model.specs.Refusal.{Refusal, UnknownBtfType, UnknownBtfTypeName, UnexpectedBtfType}
use Rattle.btf_model.specs.Table.{Table}
use Rattle.btf_model.specs.Text.{FindsName}
use Rattle.btf_model.specs.Walk.{Resolves}

-- whether there is a kind, and it is STRUCT or UNION
abbrev pub is_struct_or_union : Option Kind → Bool
is_struct_or_union (Some k) = is_composite k
is_struct_or_union None = false

-- whether there is a record, and it is a STRUCT or a UNION
abbrev pub is_composite_record : Option Record → Bool
is_composite_record (Some r) = is_struct_or_union (kind_of r.info)
is_composite_record None = false

-- whether the type of an id is a STRUCT or a UNION (the kernel's documentation, "BTF_KIND_STRUCT")
abbrev pub is_composite_at : Table → ℕ → Bool
is_composite_at t id = is_composite_record (slice_get t.records id)

-- whether a search found that no type has the name
abbrev pub is_unknown_name : Result ℕ Refusal → Bool
is_unknown_name (Err (UnknownBtfTypeName name)) = true
is_unknown_name answer = false

-- the answer of the first search, unless no type has the name; then the answer of the second
abbrev pub OrElse : (First Second : Result ℕ Refusal → Type 0) → Result ℕ Refusal → Type 0
OrElse First Second answer =
    (First answer × (is_unknown_name answer ≡ false))
    ⊎ ((unknown : Result ℕ Refusal) × First unknown × (is_unknown_name unknown ≡ true) × Second answer)

-- the search for the first type of a kind and a name
abbrev pub FindsFirstOf : Table → List ℕ → Kind → Result ℕ Refusal → Type 0
FindsFirstOf t name k = FindsName t.strings t.records k name

-- the type that the first TYPEDEF of a name resolves to
abbrev pub MeansTypedef : Table → List ℕ → Result ℕ Refusal → Type 0
MeansTypedef t name = Then (FindsFirstOf t name Typedef) (Resolves t.records)

-- The type that a name means: the first STRUCT of the name; if there is none, the first UNION; if there is neither,
-- what the first TYPEDEF of the name resolves to. Source: a choice of this program; C has tags and typedef names in
-- different name spaces (C11, 6.2.3).
abbrev pub Means : Table → List ℕ → Result ℕ Refusal → Type 0
Means t name =
    OrElse (FindsFirstOf t name Struct) (OrElse (FindsFirstOf t name Union) (MeansTypedef t name))

-- the id of a type, if it is a STRUCT or a UNION by its record, if there is one
abbrev pub composite : ℕ → Option Record → Result ℕ Refusal
composite id (Some r) = if is_struct_or_union (kind_of r.info) then Ok id else Err (UnexpectedBtfType id)
composite id None = Err (UnknownBtfType id)

-- The STRUCT or UNION that a name means, or why there is none.
abbrev pub FindsLayout : Table → List ℕ → Result ℕ Refusal → Type 0
FindsLayout t name = Then (Means t name) (λ id answer. answer ≡ composite id (slice_get t.records id))
