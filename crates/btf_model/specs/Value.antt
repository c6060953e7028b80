-- Values of variants, by name: of an ENUM, of an ENUM64, and of an ENUM64 that a UNION replaces.
-- Source: the kernel's BTF documentation, "BTF_KIND_ENUM" and "BTF_KIND_ENUM64"; aya-obj is the source for a UNION that
-- retains the variants of an ENUM64. The search for a name among variants, and its failures, are this project's
-- profile.
use Rattle.std.specs.Prelude.{◌≡◌, ◌≢◌, ℕ, ◌+◌, ◌*◌, ◌^◌, List, [], ◌∷◌, ◌++◌, slice_get, Option, Some, None, Result, Ok, Err}
use Rattle.std.specs.List.{AllByRecursion}
use Rattle.btf_model.specs.Record.{Kind, Union, Enum, Enum64, Record, kind_of}
use Rattle.btf_model.specs.Refusal.{Refusal, UnexpectedBtfType}
use Rattle.btf_model.specs.Table.{Table, Variant, Fallback}
use Rattle.btf_model.specs.Text.{text_at}
use Rattle.btf_model.specs.Walk.{Resolves}
use Rattle.btf_model.specs.Ext.{Then}

-- ---- the variants of a type

-- the variants in the words of an ENUM: a name and a 32-bit value, whose sign is ignored
abbrev pub enum_variants : List ℕ → List Variant
enum_variants (name ∷ value ∷ words) = record { name = name; value = value } ∷ enum_variants words
enum_variants words = []

-- the variants in the words of an ENUM64: a name and the two halves of a value
abbrev pub enum64_variants : List ℕ → List Variant
enum64_variants (name ∷ low ∷ high ∷ words) = record { name = name; value = high * 2 ^ 32 + low } ∷ enum64_variants words
enum64_variants words = []

-- the variants of the ENUM64 that the UNION of this id replaces, if it replaces one
abbrev pub fallback_variants : ℕ → Option Fallback → Result (List Variant) Refusal
fallback_variants id (Some fallback) = Ok fallback.variants
fallback_variants id None = Err (UnexpectedBtfType id)

-- The variants by the kind: an ENUM and an ENUM64 have them in their words, a UNION has the variants of its fallback,
-- and other types have none.
abbrev pub variants_by : ℕ → Option Kind → Record → Option Fallback → Result (List Variant) Refusal
variants_by id (Some Enum) r fallback = Ok (enum_variants r.tail)
variants_by id (Some Enum64) r fallback = Ok (enum64_variants r.tail)
variants_by id (Some Union) r fallback = fallback_variants id fallback
variants_by id k r fallback = Err (UnexpectedBtfType id)

-- The variants of the type of an id, or a refusal if the type has no variants.
abbrev pub HasVariants : Table → ℕ → Result (List Variant) Refusal → Type 0
HasVariants t id answer =
    (r : Record) × (fallback : Option Fallback) × (slice_get t.records id ≡ Some r)
    × (slice_get t.fallbacks id ≡ Some fallback) × (answer ≡ variants_by id (kind_of r.info) r fallback)

-- ---- the variant of a name

-- The names of these variants can be read, and differ from the given name.
abbrev pub HaveOtherNames : List ℕ → List ℕ → List Variant → Type 0
HaveOtherNames strings name vs = AllByRecursion (λ v. (other : List ℕ) × (text_at strings v.name ≡ Ok other) × (other ≢ name)) vs

-- This variant is in the list, and all variants before it have other names.
abbrev pub IsAfterOthers : List ℕ → List ℕ → List Variant → Variant → Type 0
IsAfterOthers strings name vs v =
    (before after : List Variant) × (vs ≡ before ++ v ∷ after) × HaveOtherNames strings name before

-- The search reads the names in order. It returns the value of the first variant that has the name, or none if all
-- names can be read and differ. It fails at the first name that cannot be read.
abbrev pub FindsVariant : List ℕ → List ℕ → List Variant → Result (Option ℕ) Refusal → Type 0
FindsVariant strings name vs (Ok (Some value)) =
    (v : Variant) × IsAfterOthers strings name vs v × (text_at strings v.name ≡ Ok name) × (v.value ≡ value)
FindsVariant strings name vs (Ok None) = HaveOtherNames strings name vs
FindsVariant strings name vs (Err refusal) =
    (v : Variant) × IsAfterOthers strings name vs v × (text_at strings v.name ≡ Err refusal)

-- The value of the variant with this name in the type that an id resolves to, or none. It fails, in this order, if the
-- id does not resolve, if the type has no variants, or if the search meets a name that cannot be read.
abbrev pub Value : Table → ℕ → List ℕ → Result (Option ℕ) Refusal → Type 0
Value t id name = Then (Resolves t.records id) (λ end. Then (HasVariants t end) (FindsVariant t.strings name))
