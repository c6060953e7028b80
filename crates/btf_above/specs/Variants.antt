-- Variants in the model's terms, and the names of a type's variants.
use Rattle.std.specs.Prelude.{ℕ, ◌+◌, ◌*◌, ◌^◌, List, Ok, IfSome, Option, Result}
use Rattle.std.specs.List.{AllByRecursion}
use Rattle.std.specs.Str.{IsUtf8}
use Rattle.btf_model.specs.Table.{Table, Variant}
use Rattle.btf_model.specs.Text.{bytes_at}
use Rattle.btf_model.specs.Walk.{Resolves}
use Rattle.btf_model.specs.Value.{HasVariants, FindsVariant}
use Rattle.btf_plain.specs.declared.items.BtfEnum.{BtfEnum}
use Rattle.btf_plain.specs.declared.items.BtfEnum64.{BtfEnum64}
use Rattle.btf_model.specs.Ext.{Then}
use Rattle.btf_model.specs.Refusal.{Refusal}
use Rattle.btf_plain.specs.Error.{Meets}
use Rattle.btf_plain.specs.declared.error.BtfError.{BtfError}

-- a variant of an ENUM, in the model's terms
abbrev pub enum_variant : BtfEnum → Variant
enum_variant v = record { name = v.name_offset; value = v.value }

-- a variant of an ENUM64, its two halves as one value
abbrev pub enum64_variant : BtfEnum64 → Variant
enum64_variant v = record { name = v.name_offset; value = v.value_high * 2 ^ 32 + v.value_low }

-- Each of these variants' names that can be read is UTF-8.
abbrev pub HaveUtf8Names : List ℕ → List Variant → Type 0
HaveUtf8Names strings vs = AllByRecursion (λ v. IfSome (bytes_at strings v.name) IsUtf8) vs

-- Each readable name of the variants of the type of this id is UTF-8.
abbrev pub TypeHasUtf8Names : Table → ℕ → Type 0
TypeHasUtf8Names t id = (vs : List Variant) → HasVariants t id (Ok vs) → HaveUtf8Names t.strings vs

-- Each readable name of the variants of the type that this id resolves to is UTF-8.
abbrev pub NamesAreUtf8 : Table → ℕ → Type 0
NamesAreUtf8 t id = (end : ℕ) → Resolves t.records id (Ok end) → TypeHasUtf8Names t end

-- The value of the first variant of this name, of the variants of the type of this id, or the first error.
abbrev pub FindsValueAt : Table → ℕ → List ℕ → Result (Option ℕ) Refusal → Type 0
FindsValueAt t id name = Then (HasVariants t id) (FindsVariant t.strings name)

-- If the names of these variants are UTF-8, nothing is allocated to find the value of the first variant of a name.
abbrev pub FindsAlways : List ℕ → List ℕ → List Variant → Result (Option ℕ) BtfError → Type 0
FindsAlways strings name vs result = HaveUtf8Names strings vs → Meets (λ v. v) result (FindsVariant strings name vs)
