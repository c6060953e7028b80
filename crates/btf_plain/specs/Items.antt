-- The items of the kinds that have a list, as words. Source: the kernel's BTF documentation, `struct btf_member`,
-- `btf_enum`, `btf_enum64`, `btf_param`, `btf_var_secinfo`.
use Rattle.std.specs.Prelude.{ℕ, List, [], ◌∷◌}
use Rattle.btf_plain.specs.declared.items.BtfEnum.{BtfEnum}
use Rattle.btf_plain.specs.declared.items.BtfEnum64.{BtfEnum64}
use Rattle.btf_plain.specs.declared.items.BtfMember.{BtfMember}
use Rattle.btf_plain.specs.declared.items.BtfParam.{BtfParam}
use Rattle.btf_plain.specs.declared.items.DataSecEntry.{DataSecEntry}

-- the words of a variant of an ENUM
abbrev pub enum_words : BtfEnum → List ℕ
enum_words v = v.name_offset ∷ v.value ∷ []

-- the words of a variant of an ENUM64
abbrev pub enum64_words : BtfEnum64 → List ℕ
enum64_words v = v.name_offset ∷ v.value_low ∷ v.value_high ∷ []

-- the words of a member
abbrev pub member_words : BtfMember → List ℕ
member_words m = m.name_offset ∷ m.btf_type ∷ m.offset ∷ []

-- the words of a parameter
abbrev pub param_words : BtfParam → List ℕ
param_words p = p.name_offset ∷ p.btf_type ∷ []

-- a parameter as a variant of an ENUM: its type is the value
abbrev pub variant_of_param : BtfParam → BtfEnum
variant_of_param p = record { name_offset = p.name_offset; value = p.btf_type }

-- the words of an entry
abbrev pub code_entry_words : DataSecEntry → List ℕ
code_entry_words e = e.btf_type ∷ e.offset ∷ e.size ∷ []
