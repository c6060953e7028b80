-- What the private parts of a UNION represent: its first words, its members, and its fallback.
use Rattle.std.specs.Prelude.{ℕ, List, Option, Some, None}
use Rattle.std.specs.List.{flat_map}
use Rattle.btf_model.specs.Made.{union}
use Rattle.btf_model.specs.Table.{Fallback, UnionRecord}
use Rattle.btf_plain.specs.declared.head.Head.{Head}
use Rattle.btf_plain.specs.declared.items.BtfMember.{BtfMember}
use Rattle.btf_plain.specs.Fallback.{fallback_value, fallback_of_option}
use Rattle.btf_plain.specs.declared.fallback.Enum64Fallback.{Enum64Fallback}
use Rattle.btf_plain.specs.ItemList.{items_of}
use Rattle.btf_plain.specs.Items.{member_words}
use Rattle.btf_records.specs.declared.union.Parts.{Parts}
use Rattle.btf_records.specs.declared.union.Parts.TheVariants.{Alone, InsteadOf}

-- the first three words of a UNION
abbrev pub head_of : Parts → Head
head_of (Alone name info size members) = record { name = name; info = info; third = size }
head_of (InsteadOf name info size fallback members) = record { name = name; info = info; third = size }

-- the members of a UNION
abbrev pub parts_members : Parts → List BtfMember
parts_members (Alone name info size members) = items_of members
parts_members (InsteadOf name info size fallback members) = members.items

-- the fallback of a UNION
abbrev pub kept_of : Parts → Option Fallback
kept_of (Alone name info size members) = None
kept_of (InsteadOf name info size fallback members) = Some (fallback_value fallback)

-- a UNION of this name, size and number of members, with these members, and the ENUM64 that it replaces, if any
abbrev pub union_with : ℕ → ℕ → ℕ → List BtfMember → Option Enum64Fallback → UnionRecord
union_with name size count members fallback = record {
  words = union name size count (flat_map member_words members);
  fallback = fallback_of_option fallback;
}
