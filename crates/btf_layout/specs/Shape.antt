-- The members and the shapes of the definitions, by the values of the code.
use Rattle.std.specs.Prelude.{ℕ, List, [], map, Option, Some}
use Rattle.btf_model.specs.Record.{Kind, Struct, Union, Record, kind_of, member_bit_offset, member_bit_field_size}
use Rattle.btf_model.specs.Refusal.{UnexpectedBtfType}
use Rattle.btf_plain.specs.declared.items.BtfMember.{BtfMember}
use Rattle.btf_layout_model.specs.Alignment as model
use Rattle.btf_layout_model.specs.Alignment.{AlignedMember, aligned_members_in}
use Rattle.btf_layout.specs.declared.shape.Composite.{Composite}
use Rattle.btf_layout.specs.declared.shape.Shape.{Shape}
use Rattle.btf_layout.specs.declared.shape.Shape.TheVariants.{Fixed, SameAs, Composed, Unexpected}

-- a member of a type with this info word
abbrev pub layout_member : ℕ → BtfMember → AlignedMember
layout_member info m = record {
  type = m.btf_type;
  bit = member_bit_offset info m.offset;
  bits = member_bit_field_size info m.offset;
}

-- the members of a type, by its kind; none for a type that is no STRUCT or UNION
abbrev pub layout_members_by : Option Kind → Record → List AlignedMember
layout_members_by (Some Struct) r = aligned_members_in r.info r.tail
layout_members_by (Some Union) r = aligned_members_in r.info r.tail
layout_members_by k r = []

abbrev pub layout_members : Record → List AlignedMember
layout_members r = layout_members_by (kind_of r.info) r

-- the shape of the type of an id, which has this record
abbrev pub shape_view : ℕ → Record → Shape → model.Shape
shape_view id r (Fixed alignment) = model.Fixed alignment
shape_view id r (SameAs type) = model.SameAs type
shape_view id r (Composed size) = model.Composed size (layout_members r)
shape_view id r Unexpected = model.Unaligned (UnexpectedBtfType id)

-- the shape of a STRUCT or UNION
abbrev pub composite_view : Composite → model.Shape
composite_view c = model.Composed c.size (map (layout_member c.info) c.members.now)
