-- The parts of a type, as the definitions see them.
use Rattle.std.specs.Prelude.{◌≡◌, ℕ, List, [], ◌∷◌, map, Option, Some, MatchOption}
use Rattle.btf_model.specs.Record.{Kind, Array, FuncProto, Record, kind_of, member_bit_offset, member_bit_field_size}
use Rattle.btf_plain.specs.declared.btf_array.BtfArray.{BtfArray}
use Rattle.btf_plain.specs.declared.items.BtfMember.{BtfMember}
use Rattle.btf_relocate_model.specs.Comparison.{parameter_ids}
use Rattle.btf_relocate_model.specs.Field.{Member, members_of}
use Rattle.btf_relocate.specs.declared.kinds.Members.{Members}
use Rattle.btf_relocate.specs.declared.kinds.Members.TheVariants as holder
use Rattle.btf_view.specs.TypeRef.{record_in}

abbrev pub member_of : BtfMember → Member
member_of m = record { name = m.name_offset; type = m.btf_type; offset = m.offset }

-- the members of a type, whatever holds its table
abbrev pub members_held : Members → List Member
members_held (holder.Parsed members) = map member_of members.now
members_held (holder.Viewed t) = members_of (record_in t)

-- where a member begins, and the number of bits of a bit-field, else 0, by the info word and the member's last word
abbrev pub member_bits : ℕ → ℕ → ℕ × ℕ
member_bits info offset = (member_bit_offset info offset, member_bit_field_size info offset)

-- the types of the parameters of a FUNC_PROTO; none for a type of another kind
abbrev pub parameters_by : Option Kind → List ℕ → List ℕ
parameters_by (Some FuncProto) words = parameter_ids words
parameters_by k words = []

abbrev pub parameters_of : Record → List ℕ
parameters_of r = parameters_by (kind_of r.info) r.tail

-- the words of an ARRAY; none for a type of another kind
abbrev pub IsArrayOf : Record → Option BtfArray → Type 0
IsArrayOf r result =
    MatchOption result (kind_of r.info ≡ Some Array → ⊥)
    (λ a. (kind_of r.info ≡ Some Array) × (r.tail ≡ a.element_type ∷ a.index_type ∷ a.len ∷ []))
