-- Enumerators, as the definitions see them.
use Rattle.std.specs.Prelude.{List, ◌+◌, ◌*◌, ◌^◌}
use Rattle.btf_model.specs.Record.{Record, kind_of}
use Rattle.btf_model.specs.Table.{Variant}
use Rattle.btf_plain.specs.declared.items.BtfEnum.{BtfEnum}
use Rattle.btf_plain.specs.declared.items.BtfEnum64.{BtfEnum64}
use Rattle.btf_relocate_model.specs.Enumerator.{enumerators_by}
use Rattle.btf_relocate_model.specs.Instruction.{sign_extended}
use Rattle.btf_relocate.specs.declared.enumerator.Enumerator.{Enumerator}

abbrev pub enumerator_variant : Enumerator → Variant
enumerator_variant e = record { name = e.name_offset; value = e.value }

-- the enumerators of an ENUM and of an ENUM64
abbrev pub narrow_variant : BtfEnum → Variant
narrow_variant e = record { name = e.name_offset; value = sign_extended 32 e.value }

abbrev pub wide_variant : BtfEnum64 → Variant
wide_variant e = record { name = e.name_offset; value = e.value_high * 2 ^ 32 + e.value_low }

-- the enumerators of a type
abbrev pub type_enumerators : Record → List Variant
type_enumerators r = enumerators_by (kind_of r.info) r.tail
