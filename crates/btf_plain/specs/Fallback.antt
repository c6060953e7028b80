-- The fallback of a UNION as a value of the definitions.
use Rattle.std.specs.Prelude.{map, Option}
use Rattle.std.specs.Option.{option_map}
use Rattle.btf_model.specs.Table as model
use Rattle.btf_plain.specs.declared.fallback.Enum64Fallback.{Enum64Fallback}
use Rattle.btf_plain.specs.declared.fallback.Enum64VariantFallback.{Enum64VariantFallback}

-- a variant that a UNION retains of an ENUM64
abbrev pub fallback_variant : Enum64VariantFallback → model.Variant
fallback_variant v = record { name = v.name_offset; value = v.value }

-- what a UNION retains of an ENUM64: its sign and its variants
abbrev pub fallback_value : Enum64Fallback → model.Fallback
fallback_value f = record { signed = f.signed; variants = map fallback_variant f.variants.items }

-- the same, if there is one
abbrev pub fallback_of_option : Option Enum64Fallback → Option model.Fallback
fallback_of_option o = option_map fallback_value o
