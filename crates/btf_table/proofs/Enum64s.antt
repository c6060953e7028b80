-- Variants of an ENUM64 that become members, and variants that the fallback retains.
use Rattle.std.proofs.Common.{◌≡◌, ℕ, ◌+◌, ◌*◌, ◌^◌, ◌≤◌, List, [], ◌∷◌, length, take, map, refl, sym, ap, ◌∙◌}
use Rattle.std.specs.List.{flat_map}
use Rattle.std.proofs.lemmas.List.{take_all}
use Rattle.btf_model.specs.Table.{Variant}
use Rattle.btf_rewrite_model.specs.Made.{variants}
use Rattle.btf_rewrite_model.specs.Rule.{variant_members}
use Rattle.btf_plain.specs.Fallback.{fallback_variant}
use Rattle.btf_plain.specs.Items.{enum64_words, member_words}
use Rattle.btf_plain.specs.declared.items.BtfEnum64.{BtfEnum64}
use Rattle.btf_plain.specs.declared.items.BtfMember.{BtfMember}
use Rattle.btf_plain.specs.declared.fallback.Enum64VariantFallback.{Enum64VariantFallback}

-- a variant with its 64-bit value in one number
abbrev pub variant : BtfEnum64 → Variant
variant v = record { name = v.name_offset; value = v.value_high * 2 ^ 32 + v.value_low }

-- the words of variants are read as these
pub variants_of_words : (vs : List BtfEnum64) → variants (flat_map enum64_words vs) ≡ map variant vs
variants_of_words [] = refl
variants_of_words (v ∷ vs) = ap (λ (rest : List Variant). variant v ∷ rest) (variants_of_words vs)

-- after the last variant, all are retained
pub kept_all : (kept : List Enum64VariantFallback) (vs : List BtfEnum64) (i : ℕ) → length vs ≤ i → map fallback_variant kept ≡ map variant (take i vs) → map fallback_variant kept ≡ variants (flat_map enum64_words vs)
kept_all kept vs i end is = is ∙ ap (map variant) (take_all i vs end) ∙ sym (variants_of_words vs)

-- after the last variant, all have their member
pub members_all : (type : ℕ) (members : List BtfMember) (vs : List BtfEnum64) (i : ℕ) → length vs ≤ i → flat_map member_words members ≡ variant_members type (map variant (take i vs))
    → flat_map member_words members ≡ variant_members type (variants (flat_map enum64_words vs))
members_all type members vs i end is = is ∙ ap (variant_members type) (ap (map variant) (take_all i vs end) ∙ sym (variants_of_words vs))
