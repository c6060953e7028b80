use Rattle.std.proofs.Common.{ap, ◌∙◌, List, rules}
use Rattle.std.specs.Prelude.{slice_get}
use Rattle.btf_model.specs.Table.{Variant}
use Rattle.btf_relocate.specs.Enumerators.{narrow_variant, wide_variant}
use Rattle.btf_relocate.proofs.Enumerators.{enum_has, enum64_has, mapped_item}
use Rattle.btf_relocate.proofs.enumerator.parsed_at.Goals as goal

pub returns-in-Enum : goal.returns-in-Enum
returns-in-Enum c =
    mapped_item narrow_variant c.variants.result.now c.args.index c.get.result c.map.result _ (λ x e given. search rules) c.get.ensures.lookup c.map.ensures.cases
    ∙ ap (λ (vs : List Variant). slice_get vs c.args.index) (enum_has c.args.btf_type.now c.in-Enum.t c.variants.result.now c.in-Enum.is c.kind.ensures.info c.variants.ensures.words)

pub returns-in-Enum64 : goal.returns-in-Enum64
returns-in-Enum64 c =
    mapped_item wide_variant c.variants-in-Enum64.result.now c.args.index c.get-in-Enum64.result c.map-in-Enum64.result _ (λ x e given. search rules) c.get-in-Enum64.ensures.lookup c.map-in-Enum64.ensures.cases
    ∙ ap (λ (vs : List Variant). slice_get vs c.args.index) (enum64_has c.args.btf_type.now c.in-Enum64.t c.variants-in-Enum64.result.now c.in-Enum64.is c.kind.ensures.info c.variants-in-Enum64.ensures.words)
