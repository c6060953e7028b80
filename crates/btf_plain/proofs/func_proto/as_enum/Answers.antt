use Rattle.std.proofs.Common.{◌≡◌, ◌+◌, ◌*◌, ◌^◌, ℕ, List, Ok, false, length, ap, ◌∙◌, arith, refl, lit<}
use Rattle.std.specs.List.{flat_map}
use Rattle.std.proofs.lemmas.List.{length-map}
use Rattle.std.proofs.lemmas.List.Folds.{flat_map-map}
use Rattle.btf_model.specs.Info.{flag_bit}
use Rattle.btf_model.specs.Record.{Record, vlen}
use Rattle.btf_plain.specs.declared.items.BtfParam.{BtfParam}
use Rattle.btf_plain.specs.ItemList.{items_of}
use Rattle.btf_plain.specs.Items.{enum_words, param_words, variant_of_param}
use Rattle.btf_plain.proofs.Tails.{items_counted}
use Rattle.btf_plain.proofs.func_proto.as_enum.Goals as goal

pub listing-requires-clause-few : goal.listing-requires-clause-few
listing-requires-clause-few c =
    let params : List BtfParam = items_of c.proto.inside.tail in
    let counted = items_counted 2 param_words (λ _. refl) (lit< tt) params (vlen c.proto.inside.head.info) c.proto.invariant.1 in
    omega (arith, ap length c.in_ok-variants.ensures, length-map params variant_of_param, counted)

pub returns : goal.returns
returns c =
    let params : List BtfParam = items_of c.proto.inside.tail in
    let counted = items_counted 2 param_words (λ _. refl) (lit< tt) params (vlen c.proto.inside.head.info) c.proto.invariant.1 in
    let n : ℕ = length (items_of c.in_ok-variants.variants) in
    let same : n ≡ vlen c.args.proto.now.info = ap length c.in_ok-variants.ensures ∙ length-map params variant_of_param ∙ counted ∙ ap (λ (r : Record). vlen r.info) c.proto.view_is in
    let info : 6 * 2 ^ 24 + n + flag_bit false ≡ 6 * 2 ^ 24 + vlen c.args.proto.now.info = omega (arith, same) in
    let words = ap (flat_map enum_words) c.in_ok-variants.ensures ∙ flat_map-map enum_words variant_of_param params in
    ap (λ (r : Record). Ok r)
    (c.listing.ensures ∙ ap (λ (i : ℕ). record { name = c.proto.inside.head.name; info = i; third = 4; tail = flat_map enum_words (items_of c.in_ok-variants.variants) }) info
    ∙ ap (λ (ws : List ℕ). record { name = c.proto.inside.head.name; info = 6 * 2 ^ 24 + vlen c.args.proto.now.info; third = 4; tail = ws }) words
    ∙ ap (λ (r : Record). record { name = r.name; info = 6 * 2 ^ 24 + vlen c.args.proto.now.info; third = 4; tail = r.tail }) c.proto.view_is)
