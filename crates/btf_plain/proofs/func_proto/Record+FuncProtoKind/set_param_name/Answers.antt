use Rattle.std.proofs.Common.{ℕ, ◌+◌, ◌*◌, ◌<◌, List, ◌∷◌, ◌++◌, take, drop, set, length, get_or, ap, ◌∙◌, arith, refl, lit<}
use Rattle.std.specs.List.{flat_map}
use Rattle.std.proofs.lemmas.List.{get_or_default, length-set}
use Rattle.btf_model.specs.Record.{Record, vlen}
use Rattle.btf_plain.specs.declared.items.BtfParam.{BtfParam}
use Rattle.btf_plain.specs.Items.{param_words}
use Rattle.btf_plain.specs.ItemList.{items_of}
use Rattle.btf_plain.proofs.Lists.{length-items}
use Rattle.btf_plain.proofs.Params.{param_named}
use Rattle.btf_plain.proofs.Tails.{items_counted}
use Rattle.btf_plain.proofs.func_proto.Record+FuncProtoKind.set_param_name.Goals as goal

pub bounds-as_slice-index : goal.bounds-as_slice-index
bounds-as_slice-index c =
    let params : List BtfParam = items_of c.self.inside.tail in
    let counted = items_counted 2 param_words (λ _. refl) (lit< tt) params (vlen c.self.inside.head.info) c.self.invariant.1 in
    omega (arith, c.requires, counted, ap (λ (r : Record). vlen r.info) c.self.view_is, ap (λ (ps : List BtfParam). length ps) c.as_slice.ensures)

pub set-requires : goal.set-requires
set-requires c =
    let params : List BtfParam = items_of c.self.inside.tail in
    let counted = items_counted 2 param_words (λ _. refl) (lit< tt) params (vlen c.self.inside.head.info) c.self.invariant.1 in
    omega (arith, c.requires, counted, ap (λ (r : Record). vlen r.info) c.self.view_is)

pub invariant_of-self : goal.invariant_of-self
invariant_of-self c =
    let params : List BtfParam = items_of c.self.inside.tail in
    let counted = items_counted 2 param_words (λ _. refl) (lit< tt) params (vlen c.self.inside.head.info) c.self.invariant.1 in
    let none : BtfParam = record { name_offset = 0; btf_type = 0 } in
    let named : BtfParam = record { name_offset = c.args.name_offset; btf_type = (get_or c.as_slice.result.now c.args.index none).btf_type } in (
      c.self.invariant.0,
      ap (λ (ps : List BtfParam). length (flat_map param_words ps)) c.set.ensures ∙ length-items 2 param_words (λ _. refl) (set params c.args.index named)
          ∙ ap (λ (n : ℕ). 2 * n) (length-set params c.args.index named ∙ counted),
      refl,
    )

pub returns : goal.returns
returns c =
    let params : List BtfParam = items_of c.self.inside.tail in
    let counted = items_counted 2 param_words (λ _. refl) (lit< tt) params (vlen c.self.inside.head.info) c.self.invariant.1 in
    let lt : c.args.index < length params = omega (arith, c.requires, counted, ap (λ (r : Record). vlen r.info) c.self.view_is) in
    let none : BtfParam = record { name_offset = 0; btf_type = 0 } in
    let old : BtfParam = get_or c.as_slice.result.now c.args.index none in
    let words = param_named params c.args.index c.args.name_offset old.btf_type lt (λ p. ap (λ (ps : List BtfParam). (get_or ps c.args.index none).btf_type) c.as_slice.ensures ∙ ap (λ (q : BtfParam). q.btf_type) (get_or_default params c.args.index none p lt)) in
    ap (λ (ps : List BtfParam). record { name = c.self.inside.head.name; info = c.self.inside.head.info; third = c.self.inside.head.third; tail = flat_map param_words ps }) c.set.ensures
    ∙ ap (λ (t : List ℕ). record { name = c.self.inside.head.name; info = c.self.inside.head.info; third = c.self.inside.head.third; tail = t }) words
    ∙ ap (λ (r : Record). record r { tail = take (2 * c.args.index) r.tail ++ c.args.name_offset ∷ drop (2 * c.args.index + 1) r.tail }) c.self.view_is
