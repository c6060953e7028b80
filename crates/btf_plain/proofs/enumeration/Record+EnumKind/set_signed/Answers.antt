use Rattle.std.proofs.Common.{ℕ, ap, ◌∙◌, ◌*◌, sym, refl}
use Rattle.std.specs.Prelude.{slice_get}
use Rattle.btf_model.specs.Record.{Record, kinds, kind_of, vlen}
use Rattle.std.specs.List.{flat_map}
use Rattle.btf_model.specs.Info.{with_flag}
use Rattle.btf_plain.specs.Items.{enum_words}
use Rattle.btf_plain.specs.ItemList.{items_of}
use Rattle.btf_plain.proofs.Infos.{new_flag, same_kind, same_vlen}
use Rattle.btf_plain.proofs.enumeration.Record+EnumKind.set_signed.Goals as goal

pub invariant_of-self : goal.invariant_of-self
invariant_of-self c =
    let info = new_flag c.self.inside.head.info c.flag_word.result c.args.signed c.flag_word.ensures in (
      ap kind_of info ∙ ap (slice_get kinds) (same_kind c.self.inside.head.info c.args.signed) ∙ c.self.invariant.0,
      c.self.invariant.1 ∙ ap (λ (n : ℕ). 2 * n) (sym (ap vlen info ∙ same_vlen c.self.inside.head.info c.args.signed)),
      refl,
    )

pub returns : goal.returns
returns c =
    ap (λ (i : ℕ). record { name = c.self.inside.head.name; info = i; third = c.self.inside.head.third; tail = flat_map enum_words (items_of c.self.inside.tail) }) (new_flag c.self.inside.head.info c.flag_word.result c.args.signed c.flag_word.ensures)
    ∙ ap (λ (r : Record). record r { info = with_flag r.info c.args.signed }) c.self.view_is
