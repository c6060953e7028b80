use Rattle.std.proofs.Common.{refl, sym, ap, ◌∙◌, inl, arith}
use Rattle.btf_model.specs.Refusal.{UnknownBtfType}
use Rattle.btf_model.specs.Walk.{unmodified_in, after_modifier}
use Rattle.btf_table.proofs.Walks.{found, missing}
use Rattle.btf_table.proofs.table.walk.resolve.Goals as goal

pub returns-in_default : goal.returns-in_default
returns-in_default c =
    (UnknownBtfType c.args.type_id, refl, inl (0, c.args.type_id, omega arith, refl, ap (unmodified_in c.args.type_id) (missing c.args.types.now c.args.type_id c.in_default.ensures.lookup.0)))

pub returns-in-None : goal.returns-in-None
returns-in-None c =
    inl (
      0,
      c.args.type_id,
      omega arith,
      refl,
      ap (unmodified_in c.args.type_id) (found c.args.types.now c.args.type_id c.in-Some.btf_type.now c.in-Some.ensures.lookup.0 c.in-Some.ensures.lookup.1)
          ∙ ap (after_modifier c.args.type_id) (sym c.modified_type.ensures ∙ c.in-None.is),
    )
