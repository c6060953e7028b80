use Rattle.std.proofs.Common.{refl, inr, ◌+◌, suc, arith}
use Rattle.btf_model.specs.Walk.{walk_limit}
use Rattle.btf_model.specs.Fields.{FieldsFind}
use Rattle.btf_model.proofs.Walks.{lead_on}
use Rattle.btf_compare.specs.Pairs.{id_pair}
use Rattle.btf_table.proofs.Walks.{as_many}
use Rattle.btf_compare.proofs.fields.fields_are_compatible.Goals as goal

pub loop-preserved : goal.loop-preserved
loop-preserved c =
    as_many (FieldsFind c.args.local.now c.args.target.now) (suc c.loop.counter) (c.loop.counter + 1) (id_pair c.args.local_id c.args.target_id) (id_pair c.in-GoesOn.local_next c.in-GoesOn.target_next) (omega arith)
    (lead_on (FieldsFind c.args.local.now c.args.target.now) c.loop.counter (id_pair c.args.local_id c.args.target_id) (id_pair c.loop.local_id c.loop.target_id) (id_pair c.in-GoesOn.local_next c.in-GoesOn.target_next)
    c.loop.invariant c.in-GoesOn.ensures)

pub returns : goal.returns
returns c =
    inr (
      id_pair c.loop.local_id c.loop.target_id,
      as_many (FieldsFind c.args.local.now c.args.target.now) c.loop.counter walk_limit (id_pair c.args.local_id c.args.target_id) (id_pair c.loop.local_id c.loop.target_id) (omega (arith, c.loop-test.false, c.loop.auto.counter-end)) c.loop.invariant,
      refl,
    )
