use Rattle.std.proofs.Common.{ℕ, map, refl, sym, ap, ◌∙◌, inl, inr, ◌+◌, suc, arith}
use Rattle.std.specs.Prelude.{slice_get}
use Rattle.btf_model.specs.Refusal.{UnknownBtfType, MaximumTypeDepthReached}
use Rattle.btf_model.specs.Walk.{By, unmodified_in, after_modifier, walk_limit}
use Rattle.btf_model.proofs.Walks.{lead_on}
use Rattle.btf_records.specs.BtfType.{record_of}
use Rattle.btf_table.proofs.Walks.{found, missing, as_many}
use Rattle.btf_table.proofs.table.walk.resolve_on.Goals as goal

pub returns-in_default : goal.returns-in_default
returns-in_default c =
    (UnknownBtfType c.loop.id, refl, inl (c.loop.counter, c.loop.id, c.loop-test.true, c.loop.invariant, ap (unmodified_in c.loop.id) (missing c.args.types.now c.loop.id c.in_default.ensures.lookup.0)))

pub returns-in_default-modified_type : goal.returns-in_default-modified_type
returns-in_default-modified_type c =
    inl (
      c.loop.counter,
      c.loop.id,
      c.loop-test.true,
      c.loop.invariant,
      ap (unmodified_in c.loop.id) (found c.args.types.now c.loop.id c.in-Some.btf_type.now c.in-Some.ensures.lookup.0 c.in-Some.ensures.lookup.1)
          ∙ ap (after_modifier c.loop.id) (sym c.modified_type.ensures ∙ c.in_default-modified_type.is),
    )

pub loop-preserved : goal.loop-preserved
loop-preserved c =
    let find : _ = λ (at : ℕ). unmodified_in at (slice_get (map record_of c.args.types.now) at) in
    as_many (By find) (suc c.loop.counter) (c.loop.counter + 1) c.args.type_id c.in-Some-modified_type.next (omega arith)
    (lead_on (By find) c.loop.counter c.args.type_id c.loop.id c.in-Some-modified_type.next c.loop.invariant
    (ap (unmodified_in c.loop.id) (found c.args.types.now c.loop.id c.in-Some.btf_type.now c.in-Some.ensures.lookup.0 c.in-Some.ensures.lookup.1)
    ∙ ap (after_modifier c.loop.id) (sym c.modified_type.ensures ∙ c.in-Some-modified_type.is)))

pub returns : goal.returns
returns c =
    let find : _ = λ (at : ℕ). unmodified_in at (slice_get (map record_of c.args.types.now) at) in
    (MaximumTypeDepthReached c.args.type_id, refl, inr (c.loop.id, as_many (By find) c.loop.counter walk_limit c.args.type_id c.loop.id (omega (arith, c.loop-test.false, c.loop.auto.counter-end)) c.loop.invariant, refl))
