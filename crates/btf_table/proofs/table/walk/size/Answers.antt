use Rattle.std.proofs.Common.{refl, sym, ap, ◌∙◌, inl, inr, ◌+◌, suc, arith, ℕ}
use Rattle.btf_model.specs.Refusal.{UnknownBtfType, UnexpectedBtfType, MaximumTypeDepthReached}
use Rattle.btf_model.specs.Walk.{By, Bytes, Times, NoExtent, GoesOn, Elements, size_in, walk_limit}
use Rattle.btf_model.proofs.Walks.{lead_on}
use Rattle.btf_table.proofs.Walks.{found, missing, as_many, one, find_size, size_found, times_fit, ends_with_bytes, ends_at_product}
use Rattle.btf_table.proofs.table.walk.size.Goals as goal

pub returns-in_default : goal.returns-in_default
returns-in_default c =
    (UnknownBtfType c.loop.id, refl, inl (c.loop.counter, record { count = c.loop.count; type = c.loop.id }, c.loop-test.true, c.loop.invariant, ap (size_in (record { count = c.loop.count; type = c.loop.id })) (missing c.args.types.now c.loop.id c.in_default.ensures.lookup.0)))

pub returns-in-Bytes : goal.returns-in-Bytes
returns-in-Bytes c =
    let at : Elements = record { count = c.loop.count; type = c.loop.id } in
    ends_with_bytes c.args.types.now c.loop.counter c.args.type_id c.in-Bytes.bytes at c.product.result c.loop-test.true c.loop.invariant
    (size_found c.args.types.now at c.in-Some.btf_type.now (Bytes c.in-Bytes.bytes) (found c.args.types.now c.loop.id c.in-Some.btf_type.now c.in-Some.ensures.lookup.0 c.in-Some.ensures.lookup.1) c.in-Bytes.ensures)
    c.product.ensures

pub returns-in_err-count-in-Times : goal.returns-in_err-count-in-Times
returns-in_err-count-in-Times c =
    let at : Elements = record { count = c.loop.count; type = c.loop.id } in
    ends_at_product c.args.types.now c.loop.counter c.args.type_id c.in-Times.times c.in-Times.next at c.in_err-count-in-Times.field-0.0 c.from_residual.result c.loop-test.true c.loop.invariant
    (size_found c.args.types.now at c.in-Some.btf_type.now (Times c.in-Times.times c.in-Times.next) (found c.args.types.now c.loop.id c.in-Some.btf_type.now c.in-Some.ensures.lookup.0 c.in-Some.ensures.lookup.1) c.in-Times.ensures)
    c.in_err-count-in-Times.ensures.0 c.in_err-count-in-Times.ensures.1 c.from_residual.ensures.1

pub returns-in-Nothing : goal.returns-in-Nothing
returns-in-Nothing c =
    let at : Elements = record { count = c.loop.count; type = c.loop.id } in (
      UnexpectedBtfType c.loop.id,
      refl,
      inl (
        c.loop.counter,
        at,
        c.loop-test.true,
        c.loop.invariant,
        size_found c.args.types.now at c.in-Some.btf_type.now NoExtent (found c.args.types.now c.loop.id c.in-Some.btf_type.now c.in-Some.ensures.lookup.0 c.in-Some.ensures.lookup.1) c.in-Nothing.ensures,
      ),
    )

pub loop-preserved : goal.loop-preserved
loop-preserved c =
    let at : Elements = record { count = c.loop.count; type = c.loop.id } in
    let next : Elements = record { count = c.in_ok-count-in-Times.count; type = c.in-Times.next } in
    as_many (By (find_size c.args.types.now)) (suc c.loop.counter) (c.loop.counter + 1) (one c.args.type_id) next (omega arith)
    (lead_on (By (find_size c.args.types.now)) c.loop.counter (one c.args.type_id) at next c.loop.invariant
    (size_found c.args.types.now at c.in-Some.btf_type.now (Times c.in-Times.times c.in-Times.next) (found c.args.types.now c.loop.id c.in-Some.btf_type.now c.in-Some.ensures.lookup.0 c.in-Some.ensures.lookup.1) c.in-Times.ensures
    ∙ times_fit at c.in-Times.times c.in-Times.next c.in_ok-count-in-Times.ensures.1
    ∙ ap (λ (n : ℕ). GoesOn (record { count = n; type = c.in-Times.next })) (sym c.in_ok-count-in-Times.ensures.0)))

pub returns : goal.returns
returns c =
    (MaximumTypeDepthReached c.args.type_id, refl, inr (record { count = c.loop.count; type = c.loop.id }, as_many (By (find_size c.args.types.now)) c.loop.counter walk_limit (one c.args.type_id) (record { count = c.loop.count; type = c.loop.id }) (omega (arith, c.loop-test.false, c.loop.auto.counter-end)) c.loop.invariant, refl))
