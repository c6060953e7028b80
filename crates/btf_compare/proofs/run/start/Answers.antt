use Rattle.std.proofs.Common.{refl, subst, ◌∙◌, inl, inr}
use Rattle.std.proofs.lemmas.Option.{slice_get_past}
use Rattle.btf_model.specs.Run as runs
use Rattle.btf_plain.specs.declared.error.BtfError.TheVariants.{OutOfMemory}
use Rattle.btf_records.specs.declared.btf_type.BtfType.{BtfType}
use Rattle.btf_records.specs.BtfType.{record_of, type_kind}
use Rattle.btf_compare.specs.Compared.{CannotStart, WalksTo, frame_of, passed_in}
use Rattle.btf_compare.specs.Pairs.{pair_of}
use Rattle.btf_compare.proofs.Begun.{fails_for, has_started}
use Rattle.btf_compare.proofs.Comparing.{started}
use Rattle.btf_compare.proofs.run.start.Goals as goal

-- ---- it is not started

pub returns-in_err-local_type : goal.returns-in_err-local_type
returns-in_err-local_type g c =
    let h = c.in_err-local_type.ensures in
    inl (
      fails_for c.from_residual.result c.in_err-local_type.field-0.0 (CannotStart c.args.local.now c.args.target.now (pair_of c.args.pair)) c.from_residual.ensures.1 (inr (inl (slice_get_past c.args.local.now.records c.args.pair.0 h.0, h.1))),
      λ first ids added. added,
    )

pub returns-in_err-target_type : goal.returns-in_err-target_type
returns-in_err-target_type g c =
    let h = c.in_err-target_type.ensures in
    inl (
      fails_for c.from_residual-in_err-target_type.result c.in_err-target_type.field-0.0 (CannotStart c.args.local.now c.args.target.now (pair_of c.args.pair)) c.from_residual-in_err-target_type.ensures.1
          (inr (inr (record_of c.in_ok-local_type.local_type.now, c.in_ok-local_type.ensures.record_is, slice_get_past c.args.target.now.records c.args.pair.1 h.0, h.1))),
      λ first ids added. added,
    )

pub returns-in_err-remember : goal.returns-in_err-remember
returns-in_err-remember g c =
    inl (
      fails_for c.from_residual-in_err-remember.result OutOfMemory (CannotStart c.args.local.now c.args.target.now (pair_of c.args.pair)) c.from_residual-in_err-remember.ensures.1 (inl refl),
      λ first ids added. added,
    )

pub returns-in_err-add : goal.returns-in_err-add
returns-in_err-add g c =
    inl (
      fails_for c.from_residual-in_err-add.result OutOfMemory (CannotStart c.args.local.now c.args.target.now (pair_of c.args.pair)) c.from_residual-in_err-add.ensures.1 (inl refl),
      c.in_err-add.ensures.refused,
    )

-- ---- it is started

pub returns : goal.returns
returns g c =
    let a : BtfType = c.in_ok-local_type.local_type.now in
    let b : BtfType = c.in_ok-target_type.target_type.now in
    let local = c.in_ok-local_type.ensures in
    let target = c.in_ok-target_type.ensures in
    let alike = c.is_compatible-alike in
    inr (
      has_started c.args.local.now c.args.target.now (passed_in c.args.passed.now) (pair_of c.args.pair) c.begin-end.new.self alike.result c.begin-end.result
          (started c.args.local.now c.args.target.now (pair_of c.args.pair) (type_kind a) (type_kind b) (record_of a, record_of b, (local.record_is, local.kind_is), (target.record_is, target.kind_is)) alike.result alike.ensures.0 alike.ensures.1)
          c.begin-end.ensures.differs
          (λ is. subst (λ (f : runs.Frame). WalksTo c.args.local.now c.args.target.now (passed_in c.args.passed.now) f (frame_of c.begin-end.new.self)) c.new.ensures.frame (c.begin-end.ensures.walks is))
          c.begin-end.ensures.comes,
      c.begin-end.ensures.pair ∙ c.new.ensures.pair,
      subst (λ p. g.L.Listed.learns c.args.listed.now c.remember.new.self c.args.pair p) c.progress_of.ensures c.in_ok-remember.ensures,
      c.in_ok-add.ensures.added,
    )
