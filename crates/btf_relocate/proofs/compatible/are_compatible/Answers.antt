use Rattle.std.proofs.Common.{◌≡◌, ◌∙◌, ◌+◌, ◌-◌, ℕ, List, ap, sym, subst, arith}
use Rattle.std.specs.Prelude.{slice_index}
use Rattle.btf_model.specs.Fields.{element_type}
use Rattle.btf_model.specs.Record.{kind_of}
use Rattle.btf_relocate_model.specs.Compatible.{compatible, compatible_within}
use Rattle.btf_model.specs.Walk.{walk_limit}
use Rattle.btf_view.specs.TypeRef.{record_in}
use Rattle.btf_relocate.specs.Members.{IsArrayOf}
use Rattle.btf_relocate.proofs.Compatibles.{AreNotArrays, first_refused, second_refused, both_known, not_arrays, arrays, too_many, from_err}
use Rattle.btf_relocate.proofs.compatible.are_compatible.Goals as goal
use Rattle.btf_relocate.proofs.compatible.are_compatible.Goals.{in_default-via-in-Some+in_default, in_default-via-in_default}

pub returns-in_err-one : goal.returns-in_err-one
returns-in_err-one c =
    from_err c.from_residual.result c.in_err-one.field-0.0 c.from_residual.ensures.1
    ∙ first_refused c.args.local_id c.args.local.now c.args.target.now c.loop.id c.loop.other_id c.loop.counter (compatible c.args.local.now c.args.target.now c.args.local_id c.args.target_id) c.loop-test.true c.loop.invariant
    c.in_err-one.field-0.0 c.in_err-one.ensures

pub returns-in_err-other : goal.returns-in_err-other
returns-in_err-other c =
    from_err c.from_residual-in_err-other.result c.in_err-other.field-0.0 c.from_residual-in_err-other.ensures.1
    ∙ second_refused c.args.local_id c.args.local.now c.args.target.now c.loop.id c.loop.other_id c.loop.counter (compatible c.args.local.now c.args.target.now c.args.local_id c.args.target_id) c.loop-test.true c.loop.invariant
    (record_in c.in_ok-one.one) c.in_err-other.field-0.0 c.in_ok-one.ensures c.in_err-other.ensures

pub returns-in_default : goal.returns-in_default
returns-in_default c =
    let further = compatible_within (walk_limit - (c.loop.counter + 1)) c.args.local_id c.args.local.now c.args.target.now in
    let r = record_in c.in_ok-one.one in
    let s = record_in c.in_ok-other.other in
    let apart : AreNotArrays (kind_of r.info) (kind_of s.info) = elim c.in_default.branch [
      | in_default-via-in-Some+in_default w ↦ λ both. let no = subst (IsArrayOf s) w.in_default.is-1 c.array_of-in-loop.ensures in no both.1
      | in_default-via-in_default w ↦ λ both. let no = subst (IsArrayOf r) w.in_default.is-0 c.array_of.ensures in no both.0
    ] in
    c.are_alike.ensures
    ∙ sym (not_arrays further c.args.local.now c.args.target.now (kind_of r.info) (kind_of s.info) r s apart)
    ∙ both_known c.args.local_id c.args.local.now c.args.target.now c.loop.id c.loop.other_id c.loop.counter (compatible c.args.local.now c.args.target.now c.args.local_id c.args.target_id) c.loop-test.true c.loop.invariant
    r s c.in_ok-one.ensures c.in_ok-other.ensures

pub loop-preserved : goal.loop-preserved
loop-preserved c =
    let further = compatible_within (walk_limit - (c.loop.counter + 1)) c.args.local_id c.args.local.now c.args.target.now in
    let r = record_in c.in_ok-one.one in
    let s = record_in c.in_ok-other.other in
    let one = subst (IsArrayOf r) c.in-Some-Some.is-0 c.array_of.ensures in
    let other = subst (IsArrayOf s) c.in-Some-Some.is-1 c.array_of-in-loop.ensures in
    let first : element_type r ≡ c.in-Some-Some.array.element_type = ap (λ (ws : List ℕ). slice_index ws 0) one.1 in
    let second : element_type s ≡ c.in-Some-Some.other_array.element_type = ap (λ (ws : List ℕ). slice_index ws 0) other.1 in
    ap (λ (id : ℕ). further id c.in-Some-Some.other_array.element_type) (sym first)
    ∙ ap (λ (id : ℕ). further (element_type r) id) (sym second)
    ∙ sym (arrays further c.args.local.now c.args.target.now (kind_of r.info) (kind_of s.info) r s one.0 other.0)
    ∙ both_known c.args.local_id c.args.local.now c.args.target.now c.loop.id c.loop.other_id c.loop.counter (compatible c.args.local.now c.args.target.now c.args.local_id c.args.target_id) c.loop-test.true c.loop.invariant
    r s c.in_ok-one.ensures c.in_ok-other.ensures

pub returns : goal.returns
returns c =
    too_many c.args.local_id c.args.local.now c.args.target.now c.loop.id c.loop.other_id c.loop.counter (compatible c.args.local.now c.args.target.now c.args.local_id c.args.target_id) (omega arith) c.loop.invariant
