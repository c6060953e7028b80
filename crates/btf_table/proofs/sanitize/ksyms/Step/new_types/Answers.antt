use Rattle.std.proofs.Common.{◌≡◌, ◌+◌, Option, length, ap, sym, refl, subst, ◌∙◌, arith}
use Rattle.std.specs.Prelude.{IfSome}
use Rattle.std.specs.Prelude.{slice_get}
use Rattle.std.specs.Option.{unwrap_or, option_map}
use Rattle.std.proofs.lemmas.List.{length-map}
use Rattle.std.proofs.lemmas.Option.{slice_get-map, slice_get_read}
use Rattle.btf_model.specs.Refusal.{Refusal}
use Rattle.btf_model.proofs.Comparisons.{same_ok}
use Rattle.btf_records.specs.BtfType.{record_of}
use Rattle.btf_records.specs.declared.btf_type.BtfType.{BtfType}
use Rattle.btf_table.specs.KsymsStep.{step_record, IsLike, AreStepped}
use Rattle.btf_table.proofs.KsymsSteps.{kept_next, changed_next, stepped_all}
use Rattle.btf_table.proofs.sanitize.ksyms.Step.new_types.Goals.{in-Some+in_ok-push, in_default}
use Rattle.btf_table.proofs.sanitize.ksyms.Step.new_types.Goals as goal

pub loop-id-preserved : goal.loop-id-preserved
loop-id-preserved c = λ ids step.
    let t : _ = c.args.btf.now in
    let ts : _ = c.args.types.now in
    let i : _ = c.loop-id.id in
    let b : BtfType = c.index-types-id.result in
    let words : record_of (unwrap_or c.in_ok-new_type.field-0 b) ≡ step_record t ids i (record_of b) = same_ok {E = Refusal} (record_of (unwrap_or c.in_ok-new_type.field-0 b)) (step_record t ids i (record_of b)) (c.in_ok-new_type.ensures.words ids step) in
    elim c.match-branch-2.branch [
      | in-Some+in_ok-push w ↦
          subst (λ cs. AreStepped t ids (i + 1) cs) (sym (ap (λ v. v.items) w.new_types-is ∙ w.in_ok-push.ensures.items))
          (changed_next t ids ts c.requires.records c.requires.fallbacks i c.loop-id.new_types.items b w.in-Some.new_type (omega (arith, c.loop-id.auto.id)) c.loop-id-test.true c.index-types-id.is (c.loop-id.invariant ids step)
          (ap (λ (o : Option BtfType). record_of (unwrap_or o b)) (sym w.in-Some.is) ∙ words) (subst (λ (o : Option BtfType). IfSome o (IsLike b)) w.in-Some.is (c.in_ok-new_type.ensures.like ids step)))
      | in_default w ↦
          subst (λ cs. AreStepped t ids (i + 1) cs) (sym (ap (λ v. v.items) w.new_types-is))
          (kept_next t ids ts c.requires.records c.requires.fallbacks i c.loop-id.new_types.items b c.loop-id-test.true c.index-types-id.is (c.loop-id.invariant ids step)
          (ap (λ (o : Option BtfType). record_of (unwrap_or o b)) (sym w.in_default.is) ∙ words))
    ]

pub returns : goal.returns
returns c = λ ids step.
    let ts : _ = c.args.types.now in
    stepped_all c.args.btf.now ids ts c.loop-id.id c.loop-id.new_types.items c.requires.records c.loop-id-test.false
    (omega (arith, c.loop-id.auto.id-end, ap length c.requires.first.1, ap length c.requires.records, length-map ts record_of)) (c.loop-id.invariant ids step)

pub new_type-requires : goal.new_type-requires
new_type-requires c =
    ap (λ rs. slice_get rs c.loop-id.id) (sym c.requires.records) ∙ slice_get-map record_of c.args.types.now c.loop-id.id
    ∙ ap (option_map record_of) (slice_get_read c.args.types.now (length c.args.types.now) c.loop-id.id c.index-types-id.result refl c.loop-id-test.true c.index-types-id.is)
