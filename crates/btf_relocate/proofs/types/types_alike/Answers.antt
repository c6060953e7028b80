use Rattle.std.proofs.Common.{ℕ, ◌<◌, false, refl, subst}
use Rattle.btf_relocate_model.specs.Comparison.{pair}
use Rattle.btf_relocate.specs.Steps.{comparison}
use Rattle.btf_relocate.specs.declared.types.Progress.{Progress}
use Rattle.btf_relocate.proofs.Comparing.{begin}
use Rattle.btf_relocate.specs.Comparing.{work}
use Rattle.btf_relocate.proofs.Measures.{popped_work}
use Rattle.btf_relocate.proofs.types.types_alike.Goals as goal

pub loop-frame-init : goal.loop-frame-init
loop-frame-init c =
    let old : Progress = record { pairs = c.new.result; frames = c.new-2.result } in
    begin (comparison c.args.rule c.args.local.now c.args.target.now) (pair false c.args.local_id c.args.target_id) old c.ask.new.progress c.in_ok-answer.answer c.new.ensures.empty c.new-2.ensures.items c.in_ok-answer.ensures

pub loop-frame-smaller : goal.loop-frame-smaller
loop-frame-smaller c =
    let whole = comparison c.args.rule c.args.local.now c.args.target.now in
    let taken : Progress = record { pairs = c.loop-frame.progress.pairs; frames = c.pop.new.self } in
    subst (λ (n : ℕ). work whole c.advance.new.progress < n) (popped_work whole c.loop-frame.progress taken c.in-Some.frame refl c.in-Some.ensures.items) c.in_ok-answer-2.ensures.fewer
