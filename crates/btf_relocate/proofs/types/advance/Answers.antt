use Rattle.std.proofs.Common.{◌≡◌, ◌+◌, ◌<◌, refl, arith, subst}
use Rattle.std.specs.Prelude.{reverse}
use Rattle.btf_relocate.specs.Steps.{Continues, comparison}
use Rattle.btf_relocate.specs.declared.types.Progress.{Progress}
use Rattle.btf_relocate.specs.declared.types.walk.Next.{Next}
use Rattle.std.specs.Prelude.{Ok, Some}
use Rattle.btf_relocate.proofs.Comparing.{failed, ends, goes_on, pushed_on, pushed, runs_asked, moved}
use Rattle.btf_relocate.specs.Comparing.{LeavesFewer}
use Rattle.btf_relocate.specs.declared.types.Frame.{Frame}
use Rattle.btf_relocate.proofs.Measures.{ended_work, pushed_work, asked_work, next_position, same_position}
use Rattle.btf_relocate.proofs.types.advance.Goals as goal

pub returns-in_err-is_alike-clause-runs : goal.returns-in_err-is_alike-clause-runs
returns-in_err-is_alike-clause-runs c = λ root under.
    failed (comparison c.args.rule c.args.local.now c.args.target.now) root c.args.progress.now c.args.frame.now (reverse c.args.progress.now.frames.items) c.args.answer
    c.from_residual.result c.in_err-is_alike.field-0.0 c.from_residual.ensures.1 under c.in_err-is_alike.ensures.continues

pub returns-in_ok-insert-in-Ends-clause-runs : goal.returns-in_ok-insert-in-Ends-clause-runs
returns-in_ok-insert-in-Ends-clause-runs c = λ root under.
    let whole = comparison c.args.rule c.args.local.now c.args.target.now in
    ends whole c.args.progress.now.pairs c.insert.new.self root c.args.frame.now (reverse c.args.progress.now.frames.items) c.args.answer c.in-Ends.is_alike under
    (subst (λ (n : Next). Continues whole c.args.frame.now c.args.answer (Ok n)) c.in-Ends.is c.in_ok-is_alike.ensures.continues) c.in_ok-insert-in-Ends.ensures.updates

pub returns-in_ok-push-in-GoesOn-clause-runs : goal.returns-in_ok-push-in-GoesOn-clause-runs
returns-in_ok-push-in-GoesOn-clause-runs c = λ root under.
    let whole = comparison c.args.rule c.args.local.now c.args.target.now in
    let f = c.args.frame.now in
    pushed_on whole root c.args.progress.now.pairs c.args.progress.now.frames.items c.push.new.self.items (moved whole f c.in-GoesOn.at c.saturating_sub.result 0 0) _ c.in_ok-push-in-GoesOn.ensures.items
    (goes_on whole c.args.progress.now.pairs root f (reverse c.args.progress.now.frames.items) c.args.answer under c.in-GoesOn.at c.saturating_sub.result c.saturating_sub.ensures
    (subst (λ (n : Next). Continues whole f c.args.answer (Ok n)) c.in-GoesOn.is c.in_ok-is_alike.ensures.continues))

pub returns-in_ok-push-in-Asks-clause-runs : goal.returns-in_ok-push-in-Asks-clause-runs
returns-in_ok-push-in-Asks-clause-runs c = λ root under.
    let whole = comparison c.args.rule c.args.local.now c.args.target.now in
    let f = c.args.frame.now in
    let fs = reverse c.args.progress.now.frames.items in
    let old : Progress = record { pairs = c.args.progress.now.pairs; frames = c.push-in-Asks.new.self } in
    runs_asked whole root f fs c.args.answer c.in-Asks.index c.in-Asks.other c.in-Asks.pair old c.ask.new.progress c.ask.result under
    (subst (λ (n : Next). Continues whole f c.args.answer (Ok n)) c.in-Asks.is c.in_ok-is_alike.ensures.continues)
    (pushed whole c.args.progress.now.frames.items c.push-in-Asks.new.self.items (moved whole f f.at f.left c.in-Asks.index c.in-Asks.other) c.in_ok-push-in-Asks.ensures.items)
    c.ask.ensures

pub returns-in_ok-insert-in-Ends-clause-fewer : goal.returns-in_ok-insert-in-Ends-clause-fewer
returns-in_ok-insert-in-Ends-clause-fewer c =
    let whole = comparison c.args.rule c.args.local.now c.args.target.now in
    let new : Progress = record { pairs = c.insert.new.self; frames = c.args.progress.now.frames } in
    ended_work whole c.args.progress.now new c.args.frame.now c.args.frame.now.start (Some c.in-Ends.is_alike) c.in_ok-insert-in-Ends.ensures.updates refl

pub returns-in_ok-push-in-GoesOn-clause-fewer : goal.returns-in_ok-push-in-GoesOn-clause-fewer
returns-in_ok-push-in-GoesOn-clause-fewer c =
    let whole = comparison c.args.rule c.args.local.now c.args.target.now in
    let f = c.args.frame.now in
    let g : Frame = moved whole f c.in-GoesOn.at c.saturating_sub.result 0 0 in
    let new : Progress = record { pairs = c.args.progress.now.pairs; frames = c.push.new.self } in
    let some : 0 < f.left = subst (λ (n : Next). LeavesFewer f n) c.in-GoesOn.is c.in_ok-is_alike.ensures.fewer in
    let one : c.saturating_sub.result + 1 ≡ f.left = omega (arith, some, c.saturating_sub.ensures) in
    pushed_work whole c.args.progress.now new f g refl c.in_ok-push-in-GoesOn.ensures.items (next_position f g one)

pub returns-in_ok-push-in-Asks-clause-fewer : goal.returns-in_ok-push-in-Asks-clause-fewer
returns-in_ok-push-in-Asks-clause-fewer c =
    let whole = comparison c.args.rule c.args.local.now c.args.target.now in
    let f = c.args.frame.now in
    let g : Frame = moved whole f f.at f.left c.in-Asks.index c.in-Asks.other in
    let mid : Progress = record { pairs = c.args.progress.now.pairs; frames = c.push-in-Asks.new.self } in
    asked_work whole c.args.progress.now mid c.ask.new.progress f g c.in-Asks.pair c.ask.result refl c.in_ok-push-in-Asks.ensures.items
    (same_position f g refl (subst (λ (n : Next). LeavesFewer f n) c.in-Asks.is c.in_ok-is_alike.ensures.fewer)) c.ask.ensures
