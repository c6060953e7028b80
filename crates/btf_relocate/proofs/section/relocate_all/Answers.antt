use Rattle.std.proofs.Common.{◌≡◌, ◌+◌, ℕ, List, ◌∷◌, [], drop, get_or, false, sym, ap, ◌∙◌, drop-cons, add-one, arith, rules}
use Rattle.std.proofs.lemmas.List.{drop_all}
use Rattle.btf_relocate_model.specs.Resolution.{type_word}
use Rattle.btf_relocate.specs.Modules.{targets_view}
use Rattle.btf_relocate.proofs.Sections.{is_out_of_memory}
use Rattle.btf_relocate.proofs.SectionsAmong.{HasLeft, continues, all_done}
use Rattle.btf_relocate.proofs.section.relocate_all.Goals as goal

pub loop-record-preserved : goal.loop-record-preserved
loop-record-preserved c =
    let i = c.loop-record.record-index in
    let words : List ℕ = get_or c.args.records.now i [] in
    let here : drop i c.args.records.now ≡ words ∷ drop (i + 1) c.args.records.now = drop-cons c.args.records.now i [] c.loop-record-test.true ∙ ap (λ (n : ℕ). words ∷ drop n c.args.records.now) (sym (add-one i)) in
    let left : HasLeft c.args.policy (type_word words) c.relocate-report.new.candidates c.candidates_for.new.shared c.match-policy.left.lists = search rules in
    let written : is_out_of_memory c.relocate-report.result.outcome ≡ false = search rules in
    continues c.args.policy c.args.local.now (targets_view c.args.targets.now) c.args.left.now.lists c.args.code.now c.args.records.now c.loop-record.reports.items c.push.new.self.items words c.in_ok-candidates.candidates c.relocate-report.new.candidates c.loop-record.left.lists c.candidates_for.new.shared c.match-policy.left.lists c.loop-record.code c.relocate-report.new.code c.relocate-report.result i
    c.loop-record.invariant here c.in_ok-push.ensures.items c.in_ok-candidates.ensures.items c.candidates_for.ensures.others left c.relocate-report.ensures written

pub returns-clause-reported : goal.returns-clause-reported
returns-clause-reported c =
    (all_done c.args.policy c.args.local.now (targets_view c.args.targets.now) c.args.left.now.lists c.args.code.now c.args.records.now c.loop-record.reports.items c.loop-record.left.lists c.loop-record.code (drop c.loop-record.record-index c.args.records.now) c.loop-record.invariant
    (drop_all c.loop-record.record-index c.args.records.now (omega arith))).0

pub returns-clause-left : goal.returns-clause-left
returns-clause-left c =
    (all_done c.args.policy c.args.local.now (targets_view c.args.targets.now) c.args.left.now.lists c.args.code.now c.args.records.now c.loop-record.reports.items c.loop-record.left.lists c.loop-record.code (drop c.loop-record.record-index c.args.records.now) c.loop-record.invariant
    (drop_all c.loop-record.record-index c.args.records.now (omega arith))).1
