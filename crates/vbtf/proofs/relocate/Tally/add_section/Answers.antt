use Rattle.std.proofs.Common.{◌≡◌, ◌∙◌, ◌<◌, ◌+◌, ◌++◌, ◌∷◌, [], ℕ, suc, List, length, take, slice_index_or, sym, ap, subst, arith}
use Rattle.std.specs.Prelude.{unwrap_or, option_map, Ok}
use Rattle.std.proofs.Math.Seq.{take-suc}
use Rattle.std.proofs.lemmas.List.{append_assoc, take_all}
use Rattle.btf_relocate_model.specs.declared.instruction.Patched.TheVariants.{Written}
use Rattle.btf_relocate_model.specs.declared.report.Change.TheVariants.{NoField}
use Rattle.btf_relocate_model.specs.declared.report.Matched.TheVariants.{Nothing}
use Rattle.btf_relocate_model.specs.declared.report.Report.{Report}
use Rattle.vbtf.specs.Relocate.{Counts}
use Rattle.vbtf.proofs.relocate.Tally.add_section.Goals as goal

-- a report to read where there is none
abbrev none : Report
none = record { outcome = Ok Written; matched = Nothing; change = NoField }

-- the reports so far, with the next one
next_report : (counted reports : List Report) (i : ℕ) (d : Report) → i < length reports
    → (counted ++ take i reports) ++ slice_index_or reports i d ∷ [] ≡ counted ++ take (i + 1) reports
next_report counted reports i d within =
    let next : suc i ≡ i + 1 = omega arith in
    append_assoc counted (take i reports) (slice_index_or reports i d ∷ [])
    ∙ ap (λ xs. counted ++ xs) (sym (take-suc reports i d within) ∙ ap (λ (n : ℕ). take n reports) next)

pub loop-report-preserved : goal.loop-report-preserved
loop-report-preserved c = λ counted before.
    let reports : List Report = c.deref-report-items.result.now in
    let i : ℕ = c.loop-report.report-index in
    subst (λ xs. Counts c.add.new.self xs) (next_report counted reports i none c.loop-report-test.true) (c.add.ensures (counted ++ take i reports) (c.loop-report.invariant counted before))

pub returns : goal.returns
returns c = λ counted before.
    let whole = take_all c.loop-report.report-index c.deref-report-items.result.now c.loop-report-test.false in
    let now = c.loop-report.invariant counted before in
    subst (λ xs. Counts c.loop-report.self (counted ++ xs)) (whole ∙ c.deref-report-items.ensures.value ∙ sym (ap (λ o. unwrap_or (option_map (λ v. v.items) o) []) c.in-Some.is)) now
