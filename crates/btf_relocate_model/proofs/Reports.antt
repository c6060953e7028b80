-- The reports of records, one after another.
use Rattle.std.proofs.Common.{◌≡◌, ℕ, List, [], ◌∷◌, ◌++◌, Bool, Result, refl, ap}
use Rattle.std.specs.Prelude.{map}
use Rattle.btf_model.specs.declared.endianness.Endianness.{Endianness}
use Rattle.btf_relocate_model.specs.Laws.{ReportsHaveOutcomes, RecordsInTurn}
use Rattle.btf_relocate_model.specs.Modules.{first_matched, resolution_among}
use Rattle.btf_relocate_model.specs.Resolution.{type_word}
use Rattle.btf_relocate_model.specs.Section.{code_after, left_after, left_after_all, matched_by, patch_in, patched_outcome, relocated_by, report_of, reported_by, then_outcomes, then_reports}
use Rattle.btf_relocate_model.specs.declared.error.RelocationError.{RelocationError}
use Rattle.btf_relocate_model.specs.declared.report.Matched.{Matched}
use Rattle.btf_relocate_model.specs.declared.report.Report.{Report}
use Rattle.btf_relocate_model.specs.declared.resolved.Resolved.{Resolved}

module _ {A : Type 0} (first : A → Matched) (order : Endianness) (resolve : A → List ℕ → Result (Resolved × A) RelocationError) (shares : Bool) where
  pub have_outcomes : (left : ℕ → A) (code : List ℕ) (records : List (List ℕ))
      → (map (λ (x : Report). x.outcome) (reported_by first order resolve shares left code records).0, (reported_by first order resolve shares left code records).1) ≡ relocated_by order resolve shares left code records
  have_outcomes left code [] = refl
  have_outcomes left code (words ∷ records) =
      let r = resolve (left (type_word words)) words in
      let p = patch_in order code words r in
      ap (then_outcomes (patched_outcome p)) (have_outcomes (left_after shares words r left) (code_after code p) records)

  pub in_turn : (left : ℕ → A) (code : List ℕ) (one two : List (List ℕ))
      → let a = reported_by first order resolve shares left code one in
      let b = reported_by first order resolve shares (left_after_all resolve shares left one) a.1 two in
      reported_by first order resolve shares left code (one ++ two) ≡ (a.0 ++ b.0, b.1)
  in_turn left code [] two = refl
  in_turn left code (words ∷ one) two =
      let r = resolve (left (type_word words)) words in
      let p = patch_in order code words r in
      ap (then_reports (report_of order code words (matched_by first r) p)) (in_turn (left_after shares words r left) (code_after code p) one two)

pub reports_have_outcomes : ReportsHaveOutcomes
reports_have_outcomes g shares left code records = have_outcomes first_matched g.local.order (resolution_among g.local g.targets) shares left code records

pub records_in_turn : RecordsInTurn
records_in_turn g shares left code first second = in_turn first_matched g.local.order (resolution_among g.local g.targets) shares left code first second
