use Rattle.std.proofs.Common.{◌≡◌, ℕ, length, map, List, [], ◌∷◌, Option, ap, sym, ◌∙◌, arith, Ok}
use Rattle.std.specs.List.{flat_map}
use Rattle.std.proofs.lemmas.List.{length-append, map-append}
use Rattle.std.proofs.lemmas.Option.{IfSome_then}
use Rattle.btf_model.specs.Refusal.{Refusal}
use Rattle.btf_rewrite_model.specs.Made.{Entry, section_entries}
use Rattle.btf_rewrite_model.specs.Checks.{first_fault}
use Rattle.btf_rewrite_model.specs.Rule.{placed}
use Rattle.btf_rewrite_model.specs.Fault.{entry_checks}
use Rattle.btf_table.specs.Checked.{checked}
use Rattle.btf_table.specs.KsymsStep.{model_entry}
use Rattle.btf_table.proofs.Checks.{checked_err, checked_ok}
use Rattle.btf_plain.proofs.Refused.{handed_on}
use Rattle.btf_table.proofs.SectionItems.{one_more_passes, this_one_faults, one_more_maps, all_entries}
use Rattle.btf_table.proofs.sanitize.data_sec.entries.place_entries.Goals as goal

pub returns-in_err-placed-clause-answer : goal.returns-in_err-placed-clause-answer
returns-in_err-placed-clause-answer g c = λ p same symbols.
    let tail : List ℕ = c.args.data_sec.now.tail in
    let answer : List Entry = map (placed p) (section_entries tail) in
    handed_on (λ v. map model_entry v.items) c.in_err-placed.field-0.0 c.from_residual.result (λ a. a ≡ checked (first_fault (flat_map (entry_checks p) (section_entries tail))) answer) c.from_residual.ensures.1
    (IfSome_then _ (c.in_err-placed.ensures.made p same symbols) (λ refusal is.
    sym (ap (λ (f : Option Refusal). checked f answer) (this_one_faults (entry_checks p) tail c.entries-entry-items.result.now c.loop-entry.entry-index refusal c.entries-entry-items.ensures.words c.loop-entry-test.true
    (c.loop-entry.invariant.2 p same symbols).0 (checked_err _ _ refusal is)))))

pub loop-entry-preserved : goal.loop-entry-preserved
loop-entry-preserved g c =
    let es : _ = c.entries-entry-items.result.now in
    let i : ℕ = c.loop-entry.entry-index in
    let old : _ = c.loop-entry.placed_entries.items in
    let e : _ = c.in_ok-placed.placed in (
      omega (arith, ap length c.in_ok-push.ensures.items, length-append old (e ∷ []), c.loop-entry.invariant.0),
      c.in_ok-placed.ensures.found,
      λ p same symbols.
          let is : _ = checked_ok _ _ _ (c.in_ok-placed.ensures.made p same symbols) in
          let before : _ = c.loop-entry.invariant.2 p same symbols in (
            one_more_passes (entry_checks p) es i c.loop-entry-test.true before.0 is.0,
            ap (map model_entry) c.in_ok-push.ensures.items ∙ map-append model_entry old (e ∷ [])
                ∙ one_more_maps (placed p) es i (map model_entry old) (model_entry e) c.loop-entry-test.true before.1 is.1,
          ),
    )

pub returns-clause-answer : goal.returns-clause-answer
returns-clause-answer g c = λ p same symbols.
    let tail : List ℕ = c.args.data_sec.now.tail in
    let here : _ = c.loop-entry.invariant.2 p same symbols in
    let all : _ = all_entries tail c.entries-entry-items.result.now c.loop-entry.entry-index c.entries-entry-items.ensures.words c.loop-entry-test.false in
    let passed : first_fault (flat_map (entry_checks p) (section_entries tail)) ≡ _ = ap (λ (es : List Entry). first_fault (flat_map (entry_checks p) es)) (sym all) ∙ here.0 in
    ap (λ (es : List Entry). Ok es) (here.1 ∙ ap (map (placed p)) all) ∙ sym (ap (λ (f : Option Refusal). checked f (map (placed p) (section_entries tail))) passed)
