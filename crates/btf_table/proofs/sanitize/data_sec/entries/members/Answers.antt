use Rattle.std.proofs.Common.{◌≡◌, ◌*◌, ℕ, length, List, [], ◌∷◌, Option, ap, sym, ◌∙◌, arith, Ok}
use Rattle.std.specs.List.{flat_map}
use Rattle.std.proofs.lemmas.List.{length-append}
use Rattle.std.proofs.lemmas.List.Concat.{flat_map-append}
use Rattle.std.proofs.lemmas.Option.{IfSome_then}
use Rattle.btf_model.specs.Refusal.{Refusal}
use Rattle.btf_rewrite_model.specs.Made.{Entry, section_entries}
use Rattle.btf_rewrite_model.specs.Checks.{first_fault}
use Rattle.btf_rewrite_model.specs.Rule.{member_name, entry_members}
use Rattle.btf_rewrite_model.specs.Fault.{member_checks}
use Rattle.btf_plain.specs.Items.{member_words}
use Rattle.btf_table.specs.Checked.{checked}
use Rattle.btf_table.proofs.Checks.{checked_err, checked_ok}
use Rattle.btf_plain.proofs.Refused.{handed_on}
use Rattle.btf_table.proofs.SectionItems.{one_more_passes, this_one_faults, one_more_becomes, all_entries}
use Rattle.btf_table.proofs.sanitize.data_sec.entries.members.Goals as goal

pub returns-in_err-member-clause-answer : goal.returns-in_err-member-clause-answer
returns-in_err-member-clause-answer c = λ p lower same names.
    let tail : List ℕ = c.args.data_sec.now.tail in
    let answer : List ℕ = entry_members p lower (length lower) (section_entries tail) in
    handed_on (λ v. flat_map member_words v.items) c.in_err-member.field-0.0 c.from_residual.result (λ a. a ≡ checked (first_fault (flat_map (member_checks p) (section_entries tail))) answer) c.from_residual.ensures.1
    (IfSome_then _ (c.in_err-member.ensures p lower same names) (λ refusal is.
    sym (ap (λ (f : Option Refusal). checked f answer) (this_one_faults (member_checks p) tail c.entries-entry-items.result.now c.loop-entry.entry-index refusal c.entries-entry-items.ensures.words c.loop-entry-test.true
    (c.loop-entry.invariant.1 p lower same names).0 (checked_err _ _ refusal is)))))

pub loop-entry-preserved : goal.loop-entry-preserved
loop-entry-preserved c =
    let es : _ = c.entries-entry-items.result.now in
    let i : ℕ = c.loop-entry.entry-index in
    let old : _ = c.loop-entry.members.items in
    let m : _ = c.in_ok-member.field-0 in (
      omega (arith, ap length c.in_ok-push.ensures.items, length-append old (m ∷ []), c.loop-entry.invariant.0),
      λ p lower same names.
          let is : _ = checked_ok _ _ _ (c.in_ok-member.ensures p lower same names) in
          let before : _ = c.loop-entry.invariant.1 p lower same names in (
            one_more_passes (member_checks p) es i c.loop-entry-test.true before.0 is.0,
            ap (flat_map member_words) c.in_ok-push.ensures.items ∙ flat_map-append member_words old (m ∷ [])
                ∙ one_more_becomes (λ (e : Entry). member_name p lower (length lower) e.type ∷ e.type ∷ e.offset * 8 ∷ []) es i (flat_map member_words old) (member_words m) c.loop-entry-test.true before.1 is.1,
          ),
    )

pub returns-clause-answer : goal.returns-clause-answer
returns-clause-answer c = λ p lower same names.
    let tail : List ℕ = c.args.data_sec.now.tail in
    let here : _ = c.loop-entry.invariant.1 p lower same names in
    let all : _ = all_entries tail c.entries-entry-items.result.now c.loop-entry.entry-index c.entries-entry-items.ensures.words c.loop-entry-test.false in
    let passed : first_fault (flat_map (member_checks p) (section_entries tail)) ≡ _ = ap (λ (es : List Entry). first_fault (flat_map (member_checks p) es)) (sym all) ∙ here.0 in
    ap (λ (ws : List ℕ). Ok ws) (here.1 ∙ ap (entry_members p lower (length lower)) all) ∙ sym (ap (λ (f : Option Refusal). checked f (entry_members p lower (length lower) (section_entries tail))) passed)
