use Rattle.std.proofs.Common.{◌≡◌, ℕ, List, Some, None, Option, sym, ap, subst, ◌∙◌, rules, refl, length}
use Rattle.std.proofs.lemmas.Option.{slice_get_read}
use Rattle.btf_elf_model.specs.declared.section_header.SectionHeader.{SectionHeader}
use Rattle.std.specs.Prelude.{slice_get, is_err, false, if◌then◌else◌}
use Rattle.btf_ext.specs.Relocation.{relocation}
use Rattle.btf_model.specs.Text.{text_at}
use Rattle.btf_loader_model.specs.Loader.{Outcomes, index_at}
use Rattle.btf_loader_model.specs.Refused.{Reason, bad_outcome, shares_place}
use Rattle.btf_loader.specs.Errors.{Reports}
use Rattle.btf_loader.specs.Results.{left_in, loader_section_reason, loader_setting, refuses_errors}
use Rattle.btf_loader.proofs.Steps.{as_left, as_section, reason_is}
use Rattle.btf_loader.proofs.step.Loader.relocate_section.Goals as goal

pub returns-clause-relocated : goal.returns-clause-relocated
returns-clause-relocated c =
    let indexed : index_at (loader_setting c.args.self.now) c.args.self.now.object.now (relocation c.args.section.now).0 ≡ Some c.in-Some.index = search rules in
    let here : slice_get c.args.self.now.object.now.sections c.in-Some.index ≡ Some c.in-Some-get.header.now =
    ap (λ (xs : List SectionHeader). slice_get xs c.in-Some.index) (sym c.sections.ensures) ∙ slice_get_read c.sections.result.now (length c.sections.result.now) c.in-Some.index c.in-Some-get.header.now refl c.in-Some-get.ensures.lookup.3.0 c.in-Some-get.ensures.lookup.1 in
    as_section c.args.self.now (left_in c.args.self.now c.args.left.now) c.args.file.now (relocation c.args.section.now) c.in-Some.index c.in-Some-get.header.now indexed here c.deref.result.now c.deref.ensures.value
    _ c.in_ok-outcomes.ensures.relocated

pub returns-clause-left : goal.returns-clause-left
returns-clause-left c =
    let indexed : index_at (loader_setting c.args.self.now) c.args.self.now.object.now (relocation c.args.section.now).0 ≡ Some c.in-Some.index = search rules in
    let here : slice_get c.args.self.now.object.now.sections c.in-Some.index ≡ Some c.in-Some-get.header.now =
    ap (λ (xs : List SectionHeader). slice_get xs c.in-Some.index) (sym c.sections.ensures) ∙ slice_get_read c.sections.result.now (length c.sections.result.now) c.in-Some.index c.in-Some-get.header.now refl c.in-Some-get.ensures.lookup.3.0 c.in-Some-get.ensures.lookup.1 in
    as_left c.args.self.now (left_in c.args.self.now c.args.left.now) c.args.file.now (relocation c.args.section.now) c.in-Some.index c.in-Some-get.header.now indexed here c.deref.result.now c.deref.ensures.value
    _ c.in_ok-outcomes.ensures.left

pub returns-clause-reports : goal.returns-clause-reports
returns-clause-reports c =
    let indexed : index_at (loader_setting c.args.self.now) c.args.self.now.object.now (relocation c.args.section.now).0 ≡ Some c.in-Some.index = search rules in
    let here : slice_get c.args.self.now.object.now.sections c.in-Some.index ≡ Some c.in-Some-get.header.now =
    ap (λ (xs : List SectionHeader). slice_get xs c.in-Some.index) (sym c.sections.ensures) ∙ slice_get_read c.sections.result.now (length c.sections.result.now) c.in-Some.index c.in-Some-get.header.now refl c.in-Some-get.ensures.lookup.3.0 c.in-Some-get.ensures.lookup.1 in
    let readable : is_err (text_at c.args.self.now.local.now.strings c.args.section.now.0) ≡ false = search rules in
    let placed : shares_place c.args.self.now.object.now.sections c.in-Some.index ≡ false = search rules in
    let none : (if refuses_errors c.args.self.now.refusals then bad_outcome c.args.section.now.0 (Some c.in_ok-outcomes.outcomes.items) else None) ≡ None = search rules in
    reason_is c.args.self.now (left_in c.args.self.now c.args.left.now) c.args.file.now (relocation c.args.section.now) c.in-Some.index c.in-Some-get.header.now indexed here c.deref.result.now c.deref.ensures.value
    readable placed (Some c.in_ok-outcomes.outcomes.items) c.relocate_code.new.file c.in_ok-outcomes.ensures.relocated ∙ none

pub returns-in_err-check-clause-reports : goal.returns-in_err-check-clause-reports
returns-in_err-check-clause-reports c =
    let indexed : index_at (loader_setting c.args.self.now) c.args.self.now.object.now (relocation c.args.section.now).0 ≡ Some c.in-Some.index = search rules in
    let here : slice_get c.args.self.now.object.now.sections c.in-Some.index ≡ Some c.in-Some-get.header.now =
    ap (λ (xs : List SectionHeader). slice_get xs c.in-Some.index) (sym c.sections.ensures) ∙ slice_get_read c.sections.result.now (length c.sections.result.now) c.in-Some.index c.in-Some-get.header.now refl c.in-Some-get.ensures.lookup.3.0 c.in-Some-get.ensures.lookup.1 in
    let readable : is_err (text_at c.args.self.now.local.now.strings c.args.section.now.0) ≡ false = search rules in
    let placed : shares_place c.args.self.now.object.now.sections c.in-Some.index ≡ false = search rules in
    let found : Option Reason = if refuses_errors c.args.self.now.refusals then bad_outcome c.args.section.now.0 (Some c.in_ok-outcomes.outcomes.items) else None in
    let reported : Reports found c.from_residual-in_err-check.result = search rules in
    subst (λ (x : Option Reason). Reports x c.from_residual-in_err-check.result)
    (sym (reason_is c.args.self.now (left_in c.args.self.now c.args.left.now) c.args.file.now (relocation c.args.section.now) c.in-Some.index c.in-Some-get.header.now indexed here c.deref.result.now c.deref.ensures.value
    readable placed (Some c.in_ok-outcomes.outcomes.items) c.relocate_code.new.file c.in_ok-outcomes.ensures.relocated))
    reported
