use Rattle.std.proofs.Common.{◌≡◌, List, Ok, Err, refl, ap, subst, ◌∙◌, inl, inr}
use Rattle.std.specs.Prelude.{IfSome, None}
use Rattle.btf_rewrite_model.specs.declared.feature.FeatureAnswer.{FeatureAnswer}
use Rattle.btf_table.specs.Rewrites.{NeedsAreGranted, KeepsMeaning}
use Rattle.btf.specs.Layout.{layout_of}
use Rattle.btf_plain.specs.Error.{refusal_of}
use Rattle.btf_model.specs.Table.{Table}
use Rattle.btf_rewrite_model.specs.Pass.{Layout}
use Rattle.btf_rewrite_model.specs.Rewritten.{pass_of}
use Rattle.btf_table.specs.PassStep.{BeginsAsked}
use Rattle.vbtf.specs.Kernel.{AreAnswersOf, RewritesForKernel, ListsAnswers, policy_chosen, ids_chosen, rewrite_chosen}
use Rattle.vbtf.specs.Program.{layout_named, AreReadableEntries}
use Rattle.vbtf.proofs.Ending.{refused}
use Rattle.vbtf.proofs.Kernels.{carried, for_handle}
use Rattle.vbtf.proofs.rewrite.vbtf_raw_rewrite.Goals as goal
use Rattle.vbtf.proofs.rewrite.vbtf_raw_rewrite.Goals.{After-owner}

-- the table that is rewritten is the handle's
same_old : (c : After-owner) → c.deref_mut.result.now.btf ≡ c.args.table.now.opened.btf
same_old c = ap (λ o. o.btf) c.deref_mut.ensures.value ∙ c.in-Some.ensures.2.btf ∙ ap (λ h. h.opened.btf) c.read_state.ensures.1

-- the rewritten table is the handle's
same_new : (c : After-owner) → c.owner.result.opened.btf ≡ c.rewrite-answer.new.btf
same_new c = ap (λ o. o.btf) c.owner.ensures.1

-- the .BTF.ext is the one that was open
same_ext : (c : After-owner) → c.owner.result.opened.ext ≡ c.args.table.now.opened.ext
same_ext c = ap (λ o. o.ext) c.owner.ensures.1 ∙ ap (λ o. o.ext) c.deref_mut.ensures.value ∙ c.in-Some.ensures.2.ext ∙ ap (λ h. h.opened.ext) c.read_state.ensures.1

-- no index is open
no_index : (c : After-owner) → c.owner.result.opened.index ≡ None
no_index c = ap (λ o. o.index) c.owner.ensures.1 ∙ ap (λ o. o.index) c.deref_mut.ensures.value ∙ c.in-Some.ensures.2.index

-- the maps have the numbers of the entries
same_layout : (c : After-owner) → layout_of c.in-Ok-Some.program.sections c.in-Ok-Some.program.symbols ≡ layout_named c.args.section_names.now c.args.sections.now c.args.symbol_names.now c.args.symbols.now
same_layout c = subst (λ o. IfSome o (λ p. layout_of p.sections p.symbols ≡ layout_named c.args.section_names.now c.args.sections.now c.args.symbol_names.now c.args.symbols.now)) c.in-Ok-Some.field-0-is c.in-Ok-Some.ensures.some

readable : (c : After-owner) → AreReadableEntries c.args.section_names.now c.args.sections.now × AreReadableEntries c.args.symbol_names.now c.args.symbols.now
readable c = subst (λ o. IfSome o (λ _. AreReadableEntries c.args.section_names.now c.args.sections.now × AreReadableEntries c.args.symbol_names.now c.args.symbols.now)) c.in-Ok-Some.field-0-is c.in-Ok-Some.ensures.readable

pub returns-in-Ok-clause-kept : goal.returns-in-Ok-clause-kept
returns-in-Ok-clause-kept c = λ zero.
    let w = (goal.at.returns-in-Ok-clause-kept c).After-owner in
    carried KeepsMeaning _ _ _ _ (same_old w) (same_new w) c.in-Ok.ensures.kept

pub returns-in-Ok-clause-granted : goal.returns-in-Ok-clause-granted
returns-in-Ok-clause-granted c = λ zero.
    let w = (goal.at.returns-in-Ok-clause-granted c).After-owner in
    let kernel = c.args.kernel.now in
    let listed : List FeatureAnswer = c.in-Ok.field-0.items in (
      listed,
      c.in-Ok.ensures.listed,
      carried (NeedsAreGranted (policy_chosen kernel) (ids_chosen kernel) listed) _ _ _ _ (same_old w) (same_new w) c.in-Ok.ensures.granted,
    )

-- the answers that were reported are to the first features that the rewrite of the handle's table asks for
reported : (c : After-owner) → (listed : List FeatureAnswer) × ListsAnswers c.rewrite-answer.new.asked listed × AreAnswersOf c.args.kernel.now.features listed
    × BeginsAsked (pass_of (policy_chosen c.args.kernel.now) c.args.table.now.opened.btf (ids_chosen c.args.kernel.now) (layout_named c.args.section_names.now c.args.sections.now c.args.symbol_names.now c.args.symbols.now) listed)
reported c =
    let kernel = c.args.kernel.now in
    let asked = c.rewrite-answer.ensures.asked in (
      asked.0,
      asked.1,
      asked.2,
      subst (λ (l : Layout). BeginsAsked (pass_of (policy_chosen kernel) c.args.table.now.opened.btf (ids_chosen kernel) l asked.0)) (same_layout c)
          (subst (λ (t : Table). BeginsAsked (pass_of (policy_chosen kernel) t (ids_chosen kernel) (layout_of c.in-Ok-Some.program.sections c.in-Ok-Some.program.symbols) asked.0)) (same_old c) asked.3),
    )

pub returns-in-Ok-clause-asked : goal.returns-in-Ok-clause-asked
returns-in-Ok-clause-asked c = reported (goal.at.returns-in-Ok-clause-asked c).After-owner

pub returns-clause-asked : goal.returns-clause-asked
returns-clause-asked c = reported (goal.at.returns-clause-asked c).After-owner

pub returns-in-Ok-clause-ends : goal.returns-in-Ok-clause-ends
returns-in-Ok-clause-ends c = λ owned sections symbols.
    let w = (goal.at.returns-in-Ok-clause-ends c).After-owner in
    let kernel = c.args.kernel.now in
    let listed : List FeatureAnswer = c.in-Ok.field-0.items in (
      c.owner.ensures.0,
      same_ext w,
      inl (
        refl,
        no_index w,
        listed,
        c.in-Ok.ensures.listed,
        for_handle kernel.features (policy_chosen kernel) (ids_chosen kernel) c.deref_mut.result.now.btf c.args.table.now.opened.btf _ (layout_named c.args.section_names.now c.args.sections.now c.args.symbol_names.now c.args.symbols.now) c.rewrite-answer.new.btf c.owner.result.opened.btf (Ok listed) (same_old w) (same_layout w) (same_new w) c.in-Ok.ensures.rewrites,
      ),
    )

pub returns-clause-ends : goal.returns-clause-ends
returns-clause-ends c = λ owned sections symbols.
    let w = (goal.at.returns-clause-ends c).After-owner in
    let kernel = c.args.kernel.now in
    let ended = refused c.report-in-Err-answer.result c.report-in-Err-answer.new.fault (refusal_of c.in-Err-answer.error)
    (RewritesForKernel kernel.features (rewrite_chosen kernel (layout_of c.in-Ok-Some.program.sections c.in-Ok-Some.program.symbols)) c.deref_mut.result.now.btf c.rewrite-answer.new.btf)
    c.in-Err-answer.ensures.rewrites c.report-in-Err-answer.ensures in (
      c.owner.ensures.0,
      same_ext w,
      inr (
        same_new w ∙ c.in-Err-answer.ensures.err ∙ same_old w,
        inl (no_index w),
        elim ended [
          | inl full ↦ inl full
          | inr (refusal, reported, found) ↦ inr (
            refusal,
            reported,
            for_handle kernel.features (policy_chosen kernel) (ids_chosen kernel) c.deref_mut.result.now.btf c.args.table.now.opened.btf _ (layout_named c.args.section_names.now c.args.sections.now c.args.symbol_names.now c.args.symbols.now) c.rewrite-answer.new.btf c.owner.result.opened.btf (Err refusal) (same_old w) (same_layout w) (same_new w) found,
          )
        ],
      ),
    )

pub returns-clause-unreadable : goal.returns-clause-unreadable
returns-clause-unreadable c = λ owned unreadable. absurd (unreadable (readable (goal.at.returns-clause-unreadable c).After-owner))

pub returns-in-Ok-clause-unreadable : goal.returns-in-Ok-clause-unreadable
returns-in-Ok-clause-unreadable c = λ owned unreadable. absurd (unreadable (readable (goal.at.returns-in-Ok-clause-unreadable c).After-owner))
