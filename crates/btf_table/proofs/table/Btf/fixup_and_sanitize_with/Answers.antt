use Rattle.std.proofs.Common.{IfSome, ◌≡◌, Option, None, Some, Ok, Err, List, refl, sym, subst, ◌∙◌}
use Rattle.std.proofs.lemmas.Option.{IfSome_then}
use Rattle.std.specs.Prelude.{OnOk}
use Rattle.btf_model.specs.Table.{Table}
use Rattle.btf_rewrite_model.specs.Rewritten.{begun, pass_of}
use Rattle.btf_plain.specs.Error.{refusal_of, MeetsOrNoMemory}
use Rattle.btf_table.specs.KsymsStep.{ksyms_ids}
use Rattle.btf_table.specs.Layout.{layout_of}
use Rattle.btf_table.specs.PassStep.{Given, given_under}
use Rattle.btf_table.specs.Rewrites.{Rewrites}
use Rattle.btf_rewrite_model.specs.declared.ksyms_ids.KsymsIds.{KsymsIds}
use Rattle.btf_rewrite_model.specs.declared.feature.FeatureAnswer.{FeatureAnswer}
use Rattle.btf_table.proofs.PassAsking.{begins_none}
use Rattle.btf_table.proofs.Rewriting.{asked_by, stepped_by, rewrites_by, Keeps, keeps_of, on_ok}
use Rattle.btf_table.proofs.table.Btf.fixup_and_sanitize_with.Given.{Over}
use Rattle.btf_table.proofs.table.Btf.fixup_and_sanitize_with.Goals as goal
use Rattle.btf_table.proofs.table.Btf.fixup_and_sanitize_with.Goals.{After-sanitize, After-drop-undo}

-- without symbols: what is retained of the table, if it is rewritten
keeps_alone : (g : Over) (c : After-sanitize g) (Q : Type 0) → (Keeps c.args.policy c.args.self.now c.args.ksyms c.sanitize.new.resolver.answers c.sanitize.new.self → Q) → OnOk c.sanitize.result Q
keeps_alone g c Q follows =
    let old : Table = c.args.self.now in
    let new : Table = c.sanitize.new.self in
    let given : Given = given_under c.args.policy (layout_of c.args.sections.now c.args.symbols.now) in
    let answers = c.sanitize.new.resolver.answers in
    on_ok (λ a. a.items) c.sanitize.result (Rewrites (asked_by None given) old answers new) Q (rewrites_by (λ a. a.items) c.sanitize.result old old new None given answers refl refl c.sanitize.ensures.sanitizes)
    (λ items h. follows (subst (λ (k : Option KsymsIds). Keeps given.policy old k answers new) (sym c.in_default.is) (keeps_of old new None given answers items h)))

pub returns-in_default-clause-rewrites : goal.returns-in_default-clause-rewrites
returns-in_default-clause-rewrites g c =
    let old : Table = c.args.self.now in
    let new : Table = c.sanitize.new.self in
    let given : Given = given_under c.args.policy (layout_of c.args.sections.now c.args.symbols.now) in
    let answers = c.sanitize.new.resolver.answers in
    subst (λ (k : Option KsymsIds). MeetsOrNoMemory (λ a. a.items) c.sanitize.result (Rewrites (asked_by k given) old answers new)) (sym c.in_default.is)
    (rewrites_by (λ a. a.items) c.sanitize.result old old new None given answers refl refl c.sanitize.ensures.sanitizes)

pub returns-in_default-clause-granted : goal.returns-in_default-clause-granted
returns-in_default-clause-granted g c = keeps_alone g c _ (λ k. k.granted)

pub returns-in_default-clause-kept : goal.returns-in_default-clause-kept
returns-in_default-clause-kept g c = keeps_alone g c _ (λ k. k.meaning)

pub returns-in_err-changes-clause-asked : goal.returns-in_err-changes-clause-asked
returns-in_err-changes-clause-asked g c = begins_none (pass_of c.args.policy c.args.self.now c.args.ksyms (layout_of c.args.sections.now c.args.symbols.now) c.args.resolver.now.answers) c.requires.unasked

pub returns-in_err-undo-clause-asked : goal.returns-in_err-undo-clause-asked
returns-in_err-undo-clause-asked g c = begins_none (pass_of c.args.policy c.args.self.now c.args.ksyms (layout_of c.args.sections.now c.args.symbols.now) c.args.resolver.now.answers) c.requires.unasked

-- with symbols: what is retained of the table
keeps_stepped : (g : Over) (c : After-drop-undo g) → Keeps c.args.policy c.args.self.now c.args.ksyms c.sanitize-2.new.resolver.answers c.sanitize-2.new.self
keeps_stepped g c =
    let old : Table = c.args.self.now in
    let new : Table = c.sanitize-2.new.self in
    let given : Given = given_under c.args.policy (layout_of c.args.sections.now c.args.symbols.now) in
    let ids : KsymsIds = ksyms_ids c.in-Some.ids.datasec_id c.in-Some.ids.placeholder_id in
    let there : c.apply.new.self ≡ begun old (Some ids) = c.in_ok-undo.ensures.ok ∙ c.in_ok-changes.ensures.2 in
    let answers = c.sanitize-2.new.resolver.answers in
    let h = stepped_by old c.apply.new.self new (Some ids) given answers (Ok c.in-Ok.answers.items) c.in_ok-changes.ensures.0 there c.in-Ok.ensures.sanitizes in
    subst (λ (k : Option KsymsIds). Keeps given.policy old k answers new) (sym c.in-Some.is) (keeps_of old new (Some ids) given answers c.in-Ok.answers.items h)

pub returns-in-Ok-clause-granted : goal.returns-in-Ok-clause-granted
returns-in-Ok-clause-granted g c = (keeps_stepped g c).granted

pub returns-in-Ok-clause-kept : goal.returns-in-Ok-clause-kept
returns-in-Ok-clause-kept g c = (keeps_stepped g c).meaning

pub returns-in-Err-clause-rewrites : goal.returns-in-Err-clause-rewrites
returns-in-Err-clause-rewrites g c =
    let old : Table = c.args.self.now in
    let given : Given = given_under c.args.policy (layout_of c.args.sections.now c.args.symbols.now) in
    let ids : KsymsIds = ksyms_ids c.in-Some.ids.datasec_id c.in-Some.ids.placeholder_id in
    let there : c.apply.new.self ≡ begun old (Some ids) = c.in_ok-undo.ensures.ok ∙ c.in_ok-changes.ensures.2 in
    let answers = c.sanitize-2.new.resolver.answers in
    subst (λ (k : Option KsymsIds). IfSome (refusal_of c.in-Err.error) (λ refusal. Rewrites {X = List FeatureAnswer} (asked_by k given) old answers c.undo.new.self (Err refusal))) (sym c.in-Some.is)
    (IfSome_then _ c.in-Err.ensures.sanitizes (λ refusal s. stepped_by {X = List FeatureAnswer} old c.apply.new.self c.undo.new.self (Some ids) given answers (Err refusal) c.in_ok-changes.ensures.0 there s))
