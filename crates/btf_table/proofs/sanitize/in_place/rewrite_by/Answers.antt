use Rattle.std.proofs.Common.{◌≡◌, Some, Option, Bool, ap, subst, ◌∙◌}
use Rattle.std.specs.Prelude.{if◌then◌else◌}
use Rattle.btf_model.specs.Record as kinds
use Rattle.btf_model.specs.Record.{Kind, kind_of}
use Rattle.btf_rewrite_model.specs.Pass.{Pass}
use Rattle.btf_rewrite_model.specs.Rule.{ruled_below}
use Rattle.btf_records.specs.BtfType.{record_of, type_kind}
use Rattle.btf_records.specs.declared.btf_type.BtfType.{BtfType}
use Rattle.btf_table.specs.InPlace.{denied_type}
use Rattle.btf_table.specs.PassStep.{pass_on, IsRuled}
use Rattle.btf_table.specs.SoleFeature.{sole_feature, IsGranted}
use Rattle.btf_table.proofs.PassRules.{quiet_outcome, enum64_stays}
use Rattle.btf_table.proofs.sanitize.in_place.rewrite_by.Goals as goal

pub returns-in_default : goal.returns-in_default
returns-in_default c = λ one given answers id there here granted.
    let p : Pass = pass_on c.args.btf.now given answers in
    let b : BtfType = c.args.btf_type.now in
    subst (λ (changes : Bool). IsRuled p id b c.args.made.now c.args.made.now (if changes then denied_type b else b)) c.if-changes_in_place.true
    (quiet_outcome p id b c.args.made.now c.changes_in_place.result there here one there.kind_is c.in_default.not-FuncProto c.in_default.not-Enum64 (c.changes_in_place.ensures.words p (ruled_below p id) id granted) c.changes_in_place.ensures.len c.changes_in_place.ensures.fallback)

pub returns-in_default-2 : goal.returns-in_default-2
returns-in_default-2 c = λ one given answers id there here granted.
    let p : Pass = pass_on c.args.btf.now given answers in
    let b : BtfType = c.args.btf_type.now in
    subst (λ (changes : Bool). IsRuled p id b c.args.made.now c.args.made.now (if changes then denied_type b else b)) c.if-changes_in_place.false
    (quiet_outcome p id b c.args.made.now c.changes_in_place.result there here one there.kind_is c.in_default.not-FuncProto c.in_default.not-Enum64 (c.changes_in_place.ensures.words p (ruled_below p id) id granted) c.changes_in_place.ensures.len c.changes_in_place.ensures.fallback)

pub returns-in-Enum64-2 : goal.returns-in-Enum64-2
returns-in-Enum64-2 c = λ one given answers id there here granted.
    let p : Pass = pass_on c.args.btf.now given answers in
    let b : BtfType = c.args.btf_type.now in
    let kind : kind_of (record_of b).info ≡ Some kinds.Enum64 = there.kind_is ∙ ap (λ (t : BtfType). Some (type_kind t)) c.in-Enum64-2.is in
    enum64_stays p id b c.args.made.now there kind here (subst (λ (k : Option Kind). IsGranted p (sole_feature k (record_of b)) c.args.granted) kind granted ∙ c.if-not-granted.false)
