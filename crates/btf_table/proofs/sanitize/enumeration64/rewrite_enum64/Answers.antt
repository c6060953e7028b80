use Rattle.std.proofs.Common.{◌≡◌, ℕ, None, Some, Option, refl, sym, ap, subst, ◌∙◌}
use Rattle.std.specs.Result.{result_ok}
use Rattle.std.proofs.lemmas.Option.{none-some, IfSome_then}
use Rattle.btf_model.specs.Refusal.{Refusal}
use Rattle.btf_rewrite_model.specs.Pass.{Pass}
use Rattle.btf_model.proofs.Comparisons.{same_ok}
use Rattle.btf_plain.specs.Error.{MeetsOrNoMemory}
use Rattle.btf_plain.specs.declared.error.BtfError.{BtfError}
use Rattle.btf_records.specs.declared.btf_type.BtfType.{BtfType}
use Rattle.btf_records.specs.declared.btf_type.BtfType.TheVariants.{Enum64, Union}
use Rattle.btf_table.specs.PassStep.{pass_on, Rules}
use Rattle.btf_table.proofs.Checks.{checked_ok, checked_err}
use Rattle.btf_plain.proofs.Refused.{handed_on}
use Rattle.btf_table.proofs.PassRules.{HasMemberType, member_type_there, member_type_new, wants_one, enum64_as_union, enum64_fault}
use Rattle.btf_table.proofs.sanitize.enumeration64.rewrite_enum64.Goals as goal

pub returns-in_err-member_type : goal.returns-in_err-member_type
returns-in_err-member_type c = λ given answers id there here denied.
    let p : Pass = pass_on c.args.btf.now given answers in
    elim c.args.made.now.member_type as (λ (o : Option ℕ). c.args.made.now.member_type ≡ o → MeetsOrNoMemory (λ new. new) c.from_residual.result (Rules p id (Enum64 c.args.enum64.now) c.args.made.now c.member_type.new.self)) [
      | None ↦ λ none.
          handed_on (λ new. new) c.in_err-member_type.field-0.0 c.from_residual.result (Rules p id (Enum64 c.args.enum64.now) c.args.made.now c.member_type.new.self) c.from_residual.ensures.1
          (IfSome_then _ (c.in_err-member_type.ensures.answer none) (λ refusal is. enum64_fault p id (Enum64 c.args.enum64.now) c.args.made.now there there.kind_is here denied none ∙ checked_err _ _ refusal is))
      | Some k ↦ λ some. absurd (none-some k (sym (ap result_ok (sym (c.member_type.ensures.there k some).0 ∙ c.in_err-member_type.was))))
    ] refl

pub returns : goal.returns
returns c = λ given answers id there here denied.
    let p : Pass = pass_on c.args.btf.now given answers in
    let b : BtfType = Enum64 c.args.enum64.now in
    let wants = wants_one p id b there there.kind_is denied in
    let has : HasMemberType p id c.args.made.now c.member_type.new.self c.in_ok-member_type.member_type =
    elim c.args.made.now.member_type as (λ (o : Option ℕ). c.args.made.now.member_type ≡ o → HasMemberType p id c.args.made.now c.member_type.new.self c.in_ok-member_type.member_type) [
      | None ↦ λ none.
          let ok = checked_ok _ _ _ (c.in_ok-member_type.ensures.answer none) in
          member_type_new p id c.args.made.now c.member_type.new.self c.in_ok-member_type.member_type here wants none ok.0 ok.1 (c.in_ok-member_type.ensures.adds none) (c.in_ok-member_type.ensures.made none)
      | Some k ↦ λ some.
          let same : k ≡ c.in_ok-member_type.member_type = same_ok {E = BtfError} k c.in_ok-member_type.member_type (sym (c.member_type.ensures.there k some).0 ∙ c.in_ok-member_type.was) in
          subst (HasMemberType p id c.args.made.now c.member_type.new.self) same (member_type_there p id c.args.made.now c.member_type.new.self k here wants some (c.member_type.ensures.there k some).1)
    ] refl in
    let union = same_ok {E = Refusal} c.in_ok-as_union.field-0 _ c.in_ok-as_union.ensures in
    enum64_as_union p id b (Union c.in_ok-as_union.field-0) c.args.made.now c.member_type.new.self c.in_ok-member_type.member_type there there.kind_is here denied has there.tail_is
    (ap (λ u. u.words) union) (ap (λ u. u.fallback) union) c.member_type.ensures.names c.member_type.ensures.filler
