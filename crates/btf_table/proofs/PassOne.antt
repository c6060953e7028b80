-- What a type asks for, if it asks for at most one feature.
use Rattle.std.proofs.Common.{◌≡◌, ℕ, Bool, true, false, List, [], ◌∷◌, Option, None, Some, refl, sym, ap, subst, ◌∙◌}
use Rattle.std.specs.Prelude.{if◌then◌else◌}
use Rattle.std.proofs.lemmas.Bool.{false≢true}
use Rattle.btf_model.specs.Record as kinds
use Rattle.btf_model.specs.Record.{Kind, Record, kind_of}
use Rattle.btf_model.specs.Table.{Table}
use Rattle.btf_rewrite_model.specs.declared.feature.BtfFeature.TheVariants as features
use Rattle.btf_rewrite_model.specs.Feature.{is_signed}
use Rattle.btf_rewrite_model.specs.declared.feature.BtfFeature.{BtfFeature}
use Rattle.btf_rewrite_model.specs.declared.feature.FeatureAnswer.{FeatureAnswer}
use Rattle.btf_rewrite_model.specs.Made.{record_at}
use Rattle.btf_rewrite_model.specs.Pass.{Pass, asks, asks_by, asks_below}
use Rattle.btf_rewrite_model.specs.Passing.{AreAnswersTo}
use Rattle.btf_rewrite_model.proofs.Passing.{NextAnswers}
use Rattle.btf_records.specs.BtfType.{record_of, type_kind}
use Rattle.btf_records.specs.declared.btf_type.BtfType.TheVariants as types
use Rattle.btf_records.specs.declared.btf_type.BtfType.{BtfType}
use Rattle.btf_table.specs.Btf.{IsType}
use Rattle.btf_table.specs.PassStep.{Given, pass_on, AsksUpTo}
use Rattle.btf_table.specs.SoleFeature.{sole_feature, asks_one, IsGranted}
use Rattle.btf_table.proofs.PassAsking.{asked_none, asked_more}
use Rattle.btf_table.proofs.PassRules.{record_there, kind_there}

abbrev listed : Option BtfFeature → List BtfFeature
listed (Some f) = f ∷ []
listed None = []

sole_asks : (p : Pass) (id : ℕ) (k : Option Kind) (r : Record) → asks_one k ≡ true → asks_by p id k r ≡ listed (sole_feature k r)
sole_asks p id (Some kinds.Func) r one = absurd (false≢true one)
sole_asks p id (Some kinds.DataSec) r one = absurd (false≢true one)
sole_asks p id (Some kinds.Enum) r one =
    elim (is_signed r) as (λ (b : Bool). (if b then features.Enum64 ∷ [] else []) ≡ listed (if b then Some features.Enum64 else None)) [ true ↦ refl | false ↦ refl ]
sole_asks p id k r one = refl

module _ (t : Table) (given : Given) (id : ℕ) (b : BtfType) (old : List FeatureAnswer) (asked : AreAnswersTo (asks_below (pass_on t given old) id) old) where
  abbrev k : Option Kind
  k = kind_of (record_of b).info

  asks_are : (new : List FeatureAnswer) → IsType t id b → asks_one k ≡ true → asks (pass_on t given new) id ≡ listed (sole_feature k (record_of b))
  asks_are new there one =
      ap (λ (j : Option Kind). asks_by (pass_on t given new) id j (record_at t id)) (kind_there t id b there) ∙ ap (asks_by (pass_on t given new) id k) (record_there t id b there)
      ∙ sole_asks (pass_on t given new) id k (record_of b) one

  -- the type asks for one feature
  pub one_asked : (new : List FeatureAnswer) (f : BtfFeature) (granted : Bool) → NextAnswers old f granted new → sole_feature k (record_of b) ≡ Some f → IsType t id b → asks_one k ≡ true → AsksUpTo (pass_on t given old) id new []
  one_asked new f granted next is there one = (f ∷ [], (asked_more (pass_on t given old) id [] old new f granted (asked_none (pass_on t given old) id asked) next).0, asks_are new there one ∙ ap listed is)

  pub one_granted : (new : List FeatureAnswer) (f : BtfFeature) (granted : Bool) → NextAnswers old f granted new → sole_feature k (record_of b) ≡ Some f → IsGranted (pass_on t given new) (sole_feature k (record_of b)) granted
  one_granted new f granted next is =
      subst (λ (o : Option BtfFeature). IsGranted (pass_on t given new) o granted) (sym is) (asked_more (pass_on t given old) id [] old new f granted (asked_none (pass_on t given old) id asked) next).1

  -- the type asks for no feature
  pub none_asked : sole_feature k (record_of b) ≡ None → IsType t id b → asks_one k ≡ true → AsksUpTo (pass_on t given old) id old []
  none_asked is there one = ([], asked_none (pass_on t given old) id asked, asks_are old there one ∙ ap listed is)

pub one_type : (b : BtfType) → ((x : _) → b ≡ types.Func x → ⊥) → ((x : _) → b ≡ types.DataSec x → ⊥) → asks_one (Some (type_kind b)) ≡ true
one_type (types.Func x) no_func no_section = absurd (no_func x refl)
one_type (types.DataSec x) no_func no_section = absurd (no_section x refl)
one_type b no_func no_section = refl
