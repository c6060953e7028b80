-- What a type becomes, by the outcome of its rule.
use Rattle.std.proofs.Common.{◌≡◌, Option, None, Some, Result, Ok, Err, refl, sym, ap, ◌∙◌}
use Rattle.std.specs.Option.{unwrap_or}
use Rattle.std.specs.Result.{result_map_both}
use Rattle.btf_model.specs.Record.{kind_of}
use Rattle.btf_model.specs.Refusal.{Refusal}
use Rattle.btf_plain.specs.Error.{MeetsOrNoMemory}
use Rattle.btf_plain.specs.declared.error.BtfError.{BtfError}
use Rattle.btf_records.specs.BtfType.{record_of, fallback_of, type_kind}
use Rattle.btf_records.specs.declared.btf_type.BtfType.TheVariants as types
use Rattle.btf_records.specs.declared.btf_type.BtfType.{BtfType}
use Rattle.btf_table.specs.InPlace.{denied, denied_by, denied_type}
use Rattle.btf_table.specs.PassStep.{rule_outcome, made_of, placed_of}
use Rattle.btf_table.specs.declared.sanitize.outcome.Outcome.{Outcome}
use Rattle.btf_table.specs.declared.sanitize.outcome.Outcome.TheVariants.{Same, Denied, Other}

-- what holds for a rule that replaces a type holds for its outcome
pub placed_meets : (b : BtfType) (made : Result (Option BtfType) BtfError) (P : Result BtfType Refusal → Type 0) → MeetsOrNoMemory (λ new. unwrap_or new b) made P → MeetsOrNoMemory (λ o. made_of o b) (result_map_both rule_outcome (λ e. e) made) P
placed_meets b (Ok (Some new)) P meets = meets
placed_meets b (Ok None) P meets = meets
placed_meets b (Err e) P meets = meets

denied_kind : (b : BtfType) → record_of (denied_type b) ≡ denied_by (Some (type_kind b)) (record_of b)
denied_kind (types.Ptr r) = refl
denied_kind b = refl

-- the record of a denied type, if its info has its kind
pub denied_record : (b : BtfType) → kind_of (record_of b).info ≡ Some (type_kind b) → record_of (denied_type b) ≡ denied (record_of b)
denied_record b kind = denied_kind b ∙ ap (λ k. denied_by k (record_of b)) (sym kind)

-- its fallback does not change
denied_fallback : (b : BtfType) → fallback_of (denied_type b) ≡ fallback_of b
denied_fallback (types.Union r) = refl
denied_fallback b = refl

pub placed_fallback : (o : Outcome) (b : BtfType) → fallback_of (placed_of o b) ≡ fallback_of (made_of o b)
placed_fallback Same b = refl
placed_fallback Denied b = sym (denied_fallback b)
placed_fallback (Other new) b = refl
