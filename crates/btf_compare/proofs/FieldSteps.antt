-- Steps of the comparison of fields.
use Rattle.std.proofs.Common.{ℕ, Bool, Result, Ok, Err, Option, Some, None, inr}
use Rattle.std.specs.Prelude.{IfSome}
use Rattle.btf_model.specs.Record.{Kind, Record}
use Rattle.btf_model.specs.Refusal.{Refusal}
use Rattle.btf_model.specs.Table.{Table}
use Rattle.btf_model.specs.Walk.{Finding, Ends, Resolves}
use Rattle.btf_model.specs.Fields.{Pair, IsAt, FieldsFound, FieldsFind}
use Rattle.btf_plain.specs.Error.{MeetsOrNoMemory, refusal_of}
use Rattle.btf_plain.specs.declared.error.BtfError.{BtfError}
use Rattle.btf_compare.specs.declared.fields.FieldStep.{FieldStep}
use Rattle.btf_compare.specs.declared.fields.FieldStep.TheVariants as steps
use Rattle.btf_compare.specs.FieldStep.{FieldStepIs}
use Rattle.btf_compare.specs.Pairs.{id_pair}

refused_weaker : (o : Option Refusal) (P Q : Refusal → Type 0) → ((f : Refusal) → P f → Q f) → IfSome o P → IfSome o Q
refused_weaker (Some f) P Q more h = more f h
refused_weaker None P Q more h = h

answers_weaker : (r : Result Bool BtfError) (P Q : Result Bool Refusal → Type 0) → ((a : Result Bool Refusal) → P a → Q a) → MeetsOrNoMemory (λ b. b) r P → MeetsOrNoMemory (λ b. b) r Q
answers_weaker (Ok b) P Q more h = more (Ok b) h
answers_weaker (Err e) P Q more h = refused_weaker (refusal_of e) (λ f. P (Err f)) (λ f. Q (Err f)) (λ f p. more (Err f) p) h

step_weaker : (step : FieldStep) (P Q : Finding Pair Bool → Type 0) → ((f : Finding Pair Bool) → P f → Q f) → FieldStepIs step P → FieldStepIs step Q
step_weaker (steps.Ends answer) P Q more h = answers_weaker answer (λ a. P (Ends a)) (λ a. Q (Ends a)) (λ a p. more (Ends a) p) h
step_weaker (steps.GoesOn l t) P Q more h = more _ h

-- what is found at two resolved ids is found at the ids
pub found_at_ends : (local target : Table) (l t id other : ℕ) (k q : Kind) (r s : Record) (step : FieldStep) → Resolves local.records l (Ok id) → IsAt local id k r → Resolves target.records t (Ok other) → IsAt target other q s
    → FieldStepIs step (FieldsFound local target id k q r s) → FieldStepIs step (FieldsFind local target (id_pair l t))
found_at_ends local target l t id other k q r s step p at-id v at-other h =
    step_weaker step (FieldsFound local target id k q r s) (FieldsFind local target (id_pair l t)) (λ f found. inr (inr (id, other, k, q, r, s, p, v, at-id, at-other, found))) h
