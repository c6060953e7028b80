-- Walks of a table as functions.
use Rattle.std.proofs.Common.{◌≡◌, ℕ, zero, suc, ◌<◌, List, Some, None, Result, refl, sym, ap, ◌∙◌, arith, inl, inr}
use Rattle.std.specs.Prelude.{slice_get}
use Rattle.btf_model.specs.Record.{Record}
use Rattle.btf_model.specs.Refusal.{Refusal}
use Rattle.btf_model.specs.Walk.{Finding, Ends, Leads, By, walk_limit, unmodified_in, Resolves}
use Rattle.btf_relocate_model.specs.Types.{walk, walk_on, walked_id}

pub walk_suc : {P A : Type 0} (find : P → Finding P A) (n : ℕ) (place : P) → walk find (suc n) place ≡ walk_on (walk find n) (find place)
unfolding walk
walk_suc find n place = refl

pub walk_zero : {P A : Type 0} (find : P → Finding P A) (place : P) → walk find zero place ≡ None
unfolding walk
walk_zero find place = refl

-- a walk that leads to its end
walked : {P A : Type 0} (find : P → Finding P A) (m n : ℕ) (start end : P) (answer : Result A Refusal) → Leads (By find) m start end → find end ≡ Ends answer → m < n → walk find n start ≡ Some answer
walked find m zero start end answer leads ends lt = absurd (omega (arith, lt))
walked {P = P} find zero (suc n) start end answer leads ends lt =
    walk_suc find n start ∙ ap (λ (f : Finding P _). walk_on (walk find n) f) (ap find leads ∙ ends)
walked {P = P} find (suc m) (suc n) start end answer leads ends lt =
    walk_suc find n start ∙ ap (λ (f : Finding P _). walk_on (walk find n) f) leads.1 ∙ walked find m n leads.0 end answer leads.2 ends (omega (arith, lt))

-- a walk that does not end
unended : {P A : Type 0} (find : P → Finding P A) (n : ℕ) (start end : P) → Leads (By find) n start end → walk find n start ≡ None
unended find zero start end leads = walk_zero find start
unended {P = P} find (suc n) start end leads =
    walk_suc find n start ∙ ap (λ (f : Finding P _). walk_on (walk find n) f) leads.1 ∙ unended find n leads.0 end leads.2

-- what an id resolves to, by the relation and by the function
pub resolved_is : (records : List Record) (id : ℕ) (answer : Result ℕ Refusal) → Resolves records id answer
    → walked_id id (walk (λ at. unmodified_in at (slice_get records at)) walk_limit id) ≡ walked_id id (Some answer)
resolved_is records id answer (inl p) =
    ap (walked_id id) (walked (λ at. unmodified_in at (slice_get records at)) p.0 walk_limit id p.1 answer p.3 p.4 p.2)
resolved_is records id answer (inr p) =
    ap (walked_id id) (unended (λ at. unmodified_in at (slice_get records at)) walk_limit id p.0 p.1) ∙ ap (λ (a : Result ℕ Refusal). walked_id id (Some a)) (sym p.2)
