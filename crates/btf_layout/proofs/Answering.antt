-- The progresses of a whole table.
use Rattle.std.proofs.Common.{◌≡◌, ◌<◌, ◌≤◌, ◌⊎◌, ℕ, zero, suc, List, length, replicate, refl, ap, sym, subst, ◌∙◌, inl, inr, Some, None, arith, slice_get, Option, Result, Ok, Err, IfSome, IfOk}
use Rattle.std.proofs.lemmas.List.{length-replicate}
use Rattle.btf_model.specs.Record.{Record}
use Rattle.btf_model.specs.Refusal.{Refusal}
use Rattle.btf_plain.specs.Error.{Meets, MeetsOrNoMemory}
use Rattle.btf_plain.specs.declared.error.BtfError.{BtfError}
use Rattle.btf_layout_model.specs.Alignment.{HasAlignment}
use Rattle.btf_layout.specs.declared.progress.Outcome.{Outcome}
use Rattle.btf_layout.specs.declared.progress.Outcome.TheVariants.{Aligned, Unknown, Unexpected, Endless}
use Rattle.btf_layout.specs.declared.progress.Progress.{Progress}
use Rattle.btf_layout.specs.declared.progress.Progress.TheVariants.{New, Open, Known}
use Rattle.btf_layout.specs.Progress.{progress_or, progress_in, IsOutcome, IsKnown, KnowsOutcomes, NoneOpen, outcome_answer, alignment_answer}
use Rattle.btf_layout.proofs.Knowing.{not_there}
use Rattle.btf_layout.proofs.Sets.{new_inside, known_same}

-- ---- results

-- what is true of the answer that a result represents is true of the result
pub represents : (result : Result ℕ BtfError) (answer : Result ℕ Refusal) (P : Result ℕ Refusal → Type 0) → Meets (λ n. n) result (λ x. x ≡ answer) → P answer → MeetsOrNoMemory (λ n. n) result P
represents (Ok n) answer P is h = subst P (sym is) h
represents (Err e) answer P is h = subst (λ (o : Option Refusal). IfSome o (λ refusal. P (Err refusal))) (sym is.1) (subst P (sym is.2) h)

-- what follows from what is true of a value
pub if_ok : {X E : Type 0} (P Q : X → Type 0) (result : Result X E) → ((x : X) → P x → Q x) → IfOk result P → IfOk result Q
if_ok P Q (Ok x) follows h = follows x h
if_ok P Q (Err e) follows h = h

-- ---- before the first type

new_or_past : (n id : ℕ) → (progress_in (replicate n New) id ≡ New) ⊎ ((n ≤ id) × (progress_in (replicate n New) id ≡ Known (Unknown id)))
new_or_past n id = elim (places n id) [ inl e ↦ inl (ap (progress_or id) e) | inr h ↦ inr (h.0, ap (progress_or id) h.1) ] where
  places : (n k : ℕ) → (slice_get (replicate n New) k ≡ Some New) ⊎ ((n ≤ k) × (slice_get (replicate n New) k ≡ None))
  places zero k = inr (omega arith, refl)
  places (suc n) zero = inl refl
  places (suc n) (suc k) = elim (places n k) [ inl e ↦ inl e | inr h ↦ inr (omega arith, h.1) ]

module _ (records : List Record) where
  pub all_new : (known : List Progress) (n : ℕ) → n ≡ length records → known ≡ replicate n New → KnowsOutcomes records known
  all_new known n count is = record {
    all = ap (λ (ps : List Progress). length ps) is ∙ length-replicate n New ∙ count;
    outcomes = λ id o e. by id o (new_or_past n id) (sym (ap (λ (ps : List Progress). progress_in ps id) is) ∙ e);
  } where
    never : (o : Outcome) → New ≡ Known o → ⊥
    never o e = cc

    by : (id : ℕ) (o : Outcome) → (progress_in (replicate n New) id ≡ New) ⊎ ((n ≤ id) × (progress_in (replicate n New) id ≡ Known (Unknown id))) → progress_in (replicate n New) id ≡ Known o → IsOutcome records id o
    by id o (inl new) e = absurd (never o (sym new ∙ e))
    by id o (inr past) e =
        subst (IsOutcome records id) (known_same records (Unknown id) o (sym past.1 ∙ e)) (not_there records id (subst (λ (k : ℕ). k ≤ id) count past.0))

  pub none_open_yet : (known : List Progress) (n : ℕ) → known ≡ replicate n New → NoneOpen known
  none_open_yet known n is id e = by (new_or_past n id) (sym (ap (λ (ps : List Progress). progress_in ps id) is) ∙ e) where
    new_open : New ≡ Open → ⊥
    new_open f = cc

    known_open : Known (Unknown id) ≡ Open → ⊥
    known_open f = cc

    by : (progress_in (replicate n New) id ≡ New) ⊎ ((n ≤ id) × (progress_in (replicate n New) id ≡ Known (Unknown id))) → progress_in (replicate n New) id ≡ Open → ⊥
    by (inl new) f = new_open (sym new ∙ f)
    by (inr past) f = known_open (sym past.1 ∙ f)

  -- ---- after the last type

  answers : (id : ℕ) (o : Outcome) → IsOutcome records id o → HasAlignment records id (outcome_answer id o)
  answers id (Aligned n) h = inl h
  answers id (Unknown n) h = inl h
  answers id (Unexpected n) h = inl h
  answers id Endless h = inr (h, refl)

  pub known_answers : (known : List Progress) → KnowsOutcomes records known → (id : ℕ) → IsKnown (progress_in known id) → HasAlignment records id (alignment_answer id (progress_in known id))
  known_answers known knows id is = by (progress_in known id) refl is where
    by : (p : Progress) → progress_in known id ≡ p → IsKnown p → HasAlignment records id (alignment_answer id p)
    by New e h = absurd h
    by Open e h = absurd h
    by (Known o) e h = answers id o (knows.outcomes id o e)

  pub answered : (known : List Progress) → KnowsOutcomes records known → NoneOpen known → ((k : ℕ) → k < length records → IsKnown (progress_in known k)) → (id : ℕ) → HasAlignment records id (alignment_answer id (progress_in known id))
  answered known knows closed done id = by (progress_in known id) refl where
    by : (p : Progress) → progress_in known id ≡ p → HasAlignment records id (alignment_answer id p)
    by New e = absurd (subst IsKnown e (done id (subst (λ (n : ℕ). id < n) knows.all (new_inside known id e))))
    by Open e = absurd (closed id e)
    by (Known o) e = answers id o (knows.outcomes id o e)
