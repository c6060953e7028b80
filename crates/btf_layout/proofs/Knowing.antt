-- What is known of types, and a type that needs a type that contains itself.
use Rattle.std.proofs.Common.{◌≡◌, ◌==◌, ◌||◌, ◌⊎◌, ℕ, Bool, true, false, List, IsTrue, refl, ap, sym, subst, ◌∙◌, inl, inr, Err, Some, slice_get, length, ◌≤◌}
use Rattle.std.proofs.lemmas.Bool.{eqb-true, eq-eqb, or_left, or_right}
use Rattle.std.proofs.lemmas.Option.{slice_get_past}
use Rattle.btf_model.specs.Record.{Record, kind_of}
use Rattle.btf_model.specs.Refusal.{UnknownBtfType}
use Rattle.btf_layout_model.specs.Alignment.{Shape, SameAs, shape, shape_of, shape_in, Aligns, Needs, IsEndless}
use Rattle.btf_layout.specs.declared.progress.Outcome.{Outcome}
use Rattle.btf_layout.specs.declared.progress.Outcome.TheVariants.{Aligned, Unknown, Unexpected, Endless}
use Rattle.btf_layout.specs.declared.progress.Progress.{Progress}
use Rattle.btf_layout.specs.declared.progress.Progress.TheVariants.{New, Open, Known}
use Rattle.btf_layout.specs.Frame.{step_by_progress, MemberStepIs}
use Rattle.btf_layout.specs.Progress.{progress_in, IsOutcome, IsKnown, KnowsOutcomes}

-- ---- tests

pub or_cases : (a b : Bool) → (a || b) ≡ true → (a ≡ true) ⊎ (b ≡ true)
or_cases true b e = inl refl
or_cases false b e = inr e

-- ---- types that contain themselves

module _ (records : List Record) (id type : ℕ) (needs : Needs records id type) where
  -- a type that needs a type that contains itself is one of a larger set
  pub endless_before : IsEndless records type → IsEndless records id
  endless_before (waits, here, closed) =
      let more : ℕ → Bool = λ i. i == id || waits i in
      (more, or_left (id == id) (waits id) (same_id id), λ at is. further waits here closed at (or_cases (at == id) (waits at) is)) where
        same_id : (i : ℕ) → (i == i) ≡ true
        same_id i = eq-eqb i i refl

        further : (waits : ℕ → Bool) → IsTrue (waits type) → ((at : ℕ) → IsTrue (waits at) → (next : ℕ) × Needs records at next × IsTrue (waits next)) → (at : ℕ) → ((at == id) ≡ true) ⊎ (waits at ≡ true) → (next : ℕ) × Needs records at next × IsTrue (next == id || waits next)
        further waits here closed at (inl e) = (type, subst (λ (x : ℕ). Needs records x type) (sym (eqb-true at id e)) needs, or_right (type == id) (waits type) here)
        further waits here closed at (inr e) =
            let next = closed at e in
            (next.0, next.1, or_right (next.0 == id) (waits next.0) next.2)

-- ---- steps to another type

module _ (records : List Record) (known : List Progress) (id type : ℕ) where
  -- a type with the same alignment
  same_outcome : shape_in records id ≡ SameAs type → (o : Outcome) → IsOutcome records type o → IsOutcome records id o
  same_outcome is (Aligned n) h = Aligns.same_as id type _ is h
  same_outcome is (Unknown n) h = Aligns.same_as id type _ is h
  same_outcome is (Unexpected n) h = Aligns.same_as id type _ is h
  same_outcome is Endless h = endless_before records id type (inl is) h

  pub same_step : KnowsOutcomes records known → shape_in records id ≡ SameAs type → MemberStepIs records known id (step_by_progress type (progress_in known type))
  same_step knows is = by (progress_in known type) refl where
    by : (p : Progress) → progress_in known type ≡ p → MemberStepIs records known id (step_by_progress type p)
    by New e = (inl is, subst (λ (x : Progress). ¬ (IsKnown x)) (sym e) (λ h. h))
    by Open e = (inl is, subst (λ (x : Progress). ¬ (IsKnown x)) (sym e) (λ h. h))
    by (Known o) e = same_outcome is o (knows.outcomes type o e)

-- ---- shapes

module _ (records : List Record) (id : ℕ) where
  -- the shape of a type with this record
  pub known_shape : (r : Record) (s : Shape) → slice_get records id ≡ Some r → s ≡ shape id (kind_of r.info) r → shape_in records id ≡ s
  known_shape r s here is = ap (shape_of id) here ∙ sym is

  pub not_there : length records ≤ id → Aligns records id (Err (UnknownBtfType id))
  not_there past = Aligns.unaligned id (UnknownBtfType id) (ap (shape_of id) (slice_get_past records id past))
