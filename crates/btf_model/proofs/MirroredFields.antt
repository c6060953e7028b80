-- The comparison of two fields with its sides exchanged.
use Rattle.std.proofs.Common.{ℕ, zero, suc, sym, ap, subst, ◌∙◌, inl, inr, Bool, Result, Ok, Err}
use Rattle.std.specs.Result.{result_ok}
use Rattle.std.proofs.lemmas.Option.{none-some}
use Rattle.btf_model.specs.Record.{Kind, Record}
use Rattle.btf_model.specs.Refusal.{Refusal}
use Rattle.btf_model.specs.Table.{Table}
use Rattle.btf_model.specs.Walk.{Finding, Ends, GoesOn, Leads}
use Rattle.btf_model.specs.Fields.{Pair, HaveKinds, BothComposite, FieldsFound, FieldsFind, Fields}
use Rattle.btf_model.specs.Laws.{exchanged}
use Rattle.btf_model.proofs.FieldWalks.{one_field, field_answers}
use Rattle.btf_model.proofs.Mirrors.{mirrored, IsFine, field_mirrored}

module _ (local target : Table) where
  back : (k q : Kind) → (BothComposite k q → ⊥) → BothComposite q k → ⊥
  back k q not_both both = not_both (both.1, both.0)

  found_mirrored : (id other : ℕ) (k q : Kind) (r s : Record) (found : Finding Pair Bool) → IsFine found → FieldsFound local target id k q r s found → FieldsFound target local other q k s r (mirrored found)
  found_mirrored id other k q r s found fine (inl p) = inl ((p.0.1, p.0.0), ap mirrored p.1)
  found_mirrored id other k q r s found fine (inr (inl p)) = inr (inl (back k q p.0, (λ e. p.1 (sym e)), ap mirrored p.2))
  found_mirrored id other k q r s found fine (inr (inr p)) =
      inr (inr (back k q p.0, sym p.1, ap mirrored p.2 ∙ sym (field_mirrored local target id other r s k q p.1 (subst (λ (x : Finding Pair Bool). IsFine x) p.2 fine))))

  find_mirrored : (at : Pair) (found : Finding Pair Bool) → IsFine found → FieldsFind local target at found → FieldsFind target local (exchanged at) (mirrored found)
  find_mirrored at found fine (inl p) = absurd (subst (λ (x : Finding Pair Bool). IsFine x) p.2 fine)
  find_mirrored at found fine (inr (inl p)) = absurd (subst (λ (x : Finding Pair Bool). IsFine x) p.4 fine)
  find_mirrored at found fine (inr (inr p)) = inr (inr (p.1, p.0, p.3, p.2, p.5, p.4, p.7, p.6, p.9, p.8, found_mirrored p.0 p.1 p.2 p.3 p.4 p.5 found fine p.10))

  leads_mirrored : (n : ℕ) (start end : Pair) → Leads (FieldsFind local target) n start end → Leads (FieldsFind target local) n (exchanged start) (exchanged end)
  leads_mirrored zero start end is = ap exchanged is
  leads_mirrored (suc n) start end p = (exchanged p.0, find_mirrored start (GoesOn p.0) tt p.1, leads_mirrored n p.0 end p.2)

  pub fields_mirrored : (id other : ℕ) (b : Bool) → Fields local id target other (Ok b) → Fields target other local id (Ok b)
  fields_mirrored id other b (inl p) = inl (p.0, exchanged p.1, p.2, leads_mirrored p.0 (record { local = id; target = other }) p.1 p.3, find_mirrored p.1 (Ends (Ok b)) tt p.4)
  fields_mirrored id other b (inr p) = absurd (none-some b (ap result_ok (sym p.2)))

module _ (local target : Table) where
  refused_by : (id other : ℕ) (refusal : Refusal) (answer : Result Bool Refusal) → Fields local id target other (Err refusal) → Fields target other local id answer → (f : Refusal) × Fields target other local id (Err f)
  refused_by id other refusal (Ok b) h g = absurd (none-some b (ap result_ok (one_field local id target other (Err refusal) (Ok b) h (fields_mirrored target local other id b g))))
  refused_by id other refusal (Err f) h g = (f, g)

  -- a refused comparison is also refused with its sides exchanged
  pub fields_refused : HaveKinds local → HaveKinds target → (id other : ℕ) (refusal : Refusal) → Fields local id target other (Err refusal) → (f : Refusal) × Fields target other local id (Err f)
  fields_refused ls ts id other refusal h = let there = field_answers target local ts ls other id in refused_by id other refusal there.0 h there.1
