-- The comparison of the types of two fields: at most one thing is found at each pair, and something is found in tables
-- whose records have kinds.
use Rattle.std.proofs.Common.{◌≡◌, ℕ, zero, suc, List, [], ◌∷◌, refl, sym, ap, subst, ◌∙◌, inl, inr, Bool, true, false, Some, Result, Ok, Err, slice_get}
use Rattle.std.specs.Prelude.{◌⊎◌}
use Rattle.std.specs.List.{AllByRecursion}
use Rattle.std.proofs.lemmas.Bool.{false≢true}
use Rattle.std.proofs.lemmas.Option.{none-some, same_Some}
use Rattle.btf_model.specs.Record.{Kind, Unknown, Record, kind_of, unknown, is_composite, compared_kind}
use Rattle.btf_model.specs.Refusal.{Refusal, MaximumTypeDepthReached}
use Rattle.btf_model.specs.Spelling.{IsWhole}
use Rattle.btf_model.specs.Table.{Table}
use Rattle.btf_model.specs.Blob.{IsValid}
use Rattle.btf_model.specs.Walk.{Finding, Ends, Resolves}
use Rattle.btf_model.specs.Fields.{Pair, IsAt, HaveKinds, BothComposite, FieldsFound, FieldsFind, Fields, field_by}
use Rattle.btf_model.proofs.Walks.{one_answer, walk_has_answer, resolving_has_answer}
use Rattle.btf_model.proofs.SameKinds.{same_kind_or_not}
use Rattle.btf_model.proofs.Comparisons.{one_id, same_ok, same_err, not_refused, one_record, one_kind, resolved_is_at}

-- ---- one thing

-- at most one thing is found at two types
found_one : (local target : Table) (id : ℕ) (k q : Kind) (r s : Record) (a b : Finding Pair Bool) → FieldsFound local target id k q r s a → FieldsFound local target id k q r s b → a ≡ b
found_one local target id k q r s a b (inl p) (inl g) = p.1 ∙ sym g.1
found_one local target id k q r s a b (inl p) (inr (inl g)) = absurd (g.0 p.0)
found_one local target id k q r s a b (inl p) (inr (inr g)) = absurd (g.0 p.0)
found_one local target id k q r s a b (inr (inl p)) (inl g) = absurd (p.0 g.0)
found_one local target id k q r s a b (inr (inl p)) (inr (inl g)) = p.2 ∙ sym g.2
found_one local target id k q r s a b (inr (inl p)) (inr (inr g)) = absurd (p.1 g.1)
found_one local target id k q r s a b (inr (inr p)) (inl g) = absurd (p.0 g.0)
found_one local target id k q r s a b (inr (inr p)) (inr (inl g)) = absurd (g.1 p.1)
found_one local target id k q r s a b (inr (inr p)) (inr (inr g)) = p.2 ∙ sym g.2

-- what is found depends on nothing but the id, the kinds and the records
found_of_same : (local target : Table) (id other : ℕ) (k l q m : Kind) (r t s u : Record) (a : Finding Pair Bool) → id ≡ other → k ≡ l → q ≡ m → r ≡ t → s ≡ u → FieldsFound local target other l m t u a → FieldsFound local target id k q r s a
found_of_same local target id other k l q m r t s u a ids ks qs rs ss h =
    subst (λ (x : ℕ). FieldsFound local target x k q r s a) (sym ids)
    (subst (λ (x : Kind). FieldsFound local target other x q r s a) (sym ks)
    (subst (λ (x : Kind). FieldsFound local target other l x r s a) (sym qs)
    (subst (λ (x : Record). FieldsFound local target other l m x s a) (sym rs)
    (subst (λ (x : Record). FieldsFound local target other l m t x a) (sym ss) h))))

one_found : (local target : Table) (at : Pair) (a b : Finding Pair Bool) → FieldsFind local target at a → FieldsFind local target at b → a ≡ b
one_found local target at a b (inl p) (inl g) = p.2 ∙ ap (λ (x : Refusal). Ends (Err x)) (same_err p.0 g.0 (one_id local.records at.local (Err p.0) (Err g.0) p.1 g.1)) ∙ sym g.2
one_found local target at a b (inl p) (inr (inl g)) = absurd (not_refused local.records at.local g.0 p.0 g.2 p.1)
one_found local target at a b (inl p) (inr (inr g)) = absurd (not_refused local.records at.local g.0 p.0 g.6 p.1)
one_found local target at a b (inr (inl p)) (inl g) = absurd (not_refused local.records at.local p.0 g.0 p.2 g.1)
one_found local target at a b (inr (inl p)) (inr (inl g)) = p.4 ∙ ap (λ (x : Refusal). Ends (Err x)) (same_err p.1 g.1 (one_id target.records at.target (Err p.1) (Err g.1) p.3 g.3)) ∙ sym g.4
one_found local target at a b (inr (inl p)) (inr (inr g)) = absurd (not_refused target.records at.target g.1 p.1 g.7 p.3)
one_found local target at a b (inr (inr p)) (inl g) = absurd (not_refused local.records at.local p.0 g.0 p.6 g.1)
one_found local target at a b (inr (inr p)) (inr (inl g)) = absurd (not_refused target.records at.target p.1 g.1 p.7 g.3)
one_found local target at a b (inr (inr p)) (inr (inr g)) =
    let ids : p.0 ≡ g.0 = same_ok p.0 g.0 (one_id local.records at.local (Ok p.0) (Ok g.0) p.6 g.6) in
    let others : p.1 ≡ g.1 = same_ok p.1 g.1 (one_id target.records at.target (Ok p.1) (Ok g.1) p.7 g.7) in
    let here : IsAt local p.0 g.2 g.4 = subst (λ (x : ℕ). IsAt local x g.2 g.4) (sym ids) g.8 in
    let there : IsAt target p.1 g.3 g.5 = subst (λ (x : ℕ). IsAt target x g.3 g.5) (sym others) g.9 in
    found_one local target p.0 p.2 p.3 p.4 p.5 a b p.10
    (found_of_same local target p.0 g.0 p.2 g.2 p.3 g.3 p.4 g.4 p.5 g.5 b ids (one_kind local p.0 p.2 g.2 p.4 g.4 p.8 here) (one_kind target p.1 p.3 g.3 p.5 g.5 p.9 there)
    (one_record local p.0 p.2 g.2 p.4 g.4 p.8 here) (one_record target p.1 p.3 g.3 p.5 g.5 p.9 there) g.10)

-- a comparison of fields has one answer
pub one_field : (local : Table) (id : ℕ) (target : Table) (other : ℕ) (a b : Result Bool Refusal) → Fields local id target other a → Fields local id target other b → a ≡ b
one_field local id target other a b p q = one_answer (FieldsFind local target) (one_found local target) (record { local = id; target = other }) (λ at. MaximumTypeDepthReached at.local) a b p q

-- ---- something

composite_or_not : (k q : Kind) (b c : Bool) → is_composite k ≡ b → is_composite q ≡ c → BothComposite k q ⊎ (BothComposite k q → ⊥)
composite_or_not k q false c here there = inr (λ h. false≢true (sym here ∙ h.0))
composite_or_not k q true false here there = inr (λ h. false≢true (sym there ∙ h.1))
composite_or_not k q true true here there = inl (here, there)

something_found : (local target : Table) (id : ℕ) (k q : Kind) (r s : Record) → (found : Finding Pair Bool) × FieldsFound local target id k q r s found
something_found local target id k q r s =
    elim (composite_or_not k q (is_composite k) (is_composite q) refl refl) [
      | inl both ↦ (Ends (Ok true), inl (both, refl))
      | inr not_both ↦ elim (same_kind_or_not (compared_kind k) (compared_kind q)) [
        | inl same ↦ (field_by local target id k q r s, inr (inr (not_both, same, refl)))
        | inr differ ↦ (Ends (Ok false), inr (inl (not_both, differ, refl)))
      ]
    ]

place_of : (local target : Table) (at : Pair) (a b : Result ℕ Refusal) → HaveKinds local → HaveKinds target → Resolves local.records at.local a → Resolves target.records at.target b → (found : Finding Pair Bool) × FieldsFind local target at found
place_of local target at (Err refusal) b ls ts p q = (Ends (Err refusal), inl (refusal, p, refl))
place_of local target at (Ok id) (Err refusal) ls ts p q = (Ends (Err refusal), inr (inl (id, refusal, p, q, refl)))
place_of local target at (Ok id) (Ok other) ls ts p q =
    let here = resolved_is_at local at.local id ls p in
    let there = resolved_is_at target at.target other ts q in
    let found = something_found local target id here.0 there.0 here.1 there.1 in
    (found.0, inr (inr (id, other, here.0, there.0, here.1, there.1, p, q, here.2, there.2, found.1)))

-- a comparison of fields has an answer
pub field_answers : (local target : Table) → HaveKinds local → HaveKinds target → (id other : ℕ) → (answer : Result Bool Refusal) × Fields local id target other answer
field_answers local target ls ts id other =
    walk_has_answer (FieldsFind local target)
    (λ at. let here = resolving_has_answer local.records at.local in let there = resolving_has_answer target.records at.target in place_of local target at here.0 there.0 ls ts here.1 there.1)
    (record { local = id; target = other }) (λ at. MaximumTypeDepthReached at.local)

-- ---- tables that can be written

whole_has_kind : (rs : List Record) (id : ℕ) (r : Record) → AllByRecursion IsWhole rs → slice_get rs id ≡ Some r → (k : Kind) × (kind_of r.info ≡ Some k)
whole_has_kind [] id r h is = absurd (none-some r is)
whole_has_kind (x ∷ rs) zero r h is = let here = same_Some x r is in (h.0.0, ap (λ (y : Record). kind_of y.info) (sym here) ∙ h.0.1.kind)
whole_has_kind (x ∷ rs) (suc id) r h is = whole_has_kind rs id r h.1 is

-- their records have kinds
pub valid_has_kinds : (t : Table) → IsValid t → HaveKinds t
valid_has_kinds t valid id r is = unknown_or_whole valid.records.0 id r valid.records.2 (ap (λ (rs : List Record). slice_get rs id) (sym valid.records.1) ∙ is)
  where
    unknown_or_whole : (rs : List Record) (id : ℕ) (r : Record) → AllByRecursion IsWhole rs → slice_get (unknown ∷ rs) id ≡ Some r → (k : Kind) × (kind_of r.info ≡ Some k)
    unknown_or_whole rs zero r h is = (Unknown, ap (λ (y : Record). kind_of y.info) (sym (same_Some unknown r is)))
    unknown_or_whole rs (suc id) r h is = whole_has_kind rs id r h is
