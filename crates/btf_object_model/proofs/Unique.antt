-- A table is finalized in one way.
use Rattle.std.specs.Prelude.{slice_index_or}
use Rattle.std.proofs.Common.{◌≡◌, ℕ, zero, suc, ◌+◌, ◌<◌, Bool, true, false, ◌&&◌, not, List, [], ◌∷◌, length, filter, Option, Some, refl, sym, ap, subst, ◌∙◌, arith, inl, inr}
use Rattle.std.specs.Cmp.{IsStrictWeakOrder}
use Rattle.std.specs.List.Sorted.{ties, IsSortedBy, IsStableBy}
use Rattle.std.proofs.lemmas.Bool.{cond-true, cond-false, cases_Bool, false≢true}
use Rattle.std.proofs.lemmas.Cmp.{nat_cmp_total}
use Rattle.std.proofs.lemmas.List.{ext_get_or}
use Rattle.std.proofs.lemmas.List.MinMax.{ranks_by}
use Rattle.std.proofs.lemmas.Option.{unwrap_or-slice_get}
use Rattle.btf_model.specs.Record as kinds
use Rattle.btf_model.specs.Record.{Kind, Record, unknown, vlen}
use Rattle.btf_model.specs.Table.{Table}
use Rattle.btf_rewrite_model.specs.Made.{Entry, record_at, kind_at, made_data_sec}
use Rattle.btf_rewrite_model.specs.Pass.{Layout}
use Rattle.btf_object_model.specs.Finalized.{AreInOrder, completed_size, final_entries, IsFinal, IsFinalized}

suc_first : (k : ℕ) → suc k + 1 ≡ suc (k + 1)
suc_first k = omega arith

one_is : zero + 1 ≡ suc zero
one_is = omega arith

-- ---- one order

module _ {X : Type 0} (lt : X → X → Bool) (order : IsStrictWeakOrder lt) where
  abbrev ties_with : X → X → Bool
  ties_with = ties lt

  ties-from : (x y : X) → lt x y ≡ false → lt y x ≡ false → ties_with x y ≡ true
  ties-from x y low high = ap (λ (b : Bool). not b && not (lt y x)) low ∙ ap not high

  not_below-self : (x : X) → lt x x ≡ false
  not_below-self x = elim (cases_Bool (lt x x)) [ inl is ↦ order.one_way x x is | inr is ↦ is ]

  ties-self : (x : X) → ties_with x x ≡ true
  ties-self x = ties-from x x (not_below-self x) (not_below-self x)

  -- one that ties with another one is not below it
  ties-not_below : (x y : X) → ties_with x y ≡ true → lt x y ≡ false
  ties-not_below x y is = elim (cases_Bool (lt x y)) [
    | inl below ↦ absurd (false≢true (sym (ap (λ (b : Bool). not b && not (lt y x)) below) ∙ is))
    | inr above ↦ above
  ]

  kept : (p : X → Bool) (y : X) (ys : List X) → p y ≡ true → filter p (y ∷ ys) ≡ y ∷ filter p ys
  kept p y ys h = cond-true _ _ _ h

  dropped : (p : X → Bool) (y : X) (ys : List X) → p y ≡ false → filter p (y ∷ ys) ≡ filter p ys
  dropped p y ys h = cond-false _ _ _ h

  -- none is below x
  abbrev AreAtLeast : X → List X → Type 0
  AreAtLeast x [] = Unit {0}
  AreAtLeast x (y ∷ ys) = (lt y x ≡ false) × AreAtLeast x ys

  -- none is below an earlier one
  abbrev Rises : List X → Type 0
  Rises [] = Unit {0}
  Rises (y ∷ ys) = AreAtLeast y ys × Rises ys

  further : (x y : X) (ys : List X) → lt y x ≡ false → AreAtLeast y ys → AreAtLeast x ys
  further x y [] low h = tt
  further x y (z ∷ zs) low h = (order.chain z y x h.0 low, further x y zs low h.1)

  rises : (xs : List X) → IsSortedBy lt xs → Rises xs
  rises [] h = tt
  rises (x ∷ []) h = (tt, tt)
  rises (x ∷ y ∷ ys) h =
      let rest : Rises (y ∷ ys) = rises (y ∷ ys)
      (λ k d low high. subst (λ (n : ℕ). lt (slice_index_or (x ∷ y ∷ ys) n d) (slice_index_or (y ∷ ys) k d) ≡ false) (suc_first k) (h (suc k) d (omega arith) (omega (arith, high)))) in
      let next : lt y x ≡ false = subst (λ (n : ℕ). lt (slice_index_or (x ∷ y ∷ ys) n x) x ≡ false) one_is (h zero x (omega arith) (omega arith)) in
      ((next, further x y ys next rest.0), rest)

  -- one that ties with an element of a list is not below what the list is not below
  not_below : (x e : X) (xs : List X) → AreAtLeast x xs → (z : X) (zs : List X) → filter (ties_with e) xs ≡ z ∷ zs → lt e x ≡ false
  not_below x e [] low z zs some = cc
  not_below x e (y ∷ ys) low z zs some =
      elim (cases_Bool (ties_with e y)) [
        | inl with ↦ order.chain e y x (ties-not_below e y with) low.0
        | inr without ↦ not_below x e ys low.1 z zs (sym (dropped (ties_with e) y ys without) ∙ some)
      ]

  -- rising lists whose tied elements are the same, in the same order, are equal
  one_order : (xs ys : List X) → Rises xs → Rises ys → ((x : X) → filter (ties_with x) xs ≡ filter (ties_with x) ys) → xs ≡ ys
  one_order [] [] up up' same = refl
  one_order [] (y ∷ ys) up up' same = let some : [] ≡ y ∷ filter (ties_with y) ys = same y ∙ kept (ties_with y) y ys (ties-self y) in cc
  one_order (x ∷ xs) [] up up' same = let some : x ∷ filter (ties_with x) xs ≡ [] = sym (kept (ties_with x) x xs (ties-self x)) ∙ same x in cc
  one_order (x ∷ xs) (y ∷ ys) up up' same =
      let low : lt y x ≡ false = not_below x y (x ∷ xs) (not_below-self x, up.0) y (filter (ties_with y) ys) (same y ∙ kept (ties_with y) y ys (ties-self y)) in
      let high : lt x y ≡ false = not_below y x (y ∷ ys) (not_below-self y, up'.0) x (filter (ties_with x) xs) (sym (same x) ∙ kept (ties_with x) x xs (ties-self x)) in
      let heads : x ∷ filter (ties_with x) xs ≡ y ∷ filter (ties_with x) ys = sym (kept (ties_with x) x xs (ties-self x)) ∙ same x ∙ kept (ties_with x) y ys (ties-from x y high low) in
      let head : x ≡ y = cc in
      let rest : (z : X) → filter (ties_with z) xs ≡ filter (ties_with z) ys =
      λ z. elim (cases_Bool (ties_with z x)) [
        | inl with ↦
            let with_y : ties_with z y ≡ true = ap (ties_with z) (sym head) ∙ with in
            let both : x ∷ filter (ties_with z) xs ≡ y ∷ filter (ties_with z) ys = sym (kept (ties_with z) x xs with) ∙ same z ∙ kept (ties_with z) y ys with_y in
            cc
        | inr without ↦
            let without_y : ties_with z y ≡ false = ap (ties_with z) (sym head) ∙ without in
            sym (dropped (ties_with z) x xs without) ∙ same z ∙ dropped (ties_with z) y ys without_y
      ] in
      let tail : xs ≡ ys = one_order xs ys up.1 up'.1 rest in
      λ i. head i ∷ tail i

  -- a list is sorted in one way
  pub one_sorted : (es xs ys : List X) → IsSortedBy lt xs → IsSortedBy lt ys → IsStableBy lt es xs → IsStableBy lt es ys → xs ≡ ys
  one_sorted es xs ys up up' stable stable' = one_order xs ys (rises xs up) (rises ys up') (λ x. stable x ∙ sym (stable' x))

-- ---- a finalized table

same_order : (es xs ys : List Entry) → AreInOrder es xs → AreInOrder es ys → xs ≡ ys
same_order es xs ys a b = one_sorted _ (ranks_by nat_cmp_total (λ (e : Entry). e.offset)) es xs ys a.rising b.rising a.stable b.stable

same_final : (layout : Layout) (t : Table) (k : Option Kind) (r new other : Record) → IsFinal layout t k r new → IsFinal layout t k r other → new ≡ other
same_final layout t k r new other a b =
    elim k as (λ (k : Option Kind). IsFinal layout t k r new → IsFinal layout t k r other → new ≡ other) [
      | Some kinds.DataSec ↦ λ a b. a.2 ∙ ap (made_data_sec r.name (completed_size layout t r) (vlen r.info)) (same_order (final_entries layout t r) a.0 b.0 a.1 b.1) ∙ sym b.2
      | _ ↦ λ a b. a ∙ sym b
    ] a b

pub one_finalized : (layout : Layout) (old new other : Table) → IsFinalized layout old new → IsFinalized layout old other → new ≡ other
one_finalized layout old new other a b =
    let records : new.records ≡ other.records =
    ext_get_or unknown new.records other.records (a.count ∙ sym b.count)
    (λ k lt.
    let within : k < length old.records = omega (arith, lt, a.count) in
    sym (unwrap_or-slice_get new.records k unknown) ∙ same_final layout old (kind_at old k) (record_at old k) (record_at new k) (record_at other k) (a.each k within) (b.each k within) ∙ unwrap_or-slice_get other.records k unknown) in
    a.others ∙ ap (λ (rs : List Record). record old { records = rs }) records ∙ sym b.others
