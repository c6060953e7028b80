-- A run of the comparison of types that remembers the pairs known to be compatible: the open pairs, each with the
-- position of its walk, and how the run relates to the comparison that remembers nothing. A pair that is known to be
-- compatible is called settled. A pending parameter pair is pending, and it is compared when it is settled.
use Rattle.std.proofs.Common.{◌≡◌, ◌≢◌, ℕ, zero, suc, List, [], ◌∷◌, ◌++◌, drop, refl, sym, ap, subst, ◌∙◌, inl, inr, Bool, true, Some, Result, Ok, Err, append_assoc, slice_get}
use Rattle.std.specs.Prelude.{◌⊎◌}
use Rattle.std.specs.Result.{result_ok}
use Rattle.std.proofs.Math.Seq.{drop-cons}
use Rattle.std.proofs.lemmas.List.{drop_all}
use Rattle.std.proofs.lemmas.Option.{none-some, slice_get_within, get_or_from_slice_get}
use Rattle.btf_model.specs.Refusal.{Refusal, MaximumTypeDepthReached}
use Rattle.btf_model.specs.Table.{Table}
use Rattle.btf_model.specs.Walk.{walk_limit}
use Rattle.btf_model.specs.Fields.{Pair, HaveKinds}
use Rattle.btf_model.specs.Compat.{Position, Decided, On, Pending, ResolvesPair, Finds, Plain, Walked, ComparedInOrder}
use Rattle.btf_model.specs.Run.{Frame, Ends, GoesOn, Waits, IsNext}
use Rattle.btf_model.proofs.Comparisons.{one_position, position_answer}
use Rattle.btf_model.proofs.PlainAnswers.{true_or_not, walked_answers, compared_answers}
use Rattle.btf_model.proofs.PlainSteps.{Are}

module _ (local target : Table) where
  -- ---- what is left of a walk

  -- by what is found at a position, if its first j pairs of parameters are settled
  abbrev pub RestBy : List Pair → ℕ → ℕ → Position → Result Bool Refusal → List Pair → Type 0
  RestBy above n j (Decided a) b t = Are b t a []
  RestBy above n j (On to) b t = Walked local target above n to b t
  RestBy above n j (Pending pending to) b t =
      ((first behind : List Pair) × ComparedInOrder local target above (drop j pending) (Ok true) first × Walked local target above n to b behind × (t ≡ first ++ behind)) ⊎ (ComparedInOrder local target above (drop j pending) b t × (b ≢ Ok true))

  abbrev pub Rest : List Pair → ℕ → Pair → ℕ → Result Bool Refusal → List Pair → Type 0
  Rest above zero at j b t = Are b t (Err (MaximumTypeDepthReached at.local)) []
  Rest above (suc n) at j b t = (found : Position) × Finds local target at found × RestBy above n j found b t

  walked_as : (above : List Pair) (n : ℕ) (at : Pair) (a b : Result Bool Refusal) (s t : List Pair) → Are b t a s → Walked local target above n at a s → Walked local target above n at b t
  walked_as above n at a b s t is h = subst (λ (x : Result Bool Refusal). Walked local target above n at x t) (sym is.0) (subst (λ (x : List Pair). Walked local target above n at a x) (sym is.1) h)

  walked_by_rest : (above : List Pair) (n : ℕ) (at : Pair) (found : Position) (b : Result Bool Refusal) (t : List Pair) → Finds local target at found → RestBy above n zero found b t → Walked local target above (suc n) at b t
  walked_by_rest above n at (Decided a) b t found is = walked_as above (suc n) at a b [] t is (Walked.decided above n at a found)
  walked_by_rest above n at (On to) b t found h = Walked.on above n at to b t found h
  walked_by_rest above n at (Pending pending to) b t found (inl h) = subst (λ (x : List Pair). Walked local target above (suc n) at b x) (sym h.4) (Walked.compared above n at to pending b h.0 h.1 found h.2 h.3)
  walked_by_rest above n at (Pending pending to) b t found (inr h) = Walked.not_compatible above n at to pending b t found h.0 h.1

  -- if no parameter is settled, the rest is the whole walk
  pub walked_from_rest : (above : List Pair) (n : ℕ) (at : Pair) (b : Result Bool Refusal) (t : List Pair) → Rest above n at zero b t → Walked local target above n at b t
  walked_from_rest above zero at b t is = walked_as above zero at (Err (MaximumTypeDepthReached at.local)) b [] t is (Walked.too_deep above at)
  walked_from_rest above (suc n) at b t h = walked_by_rest above n at h.0 b t h.1 h.2

  abbrev pub RestOf : List Pair → Frame → Result Bool Refusal → List Pair → Type 0
  RestOf above f b t = Rest (f.pair ∷ above) f.left f.at f.parameter b t

  abbrev pub WalkOf : List Pair → Pair → Result Bool Refusal → List Pair → Type 0
  WalkOf above p b t = Walked local target (p ∷ above) walk_limit p b t

  -- ---- one step of a walk

  left_over : (f : Frame) (n : ℕ) → f.left ≡ suc n → (above : List Pair) (b : Result Bool Refusal) (t : List Pair) → Rest (f.pair ∷ above) (suc n) f.at f.parameter b t → RestOf above f b t
  left_over f n is above b t h = subst (λ (m : ℕ). Rest (f.pair ∷ above) m f.at f.parameter b t) (sym is) h

  first_pending : (pending : List Pair) (j : ℕ) (at : Pair) → slice_get pending j ≡ Some at → at ∷ drop (suc j) pending ≡ drop j pending
  first_pending pending j at is = sym (drop-cons pending j at (slice_get_within pending j at is) ∙ ap (λ (q : Pair). q ∷ drop (suc j) pending) (get_or_from_slice_get pending j at at is))

  compares_all_from : (above pending : List Pair) (j : ℕ) (at : Pair) (b : Result Bool Refusal) (t : List Pair) → slice_get pending j ≡ Some at → ComparedInOrder local target above (at ∷ drop (suc j) pending) b t → ComparedInOrder local target above (drop j pending) b t
  compares_all_from above pending j at b t is h = subst (λ (qs : List Pair). ComparedInOrder local target above qs b t) (first_pending pending j at is) h

  -- a walk that ends does so under any open pairs
  pub ends_rest : (f : Frame) (b : Result Bool Refusal) → IsNext local target f (Ends b) → (above : List Pair) → RestOf above f b []
  ends_rest f b (inl h) above = subst (λ (m : ℕ). Rest (f.pair ∷ above) m f.at f.parameter b []) (sym h.0) (h.1, refl)
  ends_rest f b (inr h) above =
      left_over f h.0 h.1 above b []
      (elim h.2 [
        | inl found ↦ (Decided b, found, (refl, refl))
        | inr g ↦ (
          Pending g.0 g.1,
          g.3.0,
          inr (
            subst (λ (x : Result Bool Refusal). ComparedInOrder local target (f.pair ∷ above) (drop f.parameter g.0) x []) (sym g.4)
                (compares_all_from (f.pair ∷ above) g.0 f.parameter g.3.1.0 (Err g.2) [] g.3.1.1 (ComparedInOrder.unresolved (f.pair ∷ above) g.3.1.0 (drop (suc f.parameter) g.0) g.2 g.3.1.2)),
            λ is. none-some true (ap result_ok (sym g.4 ∙ is)),
          ),
        )
      ])

  pub goes_on_rest : (f g : Frame) → IsNext local target f (GoesOn g) → (above : List Pair) (b : Result Bool Refusal) (t : List Pair) → RestOf above g b t → RestOf above f b t
  goes_on_rest f g next above b t h =
      let behind : Walked local target (f.pair ∷ above) next.0 next.1 b t = walked_from_rest (f.pair ∷ above) next.0 next.1 b t (subst (λ (x : Frame). RestOf above x b t) next.3 h) in
      left_over f next.0 next.2 above b t
      (elim next.4 [
        | inl found ↦ (On next.1, found, behind)
        | inr o ↦ (Pending o.0 next.1, o.1, inl ([], t, subst (λ (qs : List Pair). ComparedInOrder local target (f.pair ∷ above) qs (Ok true) []) (sym (drop_all f.parameter o.0 o.2)) (ComparedInOrder.all (f.pair ∷ above)), behind, refl))
      ])

  pub fails_rest : (f g : Frame) (p : Pair) → IsNext local target f (Waits p g) → (above : List Pair) (b : Result Bool Refusal) (t : List Pair) → Plain local target (f.pair ∷ above) p b t → b ≢ Ok true → RestOf above f b t
  fails_rest f g p next above b t plain not_true =
      let is_pending = next.4 in
      left_over f next.0 next.3 above b t
      (Pending next.1 next.2, is_pending.0, inr (compares_all_from (f.pair ∷ above) next.1 f.parameter is_pending.1.0 b t is_pending.1.1 (ComparedInOrder.other (f.pair ∷ above) is_pending.1.0 p (drop (suc f.parameter) next.1) b t is_pending.1.2 plain not_true), not_true))

  compares_rest_by : (above pending : List Pair) (n j : ℕ) (at p to : Pair) (first : List Pair) → slice_get pending j ≡ Some at → ResolvesPair local target at (Ok p) → Plain local target above p (Ok true) first
      → (b : Result Bool Refusal) (t : List Pair) → RestBy above n (suc j) (Pending pending to) b t → RestBy above n j (Pending pending to) b (first ++ t)
  compares_rest_by above pending n j at p to first is resolved plain b t (inl h) =
      inl (
        first ++ h.0,
        h.1,
        compares_all_from above pending j at (Ok true) (first ++ h.0) is (ComparedInOrder.next above at p (drop (suc j) pending) (Ok true) first h.0 resolved plain h.2),
        h.3,
        ap (λ (x : List Pair). first ++ x) h.4 ∙ sym (append_assoc first h.0 h.1),
      )
  compares_rest_by above pending n j at p to first is resolved plain b t (inr h) = inr (compares_all_from above pending j at b (first ++ t) is (ComparedInOrder.next above at p (drop (suc j) pending) b first t resolved plain h.0), h.1)

  pub compares_rest : (f g : Frame) (p : Pair) → IsNext local target f (Waits p g) → (above : List Pair) (first : List Pair) → Plain local target (f.pair ∷ above) p (Ok true) first → (b : Result Bool Refusal) (t : List Pair) → RestOf above g b t → RestOf above f b (first ++ t)
  compares_rest f g p next above first plain b t h =
      let is_pending = next.4 in
      let here : RestOf above (record f { parameter = suc f.parameter }) b t = subst (λ (x : Frame). RestOf above x b t) next.5 h in
      let rest : Rest (f.pair ∷ above) (suc next.0) f.at (suc f.parameter) b t = subst (λ (m : ℕ). Rest (f.pair ∷ above) m f.at (suc f.parameter) b t) next.3 here in
      left_over f next.0 next.3 above b (first ++ t) (
        Pending next.1 next.2,
        is_pending.0,
        compares_rest_by (f.pair ∷ above) next.1 next.0 f.parameter is_pending.1.0 p next.2 first is_pending.1.1 is_pending.1.2 plain b t
            (subst (λ (x : Position). RestBy (f.pair ∷ above) next.0 (suc f.parameter) x b t) (one_position local target f.at rest.0 (Pending next.1 next.2) rest.1 is_pending.0) rest.2),
      )

  rest_by_answers : HaveKinds local → HaveKinds target → (above : List Pair) (n j : ℕ) (found : Position) → (b : Result Bool Refusal) × (t : List Pair) × RestBy above n j found b t
  rest_by_answers ls ts above n j (Decided a) = (a, [], (refl, refl))
  rest_by_answers ls ts above n j (On to) = walked_answers local target ls ts above n to
  rest_by_answers ls ts above n j (Pending pending to) =
      let first = compared_answers local target ls ts above (drop j pending) in
      let behind = walked_answers local target ls ts above n to in
      elim (true_or_not first.0) [
        | inl is ↦ (behind.0, first.1 ++ behind.1, inl (first.1, behind.1, subst (λ (x : Result Bool Refusal). ComparedInOrder local target above (drop j pending) x first.1) is first.2, behind.2, refl))
        | inr not_true ↦ (first.0, first.1, inr (first.2, not_true))
      ]

  rest_at_answers : HaveKinds local → HaveKinds target → (above : List Pair) (n : ℕ) (at : Pair) (j : ℕ) → (b : Result Bool Refusal) × (t : List Pair) × Rest above n at j b t
  rest_at_answers ls ts above zero at j = (Err (MaximumTypeDepthReached at.local), [], (refl, refl))
  rest_at_answers ls ts above (suc n) at j =
      let found = position_answer local target at ls ts in
      let behind = rest_by_answers ls ts above n j found.0 in
      (behind.0, behind.1, (found.0, found.1, behind.2))

  pub rest_answers : HaveKinds local → HaveKinds target → (above : List Pair) (f : Frame) → (b : Result Bool Refusal) × (t : List Pair) × RestOf above f b t
  rest_answers ls ts above f = rest_at_answers ls ts (f.pair ∷ above) f.left f.at f.parameter
