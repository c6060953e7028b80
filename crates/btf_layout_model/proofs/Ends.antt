-- A type that has an answer by a derivation is no type that contains itself.
use Rattle.std.proofs.Common.{◌≡◌, ℕ, List, [], ◌∷◌, ◌++◌, Bool, IsTrue, sym, ap, subst, ◌∙◌, inl, inr, Some, Result, Ok}
use Rattle.btf_model.specs.Record.{Record}
use Rattle.btf_model.specs.Refusal.{Refusal}
use Rattle.btf_layout_model.specs.Alignment.{AlignedMember, Fixed, SameAs, Composed, Unaligned, decided_by, Aligns, InPlace, Needs, IsEndless, HasAlignment}
use Rattle.btf_layout_model.proofs.Shapes.{same_head, same_tail, needs_by}
use Rattle.btf_layout_model.proofs.Unique.{Unique, one, not_both, moved}

module _ (records : List Record) (waits : ℕ → Bool) (closed : (at : ℕ) → IsTrue (waits at) → (type : ℕ) × Needs records at type × IsTrue (waits type)) where
  abbrev IsDone : ℕ → Type 0
  IsDone id = IsTrue (waits id) → ⊥

  abbrev AreDone : List AlignedMember → Type 0
  AreDone [] = Unit {0}
  AreDone (m ∷ members) = IsDone m.type × AreDone members

  done_if_same : (m n : AlignedMember) (type : ℕ) → m ≡ n → n.type ≡ type → IsDone m.type → IsDone type
  done_if_same m n type e f is_done = subst IsDone (ap (λ (x : AlignedMember). x.type) e ∙ f) is_done

  -- a member among members that are all done
  among : (before after members : List AlignedMember) (m : AlignedMember) (type : ℕ) → members ≡ before ++ m ∷ after → m.type ≡ type → AreDone members → IsDone type
  among [] after [] m type e f are_done = cc
  among [] after (x ∷ members) m type e f are_done = done_if_same x m type (same_head x m members after e) f are_done.0
  among (y ∷ before) after [] m type e f are_done = cc
  among (y ∷ before) after (x ∷ members) m type e f are_done = among before after members m type (same_tail x y members (before ++ m ∷ after) e) f are_done.1

  -- a member after members that are in their places is the one that decides, or stands before it
  until : (before after : List AlignedMember) (m : AlignedMember) (before' after' : List AlignedMember) (n : AlignedMember) (largest type : ℕ) (r a : Result ℕ Refusal) → before ++ m ∷ after ≡ before' ++ n ∷ after' → AreDone before → IsDone m.type → Unique records m.type r → decided_by m r ≡ Some a → InPlace records before' largest → n.type ≡ type → IsDone type
  until [] after m before' after' n largest type r a e are_done is_done v stops (InPlace.none) f = done_if_same m n type (same_head m n after after' e) f is_done
  until [] after m before' after' n largest type r a e are_done is_done v stops (InPlace.also x xs i k h goes places) f =
      let same = same_head m x after (xs ++ n ∷ after') e in
      absurd (not_both records x m (Ok i) r a (sym same) (sym (v (Ok i) (moved records m x (Ok i) same h))) goes stops)
  until (x ∷ before) after m before' after' n largest type r a e are_done is_done v stops (InPlace.none) f =
      done_if_same x n type (same_head x n (before ++ m ∷ after) after' e) f are_done.0
  until (x ∷ before) after m before' after' n largest type r a e are_done is_done v stops (InPlace.also y ys i k h goes places) f =
      until before after m ys after' n k type r a (same_tail x y (before ++ m ∷ after) (ys ++ n ∷ after') e) are_done.1 is_done v stops places f

  mutual
    pub ends : (id : ℕ) (a : Result ℕ Refusal) → Aligns records id a → IsDone id
    ends id a (Aligns.unaligned _ refusal is) w = needs_by records id (closed id w).0 (Unaligned refusal) is (closed id w).1
    ends id a (Aligns.fixed _ n is) w = needs_by records id (closed id w).0 (Fixed n) is (closed id w).1
    ends id a (Aligns.same_as _ type _ is h) w =
        ends type a h (subst (λ (x : ℕ). IsTrue (waits x)) (sym (needs_by records id (closed id w).0 (SameAs type) is (closed id w).1)) (closed id w).2)
    ends id a (Aligns.decided _ size largest before after m r _ is places h stops) w =
        let d = needs_by records id (closed id w).0 (Composed size (before ++ m ∷ after)) is (closed id w).1 in
        until before after m d.1 d.2 d.3 d.0 (closed id w).0 r a d.4 (all_end before largest places) (ends m.type r h) (one records m.type r h) stops d.5 d.6 (closed id w).2
    ends id a (Aligns.all _ size largest members is places) w =
        let d = needs_by records id (closed id w).0 (Composed size members) is (closed id w).1 in
        among d.1 d.2 members d.3 (closed id w).0 d.4 d.6 (all_end members largest places) (closed id w).2

    all_end : (members : List AlignedMember) (largest : ℕ) → InPlace records members largest → AreDone members
    all_end members largest (InPlace.none) = tt
    all_end members largest (InPlace.also m rest a k h goes places) = (ends m.type (Ok a) h, all_end rest k places)

pub not_endless : (records : List Record) (id : ℕ) (a : Result ℕ Refusal) → Aligns records id a → IsEndless records id → ⊥
not_endless records id a h e = ends records e.0 e.2 id a h e.1

pub determined : (records : List Record) (id : ℕ) (a b : Result ℕ Refusal) → HasAlignment records id a → HasAlignment records id b → a ≡ b
determined records id a b (inl h) (inl g) = one records id a h b g
determined records id a b (inl h) (inr g) = absurd (not_endless records id a h g.0)
determined records id a b (inr h) (inl g) = absurd (not_endless records id b g h.0)
determined records id a b (inr h) (inr g) = h.1 ∙ sym g.1
