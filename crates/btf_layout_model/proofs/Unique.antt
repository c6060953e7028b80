-- A type has at most one answer.
use Rattle.std.proofs.Common.{◌≡◌, ℕ, max, List, [], ◌∷◌, ◌++◌, refl, sym, ap, subst, ◌∙◌, inl, inr, Some, None, Result, Ok}
use Rattle.std.specs.Result.{result_ok}
use Rattle.std.proofs.lemmas.Option.{none-some, same_Some}
use Rattle.btf_model.specs.Record.{Record}
use Rattle.btf_model.specs.Refusal.{Refusal}
use Rattle.btf_layout_model.specs.Alignment.{AlignedMember, Fixed, SameAs, Composed, Unaligned, decided_by, composed, Aligns, InPlace}
use Rattle.btf_layout_model.proofs.Shapes.{same_head, same_tail, by}

module _ (records : List Record) where
  -- the type has no other answer than this one
  abbrev pub Unique : ℕ → Result ℕ Refusal → Type 0
  Unique id answer = (other : Result ℕ Refusal) → Aligns records id other → answer ≡ other

  -- the members are in their places, and their types have no other alignments than these
  abbrev pub UniquePlaces : List AlignedMember → ℕ → Type 0
  UniquePlaces [] largest = 1 ≡ largest
  UniquePlaces (m ∷ members) largest =
      (alignment rest : ℕ) × Unique m.type (Ok alignment) × (decided_by m (Ok alignment) ≡ None)
      × UniquePlaces members rest × (max alignment rest ≡ largest)

  aligned : ℕ → Result ℕ Refusal
  aligned n = Ok n

  same_ok : (n k : ℕ) → aligned n ≡ aligned k → n ≡ k
  unfolding aligned
  same_ok n k e = same_Some n k (ap result_ok e)

  -- a member that decides is no member that is in its place
  pub not_both : (m n : AlignedMember) (a r b : Result ℕ Refusal) → m ≡ n → a ≡ r → decided_by m a ≡ None → decided_by n r ≡ Some b → ⊥
  not_both m n a r b e f goes stops = none-some b (sym goes ∙ ap (λ (x : AlignedMember). decided_by x a) e ∙ ap (decided_by n) f ∙ stops)

  pub moved : (m n : AlignedMember) (a : Result ℕ Refusal) → m ≡ n → Aligns records n.type a → Aligns records m.type a
  moved m n a e h = subst (λ (x : AlignedMember). Aligns records x.type a) (sym e) h

  one_largest : (members : List AlignedMember) (largest other : ℕ) → UniquePlaces members largest → InPlace records members other → largest ≡ other
  unfolding aligned
  one_largest [] largest other u (InPlace.none) = sym u
  one_largest (m ∷ members) largest other u (InPlace.also _ _ a k h goes places) =
      sym u.5 ∙ ap (λ (x : ℕ). max x u.1) (same_ok u.0 a (u.2 (Ok a) h)) ∙ ap (max a) (one_largest members u.1 k u.4 places)

  -- the member that decides is in no list of members that are in their places
  none_decides : (before after members : List AlignedMember) (m : AlignedMember) (largest : ℕ) (r b : Result ℕ Refusal) → members ≡ before ++ m ∷ after → UniquePlaces members largest → Aligns records m.type r → decided_by m r ≡ Some b → ⊥
  none_decides [] after [] m largest r b e u h stops = cc
  none_decides [] after (x ∷ members) m largest r b e u h stops =
      let same = same_head x m members after e in
      not_both x m (Ok u.0) r b same (u.2 r (moved x m r same h)) u.3 stops
  none_decides (y ∷ before) after [] m largest r b e u h stops = cc
  none_decides (y ∷ before) after (x ∷ members) m largest r b e u h stops =
      none_decides before after members m u.1 r b (same_tail x y members (before ++ m ∷ after) e) u.4 h stops

  not_in_place : (before after : List AlignedMember) (m : AlignedMember) (largest : ℕ) (r b : Result ℕ Refusal) → InPlace records (before ++ m ∷ after) largest → Unique m.type r → decided_by m r ≡ Some b → ⊥
  not_in_place [] after m largest r b (InPlace.also _ _ a k h goes places) u stops = not_both m m (Ok a) r b refl (sym (u (Ok a) h)) goes stops
  not_in_place (x ∷ before) after m largest r b (InPlace.also _ _ a k h goes places) u stops = not_in_place before after m k r b places u stops

  -- the first member that decides is the same in two splits
  same_decision : (before : List AlignedMember) (after : List AlignedMember) (m : AlignedMember) (largest : ℕ) (r a : Result ℕ Refusal) (before' after' : List AlignedMember) (m' : AlignedMember) (largest' : ℕ) (r' b : Result ℕ Refusal) → before ++ m ∷ after ≡ before' ++ m' ∷ after' → UniquePlaces before largest → Unique m.type r → decided_by m r ≡ Some a → InPlace records before' largest' → Aligns records m'.type r' → decided_by m' r' ≡ Some b → a ≡ b
  same_decision [] after m largest r a before' after' m' largest' r' b e u v stops (InPlace.none) h stops' =
      let same = same_head m m' after after' e in
      same_Some a b (sym stops ∙ ap (λ (x : AlignedMember). decided_by x r) same ∙ ap (decided_by m') (v r' (moved m m' r' same h)) ∙ stops')
  same_decision [] after m largest r a before' after' m' largest' r' b e u v stops (InPlace.also x xs n k h' goes places) h stops' =
      let same = same_head m x after (xs ++ m' ∷ after') e in
      absurd (not_both x m (Ok n) r a (sym same) (sym (v (Ok n) (moved m x (Ok n) same h'))) goes stops)
  same_decision (x ∷ before) after m largest r a before' after' m' largest' r' b e u v stops (InPlace.none) h stops' =
      let same = same_head x m' (before ++ m ∷ after) after' e in
      absurd (not_both x m' (Ok u.0) r' b same (u.2 r' (moved x m' r' same h)) u.3 stops')
  same_decision (x ∷ before) after m largest r a before' after' m' largest' r' b e u v stops (InPlace.also y ys n k h' goes places) h stops' =
      same_decision before after m u.1 r a ys after' m' k r' b (same_tail x y (before ++ m ∷ after) (ys ++ m' ∷ after') e) u.4 v stops places h stops'

  mutual
    pub one : (id : ℕ) (a : Result ℕ Refusal) → Aligns records id a → Unique id a
    one id a (Aligns.unaligned _ refusal is) b h = by records id b (Unaligned refusal) is h
    one id a (Aligns.fixed _ alignment is) b h = by records id b (Fixed alignment) is h
    one id a (Aligns.same_as _ type _ is g) b h = one type a g b (by records id b (SameAs type) is h)
    one id a (Aligns.decided _ size largest before after m r _ is places g stops) b h =
        elim (by records id b (Composed size (before ++ m ∷ after)) is h) [
          | inl d ↦ same_decision before after m largest r a d.1 d.2 d.3 d.0 d.4 b d.5 (ones before largest places) (one m.type r g) stops d.6 d.7 d.8
          | inr d ↦ absurd (not_in_place before after m d.0 r a d.1 (one m.type r g) stops)
        ]
    one id a (Aligns.all _ size largest members is places) b h =
        elim (by records id b (Composed size members) is h) [
          | inl d ↦ absurd (none_decides d.1 d.2 members d.3 largest d.4 b d.5 (ones members largest places) d.7 d.8)
          | inr d ↦ ap (λ (x : ℕ). Ok (composed size x)) (one_largest members largest d.0 (ones members largest places) d.1) ∙ d.2
        ]

    pub ones : (members : List AlignedMember) (largest : ℕ) → InPlace records members largest → UniquePlaces members largest
    ones members largest (InPlace.none) = refl
    ones members largest (InPlace.also m rest a k h goes places) = (a, k, one m.type (Ok a) h, goes, ones rest k places, refl)
