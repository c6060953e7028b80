-- A type and its members.
use Rattle.std.proofs.Common.{◌≡◌, ◌+◌, ◌<◌, ◌≤◌, ℕ, zero, suc, max, Bool, true, false, List, [], ◌∷◌, ◌++◌, length, take, drop, refl, ap, sym, subst, ◌∙◌, inr, Some, None, Result, Ok, Err, arith, get_or, slice_get, if◌then◌else◌}
use Rattle.std.specs.Prelude.{map}
use Rattle.std.specs.Option.{option_map}
use Rattle.std.proofs.lemmas.Option.{none-some, same_Some, slice_get-map, slice_get_read, slice_get_past}
use Rattle.btf_model.specs.Record.{Record}
use Rattle.btf_model.specs.Refusal.{Refusal}
use Rattle.btf_plain.specs.declared.items.BtfMember.{BtfMember}
use Rattle.btf_layout_model.specs.Alignment as model
use Rattle.btf_layout_model.specs.Alignment.{AlignedMember, Composed, shape_in, is_in_place, decided_by, composed, Aligns, InPlace, Needs}
use Rattle.btf_layout_model.specs.Alignment.Aligns.{decided, all}
use Rattle.btf_layout_model.specs.Alignment.InPlace.{none, also}
use Rattle.btf_layout_model.proofs.Small.{small_places}
use Rattle.btf_layout.specs.declared.frame.Frame.{Frame}
use Rattle.btf_layout.specs.declared.frame.Step.{Step}
use Rattle.btf_layout.specs.declared.progress.Outcome.TheVariants.{Aligned, Unknown, Unexpected, Endless}
use Rattle.btf_layout.specs.declared.progress.Progress.{Progress}
use Rattle.btf_layout.specs.declared.progress.Progress.TheVariants.{New, Open, Known}
use Rattle.btf_layout.specs.declared.shape.Composite.{Composite}
use Rattle.btf_layout.specs.Frame.{IsMemberFrame, MemberStepIs, alignment_by}
use Rattle.btf_layout.specs.Progress.{progress_in, IsKnown, KnowsOutcomes}
use Rattle.btf_layout.specs.Shape.{layout_member, composite_view}
use Rattle.btf_layout.proofs.Knowing.{endless_before}

members_or : model.Shape → List AlignedMember → List AlignedMember
members_or (Composed size ms) d = ms
members_or s d = d

same_composed : (ms ns : List AlignedMember) (size other : ℕ) → Composed size ms ≡ Composed other ns → ms ≡ ns
unfolding members_or
same_composed ms ns size other e = ap (λ (s : model.Shape). members_or s []) e

-- ---- lists

split_at : (ms : List AlignedMember) (k : ℕ) (m : AlignedMember) → slice_get ms k ≡ Some m → ms ≡ take k ms ++ m ∷ drop (suc k) ms
split_at [] k m e = absurd (none-some m e)
split_at (x ∷ ms) zero m e = ap (λ (y : AlignedMember). y ∷ ms) (same_Some x m e)
split_at (x ∷ ms) (suc k) m e = ap (λ (rest : List AlignedMember). x ∷ rest) (split_at ms k m e)

take_more : (ms : List AlignedMember) (k : ℕ) (m : AlignedMember) → slice_get ms k ≡ Some m → take (suc k) ms ≡ take k ms ++ m ∷ []
take_more [] k m e = absurd (none-some m e)
take_more (x ∷ ms) zero m e = ap (λ (y : AlignedMember). y ∷ []) (same_Some x m e)
take_more (x ∷ ms) (suc k) m e = ap (λ (rest : List AlignedMember). x ∷ rest) (take_more ms k m e)

within : (ms : List AlignedMember) (k : ℕ) (m : AlignedMember) → slice_get ms k ≡ Some m → k + 1 ≤ length ms
within [] k m e = absurd (none-some m e)
within (x ∷ ms) zero m e = omega arith
within (x ∷ ms) (suc k) m e = let h = within ms k m e in omega arith

take_whole : (ms : List AlignedMember) (k : ℕ) → slice_get ms k ≡ None → take k ms ≡ ms
take_whole [] zero e = refl
take_whole [] (suc k) e = refl
take_whole (x ∷ ms) zero e = absurd (none-some x (sym e))
take_whole (x ∷ ms) (suc k) e = ap (λ (rest : List AlignedMember). x ∷ rest) (take_whole ms k e)

module _ (records : List Record) where
  -- one more member in its place
  one_more : (ms : List AlignedMember) (largest : ℕ) (m : AlignedMember) (n : ℕ) → InPlace records ms largest → Aligns records m.type (Ok n) → decided_by m (Ok n) ≡ None → InPlace records (ms ++ m ∷ []) (max largest n)
  one_more ms largest m n (InPlace.none) h goes = subst (InPlace records (m ∷ [])) (omega arith) (InPlace.also m [] n 1 h goes InPlace.none)
  one_more ms largest m n (InPlace.also x rest a k g stays places) h goes =
      subst (InPlace records (x ∷ rest ++ m ∷ [])) (omega arith) (InPlace.also x (rest ++ m ∷ []) a (max k n) g stays (one_more rest k m n places h goes))

  -- ---- at a member

  -- the frame of a type is at this member
  pub record At (f : Frame) (id : ℕ) (c : Composite) (m : BtfMember) : Type 0 where
    pub same : f.id ≡ id
    pub shape : shape_in records f.id ≡ composite_view c
    pub frame : IsMemberFrame records f
    pub within : f.member < length c.members.now
    pub here : m ≡ get_or c.members.now f.member m

  abbrev members : Composite → List AlignedMember
  members c = map (layout_member c.info) c.members.now

  module _ (f : Frame) (id : ℕ) (c : Composite) (m : BtfMember) (at : At f id c m) where
    found : slice_get (members c) f.member ≡ Some (layout_member c.info m)
    found = slice_get-map (layout_member c.info) c.members.now f.member ∙ ap (option_map (layout_member c.info)) (slice_get_read c.members.now (length c.members.now) f.member m refl at.within at.here)

    shape_split : shape_in records id ≡ Composed c.size (take f.member (members c) ++ layout_member c.info m ∷ drop (suc f.member) (members c))
    shape_split = ap (shape_in records) (sym at.same) ∙ at.shape ∙ ap (Composed c.size) (split_at (members c) f.member (layout_member c.info m) found)

    places : InPlace records (take f.member (members c)) f.largest
    places = (at.frame c.size (members c) at.shape).1

    pub needs : Needs records id m.btf_type
    needs = inr (c.size, f.largest, take f.member (members c), drop (suc f.member) (members c), layout_member c.info m, shape_split, places, refl)

    decides : (r a : Result ℕ Refusal) → Aligns records m.btf_type r → decided_by (layout_member c.info m) r ≡ Some a → Aligns records id a
    decides r a h stops = Aligns.decided id c.size f.largest (take f.member (members c)) (drop (suc f.member) (members c)) (layout_member c.info m) r a shape_split places h stops

    -- what the alignment of the member's type says, or the step to this type
    abbrev Says : List Progress → Result ℕ Step → Type 0
    Says known (Ok n) = Aligns records m.btf_type (Ok n)
    Says known (Err s) = MemberStepIs records known id s

    said : (known : List Progress) → KnowsOutcomes records known → Says known (alignment_by m.btf_type (progress_in known m.btf_type))
    said known knows = by (progress_in known m.btf_type) refl where
      by : (p : Progress) → progress_in known m.btf_type ≡ p → Says known (alignment_by m.btf_type p)
      by New e = (needs, subst (λ (x : Progress). ¬ (IsKnown x)) (sym e) (λ h. h))
      by Open e = (needs, subst (λ (x : Progress). ¬ (IsKnown x)) (sym e) (λ h. h))
      by (Known (Aligned n)) e = knows.outcomes m.btf_type (Aligned n) e
      by (Known (Unknown n)) e = decides _ _ (knows.outcomes m.btf_type (Unknown n) e) refl
      by (Known (Unexpected n)) e = decides _ _ (knows.outcomes m.btf_type (Unexpected n) e) refl
      by (Known Endless) e = endless_before records id m.btf_type needs (knows.outcomes m.btf_type Endless e)

    pub member_step : (known : List Progress) → KnowsOutcomes records known → (s : Step) → Err s ≡ alignment_by m.btf_type (progress_in known m.btf_type) → MemberStepIs records known id s
    member_step known knows s is = subst (Says known) (sym is) (said known knows)

    pub member_aligned : (known : List Progress) → KnowsOutcomes records known → (n : ℕ) → Ok n ≡ alignment_by m.btf_type (progress_in known m.btf_type) → Aligns records m.btf_type (Ok n)
    member_aligned known knows n is = subst (Says known) (sym is) (said known knows)

    by_place : (n : ℕ) (b : Bool) → is_in_place (layout_member c.info m) n ≡ b → decided_by (layout_member c.info m) (Ok n) ≡ (if b then None else Some (Ok 1))
    by_place n b e = ap (λ (x : Bool). if x then None else Some (Ok 1)) e

    pub packed : (n : ℕ) → Aligns records m.btf_type (Ok n) → is_in_place (layout_member c.info m) n ≡ false → Aligns records id (Ok 1)
    packed n h out = decides (Ok n) (Ok 1) h (by_place n false out)

    -- the frame after the member
    pub next_frame : (n : ℕ) → Aligns records m.btf_type (Ok n) → is_in_place (layout_member c.info m) n ≡ true → IsMemberFrame records (record { id = f.id; member = f.member + 1; largest = max f.largest n })
    next_frame n h here size ms is = (within ms f.member (layout_member c.info m) at_ms, next) where
      same_members : members c ≡ ms
      same_members = same_composed (members c) ms c.size size (sym at.shape ∙ is)

      at_ms : slice_get ms f.member ≡ Some (layout_member c.info m)
      at_ms = subst (λ (x : List AlignedMember). slice_get x f.member ≡ Some (layout_member c.info m)) same_members found

      next : InPlace records (take (f.member + 1) ms) (max f.largest n)
      next =
          let e : suc f.member ≡ f.member + 1 = omega arith in
          subst (λ (x : List AlignedMember). InPlace records x (max f.largest n)) (sym (take_more ms f.member (layout_member c.info m) at_ms) ∙ ap (λ (k : ℕ). take k ms) e)
          (one_more (take f.member ms) f.largest (layout_member c.info m) n (subst (λ (x : List AlignedMember). InPlace records (take f.member x) f.largest) same_members places) h (by_place n true here))

  -- ---- after the last member

  pub ended : (f : Frame) (id : ℕ) (c : Composite) → f.id ≡ id → shape_in records f.id ≡ composite_view c → IsMemberFrame records f → length c.members.now ≤ f.member → Aligns records id (Ok (composed c.size f.largest))
  ended f id c same shape frame past =
      Aligns.all id c.size f.largest (members c) (ap (shape_in records) (sym same) ∙ shape)
      (subst (λ (x : List AlignedMember). InPlace records x f.largest) (take_whole (members c) f.member (slice_get-map (layout_member c.info) c.members.now f.member ∙ ap (option_map (layout_member c.info)) (slice_get_past c.members.now f.member past))) (frame c.size (members c) shape).1)

  pub positive : (f : Frame) (c : Composite) → shape_in records f.id ≡ composite_view c → IsMemberFrame records f → 0 < f.largest
  positive f c shape frame = (small_places records _ f.largest (frame c.size (members c) shape).1).0
