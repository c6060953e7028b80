-- Types that are declared with all that they need.
use Rattle.std.proofs.Common.{◌≡◌, ◌<◌, ◌≤◌, ◌+◌, ◌⊎◌, ◌||◌, ◌&&◌, ℕ, Bool, true, false, not, List, length, IsTrue, refl, ap, sym, subst, ◌∙◌, inl, inr, Option, Some, None, arith, slice_get}
use Rattle.std.specs.List.{Contains}
use Rattle.std.proofs.lemmas.Option.{slice_get_within, slice_get_read, same_Some}
use Rattle.btf_model.specs.Record.{Record}
use Rattle.btf_order_model.specs.Order.{value_types, value_types_or, value_types_in, is_declared, is_declared_or, HasByValue, NeedsComplete}
use Rattle.btf_order.specs.declared.frame.Frame.{Frame}
use Rattle.btf_order.specs.declared.frame.Link.{Link}
use Rattle.btf_order.specs.declared.shape.Node.{Node}
use Rattle.btf_order.specs.declared.shape.Shape.{Shape}
use Rattle.btf_order.specs.declared.shape.Shape.TheVariants.{Prototype}
use Rattle.btf_order.specs.Frame.{IsCovered, AreCovered, Covers, LinkIs, IsWalkFrame, is_done}
use Rattle.btf_order.specs.Shape.{Refers, IsShape}

-- ---- truth values

pub true_not_false : true ≡ false → ⊥
true_not_false e = cc

pub both_left : (a b : Bool) → (a && b) ≡ true → a ≡ true
both_left true b e = refl
both_left false b e = absurd (true_not_false (sym e))

pub both_right : (a b : Bool) → (a && b) ≡ true → b ≡ true
both_right true b e = e
both_right false b e = absurd (true_not_false (sym e))

pub not_behind : (through : Bool) → (through ≡ true → ⊥) → through ≡ false
not_behind true never = absurd (never refl)
not_behind false never = refl

pub done_cases : (through all : Bool) → (not through || all) ≡ true → Covers through all
done_cases true all e = inr e
done_cases false all e = inl refl

pub done_by_value : (f : Frame) → f.node.through_pointer ≡ false → is_done f ≡ true
done_by_value f e = ap (λ (b : Bool). not b || f.all_strong) e

module _ (records : List Record) where
  -- ---- longer orders

  pub covered_more : (before after : List ℕ) (a : ℕ) → ((id : ℕ) → Contains before id → Contains after id) → IsCovered records before a → IsCovered records after a
  covered_more before after a more covered = (λ d. more a (covered.0 d), λ b needs. more b (covered.1 b needs))

  pub frame_more : (before after : List ℕ) (f : Frame) → ((id : ℕ) → Contains before id → Contains after id) → IsWalkFrame records before f → IsWalkFrame records after f
  frame_more before after f more frame covers i b lt e = covered_more before after b more (frame covers i b lt e)

  -- ---- types that have nothing by value, and types whose types are covered

  nothing : (a b : ℕ) → length (value_types_in records a) ≡ 0 → HasByValue records a b → ⊥
  nothing a b none (HasByValue.directly _ _ here) = let lt = here.1 in omega arith
  nothing a b none (HasByValue.through _ c _ here rest) = let lt = here.1 in omega arith

  pub covered_nothing : (ids : List ℕ) (a : ℕ) → length (value_types_in records a) ≡ 0 → is_declared records a ≡ false → IsCovered records ids a
  covered_nothing ids a none undeclared = (λ d. absurd (true_not_false (sym d ∙ undeclared)), λ b needs. absurd (nothing a b none needs.0))

  pub needs_covered : (ids : List ℕ) (a count : ℕ) → length (value_types_in records a) ≤ count → AreCovered records ids (value_types_in records a) count → (b : ℕ) → NeedsComplete records a b → Contains ids b
  needs_covered ids a count all covered b needs = by b needs.0 needs.1 where
    at : (b : ℕ) → Contains (value_types_in records a) b → IsCovered records ids b
    at b here =
        let lt : here.0 < length (value_types_in records a) = here.1 in
        covered here.0 b (omega (arith, lt)) (slice_get_read (value_types_in records a) (length (value_types_in records a)) here.0 b refl here.1 (sym here.2))

    by : (b : ℕ) → HasByValue records a b → IsTrue (is_declared records b) → Contains ids b
    by b (HasByValue.directly _ _ here) declared = (at b here).0 declared
    by b (HasByValue.through _ c _ here rest) declared = (at c here).1 b (rest, declared)

  -- what a frame gives after its last type
  pub frame_needs : (ids : List ℕ) (f : Frame) → IsWalkFrame records ids f → length (value_types_in records f.node.id) ≤ f.next → is_done f ≡ true → (b : ℕ) → NeedsComplete records f.node.id b → Contains ids b
  frame_needs ids f frame all done = needs_covered ids f.node.id f.next all (frame (done_cases f.node.through_pointer f.all_strong done))

  -- ---- the next type of a frame

  pub by_place : (i n : ℕ) → i < n + 1 → (i < n) ⊎ (i ≡ n)
  by_place i n lt = grind arith

  pub frame_after : (ids : List ℕ) (f g : Frame) (node : Node) (link : Link) → IsWalkFrame records ids f → Refers (value_types_in records f.node.id) f.node.through_pointer f.next node → LinkIs records ids node link
      → g.node ≡ f.node → g.next ≡ f.next + 1 → g.all_strong ≡ (f.all_strong && link.is_strong) → IsWalkFrame records ids g
  frame_after ids f g node link frame refers is_link same next all covers i b lt e =
      by (by_place i f.next (subst (λ (n : ℕ). i < n) next lt)) refers.1 where
        types : List ℕ
        types = value_types_in records f.node.id

        here : slice_get (value_types_in records f.node.id) i ≡ Some b
        here = subst (λ (n : Node). slice_get (value_types_in records n.id) i ≡ Some b) same e

        f_covers : Covers f.node.through_pointer f.all_strong
        f_covers = elim covers [
          | inl h ↦ inl (ap (λ (n : Node). n.through_pointer) (sym same) ∙ h)
          | inr h ↦ inr (both_left f.all_strong link.is_strong (sym all ∙ h))
        ]

        link_covers : (node.through_pointer ≡ true → f.node.through_pointer ≡ true) → Covers node.through_pointer link.is_strong
        link_covers pointer = elim covers [
          | inl h ↦ inl (not_behind node.through_pointer (λ t. true_not_false (sym (pointer t) ∙ ap (λ (n : Node). n.through_pointer) (sym same) ∙ h)))
          | inr h ↦ inr (both_right f.all_strong link.is_strong (sym all ∙ h))
        ]

        by : (i < f.next) ⊎ (i ≡ f.next) → ((length (value_types_in records f.node.id) ≡ 0) ⊎ ((slice_get (value_types_in records f.node.id) f.next ≡ Some node.id) × (node.through_pointer ≡ true → f.node.through_pointer ≡ true))) → IsCovered records ids b
        by (inl before) r = frame f_covers i b before here
        by (inr last) (inl none) = let within = slice_get_within (value_types_in records f.node.id) i b here in absurd (omega arith)
        by (inr last) (inr (at, pointer)) =
            subst (IsCovered records ids) (same_Some node.id b (sym at ∙ ap (slice_get (value_types_in records f.node.id)) (sym last) ∙ here)) (is_link (link_covers pointer))

  -- the result of a type whose types have all had theirs
  pub link_is : (ids : List ℕ) (f : Frame) (link : Link) (shape : Shape) (r : Record) → slice_get records f.node.id ≡ Some r → IsShape r shape → (link.is_strong ≡ true → (shape ≡ Prototype) ⊎ (is_done f ≡ true)) → (is_done f ≡ true → IsCovered records ids f.node.id) → LinkIs records ids f.node link
  link_is ids f link shape r here is_shape strong covered (inl by_value) = covered (done_by_value f by_value)
  link_is ids f link shape r here is_shape strong covered (inr is_strong) = by (strong is_strong) where
    by : (shape ≡ Prototype) ⊎ (is_done f ≡ true) → IsCovered records ids f.node.id
    by (inl prototype) =
        let none : IsShape r Prototype = subst (IsShape r) prototype is_shape in
        covered_nothing ids f.node.id (ap (λ o. length (value_types_or o)) here ∙ none.0) (ap is_declared_or here ∙ none.1)
    by (inr done) = covered done

  -- ---- frames and types of the table

  pub new_frame : (ids : List ℕ) (f : Frame) → f.next ≡ 0 → IsWalkFrame records ids f
  new_frame ids f next covers i b lt e = absurd (no_index i (subst (λ (n : ℕ). i < n) next lt)) where
    no_index : (i : ℕ) → i < 0 → ⊥
    no_index i h = omega arith

  -- the types of a frame are the types of its record
  pub types_here : (f g : Frame) (r : Record) → f.node ≡ g.node → slice_get records g.node.id ≡ Some r → value_types r ≡ value_types_in records f.node.id
  types_here f g r same here = sym (ap (λ (n : Node). value_types_in records n.id) same ∙ ap value_types_or here)

  pub declared_inside : (id : ℕ) → IsTrue (is_declared records id) → id < length records
  declared_inside id d = by (slice_get records id) refl where
    by : (o : Option Record) → slice_get records id ≡ o → id < length records
    by (Some r) e = slice_get_within records id r e
    by None e = absurd (true_not_false (sym d ∙ ap is_declared_or e))
