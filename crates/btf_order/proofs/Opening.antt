-- Which types are open after a change.
use Rattle.std.proofs.Common.{◌≡◌, ◌≢◌, ◌<◌, ◌⊎◌, ℕ, Bool, true, false, List, length, set, refl, ap, sym, ◌∙◌, inl, inr, Some, slice_get, if◌then◌else◌}
use Rattle.btf_model.specs.Record.{Record}
use Rattle.btf_order_model.specs.Uses.{Use, counted, counted_or}
use Rattle.btf_order.specs.declared.progress.Mark.TheVariants.{Open, Complete}
use Rattle.btf_order.specs.declared.progress.Progress.{Progress}
use Rattle.btf_order.specs.declared.progress.Walks.{Walks}
use Rattle.btf_order.specs.declared.shape.Node.{Node}
use Rattle.btf_order.specs.Progress.{is_open_mark, is_open_walk, is_open, OpensOnly, Closes, LeavesWalks}
use Rattle.btf_order.specs.Shape.{use_of}
use Rattle.btf_order.proofs.Covers.{true_not_false}
use Rattle.btf_order.proofs.Lists.{set_here, set_other, same_or_not}

abbrev pub by : ℕ → Bool → Use
by id behind = record { type = id; behind_pointer = behind }

-- a type that is opened by its mark
pub marked_opens : (p q : Progress) (id : ℕ) → id < length p.marks.items → q.marks.items ≡ set p.marks.items id Open → q.walks ≡ p.walks → OpensOnly p q (by id false)
marked_opens p q id lt marks walks u e = cases u.type u.behind_pointer e where
  cases : (j : ℕ) (b : Bool) → is_open q (by j b) ≡ true → (is_open p (by j b) ≡ true) ⊎ (by j b ≡ by id false)
  cases j true e = inl (ap (λ v. is_open_walk (slice_get v.items j)) (sym walks) ∙ e)
  cases j false e =
      elim (same_or_not j id) [
        | inl same ↦ inr (ap (λ (i : ℕ). by i false) same)
        | inr ne ↦ inl (ap is_open_mark (sym (set_other p.marks.items id j Open ne)) ∙ ap (λ xs. is_open_mark (slice_get xs j)) (sym marks) ∙ e)
      ]

-- a type that is opened behind a pointer
pub behind_opens : (p q : Progress) (id : ℕ) (w : Walks) → q.marks ≡ p.marks → q.walks.items ≡ set p.walks.items id w → OpensOnly p q (by id true)
behind_opens p q id w marks walks u e = cases u.type u.behind_pointer e where
  cases : (j : ℕ) (b : Bool) → is_open q (by j b) ≡ true → (is_open p (by j b) ≡ true) ⊎ (by j b ≡ by id true)
  cases j false e = inl (ap (λ v. is_open_mark (slice_get v.items j)) (sym marks) ∙ e)
  cases j true e =
      elim (same_or_not j id) [
        | inl same ↦ inr (ap (λ (i : ℕ). by i true) same)
        | inr ne ↦ inl (ap is_open_walk (sym (set_other p.walks.items id j w ne)) ∙ ap (λ xs. is_open_walk (slice_get xs j)) (sym walks) ∙ e)
      ]

-- a type that is closed
module _ (p q : Progress) (node : Node) (lt_marks : node.id < length p.marks.items) (lt_walks : node.id < length p.walks.items) (walks : LeavesWalks p q node) where
  other_way : (j : ℕ) (b : Bool) → b ≢ node.through_pointer → by j b ≢ use_of node
  other_way j b ne e = ne (ap (λ (u : Use). u.behind_pointer) e)

  other_type : (j : ℕ) (b : Bool) → j ≢ node.id → by j b ≢ use_of node
  other_type j b ne e = ne (ap (λ (u : Use). u.type) e)

  -- a walk that is still open
  walk_open : (j : ℕ) → is_open_walk (slice_get q.walks.items j) ≡ true → (is_open_walk (slice_get p.walks.items j) ≡ true) × (by j true ≢ use_of node)
  walk_open j e = cases node.through_pointer refl where
    cases : (b : Bool) → node.through_pointer ≡ b → (is_open_walk (slice_get p.walks.items j) ≡ true) × (by j true ≢ use_of node)
    cases false by_value = (ap (λ v. is_open_walk (slice_get v.items j)) (sym (walks.0 by_value)) ∙ e, other_way j true (λ h. true_not_false (h ∙ by_value)))
    cases true pointer =
        let w = walks.1 pointer in
        let e_set : is_open_walk (slice_get (set p.walks.items node.id w.0) j) ≡ true = ap (λ xs. is_open_walk (slice_get xs j)) (sym w.2) ∙ e in
        elim (same_or_not j node.id) [
          | inl same ↦ absurd (true_not_false (sym e_set ∙ ap (λ (i : ℕ). is_open_walk (slice_get (set p.walks.items node.id w.0) i)) same ∙ ap is_open_walk (set_here p.walks.items node.id w.0 lt_walks) ∙ w.1))
          | inr ne ↦ (ap is_open_walk (sym (set_other p.walks.items node.id j w.0 ne)) ∙ e_set, other_type j true ne)
        ]

  -- a mark that is still open
  mark_open : (settled : Bool) → (node.through_pointer ≡ false → settled ≡ true) → (j : ℕ) → is_open_mark (slice_get (if settled then set p.marks.items node.id Complete else p.marks.items) j) ≡ true → (is_open_mark (slice_get p.marks.items j) ≡ true) × (by j false ≢ use_of node)
  mark_open true by_value j e =
      elim (same_or_not j node.id) [
        | inl same ↦ absurd (true_not_false (sym e ∙ ap (λ (i : ℕ). is_open_mark (slice_get (set p.marks.items node.id Complete) i)) same ∙ ap is_open_mark (set_here p.marks.items node.id Complete lt_marks)))
        | inr ne ↦ (ap is_open_mark (sym (set_other p.marks.items node.id j Complete ne)) ∙ e, other_type j false ne)
      ]
  mark_open false by_value j e = (e, other_way j false (λ h. true_not_false (sym (by_value (sym h)))))

  pub left_closes : (settled : Bool) → (node.through_pointer ≡ false → settled ≡ true) → q.marks.items ≡ (if settled then set p.marks.items node.id Complete else p.marks.items) → Closes p q (use_of node)
  left_closes settled by_value marks u e = cases u.type u.behind_pointer e where
    cases : (j : ℕ) (b : Bool) → is_open q (by j b) ≡ true → (is_open p (by j b) ≡ true) × (by j b ≢ use_of node)
    cases j true e = walk_open j e
    cases j false e = mark_open settled by_value j (ap (λ xs. is_open_mark (slice_get xs j)) (sym marks) ∙ e)

-- ---- how a use of a type of the table counts

pub counted_here : (records : List Record) (u v : Use) (r : Record) → slice_get records u.type ≡ Some r → counted_or (Some r) u ≡ Some v → counted records u ≡ Some v
counted_here records u v r here counts = ap (λ o. counted_or o u) here ∙ counts

-- ---- changes that open and close nothing

pub same_open : (p q : Progress) → q.marks ≡ p.marks → q.walks ≡ p.walks → (u : Use) → is_open q u ≡ is_open p u
same_open p q marks walks u = cases u.type u.behind_pointer where
  cases : (j : ℕ) (b : Bool) → is_open q (by j b) ≡ is_open p (by j b)
  cases j true = ap (λ v. is_open_walk (slice_get v.items j)) walks
  cases j false = ap (λ v. is_open_mark (slice_get v.items j)) marks

pub closes_before : (p q r : Progress) (user : Use) → q.marks ≡ p.marks → q.walks ≡ p.walks → Closes q r user → Closes p r user
closes_before p q r user marks walks closes u e =
    let closed = closes u e in
    (sym (same_open p q marks walks u) ∙ closed.0, closed.1)
