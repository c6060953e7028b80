-- What is known of a progress after a change.
use Rattle.std.proofs.Common.{◌≡◌, ◌≢◌, ◌<◌, ◌≤◌, ◌+◌, ◌⊎◌, ℕ, Bool, true, false, List, [], ◌∷◌, ◌++◌, length, set, get_or, refl, ap, sym, subst, ◌∙◌, inl, inr, Some, arith, slice_get, if◌then◌else◌, IsTrue}
use Rattle.std.specs.List.{Contains, sum_by}
use Rattle.std.proofs.lemmas.List.{length-set}
use Rattle.std.proofs.lemmas.List.Elements.{Contains-append_left, Contains-push, Contains-push_cases}
use Rattle.std.proofs.lemmas.List.Sums.{sum_by-set}
use Rattle.std.proofs.lemmas.Option.{slice_get_within, get_or_from_slice_get, same_Some}
use Rattle.btf_model.specs.Record.{Record}
use Rattle.btf_order_model.specs.Order.{NeedsComplete, IsOrdered, may_be_declared}
use Rattle.btf_order_model.specs.Uses.{counted}
use Rattle.btf_order.specs.Shape.{use_of}
use Rattle.btf_order.specs.declared.progress.Mark.{Mark}
use Rattle.btf_order.specs.declared.progress.Mark.TheVariants.{New, Open, Complete}
use Rattle.btf_order.specs.declared.progress.Progress.{Progress}
use Rattle.btf_order.specs.declared.progress.Visit.{Visit}
use Rattle.btf_order.specs.declared.progress.Visit.TheVariants.{Returns, Opens}
use Rattle.btf_order.specs.declared.shape.Node.{Node}
use Rattle.btf_order.specs.Frame.{IsCovered}
use Rattle.btf_order.specs.Progress.{IsBehind, OpensOnly, is_complete_mark, is_complete_in, KnowsOrder, Grows, IsSameOrder, VisitIs, IsMarked, IsListed, HasLeft, mark_weight, walks_weight, left_over}
use Rattle.btf_order.proofs.Covers.{true_not_false, covered_more}
use Rattle.btf_order.proofs.Lists.{set_here, set_other, same_or_not}
use Rattle.btf_order.proofs.Opening.{by, marked_opens, behind_opens}

-- ---- marks

-- a mark that is written is complete only if it was, or is written as `Complete`
pub complete_before : (marks : List Mark) (i j : ℕ) → i < length marks → is_complete_in (set marks i Open) j ≡ true → is_complete_in marks j ≡ true
complete_before marks i j lt e = by (same_or_not j i) where
  by : (j ≡ i) ⊎ (j ≢ i) → is_complete_in marks j ≡ true
  by (inl same) = absurd (true_not_false (sym e ∙ ap (is_complete_in (set marks i Open)) same ∙ ap is_complete_mark (set_here marks i Open lt)))
  by (inr ne) = sym (ap is_complete_mark (set_other marks i j Open ne)) ∙ e

-- a complete mark is not new
stays_complete : (marks : List Mark) (i j : ℕ) → slice_get marks i ≡ Some New → is_complete_in marks j ≡ true → is_complete_in (set marks i Open) j ≡ true
stays_complete marks i j new e = by (same_or_not j i) where
  by : (j ≡ i) ⊎ (j ≢ i) → is_complete_in (set marks i Open) j ≡ true
  by (inl same) = absurd (true_not_false (sym e ∙ ap (is_complete_in marks) same ∙ ap is_complete_mark new))
  by (inr ne) = ap is_complete_mark (set_other marks i j Open ne) ∙ e

pub closed_here : (marks : List Mark) (i : ℕ) → i < length marks → is_complete_in (set marks i Complete) i ≡ true
closed_here marks i lt = ap is_complete_mark (set_here marks i Complete lt)

pub closed_cases : (marks : List Mark) (i j : ℕ) → is_complete_in (set marks i Complete) j ≡ true → (j ≡ i) ⊎ (is_complete_in marks j ≡ true)
closed_cases marks i j e = by (same_or_not j i) where
  by : (j ≡ i) ⊎ (j ≢ i) → (j ≡ i) ⊎ (is_complete_in marks j ≡ true)
  by (inl same) = inl same
  by (inr ne) = inr (sym (ap is_complete_mark (set_other marks i j Complete ne)) ∙ e)

closed_stays : (marks : List Mark) (i j : ℕ) → i < length marks → is_complete_in marks j ≡ true → is_complete_in (set marks i Complete) j ≡ true
closed_stays marks i j lt e = by (same_or_not j i) where
  by : (j ≡ i) ⊎ (j ≢ i) → is_complete_in (set marks i Complete) j ≡ true
  by (inl same) = ap (is_complete_in (set marks i Complete)) same ∙ closed_here marks i lt
  by (inr ne) = ap is_complete_mark (set_other marks i j Complete ne) ∙ e

-- ---- weights

opened_less : (marks : List Mark) (i : ℕ) → slice_get marks i ≡ Some New → sum_by mark_weight (set marks i Open) + 2 ≡ sum_by mark_weight marks
opened_less marks i e =
    let at : get_or marks i New ≡ New = get_or_from_slice_get marks i New New e in
    ap (λ (m : Mark). sum_by mark_weight (set marks i Open) + mark_weight m) (sym at) ∙ sum_by-set mark_weight marks i Open New (slice_get_within marks i New e) ∙ no_more (sum_by mark_weight marks) where
      no_more : (n : ℕ) → n + 0 ≡ n
      no_more n = omega arith

pub closed_less : (marks : List Mark) (i : ℕ) → i < length marks → sum_by mark_weight (set marks i Complete) ≤ sum_by mark_weight marks
closed_less marks i lt = less (sum_by mark_weight (set marks i Complete)) (mark_weight (get_or marks i New)) (sum_by mark_weight marks) (sum_by-set mark_weight marks i Complete New lt) where
  less : (a b n : ℕ) → a + b ≡ n + 0 → a ≤ n
  less a b n e = omega arith

-- ---- changes that leave the order as it is

pub grows_same : (p : Progress) → Grows p p
grows_same p = record { complete = λ id e. e; ids = λ id h. h }

pub grows_trans : (p q r : Progress) → Grows p q → Grows q r → Grows p r
grows_trans p q r first second = record { complete = λ id e. second.complete id (first.complete id e); ids = λ id h. second.ids id (first.ids id h) }

module _ (records : List Record) where
  pub knows_from : (p q : Progress) → KnowsOrder records p → length q.marks.items ≡ length p.marks.items → length q.walks.items ≡ length p.walks.items → IsSameOrder p q
      → ((id : ℕ) → is_complete_in q.marks.items id ≡ true → IsCovered records p.ids.items id) → KnowsOrder records q
  knows_from p q knows marks walks same complete = record {
    marks = marks ∙ knows.marks;
    walks = walks ∙ knows.walks;
    referenced = ap (λ v. length v.items) same.referenced ∙ knows.referenced;
    listed = ap (λ v. length v.items) same.listed ∙ knows.listed;
    complete = λ id e. subst (λ v. IsCovered records v.items id) (sym same.ids) (complete id e);
    ordered = subst (λ v. IsOrdered records v.items) (sym same.ids) knows.ordered;
    only = λ id h. knows.only id (subst (λ v. Contains v.items id) same.ids h);
    present = λ id e. subst (λ v. Contains v.items id) (sym same.ids) (knows.present id (ap (λ v. slice_get v.items id) (sym same.listed) ∙ e));
    absent = λ id e. subst (λ v. ¬ (Contains v.items id)) (sym same.ids) (knows.absent id (ap (λ v. slice_get v.items id) (sym same.listed) ∙ e));
  }

  same_ids : (p q : Progress) → IsSameOrder p q → (id : ℕ) → Contains p.ids.items id → Contains q.ids.items id
  same_ids p q same id h = subst (λ v. Contains v.items id) (sym same.ids) h

  -- a type that was opened by its mark
  module _ (p q : Progress) (knows : KnowsOrder records p) (id : ℕ) where
    pub marked_knows : (v : Visit) → IsMarked p q id v → KnowsOrder records q
    marked_knows (Returns link) h = absurd h
    marked_knows (Opens node) (is, new, marks, walks, same) =
        knows_from p q knows (ap (λ xs. length xs) marks ∙ length-set p.marks.items id Open) (ap (λ v. length v.items) walks) same
        (λ j e. knows.complete j (complete_before p.marks.items id j (slice_get_within p.marks.items id New new) (ap (λ xs. is_complete_in xs j) (sym marks) ∙ e)))

    pub marked_grows : (v : Visit) → IsMarked p q id v → Grows p q
    marked_grows (Returns link) h = absurd h
    marked_grows (Opens node) (is, new, marks, walks, same) = record {
      complete = λ j e. ap (λ xs. is_complete_in xs j) marks ∙ stays_complete p.marks.items id j new e;
      ids = same_ids p q same;
    }

    pub marked_visit : (v : Visit) (from : Node) → from.id ≡ id → id < length records → counted records (use_of from) ≡ Some (by id false) → IsMarked p q id v → VisitIs records p q from v
    marked_visit (Returns link) from here within counts h = absurd h
    marked_visit (Opens node) from here within counts (is, new, marks, walks, same) = record {
      id = ap (λ (n : Node). n.id) is ∙ sym here;
      inside = subst (λ (n : Node). n.id < length records) (sym is) within;
      counts = counts ∙ ap (λ (n : Node). Some (use_of n)) (sym is);
      opens = subst (λ (n : Node). OpensOnly p q (use_of n)) (sym is) (marked_opens p q id (slice_get_within p.marks.items id New new) marks walks);
      through_pointer = λ e. absurd (true_not_false (sym e ∙ ap (λ (n : Node). n.through_pointer) is));
      less =
          let walks_same : sum_by walks_weight q.walks.items ≡ sum_by walks_weight p.walks.items = ap (λ v. sum_by walks_weight v.items) walks in
          let marks_less : sum_by mark_weight q.marks.items + 2 ≡ sum_by mark_weight p.marks.items = ap (λ xs. sum_by mark_weight xs + 2) marks ∙ opened_less p.marks.items id new in
          omega arith;
    }

  -- a type that was opened by its walks, or waits for a leaf
  module _ (p q : Progress) (knows : KnowsOrder records p) (id : ℕ) where
    pub behind_knows : (v : Visit) → IsBehind p q id v → KnowsOrder records q
    behind_knows (Returns link) (same, weak, walked) = subst (KnowsOrder records) (sym same) knows
    behind_knows (Opens node) (is, marks, walks, less, same) =
        knows_from p q knows (ap (λ v. length v.items) marks) (ap (λ xs. length xs) walks.2 ∙ length-set p.walks.items id walks.0) same
        (λ j e. knows.complete j (ap (λ v. is_complete_in v.items j) (sym marks) ∙ e))

    pub behind_grows : (v : Visit) → IsBehind p q id v → Grows p q
    behind_grows (Returns link) (same, weak, walked) = subst (Grows p) (sym same) (grows_same p)
    behind_grows (Opens node) (is, marks, walks, less, same) = record {
      complete = λ j e. ap (λ v. is_complete_in v.items j) marks ∙ e;
      ids = same_ids p q same;
    }

    pub behind_visit : (v : Visit) (from : Node) → from.id ≡ id → from.through_pointer ≡ true → id < length records → counted records (use_of from) ≡ Some (by id true) → IsBehind p q id v → VisitIs records p q from v
    behind_visit (Returns link) from here pointer within counts (same, weak, walked) =
        (same, λ covers. absurd (elim covers [ inl h ↦ true_not_false (sym pointer ∙ h) | inr h ↦ true_not_false (sym h ∙ weak) ]), λ h. absurd (true_not_false (sym pointer ∙ h)))
    behind_visit (Opens node) from here pointer within counts (is, marks, walks, less, same) = record {
      id = ap (λ (n : Node). n.id) is ∙ sym here;
      inside = subst (λ (n : Node). n.id < length records) (sym is) within;
      counts = counts ∙ ap (λ (n : Node). Some (use_of n)) (sym is);
      opens = subst (λ (n : Node). OpensOnly p q (use_of n)) (sym is) (behind_opens p q id walks.0 marks walks.2);
      through_pointer = λ e. pointer;
      less =
          let marks_same : sum_by mark_weight q.marks.items ≡ sum_by mark_weight p.marks.items = ap (λ v. sum_by mark_weight v.items) marks in
          let walks_less : sum_by walks_weight q.walks.items + 2 ≤ sum_by walks_weight p.walks.items = less in
          omega arith;
    }

  -- a type that is in its place in the order
  module _ (p q : Progress) (knows : KnowsOrder records p) (id : ℕ) (may : IsTrue (may_be_declared records id)) (needs : (b : ℕ) → NeedsComplete records id b → Contains p.ids.items b) where
    longer : (ids : List ℕ) (x : ℕ) → Contains ids x → Contains (ids ++ id ∷ []) x
    longer ids x h = Contains-append_left ids (id ∷ []) x h

    pub listed_grows : IsListed p q id → Grows p q
    listed_grows (inl (here, same)) = subst (Grows p) (sym same) (grows_same p)
    listed_grows (inr (absent, ids, listed, marks, walks, referenced)) = record {
      complete = λ j e. ap (λ v. is_complete_in v.items j) marks ∙ e;
      ids = λ j h. subst (λ xs. Contains xs j) (sym ids) (longer p.ids.items j h);
    }

    pub listed_covered : IsListed p q id → IsCovered records q.ids.items id
    listed_covered (inl (here, same)) = subst (λ (x : Progress). IsCovered records x.ids.items id) (sym same) (λ d. knows.present id here, needs)
    listed_covered (inr (absent, ids, listed, marks, walks, referenced)) =
        subst (λ xs. IsCovered records xs id) (sym ids) (λ d. Contains-push p.ids.items id, λ b h. longer p.ids.items b (needs b h))

    pub listed_knows : IsListed p q id → KnowsOrder records q
    listed_knows (inl (here, same)) = subst (KnowsOrder records) (sym same) knows
    listed_knows (inr (absent, ids, listed, marks, walks, referenced)) = record {
      marks = ap (λ v. length v.items) marks ∙ knows.marks;
      walks = ap (λ v. length v.items) walks ∙ knows.walks;
      referenced = ap (λ v. length v.items) referenced ∙ knows.referenced;
      listed = ap (λ xs. length xs) listed ∙ length-set p.listed.items id true ∙ knows.listed;
      complete = λ j e. subst (λ xs. IsCovered records xs j) (sym ids) (covered_more records p.ids.items (p.ids.items ++ id ∷ []) j (longer p.ids.items) (knows.complete j (ap (λ v. is_complete_in v.items j) (sym marks) ∙ e)));
      ordered = subst (IsOrdered records) (sym ids) (IsOrdered.next p.ids.items id knows.ordered (knows.absent id absent) needs);
      only = λ j h. only j (Contains-push_cases p.ids.items id j (subst (λ xs. Contains xs j) ids h));
      present = λ j e. subst (λ xs. Contains xs j) (sym ids) (present j (ap (λ xs. slice_get xs j) (sym listed) ∙ e) (same_or_not j id));
      absent = λ j e. subst (λ xs. ¬ (Contains xs j)) (sym ids) (not_there j (ap (λ xs. slice_get xs j) (sym listed) ∙ e) (same_or_not j id));
    } where
      only : (j : ℕ) → Contains p.ids.items j ⊎ (id ≡ j) → IsTrue (may_be_declared records j)
      only j (inl before) = knows.only j before
      only j (inr same) = subst (λ (x : ℕ). IsTrue (may_be_declared records x)) same may

      present : (j : ℕ) → slice_get (set p.listed.items id true) j ≡ Some true → (j ≡ id) ⊎ (j ≢ id) → Contains (p.ids.items ++ id ∷ []) j
      present j e (inl same) = subst (λ (x : ℕ). Contains (p.ids.items ++ id ∷ []) x) (sym same) (Contains-push p.ids.items id)
      present j e (inr ne) = longer p.ids.items j (knows.present j (sym (set_other p.listed.items id j true ne) ∙ e))

      not_there : (j : ℕ) → slice_get (set p.listed.items id true) j ≡ Some false → (j ≡ id) ⊎ (j ≢ id) → ¬ (Contains (p.ids.items ++ id ∷ []) j)
      not_there j e (inl same) h = true_not_false (same_Some true false (sym (set_here p.listed.items id true (slice_get_within p.listed.items id false absent)) ∙ ap (slice_get (set p.listed.items id true)) (sym same) ∙ e))
      not_there j e (inr ne) h =
          elim (Contains-push_cases p.ids.items id j h) [
            | inl before ↦ knows.absent j (sym (set_other p.listed.items id j true ne) ∙ e) before
            | inr same ↦ ne (sym same)
          ]

  -- a type that is open no more
  module _ (q r : Progress) (knows : KnowsOrder records q) (id : ℕ) (lt : id < length q.marks.items) where
    marks_length : (settled : Bool) → length (if settled then set q.marks.items id Complete else q.marks.items) ≡ length q.marks.items
    marks_length true = length-set q.marks.items id Complete
    marks_length false = refl

    complete_after : (settled : Bool) → (settled ≡ true → IsCovered records q.ids.items id) → (j : ℕ) → is_complete_in (if settled then set q.marks.items id Complete else q.marks.items) j ≡ true → IsCovered records q.ids.items j
    complete_after true covered j e =
        elim (closed_cases q.marks.items id j e) [
          | inl same ↦ subst (IsCovered records q.ids.items) (sym same) (covered refl)
          | inr before ↦ knows.complete j before
        ]
    complete_after false covered j e = knows.complete j e

    pub left_knows : (settled : Bool) → HasLeft q r id settled → (settled ≡ true → IsCovered records q.ids.items id) → KnowsOrder records r
    left_knows settled left covered =
        knows_from q r knows (ap (λ xs. length xs) left.marks ∙ marks_length settled) left.walks left.order
        (λ j e. complete_after settled covered j (ap (λ xs. is_complete_in xs j) (sym left.marks) ∙ e))

    stays_after : (settled : Bool) (j : ℕ) → is_complete_in q.marks.items j ≡ true → is_complete_in (if settled then set q.marks.items id Complete else q.marks.items) j ≡ true
    stays_after true j e = closed_stays q.marks.items id j lt e
    stays_after false j e = e

    pub left_grows : (settled : Bool) → HasLeft q r id settled → Grows q r
    left_grows settled left = record {
      complete = λ j e. ap (λ xs. is_complete_in xs j) left.marks ∙ stays_after settled j e;
      ids = same_ids q r left.order;
    }

    pub left_complete : (settled : Bool) → HasLeft q r id settled → settled ≡ true → is_complete_in r.marks.items id ≡ true
    left_complete settled left e =
        ap (λ xs. is_complete_in xs id) left.marks ∙ ap (λ (b : Bool). is_complete_in (if b then set q.marks.items id Complete else q.marks.items) id) e ∙ closed_here q.marks.items id lt

    less_after : (settled : Bool) → sum_by mark_weight (if settled then set q.marks.items id Complete else q.marks.items) ≤ sum_by mark_weight q.marks.items
    less_after true = closed_less q.marks.items id lt
    less_after false = omega arith

    pub left_less : (settled : Bool) → HasLeft q r id settled → left_over r ≤ left_over q
    left_less settled left =
        let marks : sum_by mark_weight r.marks.items ≤ sum_by mark_weight q.marks.items = subst (λ xs. sum_by mark_weight xs ≤ sum_by mark_weight q.marks.items) (sym left.marks) (less_after settled) in
        let walks = left.weight in
        omega (arith, walks, marks)

  -- a type of the table has a mark
  pub inside : (q : Progress) → KnowsOrder records q → (id : ℕ) (r : Record) → slice_get records id ≡ Some r → id < length q.marks.items
  inside q knows id r here = subst (λ (n : ℕ). id < n) (sym knows.marks) (slice_get_within records id r here)
