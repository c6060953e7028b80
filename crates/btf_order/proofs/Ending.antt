-- What is known of uses after a change of the progress, and that no loop has an end.
use Rattle.std.proofs.Common.{◌≡◌, ◌≢◌, ◌<◌, ◌⊎◌, ℕ, zero, suc, Bool, true, false, List, [], length, replicate, set, refl, ap, sym, subst, ◌∙◌, inl, inr, Option, Some, None, arith, get_or, slice_get, if◌then◌else◌}
use Rattle.std.specs.List.{Contains}
use Rattle.std.proofs.lemmas.Option.{none-some, slice_get_within, slice_get_read, slice_get-get_or, same_Some}
use Rattle.btf_model.specs.Record.{Record, kind_of, unknown}
use Rattle.btf_order_model.specs.Loops.{is_function, NeedsThroughObjects, IsOnObjectLoop}
use Rattle.btf_order_model.specs.Uses.{Use, uses_in, uses_or, uses_by, counted, NeedsUse, IsUsedAndUnknown}
use Rattle.btf_order.specs.declared.progress.Mark.{Mark}
use Rattle.btf_order.specs.declared.progress.Mark.TheVariants.{New, Complete}
use Rattle.btf_order.specs.declared.progress.Progress.{Progress}
use Rattle.btf_order.specs.declared.progress.Visit.{Visit}
use Rattle.btf_order.specs.declared.progress.Visit.TheVariants.{Returns, Opens}
use Rattle.btf_order.specs.declared.progress.Walks.{Walks}
use Rattle.btf_order.specs.declared.shape.Node.{Node}
use Rattle.btf_order.specs.Progress.{HasLeft, IsBehind, IsMarked, LeavesWalks, is_complete_mark, is_complete_in, is_walked}
use Rattle.btf_order.specs.Shape.{use_of}
use Rattle.btf_order.specs.Uses.{Ends, IsSound, KnowsUses, UseIs, VisitedUseIs}
use Rattle.btf_order.proofs.Covers.{true_not_false}
use Rattle.btf_order.proofs.Knowing.{complete_before, closed_cases}
use Rattle.btf_order.proofs.Lists.{set_here, set_other, same_or_not}
use Rattle.btf_order.proofs.Opening.{by}
use Rattle.btf_order.proofs.Starting.{none_complete}
use Rattle.btf_order.proofs.Using.{sound_counts}

opened_is_not_walked : (w : Walks) → w.is_open ≡ true → is_walked (Some w) ≡ false
opened_is_not_walked w e = rw e refl

none_walked : (n id : ℕ) (w : Walks) → is_walked (Some w) ≡ false → is_walked (slice_get (replicate n w) id) ≡ false
none_walked zero id w never = refl
none_walked (suc n) zero w never = never
none_walked (suc n) (suc id) w never = none_walked n id w never

pub complete_inside : (marks : List Mark) (id : ℕ) → is_complete_in marks id ≡ true → id < length marks
complete_inside marks id e = cases (slice_get marks id) refl e where
  cases : (o : Option Mark) → slice_get marks id ≡ o → is_complete_mark o ≡ true → id < length marks
  cases (Some m) at e = slice_get_within marks id m at
  cases None at e = absurd (true_not_false (sym e))

module _ (records : List Record) where
  -- ---- the progress before the first type

  pub uses_new : (p : Progress) (n : ℕ) (w : Walks) → is_walked (Some w) ≡ false → p.marks.items ≡ replicate n New → p.walks.items ≡ replicate n w → KnowsUses records p
  uses_new p n w never marks walks = record {
    complete = λ id e. absurd (true_not_false (sym e ∙ ap (λ xs. is_complete_in xs id) marks ∙ none_complete n id));
    walked = λ id e. absurd (true_not_false (sym e ∙ ap (λ xs. is_walked (slice_get xs id)) walks ∙ none_walked n id w never));
  }

  -- ---- changes

  pub same_uses : (p q : Progress) → KnowsUses records p → q.marks ≡ p.marks → q.walks ≡ p.walks → KnowsUses records q
  same_uses p q uses marks walks = record {
    complete = λ id e. uses.complete id (ap (λ v. is_complete_in v.items id) (sym marks) ∙ e);
    walked = λ id e. uses.walked id (ap (λ v. is_walked (slice_get v.items id)) (sym walks) ∙ e);
  }

  pub marked_uses : (p q : Progress) (id : ℕ) → KnowsUses records p → (v : Visit) → IsMarked p q id v → KnowsUses records q
  marked_uses p q id uses (Returns link) h = absurd h
  marked_uses p q id uses (Opens node) (is, new, marks, walks, same) = record {
    complete = λ j e. uses.complete j (complete_before p.marks.items id j (slice_get_within p.marks.items id New new) (ap (λ xs. is_complete_in xs j) (sym marks) ∙ e));
    walked = λ j e. uses.walked j (ap (λ v. is_walked (slice_get v.items j)) (sym walks) ∙ e);
  }

  -- walks that are written
  walked_after : (p q : Progress) (id : ℕ) (w : Walks) → id < length p.walks.items → KnowsUses records p → q.walks.items ≡ set p.walks.items id w → (is_walked (Some w) ≡ true → Ends records (by id true))
      → (j : ℕ) → is_walked (slice_get q.walks.items j) ≡ true → Ends records (by j true)
  walked_after p q id w lt uses walks grounds j e = place (same_or_not j id) where
    written : is_walked (slice_get (set p.walks.items id w) j) ≡ true
    written = ap (λ xs. is_walked (slice_get xs j)) (sym walks) ∙ e

    place : (j ≡ id) ⊎ (j ≢ id) → Ends records (by j true)
    place (inl same) = subst (λ (i : ℕ). Ends records (by i true)) (sym same)
        (grounds (sym (ap (λ (i : ℕ). is_walked (slice_get (set p.walks.items id w) i)) same ∙ ap is_walked (set_here p.walks.items id w lt)) ∙ written))
    place (inr ne) = uses.walked j (sym (ap is_walked (set_other p.walks.items id j w ne)) ∙ written)

  pub behind_uses : (p q : Progress) (id : ℕ) → id < length p.walks.items → KnowsUses records p → (v : Visit) → IsBehind p q id v → KnowsUses records q
  behind_uses p q id lt uses (Returns link) (same, weak, walked) = subst (KnowsUses records) (sym same) uses
  behind_uses p q id lt uses (Opens node) (is, marks, walks, less, same) = record {
    complete = λ j e. uses.complete j (ap (λ v. is_complete_in v.items j) (sym marks) ∙ e);
    walked = walked_after p q id walks.0 lt uses walks.2 (λ e. absurd (true_not_false (sym e ∙ opened_is_not_walked walks.0 walks.1)));
  }

  pub behind_visited : (p q : Progress) (node : Node) → KnowsUses records p → node.through_pointer ≡ true → node.id < length records → counted records (use_of node) ≡ Some (by node.id true) → (v : Visit) → IsBehind p q node.id v → VisitedUseIs records node v
  behind_visited p q node uses pointer inside counts (Returns link) (same, weak, walked) = record {
    known = inside;
    ends = λ v also. subst (Ends records) (same_Some (by node.id true) v (sym counts ∙ also)) (uses.walked node.id walked);
    sound = λ covers. absurd (elim covers [ inl h ↦ true_not_false (sym pointer ∙ h) | inr h ↦ true_not_false (sym h ∙ weak) ]);
  }
  behind_visited p q node uses pointer inside counts (Opens next) h = tt

  -- a type is open no more
  pub left_uses : (p q : Progress) (node : Node) (settled : Bool) → node.id < length p.walks.items → KnowsUses records p → HasLeft p q node.id settled → LeavesWalks p q node
      → Ends records (use_of node) → (settled ≡ true → IsSound records node.id) → KnowsUses records q
  left_uses p q node settled lt uses left leaves grounds sound = record {
    complete = λ j e. complete_after settled sound j (ap (λ xs. is_complete_in xs j) (sym left.marks) ∙ e);
    walked = cases node.through_pointer refl;
  } where
    complete_after : (settled : Bool) → (settled ≡ true → IsSound records node.id) → (j : ℕ) → is_complete_in (if settled then set p.marks.items node.id Complete else p.marks.items) j ≡ true → IsSound records j
    complete_after true sound j e = elim (closed_cases p.marks.items node.id j e) [
      | inl same ↦ subst (IsSound records) (sym same) (sound refl)
      | inr before ↦ uses.complete j before
    ]
    complete_after false sound j e = uses.complete j e

    cases : (b : Bool) → node.through_pointer ≡ b → (j : ℕ) → is_walked (slice_get q.walks.items j) ≡ true → Ends records (by j true)
    cases false by_value j e = uses.walked j (ap (λ v. is_walked (slice_get v.items j)) (sym (leaves.0 by_value)) ∙ e)
    cases true pointer j e =
        let w = leaves.1 pointer in
        walked_after p q node.id w.0 lt uses w.2 (λ h. subst (λ (b : Bool). Ends records (by node.id b)) pointer grounds) j e

  -- ---- types that are complete

  -- a type that uses nothing
  pub alone_sound : (id : ℕ) (r : Record) → slice_get records id ≡ Some r → ((b : Bool) → uses_by (kind_of r.info) r b ≡ []) → IsSound records id
  alone_sound id r here none = record {
    known = λ b i u e. absurd (none-some u (sym (ap (λ us. slice_get us i) (no_uses b)) ∙ e));
    ends = λ b. Ends.ends (by id b) (λ v object needs. absurd (in_none b needs.direct needs.used));
  } where
    no_uses : (b : Bool) → uses_in records (by id b) ≡ []
    no_uses b = ap (λ o. uses_or o b) here ∙ none b

    in_none : (b : Bool) (u : Use) → Contains (uses_in records (by id b)) u → ⊥
    in_none b u h = let within : h.0 < 0 = subst (λ us. h.0 < length us) (no_uses b) h.1 in omega (arith, within)

  -- a use of a type that is complete
  pub complete_use : (u : Use) → u.type < length records → IsSound records u.type → UseIs records u true
  complete_use u known sound = record { known = known; ends = λ v counts. sound_counts records u v sound counts; sound = λ covers. sound }

  -- ---- tables all of whose types are complete

  objects_then : (a b c : Use) → NeedsThroughObjects records a b → is_function records b ≡ false → NeedsUse records b c → NeedsThroughObjects records a c
  objects_then a b c (NeedsThroughObjects.directly _ _ object needs) also last = NeedsThroughObjects.through a b c object needs (NeedsThroughObjects.directly b c also last)
  objects_then a b c (NeedsThroughObjects.through _ d _ object needs rest) also last = NeedsThroughObjects.through a d c object needs (objects_then d b c rest also last)

  ends_no_loop : (u : Use) → Ends records u → NeedsThroughObjects records u u → ⊥
  ends_no_loop u (Ends.ends _ next) (NeedsThroughObjects.directly _ _ object needs) = ends_no_loop u (next u object needs) (NeedsThroughObjects.directly u u object needs)
  ends_no_loop u (Ends.ends _ next) (NeedsThroughObjects.through _ c _ object needs rest) = ends_no_loop c (next c object needs) (objects_then c u c rest object needs)

  module _ (sound : (id : ℕ) → id < length records → IsSound records id) where
    user_inside : (user u : Use) → Contains (uses_in records user) u → user.type < length records
    user_inside user u h = cases (slice_get records user.type) refl h where
      cases : (o : Option Record) → slice_get records user.type ≡ o → Contains (uses_or o user.behind_pointer) u → user.type < length records
      cases (Some r) e h = slice_get_within records user.type r e
      cases None e h = let within : h.0 < 0 = h.1 in absurd (omega (arith, within))

    pub all_known : (id : ℕ) → ¬ (IsUsedAndUnknown records id)
    all_known id is =
        let here = is.used in
        let known = (sound is.user.type (user_inside is.user (by id is.behind_pointer) here)).known is.user.behind_pointer here.0 (by id is.behind_pointer)
        (slice_get_read (uses_in records is.user) (length (uses_in records is.user)) here.0 (by id is.behind_pointer) refl here.1 (sym here.2)) in
        none-some (get_or records id unknown) (sym is.unknown ∙ slice_get-get_or records id unknown known)

    first_used : (a b : Use) → NeedsThroughObjects records a b → a.type < length records
    first_used a b (NeedsThroughObjects.directly _ _ object needs) = user_inside a needs.direct needs.used
    first_used a b (NeedsThroughObjects.through _ c _ object needs rest) = user_inside a needs.direct needs.used

    pub no_object_loop : (id : ℕ) → ¬ (IsOnObjectLoop records id)
    no_object_loop id is = ends_no_loop is.of_id ((sound is.of_id.type (first_used is.of_id is.of_id is.loop)).ends is.of_id.behind_pointer) is.loop
