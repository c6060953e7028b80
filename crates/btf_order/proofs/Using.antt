-- The uses of a frame, and what follows for its type.
use Rattle.std.proofs.Common.{◌≡◌, ◌<◌, ◌≤◌, ◌+◌, ◌⊎◌, ◌&&◌, ◌==◌, if◌then◌else◌, ℕ, zero, suc, Bool, true, false, not, List, [], ◌∷◌, length, refl, ap, sym, subst, ◌∙◌, inl, inr, Option, Some, None, arith, slice_get}
use Rattle.std.specs.List.{Contains}
use Rattle.std.proofs.lemmas.Option.{none-some, slice_get_within, slice_get_read, same_Some}
use Rattle.btf_model.specs.Record.{Record, Kind, FuncProto, Struct, Union, Typedef, Volatile, Const, Restrict, TypeTag, kind_of}
use Rattle.btf_model.specs.Compat.{parameter_types}
use Rattle.btf_order_model.specs.Loops.{is_function, is_function_or, is_function_by}
use Rattle.btf_order_model.specs.Uses.{Use, uses_in, uses_or, uses_of, uses_by, counted, counted_or, counted_by, NeedsUse}
use Rattle.btf_order.specs.declared.frame.Frame.{Frame}
use Rattle.btf_order.specs.declared.frame.Link.{Link}
use Rattle.btf_order.specs.declared.shape.Node.{Node}
use Rattle.btf_order.specs.declared.shape.Shape.{Shape}
use Rattle.btf_order.specs.declared.shape.Shape.TheVariants.{Prototype}
use Rattle.btf_order.specs.Frame.{is_done}
use Rattle.btf_order.specs.Shape.{IsShape, use_of}
use Rattle.btf_order.specs.Uses.{Ends, IsSound, UseIs, IsUseFrame, UseLinkIs, IsNextUse}
use Rattle.btf_order.proofs.Covers.{both_left, both_right, by_place, done_by_value, done_cases, not_behind, true_not_false}
use Rattle.btf_order.proofs.Opening.{by}

-- ---- a type that is used behind a pointer, and not

passed_on : (types : List ℕ) (a b : Bool) (i : ℕ) (u : Use) → slice_get (uses_of types a) i ≡ Some u → slice_get (uses_of types b) i ≡ Some (by u.type b)
passed_on [] a b i u e = absurd (none-some u e)
passed_on (t ∷ types) a b zero u e = ap (λ (x : Use). Some (by x.type b)) (same_Some (by t a) u e)
passed_on (t ∷ types) a b (suc i) u e = passed_on types a b i u e

other_by : (k : Option Kind) (r : Record) (a b : Bool) (i : ℕ) (u : Use) → slice_get (uses_by k r a) i ≡ Some u → (slice_get (uses_by k r b) i ≡ Some u) ⊎ (slice_get (uses_by k r b) i ≡ Some (by u.type b))
other_by (Some Typedef) r a b i u e = inr (passed_on (r.third ∷ []) a b i u e)
other_by (Some Volatile) r a b i u e = inr (passed_on (r.third ∷ []) a b i u e)
other_by (Some Const) r a b i u e = inr (passed_on (r.third ∷ []) a b i u e)
other_by (Some Restrict) r a b i u e = inr (passed_on (r.third ∷ []) a b i u e)
other_by (Some TypeTag) r a b i u e = inr (passed_on (r.third ∷ []) a b i u e)
other_by (Some FuncProto) r a b i u e = inr (passed_on (r.third ∷ parameter_types r.tail) a b i u e)
other_by k r a b i u e = inl e

-- how a use counts has the type of the use
counted_type_by : (k : Option Kind) (r : Record) (u v : Use) → counted_by k r u ≡ Some v → v.type ≡ u.type
counted_type_by (Some Struct) r u v e = named (u.behind_pointer && not (r.name == 0)) e where
  named : (b : Bool) → (if b then None else Some (record u { behind_pointer = false })) ≡ Some v → v.type ≡ u.type
  named true e = absurd (none-some v e)
  named false e = ap (λ (x : Use). x.type) (sym (same_Some (by u.type false) v e))
counted_type_by (Some Union) r u v e = named (u.behind_pointer && not (r.name == 0)) e where
  named : (b : Bool) → (if b then None else Some (record u { behind_pointer = false })) ≡ Some v → v.type ≡ u.type
  named true e = absurd (none-some v e)
  named false e = ap (λ (x : Use). x.type) (sym (same_Some (by u.type false) v e))
counted_type_by (Some Typedef) r u v e = ap (λ (x : Use). x.type) (sym (same_Some u v e))
counted_type_by (Some Volatile) r u v e = ap (λ (x : Use). x.type) (sym (same_Some u v e))
counted_type_by (Some Const) r u v e = ap (λ (x : Use). x.type) (sym (same_Some u v e))
counted_type_by (Some Restrict) r u v e = ap (λ (x : Use). x.type) (sym (same_Some u v e))
counted_type_by (Some TypeTag) r u v e = ap (λ (x : Use). x.type) (sym (same_Some u v e))
counted_type_by (Some FuncProto) r u v e = ap (λ (x : Use). x.type) (sym (same_Some u v e))
counted_type_by k r u v e = ap (λ (x : Use). x.type) (sym (same_Some (by u.type false) v e))

counted_type_or : (o : Option Record) (u v : Use) → counted_or o u ≡ Some v → v.type ≡ u.type
counted_type_or (Some r) u v e = counted_type_by (kind_of r.info) r u v e
counted_type_or None u v e = absurd (none-some v e)

module _ (records : List Record) where
  other_use : (id : ℕ) (a b : Bool) (i : ℕ) (u : Use) → slice_get (uses_in records (by id a)) i ≡ Some u → (slice_get (uses_in records (by id b)) i ≡ Some u) ⊎ (slice_get (uses_in records (by id b)) i ≡ Some (by u.type b))
  other_use id a b i u e = cases (slice_get records id) e where
    cases : (o : Option Record) → slice_get (uses_or o a) i ≡ Some u → (slice_get (uses_or o b) i ≡ Some u) ⊎ (slice_get (uses_or o b) i ≡ Some (by u.type b))
    cases (Some r) e = other_by (kind_of r.info) r a b i u e
    cases None e = inl e

  pub counted_type : (u v : Use) → counted records u ≡ Some v → v.type ≡ u.type
  counted_type u v e = counted_type_or (slice_get records u.type) u v e

  pub sound_counts : (u v : Use) → IsSound records u.type → counted records u ≡ Some v → Ends records v
  sound_counts u v sound e = subst (λ (i : ℕ). Ends records (by i v.behind_pointer)) (sym (counted_type u v e)) (sound.ends v.behind_pointer)

  -- ---- a use of a frame

  pub less_strong : (u : Use) (now before : Bool) → (now ≡ true → before ≡ true) → UseIs records u before → UseIs records u now
  less_strong u now before follows is = record {
    known = is.known;
    ends = is.ends;
    sound = λ covers. is.sound (elim covers [ inl h ↦ inl h | inr h ↦ inr (follows h) ]);
  }

  -- the use whose type was opened has a result
  pub use_is : (f : Frame) (node : Node) (link : Link) → UseLinkIs records node link → (next : IsNextUse records f node) → UseIs records next.direct link.is_strong
  use_is f node link is next = record {
    known = subst (λ (i : ℕ). i < length records) same next.inside;
    ends = λ v counts. subst (Ends records) (same_Some (use_of node) v (sym next.counts ∙ counts)) is.ends;
    sound = λ covers. subst (IsSound records) same (is.sound (elim covers [
      | inl h ↦ inl (not_behind node.through_pointer (λ t. true_not_false (sym (next.behind t) ∙ h)))
      | inr h ↦ inr h
    ]));
  } where
    same : node.id ≡ next.direct.type
    same = counted_type next.direct (use_of node) next.counts

  pub frame_after_use : (f g : Frame) (u : Use) (strong : Bool) → IsUseFrame records f → slice_get (uses_in records (use_of f.node)) f.next ≡ Some u → UseIs records u strong
      → g.node ≡ f.node → g.next ≡ f.next + 1 → g.all_strong ≡ (f.all_strong && strong) → IsUseFrame records g
  frame_after_use f g u strong frame at is same next all i v lt e =
      place (by_place records i f.next (subst (λ (n : ℕ). i < n) next lt)) where
        here : slice_get (uses_in records (use_of f.node)) i ≡ Some v
        here = subst (λ (n : Node). slice_get (uses_in records (use_of n)) i ≡ Some v) same e

        place : (i < f.next) ⊎ (i ≡ f.next) → UseIs records v g.all_strong
        place (inl before) = less_strong v g.all_strong f.all_strong (λ h. both_left f.all_strong strong (sym all ∙ h)) (frame i v before here)
        place (inr last) = less_strong v g.all_strong strong (λ h. both_right f.all_strong strong (sym all ∙ h))
            (subst (λ (x : Use). UseIs records x strong) (same_Some u v (sym at ∙ ap (slice_get (uses_in records (use_of f.node))) (sym last) ∙ here)) is)

  pub new_use_frame : (f : Frame) → f.next ≡ 0 → IsUseFrame records f
  new_use_frame f next i u lt e = absurd (no_index i (subst (λ (n : ℕ). i < n) next lt)) where
    no_index : (i : ℕ) → i < 0 → ⊥
    no_index i h = omega arith

  -- ---- a frame after its last use

  -- a function by value leads no further
  function_ends : (id : ℕ) (r : Record) → slice_get records id ≡ Some r → kind_of r.info ≡ Some FuncProto → Ends records (by id false)
  function_ends id r here kind = Ends.ends (by id false) (λ v object needs. absurd (true_not_false (sym is ∙ object))) where
    is : is_function records (by id false) ≡ true
    is = ap (λ o. is_function_or o false) here ∙ ap (λ k. is_function_by k false) kind

  module _ (f : Frame) (frame : IsUseFrame records f) (last : length (uses_in records (use_of f.node)) ≤ f.next) where
    at : (i : ℕ) (u : Use) → slice_get (uses_in records (use_of f.node)) i ≡ Some u → UseIs records u f.all_strong
    at i u e = let within = slice_get_within (uses_in records (use_of f.node)) i u e in frame i u (omega (arith, within, last)) e

    index_of : (user u : Use) → Contains (uses_in records user) u → (i : ℕ) × (slice_get (uses_in records user) i ≡ Some u)
    index_of user u here = (here.0, slice_get_read (uses_in records user) (length (uses_in records user)) here.0 u refl here.1 (sym here.2))

    pub frame_ends : Ends records (use_of f.node)
    frame_ends = Ends.ends (use_of f.node) (λ v object needs. let used = index_of (use_of f.node) needs.direct needs.used in (at used.0 needs.direct used.1).ends v needs.counts)

    frame_known : (b : Bool) (i : ℕ) (u : Use) → slice_get (uses_in records (by f.node.id b)) i ≡ Some u → u.type < length records
    frame_known b i u e = elim (other_use f.node.id b f.node.through_pointer i u e) [
      | inl h ↦ (at i u h).known
      | inr h ↦ (at i (by u.type f.node.through_pointer) h).known
    ]

    done_ends : is_done f ≡ true → (b : Bool) → Ends records (by f.node.id b)
    done_ends done b = Ends.ends (by f.node.id b) (λ v object needs. from v needs (index_of (by f.node.id b) needs.direct needs.used)) where
      from : (v : Use) (needs : NeedsUse records (by f.node.id b) v) → ((i : ℕ) × (slice_get (uses_in records (by f.node.id b)) i ≡ Some needs.direct)) → Ends records v
      from v needs (i, e) = elim (other_use f.node.id b f.node.through_pointer i needs.direct e) [
        | inl h ↦ (at i needs.direct h).ends v needs.counts
        | inr h ↦ sound_counts needs.direct v ((at i (by needs.direct.type f.node.through_pointer) h).sound (done_cases f.node.through_pointer f.all_strong done)) needs.counts
      ]

    pub frame_sound : is_done f ≡ true → IsSound records f.node.id
    frame_sound done = record { known = frame_known; ends = done_ends done }

    -- a prototype behind a pointer
    prototype_sound : (r : Record) → slice_get records f.node.id ≡ Some r → kind_of r.info ≡ Some FuncProto → IsSound records f.node.id
    prototype_sound r here kind = by_pointer f.node.through_pointer refl where
      each : f.node.through_pointer ≡ true → (b : Bool) → Ends records (by f.node.id b)
      each pointer true = subst (λ (x : Bool). Ends records (by f.node.id x)) pointer frame_ends
      each pointer false = function_ends f.node.id r here kind

      by_pointer : (b : Bool) → f.node.through_pointer ≡ b → IsSound records f.node.id
      by_pointer true e = record { known = frame_known; ends = each e }
      by_pointer false e = frame_sound (done_by_value f e)

    pub use_link_is : (link : Link) (shape : Shape) (r : Record) → slice_get records f.node.id ≡ Some r → IsShape r shape → (link.is_strong ≡ true → (shape ≡ Prototype) ⊎ (is_done f ≡ true)) → UseLinkIs records f.node link
    use_link_is link shape r here is_shape strong = record {
      ends = frame_ends;
      sound = λ covers. elim covers [ inl by_value ↦ frame_sound (done_by_value f by_value) | inr is_strong ↦ result (strong is_strong) ];
    } where
      result : (shape ≡ Prototype) ⊎ (is_done f ≡ true) → IsSound records f.node.id
      result (inl prototype) = let is : IsShape r Prototype = subst (IsShape r) prototype is_shape in prototype_sound r here is.2
      result (inr done) = frame_sound done
