-- The stack of types that wait for the type after them.
use Rattle.std.proofs.Common.{◌≡◌, ◌≢◌, ◌<◌, ◌⊎◌, ℕ, true, false, List, [], ◌∷◌, ◌++◌, get_or, length, refl, ap, sym, subst, ◌∙◌, inl, inr}
use Rattle.std.specs.List.{Contains}
use Rattle.btf_model.specs.Record.{Record}
use Rattle.btf_order_model.specs.Order.{value_types_in}
use Rattle.btf_order.specs.declared.frame.Frame.{Frame}
use Rattle.btf_order.specs.declared.shape.Node.{Node}
use Rattle.btf_order.specs.Frame.{IsWalkFrame}
use Rattle.btf_order.specs.Shape.{Refers, use_of}
use Rattle.btf_order.specs.Uses.{IsUseFrame, IsNextUse}
use Rattle.btf_order_model.specs.Uses.{Use, NeedsUse, NeedsThrough}
use Rattle.btf_order.specs.declared.progress.Progress.{Progress}
use Rattle.btf_order.specs.Progress.{is_open, NoneWaits, OpensOnly, Closes}
use Rattle.std.proofs.lemmas.Option.{none-some, slice_get-get_or}
use Rattle.btf_model.specs.Record.{unknown as unknown_record}
use Rattle.btf_plain.specs.declared.error.BtfError.{BtfError}
use Rattle.btf_plain.specs.declared.error.BtfError.TheVariants.{UnknownBtfType, MaximumTypeDepthReached, OutOfMemory}
use Rattle.btf_order.specs.Errors.{IsOrderError, IsVisitError, IsStepError}
use Rattle.btf_order.proofs.Opening.{by}
use Rattle.btf_order.proofs.Covers.{frame_more, not_behind, true_not_false}

-- A type of the table goes on to another: it refers to the other at its next index, and needs it.
pub record GoesTo (records : List Record) (f : Frame) (node : Node) : Type 0 where
  pub refers : Refers (value_types_in records f.node.id) f.node.through_pointer f.next node
  pub needs : NeedsUse records (use_of f.node) (use_of node)
  pub inside : f.node.id < length records
  pub use_frame : IsUseFrame records f
  pub next_use : IsNextUse records f node

-- a use is of a type of the stack
abbrev pub OnStack : List Frame → Node → Use → Type 0
OnStack [] top u = u ≡ use_of top
OnStack (f ∷ below) top u = (u ≡ use_of f.node) ⊎ OnStack below top u

pub on_pushed : (below : List Frame) (f : Frame) (top : Node) (u : Use) → OnStack below f.node u → OnStack (below ++ f ∷ []) top u
on_pushed [] f top u is = inl is
on_pushed (g ∷ below) f top u on = elim on [ inl is ↦ inl is | inr rest ↦ inr (on_pushed below f top u rest) ]

pub top_on : (below : List Frame) (top : Node) → OnStack below top (use_of top)
top_on [] top = refl
top_on (f ∷ below) top = inr (top_on below top)

-- without the top, unless the use is the top's
pub on_popped : (below : List Frame) (f : Frame) (top : Node) (u : Use) → OnStack (below ++ f ∷ []) top u → (u ≢ use_of top) → OnStack below f.node u
on_popped [] f top u on ne = elim on [ inl is ↦ is | inr is ↦ absurd (ne is) ]
on_popped (g ∷ below) f top u on ne = elim on [ inl is ↦ inl is | inr rest ↦ inr (on_popped below f top u rest ne) ]

-- the first type of the stack, whose last type is `top`
abbrev pub first : List Frame → Node → Node
first [] top = top
first (f ∷ below) top = f.node

pub first_on : (below : List Frame) (top : Node) → OnStack below top (use_of (first below top))
first_on [] top = refl
first_on (f ∷ below) top = inl refl

pub first_pushed : (below : List Frame) (f : Frame) (top : Node) → first (below ++ f ∷ []) top ≡ first below f.node
first_pushed [] f top = refl
first_pushed (g ∷ below) f top = refl

module _ (records : List Record) where
  -- a type refers to the type that it waits for
  abbrev pub IsWaiting : List ℕ → Frame → Node → Type 0
  IsWaiting ids f node = IsWalkFrame records ids f × GoesTo records f node

  abbrev pub Waiting : List ℕ → List Frame → Node → Type 0
  Waiting ids [] top = Unit {0}
  Waiting ids (f ∷ below) top = IsWaiting ids f (first below top) × Waiting ids below top

  pub waiting_pushed : (ids : List ℕ) (below : List Frame) (f : Frame) (top : Node) → Waiting ids below f.node → IsWaiting ids f top → Waiting ids (below ++ f ∷ []) top
  waiting_pushed ids [] f top waiting is = (is, tt)
  waiting_pushed ids (g ∷ below) f top waiting is =
      (subst (IsWaiting ids g) (sym (first_pushed below f top)) waiting.0, waiting_pushed ids below f top waiting.1 is)

  pub waiting_popped : (ids : List ℕ) (below : List Frame) (f : Frame) (top : Node) → Waiting ids (below ++ f ∷ []) top → Waiting ids below f.node × IsWaiting ids f top
  waiting_popped ids [] f top waiting = (tt, waiting.0)
  waiting_popped ids (g ∷ below) f top waiting =
      let rest = waiting_popped ids below f top waiting.1 in
      ((subst (IsWaiting ids g) (first_pushed below f top) waiting.0, rest.0), rest.1)

  pub waiting_more : (before after : List ℕ) (below : List Frame) (top : Node) → ((id : ℕ) → Contains before id → Contains after id) → Waiting before below top → Waiting after below top
  waiting_more before after [] top more waiting = tt
  waiting_more before after (f ∷ below) top more waiting =
      ((frame_more records before after f more waiting.0.0, waiting.0.1), waiting_more before after below top more waiting.1)

  -- each type of the stack leads to what the top needs
  pub leads : (ids : List ℕ) (below : List Frame) (top : Node) (u v : Use) → Waiting ids below top → OnStack below top u → NeedsUse records (use_of top) v → NeedsThrough records u v
  leads ids [] top u v waiting on needs = NeedsThrough.directly u v (subst (λ (x : Use). NeedsUse records x v) (sym on) needs)
  leads ids (f ∷ below) top u v waiting on needs = elim on [
    | inl is ↦ subst (λ (x : Use). NeedsThrough records x v) (sym is) (NeedsThrough.through (use_of f.node) (use_of (first below top)) v waiting.0.1.needs (leads ids below top (use_of (first below top)) v waiting.1 (first_on below top) needs))
    | inr rest ↦ leads ids below top u v waiting.1 rest needs
  ]

  -- an error at a use of the top is one of the walk
  pub step_error : (ids : List ℕ) (below : List Frame) (top : Node) (p : Progress) (e : BtfError) → Waiting ids below top → ((u : Use) → is_open p u ≡ true → OnStack below top u) → IsStepError records p (use_of top) e → IsOrderError records e
  step_error ids below top p OutOfMemory waiting on is = tt
  step_error ids below top p (UnknownBtfType id) waiting on (behind, used, unknown) =
      record { user = use_of top; behind_pointer = behind; used = used; unknown = unknown }
  step_error ids below top p (MaximumTypeDepthReached id) waiting on (u, needs, here, opened) =
      record { of_id = u; here = here; loop = leads ids below top u u waiting (on u opened) needs }
  step_error ids below top p e waiting on is = absurd is

  -- the walk has no error at its first type
  pub start_error : (root : ℕ) (p : Progress) (e : BtfError) → root < length records → NoneWaits p → IsVisitError records p (by root false) e → IsOrderError records e
  start_error root p OutOfMemory inside none is = tt
  start_error root p (UnknownBtfType id) inside none (same, unknown) =
      let within : id < length records = subst (λ (i : ℕ). i < length records) (sym same) inside in
      absurd (none-some (get_or records id unknown_record) (sym unknown ∙ slice_get-get_or records id unknown_record within))
  start_error root p (MaximumTypeDepthReached id) inside none (u, counts, here, opened) = absurd (true_not_false (sym opened ∙ none.closed u))
  start_error root p e inside none is = absurd is

  -- ---- steps of the walk

  -- the stack when the walk goes down from `after`, which was the top
  pub down_waiting : (before ids : List ℕ) (below pushed : List Frame) (top after : Frame) (node : Node) → ((id : ℕ) → Contains before id → Contains ids id) → after.node ≡ top.node → Waiting before below top.node → IsWalkFrame records ids after
      → GoesTo records after node → pushed ≡ below ++ after ∷ [] → Waiting ids pushed node
  down_waiting before ids below pushed top after node more same waiting frame refers is =
      subst (λ fs. Waiting ids fs node) (sym is)
      (waiting_pushed ids below after node (subst (Waiting ids below) (sym same) (waiting_more before ids below top.node more waiting)) (frame, refers))

  -- the stack when the walk goes up from `top`
  pub up_waiting : (before ids : List ℕ) (below rest : List Frame) (top : Node) (next : Frame) → ((id : ℕ) → Contains before id → Contains ids id) → Waiting before below top → below ≡ rest ++ next ∷ [] → Waiting ids rest next.node × IsWaiting ids next top
  up_waiting before ids below rest top next more waiting is =
      waiting_popped ids rest next top (subst (λ fs. Waiting ids fs top) is (waiting_more before ids below top more waiting))

-- ---- open types

-- the open types when the walk goes down
pub down_open : (before p : Progress) (below pushed : List Frame) (top after : Frame) (node : Node) → after.node ≡ top.node → pushed ≡ below ++ after ∷ []
    → ((u : Use) → is_open before u ≡ true → OnStack below top.node u) → OpensOnly before p (use_of node) → (u : Use) → is_open p u ≡ true → OnStack pushed node u
down_open before p below pushed top after node same is opened opens u e =
    elim (opens u e) [
      | inl was ↦ subst (λ fs. OnStack fs node u) (sym is) (on_pushed below after node u (subst (λ (n : Node). OnStack below n u) (sym same) (opened u was)))
      | inr here ↦ subst (OnStack pushed node) (sym here) (top_on pushed node)
    ]

-- the open types when the walk goes up
pub up_open : (before mid p : Progress) (below rest : List Frame) (top next : Frame) (after : Node) → mid ≡ before → after ≡ top.node → below ≡ rest ++ next ∷ []
    → ((u : Use) → is_open before u ≡ true → OnStack below top.node u) → Closes mid p (use_of after) → (u : Use) → is_open p u ≡ true → OnStack rest next.node u
up_open before mid p below rest top next after same node is opened closes u e =
    let closed = closes u e in
    on_popped rest next top.node u (subst (λ fs. OnStack fs top.node u) is (opened u (ap (λ x. is_open x u) (sym same) ∙ closed.0))) (λ h. closed.1 (h ∙ ap use_of (sym node)))

-- no type is open after the last one
pub none_left : (before mid p : Progress) (below : List Frame) (top : Frame) (after : Node) → mid ≡ before → after ≡ top.node → below ≡ []
    → ((u : Use) → is_open before u ≡ true → OnStack below top.node u) → Closes mid p (use_of after) → NoneWaits p
none_left before mid p below top after same node is opened closes = record { closed = λ u. not_behind (is_open p u) (never u) } where
  never : (u : Use) → is_open p u ≡ true → ⊥
  never u e =
      let closed = closes u e in
      closed.1 (subst (λ fs. OnStack fs top.node u) is (opened u (ap (λ x. is_open x u) (sym same) ∙ closed.0)) ∙ ap use_of (sym node))

pub down_bottom : (below pushed : List Frame) (top after : Frame) (node bottom : Node) → after.node ≡ top.node → pushed ≡ below ++ after ∷ [] → first below top.node ≡ bottom → first pushed node ≡ bottom
down_bottom below pushed top after node bottom same is at = ap (λ fs. first fs node) is ∙ first_pushed below after node ∙ ap (first below) same ∙ at

pub up_bottom : (below rest : List Frame) (top : Node) (next g : Frame) (bottom : Node) → below ≡ rest ++ next ∷ [] → g.node ≡ next.node → first below top ≡ bottom → first rest g.node ≡ bottom
up_bottom below rest top next g bottom is same at = ap (first rest) same ∙ sym (first_pushed rest next top) ∙ ap (λ fs. first fs top) (sym is) ∙ at
