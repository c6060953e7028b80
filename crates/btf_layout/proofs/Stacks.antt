-- The stack of open types.
use Rattle.std.proofs.Common.{◌≡◌, ◌≢◌, ◌<◌, ◌⊎◌, ◌==◌, ◌||◌, ℕ, Bool, true, List, [], ◌∷◌, ◌++◌, length, refl, sym, subst, inl, inr}
use Rattle.std.proofs.lemmas.Bool.{eqb-true, eq-eqb, or_left, or_right}
use Rattle.btf_model.specs.Record.{Record}
use Rattle.btf_layout_model.specs.Alignment.{Needs, IsEndless}
use Rattle.btf_layout.specs.declared.frame.Frame.{Frame}
use Rattle.btf_layout.specs.Frame.{IsMemberFrame}
use Rattle.btf_layout.proofs.Knowing.{or_cases}

-- whether a type is on the stack, whose last type is `top`
abbrev pub on_stack : List Frame → ℕ → ℕ → Bool
on_stack [] top id = id == top
on_stack (f ∷ below) top id = id == f.id || on_stack below top id

-- the first type of the stack
abbrev pub first : List Frame → ℕ → ℕ
first [] top = top
first (f ∷ below) top = f.id

pub top_on_stack : (below : List Frame) (top : ℕ) → on_stack below top top ≡ true
top_on_stack [] top = eq-eqb top top refl
top_on_stack (f ∷ below) top = or_right (top == f.id) (on_stack below top top) (top_on_stack below top)

first_on_stack : (below : List Frame) (top : ℕ) → on_stack below top (first below top) ≡ true
first_on_stack [] top = eq-eqb top top refl
first_on_stack (f ∷ below) top = or_left (f.id == f.id) (on_stack below top f.id) (eq-eqb f.id f.id refl)

-- a type stays on the stack when another is pushed
pub pushed : (below : List Frame) (top : Frame) (next id : ℕ) → on_stack below top.id id ≡ true → on_stack (below ++ top ∷ []) next id ≡ true
pushed [] top next id h = or_left (id == top.id) (id == next) h
pushed (f ∷ below) top next id h =
    elim (or_cases (id == f.id) (on_stack below top.id id) h) [
      | inl e ↦ or_left (id == f.id) (on_stack (below ++ top ∷ []) next id) e
      | inr e ↦ or_right (id == f.id) (on_stack (below ++ top ∷ []) next id) (pushed below top next id e)
    ]

-- only the top leaves the stack when it is popped
pub popped : (below : List Frame) (f : Frame) (top id : ℕ) → id ≢ top → on_stack (below ++ f ∷ []) top id ≡ true → on_stack below f.id id ≡ true
popped [] f top id ne h = elim (or_cases (id == f.id) (id == top) h) [ inl e ↦ e | inr e ↦ absurd (ne (eqb-true id top e)) ]
popped (g ∷ below) f top id ne h =
    elim (or_cases (id == g.id) (on_stack (below ++ f ∷ []) top id) h) [
      | inl e ↦ or_left (id == g.id) (on_stack below f.id id) e
      | inr e ↦ or_right (id == g.id) (on_stack below f.id id) (popped below f top id ne e)
    ]

module _ (records : List Record) where
  -- each type of the stack needs the type after it
  abbrev pub Chain : List Frame → ℕ → Type 0
  Chain [] top = Unit {0}
  Chain (f ∷ below) top = Needs records f.id (first below top) × Chain below top

  first_pushed : (below : List Frame) (top : Frame) (next : ℕ) → first (below ++ top ∷ []) next ≡ first below top.id
  first_pushed [] top next = refl
  first_pushed (f ∷ below) top next = refl

  pub chain_pushed : (below : List Frame) (top : Frame) (next : ℕ) → Chain below top.id → Needs records top.id next → Chain (below ++ top ∷ []) next
  chain_pushed [] top next chain needs = (needs, tt)
  chain_pushed (f ∷ below) top next chain needs =
      (subst (Needs records f.id) (sym (first_pushed below top next)) chain.0, chain_pushed below top next chain.1 needs)

  pub chain_popped : (below : List Frame) (f : Frame) (top : ℕ) → Chain (below ++ f ∷ []) top → Chain below f.id
  chain_popped [] f top chain = tt
  chain_popped (g ∷ below) f top chain =
      (subst (Needs records g.id) (first_pushed below f top) chain.0, chain_popped below f top chain.1)

  -- each type of the stack but the last needs a type of the stack
  after : (below : List Frame) (top id : ℕ) → Chain below top → on_stack below top id ≡ true → (id ≡ top) ⊎ ((type : ℕ) × Needs records id type × (on_stack below top type ≡ true))
  after [] top id chain h = inl (eqb-true id top h)
  after (f ∷ below) top id chain h =
      elim (or_cases (id == f.id) (on_stack below top id) h) [
        | inl e ↦ inr (first below top, subst (λ (x : ℕ). Needs records x (first below top)) (sym (eqb-true id f.id e)) chain.0, or_right (first below top == f.id) (on_stack below top (first below top)) (first_on_stack below top))
        | inr e ↦ elim (after below top id chain.1 e) [
          | inl same ↦ inl same
          | inr found ↦ inr (found.0, found.1, or_right (found.0 == f.id) (on_stack below top found.0) found.2)
        ]
      ]

  -- a type that comes back to an open type contains itself
  pub comes_back : (below : List Frame) (top type : ℕ) → Chain below top → Needs records top type → on_stack below top type ≡ true → IsEndless records top
  comes_back below top type chain needs back = (on_stack below top, top_on_stack below top, λ id h. by id (after below top id chain h)) where
    by : (id : ℕ) → (id ≡ top) ⊎ ((next : ℕ) × Needs records id next × (on_stack below top next ≡ true)) → (next : ℕ) × Needs records id next × (on_stack below top next ≡ true)
    by id (inl same) = (type, subst (λ (x : ℕ). Needs records x type) (sym same) needs, back)
    by id (inr found) = found

  -- what is known of the types of the stack below the top
  abbrev pub Frames : List Frame → Type 0
  Frames [] = Unit {0}
  Frames (f ∷ below) = IsMemberFrame records f × (f.id < length records) × Frames below

  pub frames_pushed : (below : List Frame) (f : Frame) → Frames below → IsMemberFrame records f → f.id < length records → Frames (below ++ f ∷ [])
  frames_pushed [] f frames is lt = (is, lt, tt)
  frames_pushed (g ∷ below) f frames is lt = (frames.0, frames.1, frames_pushed below f frames.2 is lt)

  pub frames_popped : (below : List Frame) (f : Frame) → Frames (below ++ f ∷ []) → Frames below × IsMemberFrame records f × (f.id < length records)
  frames_popped [] f frames = (tt, frames.0, frames.1)
  frames_popped (g ∷ below) f frames =
      let rest = frames_popped below f frames.2 in
      ((frames.0, frames.1, rest.0), rest.1, rest.2)
