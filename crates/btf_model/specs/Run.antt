-- A run of the comparison of types: the open pairs, each with the position of its walk, and the next step of one. The
-- words are those of Compat: `Pending` gives pending parameter pairs, and a parameter "comes next" when it is the one
-- to compare.
use Rattle.std.specs.Prelude.{◌≡◌, ◌⊎◌, ℕ, zero, suc, ◌≤◌, Bool, List, length, slice_get, Some, Result, Ok, Err}
use Rattle.btf_model.specs.Record.{Kind, compared_kind}
use Rattle.btf_model.specs.Refusal.{Refusal, MaximumTypeDepthReached}
use Rattle.btf_model.specs.Table.{Table}
use Rattle.btf_model.specs.Walk.{walk_limit}
use Rattle.btf_model.specs.Fields.{Pair}
use Rattle.btf_model.specs.Compat.{Decided, On, Pending, ResolvesPair, Finds, AreKnown}

-- An open pair: the position of its walk, the number of positions left, and the index of the next parameter to compare.
pub record Frame : Type 0 where
  pub pair : Pair
  pub at : Pair
  pub left : ℕ
  pub parameter : ℕ

-- the frame of a pair whose walk begins
abbrev pub new_frame : Pair → Frame
new_frame p = record { pair = p; at = p; left = walk_limit; parameter = zero }

-- The next step of an open pair: its walk ends, its walk goes on, or it waits until another pair is compared.
pub data Next : Type 0 where
  Ends : Result Bool Refusal → Next
  GoesOn : Frame → Next
  Waits : Pair → Frame → Next

module _ (local target : Table) where
  -- the next pair of parameters resolves to a, and `to` is the position after all parameters
  abbrev pub NextPending : Frame → List Pair → Pair → Result Pair Refusal → Type 0
  NextPending f pending to a =
      Finds local target f.at (Pending pending to)
      × ((at : Pair) × (slice_get pending f.parameter ≡ Some at) × ResolvesPair local target at a)

  -- This is the next step of an open pair.
  abbrev pub IsNext : Frame → Next → Type 0
  IsNext f (Ends answer) =
      ((f.left ≡ zero) × (answer ≡ Err (MaximumTypeDepthReached f.at.local)))
      ⊎ ((n : ℕ) × (f.left ≡ suc n) × (Finds local target f.at (Decided answer)
      ⊎ ((pending : List Pair) × (to : Pair) × (refusal : Refusal) × NextPending f pending to (Err refusal)
      × (answer ≡ Err refusal))))
  IsNext f (GoesOn g) =
      (n : ℕ) × (to : Pair) × (f.left ≡ suc n) × (g ≡ record { pair = f.pair; at = to; left = n; parameter = zero })
      × (Finds local target f.at (On to)
      ⊎ ((pending : List Pair) × Finds local target f.at (Pending pending to) × (length pending ≤ f.parameter)))
  IsNext f (Waits p g) =
      (n : ℕ) × (pending : List Pair) × (to : Pair) × (f.left ≡ suc n) × NextPending f pending to (Ok p)
      × (g ≡ record f { parameter = suc f.parameter })

  -- both ids of the pair are known, and their kinds are compatible
  abbrev pub Begins : Pair → Type 0
  Begins p = (k q : Kind) × AreKnown local target p k q × (compared_kind k ≡ compared_kind q)
