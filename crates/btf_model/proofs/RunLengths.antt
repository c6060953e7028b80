-- A bound for the length of a run of the comparison: each step leaves less to do.
use Rattle.std.proofs.Common.{◌≡◌, ℕ, zero, suc, ◌+◌, ◌*◌, ◌-◌, ◌<◌, ◌≤◌, List, [], ◌∷◌, length, ap, inl, inr, Bool, true, false, Some, Ok, arith, slice_get}
use Rattle.std.specs.Prelude.{◌==◌, if◌then◌else◌}
use Rattle.std.proofs.lemmas.Option.{same_Some, slice_get_within}
use Rattle.btf_model.specs.Record.{Record, Kind, Unknown, Int, Ptr, Array, Struct, Union, Enum, Fwd, Typedef, Volatile, Const, Restrict, Func, FuncProto, Var, DataSec, Float, DeclTag, TypeTag, Enum64}
use Rattle.btf_model.specs.Table.{Table}
use Rattle.btf_model.specs.Fields.{Pair}
use Rattle.btf_model.specs.Compat.{Position, Decided, On, Pending, Finds, parameter_types, pairs, position_by, PositionFound}
use Rattle.btf_model.specs.Run.{Frame, new_frame, GoesOn, Waits, IsNext}

-- ---- how many parameters a prototype has

-- more words than any record has after its third
abbrev pub widest : List Record → ℕ
widest [] = 0
widest (r ∷ rs) = length r.tail + widest rs

tail_within : (rs : List Record) (id : ℕ) (r : Record) → slice_get rs id ≡ Some r → length r.tail ≤ widest rs
tail_within [] id r is = absurd (omega (arith, slice_get_within [] id r is))
tail_within (s ∷ rs) zero r is = omega (arith, ap (λ (x : Record). length x.tail) (same_Some s r is))
tail_within (s ∷ rs) (suc id) r is = omega (arith, tail_within rs id r is)

-- the pending pairs of parameters at a position
abbrev pub pending_at : Position → List Pair
pending_at (Decided answer) = []
pending_at (On to) = []
pending_at (Pending pending to) = pending

length-parameter_types : (words : List ℕ) → length (parameter_types words) ≤ length words
length-parameter_types [] = omega arith
length-parameter_types (name ∷ []) = omega arith
length-parameter_types (name ∷ type ∷ words) = omega (arith, length-parameter_types words)

length-pairs : (ids others : List ℕ) → length (pairs ids others) ≤ length ids
length-pairs [] others = omega arith
length-pairs (id ∷ ids) [] = omega arith
length-pairs (id ∷ ids) (other ∷ others) = omega (arith, length-pairs ids others)

few_pending_if : (b : Bool) (r : Record) (pending : List Pair) (to : Pair) → length pending ≤ length r.tail → length (pending_at (if b then Pending pending to else Decided (Ok false))) ≤ length r.tail
few_pending_if true r pending to le = le
few_pending_if false r pending to le = omega arith

few_pending_by : (id : ℕ) (k : Kind) (r s : Record) → length (pending_at (position_by id k r s)) ≤ length r.tail
few_pending_by id FuncProto r s =
    few_pending_if (length (parameter_types r.tail) == length (parameter_types s.tail)) r (pairs (parameter_types r.tail) (parameter_types s.tail)) (record { local = r.third; target = s.third })
    (omega (arith, length-pairs (parameter_types r.tail) (parameter_types s.tail), length-parameter_types r.tail))
few_pending_by id Unknown r s = omega arith
few_pending_by id Int r s = omega arith
few_pending_by id Ptr r s = omega arith
few_pending_by id Array r s = omega arith
few_pending_by id Struct r s = omega arith
few_pending_by id Union r s = omega arith
few_pending_by id Enum r s = omega arith
few_pending_by id Fwd r s = omega arith
few_pending_by id Typedef r s = omega arith
few_pending_by id Volatile r s = omega arith
few_pending_by id Const r s = omega arith
few_pending_by id Restrict r s = omega arith
few_pending_by id Func r s = omega arith
few_pending_by id Var r s = omega arith
few_pending_by id DataSec r s = omega arith
few_pending_by id Float r s = omega arith
few_pending_by id DeclTag r s = omega arith
few_pending_by id TypeTag r s = omega arith
few_pending_by id Enum64 r s = omega arith

few_pending_found : (id : ℕ) (k q : Kind) (r s : Record) (found : Position) → PositionFound id k q r s found → length (pending_at found) ≤ length r.tail
few_pending_found id k q r s found (inl h) = omega (arith, ap (λ (x : Position). length (pending_at x)) h.1)
few_pending_found id k q r s found (inr h) = omega (arith, ap (λ (x : Position). length (pending_at x)) h.1, few_pending_by id k r s)

-- the number of pending pairs is at most the number of words of the widest record
pub few_pending : (local target : Table) (at : Pair) (found : Position) → Finds local target at found → length (pending_at found) ≤ widest local.records
few_pending local target at found (inl h) = omega (arith, ap (λ (x : Position). length (pending_at x)) h.2)
few_pending local target at found (inr h) = omega (arith, few_pending_found h.0.local h.1 h.2 h.3 h.4 found h.8, tail_within local.records h.0.local h.3 h.6.0)

-- ---- what is left to do

-- in the walk of one pair, if no prototype has more than w parameters
abbrev pub work : ℕ → Frame → ℕ
work w f = f.left * suc w + (w - f.parameter) + 1

abbrev pub works : ℕ → List Frame → ℕ
works w [] = 0
works w (f ∷ fs) = work w f + works w fs

-- in the run: a whole walk for each pair that is not listed yet, and the rest of each walk that began
abbrev pub left_to_do : (known listed w : ℕ) → Frame → List Frame → ℕ
left_to_do known listed w top below = (known - listed) * (33 * suc w) + work w top + works w below

fewer_positions : (n w j : ℕ) → n * suc w + (w - 0) + 1 < suc n * suc w + (w - j) + 1
fewer_positions n w j = omega arith

fewer_pairs : (known listed w new done old : ℕ) → listed < known → done < old → new ≡ 33 * suc w → (known - (listed + 1)) * (33 * suc w) + new + done < (known - listed) * (33 * suc w) + old
fewer_pairs known listed w new done old lt less is =
    let one : known - listed ≡ suc (known - (listed + 1)) = omega arith in
    rw (one, is) (omega (arith, less))

module _ (local target : Table) where
  on_is_less : (w : ℕ) (f g : Frame) → IsNext local target f (GoesOn g) → work w g < work w f
  on_is_less w f g next =
      let left : g.left ≡ next.0 = ap (λ (x : Frame). x.left) next.3 in
      let parameter : g.parameter ≡ 0 = ap (λ (x : Frame). x.parameter) next.3 in
      let was : f.left ≡ suc next.0 = next.2 in
      rw (left, parameter, was) (fewer_positions next.0 w f.parameter)

  waits_is_less : (f g : Frame) (p : Pair) → IsNext local target f (Waits p g) → work (widest local.records) g < work (widest local.records) f
  waits_is_less f g p next =
      let left : g.left ≡ f.left = ap (λ (x : Frame). x.left) next.5 in
      let parameter : g.parameter ≡ suc f.parameter = ap (λ (x : Frame). x.parameter) next.5 in
      let is_pending = next.4 in
      let few : length next.1 ≤ widest local.records = few_pending local target f.at (Pending next.1 next.2) is_pending.0 in
      let lt : f.parameter < length next.1 = slice_get_within next.1 f.parameter is_pending.1.0 is_pending.1.1 in
      rw (left, parameter) (omega (arith, few, lt))

  pub less_on : (known listed w : ℕ) (f g : Frame) (below : List Frame) → IsNext local target f (GoesOn g) → left_to_do known listed w g below < left_to_do known listed w f below
  less_on known listed w f g below next = omega (arith, on_is_less w f g next)

  -- a walk that goes on without its parameters
  pub less_passed : (known listed w n : ℕ) (f : Frame) (to : Pair) (below : List Frame) → f.left ≡ suc n → left_to_do known listed w (record { pair = f.pair; at = to; left = n; parameter = zero }) below < left_to_do known listed w f below
  less_passed known listed w n f to below left = rw left (omega (arith, fewer_positions n w f.parameter))

  pub less_compared : (known listed : ℕ) (f g : Frame) (p : Pair) (below : List Frame) → IsNext local target f (Waits p g) → left_to_do known listed (widest local.records) g below < left_to_do known listed (widest local.records) f below
  less_compared known listed f g p below next = omega (arith, waits_is_less f g p next)

  pub less_started : (known listed : ℕ) (f g : Frame) (p : Pair) (below : List Frame) → IsNext local target f (Waits p g) → listed < known → left_to_do known (listed + 1) (widest local.records) (new_frame p) (g ∷ below) < left_to_do known listed (widest local.records) f below
  less_started known listed f g p below next lt =
      let w = widest local.records in
      let new : work w (new_frame p) ≡ 33 * suc w = omega arith in
      omega (arith, fewer_pairs known listed w (work w (new_frame p)) (work w g) (work w f) lt (waits_is_less f g p next) new)

  pub less_settled : (known listed w : ℕ) (f g : Frame) (below : List Frame) → left_to_do known listed w g below < left_to_do known listed w f (g ∷ below)
  less_settled known listed w f g below = omega arith
