-- Every comparison has an answer, in tables whose records have kinds.
use Rattle.std.proofs.Common.{◌≡◌, ◌≢◌, ℕ, zero, suc, List, [], ◌∷◌, ◌++◌, length, refl, ap, subst, arith, inl, inr, Bool, true, false, Option, Some, None, Result, Ok, Err, Contains, slice_get}
use Rattle.std.specs.Prelude.{◌⊎◌}
use Rattle.std.specs.Result.{result_ok}
use Rattle.std.proofs.lemmas.Bool.{false≢true}
use Rattle.std.proofs.lemmas.Option.{none-some, same_Some}
use Rattle.btf_model.specs.Record.{Record, Kind, compared_kind}
use Rattle.btf_model.specs.Refusal.{Refusal, UnknownBtfType, MaximumTypeDepthReached}
use Rattle.btf_model.specs.Table.{Table}
use Rattle.btf_model.specs.Walk.{walk_limit}
use Rattle.btf_model.specs.Fields.{Pair, HaveKinds}
use Rattle.btf_model.specs.Compat.{Position, Decided, On, Pending, ResolvesPair, Finds, AreKnown, Plain, Walked, ComparedInOrder}
use Rattle.btf_model.proofs.SameKinds.{same_kind_or_not}
use Rattle.btf_model.proofs.Comparisons.{pair_answer, position_answer}
use Rattle.btf_model.proofs.Known.{Among, HasIds, Covers, known_pairs, known_pairs_cover, without, still_covers, open_or_not}

-- an answer is true, or it is not
pub true_or_not : (answer : Result Bool Refusal) → (answer ≡ Ok true) ⊎ (answer ≢ Ok true)
true_or_not (Ok true) = inl refl
true_or_not (Ok false) = inr (λ e. false≢true (same_Some false true (ap result_ok e)))
true_or_not (Err refusal) = inr (λ e. none-some true (ap result_ok e))

module _ (local target : Table) where
  abbrev pub HasPlain : List Pair → Pair → Type 0
  HasPlain above p = (answer : Result Bool Refusal) × (starts : List Pair) × Plain local target above p answer starts

  abbrev pub HasWalked : List Pair → ℕ → Pair → Type 0
  HasWalked above n at = (answer : Result Bool Refusal) × (starts : List Pair) × Walked local target above n at answer starts

  abbrev pub HasCompared : List Pair → List Pair → Type 0
  HasCompared above pending = (answer : Result Bool Refusal) × (starts : List Pair) × ComparedInOrder local target above pending answer starts

  -- ---- pending pairs of parameters

  pay_next : (above : List Pair) (at p : Pair) (pending : List Pair) → ResolvesPair local target at (Ok p) → HasPlain above p → HasCompared above pending → HasCompared above (at ∷ pending)
  pay_next above at p pending resolved first behind =
      elim (true_or_not first.0) [
        | inl is ↦ (behind.0, first.1 ++ behind.1, ComparedInOrder.next above at p pending behind.0 first.1 behind.1 resolved (subst (λ (x : Result Bool Refusal). Plain local target above p x first.1) is first.2) behind.2)
        | inr not_true ↦ (first.0, first.1, ComparedInOrder.other above at p pending first.0 first.1 resolved first.2 not_true)
      ]

  pay_by : (above : List Pair) (at : Pair) (pending : List Pair) (a : Result Pair Refusal) → ResolvesPair local target at a → ((p : Pair) → HasPlain above p) → HasCompared above pending → HasCompared above (at ∷ pending)
  pay_by above at pending (Err refusal) resolved plain behind = (Err refusal, [], ComparedInOrder.unresolved above at pending refusal resolved)
  pay_by above at pending (Ok p) resolved plain behind = pay_next above at p pending resolved (plain p) behind

  compared_by : (above pending : List Pair) → ((p : Pair) → HasPlain above p) → HasCompared above pending
  compared_by above [] plain = (Ok true, [], ComparedInOrder.all above)
  compared_by above (at ∷ pending) plain = pay_by above at pending (pair_answer local target at).0 (pair_answer local target at).1 plain (compared_by above pending plain)

  -- ---- walks

  pay_and_go : (above : List Pair) (n : ℕ) (at to : Pair) (pending : List Pair) → Finds local target at (Pending pending to) → HasCompared above pending → HasWalked above n to → HasWalked above (suc n) at
  pay_and_go above n at to pending found first behind =
      elim (true_or_not first.0) [
        | inl is ↦ (behind.0, first.1 ++ behind.1, Walked.compared above n at to pending behind.0 first.1 behind.1 found (subst (λ (x : Result Bool Refusal). ComparedInOrder local target above pending x first.1) is first.2) behind.2)
        | inr not_true ↦ (first.0, first.1, Walked.not_compatible above n at to pending first.0 first.1 found first.2 not_true)
      ]

  walk_by : (above : List Pair) (n : ℕ) (at : Pair) (found : Position) → Finds local target at found → ((p : Pair) → HasPlain above p) → ((to : Pair) → HasWalked above n to) → HasWalked above (suc n) at
  walk_by above n at (Decided answer) found plain behind = (answer, [], Walked.decided above n at answer found)
  walk_by above n at (On to) found plain behind = ((behind to).0, (behind to).1, Walked.on above n at to (behind to).0 (behind to).1 found (behind to).2)
  walk_by above n at (Pending pending to) found plain behind = pay_and_go above n at to pending found (compared_by above pending plain) (behind to)

  walked_by : (above : List Pair) (n : ℕ) (at : Pair) → HaveKinds local → HaveKinds target → ((p : Pair) → HasPlain above p) → HasWalked above n at
  walked_by above zero at ls ts plain = (Err (MaximumTypeDepthReached at.local), [], Walked.too_deep above at)
  walked_by above (suc n) at ls ts plain = walk_by above n at (position_answer local target at ls ts).0 (position_answer local target at ls ts).1 plain (λ to. walked_by above n to ls ts plain)

  -- ---- pairs

  start : (above : List Pair) (p : Pair) (k q : Kind) → ¬ (Contains above p) → AreKnown local target p k q → HasWalked (p ∷ above) walk_limit p → HasPlain above p
  start above p k q new known behind =
      elim (same_kind_or_not (compared_kind k) (compared_kind q)) [
        | inl same ↦ (behind.0, p ∷ behind.1, Plain.walked above p k q behind.0 behind.1 new known same behind.2)
        | inr differ ↦ (Ok false, p ∷ [], Plain.kinds_differ above p k q new known differ)
      ]

  -- a pair that is not open is looked up
  look_up : (above : List Pair) (p : Pair) (o u : Option Record) → slice_get local.records p.local ≡ o → slice_get target.records p.target ≡ u → HaveKinds local → HaveKinds target → ¬ (Contains above p)
      → (HasIds local target p → HasWalked (p ∷ above) walk_limit p) → HasPlain above p
  look_up above p None u here there ls ts new behind = (Err (UnknownBtfType p.local), [], Plain.no_local above p new here)
  look_up above p (Some r) None here there ls ts new behind = (Err (UnknownBtfType p.target), [], Plain.no_target above p r new here there)
  look_up above p (Some r) (Some s) here there ls ts new behind =
      let k = ls p.local r here in
      let q = ts p.target s there in
      start above p k.0 q.0 new (r, s, (here, k.1), (there, q.1)) (behind (r, s, here, there))

  plain_by : (above : List Pair) (p : Pair) → HaveKinds local → HaveKinds target → (¬ (Contains above p) → HasIds local target p → HasWalked (p ∷ above) walk_limit p) → HasPlain above p
  plain_by above p ls ts behind =
      elim (open_or_not above p) [
        | inl open_above ↦ (Err (MaximumTypeDepthReached p.local), [], Plain.again above p open_above)
        | inr new ↦ look_up above p (slice_get local.records p.local) (slice_get target.records p.target) refl refl ls ts new (behind new)
      ]

  -- each pair that is opened is one of the rest, whose number is given
  its_place : (above rest : List Pair) (p : Pair) → Covers local target rest above → ¬ (Contains above p) → HasIds local target p → Among rest p
  its_place above rest p covers new known = elim (covers p known) [ inl h ↦ absurd (new h) | inr m ↦ m ]

  none_left : (rest : List Pair) (p : Pair) → length rest ≡ zero → Among rest p → ⊥
  none_left [] p none m = m
  none_left (q ∷ rest) p none m = omega (arith, none)

  plain_within : (n : ℕ) (above rest : List Pair) (p : Pair) → length rest ≡ n → Covers local target rest above → HaveKinds local → HaveKinds target → HasPlain above p
  plain_within zero above rest p size covers ls ts = plain_by above p ls ts (λ new known. absurd (none_left rest p size (its_place above rest p covers new known)))
  plain_within (suc n) above rest p size covers ls ts =
      plain_by above p ls ts (λ new known.
      let fewer = without rest p (its_place above rest p covers new known) in
      walked_by (p ∷ above) walk_limit p ls ts (λ q. plain_within n (p ∷ above) fewer.rest q (omega (arith, size, fewer.shorter)) (still_covers local target above rest p fewer covers) ls ts))

  -- each comparison, each walk and each list of pending pairs has an answer
  pub plain_answers : HaveKinds local → HaveKinds target → (above : List Pair) (p : Pair) → HasPlain above p
  plain_answers ls ts above p = plain_within (length (known_pairs local target)) above (known_pairs local target) p refl (known_pairs_cover local target above) ls ts

  pub walked_answers : HaveKinds local → HaveKinds target → (above : List Pair) (n : ℕ) (at : Pair) → HasWalked above n at
  walked_answers ls ts above n at = walked_by above n at ls ts (λ p. plain_answers ls ts above p)

  pub compared_answers : HaveKinds local → HaveKinds target → (above pending : List Pair) → HasCompared above pending
  compared_answers ls ts above pending = compared_by above pending (λ p. plain_answers ls ts above p)
