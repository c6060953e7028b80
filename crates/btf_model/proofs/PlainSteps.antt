-- Inversion of one step of a comparison: what was found determines the premises of its answer.
use Rattle.std.proofs.Common.{◌≡◌, ◌≢◌, ℕ, suc, List, [], ◌∷◌, ◌++◌, refl, sym, subst, inl, inr, Bool, true, false, Option, Some, None, Result, Ok, Err, Contains, slice_get}
use Rattle.std.specs.Prelude.{◌⊎◌}
use Rattle.btf_model.specs.Record.{Record, Kind, compared_kind, kind_of}
use Rattle.btf_model.specs.Refusal.{Refusal, UnknownBtfType, MaximumTypeDepthReached}
use Rattle.btf_model.specs.Table.{Table}
use Rattle.btf_model.specs.Walk.{walk_limit}
use Rattle.btf_model.specs.Fields.{Pair}
use Rattle.btf_model.specs.Compat.{Position, Decided, On, Pending, ResolvesPair, Finds, AreKnown, Plain, Walked, ComparedInOrder}
use Rattle.btf_model.proofs.Comparisons.{one_position, one_resolved}

-- the answer and the starts are these
abbrev pub Are : Result Bool Refusal → List Pair → Result Bool Refusal → List Pair → Type 0
Are a s b t = (a ≡ b) × (s ≡ t)

module _ (local target : Table) where
  -- ---- a walk

  -- the premises of a walk from a position, by what is found there
  abbrev pub Follows : List Pair → ℕ → Position → Result Bool Refusal → List Pair → Type 0
  Follows above n (Decided a) b t = Are b t a []
  Follows above n (On to) b t = Walked local target above n to b t
  Follows above n (Pending pending to) b t =
      ((first behind : List Pair) × ComparedInOrder local target above pending (Ok true) first × Walked local target above n to b behind × (t ≡ first ++ behind)) ⊎ (ComparedInOrder local target above pending b t × (b ≢ Ok true))

  walked_finds : (above : List Pair) (n : ℕ) (at : Pair) (b : Result Bool Refusal) (t : List Pair) → Walked local target above (suc n) at b t → (found : Position) × Finds local target at found × Follows above n found b t
  walked_finds above n at b t (Walked.decided _ _ _ answer found) = (Decided answer, found, (refl, refl))
  walked_finds above n at b t (Walked.on _ _ _ to answer starts found behind) = (On to, found, behind)
  walked_finds above n at b t (Walked.compared _ _ _ to pending answer first behind found compares_all goes) = (Pending pending to, found, inl (first, behind, compares_all, goes, refl))
  walked_finds above n at b t (Walked.not_compatible _ _ _ to pending answer starts found compares_all not_true) = (Pending pending to, found, inr (compares_all, not_true))

  -- a walk has these premises
  pub walked_follows : (above : List Pair) (n : ℕ) (at : Pair) (found : Position) (b : Result Bool Refusal) (t : List Pair) → Finds local target at found → Walked local target above (suc n) at b t → Follows above n found b t
  walked_follows above n at found b t is h =
      let step = walked_finds above n at b t h in
      subst (λ (x : Position). Follows above n x b t) (one_position local target at step.0 found step.1 is) step.2

  -- ---- pending pairs of parameters

  -- the premises of the first pending pair, by what it resolves to
  abbrev pub ComparesAll : List Pair → List Pair → Result Pair Refusal → Result Bool Refusal → List Pair → Type 0
  ComparesAll above pending (Err refusal) b t = Are b t (Err refusal) []
  ComparesAll above pending (Ok p) b t =
      ((first behind : List Pair) × Plain local target above p (Ok true) first × ComparedInOrder local target above pending b behind × (t ≡ first ++ behind)) ⊎ (Plain local target above p b t × (b ≢ Ok true))

  pub compared_none : (above : List Pair) (b : Result Bool Refusal) (t : List Pair) → ComparedInOrder local target above [] b t → Are b t (Ok true) []
  compared_none above b t (ComparedInOrder.all _) = (refl, refl)

  compared_resolves : (above : List Pair) (at : Pair) (pending : List Pair) (b : Result Bool Refusal) (t : List Pair) → ComparedInOrder local target above (at ∷ pending) b t → (a : Result Pair Refusal) × ResolvesPair local target at a × ComparesAll above pending a b t
  compared_resolves above at pending b t (ComparedInOrder.unresolved _ _ _ refusal resolved) = (Err refusal, resolved, (refl, refl))
  compared_resolves above at pending b t (ComparedInOrder.other _ _ p _ answer starts resolved plain not_true) = (Ok p, resolved, inr (plain, not_true))
  compared_resolves above at pending b t (ComparedInOrder.next _ _ p _ answer first behind resolved plain compares_all) = (Ok p, resolved, inl (first, behind, plain, compares_all, refl))

  pub paid_follows : (above : List Pair) (at : Pair) (pending : List Pair) (a : Result Pair Refusal) (b : Result Bool Refusal) (t : List Pair) → ResolvesPair local target at a → ComparedInOrder local target above (at ∷ pending) b t → ComparesAll above pending a b t
  paid_follows above at pending a b t is h =
      let step = compared_resolves above at pending b t h in
      subst (λ (x : Result Pair Refusal). ComparesAll above pending x b t) (one_resolved local target at step.0 a step.1 is) step.2

  -- ---- a pair

  -- the premises of a pair that is started, by the kinds
  abbrev pub Starts : List Pair → Pair → Kind → Kind → Result Bool Refusal → List Pair → Type 0
  Starts above p k q b t =
      ((compared_kind k ≢ compared_kind q) × Are b t (Ok false) (p ∷ [])) ⊎ ((compared_kind k ≡ compared_kind q) × (starts : List Pair) × Walked local target (p ∷ above) walk_limit p b starts × (t ≡ p ∷ starts))

  abbrev pub StartsBy : List Pair → Pair → Option Kind → Option Kind → Result Bool Refusal → List Pair → Type 0
  StartsBy above p (Some k) (Some q) b t = Starts above p k q b t
  StartsBy above p (Some k) None b t = ⊥
  StartsBy above p None q b t = ⊥

  -- the premises of a pair that is looked up, by its records
  abbrev pub LookedUp : List Pair → Pair → Option Record → Option Record → Result Bool Refusal → List Pair → Type 0
  LookedUp above p None s b t = Are b t (Err (UnknownBtfType p.local)) []
  LookedUp above p (Some r) None b t = Are b t (Err (UnknownBtfType p.target)) []
  LookedUp above p (Some r) (Some s) b t = StartsBy above p (kind_of r.info) (kind_of s.info) b t

  -- the premises of any pair
  abbrev pub Compares : List Pair → Pair → Result Bool Refusal → List Pair → Type 0
  Compares above p b t =
      (Contains above p × Are b t (Err (MaximumTypeDepthReached p.local)) []) ⊎ (¬ (Contains above p) × LookedUp above p (slice_get local.records p.local) (slice_get target.records p.target) b t)

  looked_up : (above : List Pair) (p : Pair) (o u : Option Record) (b : Result Bool Refusal) (t : List Pair) → slice_get local.records p.local ≡ o → slice_get target.records p.target ≡ u → LookedUp above p o u b t → LookedUp above p (slice_get local.records p.local) (slice_get target.records p.target) b t
  looked_up above p o u b t is there h = subst (λ (x : Option Record). LookedUp above p x (slice_get target.records p.target) b t) (sym is) (subst (λ (x : Option Record). LookedUp above p o x b t) (sym there) h)

  starts_by : (above : List Pair) (p : Pair) (k q : Kind) (o u : Option Kind) (b : Result Bool Refusal) (t : List Pair) → o ≡ Some k → u ≡ Some q → Starts above p k q b t → StartsBy above p o u b t
  starts_by above p k q o u b t is there h = subst (λ (x : Option Kind). StartsBy above p x u b t) (sym is) (subst (λ (x : Option Kind). StartsBy above p (Some k) x b t) (sym there) h)

  pub compares : (above : List Pair) (p : Pair) (b : Result Bool Refusal) (t : List Pair) → Plain local target above p b t → Compares above p b t
  compares above p b t (Plain.again _ _ is_open) = inl (is_open, (refl, refl))
  compares above p b t (Plain.no_local _ _ new here) = inr (new, looked_up above p None (slice_get target.records p.target) b t here refl (refl, refl))
  compares above p b t (Plain.no_target _ _ r new here there) = inr (new, looked_up above p (Some r) None b t here there (refl, refl))
  compares above p b t (Plain.kinds_differ _ _ k q new known differ) =
      inr (new, looked_up above p (Some known.0) (Some known.1) b t known.2.0 known.3.0 (starts_by above p k q (kind_of known.0.info) (kind_of known.1.info) b t known.2.1 known.3.1 (inl (differ, (refl, refl)))))
  compares above p b t (Plain.walked _ _ k q answer starts new known same behind) =
      inr (new, looked_up above p (Some known.0) (Some known.1) b t known.2.0 known.3.0 (starts_by above p k q (kind_of known.0.info) (kind_of known.1.info) b t known.2.1 known.3.1 (inr (same, starts, behind, refl))))

  -- ---- the same, by what is known of the pair

  pub is_new : (above : List Pair) (p : Pair) (b : Result Bool Refusal) (t : List Pair) → ¬ (Contains above p) → Plain local target above p b t → LookedUp above p (slice_get local.records p.local) (slice_get target.records p.target) b t
  is_new above p b t new h = elim (compares above p b t h) [ inl g ↦ absurd (new g.0) | inr g ↦ g.1 ]

  pub is_again : (above : List Pair) (p : Pair) (b : Result Bool Refusal) (t : List Pair) → Contains above p → Plain local target above p b t → Are b t (Err (MaximumTypeDepthReached p.local)) []
  is_again above p b t is_open h = elim (compares above p b t h) [ inl g ↦ g.1 | inr g ↦ absurd (g.0 is_open) ]

  -- the records of the pair are these, or do not exist
  pub is_looked_up : (above : List Pair) (p : Pair) (o u : Option Record) (b : Result Bool Refusal) (t : List Pair) → ¬ (Contains above p) → slice_get local.records p.local ≡ o → slice_get target.records p.target ≡ u → Plain local target above p b t → LookedUp above p o u b t
  is_looked_up above p o u b t new is there h = subst (λ (x : Option Record). LookedUp above p o x b t) there (subst (λ (x : Option Record). LookedUp above p x (slice_get target.records p.target) b t) is (is_new above p b t new h))

  -- the pair is known, with these kinds
  pub is_started : (above : List Pair) (p : Pair) (k q : Kind) (b : Result Bool Refusal) (t : List Pair) → ¬ (Contains above p) → AreKnown local target p k q → Plain local target above p b t → Starts above p k q b t
  is_started above p k q b t new known h =
      subst (λ (x : Option Kind). StartsBy above p (Some k) x b t) known.3.1
      (subst (λ (x : Option Kind). StartsBy above p x (kind_of known.1.info) b t) known.2.1 (is_looked_up above p (Some known.0) (Some known.1) b t new known.2.0 known.3.0 h))
