-- The state of a pair that was started, by where its walk stopped.
use Rattle.std.proofs.Common.{◌≡◌, refl, sym, ap, subst, ◌∙◌, inl, inr, Bool, true, false, Ok, Err, Result}
use Rattle.std.proofs.lemmas.Bool.{false≢true}
use Rattle.std.proofs.lemmas.Result.{err_from_is_err_and}
use Rattle.std.specs.Prelude.{IsErrAnd}
use Rattle.btf_model.specs.Table.{Table}
use Rattle.btf_model.specs.Fields.{Pair}
use Rattle.btf_model.specs.Run.{new_frame}
use Rattle.btf_plain.specs.declared.error.BtfError.{BtfError}
use Rattle.btf_compare.specs.declared.frame.Frame.{Frame}
use Rattle.btf_compare.specs.declared.frame.Place.{Place}
use Rattle.btf_compare.specs.declared.frame.Place.TheVariants as places
use Rattle.btf_compare.specs.Compared.{FailsFor, HasStarted, IsStarted, WalksTo, ComesTo, frame_of}

-- whether a walk ends with false, as it does if the kinds differ
abbrev pub ends_false : Result Place BtfError → Bool
ends_false (Ok (places.Ends false)) = true
ends_false end = false

module _ (local target : Table) (passed : Pair → Bool) (p : Pair) (f : Frame) where
  -- the kinds of the pair are alike, and its walk went to a frame and came to an end
  abbrev pub Walked : Result Place BtfError → Type 0
  Walked end = IsStarted local target p true × WalksTo local target passed (new_frame p) (frame_of f) × ComesTo local target f end

  pub walked_unless_false : (end : Result Place BtfError) → ends_false end ≡ false → HasStarted local target passed p f end → Walked end
  walked_unless_false end not (inl h) = absurd (false≢true (sym not ∙ ap ends_false h.1))
  walked_unless_false end not (inr h) = h

  pub has_started : (alike : Bool) (end : Result Place BtfError) → IsStarted local target p alike → (alike ≡ false → end ≡ Ok (places.Ends false)) → (alike ≡ true → WalksTo local target passed (new_frame p) (frame_of f)) → (alike ≡ true → ComesTo local target f end) → HasStarted local target passed p f end
  has_started true end starts differs walks comes = inr (starts, walks refl, comes refl)
  has_started false end starts differs walks comes = inl (starts, differs refl)

-- ---- the outcomes of a start

-- an error that `?` returns
pub fails_for : {X : Type 0} (r : Result X BtfError) (e : BtfError) (P : BtfError → Type 0) → IsErrAnd r (λ y. y ≡ e) → P e → FailsFor r P
fails_for {X} r e P err h =
    let given = err_from_is_err_and r err in
    subst (λ (x : Result X BtfError). FailsFor x P) (sym (given.1 ∙ ap (λ (y : BtfError). Err y) given.2)) h
