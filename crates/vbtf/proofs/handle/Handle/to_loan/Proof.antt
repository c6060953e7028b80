-- `to_loan` preserves the pointer and the values that it owns.
use Rattle.vbtf.proofs.Steps.{◌≡◌, ℕ, List, [], ◌∷◌, refl, proved, ftrue, Val, fact, ‵, raw, ◌⊛◌, ◌$◌, ◌∵◌, !, qed, by, drop, keep, move, split, fsplit, fjoin, rewrite, use0, enter, of_opd, no_more, and_then, stop, fld, returns, alloc_all, pass_all, free_all, look_at, get, sets, yes, plain, nothing, heard, Stays, walk_of, stay_dropped, Goes-dropped}
use types.ByLocal.{get_in}
use types.Part.{agg, sub, whole}
use contract.Monad.{fact_i}
use base.Logic.{emp}
use base.Fml.{fsep}
use Rattle.std.proofs.raw_atomic.Walks.{leaves}
use Rattle.vbtf.specs.contracts.handle.Handle.to_loan as f
use Rattle.vbtf.proofs.handle.Handle.to_loan.Statement.{statement}
use Rattle.vbtf.proofs.handle.Handle.to_loan.Code as code
use Rattle.vbtf.specs.contracts.handle.Handle.{the_row as R}
use Rattle.vbtf.specs.contracts.loan.Loan as loan
use Rattle.vbtf.specs.contracts.opened.Opened as opened
use Rattle.vbtf.specs.Held.{held}
use Rattle.vbtf.proofs.handle.Handle.TheLaws.{lowers, the_row_laws}
use Rattle.vbtf.proofs.HandleSteps.{ptr_good, loan_good, loan_in}
use Rattle.vbtf.proofs.LoanFields as fields

abbrev stayed : Stays f.ended.signature.params f.ended.kept
stayed = (stay_dropped (plain (λ _. R)) yes, tt)

pub to_loan_spec : {M : Type 1} → statement M
to_loan_spec 𝓤 𝓛 𝓜 𝓡 wired =
    let c = f.clauses 𝓛 𝓜.mem 𝓡.returns in
    proved 𝓛 f.ended stayed c 𝓜 𝓡 (Goes-dropped 𝓛 0 (plain (λ _. R)) yes (λ κs x w. refl), tt)
    f.Key.name code.function (code.unfolded 𝓤 𝓛.H 𝓜 𝓡 wired)
    (λ κs. ((λ h. lowers.lowered h ∷ []), tt)) (λ κs. (lowers.val_is, tt)) (λ κs qs bounds a g are.
    let h : R.Denot = a.0 in let vs : List Val = lowers.lowered h ∷ [] in
    let y : (walk_of 𝓛 f.ended stayed c).Ghost = ((κs, qs, bounds, a, (vs, tt)), g) in
    let made : (loan.the_row opened.the_row).Denot = record { at = h.at; value = h.opened; life = h.life; share = h.share } in
    let Same : Type 0 = (h.at ≡ h.at) × (h.opened ≡ h.opened) × (h.life ≡ h.life) × (h.share ≡ h.share) in
    qed 𝓛 ((‵ ftrue ⊛ ‵ (fsep (R.own_val h vs) ftrue)) ∷ raw (fact 𝓤 (h.state ≡ 2)) ∷ []) ∵ split ! $ drop ! $ fsplit ! $ move ! (2 ∷ []) $ heard ! (h.state ≡ 2) (λ two.
    fsplit ! $ drop ! $ rewrite ! 0 (λ (n : ℕ). ‵ (held h.at n h.opened h.life h.share)) two refl $ keep ! (0 ∷ []) $
    enter ! _ _ _ _ _ $ alloc_all ! (λ l. pass_all ! refl ((the_row_laws.lawful 𝓛).typed h vs are.0) $
    sets ! (of_opd ! (get_in ! (fld ! refl (stop !)) (sub ! 0 refl (whole !)))) refl (ptr_good h.at) $
    sets ! (of_opd ! (get ! refl)) refl (ptr_good h.at) $
    sets ! (agg ! (and_then ! (get ! refl) (no_more !))) refl (loan_good h.at) $
    loan_in ! opened.the_row made $ use0 𝓛 (raw (fact 𝓤 Same)) (fact_i 𝓤 Same (emp 𝓤) (refl, refl, refl, refl)) $ nothing ! $ nothing ! $ fjoin ! $ nothing ! $
    returns ! (look_at ! 0 refl) $ free_all ! refl $ keep ! (0 ∷ 1 ∷ 3 ∷ 2 ∷ []) $ by ! (leaves 𝓛 f.ended stayed c y (fields.word h.at) made (tt, tt) (tt, tt)))))
