-- `from_loan` preserves the pointer and the values that it owns.
use Rattle.vbtf.proofs.Steps.{◌≡◌, List, [], ◌∷◌, refl, lit<, proved, ftrue, Val, fact, ‵, raw, ◌⊛◌, ◌$◌, ◌∵◌, !, qed, by, drop, keep, split, fsplit, fjoin, use0, enter, of_opd, lit, no_more, and_then, stop, fld, returns, alloc_all, pass_all, free_all, look_at, get, sets, yes, plain, nothing, Stays, walk_of, stay_dropped, Goes-dropped}
use types.ByLocal.{get_in}
use types.Part.{agg, sub, whole}
use contract.Monad.{fact_i}
use base.Logic.{emp}
use base.Fml.{fsep}
use Rattle.std.proofs.raw_atomic.Walks.{leaves}
use Rattle.vbtf.specs.contracts.handle.Handle.from_loan as f
use Rattle.vbtf.proofs.handle.Handle.from_loan.Statement.{statement}
use Rattle.vbtf.proofs.handle.Handle.from_loan.Code as code
use Rattle.vbtf.specs.contracts.handle.Handle.{the_row as R}
use Rattle.vbtf.specs.contracts.loan.Loan as loan
use Rattle.vbtf.specs.contracts.opened.Opened as opened
use Rattle.vbtf.proofs.HandleSteps.{word, ptr_good, loan_good, handle_good, handle_in}
use Rattle.vbtf.proofs.LoanFields as fields

abbrev stayed : Stays f.ended.signature.params f.ended.kept
stayed = (stay_dropped (plain (λ _. loan.the_row opened.the_row)) yes, tt)

pub from_loan_spec : {M : Type 1} → statement M
from_loan_spec 𝓤 𝓛 𝓜 𝓡 wired =
    let c = f.clauses 𝓛 𝓜.mem 𝓡.returns in let L = loan.the_row opened.the_row in
    proved 𝓛 f.ended stayed c 𝓜 𝓡 (Goes-dropped 𝓛 0 (plain (λ _. L)) yes (λ κs x w. refl), tt)
    f.Key.name code.function (code.unfolded 𝓤 𝓛.H 𝓜 𝓡 wired)
    (λ κs. ((λ d. fields.word d.at ∷ []), tt)) (λ κs. ((λ d vs is. fields.word_is opened.the_row d.at vs is.0), tt)) (λ κs qs bounds a g are.
    let d : L.Denot = a.0 in let vs : List Val = fields.word d.at ∷ [] in
    let y : (walk_of 𝓛 f.ended stayed c).Ghost = ((κs, qs, bounds, a, (vs, tt)), g) in
    let made : R.Denot = record { at = d.at; state = 2; opened = d.value; life = d.life; share = d.share } in
    let Same : Type 0 = (d.at ≡ d.at) × (2 ≡ 2) × (d.value ≡ d.value) × (d.life ≡ d.life) × (d.share ≡ d.share) in
    qed 𝓛 ((‵ ftrue ⊛ ‵ (fsep (L.own_val d vs) ftrue)) ∷ ‵ ftrue ∷ []) ∵ split ! $ drop ! $ fsplit ! $
    fsplit ! $ drop ! $ keep ! (0 ∷ []) $
    enter ! _ _ _ _ _ $ alloc_all ! (λ l. pass_all ! refl (loan_good d.at, tt) $
    sets ! (of_opd ! (get_in ! (fld ! refl (stop !)) (sub ! 0 refl (whole !)))) refl (ptr_good d.at) $
    sets ! (of_opd ! (get ! refl)) refl (ptr_good d.at) $
    sets ! (agg ! (and_then ! (get ! refl) (and_then ! (lit ! tt) (no_more !)))) refl (handle_good d.at 2 (lit< tt)) $
    handle_in ! made (lit< tt) $ use0 𝓛 (raw (fact 𝓤 Same)) (fact_i 𝓤 Same (emp 𝓤) (refl, refl, refl, refl, refl)) $ nothing ! $ nothing ! $ fjoin ! $ nothing ! $
    returns ! (look_at ! 0 refl) $ free_all ! refl $ keep ! (0 ∷ 1 ∷ 3 ∷ 2 ∷ []) $ by ! (leaves 𝓛 f.ended stayed c y (word d.at 2) made (tt, tt) (tt, tt))))
