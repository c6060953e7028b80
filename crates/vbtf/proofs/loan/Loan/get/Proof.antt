-- `get` shows the value for as long as the loan is borrowed.
use Rattle.std.proofs.Common.{◌≡◌, ℕ, List, [], ◌∷◌, sym, refl, ap, ◌∙◌}
use mir.Syntax.{a_type, named}
use mir.Val.{Val, vptr}
use mir.MapTy.{inst_fn}
use base.Logic.{SProp, emp}
use base.Fml.{Lft, Fml, ftrue, fsep, flft, fhide}
use types.Kit.{‵, raw, ◌⊛◌, at_ret, ◌$◌, ◌∵◌, !, qed, by, move, keep, split, join, fsplit, fjoin, rewrite, use0, use1, feq_i}
use types.Run.{stop, fld, hop, addr, of_opd, first, blocks, exec, returns, enter}
use types.ByLocal.{alloc_all, pass_all, free_all, look_at, get, through, sets, sets_last, env}
use types.Part.{sub, whole, look_in}
use contract.Running.{tables}
use contract.Monad.{fact, fact_i}
use denote.Exit.{yes}
use denote.RattleType.{RattleType, owns}
use denote.Signature.{types_at, plain}
use denote.RawPtr.{Ptr, InBlock, block_ptr, block_of, count_of, at_block}
use denote.Steps.{nothing, peeks, heard, looks, shuts}
use denote.Opens.{unhide, hide}
use denote.Laws.{Is, shows}
use denote.Memory.{cell_at, hidden_shr}
use denote.Param.{param, layouts}
use denote.Param.Laws.{param_laws}
use denote.Builtin.{RefOf}
use denote.Ref.{shr_vals, shr_Tells}
use denote.Struct.Lending.{lent_at, lent_out, in_block_says}
use denote.Triple.Walked.{Stays, stay_dropped, walk_of, Goes-dropped}
use Rattle.std.proofs.VecSteps.Shapes.{after}
use Rattle.std.proofs.raw_atomic.Walks.{proved, leaves}
use Rattle.vbtf.specs.contracts.loan.Loan as loan
use Rattle.vbtf.proofs.LoanFields.{word, Data, word_is, opened}
use Rattle.vbtf.specs.contracts.loan.Loan.get.{ended, clauses}
use Rattle.vbtf.specs.contracts.loan.Loan.get.Key.{name as #self}
use Rattle.vbtf.proofs.loan.Loan.get.Statement.{statement}
use Rattle.vbtf.proofs.loan.Loan.get.Code as code

pub get_spec : {M : Type 1} → statement M
get_spec 𝓤 𝓛 𝓜 𝓡 wired X L =
    let H = 𝓛.H in let 𝓣 = tables 𝓤 H 𝓜 𝓡 𝓡.env in let R : RattleType = param 0 X in let En = ended X in let inst = layouts (a_type ∷ []) (X, tt) in let fn = inst_fn inst code.function in
    let Row : RattleType = loan.the_row R in let D : RattleType = Data R in let c = clauses X 𝓛 𝓜.mem 𝓡.returns in let laws = (param_laws 0 X L).shr_laws in
    let self = RefOf (0 ∷ []) tt (plain (λ _. Row)) (λ _. tt) in let hs : Stays En.signature.params En.kept = (stay_dropped self yes, tt) in
    proved 𝓛 En hs c 𝓜 𝓡 (Goes-dropped 𝓛 2 self yes (λ κs x f. refl), tt) (#self inst) fn (code.unfolded 𝓤 H 𝓜 𝓡 wired (X, tt))
    (λ κs. (shr_vals, tt)) (λ κs. (shr_Tells (named 0) κs.0 Row, tt)) (λ κs qs bounds a gh are.
    let b : ℕ = a.0.ref_ptr.0 in let o : ℕ = a.0.ref_ptr.1 in let κ : Lft = κs.0 in let d : Row.Denot = a.0.now in let p : Ptr = d.at in let x : X.Denot = d.value in let others : Fml = fsep (flft κs.1.0 qs.1.0) ftrue in
    let y : (walk_of 𝓛 En hs c).Ghost = ((κs, qs, bounds, a, (vptr b o ∷ [], tt)), gh) in let Post : Val → SProp 𝓤 = (walk_of 𝓛 En hs c).post y in let there : Val = vptr (block_of p) (count_of p) in
    qed 𝓛 (((‵ (flft κ qs.0) ⊛ ‵ others) ⊛ ‵ (owns (types_at En.signature.params κs) a y.0.4)) ∷ raw ((c κs a).requires gh) ∷ []) ∵
    split ! $ split ! $ move ! (2 ∷ []) $ fsplit ! $ fsplit ! $ keep ! (1 ∷ 3 ∷ 4 ∷ []) $
    enter ! 𝓣.C 𝓣.Λ fn (vptr b o ∷ []) Post $ alloc_all ! (λ l. pass_all ! refl ((tt, tt), tt) $ let Ev = env fn.locals l in
    use1 𝓛 (‵ (hidden_shr D κ (p, tt) b o) ⊛ ‵ (fhide (lent_at R p x κ))) (lent_out 𝓛 (loan.struct R) (loan.the_codes X.Denot R.coded) (loan.the_heap R) (loan.the_lent R) κ d b o) $
    split ! $ move ! (1 ∷ []) $ unhide ! $ fsplit ! $
    use1 𝓛 (raw (fact 𝓤 (InBlock p))) (in_block_says 𝓛 p) $ heard ! (InBlock p) (λ inb. hide ! $ move ! (1 ∷ 2 ∷ []) $
    looks ! tt D (opened R 𝓛) (p, tt) b o (λ q vs. move ! (1 ∷ []) $ peeks ! D (Is D) (shows 𝓛 D) (p, tt) vs (λ so.
    let ev : vs ≡ word (block_ptr (block_of p) (count_of p)) ∷ [] = word_is R p vs so ∙ ap (λ (r : Ptr). word r ∷ []) (at_block p inb) in
    rewrite ! 1 (λ (ws : List Val). ‵ (cell_at q D.mir ws b o)) ev refl $ first ! $ blocks ! $
    sets_last ! (addr ! (through ! refl (fld ! refl (hop ! (look_in ! 1 (sub ! 0 refl (whole !))) (stop !))))) refl (tt, tt) $ exec ! 𝓣.C 𝓣.Λ Ev (after 1 fn.body) (at_ret Ev Post) $ sets ! (of_opd ! (get ! refl)) refl (tt, tt) $
    rewrite ! 1 (λ (ws : List Val). ‵ (cell_at q D.mir ws b o)) (sym ev) refl $ move ! (1 ∷ 0 ∷ 2 ∷ []) $ shuts ! tt D q (p, tt) vs b o $ move ! (0 ∷ 3 ∷ []) $ join ! $
    move ! (2 ∷ []) $ feq_i ! (List Val) (there ∷ []) (there ∷ []) refl $ fjoin ! $ use0 𝓛 (raw (fact 𝓤 (x ≡ x))) (fact_i 𝓤 (x ≡ x) (emp 𝓤) refl) $ nothing ! $ nothing ! $ fjoin ! $
    returns ! (look_at ! 0 refl) $ free_all ! refl $ keep ! (3 ∷ 0 ∷ 2 ∷ 1 ∷ []) $ by ! (leaves 𝓛 En hs c y there (record { ref_ptr = (block_of p, count_of p); now = x }) (tt, tt) (tt, tt)))))))
