-- `from_parts` preserves the pointer and the box's memory.
use Rattle.vbtf.proofs.Steps.{◌≡◌, List, [], ◌∷◌, refl, sym, id⊢, lit<, ftrue, Val, fact, tables, ‵, raw, ◌⊛◌, ◌$◌, ◌∵◌, !, qed, by, drop, keep, split, fsplit, fjoin, use0, suffices, enter, of_opd, lit, no_more, and_then, stop, fld, returns, alloc_all, pass_all, free_all, look_at, get, sets, yes, plain, nothing, Stays, walk_of, stay_dropped, Goes-dropped}
use Rattle.std.proofs.Common.{◌++◌, subst}
use types.ByLocal.{get_in}
use types.Part.{agg, sub, whole}
use contract.Monad.{fact_i}
use base.Logic.{SProp, ent, emp}
use base.Fraction.{full_share}
use prog.Wp.{WpFn}
use mir.Val.{vptr}
use denote.RattleType.{RattleType, owns}
use denote.Signature.{types_at}
use denote.RawPtr.{block_ptr}
use Rattle.std.proofs.raw_atomic.Walks.{proved_at, leaves}
use Rattle.std.specs.contracts.alloc.Global as heap
use Rattle.std.proofs.alloc.Global.TheLaws as heap_laws
use Rattle.std.specs.contracts.impls.GlobalAllocator.TheImpl.{ghosts}
use Rattle.vbtf.specs.contracts.handle.Handle.from_parts as f
use Rattle.vbtf.proofs.handle.Handle.from_parts.Statement.{statement}
use Rattle.vbtf.proofs.handle.Handle.from_parts.Code as code
use Rattle.vbtf.specs.contracts.handle.Handle.{the_row as R}
use Rattle.vbtf.specs.contracts.opened.Opened as opened
use Rattle.vbtf.proofs.HandleSteps.{word, handle_good, handle_in}
use Rattle.vbtf.proofs.Values.{both, Parts, parts_good, parts_out}

abbrev P : RattleType
P = Parts opened.the_row heap.the_row heap_laws.the_row_laws ghosts

abbrev stayed : Stays f.ended.signature.params f.ended.kept
stayed = (stay_dropped (plain (λ _. P)) yes, tt)

pub from_parts_spec : {M : Type 1} → statement M
from_parts_spec 𝓤 𝓛 𝓜 𝓡 wired =
    let c = f.clauses 𝓛 𝓜.mem 𝓡.returns in let 𝓣 = tables 𝓤 𝓛.H 𝓜 𝓡 𝓡.env in let fn = code.function in
    let Z : RattleType = heap.the_row in let LZ = heap_laws.the_row_laws in
    proved_at 𝓛 f.ended stayed c 𝓜 𝓡 (Goes-dropped 𝓛 0 (plain (λ _. P)) yes (λ κs x w. refl), tt)
    f.Key.name fn (code.unfolded 𝓤 𝓛.H 𝓜 𝓡 wired) (λ z are.
    let v : P.Denot = z.0.3.0 in let Post : Val → SProp 𝓤 = (walk_of 𝓛 f.ended stayed c).post z in let Run : List Val → SProp 𝓤 = λ ws. WpFn 𝓤 𝓛.H 𝓣.C 𝓣.Λ fn ws Post in
    let Same : Type 0 = (1 ≡ 1) × (v.value ≡ v.value) in
    qed 𝓛 ((‵ ftrue ⊛ ‵ (owns (types_at f.ended.signature.params z.0.0) z.0.3 z.0.4)) ∷ ‵ ftrue ∷ []) ∵ split ! $ drop ! $ fsplit ! $ parts_out opened.the_row Z LZ ghosts ! v z.0.4.0 (λ b o h e ws fits.
    let w : Val = both (vptr b o) h in
    let made : R.Denot = record { at = block_ptr b o; state = 1; opened = v.value; life = 0; share = full_share } in
    suffices ! (Run (w ∷ [])) (subst (λ (us : List Val). ent 𝓤 (Run (w ∷ [])) (Run us)) (sym (λ i. ws i ++ [])) (id⊢ 𝓤 (Run (w ∷ [])))) $ keep ! (0 ∷ []) $
    enter ! 𝓣.C 𝓣.Λ fn (w ∷ []) Post $ alloc_all ! (λ l. pass_all ! refl (parts_good opened.the_row Z LZ ghosts b o h fits, tt) $
    sets ! (of_opd ! (get_in ! (fld ! refl (stop !)) (sub ! 0 refl (whole !)))) refl (tt, tt) $
    sets ! (of_opd ! (get ! refl)) refl (tt, tt) $
    sets ! (agg ! (and_then ! (get ! refl) (and_then ! (lit ! tt) (no_more !)))) refl (handle_good (block_ptr b o) 1 (lit< tt)) $
    handle_in ! made (lit< tt) $ use0 𝓛 (raw (fact 𝓤 Same)) (fact_i 𝓤 Same (emp 𝓤) (refl, refl)) $ nothing ! $ nothing ! $ fjoin ! $ nothing ! $
    returns ! (look_at ! 0 refl) $ free_all ! refl $ keep ! (0 ∷ 1 ∷ 3 ∷ 2 ∷ []) $ by ! (leaves 𝓛 f.ended stayed c z (word (block_ptr b o) 1) made (tt, tt) (tt, tt)))))
