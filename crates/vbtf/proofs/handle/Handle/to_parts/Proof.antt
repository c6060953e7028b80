-- `to_parts` preserves the pointer and the box's memory.
use Rattle.vbtf.proofs.Steps.{◌≡◌, ℕ, List, [], ◌∷◌, refl, sym, ap, ◌∙◌, id⊢, ftrue, Val, fact, tables, ‵, raw, ◌⊛◌, ◌$◌, ◌∵◌, !, qed, by, drop, keep, move, split, fsplit, fsplit3, fjoin, use0, suffices, rewrite, enter, of_opd, no_more, and_then, stop, fld, returns, alloc_all, pass_all, free_all, look_at, get, sets, yes, plain, nothing, heard, Stays, walk_of, stay_dropped, Goes-dropped, Ptr, in_a_block}
use Rattle.std.proofs.Common.{◌++◌, subst, ◌<◌, ◌^◌}
use types.ByLocal.{get_in}
use types.Part.{agg, sub, whole}
use types.Logic.{sem}
use contract.Monad.{fact_i}
use base.Logic.{SProp, ent, emp, never, fst∗}
use prog.Wp.{WpFn}
use mir.Val.{vptr}
use mir.Raw.{raw as bare}
use denote.Memory.{lone}
use denote.RattleType.{RattleType, owns}
use denote.Signature.{types_at}
use denote.RawPtr.{block_ptr, null_ptr}
use Rattle.std.specs.Box.Ownership.{box_owns}
use Rattle.std.proofs.alloc.Calls.{handle_tells}
use Rattle.std.proofs.raw_atomic.Walks.{proved_at, leaves}
use Rattle.std.specs.contracts.alloc.Global as heap
use Rattle.std.proofs.alloc.Global.TheLaws as heap_laws
use Rattle.std.specs.contracts.impls.GlobalAllocator.TheImpl.{ghosts}
use Rattle.vbtf.specs.contracts.handle.Handle.to_parts as f
use Rattle.vbtf.proofs.handle.Handle.to_parts.Statement.{statement}
use Rattle.vbtf.proofs.handle.Handle.to_parts.Code as code
use Rattle.vbtf.specs.contracts.handle.Handle.{the_row as R}
use Rattle.vbtf.specs.Held.{held, may_free}
use Rattle.vbtf.proofs.handle.Handle.TheLaws.{lowers}
use Rattle.vbtf.specs.contracts.opened.Opened as opened
use Rattle.vbtf.proofs.HandleSteps.{word, handle_good}
use Rattle.vbtf.proofs.Values.{both, al, Parts, parts_good, parts_in}

abbrev P : RattleType
P = Parts opened.the_row heap.the_row heap_laws.the_row_laws ghosts

abbrev stayed : Stays f.ended.signature.params f.ended.kept
stayed = (stay_dropped (plain (λ _. R)) yes, (stay_dropped (plain (λ _. heap.the_row)) yes, tt))

pub to_parts_spec : {M : Type 1} → statement M
to_parts_spec 𝓤 𝓛 𝓜 𝓡 wired =
    let c = f.clauses 𝓛 𝓜.mem 𝓡.returns in let 𝓣 = tables 𝓤 𝓛.H 𝓜 𝓡 𝓡.env in let fn = code.function in
    let Z : RattleType = heap.the_row in let LZ = heap_laws.the_row_laws in let B : RattleType = opened.the_row in
    proved_at 𝓛 f.ended stayed c 𝓜 𝓡 (Goes-dropped 𝓛 0 (plain (λ _. R)) yes (λ κs x w. refl), (Goes-dropped 𝓛 0 (plain (λ _. Z)) yes (λ κs x w. refl), tt))
    f.Key.name fn (code.unfolded 𝓤 𝓛.H 𝓜 𝓡 wired) (λ z are.
    let h : R.Denot = z.0.3.0 in let a : Z.Denot = z.0.3.1.0 in let Post : Val → SProp 𝓤 = (walk_of 𝓛 f.ended stayed c).post z in let Run : List Val → SProp 𝓤 = λ ws. WpFn 𝓤 𝓛.H 𝓣.C 𝓣.Λ fn ws Post in
    let Same : Type 0 = h.opened ≡ h.opened in let low : h.state < 2 ^ 32 = are.0.0.1.1.1.0.1 in
    qed 𝓛 ((‵ ftrue ⊛ ‵ (owns (types_at f.ended.signature.params z.0.0) z.0.3 z.0.4)) ∷ raw (fact 𝓤 (h.state ≡ 1)) ∷ []) ∵ split ! $ drop ! $ fsplit3 ! $ move ! (3 ∷ []) $ heard ! (h.state ≡ 1) (λ is_one.
    -- [the handle; the allocator; nothing]
    fsplit ! $ drop ! $ rewrite ! 0 (λ (n : ℕ). ‵ (held h.at n h.opened h.life h.share)) is_one refl $
    in_a_block ! h.at (λ p. box_owns may_free B p h.opened) (fst∗ 𝓤 (never 𝓤) (sem 𝓛 (may_free (bare (lone B.mir)) null_ptr))) (λ b o e.
    move ! (1 ∷ []) $ handle_tells (al B Z LZ ghosts) ! a z.0.4.1.0 (λ hv ea fits. keep ! (1 ∷ 0 ∷ []) $
    let w : Val = word (block_ptr b o) h.state in
    let ew : z.0.4.0 ≡ w ∷ [] = lowers.val_is h z.0.4.0 are.0 ∙ ap (λ (p : Ptr). word p h.state ∷ []) e in
    let us : List Val = w ∷ hv ∷ [] in
    let made : P.Denot = record { at = block_ptr b o; alloc = a; value = h.opened } in
    suffices ! (Run us) (subst (λ (ws : List Val). ent 𝓤 (Run us) (Run ws)) (sym (λ i. ew i ++ (ea i ++ []))) (id⊢ 𝓤 (Run us))) $
    enter ! 𝓣.C 𝓣.Λ fn us Post $ alloc_all ! (λ l. pass_all ! refl (handle_good (block_ptr b o) h.state low, (fits, tt)) $
    sets ! (of_opd ! (get_in ! (fld ! refl (stop !)) (sub ! 0 refl (whole !)))) refl (tt, tt) $
    sets ! (of_opd ! (get ! refl)) refl (tt, tt) $
    sets ! (agg ! (and_then ! (get ! refl) (and_then ! (get ! refl) (no_more !)))) refl (parts_good B Z LZ ghosts b o hv fits) $
    parts_in B Z LZ ghosts ! b o hv a h.opened $ use0 𝓛 (raw (fact 𝓤 Same)) (fact_i 𝓤 Same (emp 𝓤) refl) $ nothing ! $ nothing ! $ fjoin ! $ nothing ! $ fjoin ! $ nothing ! $
    returns ! (look_at ! 0 refl) $ free_all ! refl $ keep ! (0 ∷ 1 ∷ 3 ∷ 2 ∷ []) $ by ! (leaves 𝓛 f.ended stayed c z (both (vptr b o) hv) made (tt, (tt, tt)) (tt, (tt, tt))))))))
