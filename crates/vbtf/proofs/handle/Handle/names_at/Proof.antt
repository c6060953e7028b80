-- `names_at` lends the bytes that `names_from` returns for as long as the handle's loan lasts.
use Rattle.vbtf.proofs.Steps.{◌≡◌, ◌∙◌, ap, ℕ, List, [], ◌∷◌, refl, sym, proved, full_share, ftrue, flft, named, Val, vint, fact, tables, ‵, raw, some, later, ◌⊛◌, at_ret, ◌$◌, ◌∵◌, !, qed, by, drop, move, keep, pick, await, split, join, fsplit, fsplit3, fjoin, feq_i, rewrite, use0, use1, id⊢, first, blocks, exec, enter, of_opd, load, addr, no_more, and_then, stop, fld, hop, returns, alloc_all, pass_all, free_all, look_at, get, through, sets, lands_as, env, shows, mut_vals, mut_Tells, Ptr, RawPtr, block_ptr, yes, plain, nothing, owned, opens, closes, heard, peeks, only, Stays, walk_of, stay_ref, Goes-ref, stay_dropped, Goes-dropped, uint_Makes, uint_vals, uint_Tells, triple_of, calls_at, lasts}
use Rattle.std.proofs.Common.{w32, w64, ◌<◌, ◌^◌, Bor, length}
use types.ByLocal.{get_in, sets_last, look_in_at}
use types.Kit.{fpack}
use types.Run.{from}
use types.Part.{agg, whole, sub, look_in}
use contract.Monad.{fact_i}
use base.Logic.{SProp, emp}
use base.Fml.{Lft, Fml}
use mir.Val.{vptr, vstruct, vcons, vnil}
use denote.RattleType.{RattleType, owns, Valss}
use denote.Signature.{types_at}
use denote.RawPtr.{InBlock, block_of, count_of, at_block}
use denote.Memory.{cell_at}
use denote.Builtin.{u8, u32, usize}
use denote.Laws.{Is}
use denote.Opens.{hide}
use denote.SharingLaws.{contraction}
use denote.Slice.{ShrSlice}
use denote.Struct.Lending.{lent_at, lent_at_shr_laws, in_block_says}
use denote.Struct.Struct.{within}
use denote.Struct.Owning.{shape}
use denote.Triple.Clauses.{Lasts}
use Rattle.std.proofs.raw_atomic.Calls.{fm}
use Rattle.std.proofs.raw_atomic.Walks.{leaves}
use Rattle.std.proofs.alloc.Shapes.{after}
use Rattle.vbtf.specs.Held.{held}
use Rattle.vbtf.specs.Lent.{AreLentFrom, AreNamesFrom}
use Rattle.vbtf.specs.contracts.name.names_from as callee
use Rattle.vbtf.proofs.name.names_from.Met.{met}
use Rattle.vbtf.specs.contracts.lent_name.Name as name
use Rattle.vbtf.specs.contracts.opened.Opened as opened
use Rattle.vbtf.proofs.opened.Opened.TheLaws as opened_laws
use Rattle.vbtf.specs.contracts.handle.Handle.names_at as f
use Rattle.vbtf.proofs.handle.Handle.names_at.Statement.{statement}
use Rattle.vbtf.proofs.handle.Handle.names_at.Code as code
use Rattle.vbtf.specs.contracts.handle.Handle.{the_row as R}
use Rattle.vbtf.proofs.handle.Handle.TheLaws.{lowers}
use Rattle.vbtf.proofs.HandleSteps.{word, handle_in}

abbrev stayed : Stays f.ended.signature.params f.ended.kept
stayed = (stay_ref (0 ∷ []) tt (plain (λ _. R)), (stay_dropped (plain (λ _. u32)) yes, tt))

pub names_at_spec : {M : Type 1} → statement M
names_at_spec 𝓤 𝓛 𝓜 𝓡 wired =
    let c = f.clauses 𝓛 𝓜.mem 𝓡.returns in let W = walk_of 𝓛 f.ended stayed c in let 𝓣 = tables 𝓤 𝓛.H 𝓜 𝓡 𝓡.env in let fn = code.function in
    let k = triple_of 𝓛 callee.signature (callee.spec 𝓛 𝓜.mem 𝓡.returns) in
    proved 𝓛 f.ended stayed c 𝓜 𝓡 (Goes-ref 𝓛 1 0 tt (plain (λ _. R)), (Goes-dropped 𝓛 1 (plain (λ _. u32)) yes (λ κs x w. refl), tt))
    f.Key.name fn (code.unfolded 𝓤 𝓛.H 𝓜 𝓡 wired)
    (λ κs. (mut_vals, (uint_vals w32, tt))) (λ κs. (mut_Tells (named 0) κs.0 R, (uint_Tells w32, tt))) (λ κs qs bounds a g are.
    let b = a.0.ref_ptr.0 in let o = a.0.ref_ptr.1 in let h = a.0.now in let offset = a.1.0 in
    let vss : Valss (types_at f.ended.signature.params κs) = (mut_vals a.0, (vint w32 offset ∷ [], tt)) in
    let y : W.Ghost = ((κs, qs, bounds, a, vss), g) in let Post : Val → SProp 𝓤 = W.post y in let low : offset < 2 ^ 32 = are.1.0.1 in
    let κ : Lft = h.life ∷ [] in let p : Ptr = h.at in let at : Ptr = block_ptr (block_of p) (count_of p) in let there : Val = vptr (block_of p) (count_of p) in
    let Lent : Fml = lent_at opened.the_row p h.opened κ in let Slice : RattleType = ShrSlice (named 0) κ u8 in
    let Cell = λ (ws : List Val). ‵ (cell_at full_share R.mir ws b o) in let Found = AreNamesFrom h.opened.btf.strings offset in
    qed 𝓛 (((‵ (flft κs.0 qs.0) ⊛ ‵ ftrue) ⊛ ‵ (owns (types_at f.ended.signature.params κs) a vss)) ∷ raw (fact 𝓤 (h.state ≡ 2)) ∷ []) ∵
    split ! $ split ! $ move ! (3 ∷ []) $ heard ! (h.state ≡ 2) (λ two. move ! (2 ∷ []) $ fsplit ! $ keep ! (0 ∷ 2 ∷ []) $
    enter ! _ _ _ _ _ $ alloc_all ! (λ l. pass_all ! refl ((tt, tt), ((tt, record { fits = low }), tt)) $ let Ev = env fn.locals l in
    fsplit3 ! $ move ! (1 ∷ 2 ∷ 3 ∷ []) $ opens ! tt R b o (λ us. move ! (1 ∷ []) $ peeks ! R _ (shows 𝓛 R) h us (λ is.
    let small : h.state < 2 ^ 32 = is.0.1.1.1.0.1 in
    -- [what the loan lends, twice; the token of the loan; the handle's memory; the rest of the reference]
    fsplit ! $ drop ! $ rewrite ! 0 (λ (n : ℕ). ‵ (held h.at n h.opened h.life h.share)) two refl $ fsplit ! $ move ! (1 ∷ []) $
    use1 𝓛 (‵ Lent ⊛ ‵ Lent) (contraction 𝓛 (lent_at opened.the_row p h.opened) (lent_at_shr_laws opened.the_row opened_laws.the_row_laws.shr_laws p h.opened) κ) $ split ! $
    fsplit ! $ use1 𝓛 (raw (fact 𝓤 (InBlock p))) (in_block_says 𝓛 p) $ heard ! (InBlock p) (λ inb. hide ! $
    let ev : us ≡ word at h.state ∷ [] = lowers.val_is h us is ∙ ap (λ (r : Ptr). word r h.state ∷ []) (at_block p inb) in
    rewrite ! 3 Cell ev refl $
    first ! $ blocks ! $ sets ! (of_opd ! (load ! (through ! refl (fld ! refl (stop !))) (look_in ! 3 (sub ! 0 refl (whole !))))) refl (tt, tt) $
    sets ! (of_opd ! (get ! refl)) refl (tt, tt) $ sets_last ! (addr ! (through ! refl (stop !))) refl (tt, tt) $ exec ! 𝓣.C 𝓣.Λ Ev (after 1 fn.body) (at_ret Ev Post) $
    sets ! (of_opd ! (get ! refl)) refl (tt, tt) $
    -- names_from(opened, offset)
    let s : Bor opened.the_row.Denot = record { ref_ptr = (block_of p, count_of p); now = h.opened } in
    let z : k.Ghost = (((κ, tt), (h.share, tt), tt, (s, (offset, tt)), (there ∷ [], (vint w32 offset ∷ [], tt))), tt) in
    feq_i ! (List Val) (there ∷ []) (there ∷ []) refl $ fjoin ! $
    nothing ! $ owned ! u32 (Is u32) (uint_Makes 𝓛 w32) offset (vint w32 offset ∷ []) (refl, low) $ fjoin ! $
    move ! (1 ∷ 0 ∷ []) $ fjoin ! $ nothing ! $ move ! (3 ∷ 0 ∷ []) $ join ! $ join ! $ nothing ! $ move ! (1 ∷ 0 ∷ []) $ join ! $ use1 𝓛 (raw (k.pre z)) (id⊢ 𝓤 (k.pre z)) $
    calls_at ! (fm 𝓛 𝓜 𝓡) k (met 𝓤 𝓛 𝓜 𝓡 (code.calls-vbtf::name::names_from 𝓡.env wired)) z (and_then ! (get ! refl) (and_then ! (get ! refl) (no_more !))) (λ v.
    use1 𝓛 (later (some (λ (r : Bor (List ℕ)). ((‵ (flft κ h.share) ⊛ ‵ ftrue) ⊛ ‵ (Slice.own_val r (v ∷ []))) ⊛ some (λ (ls : Lasts callee.ended (κ, tt) (s, (offset, tt))). ‵ (lasts callee.ended (κ, tt) (s, (offset, tt)) ls) ⊛ raw (fact 𝓤 (Found r.now)))))) (id⊢ 𝓤 (k.post z v)) $
    await ! tt $ pick ! (λ r. split ! $ move ! (1 ∷ []) $ pick ! (λ _. split ! $ drop ! $ heard ! (Found r.now) (λ same. split ! $ split ! $ move ! (2 ∷ []) $
    peeks ! Slice (Is Slice) (shows 𝓛 Slice) r (v ∷ []) (λ form. fsplit ! $ drop ! $
    let many : length r.now < 2 ^ 64 = form.0.1.0 in
    lands_as ! (ap only form.0.0) refl (tt, (tt, (record { fits = many }, tt))) $
    sets ! (addr ! (from ! (fld ! refl (hop ! (look_in_at ! 4 (sub ! 0 refl (whole !))) (stop !))))) refl (tt, tt) $
    sets ! (of_opd ! (get_in ! (fld ! refl (stop !)) (sub ! 1 refl (whole !)))) refl (tt, record { fits = many }) $
    sets ! (agg ! (and_then ! (get ! refl) (and_then ! (get ! refl) (no_more !)))) refl (tt, (tt, (record { fits = many }, tt))) $
    -- [the bytes; the token of the loan; nothing; what the loan lends; the handle's memory; the rest of the reference]
    let start : Val = vptr r.ref_ptr.0 r.ref_ptr.1 in let w : Val = vstruct (vcons start (vcons (vint w64 (length r.now)) vnil)) in
    let made : name.the_row.Denot = record { at = block_ptr r.ref_ptr.0 r.ref_ptr.1; len = length r.now; bytes = r.now; life = h.life } in
    nothing ! $ owned ! usize (Is usize) (uint_Makes 𝓛 w64) (length r.now) (vint w64 (length r.now) ∷ []) (refl, many) $ fjoin ! $
    feq_i ! (List Val) (start ∷ []) (start ∷ []) refl $ fjoin ! $ feq_i ! (List Val) (w ∷ []) (w ∷ []) refl $ fjoin ! $
    fpack ! (Valss (RawPtr ∷ usize ∷ [])) (within (shape name.the_type) (made.at, (made.len, tt)) (w ∷ [])) (start ∷ [], (vint w64 (length r.now) ∷ [], tt)) $ fjoin ! $
    move ! (1 ∷ 3 ∷ []) $ fjoin ! $ rewrite ! 0 (λ (n : ℕ). ‵ (held h.at n h.opened h.life h.share)) (sym two) refl $ handle_in ! h small $
    rewrite ! 3 Cell (ap (λ (r : Ptr). word r h.state ∷ []) (sym (at_block p inb))) refl $ move ! (3 ∷ 0 ∷ 4 ∷ 5 ∷ 6 ∷ []) $ closes ! tt R h (word h.at h.state ∷ []) b o $
    returns ! (look_at ! 0 refl) $ free_all ! refl $
    -- [the reference, in two parts; its token; the name; nothing; the reference's machine value]
    move ! (5 ∷ 0 ∷ 1 ∷ []) $ move ! (1 ∷ 2 ∷ []) $ fjoin ! $ move ! (1 ∷ 0 ∷ []) $ fjoin ! $ nothing ! $ nothing ! $ fjoin ! $ move ! (1 ∷ 0 ∷ []) $ fjoin ! $
    move ! (1 ∷ 3 ∷ []) $ join ! $
    let Same : Type 0 = (h ≡ h) × AreLentFrom h.opened.btf.strings h.life offset r.now (length r.now) h.life in
    use0 𝓛 (raw (fact 𝓤 Same)) (fact_i 𝓤 Same (emp 𝓤) (refl, (refl, same, refl))) $ keep ! (1 ∷ 2 ∷ 3 ∷ 0 ∷ []) $
    by ! (leaves 𝓛 f.ended stayed c y w made (h, (tt, tt)) (tt, (tt, tt))))))))))))))
