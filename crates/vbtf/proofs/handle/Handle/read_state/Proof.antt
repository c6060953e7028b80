-- `read_state` reads the state.
use Rattle.vbtf.proofs.Steps.{List, [], ◌∷◌, refl, sym, proved, full_share, ftrue, flft, named, Val, vint, ‵, ◌⊛◌, ◌$◌, ◌∵◌, !, qed, done, move, keep, split, join, fsplit3, rewrite, suffices, frame, group, enter, of_opd, load, stop, fld, returns, alloc_all, pass_all, free_all, look_at, through, sets, shows, MutRef, mut_vals, mut_Tells, plain, nothing, owned, opens, closes, peeks, Stays, walk_of, says, stay_ref, Goes-ref, ends_at, uint_Makes}
use Rattle.std.proofs.Common.{w32, ◌<◌, ◌^◌}
use types.Part.{whole, sub, look_in}
use denote.Memory.{cell_at}
use denote.Builtin.{u32}
use denote.Laws.{Is}
use Rattle.vbtf.specs.contracts.handle.Handle.read_state as f
use Rattle.vbtf.proofs.handle.Handle.read_state.Statement.{statement}
use Rattle.vbtf.proofs.handle.Handle.read_state.Code as code
use Rattle.vbtf.specs.contracts.handle.Handle.{the_row as R}
use Rattle.vbtf.proofs.handle.Handle.TheLaws.{lowers}

abbrev stayed : Stays f.ended.signature.params f.ended.kept
stayed = (stay_ref (0 ∷ []) tt (plain (λ _. R)), tt)

pub read_state_spec : {M : Type 1} → statement M
read_state_spec 𝓤 𝓛 𝓜 𝓡 wired =
    let c = f.clauses 𝓛 𝓜.mem 𝓡.returns in let W = walk_of 𝓛 f.ended stayed c in
    proved 𝓛 f.ended stayed c 𝓜 𝓡 (Goes-ref 𝓛 1 0 tt (plain (λ _. R)), tt)
    f.Key.name code.function (code.unfolded 𝓤 𝓛.H 𝓜 𝓡 wired)
    (λ κs. (mut_vals, tt)) (λ κs. (mut_Tells (named 0) κs.0 R, tt)) (λ κs qs bounds a _ are.
    let b = a.0.ref_ptr.0 in let o = a.0.ref_ptr.1 in let h = a.0.now in let vs = mut_vals a.0 in
    let y : W.Ghost = ((κs, qs, bounds, a, (vs, tt)), tt) in let v : Val = vint w32 h.state in
    qed 𝓛 (((‵ (flft κs.0 qs.0) ⊛ ‵ ftrue) ⊛ ‵ ((MutRef (named 0) κs.0 R).own_val a.0 vs) ⊛ ‵ ftrue) ∷ ‵ ftrue ∷ []) ∵
    split ! $ split ! $ move ! (2 ∷ []) $ split ! $ keep ! (0 ∷ 2 ∷ []) $
    enter ! _ _ _ _ _ $ alloc_all ! (λ l. pass_all ! refl ((tt, tt), tt) $
    fsplit3 ! $ move ! (1 ∷ 2 ∷ 3 ∷ []) $ opens ! tt R b o (λ us.
    move ! (1 ∷ []) $ peeks ! R _ (shows 𝓛 R) h us (λ is. move ! (1 ∷ []) $
    let low : h.state < 2 ^ 32 = is.0.1.1.1.0.1 in let word = lowers.val_is h us is in
    let Cell = λ (ws : List Val). ‵ (cell_at full_share R.mir ws b o) in
    rewrite ! 0 Cell word refl $
    sets ! (of_opd ! (load ! (through ! refl (fld ! refl (stop !))) (look_in ! 0 (sub ! 1 refl (whole !))))) refl (tt, record { fits = low }) $
    rewrite ! 0 Cell (sym word) refl $ closes ! tt R h us b o $
    returns ! (look_at ! 0 refl) $ free_all ! refl $ move ! (3 ∷ []) $
    suffices ! _ (ends_at 𝓛 f.ended stayed c y v h.state (h, tt) (tt, tt)) $ says ! (refl, refl) $
    group ! 3 $ nothing ! $ move ! (1 ∷ 0 ∷ []) $ join ! $ nothing ! $ move ! (2 ∷ 0 ∷ []) $ join ! $ frame ! $ frame ! $
    owned ! u32 (Is u32) (uint_Makes 𝓛 w32) h.state (v ∷ []) (refl, low) $ done !))))
