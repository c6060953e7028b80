-- `none` owns nothing.
use Rattle.vbtf.proofs.Steps.{◌≡◌, [], ◌∷◌, refl, lit<, proved, ftrue, fact, ‵, raw, ◌$◌, ◌∵◌, !, qed, by, keep, drop, use0, enter, lit, no_more, and_then, returns, alloc_all, pass_all, free_all, look_at, sets, nothing, on_entry, Stays, walk_of}
use types.Part.{agg}
use contract.Monad.{fact_i}
use base.Logic.{emp}
use base.Fraction.{full_share}
use denote.RawPtr.{null_ptr}
use Rattle.std.specs.Prelude.{None}
use Rattle.btf_model.specs.Table.{empty_table}
use Rattle.std.proofs.raw_atomic.Walks.{leaves}
use Rattle.vbtf.specs.contracts.handle.Handle.none as f
use Rattle.vbtf.proofs.handle.Handle.none.Statement.{statement}
use Rattle.vbtf.proofs.handle.Handle.none.Code as code
use Rattle.vbtf.specs.contracts.handle.Handle.{the_row as R}
use Rattle.vbtf.proofs.HandleSteps.{word, handle_in}

abbrev stayed : Stays f.ended.signature.params f.ended.kept
stayed = tt

pub none_spec : {M : Type 1} → statement M
none_spec 𝓤 𝓛 𝓜 𝓡 wired =
    let c = f.clauses 𝓛 𝓜.mem 𝓡.returns in
    proved 𝓛 f.ended stayed c 𝓜 𝓡 tt
    f.Key.name code.function (code.unfolded 𝓤 𝓛.H 𝓜 𝓡 wired)
    (λ κs. tt) (λ κs. tt) (λ κs qs bounds a g are.
    let y : (walk_of 𝓛 f.ended stayed c).Ghost = ((κs, qs, bounds, a, tt), g) in
    let made : R.Denot = record { at = null_ptr; state = 0; opened = record { btf = empty_table; ext = None; index = None; indexed = tt }; life = 0; share = full_share } in
    let Same : Type 0 = 0 ≡ 0 in
    qed 𝓛 (raw (on_entry 𝓛 f.signature κs qs a tt) ∷ ‵ ftrue ∷ []) ∵ drop ! $ keep ! (0 ∷ []) $
    enter ! _ _ _ _ _ $ alloc_all ! (λ l. pass_all ! refl tt $
    sets ! (agg ! (and_then ! (lit ! tt) (and_then ! (lit ! tt) (no_more !)))) refl (tt, (record { fits = lit< tt }, (record { fits = lit< tt }, tt))) $
    handle_in ! made (lit< tt) $ use0 𝓛 (raw (fact 𝓤 Same)) (fact_i 𝓤 Same (emp 𝓤) refl) $ nothing ! $ nothing ! $
    returns ! (look_at ! 0 refl) $ free_all ! refl $ keep ! (0 ∷ 1 ∷ 3 ∷ 2 ∷ []) $ by ! (leaves 𝓛 f.ended stayed c y (word null_ptr 0) made tt tt)))
