-- The machine value of a `Handle`, and what it owns. Assumes `Logic`.
use Rattle.vbtf.proofs.Steps.{ℕ, List, [], ◌∷◌, refl, Val, vint, ‵, ◌$◌, fjoin, feq_i, Ptr, RawPtr, nothing, owned, uint_Makes}
use Rattle.std.proofs.Common.{◌<◌, ◌^◌, lit<, w32}
use seplogic.Ra.Ura.{Ura}
use lib.Dec.{T}
use mir.Syntax.{ty_ptr, ty_int, ty_struct, tcons, tnil}
use mir.Val.{vstruct, vcons, vnil, has_ty, WT}
use types.Logic.{Logic}
use types.Kit.{Item, Goal, Step, step, fpack}
use denote.RattleType.{RattleType, Valss}
use denote.RawPtr.{block_ptr, null_ptr, ptr_val}
use denote.Builtin.{u32}
use denote.Laws.{Is}
use denote.Struct.Struct.{within}
use denote.Struct.Owning.{shape}
use Rattle.vbtf.specs.Held.{held}
use Rattle.vbtf.specs.contracts.handle.Handle.{the_row, the_type}
use Rattle.vbtf.specs.contracts.loan.Loan as loan
use Rattle.vbtf.proofs.LoanFields as fields

abbrev pub word : Ptr → ℕ → Val
word p n = vstruct (vcons (ptr_val p) (vcons (vint w32 n) vnil))

pub ptr_good : (p : Ptr) → T (has_ty ty_ptr (ptr_val p)) × WT (ptr_val p)
ptr_good (block_ptr b o) = (tt, tt)
ptr_good null_ptr = (tt, record { fits = lit< tt })

pub loan_good : (p : Ptr) → T (has_ty (ty_struct [] (tcons ty_ptr tnil)) (fields.word p)) × WT (fields.word p)
loan_good (block_ptr b o) = (tt, (tt, tt))
loan_good null_ptr = (tt, (record { fits = lit< tt }, tt))

pub handle_good : (p : Ptr) (n : ℕ) → n < 2 ^ 32 → T (has_ty (ty_struct [] (tcons ty_ptr (tcons (ty_int w32) tnil))) (word p n)) × WT (word p n)
handle_good (block_ptr b o) n low = (tt, (tt, (record { fits = low }, tt)))
handle_good null_ptr n low = (tt, (record { fits = lit< tt }, (record { fits = low }, tt)))

module _ {M : Type 1} {𝓤 : Ura M} {𝓛 : Logic 𝓤} {K : Type 0} {Γ : List (Item 𝓤)} {G : Goal 𝓤 𝓛.H} where
  pub handle_in : K → (h : the_row.Denot) → h.state < 2 ^ 32
      → Step K 𝓛 (‵ (the_row.own_val h (word h.at h.state ∷ [])) ∷ Γ) G (‵ (held h.at h.state h.opened h.life h.share) ∷ Γ) G
  handle_in t h low = step (λ s. let v : Val = word h.at h.state in
      nothing t $ owned t u32 (Is u32) (uint_Makes 𝓛 w32) h.state (vint w32 h.state ∷ []) (refl, low) $ fjoin t $
      feq_i t (List Val) (ptr_val h.at ∷ []) (ptr_val h.at ∷ []) refl $ fjoin t $ feq_i t (List Val) (v ∷ []) (v ∷ []) refl $ fjoin t $
      fpack t (Valss (RawPtr ∷ u32 ∷ [])) (within (shape the_type) (h.at, (h.state, tt)) (v ∷ [])) (ptr_val h.at ∷ [], (vint w32 h.state ∷ [], tt)) $ fjoin t $ s)

  pub loan_in : K → (R : RattleType) (d : (loan.the_row R).Denot)
      → Step K 𝓛 (‵ ((loan.the_row R).own_val d (fields.word d.at ∷ [])) ∷ Γ) G (‵ (loan.the_heap R d) ∷ Γ) G
  loan_in t R d = step (λ s. let v : Val = fields.word d.at in
      nothing t $ feq_i t (List Val) (ptr_val d.at ∷ []) (ptr_val d.at ∷ []) refl $ fjoin t $ feq_i t (List Val) (v ∷ []) (v ∷ []) refl $ fjoin t $
      fpack t (Valss (RawPtr ∷ [])) (within (shape (loan.the_type R)) (d.at, tt) (v ∷ [])) (ptr_val d.at ∷ [], tt) $ fjoin t $ s)
