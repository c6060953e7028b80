-- The data field of a `Loan`. Assumes `Logic`.
use Rattle.std.proofs.Common.{◌≡◌, List, [], ◌∷◌, ◌++◌, refl, ap, ◌∙◌}
use seplogic.Ra.Ura.{Ura}
use mir.Val.{Val, vstruct, vcons, vnil, of_list}
use types.Logic.{Logic}
use denote.RattleType.{RattleType}
use denote.Laws.{Is}
use denote.Opens.{Opens}
use denote.Copied.{Struct-Copied}
use denote.RawPtr.{Ptr, ptr_val}
use denote.Struct.Laws.{RawPtr-copy}
use denote.Struct.Struct.{Struct}
use denote.Struct.Owning.{shape}
use Rattle.vbtf.specs.contracts.loan.Loan as loan

abbrev pub word : Ptr → Val
word p = vstruct (vcons (ptr_val p) vnil)

module _ (R : RattleType) where
  abbrev pub Data : RattleType
  Data = Struct (shape (loan.the_type R))

  pub word_is : (p : Ptr) (vs : List Val) → Is Data (p, tt) vs → vs ≡ word p ∷ []
  word_is p vs is = is.1.0 ∙ ap (λ (ws : List Val). vstruct (of_list (ws ++ [])) ∷ []) is.1.1.0

  pub opened : {M : Type 1} {𝓤 : Ura M} (𝓛 : Logic 𝓤) → Opens 𝓛 Data
  opened {M} {𝓤 = 𝓤} 𝓛 = (Struct-Copied 𝓛 (shape (loan.the_type R)) (refl, tt) (RawPtr-copy.copied M 𝓤 𝓛, tt)).opens
