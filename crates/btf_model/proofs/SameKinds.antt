-- Two kinds are equal or differ.
use Rattle.std.proofs.Common.{◌≡◌, ◌≢◌, ℕ, sym, ap, ◌∙◌, refl, inl, inr, Some}
use Rattle.std.specs.Prelude.{◌⊎◌, slice_get}
use Rattle.std.proofs.lemmas.Bool.{cases_eq}
use Rattle.std.proofs.lemmas.Option.{same_Some}
use Rattle.btf_model.specs.Record.{Kind, Unknown, Int, Ptr, Array, Struct, Union, Enum, Fwd, Typedef, Volatile, Const, Restrict, Func, FuncProto, Var, DataSec, Float, DeclTag, TypeTag, Enum64, kinds}

-- the number of a kind
number : Kind → ℕ
number Unknown = 0
number Int = 1
number Ptr = 2
number Array = 3
number Struct = 4
number Union = 5
number Enum = 6
number Fwd = 7
number Typedef = 8
number Volatile = 9
number Const = 10
number Restrict = 11
number Func = 12
number FuncProto = 13
number Var = 14
number DataSec = 15
number Float = 16
number DeclTag = 17
number TypeTag = 18
number Enum64 = 19

kind_back : (k : Kind) → slice_get kinds (number k) ≡ Some k
unfolding number
kind_back Unknown = refl
kind_back Int = refl
kind_back Ptr = refl
kind_back Array = refl
kind_back Struct = refl
kind_back Union = refl
kind_back Enum = refl
kind_back Fwd = refl
kind_back Typedef = refl
kind_back Volatile = refl
kind_back Const = refl
kind_back Restrict = refl
kind_back Func = refl
kind_back FuncProto = refl
kind_back Var = refl
kind_back DataSec = refl
kind_back Float = refl
kind_back DeclTag = refl
kind_back TypeTag = refl
kind_back Enum64 = refl

pub same_kind_or_not : (k q : Kind) → (k ≡ q) ⊎ (k ≢ q)
same_kind_or_not k q =
    elim (cases_eq (number k) (number q)) [
      | inl is ↦ inl (same_Some k q (sym (kind_back k) ∙ ap (λ (n : ℕ). slice_get kinds n) is ∙ kind_back q))
      | inr other ↦ inr (λ e. other (ap number e))
    ]
