-- The number of a kind, from the info word of a record.
use Rattle.std.proofs.Common.{◌≡◌, ℕ, zero, suc, ◌+◌, List, [], ◌∷◌, Some, slice_get, refl, sym, ap, ◌∙◌, arith, take}
use Rattle.std.specs.Prelude.{map}
use Rattle.std.specs.Option.{option_map}
use Rattle.std.proofs.lemmas.Option.{same_Some, slice_get_within, slice_get-map}
use Rattle.btf_model.specs.Record as model
use Rattle.btf_model.specs.Record.{Kind, highest_kind, kinds, kind_number, kind_of}
use Rattle.btf_plain.specs.Kind.{kind}
use Rattle.btf_plain.specs.declared.kind.BtfKind.{BtfKind}
use Rattle.btf_plain.specs.declared.kind.BtfKind.TheVariants as variants
use Rattle.btf_relocate.specs.Index.{kind_code}

abbrev number_of : Kind → ℕ
number_of model.Unknown = 0
number_of model.Int = 1
number_of model.Ptr = 2
number_of model.Array = 3
number_of model.Struct = 4
number_of model.Union = 5
number_of model.Enum = 6
number_of model.Fwd = 7
number_of model.Typedef = 8
number_of model.Volatile = 9
number_of model.Const = 10
number_of model.Restrict = 11
number_of model.Func = 12
number_of model.FuncProto = 13
number_of model.Var = 14
number_of model.DataSec = 15
number_of model.Float = 16
number_of model.DeclTag = 17
number_of model.TypeTag = 18
number_of model.Enum64 = 19

same_number : (k : BtfKind) → kind_code k ≡ number_of (kind k)
same_number variants.Unknown = refl
same_number variants.Int = refl
same_number variants.Ptr = refl
same_number variants.Array = refl
same_number variants.Struct = refl
same_number variants.Union = refl
same_number variants.Enum = refl
same_number variants.Fwd = refl
same_number variants.Typedef = refl
same_number variants.Volatile = refl
same_number variants.Const = refl
same_number variants.Restrict = refl
same_number variants.Func = refl
same_number variants.FuncProto = refl
same_number variants.Var = refl
same_number variants.DataSec = refl
same_number variants.Float = refl
same_number variants.DeclTag = refl
same_number variants.TypeTag = refl
same_number variants.Enum64 = refl

-- the kinds have the numbers of their places
places : ℕ → List Kind → List ℕ
places i [] = []
places i (k ∷ ks) = i ∷ places (suc i) ks

place_is : (i : ℕ) (ks : List Kind) (n m : ℕ) → slice_get (places i ks) n ≡ Some m → i + n ≡ m
unfolding places
place_is i [] n m is = absurd (omega (arith, slice_get_within [] n m is))
place_is i (k ∷ ks) zero m is = omega (arith, same_Some i m is)
place_is i (k ∷ ks) (suc n) m is = omega (arith, place_is (suc i) ks n m is)

numbers : map number_of (take (highest_kind + 1) kinds) ≡ places 0 (take (highest_kind + 1) kinds)
unfolding places
numbers = refl

-- the number of the kind that an info word has
pub code_of_info : (k : BtfKind) (info : ℕ) → kind_of info ≡ Some (kind k) → kind_code k ≡ kind_number info
code_of_info k info is =
    let n = kind_number info in
    let all = take (highest_kind + 1) kinds in
    same_number k ∙ sym (place_is 0 all n (number_of (kind k)) (ap (λ (xs : List ℕ). slice_get xs n) (sym numbers) ∙ slice_get-map number_of all n ∙ ap (option_map number_of) is)) ∙ omega arith
