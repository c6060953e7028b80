-- A kind of the code has one kind of the definitions.
use Rattle.std.proofs.Common.{◌≡◌, ◌≢◌, ◌∙◌, ◌+◌, ◌==◌, Bool, true, false, ℕ, zero, suc, List, [], ◌∷◌, Some, None, refl, sym, ap, arith, ◌⊎◌, inl, inr}
use Rattle.std.specs.Prelude.{◌||◌, map, slice_get}
use Rattle.std.proofs.lemmas.Option.{same_Some, slice_get_within, slice_get-map}
use Rattle.std.specs.Option.{option_map}
use Rattle.btf_model.specs.Record as model
use Rattle.btf_model.specs.Record.{Kind, Record, kind_number, kind_of}
use Rattle.btf_model.specs.Spelling.{kept}
use Rattle.btf_plain.specs.Kind.{kind}
use Rattle.btf_plain.specs.declared.kind.BtfKind.{BtfKind}
use Rattle.btf_plain.specs.declared.kind.BtfKind.TheVariants as code
use Rattle.btf_model.specs.Walk.{extent, modified}
use Rattle.btf_plain.specs.Head.{headed}
use Rattle.btf_plain.specs.declared.head.Head.{Head}
use Rattle.btf_view.specs.Items.{entries, members, params, variants}
use Rattle.btf_view.specs.Record.{HasHead}

abbrev pub number_of : Kind → ℕ
number_of model.Unknown = 0
number_of model.Int = 1
number_of model.Ptr = 2
number_of model.Array = 3
number_of model.Struct = 4
number_of model.Union = 5
number_of model.Enum = 6
number_of model.Fwd = 7
number_of model.Typedef = 8
number_of model.Volatile = 9
number_of model.Const = 10
number_of model.Restrict = 11
number_of model.Func = 12
number_of model.FuncProto = 13
number_of model.Var = 14
number_of model.DataSec = 15
number_of model.Float = 16
number_of model.DeclTag = 17
number_of model.TypeTag = 18
number_of model.Enum64 = 19

-- the kinds have the numbers of their places
places : ℕ → List Kind → List ℕ
places i [] = []
places i (k ∷ ks) = i ∷ places (suc i) ks

place_is : (i : ℕ) (ks : List Kind) (n m : ℕ) → slice_get (places i ks) n ≡ Some m → i + n ≡ m
unfolding places
place_is i [] n m is = absurd (omega (arith, slice_get_within [] n m is))
place_is i (k ∷ ks) zero m is = omega (arith, same_Some i m is)
place_is i (k ∷ ks) (suc n) m is = omega (arith, place_is (suc i) ks n m is)

numbers : map number_of model.kinds ≡ places 0 model.kinds
unfolding places
numbers = refl

-- the place of a kind is its number
pub placed_kind : (n : ℕ) (k : Kind) → slice_get model.kinds n ≡ Some k → 0 + n ≡ number_of k
placed_kind n k is = place_is 0 model.kinds n (number_of k) (ap (λ (xs : List ℕ). slice_get xs n) (sym numbers) ∙ slice_get-map number_of model.kinds n ∙ ap (option_map number_of) is)

-- a kind has one number
pub one_number : (n m : ℕ) (k : Kind) → slice_get model.kinds n ≡ Some k → slice_get model.kinds m ≡ Some k → n ≡ m
one_number n m k a b = omega (arith, placed_kind n k a, placed_kind m k b)

-- the kind in an info word
pub kind_in : (info number : ℕ) (k : BtfKind) → slice_get model.kinds number ≡ Some (kind k) → number ≡ kind_number info → kind_of info ≡ Some (kind k)
kind_in info number k there is = ap (slice_get model.kinds) (sym is) ∙ there

-- reading retains the kind
pub kept_kind : (k : Kind) (r : Record) → kind_of r.info ≡ Some k → kind_of (kept k r).info ≡ Some k
kept_kind model.Unknown r is = refl
kept_kind model.Int r is = is
kept_kind model.Ptr r is = is
kept_kind model.Array r is = is
kept_kind model.Struct r is = is
kept_kind model.Union r is = is
kept_kind model.Enum r is = is
kept_kind model.Fwd r is = is
kept_kind model.Typedef r is = is
kept_kind model.Volatile r is = is
kept_kind model.Const r is = is
kept_kind model.Restrict r is = is
kept_kind model.Func r is = is
kept_kind model.FuncProto r is = is
kept_kind model.Var r is = is
kept_kind model.DataSec r is = is
kept_kind model.Float r is = is
kept_kind model.DeclTag r is = is
kept_kind model.TypeTag r is = is
kept_kind model.Enum64 r is = is

-- reading does not change what a record gives for its size
pub kept_extent : (k : Kind) (r : Record) → extent (Some k) (kept k r) ≡ extent (Some k) r
kept_extent model.Unknown r = refl
kept_extent model.Int r = refl
kept_extent model.Ptr r = refl
kept_extent model.Array r = refl
kept_extent model.Struct r = refl
kept_extent model.Union r = refl
kept_extent model.Enum r = refl
kept_extent model.Fwd r = refl
kept_extent model.Typedef r = refl
kept_extent model.Volatile r = refl
kept_extent model.Const r = refl
kept_extent model.Restrict r = refl
kept_extent model.Func r = refl
kept_extent model.FuncProto r = refl
kept_extent model.Var r = refl
kept_extent model.DataSec r = refl
kept_extent model.Float r = refl
kept_extent model.DeclTag r = refl
kept_extent model.TypeTag r = refl
kept_extent model.Enum64 r = refl

-- or the type that it modifies
pub kept_modified : (k : Kind) (r : Record) → modified (Some k) (kept k r) ≡ modified (Some k) r
kept_modified model.Unknown r = refl
kept_modified model.Int r = refl
kept_modified model.Ptr r = refl
kept_modified model.Array r = refl
kept_modified model.Struct r = refl
kept_modified model.Union r = refl
kept_modified model.Enum r = refl
kept_modified model.Fwd r = refl
kept_modified model.Typedef r = refl
kept_modified model.Volatile r = refl
kept_modified model.Const r = refl
kept_modified model.Restrict r = refl
kept_modified model.Func r = refl
kept_modified model.FuncProto r = refl
kept_modified model.Var r = refl
kept_modified model.DataSec r = refl
kept_modified model.Float r = refl
kept_modified model.DeclTag r = refl
kept_modified model.TypeTag r = refl
kept_modified model.Enum64 r = refl

-- or its name, if it has one
pub kept_name : (k : Kind) (r : Record) → k ≢ model.Unknown → (kept k r).name ≡ r.name
kept_name model.Unknown r named = absurd (named refl)
kept_name model.Int r named = refl
kept_name model.Ptr r named = refl
kept_name model.Array r named = refl
kept_name model.Struct r named = refl
kept_name model.Union r named = refl
kept_name model.Enum r named = refl
kept_name model.Fwd r named = refl
kept_name model.Typedef r named = refl
kept_name model.Volatile r named = refl
kept_name model.Const r named = refl
kept_name model.Restrict r named = refl
kept_name model.Func r named = refl
kept_name model.FuncProto r named = refl
kept_name model.Var r named = refl
kept_name model.DataSec r named = refl
kept_name model.Float r named = refl
kept_name model.DeclTag r named = refl
kept_name model.TypeTag r named = refl
kept_name model.Enum64 r named = refl

-- what reading retains of a head, by what it retains of the third word
pub head_kept : (k : Kind) (head : Head) (tail : List ℕ) (third : ℕ) → k ≢ model.Unknown → ((k ≡ model.Array) ⊎ (k ≡ model.Fwd) → third ≡ 0) → (k ≢ model.Array → k ≢ model.Fwd → third ≡ head.third) → HasHead (record { name = head.name; info = head.info; third = third }) (kept k (headed head tail))
head_kept model.Unknown head tail third u d s = absurd (u refl)
head_kept model.Array head tail third u d s = record { name = refl; info = refl; third = d (inl refl) }
head_kept model.Fwd head tail third u d s = record { name = refl; info = refl; third = d (inr refl) }
head_kept model.Int head tail third u d s = record { name = refl; info = refl; third = s (λ e. cc) (λ e. cc) }
head_kept model.Ptr head tail third u d s = record { name = refl; info = refl; third = s (λ e. cc) (λ e. cc) }
head_kept model.Struct head tail third u d s = record { name = refl; info = refl; third = s (λ e. cc) (λ e. cc) }
head_kept model.Union head tail third u d s = record { name = refl; info = refl; third = s (λ e. cc) (λ e. cc) }
head_kept model.Enum head tail third u d s = record { name = refl; info = refl; third = s (λ e. cc) (λ e. cc) }
head_kept model.Typedef head tail third u d s = record { name = refl; info = refl; third = s (λ e. cc) (λ e. cc) }
head_kept model.Volatile head tail third u d s = record { name = refl; info = refl; third = s (λ e. cc) (λ e. cc) }
head_kept model.Const head tail third u d s = record { name = refl; info = refl; third = s (λ e. cc) (λ e. cc) }
head_kept model.Restrict head tail third u d s = record { name = refl; info = refl; third = s (λ e. cc) (λ e. cc) }
head_kept model.Func head tail third u d s = record { name = refl; info = refl; third = s (λ e. cc) (λ e. cc) }
head_kept model.FuncProto head tail third u d s = record { name = refl; info = refl; third = s (λ e. cc) (λ e. cc) }
head_kept model.Var head tail third u d s = record { name = refl; info = refl; third = s (λ e. cc) (λ e. cc) }
head_kept model.DataSec head tail third u d s = record { name = refl; info = refl; third = s (λ e. cc) (λ e. cc) }
head_kept model.Float head tail third u d s = record { name = refl; info = refl; third = s (λ e. cc) (λ e. cc) }
head_kept model.DeclTag head tail third u d s = record { name = refl; info = refl; third = s (λ e. cc) (λ e. cc) }
head_kept model.TypeTag head tail third u d s = record { name = refl; info = refl; third = s (λ e. cc) (λ e. cc) }
head_kept model.Enum64 head tail third u d s = record { name = refl; info = refl; third = s (λ e. cc) (λ e. cc) }

-- the kinds with members, and those without, by their numbers
with_members : (k : Kind) → (number_of k == 4 || number_of k == 5) ≡ true → (k ≡ model.Struct) ⊎ (k ≡ model.Union)
with_members model.Struct is = inl refl
with_members model.Union is = inr refl
with_members k is = absurd (let e = is in cc)

without_members : (k : Kind) (r : Record) → (number_of k == 4 || number_of k == 5) ≡ false → members k r ≡ None
without_members model.Struct r is = absurd (let e = is in cc)
without_members model.Union r is = absurd (let e = is in cc)
without_members k r is = refl

by_number : (n : ℕ) (k : Kind) (b : Bool) → slice_get model.kinds n ≡ Some k → (n == 4 || n == 5) ≡ b → (number_of k == 4 || number_of k == 5) ≡ b
by_number n k b has is = ap (λ (m : ℕ). m == 4 || m == 5) (let same : number_of k ≡ n = omega (arith, placed_kind n k has) in same) ∙ is

pub members_by_number : (n : ℕ) (k : Kind) → slice_get model.kinds n ≡ Some k → (n == 4 || n == 5) ≡ true → (k ≡ model.Struct) ⊎ (k ≡ model.Union)
members_by_number n k has is = with_members k (by_number n k true has is)

pub no_members_by_number : (n : ℕ) (k : Kind) (r : Record) → slice_get model.kinds n ≡ Some k → (n == 4 || n == 5) ≡ false → members k r ≡ None
no_members_by_number n k r has is = without_members k r (by_number n k false has is)

-- the kinds without members, variants, parameters or entries
pub no_members : (k : BtfKind) (r : Record) → k ≢ code.Struct → k ≢ code.Union → members (kind k) r ≡ None
no_members code.Struct r s u = absurd (s refl)
no_members code.Union r s u = absurd (u refl)
no_members k r s u = refl

pub no_variants : (k : BtfKind) (r : Record) → k ≢ code.Enum → k ≢ code.Enum64 → variants (kind k) r ≡ None
no_variants code.Enum r s u = absurd (s refl)
no_variants code.Enum64 r s u = absurd (u refl)
no_variants k r s u = refl

pub no_params : (k : BtfKind) (r : Record) → k ≢ code.FuncProto → params (kind k) r ≡ None
no_params code.FuncProto r s = absurd (s refl)
no_params k r s = refl

pub no_entries : (k : BtfKind) (r : Record) → k ≢ code.DataSec → entries (kind k) r ≡ None
no_entries code.DataSec r s = absurd (s refl)
no_entries k r s = refl
