-- How the kinds of types give their size.
use Rattle.std.proofs.Common.{◌≡◌, ◌≢◌, ◌∙◌, ℕ, Option, Some, slice_index_or, refl, sym, ap, arith}
use Rattle.std.specs.Prelude.{slice_get}
use Rattle.btf_model.specs.Record as model
use Rattle.btf_model.specs.Record.{Kind, Record, kind_of}
use Rattle.btf_model.specs.Walk.{Bytes, Times, NoExtent, extent}
use Rattle.btf_plain.specs.Head.{headed}
use Rattle.btf_plain.specs.declared.head.Head.{Head}
use Rattle.btf_view.specs.Record.{IsReadAs}
use Rattle.btf_view.specs.declared.sizing.Sizing.{Sizing}
use Rattle.btf_view.specs.declared.sizing.Sizing.TheVariants.{Own, Referred, Other}
use Rattle.btf_view.specs.declared.sizing.TheConstants.{SIZINGS}
use Rattle.btf_view.proofs.KindNames.{kept_extent, kept_kind, number_of, one_number, placed_kind}

-- the kind of a record is that of the head that is read
pub kind_read : (head : Head) (r : Record) (h : IsReadAs head r) → kind_of r.info ≡ Some h.kind
kind_read head r h = ap (λ (x : Record). kind_of x.info) h.is ∙ kept_kind h.kind (headed head h.tail) h.has

-- and so is what it gives for its size
pub read_extent : (head : Head) (r : Record) (h : IsReadAs head r) → extent (Some h.kind) (headed head h.tail) ≡ extent (kind_of r.info) r
read_extent head r h =
    sym (ap (λ (o : Option Kind). extent o r) (kind_read head r h) ∙ ap (extent (Some h.kind)) h.is ∙ kept_extent h.kind (headed head h.tail))

-- a record of kind 3 is an ARRAY
pub array_read : (head : Head) (r : Record) (n : ℕ) (h : IsReadAs head r) → slice_get model.kinds n ≡ Some h.kind → n ≡ 3 → kind_of r.info ≡ Some model.Array
array_read head r n h has is = kind_read head r h ∙ sym has ∙ ap (slice_get model.kinds) is

-- the table at the number of a kind
at_kind : (n : ℕ) (k : Kind) (s : Sizing) → slice_get model.kinds n ≡ Some k → slice_index_or SIZINGS n Own ≡ s → slice_index_or SIZINGS (number_of k) Own ≡ s
at_kind n k s has is = ap (λ (m : ℕ). slice_index_or SIZINGS m Own) (let same : number_of k ≡ n = omega (arith, placed_kind n k has) in same) ∙ is

-- the sizes of the kinds, by their places in the table
pub pointer_size : (n : ℕ) (k : Kind) (r : Record) → slice_get model.kinds n ≡ Some k → n ≡ 2 → Bytes 8 ≡ extent (Some k) r
pointer_size n k r has is = sym (ap (λ (o : Option Kind). extent o r) (sym has ∙ ap (slice_get model.kinds) is))

pub own_size : (n : ℕ) (k : Kind) (r : Record) → slice_get model.kinds n ≡ Some k → slice_index_or SIZINGS n Own ≡ Own → n ≢ 2 → Bytes r.third ≡ extent (Some k) r
own_size n model.Int r has is other = refl
own_size n model.Ptr r has is other = absurd (other (one_number n 2 model.Ptr has refl))
own_size n model.Struct r has is other = refl
own_size n model.Union r has is other = refl
own_size n model.Enum r has is other = refl
own_size n model.DataSec r has is other = refl
own_size n model.Float r has is other = refl
own_size n model.Enum64 r has is other = refl
own_size n k r has is other = absurd (let e = at_kind n k Own has is in cc)

pub referred_size : (n : ℕ) (k : Kind) (r : Record) → slice_get model.kinds n ≡ Some k → slice_index_or SIZINGS n Own ≡ Referred → Times 1 r.third ≡ extent (Some k) r
referred_size n model.Typedef r has is = refl
referred_size n model.Volatile r has is = refl
referred_size n model.Const r has is = refl
referred_size n model.Restrict r has is = refl
referred_size n model.FuncProto r has is = refl
referred_size n model.Var r has is = refl
referred_size n model.DeclTag r has is = refl
referred_size n model.TypeTag r has is = refl
referred_size n k r has is = absurd (let e = at_kind n k Referred has is in cc)

pub no_size : (n : ℕ) (k : Kind) (r : Record) → slice_get model.kinds n ≡ Some k → slice_index_or SIZINGS n Own ≡ Other → n ≢ 3 → NoExtent ≡ extent (Some k) r
no_size n model.Unknown r has is other = refl
no_size n model.Array r has is other = absurd (other (one_number n 3 model.Array has refl))
no_size n model.Fwd r has is other = refl
no_size n model.Func r has is other = refl
no_size n k r has is other = absurd (let e = at_kind n k Other has is in cc)
