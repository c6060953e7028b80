-- The records of a `Btf` have kinds.
use Rattle.std.proofs.Common.{◌≡◌, ℕ, zero, suc, List, [], ◌∷◌, ◌++◌, length, refl, sym, ap, subst, ◌∙◌, arith, inl, inr, Some, slice_get}
use Rattle.std.proofs.lemmas.Bool.{cases_lt}
use Rattle.std.proofs.lemmas.List.{length-append}
use Rattle.std.proofs.lemmas.Option.{same_Some, slice_get_within}
use Rattle.btf_model.specs.declared.endianness.Endianness.{Endianness}
use Rattle.btf_model.specs.Record.{Record, Kind, Unknown, Int, Ptr, Array, Struct, Union, Enum, Fwd, Typedef, Volatile, Const, Restrict, Func, FuncProto, Var, DataSec, Float, DeclTag, TypeTag, Enum64, kind_of, unknown}
use Rattle.btf_model.specs.Spelling.{kept, IsRecord}
use Rattle.btf_model.specs.Blob.{AreRecords}
use Rattle.btf_table.specs.Denied.{AllHaveKinds}
use Rattle.btf_model.proofs.Blobs.{slice_get-append_left, slice_get-push}

kept_kind : (k : Kind) (r : Record) → kind_of r.info ≡ Some k → kind_of (kept k r).info ≡ Some k
kept_kind Unknown r is = refl
kept_kind Int r is = is
kept_kind Ptr r is = is
kept_kind Array r is = is
kept_kind Struct r is = is
kept_kind Union r is = is
kept_kind Enum r is = is
kept_kind Fwd r is = is
kept_kind Typedef r is = is
kept_kind Volatile r is = is
kept_kind Const r is = is
kept_kind Restrict r is = is
kept_kind Func r is = is
kept_kind FuncProto r is = is
kept_kind Var r is = is
kept_kind DataSec r is = is
kept_kind Float r is = is
kept_kind DeclTag r is = is
kept_kind TypeTag r is = is
kept_kind Enum64 r is = is

read_has_kind : (order : Endianness) (bytes : List ℕ) (r : Record) → IsRecord order bytes r → (k : Kind) × (kind_of r.info ≡ Some k)
read_has_kind order bytes r h = (h.0, ap (λ (x : Record). kind_of x.info) h.4 ∙ kept_kind h.0 h.1 h.2.kind)

read_have_kinds : (order : Endianness) (bytes : List ℕ) (rs : List Record) → AreRecords order bytes rs → AllHaveKinds rs
read_have_kinds order bytes [] h id r is = absurd (omega (arith, slice_get_within [] id r is))
read_have_kinds order bytes (x ∷ rs) h zero r is = subst (λ (y : Record). (k : Kind) × (kind_of y.info ≡ Some k)) (same_Some x r is) (read_has_kind order h.0 x h.3)
read_have_kinds order bytes (x ∷ rs) h (suc id) r is = read_have_kinds order h.1 rs h.4 id r is

-- if Unknown comes first
pub after_unknown : (rs : List Record) → AllHaveKinds rs → AllHaveKinds (unknown ∷ rs)
after_unknown rs h zero r is = (Unknown, ap (λ (y : Record). kind_of y.info) (sym (same_Some unknown r is)))
after_unknown rs h (suc id) r is = h id r is

pub only_unknown : AllHaveKinds (unknown ∷ [])
only_unknown = after_unknown [] (λ id r is. absurd (omega (arith, slice_get_within [] id r is)))

-- the records of a type section
pub section_has_kinds : (order : Endianness) (bytes : List ℕ) (rs records : List Record) → records ≡ unknown ∷ rs → AreRecords order bytes rs → AllHaveKinds records
section_has_kinds order bytes rs records is h = subst AllHaveKinds (sym is) (after_unknown rs (read_have_kinds order bytes rs h))

-- one more
pub one_more_kind : (rs : List Record) (x : Record) (k : Kind) → AllHaveKinds rs → kind_of x.info ≡ Some k → AllHaveKinds (rs ++ x ∷ [])
one_more_kind rs x k h kind id r is =
    elim (cases_lt id (length rs)) [
      | inl lt ↦ h id r (sym (slice_get-append_left rs (x ∷ []) id lt) ∙ is)
      | inr le ↦
          let at : length rs ≡ id = omega (arith, le, slice_get_within (rs ++ x ∷ []) id r is, length-append rs (x ∷ [])) in
          let same : x ≡ r = same_Some x r (sym (slice_get-push rs x) ∙ ap (slice_get (rs ++ x ∷ [])) at ∙ is) in
          (k, ap (λ (y : Record). kind_of y.info) (sym same) ∙ kind)
    ]
