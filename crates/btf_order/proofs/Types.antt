-- The types that a STRUCT or UNION has by value.
use Rattle.std.proofs.Common.{◌≡◌, ℕ, Bool, true, false, List, [], ◌∷◌, Some, None, Option, refl, ap, sym, subst, ◌∙◌, inl, inr, slice_get}
use Rattle.std.specs.Prelude.{map}
use Rattle.std.specs.List.{flat_map}
use Rattle.btf_model.specs.Record as model
use Rattle.btf_model.specs.Record.{Record, kind_of}
use Rattle.std.specs.Option.{option_map}
use Rattle.std.proofs.lemmas.Option.{slice_get-map}
use Rattle.btf_model.specs.Compat.{parameter_types}
use Rattle.btf_plain.specs.Items.{member_words, param_words}
use Rattle.btf_plain.specs.declared.items.BtfParam.{BtfParam}
use Rattle.btf_plain.specs.declared.items.BtfMember.{BtfMember}
use Rattle.btf_records.specs.BtfType.{record_of, type_kind}
use Rattle.btf_records.specs.declared.btf_type.BtfType.{BtfType}
use Rattle.btf_records.specs.declared.btf_type.BtfType.TheVariants as variants
use Rattle.btf_records.specs.declared.union.Union.{Union}
use Rattle.btf_order_model.specs.Order.{member_types, value_types}
use Rattle.btf_order.specs.declared.shape.Node.{Node}
use Rattle.btf_order_model.specs.Uses.{uses_of, uses_by}
use Rattle.btf_order.specs.Shape.{ChildIs, member_type, param_type}
use Rattle.btf_order.proofs.Opening.{by}

-- the types of the members that are written as words
types_back : (ms : List BtfMember) → member_types (flat_map member_words ms) ≡ map member_type ms
types_back [] = refl
types_back (m ∷ ms) = ap (λ (rest : List ℕ). m.btf_type ∷ rest) (types_back ms)

struct_types : (b : BtfType) (t : Record) (ms : List BtfMember) → b ≡ variants.Struct t → kind_of (record_of b).info ≡ Some (type_kind b) → t.tail ≡ flat_map member_words ms → map member_type ms ≡ value_types (record_of b)
struct_types b t ms is kind tail =
    let here : kind_of t.info ≡ Some model.Struct = subst (λ (x : BtfType). kind_of (record_of x).info ≡ Some (type_kind x)) is kind in
    rw (is, here, tail) (sym (types_back ms))

union_types : (b : BtfType) (u : Union) (ms : List BtfMember) → b ≡ variants.Union u → kind_of (record_of b).info ≡ Some (type_kind b) → u.words.tail ≡ flat_map member_words ms → map member_type ms ≡ value_types (record_of b)
union_types b u ms is kind tail =
    let here : kind_of u.words.info ≡ Some model.Union = subst (λ (x : BtfType). kind_of (record_of x).info ≡ Some (type_kind x)) is kind in
    rw (is, here, tail) (sym (types_back ms))

-- a type that is reached by value is so from everywhere
from_anywhere : (types : List ℕ) (through : Bool) (index : ℕ) (child : Option Node) → ChildIs types false index child → ChildIs types through index child
from_anywhere types through index (Some node) (small, inl none) = (small, inl none)
from_anywhere types through index (Some node) (small, inr (here, pointer)) = (small, inr (here, λ e. absurd (no_pointer (pointer e)))) where
  no_pointer : false ≡ true → ⊥
  no_pointer f = cc
from_anywhere types through index None h = h

pub struct_child : (b : BtfType) (t : Record) (ms : List BtfMember) (through : Bool) (index : ℕ) (child : Option Node) → b ≡ variants.Struct t → kind_of (record_of b).info ≡ Some (type_kind b) → t.tail ≡ flat_map member_words ms
    → ChildIs (map member_type ms) false index child → ChildIs (value_types (record_of b)) through index child
struct_child b t ms through index child is kind tail h =
    from_anywhere (value_types (record_of b)) through index child (subst (λ (ts : List ℕ). ChildIs ts false index child) (struct_types b t ms is kind tail) h)

pub union_child : (b : BtfType) (u : Union) (ms : List BtfMember) (through : Bool) (index : ℕ) (child : Option Node) → b ≡ variants.Union u → kind_of (record_of b).info ≡ Some (type_kind b) → u.words.tail ≡ flat_map member_words ms
    → ChildIs (map member_type ms) false index child → ChildIs (value_types (record_of b)) through index child
union_child b u ms through index child is kind tail h =
    from_anywhere (value_types (record_of b)) through index child (subst (λ (ts : List ℕ). ChildIs ts false index child) (union_types b u ms is kind tail) h)

-- ---- uses

-- the use of an element at an index
pub use_at : {X : Type 0} (type_of : X → ℕ) (xs : List X) (i : ℕ) (x : X) (behind : Bool) → slice_get xs i ≡ Some x → Some (by (type_of x) behind) ≡ slice_get (uses_of (map type_of xs) behind) i
use_at type_of xs i x behind at =
    sym (slice_get-map (λ type. by type behind) (map type_of xs) i ∙ ap (option_map (λ type. by type behind)) (slice_get-map type_of xs i ∙ ap (option_map type_of) at))

-- the words of parameters have their types
params_back : (ps : List BtfParam) → parameter_types (flat_map param_words ps) ≡ map param_type ps
params_back [] = refl
params_back (p ∷ ps) = ap (λ (rest : List ℕ). p.btf_type ∷ rest) (params_back ps)

pub struct_uses : (b : BtfType) (t : Record) (ms : List BtfMember) (through : Bool) → b ≡ variants.Struct t → kind_of (record_of b).info ≡ Some (type_kind b) → t.tail ≡ flat_map member_words ms → uses_of (map member_type ms) false ≡ uses_by (kind_of (record_of b).info) (record_of b) through
struct_uses b t ms through is kind tail =
    let here : kind_of t.info ≡ Some model.Struct = subst (λ (x : BtfType). kind_of (record_of x).info ≡ Some (type_kind x)) is kind in
    rw (is, here, tail) (ap (λ ts. uses_of ts false) (sym (types_back ms)))

pub union_uses : (b : BtfType) (u : Union) (ms : List BtfMember) (through : Bool) → b ≡ variants.Union u → kind_of (record_of b).info ≡ Some (type_kind b) → u.words.tail ≡ flat_map member_words ms → uses_of (map member_type ms) false ≡ uses_by (kind_of (record_of b).info) (record_of b) through
union_uses b u ms through is kind tail =
    let here : kind_of u.words.info ≡ Some model.Union = subst (λ (x : BtfType). kind_of (record_of x).info ≡ Some (type_kind x)) is kind in
    rw (is, here, tail) (ap (λ ts. uses_of ts false) (sym (types_back ms)))

pub prototype_uses : (b : BtfType) (t : Record) (ps : List BtfParam) (through : Bool) → b ≡ variants.FuncProto t → kind_of (record_of b).info ≡ Some (type_kind b) → t.tail ≡ flat_map param_words ps → uses_of (t.third ∷ map param_type ps) through ≡ uses_by (kind_of (record_of b).info) (record_of b) through
prototype_uses b t ps through is kind tail =
    let here : kind_of t.info ≡ Some model.FuncProto = subst (λ (x : BtfType). kind_of (record_of x).info ≡ Some (type_kind x)) is kind in
    rw (is, here, tail) (ap (λ ts. uses_of (t.third ∷ ts) through) (sym (params_back ps)))
