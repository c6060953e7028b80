-- The items of a type, and the errors of a call that writes them.
use Rattle.std.proofs.Common.{◌≡◌, ◌≢◌, ◌∙◌, ◌≤◌, ◌+◌, ◌*◌, ◌^◌, ℕ, List, [], ◌∷◌, length, take, Option, Some, None, Result, Ok, Err, refl, sym, ap, subst, inl, inr}
use Rattle.std.specs.Prelude.{map, slice_get}
use Rattle.std.specs.List.{flat_map}
use Rattle.std.specs.Prelude.{IsErrAnd}
use Rattle.std.proofs.lemmas.Result.{err_from_is_err_and}
use Rattle.btf_model.specs.Record.{Kind, Record, kind_of}
use Rattle.btf_model.specs.Refusal as refusals
use Rattle.btf_plain.specs.Items.{member_words, enum_words, enum64_words, param_words, code_entry_words}
use Rattle.btf_plain.specs.declared.error.BtfError.{BtfError}
use Rattle.btf_plain.specs.declared.error.BtfError.TheVariants as errors
use Rattle.btf_plain.specs.declared.items.BtfMember.{BtfMember}
use Rattle.btf_plain.specs.declared.items.BtfEnum.{BtfEnum}
use Rattle.btf_plain.specs.declared.items.BtfEnum64.{BtfEnum64}
use Rattle.btf_plain.specs.declared.items.BtfParam.{BtfParam}
use Rattle.btf_plain.specs.declared.items.DataSecEntry.{DataSecEntry}
use Rattle.btf_records.specs.BtfType.{record_of, type_kind}
use Rattle.btf_records.specs.declared.btf_type.BtfType.{BtfType}
use Rattle.btf_records.specs.declared.btf_type.BtfType.TheVariants as types
use Rattle.btf_view.specs.Forms.{Begins, ListsItems}
use Rattle.btf_view.specs.Items.{ItemsOf, member_form, members, member_forms, variant_form, variants, variant_forms, wide_variant_forms, param_form, params, param_forms, entry_form, entries, entry_forms}

-- the forms of items are the items in their words
pub members_listed : (info : ℕ) (ms : List BtfMember) → member_forms info (flat_map member_words ms) ≡ map (λ m. member_form info m.name_offset m.btf_type m.offset) ms
members_listed info [] = refl
members_listed info (m ∷ ms) = ap (λ xs. member_form info m.name_offset m.btf_type m.offset ∷ xs) (members_listed info ms)

pub variants_listed : (info : ℕ) (vs : List BtfEnum) → variant_forms info (flat_map enum_words vs) ≡ map (λ v. variant_form info 32 v.name_offset v.value) vs
variants_listed info [] = refl
variants_listed info (v ∷ vs) = ap (λ xs. variant_form info 32 v.name_offset v.value ∷ xs) (variants_listed info vs)

pub wide_variants_listed : (info : ℕ) (vs : List BtfEnum64) → wide_variant_forms info (flat_map enum64_words vs) ≡ map (λ v. variant_form info 64 v.name_offset (v.value_high * 2 ^ 32 + v.value_low)) vs
wide_variants_listed info [] = refl
wide_variants_listed info (v ∷ vs) = ap (λ xs. variant_form info 64 v.name_offset (v.value_high * 2 ^ 32 + v.value_low) ∷ xs) (wide_variants_listed info vs)

pub params_listed : (ps : List BtfParam) → param_forms (flat_map param_words ps) ≡ map (λ p. param_form p.name_offset p.btf_type) ps
params_listed [] = refl
params_listed (p ∷ ps) = ap (λ xs. param_form p.name_offset p.btf_type ∷ xs) (params_listed ps)

pub entries_listed : (es : List DataSecEntry) → entry_forms (flat_map code_entry_words es) ≡ map (λ e. entry_form e.btf_type e.offset e.size) es
entries_listed [] = refl
entries_listed (e ∷ es) = ap (λ xs. entry_form e.btf_type e.offset e.size ∷ xs) (entries_listed es)

-- the items of the type of an id are written
pub listed : {X : Type 0} (items_of : Kind → Record → Option (List X)) (records : List Record) (id : ℕ) (t u : BtfType) (xs ys old new : List X) (count : ℕ)
    → slice_get records id ≡ Some (record_of t) → kind_of (record_of t).info ≡ Some (type_kind t) → t ≡ u
    → items_of (type_kind u) (record_of u) ≡ Some xs → xs ≡ ys → Begins (take (length old) ys) old new count
    → ListsItems old new (Ok count) (ItemsOf items_of records id)
listed {X} items_of records id t u xs ys old new count there kind is items same begins = (
  xs,
  subst (λ (zs : List X). Begins (take (length old) zs) old new count) (sym same) begins,
  (
    type_kind u,
    record_of u,
    there ∙ ap (λ (w : BtfType). Some (record_of w)) is,
    subst (λ (w : BtfType). kind_of (record_of w).info ≡ Some (type_kind w)) is kind,
    items,
  ),
)

-- no type has the id
pub unknown : {X : Type 0} (items_of : Kind → Record → Option (List X)) (records : List Record) (id : ℕ) (old : List X) (e : BtfError) (r : Result ℕ BtfError)
    → IsErrAnd r (λ y. y ≡ e) → length records ≤ id → e ≡ errors.UnknownBtfType id → ListsItems old old r (ItemsOf items_of records id)
unknown items_of records id old e r err past is =
    let p = err_from_is_err_and r err in
    subst (λ (x : Result ℕ BtfError). ListsItems old old x (ItemsOf items_of records id)) (sym (p.1 ∙ ap (λ (x : BtfError). Err x) (p.2 ∙ is)))
    (refl, refusals.UnknownBtfType id, refl, inl (past, refl))

-- the type has another kind
pub unexpected : {X : Type 0} (items_of : Kind → Record → Option (List X)) (records : List Record) (id : ℕ) (t : BtfType) (old : List X)
    → slice_get records id ≡ Some (record_of t) → kind_of (record_of t).info ≡ Some (type_kind t) → items_of (type_kind t) (record_of t) ≡ None
    → ListsItems old old (Err (errors.UnexpectedBtfType id)) (ItemsOf items_of records id)
unexpected items_of records id t old there kind none =
    (refl, refusals.UnexpectedBtfType id, refl, inr (type_kind t, record_of t, there, kind, none, refl))

-- the kinds without members, variants, parameters or entries
pub no_members : (t : BtfType) → ((r : _) → t ≢ types.Struct r) → ((r : _) → t ≢ types.Union r) → members (type_kind t) (record_of t) ≡ None
no_members (types.Struct r) s u = absurd (s r refl)
no_members (types.Union r) s u = absurd (u r refl)
no_members t s u = refl

pub no_variants : (t : BtfType) → ((r : _) → t ≢ types.Enum r) → ((r : _) → t ≢ types.Enum64 r) → variants (type_kind t) (record_of t) ≡ None
no_variants (types.Enum r) s u = absurd (s r refl)
no_variants (types.Enum64 r) s u = absurd (u r refl)
no_variants t s u = refl

pub no_params : (t : BtfType) → ((r : _) → t ≢ types.FuncProto r) → params (type_kind t) (record_of t) ≡ None
no_params (types.FuncProto r) s = absurd (s r refl)
no_params t s = refl

pub no_entries : (t : BtfType) → ((r : _) → t ≢ types.DataSec r) → entries (type_kind t) (record_of t) ≡ None
no_entries (types.DataSec r) s = absurd (s r refl)
no_entries t s = refl
