-- The variants of a type, and the value of one of them.
use Rattle.std.proofs.Common.{◌≡◌, ℕ, ◌<◌, List, [], ◌∷◌, length, map, Option, None, Some, Result, Ok, Err, refl, sym, ap, subst, ◌∙◌, inl, inr}
use Rattle.std.specs.Prelude.{slice_get, IfSome}
use Rattle.std.specs.List.{flat_map}
use Rattle.std.proofs.lemmas.Option.{slice_get_within, IfSome_then}
use Rattle.btf_model.specs.Record as kinds
use Rattle.btf_model.specs.Record.{Kind, Record, kind_of}
use Rattle.btf_model.specs.Refusal.{Refusal, UnexpectedBtfType}
use Rattle.btf_model.specs.Table.{Table, Variant, Fallback, UnionRecord}
use Rattle.btf_model.specs.Walk.{Resolves}
use Rattle.btf_model.specs.Ext.{Then}
use Rattle.btf_model.specs.Value.{enum_variants, enum64_variants, variants_by, HasVariants, FindsVariant, Value}
use Rattle.btf_model.proofs.Values.{one_value}
use Rattle.btf_model.proofs.Walks.{resolved_is_known}
use Rattle.btf_plain.specs.Error.{MeetsOrNoMemory, IsOrNoMemory, Meets, refusal_of}
use Rattle.btf_plain.specs.declared.error.BtfError.{BtfError}
use Rattle.btf_records.specs.BtfType.{record_of, fallback_of, type_kind}
use Rattle.btf_table.specs.Btf.{IsType}
use Rattle.btf_plain.specs.Items.{enum_words, enum64_words}
use Rattle.btf_records.specs.declared.btf_type.BtfType.{BtfType}
use Rattle.btf_records.specs.declared.btf_type.BtfType.TheVariants as types
use Rattle.btf_plain.specs.declared.items.BtfEnum.{BtfEnum}
use Rattle.btf_plain.specs.declared.items.BtfEnum64.{BtfEnum64}
use Rattle.btf_above.specs.Variants.{enum_variant, enum64_variant, HaveUtf8Names, TypeHasUtf8Names, NamesAreUtf8}

-- ---- the variants of a type

enum_of_words : (vs : List BtfEnum) → enum_variants (flat_map enum_words vs) ≡ map enum_variant vs
enum_of_words [] = refl
enum_of_words (v ∷ vs) = ap (λ (rest : List Variant). enum_variant v ∷ rest) (enum_of_words vs)

enum64_of_words : (vs : List BtfEnum64) → enum64_variants (flat_map enum64_words vs) ≡ map enum64_variant vs
enum64_of_words [] = refl
enum64_of_words (v ∷ vs) = ap (λ (rest : List Variant). enum64_variant v ∷ rest) (enum64_of_words vs)

by_type : (t : Table) (id : ℕ) (b : BtfType) (answer : Result (List Variant) Refusal) → IsType t id b → variants_by id (Some (type_kind b)) (record_of b) (fallback_of b) ≡ answer → HasVariants t id answer
by_type t id b answer at is = (record_of b, fallback_of b, at.record_is, at.fallback_is, sym (ap (λ (k : Option Kind). variants_by id k (record_of b) (fallback_of b)) at.kind_is ∙ is))

as_type : (id : ℕ) (b c : BtfType) → b ≡ c → variants_by id (Some (type_kind b)) (record_of b) (fallback_of b) ≡ variants_by id (Some (type_kind c)) (record_of c) (fallback_of c)
as_type id b c is = ap (λ (x : BtfType). variants_by id (Some (type_kind x)) (record_of x) (fallback_of x)) is

pub enum_has : (t : Table) (id : ℕ) (b : BtfType) (r : Record) (vs : List BtfEnum) → IsType t id b → b ≡ types.Enum r → r.tail ≡ flat_map enum_words vs → HasVariants t id (Ok (map enum_variant vs))
enum_has t id b r vs at is tail =
    by_type t id b (Ok (map enum_variant vs)) at (as_type id b (types.Enum r) is ∙ ap (λ ws. Ok (enum_variants ws)) tail ∙ ap (λ (ws : List Variant). Ok ws) (enum_of_words vs))

pub enum64_has : (t : Table) (id : ℕ) (b : BtfType) (r : Record) (vs : List BtfEnum64) → IsType t id b → b ≡ types.Enum64 r → r.tail ≡ flat_map enum64_words vs → HasVariants t id (Ok (map enum64_variant vs))
enum64_has t id b r vs at is tail =
    by_type t id b (Ok (map enum64_variant vs)) at (as_type id b (types.Enum64 r) is ∙ ap (λ ws. Ok (enum64_variants ws)) tail ∙ ap (λ (ws : List Variant). Ok ws) (enum64_of_words vs))

pub union_has : (t : Table) (id : ℕ) (b : BtfType) (u : UnionRecord) (fallback : Fallback) → IsType t id b → b ≡ types.Union u → u.fallback ≡ Some fallback → HasVariants t id (Ok fallback.variants)
union_has t id b u fallback at is kept =
    by_type t id b (Ok fallback.variants) at (as_type id b (types.Union u) is ∙ ap (λ (f : Option Fallback). variants_by id (Some kinds.Union) u.words f) kept)

pub plain_union : (t : Table) (id : ℕ) (b : BtfType) (u : UnionRecord) → IsType t id b → b ≡ types.Union u → u.fallback ≡ None → HasVariants t id (Err (UnexpectedBtfType id))
plain_union t id b u at is none =
    by_type t id b (Err (UnexpectedBtfType id)) at (as_type id b (types.Union u) is ∙ ap (λ (f : Option Fallback). variants_by id (Some kinds.Union) u.words f) none)

no_enumeration : (id : ℕ) (b : BtfType) → ((r : Record) → b ≡ types.Enum r → ⊥) → ((r : Record) → b ≡ types.Enum64 r → ⊥) → ((u : UnionRecord) → b ≡ types.Union u → ⊥) → variants_by id (Some (type_kind b)) (record_of b) (fallback_of b) ≡ Err (UnexpectedBtfType id)
no_enumeration id (types.Enum r) no_enum no_enum64 no_union = absurd (no_enum r refl)
no_enumeration id (types.Enum64 r) no_enum no_enum64 no_union = absurd (no_enum64 r refl)
no_enumeration id (types.Union u) no_enum no_enum64 no_union = absurd (no_union u refl)
no_enumeration id b no_enum no_enum64 no_union = refl

pub other_has : (t : Table) (id : ℕ) (b : BtfType) → IsType t id b → ((r : Record) → b ≡ types.Enum r → ⊥) → ((r : Record) → b ≡ types.Enum64 r → ⊥) → ((u : UnionRecord) → b ≡ types.Union u → ⊥) → HasVariants t id (Err (UnexpectedBtfType id))
other_has t id b at no_enum no_enum64 no_union = by_type t id b (Err (UnexpectedBtfType id)) at (no_enumeration id b no_enum no_enum64 no_union)

-- ---- the result of the search

pub found_among : (t : Table) (id : ℕ) (name : List ℕ) (vs : List Variant) (r : Result (Option ℕ) BtfError) → HasVariants t id (Ok vs) → MeetsOrNoMemory (λ v. v) r (FindsVariant t.strings name vs) → MeetsOrNoMemory (λ v. v) r (Then (HasVariants t id) (FindsVariant t.strings name))
found_among t id name vs (Ok found) has finds = (vs, has, finds)
found_among t id name vs (Err e) has finds = IfSome_then (refusal_of e) finds (λ refusal unread. inr (vs, has, unread))

reported_among : (t : Table) (id : ℕ) (name : List ℕ) (vs : List Variant) (r : Result (Option ℕ) BtfError) → HasVariants t id (Ok vs) → Meets (λ v. v) r (FindsVariant t.strings name vs) → Meets (λ v. v) r (Then (HasVariants t id) (FindsVariant t.strings name))
reported_among t id name vs (Ok found) has finds = (vs, has, finds)
reported_among t id name vs (Err e) has finds = (finds.0, finds.1, inr (vs, has, finds.2))

pub reported_of : (t : Table) (id : ℕ) (name : List ℕ) (vs : List Variant) (r : Result (Option ℕ) BtfError) → HasVariants t id (Ok vs) → (HaveUtf8Names t.strings vs → Meets (λ v. v) r (FindsVariant t.strings name vs))
    → TypeHasUtf8Names t id → Meets (λ v. v) r (Then (HasVariants t id) (FindsVariant t.strings name))
reported_of t id name vs r has finds utf8 = reported_among t id name vs r has (finds (utf8 vs has))

-- ---- the type that an id resolves to

pub known : (t : Table) (id end : ℕ) → Resolves t.records id (Ok end) → end < length t.records
known t id end resolves = let there = resolved_is_known t.records id end resolves in slice_get_within t.records end there.0 there.1

pub value_after : (t : Table) (id end : ℕ) (name : List ℕ) (r : Result (Option ℕ) BtfError) → Resolves t.records id (Ok end) → MeetsOrNoMemory (λ v. v) r (Then (HasVariants t end) (FindsVariant t.strings name)) → MeetsOrNoMemory (λ v. v) r (Value t id name)
value_after t id end name (Ok found) resolves finds = (end, resolves, finds)
value_after t id end name (Err e) resolves finds = IfSome_then (refusal_of e) finds (λ refusal refused. inr (end, resolves, refused))

reported_after : (t : Table) (id end : ℕ) (name : List ℕ) (r : Result (Option ℕ) BtfError) → Resolves t.records id (Ok end) → Meets (λ v. v) r (Then (HasVariants t end) (FindsVariant t.strings name)) → Meets (λ v. v) r (Value t id name)
reported_after t id end name (Ok found) resolves finds = (end, resolves, finds)
reported_after t id end name (Err e) resolves finds = (finds.0, finds.1, inr (end, resolves, finds.2))

pub value_reported : (t : Table) (id end : ℕ) (name : List ℕ) (r : Result (Option ℕ) BtfError) → Resolves t.records id (Ok end) → (TypeHasUtf8Names t end → Meets (λ v. v) r (Then (HasVariants t end) (FindsVariant t.strings name))) → NamesAreUtf8 t id
    → Meets (λ v. v) r (Value t id name)
value_reported t id end name r resolves finds utf8 = reported_after t id end name r resolves (finds (utf8 end resolves))

-- a refusal of resolving
pub unresolved : (t : Table) (id : ℕ) (name : List ℕ) (e : BtfError) (r : Result (Option ℕ) BtfError) → r ≡ Err e → (refusal : Refusal) × (refusal_of e ≡ Some refusal) × Resolves t.records id (Err refusal) → Meets (λ v. v) r (Value t id name)
unresolved t id name e r returned refused = subst (λ (x : Result (Option ℕ) BtfError). Meets (λ v. v) x (Value t id name)) (sym returned) (refused.0, refused.1, inl refused.2)

-- `Meets` implies `MeetsOrNoMemory`
pub reported_answers : {X Y : Type 0} (view : X → Y) (r : Result X BtfError) (P : Result Y Refusal → Type 0) → Meets view r P → MeetsOrNoMemory view r P
reported_answers view (Ok x) P reported = reported
reported_answers view (Err e) P reported = subst (λ (o : Option Refusal). IfSome o (λ refusal. P (Err refusal))) (sym reported.1) reported.2

-- there is one answer
pub only_one : (t : Table) (id : ℕ) (name : List ℕ) (r : Result (Option ℕ) BtfError) → MeetsOrNoMemory (λ v. v) r (Value t id name) → (answer : Result (Option ℕ) Refusal) → Value t id name answer → IsOrNoMemory (λ v. v) r answer
only_one t id name (Ok found) value answer is = one_value t id name (Ok found) answer value is
only_one t id name (Err e) value answer is = IfSome_then (refusal_of e) value (λ refusal refused. one_value t id name (Err refusal) answer refused is)
