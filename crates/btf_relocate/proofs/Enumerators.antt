-- Enumerators, and their words.
use Rattle.std.proofs.Common.{◌≡◌, ℕ, zero, suc, ◌+◌, ◌*◌, ◌^◌, ◌≤◌, List, [], ◌∷◌, length, drop, map, Bool, true, false, Option, Some, None, Result, Ok, Err, refl, sym, ap, subst, ◌∙◌, add-one, drop-cons, arith}
use Rattle.std.specs.Prelude.{slice_get, MatchOption}
use Rattle.std.specs.Borrow.{Bor}
use Rattle.std.specs.Option.{IsSomeAnd, option_map}
use Rattle.std.specs.Slice.{IsItemAt}
use Rattle.std.specs.List.{flat_map}
use Rattle.std.specs.Str.{bytes_eq}
use Rattle.std.proofs.lemmas.List.{drop_all, length-map}
use Rattle.std.proofs.lemmas.Option.{slice_get_within, get_or_from_slice_get, slice_get-map, slice_get-get_or}
use Rattle.btf_plain.specs.Items.{enum_words, enum64_words}
use Rattle.btf_plain.specs.declared.items.BtfEnum.{BtfEnum}
use Rattle.btf_plain.specs.declared.items.BtfEnum64.{BtfEnum64}
use Rattle.btf_model.specs.Record as model
use Rattle.btf_model.specs.Record.{Record, kind_of}
use Rattle.btf_model.specs.Table.{Table, Variant}
use Rattle.btf_records.specs.BtfType.{record_of, type_kind}
use Rattle.btf_records.specs.declared.btf_type.BtfType.{BtfType}
use Rattle.btf_records.specs.declared.btf_type.BtfType.TheVariants as variants
use Rattle.btf_relocate_model.specs.Enumerator.{narrow_enumerators, wide_enumerators, first_named, find_enumerator}
use Rattle.btf_relocate_model.specs.Name.{essential}
use Rattle.btf_relocate_model.specs.Types.{name_at, resolved_record}
use Rattle.btf_relocate_model.specs.declared.error.RelocationError.{RelocationError}
use Rattle.btf_relocate.specs.Enumerators.{enumerator_variant, narrow_variant, type_enumerators, wide_variant}
use Rattle.btf_relocate.specs.declared.enumerator.Enumerator.{Enumerator}

narrow_back : (es : List BtfEnum) → narrow_enumerators (flat_map enum_words es) ≡ map narrow_variant es
narrow_back [] = refl
narrow_back (e ∷ es) = ap (λ (vs : List Variant). narrow_variant e ∷ vs) (narrow_back es)

wide_back : (es : List BtfEnum64) → wide_enumerators (flat_map enum64_words es) ≡ map wide_variant es
wide_back [] = refl
wide_back (e ∷ es) = ap (λ (vs : List Variant). wide_variant e ∷ vs) (wide_back es)

-- the enumerators of an ENUM
pub enum_has : (b : BtfType) (t : Record) (es : List BtfEnum) → b ≡ variants.Enum t → kind_of (record_of b).info ≡ Some (type_kind b) → t.tail ≡ flat_map enum_words es
    → map narrow_variant es ≡ type_enumerators (record_of b)
enum_has b t es is kind tail =
    let here : kind_of t.info ≡ Some model.Enum = subst (λ (x : BtfType). kind_of (record_of x).info ≡ Some (type_kind x)) is kind in
    rw (is, here, tail) (sym (narrow_back es))

-- the enumerators of an ENUM64
pub enum64_has : (b : BtfType) (t : Record) (es : List BtfEnum64) → b ≡ variants.Enum64 t → kind_of (record_of b).info ≡ Some (type_kind b) → t.tail ≡ flat_map enum64_words es
    → map wide_variant es ≡ type_enumerators (record_of b)
enum64_has b t es is kind tail =
    let here : kind_of t.info ≡ Some model.Enum64 = subst (λ (x : BtfType). kind_of (record_of x).info ≡ Some (type_kind x)) is kind in
    rw (is, here, tail) (sym (wide_back es))

-- the enumerator of an item at an index
past : {A : Type 0} (xs : List A) (i : ℕ) → length xs ≤ i → None ≡ slice_get xs i
past [] i le = refl
past (x ∷ xs) zero le = absurd (omega (arith, le))
past (x ∷ xs) (suc i) le = past xs i (omega (arith, le))

pub mapped_item : {A : Type 0} (f : A → Variant) (xs : List A) (i : ℕ) (o : Option (Bor A)) (r : Option Enumerator) (P : Bor A → Enumerator → Type 0) → ((x : Bor A) (e : Enumerator) → P x e → enumerator_variant e ≡ f x.now)
    → IsItemAt xs i o → MatchOption o (r ≡ None) (λ x. IsSomeAnd r (P x)) → option_map enumerator_variant r ≡ slice_get (map f xs) i
mapped_item f xs i None r P gives at none = ap (option_map enumerator_variant) none ∙ past (map f xs) i (omega (arith, length-map xs f, at.3))
mapped_item {A} f xs i (Some x) (Some e) P gives at some =
    ap (λ (v : Variant). Some v) (gives x e some ∙ ap f at.1)
    ∙ sym (slice_get-map f xs i ∙ ap (option_map f) (slice_get-get_or xs i x.now at.3.0))
mapped_item f xs i (Some x) None P gives at some = absurd some

pub at_index : (vs : List Variant) (i : ℕ) (v : Variant) → slice_get vs i ≡ Some v → drop i vs ≡ v ∷ drop (i + 1) vs
at_index vs i v is =
    drop-cons vs i v (slice_get_within vs i v is) ∙ ap (λ (x : Variant). x ∷ drop (suc i) vs) (get_or_from_slice_get vs i v v is)
    ∙ ap (λ (n : ℕ). v ∷ drop n vs) (sym (add-one i))

-- the search for a name, enumerator by enumerator
module _ (t : Table) (name : List ℕ) (vs : List Variant) (i : ℕ) where
  abbrev Left : Type 0
  Left = first_named t name (drop i vs) ≡ first_named t name vs

  here : Left → (v : Variant) → slice_get vs i ≡ Some v → first_named t name (v ∷ drop (i + 1) vs) ≡ first_named t name vs
  here left v is = ap (first_named t name) (sym (at_index vs i v is)) ∙ left

  pub no_name : Left → (v : Variant) → slice_get vs i ≡ Some v → (e : RelocationError) → name_at t v.name ≡ Err e → first_named t name vs ≡ Err e
  no_name left v is e refused = sym (here left v is) ∙ rw refused refl

  pub this_one : Left → (v : Variant) → slice_get vs i ≡ Some v → (other : List ℕ) → name_at t v.name ≡ Ok other → bytes_eq (essential other) (essential name) ≡ true → first_named t name vs ≡ Ok (Some v)
  this_one left v is other read same = sym (here left v is) ∙ rw (read, same) refl

  pub another : Left → (v : Variant) → slice_get vs i ≡ Some v → (other : List ℕ) → name_at t v.name ≡ Ok other → bytes_eq (essential other) (essential name) ≡ false
      → first_named t name (drop (i + 1) vs) ≡ first_named t name vs
  another left v is other read apart = rw (read, apart) at (here left v is)

  pub no_more : Left → length vs ≤ i → first_named t name vs ≡ Ok None
  no_more left le = sym left ∙ ap (first_named t name) (drop_all i vs le)

pub found_is : (t : Table) (id : ℕ) (name : List ℕ) (r : Record) (o : Result (Option Variant) RelocationError) → resolved_record t id ≡ Ok r → first_named t name (type_enumerators r) ≡ o → find_enumerator t id name ≡ o
found_is t id name r o known is = rw known is

pub same_names : (a b x y : List ℕ) (c : Bool) → c ≡ bytes_eq a b → a ≡ x → b ≡ y → bytes_eq x y ≡ c
same_names a b x y c is first second = sym (is ∙ ap (λ (n : List ℕ). bytes_eq n b) first ∙ ap (bytes_eq x) second)
