-- `.kconfig` is laid out in one way, and so a loader opens an object in one way.
use Rattle.std.specs.Prelude.{◌==◌, ◌^◌, nat_lt, if◌then◌else◌, slice_get}
use Rattle.std.proofs.Common.{◌≡◌, ℕ, zero, suc, Bool, true, false, List, [], ◌∷◌, map, Option, None, Some, Result, Ok, Err, refl, sym, ap, subst, ◌∙◌}
use Rattle.std.specs.List.{AllByRecursion}
use Rattle.std.proofs.lemmas.Cmp.{nat_cmp_total, nat_list_cmp_total, on_total, back_total, then_total}
use Rattle.std.proofs.lemmas.List.MinMax.{ranks_by}
use Rattle.std.proofs.lemmas.Option.{same_Some, none-some}
use Rattle.btf_model.specs.Record as kinds
use Rattle.btf_model.specs.Record.{Kind, Record}
use Rattle.btf_model.specs.Refusal.{Refusal}
use Rattle.btf_model.specs.Table.{Table}
use Rattle.btf_model.proofs.Comparisons.{one_id}
use Rattle.btf_model.proofs.Texts.{name_has_one}
use Rattle.btf_rewrite_model.specs.Made.{Entry, section_entries, record_at, kind_at}
use Rattle.btf_rewrite_model.specs.Pass.{Layout}
use Rattle.btf_object_model.specs.Finalized.{kconfig_name, IsFinalized}
use Rattle.btf_object_model.specs.Kconfig.{ConfigValue, Extern, config_text, extern_name, extern_of, total, with_externs, FindsText, FindsPlain, FindsResolved, FindsValue, FindsExternBy, FindsExtern, FindsExterns, LaysOut, ConfiguresIf, ConfiguresAt, IsConfigured}
use Rattle.btf_elf_model.specs.Object.{Object}
use Rattle.btf_object_model.specs.Hidden.{hidden_type, with_hidden_static}
use Rattle.btf_object_model.specs.Layout.{object_layout}
use Rattle.btf_object_model.specs.SanitizedFinalized.{IsOpened}
use Rattle.btf_object_model.proofs.Unique.{one_sorted, one_finalized}

-- ---- one extern for an entry

one_text : (t : Table) (tail : List ℕ) (a b : Option ConfigValue) → FindsText t tail a → FindsText t tail b → a ≡ b
one_text t (element ∷ index ∷ count ∷ []) a b x y = x.2 ∙ ap (λ (r : Result ℕ Refusal). config_text t r count) (one_id t.records element x.0 y.0 x.1 y.1) ∙ sym y.2
one_text t [] a b x y = x ∙ sym y
one_text t (element ∷ []) a b x y = x ∙ sym y
one_text t (element ∷ index ∷ []) a b x y = x ∙ sym y
one_text t (element ∷ index ∷ count ∷ more ∷ rest) a b x y = x ∙ sym y

one_plain : (t : Table) (k : Option Kind) (r : Record) (a b : Option ConfigValue) → FindsPlain t k r a → FindsPlain t k r b → a ≡ b
one_plain t k r a b x y =
    elim k as (λ (k : Option Kind). FindsPlain t k r a → FindsPlain t k r b → a ≡ b) [
      | Some kinds.Array ↦ λ x y. one_text t r.tail a b x y
      | _ ↦ λ x y. x ∙ sym y
    ] x y

one_by_id : (t : Table) (resolved : Result ℕ Refusal) (a b : Option ConfigValue) → FindsResolved t resolved a → FindsResolved t resolved b → a ≡ b
one_by_id t (Ok id) a b x y = one_plain t (kind_at t id) (record_at t id) a b x y
one_by_id t (Err refusal) a b x y = x ∙ sym y

one_value : (t : Table) (type : ℕ) (a b : Option ConfigValue) → FindsValue t type a → FindsValue t type b → a ≡ b
one_value t type a b x y = one_by_id t x.0 a b x.2 (subst (λ (r : Result ℕ Refusal). FindsResolved t r b) (one_id t.records type y.0 x.0 y.1 x.1) y.2)

one_extern_by : (t : Table) (k : Option Kind) (r : Record) (e : Entry) (a b : Option Extern) → FindsExternBy t k r e a → FindsExternBy t k r e b → a ≡ b
one_extern_by t k r e a b x y =
    elim k as (λ (k : Option Kind). FindsExternBy t k r e a → FindsExternBy t k r e b → a ≡ b) [
      | Some kinds.Var ↦ λ x y. x.2 ∙ ap (λ (v : Option ConfigValue). extern_of e v (extern_name t.strings r.name)) (one_value t r.third x.0 y.0 x.1 y.1) ∙ sym y.2
      | _ ↦ λ x y. x ∙ sym y
    ] x y

one_extern : (t : Table) (e : Entry) (a b : Option Extern) → FindsExtern t e a → FindsExtern t e b → a ≡ b
one_extern t e a b x y = one_extern_by t (kind_at t e.type) (record_at t e.type) e a b x y

-- ---- the externs of a DATASEC

abbrev entries_are : List Extern → List Entry
entries_are xs = map (λ (x : Extern). x.entry) xs

abbrev AreExterns : Table → List Extern → Type 0
AreExterns t xs = AllByRecursion (λ x. FindsExtern t x.entry (Some x)) xs

same_externs : (t : Table) (xs ys : List Extern) → entries_are xs ≡ entries_are ys → AreExterns t xs → AreExterns t ys → xs ≡ ys
same_externs t [] [] same x y = refl
same_externs t [] (y ∷ ys) same ax ay = cc
same_externs t (x ∷ xs) [] same ax ay = cc
same_externs t (x ∷ xs) (y ∷ ys) same ax ay =
    let entry_is : x.entry ≡ y.entry = cc in
    let rest_is : entries_are xs ≡ entries_are ys = cc in
    let head : x ≡ y = same_Some x y (one_extern t x.entry (Some x) (Some y) ax.0 (subst (λ (e : Entry). FindsExtern t e (Some y)) (sym entry_is) ay.0)) in
    let tail : xs ≡ ys = same_externs t xs ys rest_is ax.1 ay.1 in
    λ i. head i ∷ tail i

-- the extern of each entry is known
known_at : (t : Table) (xs : List Extern) → AreExterns t xs → (i : ℕ) (e : Entry) → slice_get (entries_are xs) i ≡ Some e → (x : Extern) × FindsExtern t e (Some x)
known_at t [] all i e at = absurd (none-some e at)
known_at t (x ∷ xs) all zero e at = (x, subst (λ (e : Entry). FindsExtern t e (Some x)) (same_Some x.entry e at) all.0)
known_at t (x ∷ xs) all (suc i) e at = known_at t xs all.1 i e at

-- all externs are known, and one is not
not_both : (t : Table) (es : List Entry) (xs : List Extern) → FindsExterns t es (Some xs) → FindsExterns t es None → ⊥
not_both t es xs all none =
    let known = known_at t xs all.1 none.0 none.1 (ap (λ (l : List Entry). slice_get l none.0) all.0 ∙ none.2) in
    none-some known.0 (one_extern t none.1 None (Some known.0) none.3 known.1)

one_list : (t : Table) (es : List Entry) (a b : Option (List Extern)) → FindsExterns t es a → FindsExterns t es b → a ≡ b
one_list t es (Some xs) (Some ys) x y = ap (λ (l : List Extern). Some l) (same_externs t xs ys (x.0 ∙ sym y.0) x.1 y.1)
one_list t es (Some xs) None x y = absurd (not_both t es xs x y)
one_list t es None (Some ys) x y = absurd (not_both t es ys y x)
one_list t es None None x y = refl

-- ---- the layout

one_layout : (t : Table) (id : ℕ) (xs : Option (List Extern)) (a b : Table) → LaysOut t id xs a → LaysOut t id xs b → a ≡ b
one_layout t id (Some xs) a b x y =
    let order = then_total (then_total (back_total (on_total (λ (e : Extern). e.value.alignment) nat_cmp_total)) (on_total (λ (e : Extern). e.value.size) nat_cmp_total)) (on_total (λ (e : Extern). e.name) nat_list_cmp_total) in
    let same : x.sorted ≡ y.sorted = one_sorted _ (ranks_by order (λ (e : Extern). e)) xs x.sorted y.sorted x.rising y.rising x.stable y.stable in
    x.table ∙ ap (λ (zs : List Extern). if nat_lt (total zs) (2 ^ 32) then with_externs t id zs else t) same ∙ sym y.table
one_layout t id None a b x y = x ∙ sym y

one_by_size : (empty : Bool) (t : Table) (id : ℕ) (a b : Table) → ConfiguresIf empty t id a → ConfiguresIf empty t id b → a ≡ b
one_by_size true t id a b x y = one_layout t id x.0 a b x.2 (subst (λ (l : Option (List Extern)). LaysOut t id l b) (one_list t (section_entries (record_at t id).tail) y.0 x.0 y.1 x.1) y.2)
one_by_size false t id a b x y = x ∙ sym y

one_at : (t : Table) (found : Result ℕ Refusal) (a b : Table) → ConfiguresAt t found a → ConfiguresAt t found b → a ≡ b
one_at t (Ok id) a b x y = one_by_size ((record_at t id).third == 0) t id a b x y
one_at t (Err refusal) a b x y = x ∙ sym y

one_configured : (old a b : Table) → IsConfigured old a → IsConfigured old b → a ≡ b
one_configured old a b x y =
    one_at old x.0 a b x.2 (subst (λ (r : Result ℕ Refusal). ConfiguresAt old r b) (name_has_one old.strings old.records kinds.DataSec kconfig_name y.0 x.0 y.1 x.1) y.2)

pub one_opened : (o : Object) (old a b : Table) → IsOpened o old a → IsOpened o old b → a ≡ b
one_opened o old a b x y =
    let layout : Layout = object_layout o in
    let final : x.1 ≡ y.1 = one_finalized layout x.0 x.1 y.1 x.3 (subst (λ (t : Table). IsFinalized layout t y.1) (one_configured old y.0 x.0 y.2 x.2) y.3) in
    x.4 ∙ ap (with_hidden_static (hidden_type o)) final ∙ sym y.4
