-- The search for a name, among variants and among sections: it has one answer.
use Rattle.std.proofs.Common.{◌≡◌, ℕ, Bool, true, false, List, [], ◌∷◌, ◌++◌, Option, None, Some, Result, Ok, Err, refl, sym, ap, subst, ◌∙◌, inl, inr}
use Rattle.std.specs.Prelude.{if◌then◌else◌, slice_get}
use Rattle.std.specs.Result.{is_ok, result_ok, result_err}
use Rattle.std.specs.Str.{bytes_eq}
use Rattle.std.proofs.lemmas.Bool.{false≢true}
use Rattle.std.proofs.lemmas.List.{append-nil}
use Rattle.std.proofs.lemmas.Option.{same_Some, none-some}
use Rattle.std.proofs.lemmas.Slice.Eq.{bytes_eq-Decides}
use Rattle.btf_model.specs.Record.{Record, kind_of}
use Rattle.btf_model.specs.Refusal.{Refusal, MaximumTypeDepthReached}
use Rattle.btf_model.specs.Table.{Table, Variant}
use Rattle.btf_model.specs.Text.{text_at}
use Rattle.btf_model.specs.Walk.{By, unmodified_in, Resolves}
use Rattle.btf_model.specs.Ext.{Then}
use Rattle.btf_model.specs.RelocationWords.{RelocationSection, SectionsHaveNames, Words}
use Rattle.btf_model.specs.Value.{variants_by, HasVariants, HaveOtherNames, FindsVariant, Value}
use Rattle.btf_model.proofs.Walks.{one_answer, by_one}

-- ---- the variant of a name

-- what the search returns at a variant, given what it returns for the variants after it
looked_at : List ℕ → Variant → Result (List ℕ) Refusal → Result (Option ℕ) Refusal → Result (Option ℕ) Refusal
looked_at name v (Ok text) rest = if bytes_eq text name then Ok (Some v.value) else rest
looked_at name v (Err refusal) rest = Err refusal

looked : List ℕ → List ℕ → List Variant → Result (Option ℕ) Refusal
looked strings name [] = Ok None
looked strings name (v ∷ vs) = looked_at name v (text_at strings v.name) (looked strings name vs)

-- variants with other names are skipped
others_looked : (strings name : List ℕ) (vs rest : List Variant) → HaveOtherNames strings name vs → looked strings name (vs ++ rest) ≡ looked strings name rest
unfolding looked looked_at
others_looked strings name [] rest others = refl
others_looked strings name (v ∷ vs) rest others =
    let rest_of : Result (Option ℕ) Refusal = looked strings name (vs ++ rest) in
    let differs : bytes_eq others.0.0 name ≡ false =
    elim (bytes_eq others.0.0 name) as (λ (b : Bool). bytes_eq others.0.0 name ≡ b → b ≡ false) [
      | true ↦ λ same. absurd (others.0.2 ((bytes_eq-Decides others.0.0 name).0 same))
      | false ↦ λ _. refl
    ] refl in
    ap (λ (text : Result (List ℕ) Refusal). looked_at name v text rest_of) others.0.1 ∙ ap (λ (b : Bool). if b then Ok (Some v.value) else rest_of) differs ∙ others_looked strings name vs rest others.1

found_looked : (strings name : List ℕ) (vs : List Variant) (a : Result (Option ℕ) Refusal) → FindsVariant strings name vs a → a ≡ looked strings name vs
unfolding looked looked_at
found_looked strings name vs (Ok None) finds = sym (ap (looked strings name) (sym (append-nil vs)) ∙ others_looked strings name vs [] finds)
found_looked strings name vs (Ok (Some value)) finds =
    let v : Variant = finds.0 in
    let rest : Result (Option ℕ) Refusal = looked strings name finds.1.1 in
    sym (ap (looked strings name) finds.1.2 ∙ others_looked strings name finds.1.0 (v ∷ finds.1.1) finds.1.3
    ∙ ap (λ (text : Result (List ℕ) Refusal). looked_at name v text rest) finds.2
    ∙ ap (λ (b : Bool). if b then Ok (Some v.value) else rest) ((bytes_eq-Decides name name).1 refl) ∙ ap (λ (n : ℕ). Ok (Some n)) finds.3)
found_looked strings name vs (Err refusal) finds =
    let v : Variant = finds.0 in
    sym (ap (looked strings name) finds.1.2 ∙ others_looked strings name finds.1.0 (v ∷ finds.1.1) finds.1.3 ∙ ap (λ (text : Result (List ℕ) Refusal). looked_at name v text (looked strings name finds.1.1)) finds.2)

one_found : (strings name : List ℕ) (vs : List Variant) (a b : Result (Option ℕ) Refusal) → FindsVariant strings name vs a → FindsVariant strings name vs b → a ≡ b
one_found strings name vs a b p q = found_looked strings name vs a p ∙ sym (found_looked strings name vs b q)

-- ---- one thing after another

ok_is_no_err : {A : Type 0} (a : A) (refusal : Refusal) → Ok a ≡ Err refusal → ⊥
ok_is_no_err a refusal is = false≢true (sym (ap is_ok is))

module _ {A B : Type 0} (first : Result A Refusal → Type 0) (second : A → Result B Refusal → Type 0) (one : (a b : Result A Refusal) → first a → first b → a ≡ b) (next : (x : A) (a b : Result B Refusal) → second x a → second x b → a ≡ b) where
  -- the results of the second step
  same_after : (x y : A) (a b : Result B Refusal) → first (Ok x) → first (Ok y) → second x a → second y b → a ≡ b
  same_after x y a b p q h k = next y a b (subst (λ (z : A). second z a) (same_Some x y (ap result_ok (one (Ok x) (Ok y) p q))) h) k

  pub one_after : (a b : Result B Refusal) → Then first second a → Then first second b → a ≡ b
  one_after (Ok a) (Ok b) p q = same_after p.0 q.0 (Ok a) (Ok b) p.1 q.1 p.2 q.2
  one_after (Ok a) (Err g) p (inl q) = absurd (ok_is_no_err p.0 g (one (Ok p.0) (Err g) p.1 q))
  one_after (Ok a) (Err g) p (inr q) = same_after p.0 q.0 (Ok a) (Err g) p.1 q.1 p.2 q.2
  one_after (Err f) (Ok b) (inl p) q = absurd (ok_is_no_err q.0 f (one (Ok q.0) (Err f) q.1 p))
  one_after (Err f) (Ok b) (inr p) q = same_after p.0 q.0 (Err f) (Ok b) p.1 q.1 p.2 q.2
  one_after (Err f) (Err g) (inl p) (inl q) = ap (λ (r : Refusal). Err r) (same_Some f g (ap result_err (one (Err f) (Err g) p q)))
  one_after (Err f) (Err g) (inl p) (inr q) = absurd (ok_is_no_err q.0 f (one (Ok q.0) (Err f) q.1 p))
  one_after (Err f) (Err g) (inr p) (inl q) = absurd (ok_is_no_err p.0 g (one (Ok p.0) (Err g) p.1 q))
  one_after (Err f) (Err g) (inr p) (inr q) = same_after p.0 q.0 (Err f) (Err g) p.1 q.1 p.2 q.2

-- ---- the value of a variant

one_of_variants : (t : Table) (id : ℕ) (a b : Result (List Variant) Refusal) → HasVariants t id a → HasVariants t id b → a ≡ b
one_of_variants t id a b p q =
    let same_record : p.0 ≡ q.0 = same_Some p.0 q.0 (sym p.2 ∙ q.2) in
    let same_fallback : p.1 ≡ q.1 = same_Some p.1 q.1 (sym p.3 ∙ q.3) in
    p.4 ∙ ap (λ (r : Record). variants_by id (kind_of r.info) r p.1) same_record ∙ ap (variants_by id (kind_of q.0.info) q.0) same_fallback ∙ sym q.4

pub one_value : (t : Table) (id : ℕ) (name : List ℕ) (a b : Result (Option ℕ) Refusal) → Value t id name a → Value t id name b → a ≡ b
one_value t id name a b p q =
    one_after (Resolves t.records id) (λ end. Then (HasVariants t end) (FindsVariant t.strings name))
    (one_answer (By (λ at. unmodified_in at (slice_get t.records at))) (by_one (λ at. unmodified_in at (slice_get t.records at))) id (λ _. MaximumTypeDepthReached id))
    (λ end. one_after (HasVariants t end) (FindsVariant t.strings name) (one_of_variants t end) (one_found t.strings name))
    a b p q

-- ---- the records of a section

-- the first of two options that is a value
first_of_two : Option Refusal → Option Refusal → Option Refusal
first_of_two (Some refusal) other = Some refusal
first_of_two None other = other

-- the first name that cannot be read
unread : List ℕ → List RelocationSection → Option Refusal
unread strings [] = None
unread strings (s ∷ ss) = first_of_two (result_err (text_at strings s.0)) (unread strings ss)

-- sections whose names can be read are skipped
names_unread : (strings : List ℕ) (ss rest : List RelocationSection) → SectionsHaveNames strings ss → unread strings (ss ++ rest) ≡ unread strings rest
unfolding unread first_of_two
names_unread strings [] rest names = refl
names_unread strings (s ∷ ss) rest names = ap (λ (text : Result (List ℕ) Refusal). first_of_two (result_err text) (unread strings (ss ++ rest))) names.0.1 ∙ names_unread strings ss rest names.1

none_unread : (strings : List ℕ) (ss : List RelocationSection) → SectionsHaveNames strings ss → unread strings ss ≡ None
unfolding unread
none_unread strings ss names = ap (unread strings) (sym (append-nil ss)) ∙ names_unread strings ss [] names

first_unread : (strings name : List ℕ) (ss : List RelocationSection) (refusal : Refusal) → Words strings ss name (Err refusal) → unread strings ss ≡ Some refusal
unfolding unread first_of_two
first_unread strings name ss refusal is =
    ap (unread strings) is.3 ∙ names_unread strings is.0 (is.2 ∷ is.1) is.4 ∙ ap (λ (text : Result (List ℕ) Refusal). first_of_two (result_err text) (unread strings is.1)) is.5

pub one_words : (strings : List ℕ) (ss : List RelocationSection) (name : List ℕ) (a b : Result (List (List ℕ)) Refusal) → Words strings ss name a → Words strings ss name b → a ≡ b
one_words strings ss name (Ok x) (Ok y) p q = ap (λ (ws : List (List ℕ)). Ok ws) (p.1 ∙ sym q.1)
one_words strings ss name (Ok x) (Err g) p q = absurd (none-some g (sym (none_unread strings ss p.0) ∙ first_unread strings name ss g q))
one_words strings ss name (Err f) (Ok y) p q = absurd (none-some f (sym (none_unread strings ss q.0) ∙ first_unread strings name ss f p))
one_words strings ss name (Err f) (Err g) p q = ap (λ (r : Refusal). Err r) (same_Some f g (sym (first_unread strings name ss f p) ∙ first_unread strings name ss g q))
