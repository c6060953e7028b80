-- The search for a name, among variants and among sections.
use Rattle.std.proofs.Common.{◌≡◌, ◌≢◌, ℕ, suc, ◌+◌, ◌<◌, ◌≤◌, Bool, true, false, List, [], ◌∷◌, ◌++◌, length, take, drop, Option, Some, Result, Ok, Err, refl, sym, ap, subst, ◌∙◌}
use Rattle.std.specs.Prelude.{slice_get, filter, IfSome, if◌then◌else◌}
use Rattle.std.specs.List.{flat_map, AllByRecursion}
use Rattle.std.specs.Result.{IsErrAnd}
use Rattle.std.specs.Str.{IsUtf8, bytes_eq}
use Rattle.std.proofs.lemmas.Bool.{true≢false}
use Rattle.std.proofs.lemmas.List.{append-nil, take_all, take-append-drop, take_more}
use Rattle.std.proofs.lemmas.List.Concat.{flat_map-append}
use Rattle.std.proofs.lemmas.List.Elements.{filter-append}
use Rattle.std.proofs.lemmas.Option.{slice_get_within, get_or_from_slice_get, IfSome_then}
use Rattle.std.proofs.lemmas.Result.{err_from_is_err_and}
use Rattle.std.proofs.lemmas.Slice.Eq.{bytes_eq-Decides}
use Rattle.std.proofs.Math.Seq.{drop-cons}
use Rattle.btf_model.specs.Refusal.{Refusal}
use Rattle.btf_model.specs.Table.{Variant}
use Rattle.btf_model.specs.Text.{bytes_at, text_at}
use Rattle.btf_model.specs.RelocationWords.{RelocationSection, SectionsHaveNames, is_name_read, words_named, Words}
use Rattle.btf_model.specs.Value.{HaveOtherNames, IsAfterOthers, FindsVariant}
use Rattle.btf_model.proofs.Values.{one_words}
use Rattle.btf_plain.specs.Error.{MeetsOrNoMemory, IsOrNoMemory, Meets, refusal_of}
use Rattle.btf_plain.specs.declared.error.BtfError.{BtfError}
use Rattle.btf_table.specs.BtfStr.{HasName}
use Rattle.btf_above.specs.Variants.{HaveUtf8Names}

-- the error that a `?` returns
pub handed : {X : Type 0} (r : Result X BtfError) (e : BtfError) → IsErrAnd r (λ y. y ≡ e) → r ≡ Err e
handed r e h = let given = err_from_is_err_and r h in given.1 ∙ ap (λ (x : BtfError). Err x) given.2

-- ---- lists

-- the elements before an element, the element, and the elements after it
pub split_at : {X : Type 0} (xs : List X) (i : ℕ) (x : X) → slice_get xs i ≡ Some x → xs ≡ take i xs ++ x ∷ drop (suc i) xs
split_at xs i x at =
    let lt : i < length xs = slice_get_within xs i x at in
    sym (take-append-drop i xs) ∙ ap (λ rest. take i xs ++ rest) (drop-cons xs i x lt ∙ ap (λ y. y ∷ drop (suc i) xs) (get_or_from_slice_get xs i x x at))

take_one : {X : Type 0} (xs : List X) (i : ℕ) (x : X) → slice_get xs i ≡ Some x → take (i + 1) xs ≡ take i xs ++ x ∷ []
take_one xs i x at = take_more xs i x (slice_get_within xs i x at) ∙ ap (λ y. take i xs ++ y ∷ []) (get_or_from_slice_get xs i x x at)

all_push : {X : Type 0} (P : X → Type 0) (xs : List X) (x : X) → AllByRecursion P xs → P x → AllByRecursion P (xs ++ x ∷ [])
all_push P [] x all here = (here, tt)
all_push P (y ∷ xs) x all here = (all.0, all_push P xs x all.1 here)

-- one more that P holds of
pub all_more : {X : Type 0} (P : X → Type 0) (xs : List X) (i : ℕ) (x : X) → slice_get xs i ≡ Some x → AllByRecursion P (take i xs) → P x → AllByRecursion P (take (i + 1) xs)
all_more P xs i x at all here = subst (AllByRecursion P) (sym (take_one xs i x at)) (all_push P (take i xs) x all here)

all_after : {X : Type 0} (P : X → Type 0) (xs ys : List X) (x : X) → AllByRecursion P (xs ++ x ∷ ys) → P x
all_after P [] ys x all = all.0
all_after P (y ∷ xs) ys x all = all_after P xs ys x all.1

-- an element of a list whose elements all satisfy P
pub all_at : {X : Type 0} (P : X → Type 0) (xs : List X) (i : ℕ) (x : X) → slice_get xs i ≡ Some x → AllByRecursion P xs → P x
all_at P xs i x at all = all_after P (take i xs) (drop (suc i) xs) x (subst (AllByRecursion P) (split_at xs i x at) all)

-- ---- variants

-- the variant at an index, if the variants before it have other names
pub after_others : (strings name : List ℕ) (vs : List Variant) (i : ℕ) (v : Variant) → slice_get vs i ≡ Some v → HaveOtherNames strings name (take i vs) → IsAfterOthers strings name vs v
after_others strings name vs i v at others = (take i vs, drop (suc i) vs, split_at vs i v at, others)

-- the outcome at this variant, by the text of its name: its value,
pub found_here : (strings name : List ℕ) (vs : List Variant) (i offset value : ℕ) (v : Variant) (same : Bool) → slice_get vs i ≡ Some v → HaveOtherNames strings name (take i vs) → offset ≡ v.name → value ≡ v.value → same ≡ true → HasName strings offset name (Ok same)
    → FindsVariant strings name vs (Ok (Some value))
found_here strings name vs i offset value v same at others offset_is value_is is_same is =
    (v, after_others strings name vs i v at others, subst (λ (o : ℕ). text_at strings o ≡ Ok name) offset_is (subst (λ (b : Bool). HasName strings offset name (Ok b)) is_same is), sym value_is)

-- another name,
pub passed_here : (strings name : List ℕ) (vs : List Variant) (i offset : ℕ) (v : Variant) (same : Bool) → slice_get vs i ≡ Some v → HaveOtherNames strings name (take i vs) → offset ≡ v.name → same ≡ false → HasName strings offset name (Ok same)
    → HaveOtherNames strings name (take (i + 1) vs)
passed_here strings name vs i offset v same at others offset_is is_other is =
    all_more (λ (w : Variant). (other : List ℕ) × (text_at strings w.name ≡ Ok other) × (other ≢ name)) vs i v at others
    (subst (λ (o : ℕ). (other : List ℕ) × (text_at strings o ≡ Ok other) × (other ≢ name)) offset_is (subst (λ (b : Bool). HasName strings offset name (Ok b)) is_other is))

-- or a refusal
refused_here : (strings name : List ℕ) (vs : List Variant) (i offset : ℕ) (v : Variant) (refusal : Refusal) → slice_get vs i ≡ Some v → HaveOtherNames strings name (take i vs) → offset ≡ v.name → text_at strings offset ≡ Err refusal → FindsVariant strings name vs (Err refusal)
refused_here strings name vs i offset v refusal at others offset_is is =
    (v, after_others strings name vs i v at others, subst (λ (o : ℕ). text_at strings o ≡ Err refusal) offset_is is)

-- the same, with the error that the call for the name returned
pub error_here : (strings name : List ℕ) (vs : List Variant) (i offset : ℕ) (v : Variant) (e : BtfError) (r : Result (Option ℕ) BtfError) → r ≡ Err e → slice_get vs i ≡ Some v → HaveOtherNames strings name (take i vs) → offset ≡ v.name
    → IfSome (refusal_of e) (λ refusal. text_at strings offset ≡ Err refusal) → MeetsOrNoMemory (λ a. a) r (FindsVariant strings name vs)
error_here strings name vs i offset v e r returned at others offset_is is =
    subst (λ (x : Result (Option ℕ) BtfError). MeetsOrNoMemory (λ a. a) x (FindsVariant strings name vs)) (sym returned)
    (IfSome_then (refusal_of e) is (λ refusal unread. refused_here strings name vs i offset v refusal at others offset_is unread))

-- if the name is UTF-8 or cannot be read, the error is no allocation failure
pub reported_here : (strings name : List ℕ) (vs : List Variant) (i offset : ℕ) (v : Variant) (e : BtfError) (r : Result (Option ℕ) BtfError) → r ≡ Err e → slice_get vs i ≡ Some v → HaveOtherNames strings name (take i vs) → offset ≡ v.name
    → (IfSome (bytes_at strings offset) IsUtf8 → (refusal : Refusal) × (refusal_of e ≡ Some refusal) × (text_at strings offset ≡ Err refusal)) → HaveUtf8Names strings vs → Meets (λ a. a) r (FindsVariant strings name vs)
reported_here strings name vs i offset v e r returned at others offset_is reported utf8 =
    let here : IfSome (bytes_at strings offset) IsUtf8 = subst (λ (o : ℕ). IfSome (bytes_at strings o) IsUtf8) (sym offset_is) (all_at (λ (w : Variant). IfSome (bytes_at strings w.name) IsUtf8) vs i v at utf8) in
    let refused = reported here in
    subst (λ (x : Result (Option ℕ) BtfError). Meets (λ a. a) x (FindsVariant strings name vs)) (sym returned)
    (refused.0, refused.1, refused_here strings name vs i offset v refused.0 at others offset_is refused.2)

-- ---- sections

-- the section whose name cannot be read, if all names before it can be
unread_here : (strings name : List ℕ) (ss : List RelocationSection) (i : ℕ) (s : RelocationSection) (refusal : Refusal) → slice_get ss i ≡ Some s → SectionsHaveNames strings (take i ss) → text_at strings s.0 ≡ Err refusal → Words strings ss name (Err refusal)
unread_here strings name ss i s refusal at names is = (take i ss, drop (suc i) ss, s, split_at ss i s at, names, is)

-- the same of the error that a call returns
pub section_error : {X : Type 0} (view : X → List (List ℕ)) (strings name : List ℕ) (ss : List RelocationSection) (i : ℕ) (s : RelocationSection) (e : BtfError) (r : Result X BtfError) → r ≡ Err e → slice_get ss i ≡ Some s → SectionsHaveNames strings (take i ss)
    → IfSome (refusal_of e) (λ refusal. text_at strings s.0 ≡ Err refusal) → MeetsOrNoMemory view r (Words strings ss name)
section_error {X} view strings name ss i s e r returned at names is =
    subst (λ (x : Result X BtfError). MeetsOrNoMemory view x (Words strings ss name)) (sym returned) (IfSome_then (refusal_of e) is (λ refusal unread. unread_here strings name ss i s refusal at names unread))

-- the text of a name that was read
text_read : (strings : List ℕ) (offset : ℕ) (name : List ℕ) (same : Bool) → HasName strings offset name (Ok same) → (text : List ℕ) × (text_at strings offset ≡ Ok text)
text_read strings offset name true is = (name, is)
text_read strings offset name false is = (is.0, is.1)

-- whether it is the name
name_read : (strings : List ℕ) (offset : ℕ) (name : List ℕ) (same : Bool) → HasName strings offset name (Ok same) → is_name_read name (text_at strings offset) ≡ same
name_read strings offset name true is = ap (is_name_read name) is ∙ (bytes_eq-Decides name name).1 refl
name_read strings offset name false is = ap (is_name_read name) is.1 ∙ differs (bytes_eq name is.0) refl
  where
    differs : (b : Bool) → bytes_eq name is.0 ≡ b → b ≡ false
    differs true same = absurd (is.2 (sym ((bytes_eq-Decides name is.0).0 same)))
    differs false same = refl

-- one more section: its name is read,
pub names_more : (strings name : List ℕ) (ss : List RelocationSection) (i : ℕ) (s : RelocationSection) (same : Bool) → slice_get ss i ≡ Some s → SectionsHaveNames strings (take i ss) → HasName strings s.0 name (Ok same) → SectionsHaveNames strings (take (i + 1) ss)
names_more strings name ss i s same at names is = all_more (λ (q : RelocationSection). (text : List ℕ) × (text_at strings q.0 ≡ Ok text)) ss i s at names (text_read strings s.0 name same is)

-- and its records are appended if that is the name
words_or : Bool → List (List ℕ) → List (List ℕ)
words_or same words = if same then words else []

one_section : (strings name : List ℕ) (s : RelocationSection) (same : Bool) → is_name_read name (text_at strings s.0) ≡ same → words_named strings name (s ∷ []) ≡ words_or same s.1
unfolding words_or
one_section strings name s true is = ap (λ (b : Bool). flat_map (λ (q : RelocationSection). q.1) (if b then s ∷ [] else [])) is ∙ append-nil s.1
one_section strings name s false is = ap (λ (b : Bool). flat_map (λ (q : RelocationSection). q.1) (if b then s ∷ [] else [])) is

words_more : (strings name : List ℕ) (ss : List RelocationSection) (i : ℕ) (s : RelocationSection) (same : Bool) → slice_get ss i ≡ Some s → HasName strings s.0 name (Ok same)
    → words_named strings name (take (i + 1) ss) ≡ words_named strings name (take i ss) ++ words_or same s.1
words_more strings name ss i s same at is =
    let test : RelocationSection → Bool = λ q. is_name_read name (text_at strings q.0) in
    ap (words_named strings name) (take_one ss i s at)
    ∙ ap (flat_map (λ (q : RelocationSection). q.1)) (filter-append test (take i ss) (s ∷ []))
    ∙ flat_map-append (λ (q : RelocationSection). q.1) (filter test (take i ss)) (filter test (s ∷ []))
    ∙ ap (λ ws. words_named strings name (take i ss) ++ ws) (one_section strings name s same (name_read strings s.0 name same is))

pub words_joined : (strings name : List ℕ) (ss : List RelocationSection) (i : ℕ) (s : RelocationSection) (same : Bool) → slice_get ss i ≡ Some s → HasName strings s.0 name (Ok same) → same ≡ true
    → words_named strings name (take i ss) ++ s.1 ≡ words_named strings name (take (i + 1) ss)
unfolding words_or
words_joined strings name ss i s same at is named = sym (words_more strings name ss i s same at is ∙ ap (λ (b : Bool). words_named strings name (take i ss) ++ words_or b s.1) named)

pub words_passed : (strings name : List ℕ) (ss : List RelocationSection) (i : ℕ) (s : RelocationSection) (same : Bool) → slice_get ss i ≡ Some s → HasName strings s.0 name (Ok same) → same ≡ false
    → words_named strings name (take i ss) ≡ words_named strings name (take (i + 1) ss)
unfolding words_or
words_passed strings name ss i s same at is other =
    sym (words_more strings name ss i s same at is ∙ ap (λ (b : Bool). words_named strings name (take i ss) ++ words_or b s.1) other ∙ append-nil (words_named strings name (take i ss)))

-- there is one answer
pub only_words : {X : Type 0} (view : X → List (List ℕ)) (strings name : List ℕ) (ss : List RelocationSection) (r : Result X BtfError) → MeetsOrNoMemory view r (Words strings ss name) → (answer : Result (List (List ℕ)) Refusal) → Words strings ss name answer → IsOrNoMemory view r answer
only_words view strings name ss (Ok found) words answer is = one_words strings ss name (Ok (view found)) answer words is
only_words view strings name ss (Err e) words answer is = IfSome_then (refusal_of e) words (λ refusal refused. one_words strings ss name (Err refusal) answer refused is)

-- after the last section, all names are read
pub all_read : (strings name : List ℕ) (ss : List RelocationSection) (i : ℕ) (found : List (List ℕ)) → length ss ≤ i → SectionsHaveNames strings (take i ss) → found ≡ words_named strings name (take i ss) → Words strings ss name (Ok found)
all_read strings name ss i found end names words = (subst (SectionsHaveNames strings) (take_all i ss end) names, words ∙ ap (words_named strings name) (take_all i ss end))
