-- Texts: the place of the first zero byte, and what changes when a text is appended.
use Rattle.std.proofs.Common.{◌≡◌, ℕ, ◌<◌, Bool, true, false, nat_lt, cond, List, [], ◌∷◌, ◌++◌, length, take, drop, get_or, Option, None, Some, Result, Ok, Err, refl, sym, ap, ◌∙◌, arith, ◌⊎◌, inl, inr, ⊎_elim}
use Rattle.std.specs.Prelude.{position, option_map, Contains, slice_get}
use Rattle.std.specs.List.{position_or_len}
use Rattle.std.specs.Str.{IsUtf8}
use Rattle.std.specs.Result.{result_ok, result_err}
use Rattle.std.proofs.lemmas.Bool.{lt-ltb, le-ltb, ne_eqb, cases_order}
use Rattle.std.proofs.lemmas.List.{append_assoc, drop-append-le, take-append-le, get_or_append_left, length-append, length-drop}
use Rattle.std.proofs.lemmas.List.Sums.{position_or_len_is}
use Rattle.std.proofs.lemmas.List.Quantifiers.{position-Some}
use Rattle.std.proofs.lemmas.Option.{same_Some, none-some, slice_get_within}
use Rattle.std.proofs.Math.Seq.{get_or-append_seam, drop-append_seam, take-append_seam}
use Rattle.std.proofs.lemmas.Str.{utf8_lossy-IsUtf8}
use Rattle.bstr.proofs.lemmas.LossyLemmas.{lossy_chars-utf8_lossy}
use Rattle.btf_model.specs.Record.{Kind, Record, kind_of}
use Rattle.btf_model.specs.Refusal.{Refusal}
use Rattle.btf_model.specs.Text.{is_zero, bytes_at, lossy, text_of, text_at, IsPassed, ArePassed, IsReached, FindsName}

-- the first place that passes the test
pub position_is : {X : Type 0} (p : X → Bool) (xs : List X) (i : ℕ) (d : X) → i < length xs → ((k : ℕ) → k < i → p (get_or xs k d) ≡ false) → p (get_or xs i d) ≡ true → position p xs ≡ Some i
position_is p xs i d lt before at =
    let place : position_or_len p xs ≡ i = position_or_len_is p xs i d (omega (arith, lt)) before (λ _. at) in
    ap (λ (n : ℕ). cond (nat_lt n (length xs)) (Some n) None) place ∙ ap (λ b. cond b (Some i) None) (lt-ltb i (length xs) lt)

-- no place passes the test
position_none : {X : Type 0} (p : X → Bool) (xs : List X) (d : X) → ((k : ℕ) → k < length xs → p (get_or xs k d) ≡ false) → position p xs ≡ None
position_none p xs d none =
    let end : position_or_len p xs ≡ length xs = position_or_len_is p xs (length xs) d (omega arith) none (λ lt. absurd (omega (arith, lt))) in
    ap (λ (n : ℕ). cond (nat_lt n (length xs)) (Some n) None) end ∙ ap (λ b. cond b (Some (length xs)) None) (le-ltb (length xs) (length xs) (omega arith))

-- elements after a place that passes the test change nothing
position_append : {X : Type 0} (p : X → Bool) (xs ys : List X) (i : ℕ) (d : X) → position p xs ≡ Some i → position p (xs ++ ys) ≡ Some i
position_append p xs ys i d is =
    let at = position-Some p xs i d is in
    position_is p (xs ++ ys) i d (omega (arith, at.0, length-append xs ys))
    (λ k lt. ap p (get_or_append_left xs ys d k (omega (arith, lt, at.0))) ∙ at.2 k lt)
    (ap p (get_or_append_left xs ys d i at.0) ∙ at.1)

-- UTF-8 is read as itself
pub lossy_of_utf8 : (bytes : List ℕ) → IsUtf8 bytes → lossy bytes ≡ bytes
lossy_of_utf8 bytes is = lossy_chars-utf8_lossy bytes ∙ utf8_lossy-IsUtf8 bytes is

-- if the map of an option is a value, the option is a value
pub some_mapped : {A B : Type 0} (f : A → B) (o : Option A) (y : B) → option_map f o ≡ Some y → (x : A) × (o ≡ Some x) × (f x ≡ y)
some_mapped f (Some x) y is = (x, refl, same_Some (f x) y is)
some_mapped f None y is = absurd (none-some y is)

-- the bytes from an offset up to the first zero byte
pub bytes_are : (strings : List ℕ) (offset : ℕ) (rest : List ℕ) (end : ℕ) → rest ≡ drop offset strings → end < length rest → ((k : ℕ) → k < end → is_zero (get_or rest k 0) ≡ false) → is_zero (get_or rest end 0) ≡ true → bytes_at strings offset ≡ Some (take end rest)
bytes_are strings offset rest end is lt before at =
    ap (λ (xs : List ℕ). option_map (λ i. take i xs) (position is_zero xs)) (sym is) ∙ ap (option_map (λ i. take i rest)) (position_is is_zero rest end 0 lt before at)

-- there is no zero byte
pub no_bytes : (strings : List ℕ) (offset : ℕ) (rest : List ℕ) → rest ≡ drop offset strings → ((k : ℕ) → k < length rest → is_zero (get_or rest k 0) ≡ false) → bytes_at strings offset ≡ None
no_bytes strings offset rest is none = ap (λ (xs : List ℕ). option_map (λ i. take i xs) (position is_zero xs)) (sym is) ∙ ap (option_map (λ i. take i rest)) (position_none is_zero rest 0 none)

-- the text at an offset is unchanged when more is appended
bytes_at_append : (strings more : List ℕ) (offset : ℕ) (bytes : List ℕ) → bytes_at strings offset ≡ Some bytes → bytes_at (strings ++ more) offset ≡ Some bytes
bytes_at_append strings more offset bytes is =
    let rest = drop offset strings in
    let found = some_mapped (λ end. take end rest) (position is_zero rest) bytes is in
    let end = found.0 in
    let at = position-Some is_zero rest end 0 found.1 in
    let behind : drop offset (strings ++ more) ≡ rest ++ more = drop-append-le offset strings more (omega (arith, at.0, length-drop offset strings)) in
    ap (λ (xs : List ℕ). option_map (λ i. take i xs) (position is_zero xs)) behind
    ∙ ap (option_map (λ i. take i (rest ++ more))) (position_append is_zero rest more end 0 found.1)
    ∙ ap (λ (x : List ℕ). Some x) (take-append-le end rest more (omega (arith, at.0)) ∙ found.2)

-- the text of an offset whose bytes are known
text_is : (strings : List ℕ) (offset : ℕ) (bytes : List ℕ) → bytes_at strings offset ≡ Some bytes → text_at strings offset ≡ Ok (lossy bytes)
text_is strings offset bytes is = ap (text_of offset) is

-- an offset that is read as a text has bytes
pub has_bytes : (offset : ℕ) (o : Option (List ℕ)) (text : List ℕ) → text_of offset o ≡ Ok text → (bytes : List ℕ) × (o ≡ Some bytes) × (lossy bytes ≡ text)
has_bytes offset (Some bytes) text is = (bytes, refl, same_Some (lossy bytes) text (ap result_ok is))
has_bytes offset None text is = absurd (none-some text (ap result_ok is))

pub text_stays : (strings more : List ℕ) (offset : ℕ) (text : List ℕ) → text_at strings offset ≡ Ok text → text_at (strings ++ more) offset ≡ Ok text
text_stays strings more offset text is =
    let b = has_bytes offset (bytes_at strings offset) text is in
    text_is (strings ++ more) offset b.0 (bytes_at_append strings more offset b.0 b.1) ∙ ap (λ (x : List ℕ). Ok x) b.2

-- a text without a zero byte ends at the zero byte after it
pub added_bytes : (strings text : List ℕ) → ¬ (Contains text 0) → bytes_at (strings ++ text ++ 0 ∷ []) (length strings) ≡ Some text
added_bytes strings text none =
    let behind : drop (length strings) (strings ++ text ++ 0 ∷ []) ≡ text ++ 0 ∷ [] = ap (drop (length strings)) (append_assoc strings text (0 ∷ [])) ∙ drop-append_seam strings (text ++ 0 ∷ []) in
    let end : position is_zero (text ++ 0 ∷ []) ≡ Some (length text) = position_is is_zero (text ++ 0 ∷ []) (length text) 0 (omega (arith, length-append text (0 ∷ [])))
    (λ k lt. ap is_zero (get_or_append_left text (0 ∷ []) 0 k lt) ∙ ne_eqb (get_or text k 0) 0 (λ e. none (k, lt, e)))
    (ap is_zero (get_or-append_seam text 0 [] 0)) in
    ap (λ (xs : List ℕ). option_map (λ i. take i xs) (position is_zero xs)) behind
    ∙ ap (option_map (λ i. take i (text ++ 0 ∷ []))) end
    ∙ ap (λ (x : List ℕ). Some x) (take-append_seam text (0 ∷ []))

pub added_text : (strings text : List ℕ) → IsUtf8 text → ¬ (Contains text 0) → text_at (strings ++ text ++ 0 ∷ []) (length strings) ≡ Ok text
added_text strings text is none = text_is (strings ++ text ++ 0 ∷ []) (length strings) text (added_bytes strings text none) ∙ ap (λ (x : List ℕ). Ok x) (lossy_of_utf8 text is)

-- ---- the search for a name

-- a record has one text, and the name of a skipped record is different
not_passed : (strings : List ℕ) (k : Kind) (name : List ℕ) (r : Record) (answer : Result (List ℕ) Refusal) → kind_of r.info ≡ Some k → text_at strings r.name ≡ answer → ((other : List ℕ) → answer ≡ Ok other → other ≡ name) → IsPassed strings k name r → ⊥
not_passed strings k name r answer kind is wanted (inl other-kind) = other-kind kind
not_passed strings k name r answer kind is wanted (inr p) = p.2 (wanted p.0 (sym is ∙ p.1))

refused_is_no_text : (refusal : Refusal) (other name : List ℕ) → Err refusal ≡ Ok other → other ≡ name
refused_is_no_text refusal other name is = absurd (none-some other (ap result_ok is))

named_is_name : (other name : List ℕ) → result_ok {E = Refusal} (Ok name) ≡ Some other → other ≡ name
named_is_name other name is = sym (same_Some name other is)

-- The search ends at an id whose name is the given name, or cannot be read.
abbrev EndsHere : List ℕ → List Record → Kind → List ℕ → ℕ → Result (List ℕ) Refusal → Type 0
EndsHere strings records k name id answer = (r : Record) × IsReached strings records k name id r × (text_at strings r.name ≡ answer) × ((other : List ℕ) → answer ≡ Ok other → other ≡ name)

-- it does not end below an id that it reaches
not_lower : (strings : List ℕ) (records : List Record) (k : Kind) (name : List ℕ) (low id : ℕ) (b : Result (List ℕ) Refusal) → low < id → ArePassed strings records k name id → EndsHere strings records k name low b → ⊥
not_lower strings records k name low id b lt passed f = not_passed strings k name f.0 b f.1.2 f.2 f.3 (passed low f.0 lt f.1.1)

-- so it ends with one answer
same_end : (strings : List ℕ) (records : List Record) (k : Kind) (name : List ℕ) (id at : ℕ) (a b : Result (List ℕ) Refusal) → EndsHere strings records k name id a → EndsHere strings records k name at b → (id ≡ at) × (a ≡ b)
same_end strings records k name id at a b e f =
    ⊎_elim
    (λ (same : id ≡ at).
    (same, sym e.2 ∙ ap (λ (r : Record). text_at strings r.name) (same_Some e.0 f.0 (sym e.1.1 ∙ ap (slice_get records) same ∙ f.1.1)) ∙ f.2))
    (λ (other : (id < at) ⊎ (at < id)).
    ⊎_elim (λ (lt : id < at). absurd (not_lower strings records k name id at a lt f.1.0 e)) (λ (lt : at < id). absurd (not_lower strings records k name at id b lt e.1.0 f)) other)
    (cases_order id at)

-- or it skips all ids
not_all : (strings : List ℕ) (records : List Record) (k : Kind) (name : List ℕ) (id : ℕ) (a : Result (List ℕ) Refusal) → EndsHere strings records k name id a → ArePassed strings records k name (length records) → ⊥
not_all strings records k name id a e all = not_lower strings records k name id (length records) a (slice_get_within records id e.0 e.1.1) all e

ends_with_name : (strings : List ℕ) (records : List Record) (k : Kind) (name : List ℕ) (id : ℕ) → FindsName strings records k name (Ok id) → EndsHere strings records k name id (Ok name)
ends_with_name strings records k name id p = (p.0, p.1, p.2, λ other is. named_is_name other name (ap result_ok is))

ends_with_refusal : (strings : List ℕ) (records : List Record) (k : Kind) (name : List ℕ) (refusal : Refusal) (id : ℕ) (r : Record) → IsReached strings records k name id r → text_at strings r.name ≡ Err refusal → EndsHere strings records k name id (Err refusal)
ends_with_refusal strings records k name refusal id r reached is = (r, reached, is, λ other e. refused_is_no_text refusal other name e)

-- it does not both find an id and fail
not_both : (strings : List ℕ) (records : List Record) (k : Kind) (name : List ℕ) (id : ℕ) (refusal : Refusal) → FindsName strings records k name (Ok id) → FindsName strings records k name (Err refusal) → ⊥
not_both strings records k name id refusal p (inl q) =
    none-some name (ap result_ok (sym (same_end strings records k name id q.0 (Ok name) (Err refusal) (ends_with_name strings records k name id p) (ends_with_refusal strings records k name refusal q.0 q.1 q.2 q.3)).1))
not_both strings records k name id refusal p (inr q) = not_all strings records k name id (Ok name) (ends_with_name strings records k name id p) q.0

pub name_has_one : (strings : List ℕ) (records : List Record) (k : Kind) (name : List ℕ) (a b : Result ℕ Refusal) → FindsName strings records k name a → FindsName strings records k name b → a ≡ b
name_has_one strings records k name (Ok x) (Ok y) p q =
    ap (λ (id : ℕ). Ok id) (same_end strings records k name x y (Ok name) (Ok name) (ends_with_name strings records k name x p) (ends_with_name strings records k name y q)).0
name_has_one strings records k name (Ok x) (Err f) p q = absurd (not_both strings records k name x f p q)
name_has_one strings records k name (Err e) (Ok y) p q = absurd (not_both strings records k name y e q p)
name_has_one strings records k name (Err e) (Err f) (inl p) (inl q) =
    ap (λ (refusal : Refusal). Err refusal) (same_Some e f (ap result_err (same_end strings records k name p.0 q.0 (Err e) (Err f) (ends_with_refusal strings records k name e p.0 p.1 p.2 p.3) (ends_with_refusal strings records k name f q.0 q.1 q.2 q.3)).1))
name_has_one strings records k name (Err e) (Err f) (inl p) (inr q) = absurd (not_all strings records k name p.0 (Err e) (ends_with_refusal strings records k name e p.0 p.1 p.2 p.3) q.0)
name_has_one strings records k name (Err e) (Err f) (inr p) (inl q) = absurd (not_all strings records k name q.0 (Err f) (ends_with_refusal strings records k name f q.0 q.1 q.2 q.3) p.0)
name_has_one strings records k name (Err e) (Err f) (inr p) (inr q) = ap (λ (refusal : Refusal). Err refusal) (p.1 ∙ sym q.1)
