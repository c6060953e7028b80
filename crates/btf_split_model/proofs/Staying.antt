-- What a base gives an answer to has the same answer in a table that extends it.
use Rattle.std.proofs.Common.{◌≡◌, ℕ, zero, suc, ◌+◌, ◌<◌, List, [], ◌∷◌, ◌++◌, length, take, drop, Option, None, Some, Ok, Err, refl, sym, ap, subst, ◌∙◌, arith, inl, inr}
use Rattle.std.specs.Prelude.{slice_get}
use Rattle.std.specs.Result.{result_ok}
use Rattle.std.proofs.lemmas.Option.{none-some, slice_get_within}
use Rattle.std.proofs.Math.Seq.{drop-append-add, take-append_seam}
use Rattle.btf_model.specs.declared.endianness.Endianness.{Endianness}
use Rattle.btf_model.specs.Record.{Record}
use Rattle.btf_model.specs.Refusal.{Refusal, MaximumTypeDepthReached}
use Rattle.btf_model.specs.Table.{Table, Fallback, no_fallbacks}
use Rattle.btf_model.specs.Text.{text_at, bytes_at}
use Rattle.btf_model.specs.Walk.{Finding, Ends, GoesOn, Leads, WalkAnswers, By, unmodified_in, size_in, Elements, Resolves, HasSize}
use Rattle.btf_model.proofs.Blobs.{slice_get-append_left}
use Rattle.btf_model.proofs.Texts.{text_stays}
use Rattle.btf_split_model.specs.Split.{appended, cut, joined, Extends, IsJoined}
use Rattle.btf_split_model.proofs.Joining.{front_and_rest, joined_extends}

-- ---- records and texts

pub record_stays : (base t : Table) → Extends base t → (id : ℕ) → id < length base.records → slice_get t.records id ≡ slice_get base.records id
record_stays base t h id lt =
    ap (λ (xs : List Record). slice_get xs id) (front_and_rest base.records t.records h.records)
    ∙ slice_get-append_left base.records (drop (length base.records) t.records) id lt

pub text_of_base : (base t : Table) → Extends base t → (offset : ℕ) (text : List ℕ) → text_at base.strings offset ≡ Ok text → text_at t.strings offset ≡ Ok text
text_of_base base t h offset text is =
    ap (λ (xs : List ℕ). text_at xs offset) (front_and_rest base.strings t.strings h.strings)
    ∙ text_stays base.strings (drop (length base.strings) t.strings) offset text is

-- an element behind a list
behind_list : {X : Type 0} (xs ys : List X) (i : ℕ) → slice_get (xs ++ ys) (length xs + i) ≡ slice_get ys i
behind_list [] ys i = ap (slice_get ys) (omega arith)
behind_list (x ∷ xs) ys i =
    let e : length (x ∷ xs) + i ≡ suc (length xs + i) = omega arith in
    ap (slice_get (x ∷ xs ++ ys)) e ∙ behind_list xs ys i

after_first : {X : Type 0} (xs : List X) (i : ℕ) → slice_get (drop 1 xs) i ≡ slice_get xs (1 + i)
after_first [] i = refl
after_first (x ∷ xs) i =
    let e : suc i ≡ 1 + i = omega arith in
    ap (slice_get (x ∷ xs)) e

pub own_types : (base own : Table) (id : ℕ) → slice_get (joined base own).records (length base.records + id) ≡ slice_get own.records (1 + id)
own_types base own id = behind_list base.records (drop 1 own.records) id ∙ after_first own.records id

pub own_texts : (base own : Table) (offset : ℕ) → bytes_at (joined base own).strings (length base.strings + offset) ≡ bytes_at own.strings offset
own_texts base own offset = rw (drop-append-add base.strings own.strings offset) refl

pub cut_again : (order : Endianness) (base : Table) (bytes : List ℕ) (t : Table) → IsJoined order base bytes t → length base.fallbacks ≡ length base.records → cut (length base.records) (length base.strings) (appended base t) ≡ base
cut_again order base bytes t h same =
    let ext : Extends base t = joined_extends order base bytes t h in
    let more : List (Option Fallback) = no_fallbacks (drop (length base.records) t.records) in
    let fallbacks : take (length base.records) (base.fallbacks ++ more) ≡ base.fallbacks = ap (λ (n : ℕ). take n (base.fallbacks ++ more)) (sym same) ∙ take-append_seam base.fallbacks more in
    λ i. record base { strings = ext.strings i; records = ext.records i; fallbacks = fallbacks i }

-- ---- walks

-- The walk goes on, or ends with a value.
abbrev pub IsFound : {P A : Type 0} → Finding P A → Type 0
IsFound (GoesOn next) = Unit {0}
IsFound (Ends (Ok answer)) = Unit {0}
IsFound (Ends (Err refusal)) = ⊥

module _ {P A : Type 0} (Finds Again : P → Finding P A → Type 0) (stays : (place : P) (found : Finding P A) → IsFound found → Finds place found → Again place found) where
  leads_stay : (n : ℕ) (start end : P) → Leads Finds n start end → Leads Again n start end
  leads_stay zero start end h = h
  leads_stay (suc n) start end h = (h.0, stays start (GoesOn h.0) tt h.1, leads_stay n h.0 end h.2)

  -- a value that is found is found again
  pub answer_stays : (start : P) (too_deep : P → Refusal) (x : A) → WalkAnswers Finds start too_deep (Ok x) → WalkAnswers Again start too_deep (Ok x)
  answer_stays start too_deep x (inl p) = inl (p.0, p.1, p.2, leads_stay p.0 start p.1 p.3, stays p.1 (Ends (Ok x)) tt p.4)
  answer_stays start too_deep x (inr p) = absurd (none-some x (ap result_ok (sym p.2)))

resolving_found : (at : ℕ) (o other : Option Record) (found : Finding ℕ ℕ) → ((r : Record) → o ≡ Some r → other ≡ Some r) → IsFound found → unmodified_in at o ≡ found → unmodified_in at other ≡ found
resolving_found at (Some r) other found same fine is = ap (unmodified_in at) (same r refl) ∙ is
resolving_found at None other found same fine is = absurd (subst IsFound (sym is) fine)

size_found : (at : Elements) (o other : Option Record) (found : Finding Elements ℕ) → ((r : Record) → o ≡ Some r → other ≡ Some r) → IsFound found → size_in at o ≡ found → size_in at other ≡ found
size_found at (Some r) other found same fine is = ap (size_in at) (same r refl) ∙ is
size_found at None other found same fine is = absurd (subst IsFound (sym is) fine)

pub known_stays : (base t : Table) → Extends base t → (id : ℕ) (r : Record) → slice_get base.records id ≡ Some r → slice_get t.records id ≡ Some r
known_stays base t h id r is = record_stays base t h id (slice_get_within base.records id r is) ∙ is

pub resolving_stays : (base t : Table) → Extends base t → (id end : ℕ) → Resolves base.records id (Ok end) → Resolves t.records id (Ok end)
resolving_stays base t h id end is =
    answer_stays (By (λ at. unmodified_in at (slice_get base.records at))) (By (λ at. unmodified_in at (slice_get t.records at)))
    (λ at found fine. resolving_found at (slice_get base.records at) (slice_get t.records at) found (known_stays base t h at) fine)
    id (λ _. MaximumTypeDepthReached id) end is

pub size_stays : (base t : Table) → Extends base t → (id size : ℕ) → HasSize base.records id (Ok size) → HasSize t.records id (Ok size)
size_stays base t h id size is =
    answer_stays (By (λ at. size_in at (slice_get base.records at.type))) (By (λ at. size_in at (slice_get t.records at.type)))
    (λ at found fine. size_found at (slice_get base.records at.type) (slice_get t.records at.type) found (known_stays base t h at.type) fine)
    (record { count = 1; type = id }) (λ _. MaximumTypeDepthReached id) size is
