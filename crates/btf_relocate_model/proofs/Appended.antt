-- What changes when strings are appended to the program's table.
use Rattle.std.proofs.Common.{◌≡◌, ℕ, zero, suc, ◌-◌, ◌<◌, List, [], ◌∷◌, ◌++◌, length, take, drop, Bool, true, false, Option, Some, None, Result, Ok, Err, refl, sym, ap, subst, ◌∙◌, arith, inl, inr}
use Rattle.std.specs.Prelude.{◌==◌, ◌&&◌, nat_lt, not, if◌then◌else◌, position, slice_get}
use Rattle.std.proofs.lemmas.List.{drop-append-le, take-append-le, get_or_append_left, length-append, length-drop}
use Rattle.std.proofs.lemmas.List.Quantifiers.{position-Some}
use Rattle.btf_model.proofs.Texts.{some_mapped, bytes_are}
use Rattle.btf_model.specs.Record.{Kind, Record, Int, Array, Enum, Fwd, Enum64, kind_of, kind_number}
use Rattle.btf_model.specs.Table.{Table, Variant}
use Rattle.btf_model.specs.Text.{bytes_at, is_zero}
use Rattle.btf_model.specs.Walk.{walk_limit}
use Rattle.btf_model.specs.declared.endianness.Endianness.{Endianness}
use Rattle.btf_relocate_model.proofs.AppendedComparison.{types_alike_same}
use Rattle.btf_relocate_model.proofs.OwnPaths.{ok_of, same_ok}
use Rattle.btf_relocate_model.specs.Access.{access_of}
use Rattle.btf_relocate_model.specs.Candidates.{candidate_limit, compared_number, is_nameless}
use Rattle.btf_relocate_model.specs.Comparison.{types_alike}
use Rattle.btf_relocate_model.specs.Compatible.{named_alike, alike_by, is_composite_kind, alike, compatible_by, compatible_within, compatible}
use Rattle.btf_relocate_model.specs.Enumerator.{enumerators, named_enumerator, enumerator_at}
use Rattle.btf_relocate_model.specs.Field.{root, member}
use Rattle.btf_relocate_model.specs.Laws.{SameOrUnread, with_strings, MatchesAlike, StringsMayBeAppended}
use Rattle.btf_relocate_model.specs.Match.{in_place, if_compatible, member_after, match_step, match_from, match_path, path_limit}
use Rattle.btf_relocate_model.specs.Path.{Place, PathStep, AtIndex, ToMember, local_pointer, nameless_place, named_place, member_place, place_by, place_at, after_step, path_from, path_of}
use Rattle.btf_relocate_model.specs.Resolution.{TablePair, Question, Topic, Fields, Types, Enumerators, Subject, OfField, OfType, OfEnumerator, indices_or_bad, enumerator_subject, topic_of, question, answered, searched, answers, table_answers, answer_of, candidate_answer, joined_answer, seen_as, same_order, subject_by, subject_of, is_local, local_match, rule_of, match_of, type_if, value_of, resolved_by, remaining, validates, relocation_kind_at, kind_word, type_word, access_word}
use Rattle.btf_relocate_model.specs.Search.{Found, search}
use Rattle.btf_relocate_model.specs.Types.{◌>>=◌, required_record, name_at, readable, resolved_record, pointer_size}
use Rattle.btf_relocate_model.specs.declared.answer.Answer.{Answer}
use Rattle.btf_relocate_model.specs.declared.answer.Match.{Match}
use Rattle.btf_relocate_model.specs.declared.answer.Match.TheVariants.{AtField, AtType, AtEnumerator}
use Rattle.btf_relocate_model.specs.declared.error.RelocationError.{RelocationError}
use Rattle.btf_relocate_model.specs.declared.error.RelocationError.TheVariants.{OrderMismatch, AnonymousType, TooManyCandidates}
use Rattle.btf_relocate_model.specs.declared.field.Field.{Field}
use Rattle.btf_relocate_model.specs.declared.field.Value.{Value}
use Rattle.btf_relocate_model.specs.declared.kind.RelocationKind.{RelocationKind}
use Rattle.btf_relocate_model.specs.declared.kind.RelocationKind.TheVariants.{FieldExists, TypeSize, TypeMatches}
use Rattle.btf_relocate_model.specs.declared.resolved.Resolved.{Resolved}

-- ---- steps

after_same : {A B : Type 0} (strings : List ℕ) (x : Result A RelocationError) (f h : A → Result B RelocationError) → ((a : A) → SameOrUnread strings (f a) (h a)) → SameOrUnread strings (x >>= f) (x >>= h)
after_same strings (Ok a) f h next = next a
after_same strings (Err e) f h next = inl refl

bind : {A B : Type 0} (strings : List ℕ) (x y : Result A RelocationError) (f h : A → Result B RelocationError) → SameOrUnread strings x y → ((a : A) → SameOrUnread strings (f a) (h a)) → SameOrUnread strings (x >>= f) (y >>= h)
bind strings x y f h (inl same) next = subst (λ (z : Result _ RelocationError). SameOrUnread strings (x >>= f) (z >>= h)) (sym same) (after_same strings x f h next)
bind strings x y f h (inr unread) next = inr (unread.0, unread.1, ap (λ (z : Result _ RelocationError). z >>= f) unread.2)

by_test : {A : Type 0} (strings : List ℕ) (test : Bool) (a b x y : Result A RelocationError) → SameOrUnread strings a b → SameOrUnread strings x y → SameOrUnread strings (if test then a else x) (if test then b else y)
by_test strings true a b x y first second = first
by_test strings false a b x y first second = second

-- ---- names

bytes_stay : (strings more : List ℕ) (offset : ℕ) (bytes : List ℕ) → bytes_at strings offset ≡ Some bytes → bytes_at (strings ++ more) offset ≡ Some bytes
bytes_stay strings more offset bytes is =
    let rest = drop offset strings in
    let found = some_mapped (λ end. take end rest) (position is_zero rest) bytes is in
    let end = found.0 in
    let at = position-Some is_zero rest end 0 found.1 in
    let inside : end < length rest = at.0 in
    let behind : rest ++ more ≡ drop offset (strings ++ more) = sym (drop-append-le offset strings more (omega (arith, length-drop offset strings))) in
    bytes_are (strings ++ more) offset (rest ++ more) end behind (omega (arith, length-append rest more))
    (λ k h. ap is_zero (get_or_append_left rest more 0 k (omega arith)) ∙ at.2 k h)
    (ap is_zero (get_or_append_left rest more 0 end inside) ∙ at.1)
    ∙ ap (λ (x : List ℕ). Some x) (take-append-le end rest more (omega arith) ∙ found.2)

one_name : (strings more : List ℕ) (offset : ℕ) (o : Option (List ℕ)) → bytes_at strings offset ≡ o → SameOrUnread strings (readable offset o) (readable offset (bytes_at (strings ++ more) offset))
one_name strings more offset (Some bytes) is = inl (ap (readable offset) (bytes_stay strings more offset bytes is))
one_name strings more offset None is = inr (offset, is, refl)

name_same : (more : List ℕ) (t : Table) (offset : ℕ) → SameOrUnread t.strings (name_at t offset) (name_at (with_strings more t) offset)
name_same more t offset = one_name t.strings more offset (bytes_at t.strings offset) refl

-- ---- paths

member_same : (more : List ℕ) (t : Table) (around f : Field) (offset : ℕ) → SameOrUnread t.strings (member_place t around f offset) (member_place (with_strings more t) around f offset)
member_same more t around f offset =
    by_test t.strings (offset == 0) (Ok (nameless_place around f)) (Ok (nameless_place around f)) (name_at t offset >>= named_place f) (name_at (with_strings more t) offset >>= named_place f) (inl refl)
    (bind t.strings (name_at t offset) (name_at (with_strings more t) offset) (named_place f) (named_place f) (name_same more t offset) (λ name. inl refl))

place_same : (more : List ℕ) (t : Table) (around : Field) (index : ℕ) (o : Option (Field × ℕ)) → SameOrUnread t.strings (place_by t around index o) (place_by (with_strings more t) around index o)
place_same more t around index (Some m) = member_same more t around m.0 m.1
place_same more t around index None = inl refl

path_same : (more : List ℕ) (t : Table) (is : List ℕ) (p : Place) → SameOrUnread t.strings (path_from t p is) (path_from (with_strings more t) p is)
path_same more t [] p = inl refl
path_same more t (i ∷ is) p =
    bind t.strings (place_at t p.field i) (place_at (with_strings more t) p.field i) (λ q. path_from t q is >>= λ path. Ok (after_step p.step path)) (λ q. path_from (with_strings more t) q is >>= λ path. Ok (after_step p.step path))
    (after_same t.strings (member t p.field i) (place_by t p.field i) (place_by (with_strings more t) p.field i) (place_same more t p.field i))
    (λ q. bind t.strings (path_from t q is) (path_from (with_strings more t) q is) (λ path. Ok (after_step p.step path)) (λ path. Ok (after_step p.step path)) (path_same more t is q) (λ path. inl refl))

access_same : (more : List ℕ) (t : Table) (id : ℕ) (is : List ℕ) → SameOrUnread t.strings (path_of t id is) (path_of (with_strings more t) id is)
access_same more t id [] = inl refl
access_same more t id (i ∷ is) =
    after_same t.strings (root local_pointer t id i) (λ f. path_from t (record { field = f; step = Some (AtIndex i) }) is) (λ f. path_from (with_strings more t) (record { field = f; step = Some (AtIndex i) }) is)
    (λ f. path_same more t is (record { field = f; step = Some (AtIndex i) }))

-- ---- enumerators

named_same : (more : List ℕ) (t : Table) (o : Option Variant) → SameOrUnread t.strings (named_enumerator t o) (named_enumerator (with_strings more t) o)
named_same more t (Some v) =
    bind t.strings (name_at t v.name) (name_at (with_strings more t) v.name) (λ name. Ok (v, name)) (λ name. Ok (v, name)) (name_same more t v.name) (λ name. inl refl)
named_same more t None = inl refl

enumerator_same : (more : List ℕ) (t : Table) (id : ℕ) (is : List ℕ) → SameOrUnread t.strings (enumerator_subject t id is) (enumerator_subject (with_strings more t) id is)
enumerator_same more t id [] = inl refl
enumerator_same more t id (i ∷ []) =
    bind t.strings (enumerator_at t id i) (enumerator_at (with_strings more t) id i) (λ e. Ok (OfEnumerator e.1 e.0.value)) (λ e. Ok (OfEnumerator e.1 e.0.value))
    (after_same t.strings (enumerators t id) _ _ (λ vs. named_same more t (slice_get vs i)))
    (λ e. inl refl)
enumerator_same more t id (i ∷ j ∷ is) = inl refl

-- ---- questions

subject_same : (more : List ℕ) (t : Table) (topic : Topic) (id : ℕ) (access : List ℕ) → SameOrUnread t.strings (subject_by t topic id access) (subject_by (with_strings more t) topic id access)
subject_same more t Types id access = inl refl
subject_same more t Enumerators id access =
    after_same t.strings (indices_or_bad (access_of access)) (enumerator_subject t id) (enumerator_subject (with_strings more t) id) (enumerator_same more t id)
subject_same more t Fields id access =
    after_same t.strings (indices_or_bad (access_of access)) _ _ (λ is. bind t.strings (path_of t id is) (path_of (with_strings more t) id is) (λ path. Ok (OfField path)) (λ path. Ok (OfField path)) (access_same more t id is) (λ path. inl refl))

question_same : (more : List ℕ) (t : Table) (order : Endianness) (words : List ℕ) → SameOrUnread t.strings (question t order words) (question (with_strings more t) order words)
question_same more t order words =
    let new = with_strings more t in
    after_same t.strings (relocation_kind_at (kind_word words)) _ _ (λ k.
    by_test t.strings (not (same_order t.order order)) (Err OrderMismatch) (Err OrderMismatch) _ _ (inl refl)
    (after_same t.strings (required_record t (type_word words)) _ _ (λ r.
    bind t.strings (name_at t r.name) (name_at new r.name) _ _ (name_same more t r.name) (λ name.
    bind t.strings (name_at t (access_word words)) (name_at new (access_word words)) _ _ (name_same more t (access_word words)) (λ access.
    bind t.strings (subject_of t k (type_word words) access) (subject_of new k (type_word words) access) _ _ (subject_same more t (topic_of k) (type_word words) access) (λ s. inl refl))))))

-- ---- compatible types

names_same : (more : List ℕ) (t target : Table) (r s : Record) → SameOrUnread t.strings (named_alike t target r s) (named_alike (with_strings more t) target r s)
names_same more t target r s =
    bind t.strings (name_at t r.name) (name_at (with_strings more t) r.name) _ _ (name_same more t r.name) (λ name. inl refl)

alike_by_same : (more : List ℕ) (t target : Table) (k q : Option Kind) (r s : Record) → SameOrUnread t.strings (alike_by t target k q r s) (alike_by (with_strings more t) target k q r s)
alike_by_same more t target (Some Fwd) q r s = names_same more t target r s
alike_by_same more t target (Some Enum) q r s = names_same more t target r s
alike_by_same more t target (Some Enum64) q r s = names_same more t target r s
alike_by_same more t target (Some Int) (Some Int) r s = inl refl
alike_by_same more t target k q r s = inl refl

alike_same : (more : List ℕ) (t target : Table) (r s : Record) → SameOrUnread t.strings (alike t target r s) (alike (with_strings more t) target r s)
alike_same more t target r s =
    by_test t.strings (is_composite_kind (kind_of r.info) && is_composite_kind (kind_of s.info)) (Ok true) (Ok true) _ _ (inl refl)
    (by_test t.strings (not (compared_number (kind_number r.info) == compared_number (kind_number s.info))) (Ok false) (Ok false) _ _ (inl refl)
    (alike_by_same more t target (kind_of r.info) (kind_of s.info) r s))

compatible_by_same : (more : List ℕ) (t target : Table) (f h : ℕ → ℕ → Result Bool RelocationError) → ((id other : ℕ) → SameOrUnread t.strings (f id other) (h id other)) → (k q : Option Kind) (r s : Record)
    → SameOrUnread t.strings (compatible_by f t target k q r s) (compatible_by h (with_strings more t) target k q r s)
compatible_by_same more t target f h elements (Some Array) (Some Array) r s = elements _ _
compatible_by_same more t target f h elements k q r s = alike_same more t target r s

compatible_same : (more : List ℕ) (t target : Table) (n start id other : ℕ) → SameOrUnread t.strings (compatible_within n start t target id other) (compatible_within n start (with_strings more t) target id other)
unfolding compatible_within
compatible_same more t target zero start id other = inl refl
compatible_same more t target (suc n) start id other =
    after_same t.strings (resolved_record t id) _ _ (λ r. after_same t.strings (resolved_record target other) _ _ (λ s.
    compatible_by_same more t target (compatible_within n start t target) (compatible_within n start (with_strings more t) target) (compatible_same more t target n start) (kind_of r.info) (kind_of s.info) r s))

-- ---- matches

member_after_same : (more : List ℕ) (t target : Table) (type : ℕ) (at : Found) (o : Option Found) → SameOrUnread t.strings (member_after t target type at o) (member_after (with_strings more t) target type at o)
member_after_same more t target type at (Some found) =
    after_same t.strings (in_place at found) (if_compatible t target type) (if_compatible (with_strings more t) target type) (λ f.
    bind t.strings (compatible t target type f.field.type_id) (compatible (with_strings more t) target type f.field.type_id) _ _ (compatible_same more t target walk_limit type type f.field.type_id) (λ is. inl refl))
member_after_same more t target type at None = inl refl

step_same : (more : List ℕ) (t : Table) (pointer : ℕ) (target : Table) (at : Found) (s : PathStep) → SameOrUnread t.strings (match_step t pointer target at s) (match_step (with_strings more t) pointer target at s)
step_same more t pointer target at (AtIndex index) = inl refl
step_same more t pointer target at (ToMember name type) =
    after_same t.strings (search (path_limit - at.count) target name at.field.type_id) (member_after t target type at) (member_after (with_strings more t) target type at) (member_after_same more t target type at)

steps_same : (more : List ℕ) (t : Table) (pointer : ℕ) (target : Table) (ss : List PathStep) (o : Option Found) → SameOrUnread t.strings (match_from t pointer target ss o) (match_from (with_strings more t) pointer target ss o)
steps_same more t pointer target [] (Some at) = inl refl
steps_same more t pointer target [] None = inl refl
steps_same more t pointer target (s ∷ ss) None = inl refl
steps_same more t pointer target (s ∷ ss) (Some at) =
    bind t.strings (match_step t pointer target at s) (match_step (with_strings more t) pointer target at s) (match_from t pointer target ss) (match_from (with_strings more t) pointer target ss)
    (step_same more t pointer target at s) (steps_same more t pointer target ss)

path_match_same : (more : List ℕ) (t : Table) (pointer : ℕ) (target : Table) (ss : List PathStep) (c : ℕ) → SameOrUnread t.strings (match_path t pointer target ss c) (match_path (with_strings more t) pointer target ss c)
path_match_same more t pointer target (AtIndex index ∷ ss) c =
    after_same t.strings (root pointer target c index) _ _ (λ f. steps_same more t pointer target ss (Some (record { field = f; count = 1 })))
path_match_same more t pointer target (ToMember name type ∷ ss) c = inl refl
path_match_same more t pointer target [] c = inl refl

-- the comparison of a kind, where that of `TypeMatches` is the same
compares_same : (more : List ℕ) (g : TablePair) (k : RelocationKind) → (k ≡ TypeMatches → MatchesAlike more g) → (id c : ℕ)
    → SameOrUnread g.local.strings (types_alike (record { rule = rule_of k; local = g.local; target = g.target }) id c)
    (types_alike (record { rule = rule_of k; local = with_strings more g.local; target = g.target }) id c)
compares_same more g TypeMatches matches id c = matches refl id c
compares_same more g k matches id c = inl (types_alike_same more g.local g.target id c)

match_same : (more : List ℕ) (g : TablePair) (k : RelocationKind) → (k ≡ TypeMatches → MatchesAlike more g) → (pointer : ℕ) (s : Subject) (c : ℕ)
    → SameOrUnread g.local.strings (match_of k g.local pointer g.target s c) (match_of k (with_strings more g.local) pointer g.target s c)
match_same more g k matches pointer (OfField path) c =
    bind g.local.strings (match_path g.local pointer g.target path.steps c) (match_path (with_strings more g.local) pointer g.target path.steps c) (seen_as AtField) (seen_as AtField) (path_match_same more g.local pointer g.target path.steps c) (λ o. inl refl)
match_same more g k matches pointer (OfType id) c =
    bind g.local.strings (types_alike (record { rule = rule_of k; local = g.local; target = g.target }) id c) (types_alike (record { rule = rule_of k; local = with_strings more g.local; target = g.target }) id c) (type_if c) (type_if c)
    (compares_same more g k matches id c) (λ is. inl refl)
match_same more g k matches pointer (OfEnumerator name value) c = inl refl

all_same : (strings : List ℕ) (f h : ℕ → Result (Option Answer) RelocationError) → ((c : ℕ) → SameOrUnread strings (f c) (h c)) → (cs : List ℕ) (first : Option Answer) → SameOrUnread strings (answers f first cs) (answers h first cs)
all_same strings f h each [] first = inl refl
all_same strings f h each (c ∷ cs) first =
    bind strings (f c) (h c) _ _ (each c) (λ a. after_same strings (joined_answer first a) _ _ (λ next.
    bind strings (answers f next cs) (answers h next cs) _ _ (all_same strings f h each cs next) (λ rest. inl refl)))

-- ---- values

field_value_same : (more : List ℕ) (t : Table) (k : RelocationKind) (f : Field) → value_of local_pointer (with_strings more t) k (AtField f) ≡ value_of local_pointer t k (AtField f)
field_value_same more t FieldExists f = refl
field_value_same more t k f = refl

type_value_same : (more : List ℕ) (t : Table) (k : RelocationKind) (id : ℕ) → value_of local_pointer (with_strings more t) k (AtType id) ≡ value_of local_pointer t k (AtType id)
type_value_same more t TypeSize id = refl
type_value_same more t k id = refl

value_same : (more : List ℕ) (t : Table) (k : RelocationKind) (m : Match) → value_of local_pointer (with_strings more t) k m ≡ value_of local_pointer t k m
value_same more t k (AtField f) = field_value_same more t k f
value_same more t k (AtType id) = type_value_same more t k id
value_same more t k (AtEnumerator value) = refl

resolved_same : (more : List ℕ) (t target : Table) (k : RelocationKind) (is_validated : Bool) (expected : Value) (o : Option Answer) → resolved_by (with_strings more t) target k is_validated expected o ≡ resolved_by t target k is_validated expected o
resolved_same more t target k is_validated expected (Some a) = refl
resolved_same more t target k is_validated expected None = refl

-- ---- the whole record

abbrev appended : List ℕ → TablePair → TablePair
appended more g = record g { local = with_strings more g.local }

searched_same : (more : List ℕ) (g : TablePair) (k : RelocationKind) → (k ≡ TypeMatches → MatchesAlike more g) → (s : Subject) (cs : List ℕ) (expected : Value) → SameOrUnread g.local.strings (searched g k s cs expected) (searched (appended more g) k s cs expected)
searched_same more g k matches s cs expected =
    bind g.local.strings (table_answers (candidate_answer g k s) None cs) (table_answers (candidate_answer (appended more g) k s) None cs) _ _
    (by_test g.local.strings (nat_lt candidate_limit (length cs)) (Err TooManyCandidates) (Err TooManyCandidates) _ _ (inl refl)
    (all_same g.local.strings (candidate_answer g k s) (candidate_answer (appended more g) k s) (λ c.
    bind g.local.strings (match_of k g.local (pointer_size g.target) g.target s c) (match_of k (with_strings more g.local) (pointer_size g.target) g.target s c) (answer_of (pointer_size g.target) g.target k) (answer_of (pointer_size g.target) g.target k)
    (match_same more g k matches (pointer_size g.target) s c) (λ m. inl refl)) cs None))
    (λ found. inl (ap (λ (r : Resolved). Ok (r, remaining cs found.0 found.1)) (resolved_same more g.local g.target k (validates k s) expected found.0)))

answered_same : (more : List ℕ) (g : TablePair) (id : ℕ) (cs : List ℕ) (q : Question) → (q.kind ≡ TypeMatches → MatchesAlike more g) → SameOrUnread g.local.strings (answered g id cs q) (answered (appended more g) id cs q)
answered_same more g id cs q matches =
    by_test g.local.strings (is_local q.kind) _ _ _ _ (inl refl)
    (by_test g.local.strings (is_nameless q.name) (Err (AnonymousType id)) (Err (AnonymousType id)) _ _ (inl refl)
    (bind g.local.strings (value_of local_pointer g.local q.kind (local_match q.subject)) (value_of local_pointer (with_strings more g.local) q.kind (local_match q.subject)) (searched g q.kind q.subject cs) (searched (appended more g) q.kind q.subject cs)
    (inl (value_same more g.local q.kind (local_match q.subject))) (searched_same more g q.kind matches q.subject cs)))

-- the kind of a question is the kind of its record
kind_is : (t : Table) (order : Endianness) (words : List ℕ) (q : Question) → question t order words ≡ Ok q → relocation_kind_at (kind_word words) ≡ Ok q.kind
kind_is t order words q is =
    let k = ok_of (relocation_kind_at (kind_word words)) _ q is in k.1 ∙ ap {B = Result RelocationKind RelocationError} (λ (x : RelocationKind). Ok x) (by_order k.0 (not (same_order t.order order)) k.2)
  where
    by_order : (k : RelocationKind) (test : Bool)
        → (if test then Err OrderMismatch else (required_record t (type_word words) >>= λ r. name_at t r.name >>= λ name. name_at t (access_word words) >>= λ access. subject_of t k (type_word words) access >>= λ s. Ok (record { kind = k; name = name; subject = s }))) ≡ Ok q
        → k ≡ q.kind
    by_order k true e = absurd (cc)
    by_order k false e =
        let r = ok_of (required_record t (type_word words)) _ q e in
        let name = ok_of (name_at t r.0.name) _ q r.2 in
        let access = ok_of (name_at t (access_word words)) _ q name.2 in
        let s = ok_of (subject_of t k (type_word words) access.0) (λ s. Ok (record { kind = k; name = name.0; subject = s })) q access.2 in
        ap (λ (x : Question). x.kind) (same_ok _ _ s.2)

bind_known : {A B : Type 0} (strings : List ℕ) (x y : Result A RelocationError) (f h : A → Result B RelocationError) → SameOrUnread strings x y → ((a : A) → x ≡ Ok a → SameOrUnread strings (f a) (h a)) → SameOrUnread strings (x >>= f) (y >>= h)
bind_known strings x y f h (inl same) next = subst (λ (z : Result _ RelocationError). SameOrUnread strings (x >>= f) (z >>= h)) (sym same) (after_known strings x f h next)
  where
    after_known : {A B : Type 0} (strings : List ℕ) (x : Result A RelocationError) (f h : A → Result B RelocationError) → ((a : A) → x ≡ Ok a → SameOrUnread strings (f a) (h a)) → SameOrUnread strings (x >>= f) (x >>= h)
    after_known strings (Ok a) f h next = next a refl
    after_known strings (Err e) f h next = inl refl
bind_known strings x y f h (inr unread) next = inr (unread.0, unread.1, ap (λ (z : Result _ RelocationError). z >>= f) unread.2)

pub strings_may_be_appended : StringsMayBeAppended
strings_may_be_appended g more cs words matches =
    bind_known g.local.strings (question g.local g.target.order words) (question (with_strings more g.local) g.target.order words) (answered g (type_word words) cs) (answered (appended more g) (type_word words) cs)
    (question_same more g.local g.target.order words)
    (λ q is. answered_same more g (type_word words) cs q (λ e. matches (kind_is g.local g.target.order words q is ∙ ap {B = Result RelocationKind RelocationError} (λ (k : RelocationKind). Ok k) e)))
