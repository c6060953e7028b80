-- What a record about a field gives, beside the record about the existence of the field.
use Rattle.std.proofs.Common.{◌≡◌, ℕ, suc, List, [], ◌∷◌, Bool, true, false, Option, Some, None, Result, Ok, Err, refl, sym, ap, subst, arith, inl, inr}
use Rattle.std.specs.Prelude.{◌⊎◌, nat_lt, not, if◌then◌else◌, length, slice_get}
use Rattle.std.proofs.lemmas.Bool.Decides.{nat_tests}
use Rattle.btf_model.specs.Table.{Table}
use Rattle.btf_model.specs.declared.endianness.Endianness.{Endianness}
use Rattle.btf_relocate_model.specs.Access.{access_of}
use Rattle.btf_relocate_model.specs.Candidates.{candidate_limit, is_nameless}
use Rattle.btf_relocate_model.specs.Kind.{relocation_kinds}
use Rattle.btf_relocate_model.specs.Laws.{IsOfValue, IsOfItsValue, AgreesWith, ExistenceAgrees}
use Rattle.btf_relocate_model.specs.Match.{match_path}
use Rattle.btf_relocate_model.specs.Path.{Path, path_of, local_pointer}
use Rattle.btf_relocate_model.specs.Resolution.{TablePair, Question, Subject, indices_or_bad, Topic, Fields, OfField, topic_of, poisons, resolution, question, answered, searched, answers, table_answers, answer_of, candidate_answer, joined_answer, retained, agree, seen_as, same_order, subject_by, is_local, resolved_by, remaining, validates}
use Rattle.btf_relocate_model.specs.Types.{◌>>=◌, required_record, name_at, pointer_size}
use Rattle.btf_relocate_model.specs.Value.{field_value, plain, truth_number}
use Rattle.btf_relocate_model.specs.declared.answer.Answer.{Answer}
use Rattle.btf_relocate_model.specs.declared.answer.Match.TheVariants.{AtField}
use Rattle.btf_relocate_model.specs.declared.error.RelocationError.{RelocationError}
use Rattle.btf_relocate_model.specs.declared.error.RelocationError.TheVariants.{Ambiguous, OrderMismatch, AnonymousType, TooManyCandidates}
use Rattle.btf_relocate_model.specs.declared.field.Field.{Field}
use Rattle.btf_relocate_model.specs.declared.field.Value.{Value}
use Rattle.btf_relocate_model.specs.declared.kind.RelocationKind.{RelocationKind}
use Rattle.btf_relocate_model.specs.declared.kind.RelocationKind.TheVariants.{FieldByteOffset, FieldByteSize, FieldExists, FieldSigned, FieldLShift64, FieldRShift64, TypeIdLocal, TypeIdTarget, TypeExists, TypeSize, EnumeratorExists, EnumeratorValue, TypeMatches}
use Rattle.btf_relocate_model.specs.declared.resolved.Resolved.{Resolved}

-- The second result follows the first: results by P, and errors are the same or of values.
abbrev Follows : {A B : Type 0} → (RelocationError → Type 0) → (A → B → Type 0) → Result A RelocationError → Result B RelocationError → Type 0
Follows of_value P (Ok a) (Ok b) = P a b
Follows of_value P (Ok a) (Err e) = of_value e
Follows of_value P (Err e) (Ok b) = ⊥
Follows of_value P (Err e) (Err other) = (other ≡ e) ⊎ of_value other

-- the error of a value, beside any result
beside : {A B : Type 0} (V : RelocationError → Type 0) (P : A → B → Type 0) (x : Result A RelocationError) (e : RelocationError) → V e → Follows V P x (Err e)
beside V P (Ok a) e is = is
beside V P (Err first) e is = inr is

bind : {A B C D : Type 0} (V : RelocationError → Type 0) (P : A → B → Type 0) (Q : C → D → Type 0) (x : Result A RelocationError) (y : Result B RelocationError)
    (f : A → Result C RelocationError) (h : B → Result D RelocationError)
    → Follows V P x y → ((a : A) (b : B) → P a b → Follows V Q (f a) (h b)) → Follows V Q (x >>= f) (y >>= h)
bind V P Q (Ok a) (Ok b) f h p next = next a b p
bind V P Q (Ok a) (Err e) f h p next = beside V Q (f a) e p
bind V P Q (Err e) (Ok b) f h p next = absurd p
bind V P Q (Err e) (Err other) f h p next = p

-- two steps after the same one
after_same : {A C D : Type 0} (V : RelocationError → Type 0) (Q : C → D → Type 0) (x : Result A RelocationError) (f : A → Result C RelocationError) (h : A → Result D RelocationError)
    → ((a : A) → Follows V Q (f a) (h a)) → Follows V Q (x >>= f) (x >>= h)
after_same V Q (Ok a) f h next = next a
after_same V Q (Err e) f h next = inl refl

-- a choice by one test
by_test : {C D : Type 0} (V : RelocationError → Type 0) (Q : C → D → Type 0) (test : Bool) (e : RelocationError) (x : Result C RelocationError) (y : Result D RelocationError)
    → Follows V Q x y → Follows V Q (if test then Err e else x) (if test then Err e else y)
by_test V Q true e x y is = inl refl
by_test V Q false e x y is = is

-- a value that is there, beside one that may be missing
beside_value : {A B : Type 0} (V : RelocationError → Type 0) (a : A) (x : Result B RelocationError) → ((e : RelocationError) → x ≡ Err e → V e) → Follows V (λ (first : A) (b : B). first ≡ a) (Ok a) x
beside_value V a (Ok b) is = refl
beside_value V a (Err e) is = is e refl

-- ---- answers

-- two answers about one field: the existence, and another
Same : Option Answer → Option Answer → Type 0
Same (Some a) (Some b) = (a.bit ≡ b.bit) × (a.value.value ≡ 1)
Same None None = Unit {0}
Same a b = ⊥

agrees : (a b c d : Answer) → a.bit ≡ c.bit → b.bit ≡ d.bit → a.value.value ≡ 1 → b.value.value ≡ 1 → agree c d ≡ true → agree a b ≡ true
agrees a b c d p q r s is = grind (arith, nat_tests)

chosen : (V : RelocationError → Type 0) → V Ambiguous → (a b : Option Answer) → Same a b → (p q : Bool) → (q ≡ true → p ≡ true)
    → Follows V Same (if p then Ok a else Err Ambiguous) (if q then Ok b else Err Ambiguous)
chosen V v a b same true true is = same
chosen V v a b same true false is = v
chosen V v a b same false true is = absurd (cc (is refl))
chosen V v a b same false false is = inl refl

joins : (V : RelocationError → Type 0) → V Ambiguous → (first other a b : Option Answer) → Same first other → Same a b → Follows V Same (joined_answer first a) (joined_answer other b)
unfolding Same
joins V v (Some x) (Some y) (Some a) (Some b) first same =
    chosen V v (Some x) (Some y) first (agree x a) (agree y b) (agrees x a y b first.0 same.0 first.1 same.1)
joins V v (Some x) (Some y) (Some a) None first same = absurd same
joins V v (Some x) (Some y) None (Some b) first same = absurd same
joins V v (Some x) (Some y) None None first same = first
joins V v (Some x) None a b first same = absurd first
joins V v None (Some y) a b first same = absurd first
joins V v None None (Some a) (Some b) first same = same
joins V v None None (Some a) None first same = absurd same
joins V v None None None (Some b) first same = absurd same
joins V v None None None None first same = tt

-- the same candidates remain
remain : (c : ℕ) (a b : Option Answer) (cs ds : List ℕ) → Same a b → cs ≡ ds → retained c a cs ≡ retained c b ds
unfolding Same
remain c (Some a) (Some b) cs ds same is = ap (λ (xs : List ℕ). c ∷ xs) is
remain c (Some a) None cs ds same is = absurd same
remain c None (Some b) cs ds same is = absurd same
remain c None None cs ds same is = is

SameFound : Option Answer × List ℕ → Option Answer × List ℕ → Type 0
SameFound x y = Same x.0 y.0 × (x.1 ≡ y.1)

all_answers : (V : RelocationError → Type 0) → V Ambiguous → (f h : ℕ → Result (Option Answer) RelocationError) → (cs : List ℕ) → ((i c : ℕ) → slice_get cs i ≡ Some c → Follows V Same (f c) (h c))
    → (first other : Option Answer) → Same first other → Follows V SameFound (answers f first cs) (answers h other cs)
unfolding SameFound
all_answers V v f h [] each first other same = (same, refl)
all_answers V v f h (c ∷ cs) each first other same =
    bind V Same SameFound (f c) (h c) (λ a. joined_answer first a >>= λ next. answers f next cs >>= λ rest. Ok (rest.0, retained c a rest.1)) (λ b. joined_answer other b >>= λ next. answers h next cs >>= λ rest. Ok (rest.0, retained c b rest.1)) (each 0 c refl)
    (λ a b ab. bind V Same SameFound (joined_answer first a) (joined_answer other b) (λ next. answers f next cs >>= λ rest. Ok (rest.0, retained c a rest.1)) (λ next. answers h next cs >>= λ rest. Ok (rest.0, retained c b rest.1)) (joins V v first other a b same ab)
    (λ m n mn. bind V SameFound SameFound (answers f m cs) (answers h n cs) (λ rest. Ok (rest.0, retained c a rest.1)) (λ rest. Ok (rest.0, retained c b rest.1)) (all_answers V v f h cs (λ i d is. each (suc i) d is) m n mn)
    (λ r s rs. (rs.0, remain c a b r.1 s.1 ab rs.1))))

-- ---- one candidate

one_field : (V : RelocationError → Type 0) (pointer : ℕ) (t : Table) (k : RelocationKind) (f : Field) → ((e : RelocationError) → field_value pointer t k f ≡ Err e → V e)
    → Follows V Same (answer_of pointer t FieldExists (Some (AtField f))) (answer_of pointer t k (Some (AtField f)))
unfolding Same
one_field V pointer t k f v =
    bind V (λ (a b : Value). a ≡ plain 1) Same (Ok (plain 1)) (field_value pointer t k f) (λ value. Ok (Some (record { bit = f.bit; value = value }))) (λ value. Ok (Some (record { bit = f.bit; value = value })))
    (beside_value V (plain 1) (field_value pointer t k f) v) (λ a b is. (refl, ap (λ (w : Value). w.value) is))

one_candidate : (V : RelocationError → Type 0) (pointer : ℕ) (t : Table) (k : RelocationKind) (x : Result (Option Field) RelocationError)
    → ((f : Field) (e : RelocationError) → x ≡ Ok (Some f) → field_value pointer t k f ≡ Err e → V e)
    → Follows V Same (x >>= seen_as AtField >>= answer_of pointer t FieldExists) (x >>= seen_as AtField >>= answer_of pointer t k)
unfolding Same
one_candidate V pointer t k (Ok (Some f)) v = one_field V pointer t k f (λ e is. v f e refl is)
one_candidate V pointer t k (Ok None) v = tt
one_candidate V pointer t k (Err e) v = inl refl

-- ---- the whole record

Agree : Resolved × List ℕ → Resolved × List ℕ → Type 0
Agree exists r = (exists.0.value ≡ truth_number (not r.0.is_poisoned)) × (exists.0.is_poisoned ≡ false) × (exists.1 ≡ r.1)

results : (g : TablePair) (k : RelocationKind) (p q : Bool) (expected other : Value) (cs : List ℕ) (a b : Option Answer) (left right : List ℕ) → poisons k ≡ true → Same a b → left ≡ right
    → Agree (resolved_by g.local g.target FieldExists p expected a, remaining cs a left) (resolved_by g.local g.target k q other b, remaining cs b right)
unfolding Same Agree
results g k p q expected other cs (Some a) (Some b) left right poison same is = (same.1, refl, is)
results g k p q expected other cs (Some a) None left right poison same is = absurd same
results g k p q expected other cs None (Some b) left right poison same is = absurd same
results g k p q expected other cs None None left right poison same is = (rw poison refl, refl, refl)

not_local : (k : RelocationKind) → poisons k ≡ true → is_local k ≡ false
not_local FieldByteOffset is = refl
not_local FieldByteSize is = refl
not_local FieldExists is = refl
not_local FieldSigned is = refl
not_local FieldLShift64 is = refl
not_local FieldRShift64 is = refl
not_local TypeIdLocal is = absurd (cc)
not_local TypeIdTarget is = refl
not_local TypeExists is = refl
not_local TypeSize is = refl
not_local EnumeratorExists is = refl
not_local EnumeratorValue is = refl
not_local TypeMatches is = refl

-- a question about a field
about : RelocationKind → List ℕ → Path → Question
about k name path = record { kind = k; name = name; subject = OfField path }

searches : (g : TablePair) (id : ℕ) (cs : List ℕ) (k : RelocationKind) (path : Path) (expected other : Value) → poisons k ≡ true
    → Follows (IsOfValue g k cs path) Agree (searched g FieldExists (OfField path) cs expected) (searched g k (OfField path) cs other)
unfolding Same SameFound
searches g id cs k path expected other poison =
    bind (IsOfValue g k cs path) SameFound Agree (table_answers (candidate_answer g FieldExists (OfField path)) None cs) (table_answers (candidate_answer g k (OfField path)) None cs)
    (λ found. Ok (resolved_by g.local g.target FieldExists (validates FieldExists (OfField path)) expected found.0, remaining cs found.0 found.1))
    (λ found. Ok (resolved_by g.local g.target k (validates k (OfField path)) other found.0, remaining cs found.0 found.1))
    (by_test (IsOfValue g k cs path) SameFound (nat_lt candidate_limit (length cs)) TooManyCandidates (answers (candidate_answer g FieldExists (OfField path)) None cs) (answers (candidate_answer g k (OfField path)) None cs)
    (all_answers (IsOfValue g k cs path) (inl refl) (candidate_answer g FieldExists (OfField path)) (candidate_answer g k (OfField path))
    cs
    (λ i c at. one_candidate (IsOfValue g k cs path) (pointer_size g.target) g.target k (match_path g.local (pointer_size g.target) g.target path.steps c) (λ f e matched is. inr (inr (i, c, f, at, matched, is))))
    None None tt))
    (λ x y xy. results g k (validates FieldExists (OfField path)) (validates k (OfField path)) expected other cs x.0 y.0 x.1 y.1 poison xy.0 xy.1)

answers_agree : (g : TablePair) (id : ℕ) (cs : List ℕ) (k : RelocationKind) (name : List ℕ) (path : Path) → poisons k ≡ true
    → Follows (IsOfValue g k cs path) Agree (answered g id cs (about FieldExists name path)) (answered g id cs (about k name path))
unfolding about
answers_agree g id cs k name path poison =
    rw (not_local k poison)
    (by_test (IsOfValue g k cs path) Agree (is_nameless name) (AnonymousType id) (searched g FieldExists (OfField path) cs (plain 1)) (field_value local_pointer g.local k path.field >>= searched g k (OfField path) cs)
    (bind (IsOfValue g k cs path) (λ (a b : Value). a ≡ plain 1) Agree (Ok (plain 1)) (field_value local_pointer g.local k path.field) (searched g FieldExists (OfField path) cs) (searched g k (OfField path) cs)
    (beside_value (IsOfValue g k cs path) (plain 1) (field_value local_pointer g.local k path.field) (λ e is. inr (inl is)))
    (λ a b is. searches g id cs k path a b poison)))

-- two questions about one field
SameQuestion : RelocationKind → Question → Question → Type 0
SameQuestion k q r = (name : List ℕ) × (path : Path) × (q ≡ about FieldExists name path) × (r ≡ about k name path)

of_kind : RelocationKind → List ℕ → Subject → Result Question RelocationError
of_kind k name s = Ok (record { kind = k; name = name; subject = s })

one_path : (V : RelocationError → Type 0) (k : RelocationKind) (name : List ℕ) (x : Result Path RelocationError)
    → Follows V (SameQuestion k) ((x >>= λ path. Ok (OfField path)) >>= of_kind FieldExists name) ((x >>= λ path. Ok (OfField path)) >>= of_kind k name)
unfolding SameQuestion of_kind about
one_path V k name (Ok path) = (name, path, refl, refl)
one_path V k name (Err e) = inl refl

paths : (V : RelocationError → Type 0) (t : Table) (k : RelocationKind) (id : ℕ) (name : List ℕ) (x : Result (List ℕ) RelocationError)
    → Follows V (SameQuestion k) ((x >>= λ is. path_of t id is >>= λ path. Ok (OfField path)) >>= of_kind FieldExists name) ((x >>= λ is. path_of t id is >>= λ path. Ok (OfField path)) >>= of_kind k name)
paths V t k id name (Ok is) = one_path V k name (path_of t id is)
paths V t k id name (Err e) = inl refl

subjects : (V : RelocationError → Type 0) (t : Table) (k : RelocationKind) (topic : Topic) (id : ℕ) (name access : List ℕ) → topic ≡ Fields
    → Follows V (SameQuestion k) (subject_by t Fields id access >>= of_kind FieldExists name) (subject_by t topic id access >>= of_kind k name)
subjects V t k topic id name access is =
    subst (λ (x : Topic). Follows V (SameQuestion k) (subject_by t Fields id access >>= of_kind FieldExists name) (subject_by t x id access >>= of_kind k name)) (sym is)
    (paths V t k id name (indices_or_bad (access_of access)))

questions : (V : RelocationError → Type 0) (t : Table) (order : Endianness) (at type access n : ℕ) (k : RelocationKind) → slice_get relocation_kinds n ≡ Some k → topic_of k ≡ Fields
    → Follows V (SameQuestion k) (question t order (at ∷ type ∷ access ∷ 2 ∷ [])) (question t order (at ∷ type ∷ access ∷ n ∷ []))
unfolding of_kind
questions V t order at type access n k is topic =
    rw is
    (by_test V (SameQuestion k) (not (same_order t.order order)) OrderMismatch _ _
    (after_same V (SameQuestion k) (required_record t type) _ _ (λ r.
    after_same V (SameQuestion k) (name_at t r.name) _ _ (λ name.
    after_same V (SameQuestion k) (name_at t access) _ _ (λ text.
    subjects V t k (topic_of k) type name text topic)))))

agreed : (V : RelocationError → Type 0) (x y : Result (Resolved × List ℕ) RelocationError) → Follows V Agree x y → AgreesWith V x y
unfolding Agree
agreed V (Ok a) (Ok b) is = is
agreed V (Ok a) (Err e) is = is
agreed V (Err e) (Ok b) is = is
agreed V (Err e) (Err other) is = is

-- errors of a larger set
weaker : {A B : Type 0} (V W : RelocationError → Type 0) (P : A → B → Type 0) (x : Result A RelocationError) (y : Result B RelocationError) → ((e : RelocationError) → V e → W e) → Follows V P x y → Follows W P x y
weaker V W P (Ok a) (Ok b) more is = is
weaker V W P (Ok a) (Err e) more is = more e is
weaker V W P (Err e) (Ok b) more is = is
weaker V W P (Err e) (Err other) more (inl same) = inl same
weaker V W P (Err e) (Err other) more (inr is) = inr (more other is)

-- two steps, where the first result is known
bind_known : {A B C D : Type 0} (V : RelocationError → Type 0) (P : A → B → Type 0) (Q : C → D → Type 0) (x : Result A RelocationError) (y : Result B RelocationError)
    (f : A → Result C RelocationError) (h : B → Result D RelocationError)
    → Follows V P x y → ((a : A) (b : B) → x ≡ Ok a → P a b → Follows V Q (f a) (h b)) → Follows V Q (x >>= f) (y >>= h)
bind_known V P Q (Ok a) (Ok b) f h p next = next a b refl p
bind_known V P Q (Ok a) (Err e) f h p next = beside V Q (f a) e p
bind_known V P Q (Err e) (Ok b) f h p next = absurd p
bind_known V P Q (Err e) (Err other) f h p next = p

both_answer : (g : TablePair) (id : ℕ) (cs : List ℕ) (k : RelocationKind) (words : List ℕ) (q r : Question) → poisons k ≡ true → question g.local g.target.order words ≡ Ok q → SameQuestion k q r
    → Follows (IsOfItsValue g k cs words) Agree (answered g id cs q) (answered g id cs r)
unfolding SameQuestion about
both_answer g id cs k words q r poison asked same =
    let first : Question = about FieldExists same.0 same.1 in
    weaker (IsOfValue g k cs same.1) (IsOfItsValue g k cs words) Agree (answered g id cs q) (answered g id cs r)
    (λ e is. (q, same.1, asked, ap (λ (x : Question). x.subject) same.2, is))
    (subst (λ (x : Question). Follows (IsOfValue g k cs same.1) Agree (answered g id cs x) (answered g id cs r)) (sym same.2)
    (subst (λ (x : Question). Follows (IsOfValue g k cs same.1) Agree (answered g id cs first) (answered g id cs x)) (sym same.3)
    (answers_agree g id cs k same.0 same.1 poison)))

pub existence_agrees : ExistenceAgrees
existence_agrees g cs at type access n k is topic poison =
    let words : List ℕ = at ∷ type ∷ access ∷ 2 ∷ [] in
    let others : List ℕ = at ∷ type ∷ access ∷ n ∷ [] in
    let V = IsOfItsValue g k cs words in
    agreed V (resolution g cs words) (resolution g cs others)
    (bind_known V (SameQuestion k) Agree (question g.local g.target.order words) (question g.local g.target.order others) (answered g type cs) (answered g type cs)
    (questions V g.local g.target.order at type access n k is topic)
    (λ q r asked same. both_answer g type cs k words q r poison asked same))
