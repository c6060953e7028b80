-- What a record is about, matched in the program's own table.
use Rattle.std.proofs.Common.{◌≡◌, ℕ, zero, suc, List, [], ◌∷◌, Bool, true, false, Option, Some, None, Result, Ok, Err, refl, sym, ap, subst, ◌∙◌}
use Rattle.std.specs.Prelude.{not, if◌then◌else◌, slice_get, codes}
use Rattle.std.specs.Str.{bytes_eq}
use Rattle.btf_model.specs.Table.{Table, Variant}
use Rattle.btf_model.specs.declared.endianness.Endianness.{Endianness}
use Rattle.btf_relocate_model.proofs.OwnPaths.{ok_of, same_ok, same_some, same_bytes, bytes_same, paths_match_themselves}
use Rattle.btf_relocate_model.specs.Access.{access_of}
use Rattle.btf_relocate_model.specs.Comparison.{types_alike}
use Rattle.btf_relocate_model.specs.Enumerator.{enumerators, named_enumerator, enumerator_at, first_named, find_enumerator}
use Rattle.btf_relocate_model.specs.Laws.{IsOwn, MatchesItself}
use Rattle.btf_relocate_model.specs.Match.{match_path}
use Rattle.btf_relocate_model.specs.Name.{essential}
use Rattle.btf_relocate_model.specs.Path.{path_of, local_pointer}
use Rattle.btf_relocate_model.specs.Resolution.{TablePair, Question, Topic, Fields, Types, Enumerators, Subject, OfField, OfType, OfEnumerator, topic_of, indices_or_bad, enumerator_subject, subject_by, subject_of, question, relocation_kind_at, kind_word, type_word, access_word, same_order, local_match, rule_of, match_of, seen_as, type_if}
use Rattle.btf_relocate_model.specs.Types.{◌>>=◌, required_record, name_at, pointer_size}
use Rattle.btf_relocate_model.specs.declared.answer.Match.{Match}
use Rattle.btf_relocate_model.specs.declared.answer.Match.TheVariants.{AtField, AtType, AtEnumerator}
use Rattle.btf_relocate_model.specs.declared.error.RelocationError.{RelocationError}
use Rattle.btf_relocate_model.specs.declared.error.RelocationError.TheVariants.{OrderMismatch, BadAccess}
use Rattle.btf_relocate_model.specs.declared.kind.RelocationKind.{RelocationKind}

-- ---- what a record is about

-- where a subject comes from
Made : Table → ℕ → Subject → Type 0
Made t id (OfField path) = (is : List ℕ) × (path_of t id is ≡ Ok path)
Made t id (OfType other) = other ≡ id
Made t id (OfEnumerator name value) =
    (vs : List Variant) × (i : ℕ) × (v : Variant) × (enumerators t id ≡ Ok vs) × (slice_get vs i ≡ Some v) × (name_at t v.name ≡ Ok name) × (v.value ≡ value)

made_enumerator : (t : Table) (id : ℕ) (is : List ℕ) (s : Subject) → enumerator_subject t id is ≡ Ok s → Made t id s
unfolding Made
made_enumerator t id [] s is_made = absurd (cc)
made_enumerator t id (i ∷ j ∷ is) s is_made = absurd (cc)
made_enumerator t id (i ∷ []) s is_made =
    let one = ok_of (enumerator_at t id i) (λ e. Ok (OfEnumerator e.1 e.0.value)) s is_made in
    let two = ok_of (enumerators t id) (λ vs. named_enumerator t (slice_get vs i)) one.0 one.1 in
    subst (Made t id) (same_ok _ _ one.2) (by_option two.0 two.1 (slice_get two.0 i) refl one.0 two.2)
  where
    by_option : (vs : List Variant) → enumerators t id ≡ Ok vs → (o : Option Variant) → slice_get vs i ≡ o → (e : Variant × List ℕ) → named_enumerator t o ≡ Ok e → Made t id (OfEnumerator e.1 e.0.value)
    by_option vs at None is e found = absurd (cc)
    by_option vs at (Some v) is e found =
        let name = ok_of (name_at t v.name) (λ x. Ok (v, x)) e found in
        let pair : ◌≡◌ {A = Variant × List ℕ} (v, name.0) e = same_ok _ _ name.2 in
        subst (λ (x : Variant × List ℕ). Made t id (OfEnumerator x.1 x.0.value)) pair (vs, i, v, at, is, name.1, refl)

made_by : (t : Table) (topic : Topic) (id : ℕ) (access : List ℕ) (s : Subject) → subject_by t topic id access ≡ Ok s → Made t id s
unfolding Made
made_by t Types id access s is = by_test (bytes_eq access (codes "0")) is
  where
    by_test : (test : Bool) → (if test then Ok (OfType id) else Err BadAccess) ≡ Ok s → Made t id s
    by_test true e = subst (Made t id) (same_ok _ _ e) refl
    by_test false e = absurd (cc)
made_by t Enumerators id access s is =
    let one = ok_of (indices_or_bad (access_of access)) (enumerator_subject t id) s is in made_enumerator t id one.0 s one.2
made_by t Fields id access s is =
    let one = ok_of (indices_or_bad (access_of access)) (λ is. path_of t id is >>= λ path. Ok (OfField path)) s is in
    let two = ok_of (path_of t id one.0) (λ path. Ok (OfField path)) s one.2 in
    subst (Made t id) (same_ok _ _ two.2) (one.0, two.1)

-- the question of a kind, after its tests
abbrev with_subject : RelocationKind → List ℕ → Subject → Result Question RelocationError
with_subject k name s = Ok (record { kind = k; name = name; subject = s })

made : (t : Table) (order : Endianness) (words : List ℕ) (q : Question) → question t order words ≡ Ok q → Made t (type_word words) q.subject
made t order words q is =
    let k = ok_of (relocation_kind_at (kind_word words)) _ q is in by_order k.0 (not (same_order t.order order)) k.2
  where
    by_order : (k : RelocationKind) (test : Bool)
        → (if test then Err OrderMismatch else (required_record t (type_word words) >>= λ r. name_at t r.name >>= λ name. name_at t (access_word words) >>= λ access. subject_of t k (type_word words) access >>= with_subject k name)) ≡ Ok q
        → Made t (type_word words) q.subject
    by_order k true e = absurd (cc)
    by_order k false e =
        let r = ok_of (required_record t (type_word words)) _ q e in
        let name = ok_of (name_at t r.0.name) _ q r.2 in
        let access = ok_of (name_at t (access_word words)) _ q name.2 in
        let s = ok_of (subject_of t k (type_word words) access.0) (with_subject k name.0) q access.2 in
        subst (λ (x : Question). Made t (type_word words) x.subject) (same_ok _ _ s.2) (made_by t (topic_of k) (type_word words) access.0 s.0 s.1)

-- ---- enumerators

first_is : (t : Table) (name : List ℕ) (vs : List Variant) (i : ℕ) (v : Variant) (o : Option Variant) → slice_get vs i ≡ Some v → name_at t v.name ≡ Ok name
    → ((j : ℕ) (w : Variant) (other : List ℕ) → slice_get vs j ≡ Some w → name_at t w.name ≡ Ok other → essential other ≡ essential name → w.value ≡ v.value)
    → first_named t name vs ≡ Ok o → (w : Variant) × (o ≡ Some w) × (w.value ≡ v.value)
first_is t name [] i v o is read same found = absurd (cc)
first_is t name (w ∷ ws) i v o is read same found =
    let other = ok_of (name_at t w.name) (λ x. if bytes_eq (essential x) (essential name) then Ok (Some w) else first_named t name ws) o found in
    by_test other.0 other.1 (bytes_eq (essential other.0) (essential name)) refl other.2
    (λ j e rest. first_is t name ws j v o e read (λ k u x at. same (suc k) u x at) rest) i is
  where
    by_test : (other : List ℕ) → name_at t w.name ≡ Ok other → (test : Bool) → bytes_eq (essential other) (essential name) ≡ test → (if test then Ok (Some w) else first_named t name ws) ≡ Ok o
        → ((j : ℕ) → slice_get ws j ≡ Some v → first_named t name ws ≡ Ok o → (u : Variant) × (o ≡ Some u) × (u.value ≡ v.value)) → (i : ℕ) → slice_get (w ∷ ws) i ≡ Some v → (u : Variant) × (o ≡ Some u) × (u.value ≡ v.value)
    by_test other at true eq e later i here = (w, sym (same_ok _ _ e), same 0 w other refl at (same_bytes (essential other) (essential name) eq))
    by_test other at false eq e later (suc i) here = later i here e
    by_test other at false eq e later zero here =
        let one : w ≡ v = same_some w v here in
        let text : other ≡ name = same_ok other name (sym at ∙ ap (λ (u : Variant). name_at t u.name) one ∙ read) in
        let yes_it_is : bytes_eq (essential other) (essential name) ≡ true = ap (λ (x : List ℕ). bytes_eq (essential x) (essential name)) text ∙ bytes_same (essential name) in
        absurd (apart (sym yes_it_is ∙ eq))
      where
        apart : true ≡ false → ⊥
        apart e = cc

-- ---- matches

-- a subject of the program's own table matches itself
finds_itself : (g : TablePair) (k : RelocationKind) (id : ℕ) (s : Subject) (m : Option Match) → IsOwn g → Made g.local id s → MatchesItself g k id s
    → match_of k g.local (pointer_size g.target) g.target s id ≡ Ok m → m ≡ Some (local_match s)
unfolding Made
finds_itself g k id s m own from plain found =
    by_subject s from plain (sym (ap (λ (p : ℕ). match_of k g.local p g.target s id) own.pointer ∙ ap (λ (t : Table). match_of k g.local local_pointer t s id) own.table) ∙ found)
  where
    t : Table
    t = g.local

    by_subject : (s : Subject) → Made t id s → MatchesItself g k id s → match_of k t local_pointer t s id ≡ Ok m → m ≡ Some (local_match s)
    by_subject (OfField path) from plain found =
        let one = ok_of (match_path t local_pointer t path.steps id) (seen_as AtField) m found in
        let o : one.0 ≡ Some path.field = paths_match_themselves t id from.0 path one.0 plain from.1 one.1 in
        sym (same_ok (Some (AtField path.field)) m (ap (seen_as AtField) (sym o) ∙ one.2))
    by_subject (OfType other) from plain found =
        let one = ok_of (types_alike (record { rule = rule_of k; local = t; target = t }) other id) (type_if id) m found in
        let alike : one.0 ≡ true =
        plain one.0 (ap (λ (u : Table). types_alike (record { rule = rule_of k; local = t; target = u }) id id) own.table ∙ ap (λ (n : ℕ). types_alike (record { rule = rule_of k; local = t; target = t }) n id) (sym from) ∙ one.1) in
        sym (same_ok (Some (AtType id)) m (ap (type_if id) (sym alike) ∙ one.2)) ∙ ap (λ (n : ℕ). Some (AtType n)) (sym from)
    by_subject (OfEnumerator name value) from plain found =
        let one = ok_of (find_enumerator t id name) (seen_as (λ (v : Variant). AtEnumerator v.value)) m found in
        let two = ok_of (enumerators t id) (first_named t name) one.0 one.1 in
        let vs : two.0 ≡ from.0 = same_ok two.0 from.0 (sym two.1 ∙ from.3) in
        let here : first_named t name from.0 ≡ Ok one.0 = ap (first_named t name) (sym vs) ∙ two.2 in
        let first = first_is t name from.0 from.1 from.2 one.0 from.4 from.5 (λ j w other at read same. plain from.0 from.1 j from.2 w name other from.3 from.4 at from.5 read same) here in
        sym (same_ok (Some (AtEnumerator first.0.value)) m (ap (seen_as (λ (v : Variant). AtEnumerator v.value)) (sym first.1) ∙ one.2))
        ∙ ap (λ (n : ℕ). Some (AtEnumerator n)) (first.2 ∙ from.6)

pub record_finds_itself : (g : TablePair) (words : List ℕ) (q : Question) (m : Option Match) → IsOwn g → question g.local g.target.order words ≡ Ok q → MatchesItself g q.kind (type_word words) q.subject
    → match_of q.kind g.local (pointer_size g.target) g.target q.subject (type_word words) ≡ Ok m → m ≡ Some (local_match q.subject)
record_finds_itself g words q m own asked plain found =
    finds_itself g q.kind (type_word words) q.subject m own (made g.local g.target.order words q asked) plain found
