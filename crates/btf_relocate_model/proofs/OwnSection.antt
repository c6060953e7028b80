-- A section whose target is the program's own table.
use Rattle.std.proofs.Common.{◌≡◌, ℕ, suc, List, [], ◌∷◌, Bool, true, false, Some, Result, Ok, Err, refl, ap, subst, ◌∙◌, arith}
use Rattle.std.specs.Prelude.{◌==◌, if◌then◌else◌, slice_get}
use Rattle.std.proofs.lemmas.Bool.Decides.{nat_tests}
use Rattle.btf_relocate_model.proofs.OwnTable.{own_table_gives_the_expected, own_table_keeps_the_code}
use Rattle.btf_relocate_model.specs.Laws.{IsOwn, IsExpected, MatchesItself, AreBytes, OwnTableKeepsTheSection}
use Rattle.btf_relocate_model.specs.Resolution.{TablePair, Question, question, answered, resolution, validates, type_word}
use Rattle.btf_relocate_model.specs.Section as section
use Rattle.btf_relocate_model.specs.Section.{candidates_of, code_after, patch_of, candidates_after, changed_at, left_after}
use Rattle.btf_relocate_model.specs.Types.{◌>>=◌}
use Rattle.btf_relocate_model.specs.declared.error.RelocationError.{RelocationError}
use Rattle.btf_relocate_model.specs.declared.instruction.Patched.{Patched}
use Rattle.btf_relocate_model.specs.declared.instruction.Patched.TheVariants.{Written}
use Rattle.btf_relocate_model.specs.declared.resolved.Resolved.{Resolved}

-- what a record asks, if it asks a question, is answered by its own type
Matches : TablePair → List ℕ → Type 0
Matches g words = (q : Question) → question g.local g.target.order words ≡ Ok q → MatchesItself g q.kind (type_word words) q.subject × (validates q.kind q.subject ≡ true)

-- the code after one record
same_code : (code : List ℕ) (x : Result (Patched × List ℕ) RelocationError) → ((p : Patched × List ℕ) → x ≡ Ok p → p ≡ (Written, code)) → code_after code x ≡ code
same_code code (Ok p) all = ap (λ (y : Patched × List ℕ). y.1) (all p refl)
same_code code (Err e) all = refl

code_stays : (g : TablePair) (words code : List ℕ) (x : Result Question RelocationError) → AreBytes code → IsOwn g → Matches g words → question g.local g.target.order words ≡ x
    → code_after code (patch_of g code words (x >>= answered g (type_word words) (type_word words ∷ []))) ≡ code
unfolding Matches
code_stays g words code (Err e) bytes own matches asked = refl
code_stays g words code (Ok q) bytes own matches asked =
    same_code code (patch_of g code words (answered g (type_word words) (type_word words ∷ []) q))
    (λ p is. own_table_keeps_the_code g words code q p bytes own asked (matches q asked).0 (matches q asked).1
    (ap (λ (x : Result Question RelocationError). patch_of g code words (x >>= answered g (type_word words) (type_word words ∷ []))) asked ∙ is))

-- the candidates after one record
same_left : (g : TablePair) (q : Question) (id : ℕ) (x : Result (Resolved × List ℕ) RelocationError) → IsExpected g q id x → candidates_after (id ∷ []) x ≡ id ∷ []
same_left g q id (Ok r) is = is.remaining
same_left g q id (Err e) is = refl

left_stays : (g : TablePair) (words : List ℕ) (x : Result Question RelocationError) → IsOwn g → Matches g words → question g.local g.target.order words ≡ x
    → candidates_after (type_word words ∷ []) (x >>= answered g (type_word words) (type_word words ∷ [])) ≡ type_word words ∷ []
unfolding Matches
left_stays g words (Err e) own matches asked = refl
left_stays g words (Ok q) own matches asked =
    let id = type_word words in
    same_left g q id (answered g id (id ∷ []) q)
    (subst (λ (x : Result Question RelocationError). IsExpected g q id (x >>= answered g id (id ∷ []))) asked (own_table_gives_the_expected g words q own asked (matches q asked).0))

-- each record has its own type as the one candidate
IsReady : TablePair → (ℕ → List ℕ) → List (List ℕ) → Type 0
IsReady g left records = (i : ℕ) (words : List ℕ) → slice_get records i ≡ Some words → (left (type_word words) ≡ type_word words ∷ []) × Matches g words

still_left : (g : TablePair) (is_shared : Bool) (left : ℕ → List ℕ) (words : List ℕ) (other : ℕ) → IsOwn g → Matches g words → left (type_word words) ≡ type_word words ∷ [] → left other ≡ other ∷ []
    → left_after is_shared words (resolution g (left (type_word words)) words) left other ≡ other ∷ []
still_left g false left words other own matches first second = second
still_left g true left words other own matches first second = by_test (type_word words == other) refl
  where
    id : ℕ
    id = type_word words

    here : candidates_after (left id) (resolution g (left id) words) ≡ id ∷ []
    here = ap (λ (cs : List ℕ). candidates_after cs (resolution g cs words)) first ∙ left_stays g words (question g.local g.target.order words) own matches refl

    equal : (m n : ℕ) → (m == n) ≡ true → m ≡ n
    equal m n is = grind (arith, nat_tests)

    by_test : (test : Bool) → (id == other) ≡ test → (if test then candidates_after (left id) (resolution g (left id) words) else left other) ≡ other ∷ []
    by_test true is = here ∙ ap (λ (n : ℕ). n ∷ []) (equal id other is)
    by_test false is = second

section_stays : (g : TablePair) (is_shared : Bool) (code : List ℕ) (records : List (List ℕ)) (left : ℕ → List ℕ) → AreBytes code → IsOwn g → IsReady g left records → (section.section_relocated_from g is_shared left code records).1 ≡ code
unfolding IsReady
section_stays g is_shared code [] left bytes own ready = refl
section_stays g is_shared code (words ∷ records) left bytes own ready =
    let r = resolution g (left (type_word words)) words in
    let first = ready 0 words refl in
    let same : code_after code (patch_of g code words r) ≡ code =
    ap (λ (cs : List ℕ). code_after code (patch_of g code words (resolution g cs words))) first.0 ∙ code_stays g words code (question g.local g.target.order words) bytes own first.1 refl in
    ap (λ (c : List ℕ). (section.section_relocated_from g is_shared (left_after is_shared words r left) c records).1) same
    ∙ section_stays g is_shared code records (left_after is_shared words r left) bytes own
    (λ i others is. (still_left g is_shared left words (type_word others) own first.1 first.0 (ready (suc i) others is).0, (ready (suc i) others is).1))

pub own_table_keeps_the_section : OwnTableKeepsTheSection
unfolding IsReady Matches
own_table_keeps_the_section g is_shared code records bytes own records_are =
    section_stays g is_shared code records (candidates_of g.local g.target) bytes own (λ i words is. ((records_are i words is).alone, (records_are i words is).matches))
