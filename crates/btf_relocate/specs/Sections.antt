-- What `relocate_section` and its parts return.
use Rattle.std.specs.Prelude.{◌≡◌, ℕ, if◌then◌else◌, Bool, true, false, List, [], ◌∷◌, Result, Ok, Err}
use Rattle.std.specs.BTreeMap.{BTreeMap, get, is_at}
use Rattle.std.specs.Ordering.{nat_cmp}
use Rattle.btf_model.specs.Table.{Table}
use Rattle.btf_model.specs.declared.endianness.Endianness.{Endianness}
use Rattle.btf_relocate_model.specs.Instruction.{patched_code}
use Rattle.btf_relocate_model.specs.Resolution.{TablePair, resolution, type_word, instruction_word}
use Rattle.btf_relocate_model.specs.Section.{patched_outcome, code_after, candidates_after, changed_at, candidates_of}
use Rattle.btf_relocate_model.specs.declared.error.RelocationError.{RelocationError}
use Rattle.btf_relocate_model.specs.declared.instruction.Patched.{Patched}
use Rattle.btf_relocate_model.specs.declared.resolved.Resolved.{Resolved}
use Rattle.btf_relocate.specs.declared.section.CandidatePolicy.{CandidatePolicy}
use Rattle.btf_relocate.specs.declared.section.CandidatePolicy.TheVariants.{Shared, Fresh}

-- what is written, without the candidates that remain
abbrev pub written_for : Result (Resolved × List ℕ) RelocationError → Result Resolved RelocationError
written_for (Ok r) = Ok r.0
written_for (Err e) = Err e

-- whether the records of a type share their candidates
abbrev pub is_shared : CandidatePolicy → Bool
is_shared Shared = true
is_shared Fresh = false

-- the lists of the types other than this one are as they were
abbrev pub HasOthers : {A : Type 0} → ℕ → BTreeMap ℕ A → BTreeMap ℕ A → Type 0
HasOthers id old new = (q : ℕ) → is_at (nat_cmp id) q ≡ false → get nat_cmp new q ≡ get nat_cmp old q

-- the candidates for later records, where `after` remain of those of a type
abbrev pub left_with : {A : Type 0} → Bool → ℕ → A → (ℕ → A) → ℕ → A
left_with is_shared id after left = if is_shared then changed_at id after left else left

-- two tables
abbrev pub setting : Table → Table → TablePair
setting local target = record { local = local; target = target }

-- A record was resolved for candidates of which `after` remain.
abbrev pub ResolvedFor : Table → Table → List ℕ → List ℕ → List ℕ → Result Resolved RelocationError → Type 0
ResolvedFor local target words candidates after r =
    (written_for (resolution (setting local target) candidates words) ≡ r)
    × (after ≡ candidates_after candidates (resolution (setting local target) candidates words))

-- the patch of a record, by what it asks to be written
abbrev pub patch_by : Endianness → List ℕ → List ℕ → Result Resolved RelocationError
    → Result (Patched × List ℕ) RelocationError
patch_by order code words (Ok r) = patched_code order r code (instruction_word words)
patch_by order code words (Err e) = Err e

-- Each record was resolved for the candidates of its type, and its instruction patched, one after another, where `left`
-- has the candidates of each type. A record with an error changes no byte.
abbrev pub Relocates : Bool → Table → Table → (ℕ → List ℕ) → List ℕ → List (List ℕ)
    → List (Result Patched RelocationError) → List ℕ → Type 0
Relocates is_shared local target left code [] outcomes new = (outcomes ≡ []) × (new ≡ code)
Relocates is_shared local target left code (words ∷ records) [] new = ⊥
Relocates is_shared local target left code (words ∷ records) (o ∷ outcomes) new =
    (after : List ℕ) × (r : Result Resolved RelocationError)
    × ResolvedFor local target words (left (type_word words)) after r
    × (o ≡ patched_outcome (patch_by local.order code words r))
    × Relocates is_shared local target (left_with is_shared (type_word words) after left)
    (code_after code (patch_by local.order code words r)) records outcomes new

-- The same from the start, when each type has all its candidates.
abbrev pub RelocatesSection : CandidatePolicy → Table → Table → List ℕ → List (List ℕ)
    → List (Result Patched RelocationError) → List ℕ → Type 0
RelocatesSection policy local target code records outcomes new =
    Relocates (is_shared policy) local target (candidates_of local target) code records outcomes new
