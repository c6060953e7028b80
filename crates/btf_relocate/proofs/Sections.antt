-- The records of a section, as the definition has them.
use Rattle.std.proofs.Common.{◌≡◌, ℕ, List, [], ◌∷◌, Bool, true, false, Result, Ok, Err, refl, sym, ap, subst, ◌∙◌}
use Rattle.std.specs.Prelude.{IfOk}
use Rattle.std.specs.Global.{Vec}
use Rattle.btf_model.specs.Table.{Table}
use Rattle.btf_relocate_model.proofs.Modules.{without_modules}
use Rattle.btf_relocate_model.specs.Modules.{alone, relocated_section_among}
use Rattle.btf_relocate_model.specs.Resolution.{resolution, type_word}
use Rattle.btf_relocate_model.specs.Section.{candidates_of, candidates_after, code_after, left_after, patched_outcome, patch_of, section_relocated_from, relocated_section}
use Rattle.btf_relocate_model.specs.declared.error.RelocationError.{RelocationError}
use Rattle.btf_relocate_model.specs.declared.error.RelocationError.TheVariants.{OutOfMemory}
use Rattle.btf_relocate_model.specs.declared.instruction.Patched.{Patched}
use Rattle.btf_relocate_model.specs.declared.resolved.Resolved.{Resolved}
use Rattle.btf_relocate.specs.Sections.{Relocates, patch_by, setting, written_for}

-- an allocation failed
abbrev is_memory : RelocationError → Bool
is_memory OutOfMemory = true
is_memory e = false

abbrev pub is_out_of_memory : Result Patched RelocationError → Bool
is_out_of_memory (Ok p) = false
is_out_of_memory (Err e) = is_memory e

module _ (shares : Bool) (local target : Table) where
  same_patch : (code words : List ℕ) (x : Result (Resolved × List ℕ) RelocationError) → patch_of (setting local target) code words x ≡ patch_by local.order code words (written_for x)
  same_patch code words (Ok r) = refl
  same_patch code words (Err e) = refl

  -- what the definition has is what becomes of each record
  as_relocates : (left : ℕ → List ℕ) (code : List ℕ) (records : List (List ℕ))
      → Relocates shares local target left code records (section_relocated_from (setting local target) shares left code records).0 (section_relocated_from (setting local target) shares left code records).1
  as_relocates left code [] = (refl, refl)
  as_relocates left code (words ∷ records) =
      let g = setting local target in
      let x = resolution g (left (type_word words)) words in
      let later = left_after shares words x left in (
        candidates_after (left (type_word words)) x,
        written_for x,
        (refl, refl),
        ap patched_outcome (same_patch code words x),
        subst (λ (p : Result (Patched × List ℕ) RelocationError). Relocates shares local target later (code_after code p) records
            (section_relocated_from g shares later (code_after code (patch_of g code words x)) records).0 (section_relocated_from g shares later (code_after code (patch_of g code words x)) records).1)
            (same_patch code words x) (as_relocates later (code_after code (patch_of g code words x)) records),
      )

  -- a kernel without modules
  pub as_defined : (start : List ℕ) (all : List (List ℕ)) (outcomes : List (Result Patched RelocationError)) (new : List ℕ) → (outcomes, new) ≡ relocated_section_among local (alone target) shares start all
      → (outcomes, new) ≡ relocated_section (setting local target) shares start all
  as_defined start all outcomes new is = is ∙ without_modules local target shares start all

  pub as_records : (start : List ℕ) (all : List (List ℕ)) (outcomes : List (Result Patched RelocationError)) (new : List ℕ) → (outcomes, new) ≡ relocated_section_among local (alone target) shares start all
      → Relocates shares local target (candidates_of local target) start all outcomes new
  as_records start all outcomes new is =
      subst (λ (p : List (Result Patched RelocationError) × List ℕ). Relocates shares local target (candidates_of local target) start all p.0 p.1) (sym (as_defined start all outcomes new is)) (as_relocates (candidates_of local target) start all)

  -- the same for a result
  pub all_defined : {E : Type 0} (start : List ℕ) (all : List (List ℕ)) (r : Result (Vec (Result Patched RelocationError)) E) (new : List ℕ)
      → IfOk r (λ v. (v.items, new) ≡ relocated_section_among local (alone target) shares start all) → IfOk r (λ v. (v.items, new) ≡ relocated_section (setting local target) shares start all)
  all_defined start all (Ok v) new is = as_defined start all v.items new is
  all_defined start all (Err e) new is = is

  pub all_records : {E : Type 0} (start : List ℕ) (all : List (List ℕ)) (r : Result (Vec (Result Patched RelocationError)) E) (new : List ℕ)
      → IfOk r (λ v. (v.items, new) ≡ relocated_section_among local (alone target) shares start all) → IfOk r (λ v. Relocates shares local target (candidates_of local target) start all v.items new)
  all_records start all (Ok v) new is = as_records start all v.items new is
  all_records start all (Err e) new is = is
