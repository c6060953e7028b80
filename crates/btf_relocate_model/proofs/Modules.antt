-- A kernel without modules.
use Rattle.std.proofs.Common.{◌≡◌, ℕ, List, [], ◌∷◌, Bool, true, false, Result, Ok, Err, refl, ap, ◌∙◌}
use Rattle.std.proofs.Math.Path.{fun_ext}
use Rattle.std.specs.Prelude.{◌==◌, if◌then◌else◌}
use Rattle.btf_model.specs.Table.{Table}
use Rattle.btf_model.specs.declared.endianness.Endianness.{Endianness}
use Rattle.btf_relocate_model.specs.Laws.{WithoutModules}
use Rattle.btf_relocate_model.specs.Modules.{Candidates, InKernel, alone, left_as, resolution_among}
use Rattle.btf_relocate_model.specs.Resolution.{TablePair, resolution, type_word}
use Rattle.btf_relocate_model.specs.Section.{candidates_of, code_after, left_after, patched_outcome, patch_in, relocated_by, then_outcomes}
use Rattle.btf_relocate_model.specs.declared.error.RelocationError.{RelocationError}
use Rattle.btf_relocate_model.specs.declared.resolved.Resolved.{Resolved}

same_patch : (order : Endianness) (code words : List ℕ) (r : Result (Resolved × List ℕ) RelocationError) → patch_in order code words (left_as InKernel r) ≡ patch_in order code words r
same_patch order code words (Ok r) = refl
same_patch order code words (Err e) = refl

-- the candidates of each type
seen : (ℕ → List ℕ) → ℕ → Candidates
seen left id = InKernel (left id)

same_left : (shares : Bool) (words : List ℕ) (r : Result (Resolved × List ℕ) RelocationError) (left : ℕ → List ℕ) → left_after shares words (left_as InKernel r) (seen left) ≡ seen (left_after shares words r left)
unfolding seen
same_left false words r left = refl
same_left true words (Ok r) left = fun_ext (λ (id : ℕ). at_test (type_word words == id) r.1 (left id))
  where
    at_test : (b : Bool) (x y : List ℕ) → (if b then InKernel x else InKernel y) ≡ InKernel (if b then x else y)
    at_test true x y = refl
    at_test false x y = refl
same_left true words (Err e) left = fun_ext (λ (id : ℕ). at_test (type_word words == id) (left (type_word words)) (left id))
  where
    at_test : (b : Bool) (x y : List ℕ) → (if b then InKernel x else InKernel y) ≡ InKernel (if b then x else y)
    at_test true x y = refl
    at_test false x y = refl

module _ (local kernel : Table) (shares : Bool) where
  g : TablePair
  g = record { local = local; target = kernel }

  same_records : (left : ℕ → List ℕ) (code : List ℕ) (records : List (List ℕ))
      → relocated_by local.order (resolution_among local (alone kernel)) shares (seen left) code records ≡ relocated_by local.order (resolution g) shares left code records
  unfolding seen g
  same_records left code [] = refl
  same_records left code (words ∷ records) =
      let r = resolution g (left (type_word words)) words in
      let p = patch_in local.order code words r in
      ap (λ q. then_outcomes (patched_outcome q) (relocated_by local.order (resolution_among local (alone kernel)) shares (left_after shares words (left_as InKernel r) (seen left)) (code_after code q) records)) (same_patch local.order code words r)
      ∙ ap (λ (l : ℕ → Candidates). then_outcomes (patched_outcome p) (relocated_by local.order (resolution_among local (alone kernel)) shares l (code_after code p) records)) (same_left shares words r left)
      ∙ ap (then_outcomes (patched_outcome p)) (same_records (left_after shares words r left) (code_after code p) records)

pub without_modules : WithoutModules
unfolding seen g
without_modules local kernel shares code records = same_records local kernel shares (candidates_of local kernel) code records
