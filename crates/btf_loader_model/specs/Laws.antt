-- A law of relocated files.
use Rattle.std.specs.Prelude.{◌≡◌, ℕ, Bool, List, [], ◌∷◌, ◌++◌}
use Rattle.btf_elf_model.specs.Object.{Object}
use Rattle.btf_relocate_model.specs.Modules.{Candidates, KernelSetting}
use Rattle.btf_loader_model.specs.Loader.{left_at, sections_relocated, section_at}

-- the candidates of each type after these sections of records
abbrev pub left_after_sections : KernelSetting → Bool → Object → (ℕ → Candidates) → List (ℕ × List (List ℕ)) → ℕ
    → Candidates
left_after_sections g is_shared o left [] = left
left_after_sections g is_shared o left (s ∷ rest) =
    left_after_sections g is_shared o (left_at g is_shared left (section_at g o s.0) s.1) rest

-- The sections of records of two lists: those of the second continue with the candidates and the file that the first
-- leaves.
abbrev pub SectionsInTurn : Type 0
SectionsInTurn =
    (g : KernelSetting) (is_shared : Bool) (o : Object) (left : ℕ → Candidates) (file : List ℕ)
    (first second : List (ℕ × List (List ℕ)))
    → let a = sections_relocated g is_shared o left file first in
    let b = sections_relocated g is_shared o (left_after_sections g is_shared o left first) a.1 second in
    sections_relocated g is_shared o left file (first ++ second) ≡ (a.0 ++ b.0, b.1)
