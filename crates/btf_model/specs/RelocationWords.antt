-- The relocation records of a section of a program, by the section's name.
-- Source: the kernel's BTF documentation, ".BTF.ext section", `struct bpf_core_relo`, in which each section names a
-- section of the program. This project's profile joins sections of the same name, and reads every name.
use Rattle.std.specs.Prelude.{◌≡◌, ℕ, Bool, false, List, ◌∷◌, ◌++◌, filter, Result, Ok, Err}
use Rattle.std.specs.List.{flat_map, AllByRecursion}
use Rattle.std.specs.Str.{bytes_eq}
use Rattle.btf_model.specs.Refusal.{Refusal}
use Rattle.btf_model.specs.Text.{text_at}

-- a relocation section: the string offset of its name, and the words of each record
abbrev pub RelocationSection : Type 0
RelocationSection = ℕ × List (List ℕ)

-- The names of these sections can be read.
abbrev pub SectionsHaveNames : List ℕ → List RelocationSection → Type 0
SectionsHaveNames strings sections = AllByRecursion (λ s. (text : List ℕ) × (text_at strings s.0 ≡ Ok text)) sections

-- a text that was read is this name
abbrev pub is_name_read : List ℕ → Result (List ℕ) Refusal → Bool
is_name_read name (Ok text) = bytes_eq name text
is_name_read name (Err refusal) = false

-- the records of all sections of this name, one section after another
abbrev pub words_named : List ℕ → List ℕ → List RelocationSection → List (List ℕ)
words_named strings name sections = flat_map (λ s. s.1) (filter (λ s. is_name_read name (text_at strings s.0)) sections)

-- The records of the sections with this name, if the names of all sections can be read; else why the first unreadable
-- name cannot be read.
abbrev pub Words : List ℕ → List RelocationSection → List ℕ → Result (List (List ℕ)) Refusal → Type 0
Words strings sections name (Ok words) = SectionsHaveNames strings sections × (words ≡ words_named strings name sections)
Words strings sections name (Err refusal) =
    (before after : List RelocationSection) × (s : RelocationSection) × (sections ≡ before ++ s ∷ after)
    × SectionsHaveNames strings before × (text_at strings s.0 ≡ Err refusal)
