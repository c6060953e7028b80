-- A section of relocation records in the model's terms.
use Rattle.std.specs.Prelude.{ℕ, List, Vec}

-- the records of a section, with the string offset of its name
abbrev pub relocation : {A : Type 0} → ℕ × Vec (List ℕ) A → ℕ × List (List ℕ)
relocation r = (r.0, r.1.items)
