-- The name that a call finds in the memory of a table.
use Rattle.std.specs.Prelude.{◌≡◌, ◌⊎◌, ℕ, List, ◌∷◌, ◌++◌, length, Some, None}
use Rattle.btf_model.specs.Refusal.{InvalidStringOffset}
use Rattle.btf_model.specs.Text.{bytes_at}
use Rattle.vbtf.specs.Lent.{AreNamesFrom}
use Rattle.vbtf.specs.Status.{ReportsRefusal}
use Rattle.vbtf.specs.declared.fault.Fault.{Fault}
use Rattle.vbtf.specs.declared.lent_name.Name.{Name}

-- These bytes are lent for this lifetime. They begin with the name at the offset, which has this length, and a zero
-- byte.
pub record IsNameAt (strings : List ℕ) (offset life len : ℕ) (name : Name) : Type 0 where
  pub text : List ℕ
  pub rest : List ℕ
  pub there : bytes_at strings offset ≡ Some text
  pub bytes : name.bytes ≡ text ++ 0 ∷ rest
  pub len_is : len ≡ length text
  pub life_is : name.life ≡ life

-- The outcomes of a call that finds a name: status 0 and the name; or status 6 if there is no zero byte at the offset
-- or after it.
abbrev pub EndsNaming : ℕ → List ℕ → ℕ → ℕ → ℕ → Name → Fault → Type 0
EndsNaming status strings offset life len name fault =
    ((status ≡ 0) × IsNameAt strings offset life len name)
    ⊎ ((bytes_at strings offset ≡ None) × ReportsRefusal status fault (InvalidStringOffset offset))

-- The strings of a table up to and with their last zero byte are lent for this lifetime.
pub record AreLentNames (strings : List ℕ) (life : ℕ) (names : Name) : Type 0 where
  pub bytes : AreNamesFrom strings 0 names.bytes
  pub len_is : names.len ≡ length names.bytes
  pub life_is : names.life ≡ life
