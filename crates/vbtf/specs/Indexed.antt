-- The index of the types of an opened table.
use Rattle.std.specs.Prelude.{◌≡◌, ◌⊎◌, ℕ, true, None, is_some}
use Rattle.vbtf.specs.Status.{ReportsNoMemory}
use Rattle.vbtf.specs.declared.fault.Fault.{Fault}
use Rattle.vbtf.specs.declared.handle.Handle.{Handle}
use Rattle.vbtf.specs.declared.opened.Opened.{Opened}

-- An index is opened: none was open, and the rest is unchanged.
pub record Indexes (old new : Opened) : Type 0 where
  pub before : old.index ≡ None
  pub index : is_some new.index ≡ true
  pub btf : new.btf ≡ old.btf
  pub ext : new.ext ≡ old.ext

-- The outcomes of a call that opens an index: status 0, status 102 if one is open, or a failed allocation.
abbrev pub EndsIndexing : ℕ → Handle → Handle → Fault → Type 0
EndsIndexing status old new fault =
    (new.state ≡ 1)
    × (((status ≡ 0) × Indexes old.opened new.opened)
    ⊎ ((status ≡ 102) × (is_some old.opened.index ≡ true) × (new.opened ≡ old.opened))
    ⊎ (ReportsNoMemory status fault × (old.opened.index ≡ None) × (new.opened ≡ old.opened)))
