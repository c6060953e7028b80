-- What is taken out of a handle.
use Rattle.std.specs.Prelude.{◌≡◌, ℕ}
use base.Fml.{Share}
use denote.RawPtr.{Ptr}
use Rattle.vbtf.specs.Changed.{ChangedTo}
use Rattle.vbtf.specs.declared.handle.Handle.{Handle}
use Rattle.vbtf.specs.declared.opened.Opened.{Opened}

-- The handle lends a table, and the share of the loan at this pointer is the handle's.
abbrev pub IsLoanOf : Handle → Ptr → Opened → ℕ → Share → Type 0
IsLoanOf handle at value life share =
    (handle.state ≡ 2) × (at ≡ handle.at) × (value ≡ handle.opened) × (life ≡ handle.life) × (share ≡ handle.share)

-- The handle owned this table, and is closed.
abbrev pub IsTakenFrom : Handle → Handle → Opened → Type 0
IsTakenFrom old new value = (old.state ≡ 1) × (new.state ≡ 0) × (value ≡ old.opened)

-- The same, but no index is open any more.
abbrev pub IsTakenToChange : Handle → Handle → Opened → Type 0
IsTakenToChange old new value = (old.state ≡ 1) × (new.state ≡ 0) × ChangedTo old.opened value old.opened.btf
