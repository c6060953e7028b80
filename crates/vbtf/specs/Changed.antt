-- A change of an opened table.
use Rattle.std.specs.Prelude.{◌≡◌, None}
use Rattle.btf_model.specs.Table.{Table}
use Rattle.vbtf.specs.declared.opened.Opened.{Opened}

-- After a change: the table is this one, the .BTF.ext is unchanged, and no index is open.
pub record ChangedTo (old new : Opened) (table : Table) : Type 0 where
  pub btf : new.btf ≡ table
  pub ext : new.ext ≡ old.ext
  pub index : new.index ≡ None
