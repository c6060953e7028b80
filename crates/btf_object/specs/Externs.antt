-- What is found of the externs of a table.
use Rattle.std.specs.Prelude.{◌≡◌, ℕ, length, true}
use Rattle.btf_model.specs.Record.{Record}
use Rattle.btf_model.specs.Table.{Table}
use Rattle.btf_object_model.specs.Externs.{has_externs}
use Rattle.btf_object.specs.Kconfig.{IsDataSec}

-- The type of an id is a DATASEC with this record, and its entries are externs.
pub record IsSectionOfExterns (t : Table) (id : ℕ) (r : Record) : Type 0 where
  pub section : IsDataSec t id r
  pub externs : has_externs t r ≡ true

-- The type of an id is a DATASEC, whose record has the length of this one.
pub record StillSection (t : Table) (id : ℕ) (r : Record) : Type 0 where
  pub now : Record
  pub section : IsDataSec t id now
  pub len : length r.tail ≡ length now.tail
