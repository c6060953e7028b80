-- The entries that the index of a target is made from.
use Rattle.std.specs.Prelude.{◌≡◌, ℕ, List, map}
use Rattle.std.specs.List.{All}
use Rattle.btf_model.specs.Table.{Table}
use Rattle.btf_relocate.specs.Index.{key_of}
use Rattle.btf_relocate.specs.declared.target.Entry.{Entry}

abbrev pub id_of : Entry → ℕ
id_of e = e.type_id

-- the key of an entry
abbrev pub entry_key : Entry → List ℕ × ℕ
entry_key e = (e.name.now, e.kind)

-- The entries have these ids, and each the key of its type.
pub record AreEntries (t : Table) (es : List Entry) (ids : List ℕ) : Type 0 where
  pub are : map id_of es ≡ ids
  pub keys : All (λ e. key_of t e.type_id ≡ entry_key e) es
