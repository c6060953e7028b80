-- The table that a `Btf` represents, and the invariant of its fields.
use Rattle.std.specs.Prelude.{◌≡◌, ◌<◌, ◌≤◌, ◌^◌, ℕ, List, ◌∷◌, length, map, slice_get, Some}
use Rattle.btf_model.specs.Record.{Record, unknown, kind_of, vlen, tail_words}
use Rattle.btf_model.specs.Table.{Table, type_bytes, section_limit}
use Rattle.btf_model.specs.Fields.{HaveKinds}
use Rattle.btf_records.specs.BtfType.{record_of, fallback_of, type_kind}
use Rattle.btf_records.specs.declared.btf_type.BtfType.{BtfType}
use Rattle.btf_table.specs.declared.table.Btf.TheInside.{Inside}

-- the table that the fields of a `Btf` represent
abbrev pub table_of : Inside → Table
table_of b = record {
  order = b.endianness;
  magic = b.magic;
  version = b.version;
  flags = b.flags;
  strings = b.strings.items;
  records = map record_of b.types.items;
  fallbacks = map fallback_of b.types.items;
}

-- The invariant of a `Btf`: the header's numbers fit their types, both sections are within their limit, `type_len` is
-- the length of the type section, record 0 is Unknown, and each record has a kind.
pub record IsConsistent (b : Inside) : Type 0 where
  pub magic : b.magic < 2 ^ 16
  pub version : b.version < 2 ^ 8
  pub flags : b.flags < 2 ^ 8
  pub limit : b.type_len ≤ section_limit
  pub strings : length b.strings.items ≤ section_limit
  pub types : b.type_len ≡ length (type_bytes (table_of b))
  pub first : (rs : List Record) × (map record_of b.types.items ≡ unknown ∷ rs)
  pub kinds : HaveKinds (table_of b)

-- The table has this type at an id. The type's kind is the kind in its info word, and its tail has the length that the
-- info word gives.
pub record IsType (t : Table) (id : ℕ) (b : BtfType) : Type 0 where
  pub record_is : slice_get t.records id ≡ Some (record_of b)
  pub fallback_is : slice_get t.fallbacks id ≡ Some (fallback_of b)
  pub kind_is : kind_of (record_of b).info ≡ Some (type_kind b)
  pub tail_is : length (record_of b).tail ≡ tail_words (type_kind b) (vlen (record_of b).info)

-- The table has a type of this id, whose record has the kind and the length of the given record.
pub record HasShapeOf (t : Table) (id : ℕ) (new : Record) : Type 0 where
  pub old : Record
  pub here : slice_get t.records id ≡ Some old
  pub kind : kind_of new.info ≡ kind_of old.info
  pub len : length new.tail ≡ length old.tail
