-- What the functions that read and write lists of records return.
use Rattle.std.specs.Prelude.{◌≡◌, ◌≢◌, ℕ, List, [], ◌∷◌, map, Result, Ok, Err, set}
use Rattle.btf_model.specs.declared.endianness.Endianness.{Endianness}
use Rattle.btf_model.specs.Record.{Record, unknown}
use Rattle.btf_model.specs.Refusal.{Refusal}
use Rattle.btf_model.specs.Table.{no_fallbacks, Table}
use Rattle.btf_model.specs.Blob.{AreRecords, IsRest, rest_refusal}
use Rattle.btf_records.specs.BtfType.{record_of, fallback_of}
use Rattle.btf_records.specs.declared.btf_type.BtfType.{BtfType}

-- the types of a type section, Unknown first, or why its rest is refused
abbrev pub ReadsTypes : Endianness → List ℕ → Result (List BtfType) Refusal → Type 0
ReadsTypes order bytes (Ok types) =
    (rs : List Record) × (map record_of types ≡ unknown ∷ rs) × AreRecords order bytes rs
    × (map fallback_of types ≡ no_fallbacks (map record_of types))
ReadsTypes order bytes (Err refusal) =
    (rest : List ℕ) × IsRest order bytes rest × (rest ≢ []) × (refusal ≡ rest_refusal order rest)

-- A type is replaced, and nothing else changes.
abbrev pub SetsType : Table → Table → ℕ → BtfType → Type 0
SetsType old_table new_table type_id btf_type =
    new_table ≡ record old_table {
      records = set old_table.records type_id
          (record_of btf_type);
      fallbacks = set old_table.fallbacks type_id (fallback_of btf_type);
    }
