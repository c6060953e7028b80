-- The outcomes of a call that adds to a table.
use Rattle.std.specs.Prelude.{◌≡◌, ◌≢◌, ◌⊎◌, ℕ, List, length, Option, Some, None, Result, Ok, Err}
use Rattle.btf_model.specs.Blob.{ReadsFront}
use Rattle.btf_model.specs.Record.{Record}
use Rattle.btf_model.specs.Refusal.{Refusal}
use Rattle.btf_model.specs.Table.{Table, with_type, type_place, string_place, with_string}
use Rattle.btf_model.specs.declared.endianness.Endianness.{Endianness}
use Rattle.btf_rewrite_model.specs.Checks.{record_len}
use Rattle.vbtf.specs.declared.fault.Fault.{Fault}
use Rattle.vbtf.specs.declared.handle.Handle.{Handle}
use Rattle.vbtf.specs.Changed.{ChangedTo}
use Rattle.vbtf.specs.Status.{ReportsRefusal, ReportsNoMemory, Fails}
use Rattle.std.specs.Str.{IsUtf8}

-- The outcomes of a call that adds to the table of a handle: status 0 and the position, and the handle owns the new
-- table; or an error or a failed allocation, and the handle owns the unchanged table. No index is open then.
abbrev pub EndsAdding : ℕ → Handle → Handle → ℕ → Fault → Result ℕ Refusal → Table → Type 0
EndsAdding status old new value fault place table =
    (new.state ≡ 1)
    × (((status ≡ 0) × (Ok value ≡ place) × ChangedTo old.opened new.opened table)
    ⊎ (ChangedTo old.opened new.opened old.opened.btf × Fails status fault (λ answer. answer ≡ place)))

-- The result of adding the type of a record in bytes: the id, and the table has the type; none if bytes follow the
-- record; or the error if the bytes begin with no record or the type does not fit. In the last two cases the table is
-- unchanged.
abbrev pub AddsRecord : Endianness → List ℕ → Table → Table → Result (Option ℕ) Refusal → Type 0
AddsRecord order bytes old new (Ok (Some id)) =
    (r : Record) × ReadsFront order bytes (Ok r) × (record_len r ≡ length bytes) × (Ok id ≡ type_place r old)
    × (new ≡ with_type r None old)
AddsRecord order bytes old new (Ok None) =
    (r : Record) × ReadsFront order bytes (Ok r) × (record_len r ≢ length bytes) × (new ≡ old)
AddsRecord order bytes old new (Err refusal) =
    (new ≡ old) × (ReadsFront order bytes (Err refusal) ⊎ ((r : Record) × ReadsFront order bytes (Ok r)
    × (record_len r ≡ length bytes) × (Err refusal ≡ type_place r old)))

-- The outcomes of a call that adds a type: status 0 and its id, status 102 if bytes follow the record, an error, or a
-- failed allocation. The `.BTF.ext` of the handle is unchanged, and no index is open.
abbrev pub EndsAddingType : ℕ → Endianness → List ℕ → Handle → Handle → ℕ → Fault → Type 0
EndsAddingType status order bytes old new id fault =
    (new.state ≡ 1) × (new.opened.ext ≡ old.opened.ext) × (new.opened.index ≡ None)
    × (((status ≡ 0) × AddsRecord order bytes old.opened.btf new.opened.btf (Ok (Some id)))
    ⊎ ((status ≡ 102) × AddsRecord order bytes old.opened.btf new.opened.btf (Ok None))
    ⊎ (ReportsNoMemory status fault × (new.opened.btf ≡ old.opened.btf))
    ⊎ ((refusal : Refusal) × ReportsRefusal status fault refusal
    × AddsRecord order bytes old.opened.btf new.opened.btf (Err refusal)))

-- For a table that the handle owns, and a text that is UTF-8, the call ends with the text added.
abbrev pub EndsAddingText : Handle → Handle → List ℕ → ℕ → Fault → ℕ → Type 0
EndsAddingText old_table new_table text offset fault result =
    old_table.state ≡ 1 → IsUtf8 text
    → EndsAdding result old_table new_table offset fault (string_place text old_table.opened.btf)
    (with_string text old_table.opened.btf)
