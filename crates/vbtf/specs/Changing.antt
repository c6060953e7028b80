-- A call that changes the table of a handle.
use Rattle.std.specs.Prelude.{◌≡◌, ◌⊎◌, ℕ, Result, Ok, List, ◌≤◌, None}
use Rattle.btf_model.specs.Refusal.{Refusal}
use Rattle.btf_model.specs.Table.{Table}
use Rattle.vbtf.specs.Changed.{ChangedTo}
use Rattle.vbtf.specs.Status.{Fails, Opens}
use Rattle.vbtf.specs.declared.fault.Fault.{Fault}
use Rattle.vbtf.specs.declared.handle.Handle.{Handle}
use Rattle.btf_split_model.specs.Split.{IsJoined, cut, over_base, Joins, Appends}
use Rattle.vbtf.specs.Orders.{order_chosen}
use Rattle.btf_model.specs.Blob.{IsTable}
use Rattle.btf_plain.specs.declared.error.BtfError.{BtfError}
use Rattle.vbtf.specs.declared.opened.Opened.{Opened}

-- The outcomes of a call that changes the table of a handle: status 0, and the handle owns a table with P; or an error
-- with P or a failed allocation, and the handle owns the unchanged table. The `.BTF.ext` is unchanged, and no index is
-- open.
abbrev pub EndsChanging : ℕ → Handle → Handle → Fault → (Result Table Refusal → Type 0) → Type 0
EndsChanging status old new fault P =
    (new.state ≡ 1)
    × (((status ≡ 0) × P (Ok new.opened.btf) × ChangedTo old.opened new.opened new.opened.btf)
    ⊎ (Fails status fault P × ChangedTo old.opened new.opened old.opened.btf))

-- For a closed handle, bytes that are a table open the handle with this table.
abbrev pub OpensTable : Handle → Handle → List ℕ → ℕ → Fault → ℕ → Type 0
OpensTable old_table new_table bytes order fault result =
    old_table.state ≡ 0 → order ≤ 2 → (t : Table) → IsTable (order_chosen order bytes) bytes t
    → Opens result old_table new_table fault (λ answer. answer ≡ Ok t)

-- The table of a result is opened without `.BTF.ext` and index.
abbrev pub IsAlone : Result Table BtfError → Opened → Type 0
IsAlone answer opened = (answer ≡ Ok opened.btf) × (opened.ext ≡ None) × (opened.index ≡ None)

-- The outcomes of a call that opens a closed handle with the types of a base and those of bytes over it.
abbrev pub OpensOver : Table → Handle → Handle → List ℕ → ℕ → Fault → ℕ → Type 0
OpensOver base old_table new_table bytes order fault result =
    old_table.state ≡ 0 → order ≤ 2 → Opens result old_table new_table fault (Joins (order_chosen order bytes) base bytes)

-- The outcomes of a call that appends the types of bytes to the table that a handle owns.
abbrev pub EndsAppending : Handle → Handle → List ℕ → ℕ → Fault → ℕ → Type 0
EndsAppending old_table new_table bytes order fault result =
    old_table.state ≡ 1 → order ≤ 2
    → EndsChanging result old_table new_table fault (Appends (order_chosen order bytes) old_table.opened.btf bytes)

-- For an open base and a closed handle, bytes that are a table over the base open the handle with this table.
abbrev pub EndsOverBase : Handle → Handle → Handle → List ℕ → ℕ → Fault → ℕ → Type 0
EndsOverBase base old_table new_table bytes order fault result =
    base.state ≡ 2 → old_table.state ≡ 0 → order ≤ 2 → (t : Table)
    → IsJoined (order_chosen order bytes) base.opened.btf bytes t
    → Opens result old_table new_table fault (λ answer. answer ≡ Ok t)

-- For a closed handle, bytes that are a table over the base open the handle with this table.
abbrev pub OpensOverBase : Table → Handle → Handle → List ℕ → ℕ → Fault → ℕ → Type 0
OpensOverBase base old_table new_table bytes order fault result =
    old_table.state ≡ 0 → order ≤ 2 → (t : Table) → IsJoined (order_chosen order bytes) base bytes t
    → Opens result old_table new_table fault (λ answer. answer ≡ Ok t)

-- For a table that the handle owns, the call ends with the table cut to these numbers of types and string bytes.
abbrev pub EndsTruncating : Handle → Handle → ℕ → ℕ → Fault → ℕ → Type 0
EndsTruncating old_table new_table base_types base_strings fault result =
    old_table.state ≡ 1 → EndsChanging result old_table new_table fault
    (λ answer. answer ≡ over_base base_types base_strings old_table.opened.btf
    (cut base_types base_strings old_table.opened.btf))
