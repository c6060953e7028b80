-- Finding a type by its name in the index of a table.
-- Source: libbpf's `btf__find_by_name_kind`, which compares the bytes of names and begins at id 1.
use Rattle.std.specs.Prelude.{◌≡◌, ◌⊎◌, ℕ, ◌<◌, List, Option, Some, None, Result, Ok, Err, slice_get, [], is_some, true, ◌≢◌}
use Rattle.btf_model.specs.Record.{Kind, Record, kind_of, kinds}
use Rattle.btf_model.specs.Refusal.{Refusal, UnknownBtfTypeName}
use Rattle.btf_model.specs.Table.{Table}
use Rattle.btf_model.specs.Text.{bytes_at}
use Rattle.vbtf.specs.Status.{EndsOrNoMemory}
use Rattle.vbtf.specs.declared.fault.Fault.{Fault}
use Rattle.vbtf.specs.declared.handle.Handle.{Handle}
use Rattle.std.specs.Str.{IsUtf8}
use Rattle.vbtf.specs.declared.opened.Opened.{Opened}
use Rattle.btf_plain.specs.declared.error.BtfError.{BtfError}
use Rattle.std.specs.Option.{MatchOption}
use Rattle.btf_plain.specs.Error.{MeetsOrNoMemory}

-- the type of an id has this kind, and these bytes as its name
abbrev pub IsNamedAt : Table → Kind → List ℕ → ℕ → Type 0
IsNamedAt t k name id =
    (r : Record) × (slice_get t.records id ≡ Some r) × (kind_of r.info ≡ Some k)
    × (bytes_at t.strings r.name ≡ Some name)

-- the least id above 0 of a type with this kind and name, or none if there is no such type
abbrev pub FindsIndexPlace : Table → Kind → List ℕ → Option ℕ → Type 0
FindsIndexPlace t k name (Some id) =
    (0 < id) × IsNamedAt t k name id × ((low : ℕ) → 0 < low → low < id → IsNamedAt t k name low → ⊥)
FindsIndexPlace t k name None = (id : ℕ) → 0 < id → IsNamedAt t k name id → ⊥

-- what the search returns
abbrev pub FindsIndexed : Table → Kind → List ℕ → Result ℕ Refusal → Type 0
FindsIndexed t k name (Ok id) = FindsIndexPlace t k name (Some id)
FindsIndexed t k name (Err refusal) = FindsIndexPlace t k name None × (refusal ≡ UnknownBtfTypeName name)

-- For an open table with an open index, a name that is UTF-8 and not empty, and the number of a kind, the call ends
-- with the id that the index has for the name and the kind.
abbrev pub EndsFindingIndexed : Handle → List ℕ → ℕ → ℕ → Fault → ℕ → Type 0
EndsFindingIndexed table name kind id fault result =
    table.state ≡ 2 → is_some table.opened.index ≡ true → IsUtf8 name → name ≢ [] → (k : Kind)
    → slice_get kinds kind ≡ Some k → EndsOrNoMemory result id fault (FindsIndexed table.opened.btf k name)

-- The same for the table and the index of a handle.
abbrev pub EndsFindingIn : Opened → List ℕ → ℕ → ℕ → Fault → ℕ → Type 0
EndsFindingIn opened name kind id fault result =
    is_some opened.index ≡ true → IsUtf8 name → name ≢ [] → (k : Kind) → slice_get kinds kind ≡ Some k
    → EndsOrNoMemory result id fault (FindsIndexed opened.btf k name)

-- None if the name is empty or not UTF-8, or no kind has the number; else what the index has.
abbrev pub AnswersIndexed : List ℕ → ℕ → Table → Option (Result ℕ BtfError) → Type 0
AnswersIndexed name kind table result =
    MatchOption result ((IsUtf8 name → ⊥) ⊎ (name ≡ []) ⊎ (slice_get kinds kind ≡ None))
    (λ answer. IsUtf8 name × (name ≢ []) × (k : Kind) × (slice_get kinds kind ≡ Some k)
    × MeetsOrNoMemory (λ id. id) answer (FindsIndexed table k name))

-- The name is not UTF-8 or empty, or no kind has this number.
abbrev pub IsUnaskable : List ℕ → ℕ → Type 0
IsUnaskable name kind = (IsUtf8 name → ⊥) ⊎ (name ≡ []) ⊎ (slice_get kinds kind ≡ None)
