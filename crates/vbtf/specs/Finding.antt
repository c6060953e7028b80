-- The least id from a first one on that has a name, and a kind or any kind.
-- Source: libbpf's `btf_find_by_name_kind`, which begins at an id; otherwise as `FindsName` of `btf_model`, which is
-- aya-obj's `Btf::id_by_type_name_kind`.
use Rattle.std.specs.Prelude.{◌≡◌, ◌≢◌, ◌⊎◌, ℕ, ◌<◌, ◌≤◌, ◌==◌, if◌then◌else◌, Bool, true, false, List, length, slice_get, option_map, Option, Some, None, Result, Ok, Err}
use Rattle.btf_model.specs.Record.{Kind, Record, kind_of, kinds}
use Rattle.btf_model.specs.Refusal.{Refusal, UnknownBtfTypeName}
use Rattle.btf_model.specs.Text.{text_at, FindsName}
use Rattle.vbtf.specs.Status.{EndsOrNoMemory}
use Rattle.vbtf.specs.declared.fault.Fault.{Fault}
use Rattle.vbtf.specs.declared.handle.Handle.{Handle}
use Rattle.std.specs.Str.{IsUtf8}
use Rattle.btf_plain.specs.declared.error.BtfError.{BtfError}
use Rattle.std.specs.Option.{MatchOption}
use Rattle.btf_plain.specs.Error.{MeetsOrNoMemory}
use Rattle.btf_model.specs.Table.{Table}

-- the number that asks for any kind
abbrev pub any_kind : ℕ
any_kind = 4294967295

-- What a number asks for: one kind, by its number, or any kind (None); nothing if no kind has the number.
abbrev pub asked_kind : ℕ → Option (Option Kind)
asked_kind number = if number == any_kind then Some None else option_map (λ k. Some k) (slice_get kinds number)

-- a record of the wanted kind; every record if any kind is wanted
abbrev pub IsWanted : Option Kind → Record → Type 0
IsWanted (Some k) r = kind_of r.info ≡ Some k
IsWanted None r = Unit {0}

-- A record that the search skips: it has another kind, or a readable name that is different.
abbrev pub IsSkipped : List ℕ → Option Kind → List ℕ → Record → Type 0
IsSkipped strings wanted name r =
    (IsWanted wanted r → ⊥) ⊎ ((other : List ℕ) × (text_at strings r.name ≡ Ok other) × (other ≢ name))

-- Whether a record has a wanted kind and the name, or why its name cannot be read if it has a wanted kind.
abbrev pub IsSought : List ℕ → Option Kind → List ℕ → Record → Result Bool Refusal → Type 0
IsSought strings wanted name r (Ok true) = IsWanted wanted r × (text_at strings r.name ≡ Ok name)
IsSought strings wanted name r (Ok false) = IsSkipped strings wanted name r
IsSought strings wanted name r (Err refusal) = IsWanted wanted r × (text_at strings r.name ≡ Err refusal)

-- The search skips the ids from the first one on that are below this one.
abbrev pub AreSkipped : List ℕ → List Record → Option Kind → List ℕ → ℕ → ℕ → Type 0
AreSkipped strings records wanted name first id =
    (low : ℕ) (r : Record) → first ≤ low → low < id → slice_get records low ≡ Some r → IsSkipped strings wanted name r

-- The search reaches an id: its record is r, which has a wanted kind, and the ids before it are skipped.
abbrev pub IsReachedFrom : List ℕ → List Record → Option Kind → List ℕ → ℕ → ℕ → Record → Type 0
IsReachedFrom strings records wanted name first id r =
    (first ≤ id) × AreSkipped strings records wanted name first id × (slice_get records id ≡ Some r) × IsWanted wanted r

-- The result of the search is the least id from the first one on that has the name and a wanted kind. It fails if it
-- reaches a record of a wanted kind whose name cannot be read, or if no record from the first one on has the name and a
-- wanted kind.
abbrev pub FindsFrom : List ℕ → List Record → Option Kind → List ℕ → ℕ → Result ℕ Refusal → Type 0
FindsFrom strings records wanted name first (Ok id) =
    (r : Record) × IsReachedFrom strings records wanted name first id r × (text_at strings r.name ≡ Ok name)
FindsFrom strings records wanted name first (Err refusal) =
    ((id : ℕ) × (r : Record) × IsReachedFrom strings records wanted name first id r
    × (text_at strings r.name ≡ Err refusal))
    ⊎ (AreSkipped strings records wanted name first (length records) × (refusal ≡ UnknownBtfTypeName name))

-- For an open table, a name that is UTF-8, and a number that asks for a kind or for any kind, the call ends with
-- the least id from `first` on of a type of the name and the kind.
abbrev pub EndsFindingFrom : Handle → List ℕ → ℕ → ℕ → ℕ → Fault → ℕ → Type 0
EndsFindingFrom table name kind first id fault result =
    table.state ≡ 2 → IsUtf8 name → (wanted : Option Kind) → asked_kind kind ≡ Some wanted
    → EndsOrNoMemory result id fault (FindsFrom table.opened.btf.strings table.opened.btf.records wanted name
    first)

-- None if the name is not UTF-8 or no kind has the number; else what the search from an id on finds.
abbrev pub AnswersFrom : Table → List ℕ → ℕ → ℕ → Option (Result ℕ BtfError) → Type 0
AnswersFrom table name kind first result =
    MatchOption result ((IsUtf8 name → ⊥) ⊎ (asked_kind kind ≡ None))
    (λ answer. IsUtf8 name × (wanted : Option Kind) × (asked_kind kind ≡ Some wanted)
    × MeetsOrNoMemory (λ id. id) answer (FindsFrom table.strings table.records wanted name first))

-- For an open table, a name that is UTF-8, and the number of a kind, the call ends with the least id of a type of
-- the name and the kind.
abbrev pub EndsFindingName : Handle → List ℕ → ℕ → ℕ → Fault → ℕ → Type 0
EndsFindingName table name kind id fault result =
    table.state ≡ 2 → IsUtf8 name → (k : Kind) → slice_get kinds kind ≡ Some k
    → EndsOrNoMemory result id fault (FindsName table.opened.btf.strings table.opened.btf.records k name)

-- None if the name is not UTF-8 or no kind has the number; else what the search finds.
abbrev pub AnswersName : Table → List ℕ → ℕ → Option (Result ℕ BtfError) → Type 0
AnswersName table name kind result =
    MatchOption result ((IsUtf8 name → ⊥) ⊎ (slice_get kinds kind ≡ None))
    (λ answer. IsUtf8 name × (k : Kind) × (slice_get kinds kind ≡ Some k)
    × MeetsOrNoMemory (λ id. id) answer (FindsName table.strings table.records k name))
