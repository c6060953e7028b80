-- A map from pairs of ids: an array of a few entries, or a table.
use Rattle.std.specs.Prelude.{ℕ, length, List, Option, None, Some}
use Rattle.btf_compare.specs.Entries.{Sets, values_in}
use Rattle.btf_compare.specs.PairTable.{BucketLayout, count_in, value_of}
use Rattle.btf_compare.specs.declared.pair_map.PairMap.{PairMap}
use Rattle.btf_compare.specs.declared.entries.Progress.{Progress}

-- the progress of each pair: in the table, if there is one, and otherwise in the array
abbrev pub known_in : List ((ℕ × ℕ) × Progress) → Option (BucketLayout Progress) → ℕ × ℕ → Option Progress
known_in few None = values_in few
known_in few (Some table) = value_of table

-- the number of entries
abbrev pub count_of : List ((ℕ × ℕ) × Progress) → Option (BucketLayout Progress) → ℕ
count_of few None = length few
count_of few (Some table) = count_in table

-- the progress of a pair
abbrev pub known_progress : PairMap → ℕ × ℕ → Option Progress
known_progress m = known_in m.few.list.items m.many

-- the number of entries of the map
abbrev pub count : PairMap → ℕ
count m = count_of m.few.list.items m.many

-- the progress of the pair becomes p, and no other changes
abbrev pub Learns : PairMap → PairMap → ℕ × ℕ → Progress → Type 0
Learns old new = Sets (known_progress old) (known_progress new)
