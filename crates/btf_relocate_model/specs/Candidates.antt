-- The types of the target that a record's type may be.
-- Source: libbpf's `bpf_core_find_cands` and `bpf_core_add_cands`.
use Rattle.std.specs.Prelude.{ℕ, suc, ◌+◌, ◌==◌, ◌&&◌, not, if◌then◌else◌, Bool, List, [], ◌∷◌, drop, length, take}
use Rattle.std.specs.Str.{bytes_eq}
use Rattle.btf_model.specs.Record.{Record, kind_number}
use Rattle.btf_model.specs.Table.{Table}
use Rattle.btf_relocate_model.specs.Name.{essential}
use Rattle.btf_relocate_model.specs.Types.{name_or_none}

-- The number of a kind when kinds are compared: ENUM64 counts as ENUM.
abbrev pub compared_number : ℕ → ℕ
compared_number kind = if kind == 19 then 6 else kind

-- whether a name is empty
abbrev pub is_nameless : List ℕ → Bool
is_nameless name = length name == 0

-- A type of the target is a candidate for a name and a kind: its kind is the same, and its name has the same essential
-- name and is not empty.
abbrev pub is_candidate : Table → List ℕ → ℕ → Record → Bool
is_candidate t name kind r =
    (compared_number (kind_number r.info) == compared_number kind)
    && not (is_nameless (name_or_none t r.name))
    && bytes_eq (essential (name_or_none t r.name)) (essential name)

-- the ids of the records that pass a test, where the first record has this id
abbrev pub ids_from : (Record → Bool) → ℕ → List Record → List ℕ
ids_from passes id [] = []
ids_from passes id (r ∷ rs) = if passes r then id ∷ ids_from passes (suc id) rs else ids_from passes (suc id) rs

-- The maximum number of candidates of a record in one table: a limit of this project on what a record costs. In the
-- table of Linux 6.18 at most 4 types of a kind share a name.
abbrev pub candidate_limit : ℕ
candidate_limit = 256

-- The candidates for a name and the number of a kind, in rising order of their ids, which begin at 1.
abbrev pub candidates : Table → List ℕ → ℕ → List ℕ
candidates t name kind = ids_from (is_candidate t name kind) 1 (drop 1 t.records)

-- As many of the candidates as are enough to refuse a record that has more than the limit.
abbrev pub first_candidates : Table → List ℕ → ℕ → List ℕ
first_candidates t name kind = take (candidate_limit + 1) (candidates t name kind)
