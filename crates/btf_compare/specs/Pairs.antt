-- Pairs of ids, and the type that an id resolves to.
use Rattle.std.specs.Prelude.{ℕ, Result, Ok, Err}
use Rattle.btf_model.specs.Record.{Kind, Record}
use Rattle.btf_model.specs.Refusal.{Refusal}
use Rattle.btf_model.specs.Table.{Table}
use Rattle.btf_model.specs.Walk.{Resolves}
use Rattle.btf_model.specs.Fields.{Pair, IsAt}

-- the pair of a local id and a target id
abbrev pub id_pair : ℕ → ℕ → Pair
id_pair id other = record { local = id; target = other }

-- two ids, the local one first, as a pair
abbrev pub pair_of : ℕ × ℕ → Pair
pair_of ids = id_pair ids.0 ids.1

-- a pair as two ids, the local one first
abbrev pub ids_of : Pair → ℕ × ℕ
ids_of p = (p.local, p.target)

-- the id that an id resolves to, with its kind and its record, or the error if there is none
abbrev pub IsResolved : Table → ℕ → Result (ℕ × Kind × Record) Refusal → Type 0
IsResolved t id (Ok found) = Resolves t.records id (Ok found.0) × IsAt t found.0 found.1 found.2
IsResolved t id (Err refusal) = Resolves t.records id (Err refusal)
