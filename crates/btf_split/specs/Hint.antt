-- The name that reading retains.
use Rattle.std.specs.Prelude.{ℕ, List, MatchOption, Option, ◌++◌, ◌≡◌}
use Rattle.btf_model.specs.Record.{Kind, Unknown, Record}
use Rattle.btf_model.specs.Blob.{BeginsNoRecord}
use Rattle.std.specs.Borrow.{Bor}
use Rattle.btf_model.specs.declared.endianness.Endianness.{Endianness}
use Rattle.btf_model.specs.Spelling.{IsRecord}

-- an Unknown has no name
abbrev pub kept_name : Kind → ℕ → ℕ
kept_name Unknown name = 0
kept_name k name = name

-- The result is the string offset of the name of the first record and the bytes after the record; None if the bytes
-- begin with no record.
abbrev pub FindsFirstName : List ℕ → Endianness → Option (ℕ × Bor (List ℕ)) → Type 0
FindsFirstName bytes endianness result =
    MatchOption result (BeginsNoRecord endianness bytes)
    (λ p. (front : List ℕ) × (r : Record) × (bytes ≡ front ++ p.1.now) × IsRecord endianness front r
    × (p.0 ≡ r.name))
