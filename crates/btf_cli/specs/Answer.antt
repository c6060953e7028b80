-- The output of the program.
use Rattle.std.specs.Prelude.{◌≡◌, ◌⊎◌, ℕ, Bool, List, [], length, Option, Result, Ok, Err, Some, IfSome}
use Rattle.std.specs.Io.KnownBytes.{Appends}
use Rattle.btf_model.specs.Refusal.{Refusal}
use Rattle.btf_model.specs.Table.{Table}
use Rattle.btf_model.specs.Blob.{IsTable, IsRefusal, canon}
use Rattle.btf_model.specs.Walk.{HasSize}
use Rattle.btf_model.specs.Fields.{Pair}
use Rattle.btf_model.specs.Compat.{Plain, firsts}
use Rattle.btf_rewrite_model.specs.Rewritten.{Rewritten, IsRefused}
use Rattle.btf_compare.specs.Pairs.{id_pair}
use Rattle.btf_model.specs.declared.endianness.Endianness.{Endianness}
use Rattle.btf_cli.specs.Setting.{Setting}
use Rattle.btf_cli.specs.Settings.{layout_set, kernel_set, policy_set}
use Rattle.btf_cli.specs.Request.{request_ids, AreSet}
use Rattle.btf_cli.specs.declared.request.Request.{Request}
use Rattle.btf_cli.specs.declared.line.Line.{Line}
use Rattle.btf_cli.specs.declared.line.Query.TheVariants.{Copy, Types, Size, Compat}
use Rattle.btf_cli.specs.declared.line.Command.{Command}
use Rattle.btf_cli.specs.declared.line.Command.TheVariants.{Ask, Rewrite}
use Rattle.btf_cli.specs.Listing.{table_lines, size_line, comparison_lines}

-- The comparison of two types of a table returns this answer and this number of started pairs, or this error.
abbrev pub ComparesWithin : Table → ℕ → ℕ → Result (Bool × ℕ) Refusal → Type 0
ComparesWithin t id other (Ok found) =
    (starts : List Pair) × Plain t t [] (id_pair id other) (Ok found.0) starts × (found.1 ≡ length (firsts starts))
ComparesWithin t id other (Err refusal) = (starts : List Pair) × Plain t t [] (id_pair id other) (Err refusal) starts

-- The rewrite of a table with the settings of a request returns this table or this error. The settings give the
-- kernel's features, the policy, and the layout.
abbrev pub RewritesAsAsked : Request → Table → Result Table Refusal → Type 0
RewritesAsAsked request t (Ok new) =
    (settings : List Setting) × AreSet request settings
    × Rewritten (policy_set settings) t (request_ids request) (layout_set settings) (kernel_set settings) new
RewritesAsAsked request t (Err refusal) =
    (settings : List Setting) × AreSet request settings
    × IsRefused (policy_set settings) t (request_ids request) (layout_set settings) (kernel_set settings) refusal

-- the output of a command on a table
abbrev pub Writes : Command → Table → List ℕ → Type 0
Writes (Ask Copy) t written = written ≡ canon t
Writes (Ask Types) t written = written ≡ table_lines t
Writes (Ask (Size id)) t written = (n : ℕ) × HasSize t.records id (Ok n) × (written ≡ size_line n)
Writes (Ask (Compat id other)) t written =
    (b : Bool) × (n : ℕ) × ComparesWithin t id other (Ok (b, n)) × (written ≡ comparison_lines b n)
Writes (Rewrite request) t written = (new : Table) × RewritesAsAsked request t (Ok new) × (written ≡ canon new)

-- the error of a command on a table
abbrev pub Declines : Command → Table → Refusal → Type 0
Declines (Ask Copy) t refusal = ⊥
Declines (Ask Types) t refusal = ⊥
Declines (Ask (Size id)) t refusal = HasSize t.records id (Err refusal)
Declines (Ask (Compat id other)) t refusal = ComparesWithin t id other (Err refusal)
Declines (Rewrite request) t refusal = RewritesAsAsked request t (Err refusal)

-- the command line of a rewrite
abbrev pub rewriting : Endianness → Request → Line
rewriting endianness request = record { endianness = endianness; command = Rewrite request }

-- the bytes represent a table, and this is the output of the command on it
abbrev pub IsAnswer : Line → List ℕ → List ℕ → Type 0
IsAnswer line bytes written = (t : Table) × IsTable line.endianness bytes t × Writes line.command t written

-- The bytes represent no table, or the command fails on their table; this is the error.
pub record IsDeclined (line : Line) (bytes : List ℕ) (refusal : Refusal) : Type 0 where
  pub cause : IsRefusal line.endianness bytes refusal
      ⊎ ((t : Table) × IsTable line.endianness bytes t × Declines line.command t refusal)

-- This is so if the input's bytes are known, and represent no table, or the command fails on their table.
abbrev pub IfDeclined : Option (List ℕ) → Line → Type 0 → Type 0
IfDeclined input line Follows =
    (bytes : List ℕ) (f : Refusal) → input ≡ Some bytes → IsDeclined line bytes f → Follows

-- The program appends the output for these bytes to a writer whose bytes are known, and nothing else.
abbrev pub IsWritten : Option (List ℕ) → Option (List ℕ) → Line → List ℕ → Type 0
IsWritten old new line bytes = (written : List ℕ) × IsAnswer line bytes written × Appends old new written

-- The same, if the input's bytes are known.
abbrev pub WritesFor : Option (List ℕ) → Option (List ℕ) → Option (List ℕ) → Line → Type 0
WritesFor input old new line = IfSome input (λ bytes. IsWritten old new line bytes)
