-- The listing of a table's types, and the printed forms of a size and of a comparison.
-- Source: this project's program.
use Rattle.std.specs.Prelude.{ℕ, ◌+◌, Bool, true, false, List, [], ◌∷◌, ◌++◌, drop, codes, Option, Some, None, Result, Ok, Err}
use Rattle.std.specs.Fmt.{decimal}
use Rattle.btf_model.specs.Record.{Kind, Record, kind_of}
use Rattle.btf_model.specs.Refusal.{Refusal}
use Rattle.btf_model.specs.Table.{Table}
use Rattle.btf_model.specs.Text.{text_at}
use Rattle.btf_plain.specs.Kind.{kind_text}

-- a space, and a name that can be read and is not empty
abbrev pub name_part : Result (List ℕ) Refusal → List ℕ
name_part (Ok []) = []
name_part (Ok (byte ∷ name)) = codes " " ++ byte ∷ name
name_part (Err refusal) = []

-- the text of the kind of a record
abbrev pub kind_part : Option Kind → List ℕ
kind_part (Some k) = kind_text k
kind_part None = []

-- The line of a type: its id, its kind, and its name.
abbrev pub type_line : List ℕ → ℕ → Record → List ℕ
type_line strings id r =
    decimal id ++ codes " " ++ kind_part (kind_of r.info) ++ name_part (text_at strings r.name) ++ codes "\n"

-- the lines of consecutive types; the first has this id
abbrev pub lines_from : List ℕ → ℕ → List Record → List ℕ
lines_from strings id [] = []
lines_from strings id (r ∷ rs) = type_line strings id r ++ lines_from strings (id + 1) rs

-- The listing of a table: a line for each type from id 1 on.
abbrev pub table_lines : Table → List ℕ
table_lines t = lines_from t.strings 1 (drop 1 t.records)

-- the line of a size
abbrev pub size_line : ℕ → List ℕ
size_line n = decimal n ++ codes "\n"

-- the line of a comparison's answer
abbrev pub answer_line : Bool → List ℕ
answer_line true = codes "true\n"
answer_line false = codes "false\n"

-- the answer, and the number of started pairs
abbrev pub comparison_lines : Bool → ℕ → List ℕ
comparison_lines answer starts = answer_line answer ++ codes "starts " ++ decimal starts ++ codes "\n"
