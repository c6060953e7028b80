-- The meaning of a command line.
use Rattle.std.specs.Prelude.{◌≡◌, List, [], ◌∷◌, ℕ, codes}
use Rattle.std.specs.Prelude.{String}
use Rattle.std.specs.declared.alloc.Global.{Global}
use Rattle.btf_model.specs.declared.endianness.Endianness.{Endianness}
use Rattle.btf_model.specs.declared.endianness.Endianness.TheVariants.{Little, Big}
use Rattle.btf_cli.specs.Setting.{word_texts, IsId}
use Rattle.btf_cli.specs.Request.{Requests}
use Rattle.btf_cli.specs.declared.line.Line.{Line}
use Rattle.btf_cli.specs.declared.line.Query.{Query}
use Rattle.btf_cli.specs.declared.line.Query.TheVariants.{Copy, Types, Size, Compat}
use Rattle.btf_cli.specs.declared.line.Command.{Command}
use Rattle.btf_cli.specs.declared.line.Command.TheVariants.{Ask, Rewrite}

-- the word for a byte order
abbrev pub order_word : Endianness → List ℕ
order_word Little = codes "little"
order_word Big = codes "big"

-- the words are this query
abbrev pub AsksQuery : List (List ℕ) → Query → Type 0
AsksQuery words Copy = words ≡ codes "copy" ∷ []
AsksQuery words Types = words ≡ codes "types" ∷ []
AsksQuery words (Size id) = (word : List ℕ) × (words ≡ codes "size" ∷ word ∷ []) × IsId word id
AsksQuery words (Compat id other) =
    (word second : List ℕ) × (words ≡ codes "compat" ∷ word ∷ second ∷ []) × IsId word id × IsId second other

-- the words are this command
abbrev pub AsksCommand : List (List ℕ) → Command → Type 0
AsksCommand words (Ask query) = AsksQuery words query
AsksCommand words (Rewrite request) = (rest : List (List ℕ)) × (words ≡ codes "rewrite" ∷ rest) × Requests rest request

-- the words are this command line: a byte order, and then a command
abbrev pub Asks : List (String Global) → Line → Type 0
Asks words line =
    (rest : List (List ℕ)) × (word_texts words ≡ order_word line.endianness ∷ rest)
    × AsksCommand rest line.command

-- P holds of the line that the words ask for, if they ask for one.
abbrev pub IfAsked : List (String Global) → (Line → Type 0) → Type 0
IfAsked words P = (line : Line) → Asks words line → P line

-- some words are this command line
abbrev pub IsCommandLine : Line → Type 0
IsCommandLine line = (words : List (String Global)) × Asks words line
