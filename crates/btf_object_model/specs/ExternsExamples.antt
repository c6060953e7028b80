-- Worked examples of the externs in a table for loaders, computed.
use Rattle.std.specs.Prelude.{◌≡◌, ℕ, ◌+◌, ◌*◌, ◌^◌, true, false, List, [], ◌∷◌, codes, None, refl}
use Rattle.btf_model.specs.Record.{Record}
use Rattle.btf_model.specs.Table.{Table}
use Rattle.btf_rewrite_model.specs.Made.{Entry, c_int, struct, made_data_sec}
use Rattle.btf_rewrite_model.specs.RewriteExamples.{named_table}
use Rattle.btf_object_model.specs.Externs.{for_loaders, table_has_externs}

-- a VAR of the type of id 1
var : ℕ → Record
var linkage = record { name = 5; info = 14 * 2 ^ 24; third = 1; tail = linkage ∷ [] }

-- a FUNC of the type of id 3
func : ℕ → Record
func linkage = record { name = 12; info = 12 * 2 ^ 24 + linkage; third = 3; tail = [] }

entry : ℕ → ℕ → ℕ → Entry
entry type offset size = record { type = type; offset = offset; size = size }

-- "int" at 1, "active" at 5, "lock" at 12, and a name at 17: INT 1, VAR 2, FUNC_PROTO 3, FUNC 4, and a last type
types : List ℕ → Record → Record → Record → Table
types section variable function last =
    named_table (codes "int" ∷ codes "active" ∷ codes "lock" ∷ section ∷ [])
    (c_int 1 ∷ variable ∷ record { name = 0; info = 13 * 2 ^ 24; third = 0; tail = [] } ∷ function ∷ last ∷ [])

-- as a compiler writes it: an Extern VAR and an Extern FUNC in a DATASEC of size 0
compiled : List ℕ → Table
compiled section = types section (var 2) (func 2) (made_data_sec 17 0 2 (entry 2 0 4 ∷ entry 4 0 0 ∷ []))

-- as a rewrite makes it
rewritten : List ℕ → Table
rewritten section = types section (var 1) (func 1) (made_data_sec 17 8 2 (entry 2 0 4 ∷ entry 4 4 4 ∷ []))

-- `.ksyms` and `.kconfig` get their old records, and so do their entries' types
externs_are_put_back :
    (for_loaders (compiled (codes ".ksyms")) (rewritten (codes ".ksyms")) ≡ compiled (codes ".ksyms"))
    × (for_loaders (compiled (codes ".kconfig")) (rewritten (codes ".kconfig")) ≡ compiled (codes ".kconfig"))
unfolding compiled rewritten types var func entry
externs_are_put_back = (refl, refl)

-- another DATASEC has no externs
other_sections_stay :
    (for_loaders (compiled (codes ".ksymz")) (rewritten (codes ".ksymz")) ≡ rewritten (codes ".ksymz"))
    × (table_has_externs (compiled (codes ".ksymz")) ≡ false) × (table_has_externs (compiled (codes ".ksyms")) ≡ true)
unfolding compiled rewritten types var func entry
other_sections_stay = (refl, refl, refl)

-- a kernel without DATASECs: INT 2, and STRUCT 5
denied : Table
denied =
    types (codes ".ksyms") (record { name = 5; info = 2 ^ 24; third = 1; tail = 8 ∷ [] }) (func 1)
    (struct 17 8 2 (5 ∷ 2 ∷ 0 ∷ 12 ∷ 2 ∷ 32 ∷ []))

-- there, nothing is put back
nothing_is_put_back : for_loaders (compiled (codes ".ksyms")) denied ≡ denied
unfolding compiled denied types var func entry
nothing_is_put_back = refl

-- a VAR that became an INT remains one
var_that_became_an_int :
    for_loaders (compiled (codes ".ksyms")) (types (codes ".ksyms") (c_int 5) (func 1) (made_data_sec 17 8 2 (entry 2 0 4 ∷ entry 4 4 4 ∷ [])))
    ≡ types (codes ".ksyms") (c_int 5) (func 2) (made_data_sec 17 0 2 (entry 2 0 4 ∷ entry 4 0 0 ∷ []))
unfolding compiled types var func entry
var_that_became_an_int = refl
