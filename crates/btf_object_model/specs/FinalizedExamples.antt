-- Worked examples of a table that is finalized, computed.
use Rattle.std.specs.Prelude.{◌≡◌, ℕ, ◌+◌, ◌*◌, ◌^◌, false, List, [], ◌∷◌, ◌++◌, drop, codes, Some, None, refl}
use Rattle.bstr.specs.Utf8.{pieces_from}
use lib.Utf8.{encode}
use Rattle.btf_model.specs.Record.{Record}
use Rattle.btf_model.specs.Table.{Table}
use Rattle.btf_rewrite_model.specs.Made.{Entry, record_at, c_int, struct, made_data_sec}
use Rattle.btf_rewrite_model.specs.Pass.{Layout}
use Rattle.btf_rewrite_model.specs.RewriteExamples.{only, named_table}
use Rattle.btf_rewrite_model.specs.Made.{c_int}
use Rattle.btf_rewrite_model.specs.Pass.{no_layout}
use Rattle.btf_rewrite_model.specs.declared.ksyms_ids.KsymsIds.{KsymsIds}
use Rattle.btf_object_model.specs.Finalized.{entry_offset, is_completed, completed_size, final_entries, placeholder, with_placeholder, with_placeholder_id, placeholder_fault, sized_record}

-- a VAR of the type of id 1
var : ℕ → ℕ → Record
var name linkage = record { name = name; info = 14 * 2 ^ 24; third = 1; tail = linkage ∷ [] }

entry : ℕ → ℕ → ℕ → Entry
entry type offset size = record { type = type; offset = offset; size = size }

-- "int" at 1, "count" at 5, "last" at 11, ".bss" at 16: INT 1, Global VAR 2, Static VAR 3, and DATASEC 4 of size 0 with
-- both, as a compiler writes it
compiled : List ℕ → Table
compiled section =
    named_table (codes "int" ∷ codes "count" ∷ codes "last" ∷ section ∷ [])
    (c_int 1 ∷ var 5 1 ∷ var 11 0 ∷ made_data_sec 16 0 2 (entry 2 0 4 ∷ entry 3 12 4 ∷ []) ∷ [])

-- the section of a name has 16 bytes, and `count` is at 8
layout : List ℕ → Layout
layout section = record { sections = only section 16; symbols = only (codes "count") 8 }

-- it gets the size of its section, and each entry its offset; a Static variable retains its offset
completed_section :
    (completed_size (layout (codes ".bss")) (compiled (codes ".bss")) (record_at (compiled (codes ".bss")) 4) ≡ 16)
    × (final_entries (layout (codes ".bss")) (compiled (codes ".bss")) (record_at (compiled (codes ".bss")) 4)
    ≡ entry 2 8 4 ∷ entry 3 12 4 ∷ [])
unfolding compiled layout var entry pieces_from encode
completed_section = (refl, refl)

-- so does an Extern one
extern_variable :
    entry_offset (layout (codes ".bss")) (named_table (codes "int" ∷ codes "count" ∷ []) (c_int 1 ∷ var 5 2 ∷ []))
    (entry 2 12 4) ≡ Some 12
unfolding layout var entry pieces_from encode
extern_variable = refl

-- an unknown section, a section of externs, and a section whose variable has no symbol stay as they are
sections_that_stay :
    (is_completed no_layout (compiled (codes ".bss")) (record_at (compiled (codes ".bss")) 4) ≡ false)
    × (is_completed (layout (codes ".ksyms")) (compiled (codes ".ksyms")) (record_at (compiled (codes ".ksyms")) 4)
    ≡ false)
    × (is_completed (record { sections = only (codes ".bss") 16; symbols = λ name. None }) (compiled (codes ".bss"))
    (record_at (compiled (codes ".bss")) 4) ≡ false)
unfolding compiled layout var entry pieces_from encode
sections_that_stay = (refl, refl, refl)

-- ---- functions of the kernel

-- "lock" at 1, ".ksyms" at 6: FUNC_PROTO 1, FUNC 2, and DATASEC 3 with the function; there is no INT
with_function : Table
with_function =
    named_table (codes "lock" ∷ codes ".ksyms" ∷ [])
    (record { name = 0; info = 13 * 2 ^ 24; third = 0; tail = [] }
    ∷ record { name = 1; info = 12 * 2 ^ 24 + 2; third = 1; tail = [] } ∷ made_data_sec 6 0 1 (entry 2 0 0 ∷ []) ∷ [])

ksyms : KsymsIds
ksyms = record { datasec_id = 3; placeholder_id = None }

-- INT 4 is appended, and VAR 5 of it, which is the placeholder
placeholder_is_added :
    (drop 4 (with_placeholder with_function (Some ksyms)).records ≡ c_int 13 ∷ placeholder 17 4 ∷ [])
    × (drop 13 (with_placeholder with_function (Some ksyms)).strings ≡ codes "int" ++ 0 ∷ codes "dummy_ksym" ++ 0 ∷ [])
    × (with_placeholder_id with_function (Some ksyms) ≡ Some (record { datasec_id = 3; placeholder_id = Some 5 }))
    × (placeholder_fault with_function (Some ksyms) ≡ None)
unfolding with_function ksyms entry
placeholder_is_added = (refl, refl, refl, refl)

-- a table without functions in `.ksyms` stays as it is
no_placeholder :
    with_placeholder (compiled (codes ".ksyms")) (Some (record { datasec_id = 4; placeholder_id = None }))
    ≡ compiled (codes ".ksyms")
unfolding compiled var entry
no_placeholder = refl

-- ---- STRUCTs that were DATASECs

-- a STRUCT of two members that was a DATASEC of 16 bytes gets this size; a STRUCT that was one already retains its size
sizes_of_structs :
    (sized_record (made_data_sec 16 16 2 (entry 2 8 4 ∷ entry 3 12 4 ∷ [])) (struct 21 2 2 (5 ∷ 2 ∷ 64 ∷ 11 ∷ 3 ∷ 96 ∷ []))
    ≡ struct 21 16 2 (5 ∷ 2 ∷ 64 ∷ 11 ∷ 3 ∷ 96 ∷ []))
    × (sized_record (struct 1 16 0 []) (struct 1 4 0 []) ≡ struct 1 4 0 [])
unfolding entry
sizes_of_structs = (refl, refl)
