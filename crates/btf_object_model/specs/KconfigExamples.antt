-- Worked examples of `.kconfig`, computed.
use Rattle.std.specs.Prelude.{◌≡◌, ℕ, ◌*◌, ◌^◌, List, [], ◌∷◌, codes, Some, None, refl}
use Rattle.std.specs.declared.cmp.Ordering.TheVariants.{Less, Greater}
use Rattle.bstr.specs.Utf8.{pieces_from}
use lib.Utf8.{encode}
use Rattle.btf_model.specs.Record as kinds
use Rattle.btf_model.specs.Record.{Record}
use Rattle.btf_model.specs.Table.{Table}
use Rattle.btf_rewrite_model.specs.Made.{record_at}
use Rattle.btf_rewrite_model.specs.RewriteExamples.{named_table}
use Rattle.btf_rewrite_model.specs.Made.{c_int}
use Rattle.btf_object_model.specs.Kconfig.{Extern, plain_value, text_value, extern_name, extern_cmp, total, externs_laid_out, with_globals}

-- an INT of this size, without a name
int_of : ℕ → Record
int_of size = record { name = 0; info = 2 ^ 24; third = size; tail = 8 * size ∷ [] }

-- an INT is a number of its size; a structure has no value; an INT of 16 bytes has none
values :
    (plain_value (Some kinds.Int) (int_of 4) ≡ Some (record { size = 4; alignment = 4 }))
    × (plain_value (Some kinds.Struct) (int_of 4) ≡ None) × (plain_value (Some kinds.Int) (int_of 16) ≡ None)
unfolding int_of
values = (refl, refl, refl)

-- `char[20]` is a text; an array of INTs of 4 bytes, and an empty array, have no value
texts :
    (text_value (Some kinds.Int) (int_of 1) 20 ≡ Some (record { size = 20; alignment = 1 }))
    × (text_value (Some kinds.Int) (int_of 4) 5 ≡ None) × (text_value (Some kinds.Int) (int_of 1) 0 ≡ None)
unfolding int_of
texts = (refl, refl, refl)

extern : List ℕ → ℕ → ℕ → ℕ → Extern
extern name type size alignment = record {
  entry = record { type = type; offset = 0; size = size };
  value = record { size = size; alignment = alignment };
  name = name;
}

-- a number of 8 bytes before one of 4, a text of 3 bytes before one of 20, and else by name
order :
    (extern_cmp (extern (codes "b") 2 8 8) (extern (codes "a") 3 4 4) ≡ Less)
    × (extern_cmp (extern (codes "a") 2 20 1) (extern (codes "b") 3 3 1) ≡ Greater)
    × (extern_cmp (extern (codes "a") 2 4 4) (extern (codes "b") 3 4 4) ≡ Less)
unfolding extern
order = (refl, refl, refl)

-- three externs of 8, 4 and 20 bytes are at 0, 8 and 12, and end at 32
offsets :
    (externs_laid_out 0 (extern (codes "a") 5 8 8 ∷ extern (codes "b") 6 4 4 ∷ extern (codes "c") 7 20 1 ∷ [])
    ≡ record { type = 5; offset = 0; size = 8 } ∷ record { type = 6; offset = 8; size = 4 }
    ∷ record { type = 7; offset = 12; size = 20 } ∷ [])
    × (total (extern (codes "a") 5 8 8 ∷ extern (codes "b") 6 4 4 ∷ extern (codes "c") 7 20 1 ∷ []) ≡ 32)
unfolding extern
offsets = (refl, refl)

-- "HZ" at 1: an INT, and a VAR of Extern linkage
with_variable : Table
with_variable =
    named_table (codes "HZ" ∷ [])
    (c_int 0 ∷ record { name = 1; info = 14 * 2 ^ 24; third = 1; tail = 2 ∷ [] } ∷ [])

-- the variable becomes Global, and the INT stays
globals :
    (record_at (with_globals (2 ∷ []) with_variable) 2
    ≡ record { name = 1; info = 14 * 2 ^ 24; third = 1; tail = 1 ∷ [] })
    × (record_at (with_globals (1 ∷ []) with_variable) 1 ≡ c_int 0)
    × (extern_name with_variable.strings 1 ≡ Some (codes "HZ"))
unfolding with_variable pieces_from encode
globals = (refl, refl, refl)
