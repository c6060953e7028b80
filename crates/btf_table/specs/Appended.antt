-- What a rewrite appends, and what becomes of a type.
use Rattle.btf_table.specs.declared.table.changes.Changes.{Changes}
use Rattle.btf_model.specs.Refusal.{Refusal}
use Rattle.std.specs.Prelude.{Result, ℕ, [], ◌∷◌, ◌+◌, Ok, Some}
use Rattle.btf_model.specs.Table.{Table, UnionRecord}
use Rattle.btf_table.specs.Checked.{checked}
use Rattle.btf_rewrite_model.specs.Checks.{first_fault}
use Rattle.btf_rewrite_model.specs.Fault.{member_type_has_room, filler_has_room}
use Rattle.btf_table.specs.Adding.{next_id, next_string_offset, Adds}
use Rattle.btf_rewrite_model.specs.Made.{byte_int, enum64_fallback, union}
use Rattle.btf_rewrite_model.specs.Pass.{member_type_text, filler, filler_text, filler_type_text}
use Rattle.btf_rewrite_model.specs.Made as model
use Rattle.btf_model.specs.Record.{Record, vlen}
use Rattle.btf_rewrite_model.specs.Rule.{variant_members}

-- The id of the member type that is appended next, or why it does not fit.
abbrev pub member_type_place : Table → Changes → Result ℕ Refusal
member_type_place btf changes =
    checked (first_fault (member_type_has_room (next_string_offset btf changes) changes.type_len))
    (next_id btf changes)

-- The member type is appended, and nothing else.
abbrev pub AddsMemberType : Table → Changes → Changes → Type 0
AddsMemberType btf old new = Adds btf old new (member_type_text ∷ []) (byte_int (next_string_offset btf old) ∷ [])

-- The id of the filler's VAR that is appended next, or why the filler does not fit.
abbrev pub filler_place : Table → Changes → Result ℕ Refusal
filler_place btf changes =
    checked (first_fault (filler_has_room (next_string_offset btf changes) changes.type_len))
    (next_id btf changes + 1)

-- The filler is appended, and nothing else.
abbrev pub AddsFiller : Table → Changes → Changes → Type 0
AddsFiller btf old new =
    Adds btf old new (filler_type_text ∷ filler_text ∷ []) (filler (next_string_offset btf old) (next_id btf old))

-- The UNION that an ENUM64 becomes, with members of this type.
abbrev pub union_of : Record → ℕ → Result UnionRecord Refusal
union_of enum64 member_type =
    Ok (record {
      words = union enum64.name enum64.third (vlen enum64.info)
          (variant_members member_type (model.variants enum64.tail));
      fallback = Some (enum64_fallback enum64);
    })
