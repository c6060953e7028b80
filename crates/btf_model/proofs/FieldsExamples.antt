-- Worked examples of the comparison of fields: one small table, with its answers.
use Rattle.std.specs.Prelude.{◌≡◌, ℕ, [], ◌∷◌, ◌++◌, codes, Bool, true, false, Result, Ok, Err, refl, slice_get}
use Rattle.std.proofs.Common.{arith, inl, inr, sym, ◌∙◌}
use Rattle.std.proofs.lemmas.Bool.{false≢true}
use Rattle.std.proofs.Math.Utf8.{encode}
use Rattle.bstr.specs.Utf8.{pieces_from}
use Rattle.btf_model.specs.Record.{Record, Kind, Unknown, Int, Struct, Union, Enum, Var, Enum64, is_composite, compared_kind}
use Rattle.btf_model.specs.Refusal.{Refusal, UnexpectedBtfType}
use Rattle.btf_model.specs.Table.{Table}
use Rattle.btf_model.specs.Walk.{Ends, unmodified_in}
use Rattle.btf_model.specs.Fields.{Fields, FieldsFind, BothComposite, IsAt, field_by}
use Rattle.btf_model.specs.CompatExamples.{table_with, pair_of_ids, itself}

-- ENUM 1 "e___a", ENUM64 2 "e___b", STRUCT 3 and UNION 4 of no members, VAR 5 and VAR 6 of type 7, and INT 7 at bit 8.
abbrev types : Table
types = record (table_with (record { name = 1; info = 0x06000000; third = 4; tail = [] } ∷ record { name = 7; info = 0x13000000; third = 8; tail = [] }
    ∷ record { name = 0; info = 0x04000000; third = 0; tail = [] } ∷ record { name = 0; info = 0x05000000; third = 0; tail = [] }
    ∷ record { name = 0; info = 0x0e000000; third = 7; tail = 0 ∷ [] } ∷ record { name = 0; info = 0x0e000000; third = 7; tail = 0 ∷ [] }
    ∷ record { name = 0; info = 0x01000000; third = 4; tail = 0x00080010 ∷ [] } ∷ [])) { strings = 0 ∷ codes "e___a" ++ 0 ∷ codes "e___b" ++ 0 ∷ [] }

-- an answer that is found at the first place
at_once : (id other : ℕ) (answer : Result Bool Refusal) → FieldsFind types types (pair_of_ids id other) (Ends answer) → Fields types id types other answer
at_once id other answer found = inl (0, pair_of_ids id other, omega arith, refl, found)

-- the kind of one side is neither STRUCT nor UNION
no_composite : (k q : Kind) → is_composite k ≡ false → BothComposite k q → ⊥
no_composite k q is both = false≢true (sym is ∙ both.0)

-- two types of one compared kind that are no modifiers and no STRUCT or UNION
by_kind : (id other : ℕ) (k q : Kind) (r s : Record) (answer : Result Bool Refusal) → unmodified_in id (slice_get types.records id) ≡ Ends (Ok id) → unmodified_in other (slice_get types.records other) ≡ Ends (Ok other)
    → IsAt types id k r → IsAt types other q s → is_composite k ≡ false → compared_kind k ≡ compared_kind q → field_by types types id k q r s ≡ Ends answer → Fields types id types other answer
by_kind id other k q r s answer here there is at plain same found =
    at_once id other answer (inr (inr (id, other, k, q, r, s, itself types id here, itself types other there, is, at, inr (inr (no_composite k q plain, same, sym found)))))

-- the text after three underscores does not count
flavors_are_one_enum : Fields types 1 types 2 (Ok true)
unfolding pieces_from encode
flavors_are_one_enum = by_kind 1 2 Enum Enum64 _ _ (Ok true) refl refl (refl, refl) (refl, refl) refl refl refl

struct_with_union : Fields types 3 types 4 (Ok true)
struct_with_union = at_once 3 4 (Ok true) (inr (inr (3, 4, Struct, Union, _, _, itself types 3 refl, itself types 4 refl, (refl, refl), (refl, refl), inl ((refl, refl), refl))))

-- kinds for which the comparison has no answer
no_type : Fields types 0 types 0 (Err (UnexpectedBtfType 0))
no_type = by_kind 0 0 Unknown Unknown _ _ (Err (UnexpectedBtfType 0)) refl refl (refl, refl) (refl, refl) refl refl refl

two_variables : Fields types 5 types 6 (Err (UnexpectedBtfType 5))
two_variables = by_kind 5 6 Var Var _ _ (Err (UnexpectedBtfType 5)) refl refl (refl, refl) (refl, refl) refl refl refl

-- with the sides exchanged the refusal has the other id
two_variables_back : Fields types 6 types 5 (Err (UnexpectedBtfType 6))
two_variables_back = by_kind 6 5 Var Var _ _ (Err (UnexpectedBtfType 6)) refl refl (refl, refl) (refl, refl) refl refl refl

-- an INT that does not begin at bit 0 is not compatible even with itself
shifted_is_not_itself : Fields types 7 types 7 (Ok false)
shifted_is_not_itself = by_kind 7 7 Int Int _ _ (Ok false) refl refl (refl, refl) (refl, refl) refl refl refl
