-- An INT that does not begin at bit 0 is compatible with no type, so not with itself.
use Rattle.std.specs.Prelude.{◌≡◌, ◌≢◌, ℕ, [], ◌∷◌, ◌==◌, ◌&&◌, Bool, false, Ok, None, refl}
use Rattle.std.proofs.Common.{ap, subst, arith, inl, inr}
use Rattle.std.proofs.lemmas.Bool.{false≢true, ne_eqb}
use Rattle.btf_model.specs.Record.{Record, Int}
use Rattle.btf_model.specs.Spelling.{IsWhole}
use Rattle.btf_model.specs.Table.{Table}
use Rattle.btf_model.specs.Walk.{Ends}
use Rattle.btf_model.specs.Fields.{Fields, FieldsFind, BothComposite, int_offset}
use Rattle.btf_model.specs.Compat.{Plain, Decided, Finds}
use Rattle.btf_model.specs.Compat.Walked.{decided}
use Rattle.btf_model.specs.CompatExamples.{table_with}
use Rattle.btf_model.specs.Laws.{IsShifted, with_itself}
use Rattle.btf_model.specs.Blob.{IsValid}
use Rattle.btf_model.proofs.ChainExamples.{no_modifier, on_itself, alone}

-- an INT is neither a STRUCT nor a UNION
no_composite : BothComposite Int Int → ⊥
no_composite both = false≢true both.0

-- its two sides do not both begin at bit 0
not_at_zero : (r : Record) → int_offset r ≢ 0 → (int_offset r == 0 && int_offset r == 0) ≡ false
not_at_zero r moved = ap (λ (b : Bool). b && b) (ne_eqb (int_offset r) 0 moved)

pub fields_shifted : (t : Table) (id : ℕ) → IsShifted t id → Fields t id t id (Ok false)
fields_shifted t id (r, is, moved) =
    inl (
      0,
      with_itself id,
      omega arith,
      refl,
      subst (λ (b : Bool). FieldsFind t t (with_itself id) (Ends (Ok b))) (not_at_zero r moved)
          (inr (inr (id, id, Int, Int, r, r, no_modifier t id Int r is refl, no_modifier t id Int r is refl, is, is, inr (inr (no_composite, refl, refl))))),
    )

pub types_shifted : (t : Table) (id : ℕ) → IsShifted t id → Plain t t [] (with_itself id) (Ok false) (with_itself id ∷ [])
types_shifted t id (r, is, moved) =
    alone t id Int r (Ok false) [] is
    (decided _ 31 (with_itself id) (Ok false) (subst (λ (b : Bool). Finds t t (with_itself id) (Decided (Ok b))) (not_at_zero r moved) (on_itself t id Int r is refl)))

-- INT 1 of 16 bits, from bit 8 on
abbrev shifted : Record
shifted = record { name = 0; info = 0x01000000; third = 4; tail = 0x00080010 ∷ [] }

abbrev one_int : Table
one_int = record (table_with (shifted ∷ [])) { fallbacks = None ∷ None ∷ [] }

int_is_whole : IsWhole shifted
int_is_whole = (Int, record { kind = refl; tail = refl; words = (omega arith, (omega arith, (omega arith, (omega arith, tt)))) }, refl)

one_int_is_valid : IsValid one_int
one_int_is_valid = record {
  magic = omega arith;
  version = omega arith;
  flags = omega arith;
  strings = omega arith;
  types = omega arith;
  records = (shifted ∷ [], refl, (int_is_whole, tt));
  fallbacks = refl;
}

moved_by_eight : int_offset shifted ≢ 0
moved_by_eight is = omega (arith, is)

pub shifted_occurs : (t : Table) × (id : ℕ) × IsValid t × IsShifted t id
shifted_occurs = (one_int, 1, one_int_is_valid, (shifted, (refl, refl), moved_by_eight))
