-- What is found at two types is the same with the sides exchanged, unless it is a refusal.
use Rattle.std.proofs.Common.{◌≡◌, ℕ, List, [], ◌∷◌, length, map, refl, sym, ap, subst, ◌∙◌, inl, inr, Bool, true, false, Result, Ok, Err, if◌then◌else◌}
use Rattle.std.specs.Prelude.{◌⊎◌, ◌==◌, ◌&&◌, Decides}
use Rattle.std.specs.Str.{bytes_eq}
use Rattle.std.proofs.Math.Bool.{and_comm}
use Rattle.std.proofs.lemmas.Bool.{false≢true}
use Rattle.std.proofs.lemmas.Bool.Decides.{Decides-eqb}
use Rattle.std.proofs.lemmas.Slice.Eq.{bytes_eq-Decides}
use Rattle.btf_model.specs.Record.{Kind, Int, Ptr, Array, Enum, Fwd, Float, Enum64, FuncProto, Unknown, Struct, Union, Record, compared_kind}
use Rattle.btf_model.specs.Refusal.{Refusal}
use Rattle.btf_model.specs.Table.{Table}
use Rattle.btf_model.specs.Text.{text_at}
use Rattle.btf_model.specs.Walk.{Finding, Ends, GoesOn}
use Rattle.btf_model.specs.Fields.{Pair, int_offset, same_names, before_flavor, field_by}
use Rattle.btf_model.specs.Compat.{Position, Decided, On, Pending, parameter_types, pairs, prototypes, position_by}
use Rattle.btf_model.specs.Laws.{exchanged}

-- ---- kinds

itself_or_enum64 : (k : Kind) → (k ≡ Enum64) ⊎ (compared_kind k ≡ k)
itself_or_enum64 Enum64 = inl refl
itself_or_enum64 k = inr refl

-- kinds with the same compared kind are equal, or are ENUM and ENUM64
abbrev pub OneOrEnums : Kind → Kind → Type 0
OneOrEnums k q = (k ≡ q) ⊎ (((k ≡ Enum) × (q ≡ Enum64)) ⊎ ((k ≡ Enum64) × (q ≡ Enum)))

pub one_or_enums : (k q : Kind) → compared_kind k ≡ compared_kind q → OneOrEnums k q
one_or_enums k q same =
    elim (itself_or_enum64 k) [
      | inl is ↦ elim (itself_or_enum64 q) [
        | inl there ↦ inl (is ∙ sym there)
        | inr other ↦ inr (inr (is, sym other ∙ sym same ∙ ap compared_kind is))
      ]
      | inr here ↦ elim (itself_or_enum64 q) [
        | inl is ↦ inr (inl (sym here ∙ same ∙ ap compared_kind is, is))
        | inr there ↦ inl (sym here ∙ same ∙ there)
      ]
    ]

-- ---- tests

pub flips : {P Q : Type 0} (b c : Bool) → Decides b P → Decides c Q → (P → Q) → (Q → P) → b ≡ c
flips true c p q there back = sym (q.1 (there (p.0 refl)))
flips false true p q there back = absurd (false≢true (p.1 (back (q.0 refl))))
flips false false p q there back = refl

eq_flips : (m n : ℕ) → (m == n) ≡ (n == m)
eq_flips m n = flips (m == n) (n == m) (Decides-eqb m n) (Decides-eqb n m) (λ e. sym e) (λ e. sym e)

bytes_flip : (xs ys : List ℕ) → bytes_eq xs ys ≡ bytes_eq ys xs
bytes_flip xs ys = flips (bytes_eq xs ys) (bytes_eq ys xs) (bytes_eq-Decides xs ys) (bytes_eq-Decides ys xs) (λ e. sym e) (λ e. sym e)

-- an answer that is no refusal
abbrev pub IsGiven : Result Bool Refusal → Type 0
IsGiven (Ok b) = Unit {0}
IsGiven (Err refusal) = ⊥

names_flip : (x y : Result (List ℕ) Refusal) → IsGiven (same_names x y) → same_names y x ≡ same_names x y
names_flip (Ok x) (Ok y) given = ap (λ (b : Bool). Ok b) (bytes_flip (before_flavor y) (before_flavor x))
names_flip (Ok x) (Err refusal) given = absurd given
names_flip (Err refusal) y given = absurd given

offsets_flip : (r s : Record) → ◌≡◌ {A = Result Bool Refusal} (Ok (int_offset s == 0 && int_offset r == 0)) (Ok (int_offset r == 0 && int_offset s == 0))
offsets_flip r s = ap (λ (b : Bool). Ok b) (and_comm (int_offset s == 0) (int_offset r == 0))

-- ---- fields

-- what is found with the sides exchanged
abbrev pub mirrored : Finding Pair Bool → Finding Pair Bool
mirrored (Ends answer) = Ends answer
mirrored (GoesOn next) = GoesOn (exchanged next)

abbrev pub IsFine : Finding Pair Bool → Type 0
IsFine (Ends answer) = IsGiven answer
IsFine (GoesOn next) = Unit {0}

names_mirrored : (x y : Result (List ℕ) Refusal) → IsGiven (same_names x y) → ◌≡◌ {A = Finding Pair Bool} (Ends (same_names y x)) (Ends (same_names x y))
names_mirrored x y given = ap (λ (a : Result Bool Refusal). Ends a) (names_flip x y given)

module _ (local target : Table) (id other : ℕ) (r s : Record) where
  one_kind_mirrored : (k : Kind) → IsFine (field_by local target id k k r s) → field_by target local other k k s r ≡ mirrored (field_by local target id k k r s)
  one_kind_mirrored Int fine = ap (λ (a : Result Bool Refusal). Ends a) (offsets_flip r s)
  one_kind_mirrored Ptr fine = refl
  one_kind_mirrored Float fine = refl
  one_kind_mirrored Array fine = refl
  one_kind_mirrored Fwd fine = names_mirrored (text_at local.strings r.name) (text_at target.strings s.name) fine
  one_kind_mirrored Enum fine = names_mirrored (text_at local.strings r.name) (text_at target.strings s.name) fine
  one_kind_mirrored Enum64 fine = names_mirrored (text_at local.strings r.name) (text_at target.strings s.name) fine
  one_kind_mirrored k fine = absurd fine

  abbrev FieldMirrored : Kind → Kind → Type 0
  FieldMirrored k q = IsFine (field_by local target id k q r s) → field_by target local other q k s r ≡ mirrored (field_by local target id k q r s)

  enum_mirrored : FieldMirrored Enum Enum64
  enum_mirrored fine = names_mirrored (text_at local.strings r.name) (text_at target.strings s.name) fine

  enum64_mirrored : FieldMirrored Enum64 Enum
  enum64_mirrored fine = names_mirrored (text_at local.strings r.name) (text_at target.strings s.name) fine

  pub field_mirrored : (k q : Kind) → compared_kind k ≡ compared_kind q → FieldMirrored k q
  field_mirrored k q same =
      elim (one_or_enums k q same) [
        | inl is ↦ subst (λ (x : Kind). FieldMirrored k x) is (λ fine. one_kind_mirrored k fine)
        | inr (inl p) ↦ subst (λ (x : Kind). FieldMirrored x q) (sym p.0) (subst (λ (x : Kind). FieldMirrored Enum x) (sym p.1) enum_mirrored)
        | inr (inr p) ↦ subst (λ (x : Kind). FieldMirrored x q) (sym p.0) (subst (λ (x : Kind). FieldMirrored Enum64 x) (sym p.1) enum64_mirrored)
      ]

-- ---- positions

abbrev pub turned : Position → Position
turned (Decided answer) = Decided answer
turned (On next) = On (exchanged next)
turned (Pending pending next) = Pending (map exchanged pending) (exchanged next)

abbrev pub IsFinePosition : Position → Type 0
IsFinePosition (Decided answer) = IsGiven answer
IsFinePosition (On next) = Unit {0}
IsFinePosition (Pending pending next) = Unit {0}

pairs_turned : (xs ys : List ℕ) → pairs ys xs ≡ map exchanged (pairs xs ys)
pairs_turned [] [] = refl
pairs_turned [] (y ∷ ys) = refl
pairs_turned (x ∷ xs) [] = refl
pairs_turned (x ∷ xs) (y ∷ ys) = ap (λ (ps : List Pair). record { local = y; target = x } ∷ ps) (pairs_turned xs ys)

-- two prototypes whose numbers of parameters are equal or differ
by_count : (b : Bool) (pending back : List Pair) (next : Pair) → back ≡ map exchanged pending → (if b then Pending back (exchanged next) else Decided (Ok false)) ≡ turned (if b then Pending pending next else Decided (Ok false))
by_count true pending back next is = ap (λ (ps : List Pair). Pending ps (exchanged next)) is
by_count false pending back next is = refl

prototypes_turned : (r s : Record) → prototypes s r ≡ turned (prototypes r s)
prototypes_turned r s =
    ap (λ (b : Bool). if b then Pending (pairs (parameter_types s.tail) (parameter_types r.tail)) (record { local = s.third; target = r.third }) else Decided (Ok false)) (eq_flips (length (parameter_types s.tail)) (length (parameter_types r.tail)))
    ∙ by_count (length (parameter_types r.tail) == length (parameter_types s.tail)) (pairs (parameter_types r.tail) (parameter_types s.tail)) (pairs (parameter_types s.tail) (parameter_types r.tail)) (record { local = r.third; target = s.third })
    (pairs_turned (parameter_types r.tail) (parameter_types s.tail))

module _ (id other : ℕ) (r s : Record) where
  one_kind_turned : (k : Kind) → IsFinePosition (position_by id k r s) → position_by other k s r ≡ turned (position_by id k r s)
  one_kind_turned Unknown fine = refl
  one_kind_turned Struct fine = refl
  one_kind_turned Union fine = refl
  one_kind_turned Enum fine = refl
  one_kind_turned Enum64 fine = refl
  one_kind_turned Fwd fine = refl
  one_kind_turned Float fine = refl
  one_kind_turned Int fine = ap (λ (a : Result Bool Refusal). Decided a) (offsets_flip r s)
  one_kind_turned Ptr fine = refl
  one_kind_turned Array fine = refl
  one_kind_turned FuncProto fine = prototypes_turned r s
  one_kind_turned k fine = absurd fine

  abbrev Turned : Kind → Kind → Type 0
  Turned k q = IsFinePosition (position_by id k r s) → position_by other q s r ≡ turned (position_by id k r s)

  pub position_turned : (k q : Kind) → compared_kind k ≡ compared_kind q → Turned k q
  position_turned k q same =
      elim (one_or_enums k q same) [
        | inl is ↦ subst (λ (x : Kind). Turned k x) is (λ fine. one_kind_turned k fine)
        | inr (inl p) ↦ subst (λ (x : Kind). Turned x q) (sym p.0) (subst (λ (x : Kind). Turned Enum x) (sym p.1) (λ fine. refl))
        | inr (inr p) ↦ subst (λ (x : Kind). Turned x q) (sym p.0) (subst (λ (x : Kind). Turned Enum64 x) (sym p.1) (λ fine. refl))
      ]
