-- The comparison of the types of two fields, each in its own table. Source: aya-obj's `fields_are_compatible`, after
-- libbpf's `bpf_core_fields_are_compat`. The limit of 32 places, and what is reported for kinds that have no answer,
-- are this project's profile.
use Rattle.std.specs.Prelude.{◌≡◌, ◌≢◌, ◌⊎◌, ℕ, ◌/◌, ◌%◌, ◌^◌, ◌==◌, ◌&&◌, Bool, true, false, if◌then◌else◌, List, [], ◌∷◌, take, codes, slice_index, slice_get, Some, Result, Ok, Err}
use Rattle.std.specs.Str.{bytes_eq}
use Rattle.btf_model.specs.Record.{Kind, Int, Ptr, Array, Enum, Fwd, Float, Enum64, Record, kind_of, is_composite, compared_kind}
use Rattle.btf_model.specs.Refusal.{Refusal, UnexpectedBtfType, MaximumTypeDepthReached}
use Rattle.btf_model.specs.Table.{Table}
use Rattle.btf_model.specs.Text.{text_at}
use Rattle.btf_model.specs.Walk.{Finding, Ends, GoesOn, Resolves, WalkAnswers}

-- two types that are compared: the id of one in the local table, and of one in the target table
pub record Pair : Type 0 where
  pub local : ℕ
  pub target : ℕ

-- Three underscores begin the flavor of a name. The flavor does not count when names are compared.
abbrev pub flavor_mark : List ℕ
flavor_mark = codes "___"

-- the part of a name before its first flavor mark
abbrev pub before_flavor : List ℕ → List ℕ
before_flavor [] = []
before_flavor (byte ∷ name) = if bytes_eq (take 3 (byte ∷ name)) flavor_mark then [] else byte ∷ before_flavor name

-- whether two names are equal without their flavors, or why one cannot be read; the local name is read first
abbrev pub same_names : Result (List ℕ) Refusal → Result (List ℕ) Refusal → Result Bool Refusal
same_names (Ok name) (Ok other) = Ok (bytes_eq (before_flavor name) (before_flavor other))
same_names (Ok name) (Err refusal) = Err refusal
same_names (Err refusal) other = Err refusal

-- bits 16 to 23 of an INT's data word: the bit at which it begins
abbrev pub int_offset : Record → ℕ
int_offset r = slice_index r.tail 0 / 2 ^ 16 % 2 ^ 8

-- the type of an ARRAY's elements
abbrev pub element_type : Record → ℕ
element_type r = slice_index r.tail 0

-- What is found at two types of compatible kinds that are not both composites. r is the record of the local type, which
-- has this id, and s is the record of the target type.
abbrev pub field_by : Table → Table → ℕ → Kind → Kind → Record → Record → Finding Pair Bool
field_by local target id Int Int r s = Ends (Ok (int_offset r == 0 && int_offset s == 0))
field_by local target id Ptr q r s = Ends (Ok true)
field_by local target id Float q r s = Ends (Ok true)
field_by local target id Fwd q r s = Ends (same_names (text_at local.strings r.name) (text_at target.strings s.name))
field_by local target id Enum q r s = Ends (same_names (text_at local.strings r.name) (text_at target.strings s.name))
field_by local target id Enum64 q r s = Ends (same_names (text_at local.strings r.name) (text_at target.strings s.name))
field_by local target id Array Array r s = GoesOn (record { local = element_type r; target = element_type s })
field_by local target id k q r s = Ends (Err (UnexpectedBtfType id))

-- both kinds are STRUCT or UNION
abbrev pub BothComposite : Kind → Kind → Type 0
BothComposite k q = (is_composite k ≡ true) × (is_composite q ≡ true)

-- What is found at two types that are no modifiers, by their kinds and records; the local type has this id. Two
-- composites are compatible. Otherwise types of different kinds are not compatible, except ENUM with ENUM64. For equal
-- kinds, `field_by` decides.
abbrev pub FieldsFound : Table → Table → ℕ → Kind → Kind → Record → Record → Finding Pair Bool → Type 0
FieldsFound local target id kind other_kind one other found =
    (BothComposite kind other_kind × (found ≡ Ends (Ok true)))
    ⊎ (((BothComposite kind other_kind → ⊥) × (compared_kind kind ≢ compared_kind other_kind) × (found ≡ Ends (Ok false)))
    ⊎ ((BothComposite kind other_kind → ⊥) × (compared_kind kind ≡ compared_kind other_kind)
    × (found ≡ field_by local target id kind other_kind one other)))

-- the kind and the record of the type of an id
abbrev pub IsAt : Table → ℕ → Kind → Record → Type 0
IsAt t id k r = (slice_get t.records id ≡ Some r) × (kind_of r.info ≡ Some k)

-- each record of the table has a kind that the library reads
abbrev pub HaveKinds : Table → Type 0
HaveKinds t = (id : ℕ) (r : Record) → slice_get t.records id ≡ Some r → (k : Kind) × (kind_of r.info ≡ Some k)

-- What is found at two ids. Both are resolved, the local one first.
abbrev pub FieldsFind : Table → Table → Pair → Finding Pair Bool → Type 0
FieldsFind local target at found =
    ((refusal : Refusal) × Resolves local.records at.local (Err refusal) × (found ≡ Ends (Err refusal)))
    ⊎ (((id : ℕ) × (refusal : Refusal) × Resolves local.records at.local (Ok id)
    × Resolves target.records at.target (Err refusal) × (found ≡ Ends (Err refusal)))
    ⊎ ((id other_id : ℕ) × (kind other_kind : Kind) × (one other : Record)
    × Resolves local.records at.local (Ok id) × Resolves target.records at.target (Ok other_id)
    × IsAt local id kind one × IsAt target other_id other_kind other
    × FieldsFound local target id kind other_kind one other found))

-- Whether the types of two fields are compatible, or why there is no answer. The walk goes from an ARRAY to its element
-- type, and ends at the first pair that is not two ARRAYs.
abbrev pub Fields : Table → ℕ → Table → ℕ → Result Bool Refusal → Type 0
Fields local id target other =
    WalkAnswers (FieldsFind local target) (record { local = id; target = other })
    (λ at. MaximumTypeDepthReached at.local)
