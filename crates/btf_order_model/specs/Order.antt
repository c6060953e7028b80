-- An order of the types of a table in which a C header can declare them.
-- Source: C11, 6.2.5 (incomplete types), 6.7.2.1 (a member has a complete type) and 6.7.8 (typedefs): a STRUCT or UNION
-- has to be complete before a member, an element or a typedef has it by value, and a name has to be declared before it
-- is used. A pointer to a STRUCT or UNION with a name needs neither, because a forward declaration is enough.
use Rattle.std.specs.Prelude.{ℕ, ◌==◌, not, Bool, true, false, List, [], ◌∷◌, ◌++◌, IsTrue, Option, Some, None, slice_get}
use Rattle.std.specs.List.{Contains}
use Rattle.btf_model.specs.Fields.{element_type}
use Rattle.btf_model.specs.Record.{Kind, Array, Struct, Union, Enum, Fwd, Typedef, Volatile, Const, Restrict, TypeTag, Enum64, Record, kind_of}

-- ---- types that another type has by value

-- the types of the members in the words of a STRUCT or UNION
abbrev pub member_types : List ℕ → List ℕ
member_types (name ∷ type ∷ offset ∷ words) = type ∷ member_types words
member_types words = []

-- The types that a record has by value: its members, its elements, or the type that a TYPEDEF or a modifier is for. A
-- pointer and a prototype have none.
abbrev pub value_types_by : Option Kind → Record → List ℕ
value_types_by (Some Array) r = element_type r ∷ []
value_types_by (Some Struct) r = member_types r.tail
value_types_by (Some Union) r = member_types r.tail
value_types_by (Some Typedef) r = r.third ∷ []
value_types_by (Some Volatile) r = r.third ∷ []
value_types_by (Some Const) r = r.third ∷ []
value_types_by (Some Restrict) r = r.third ∷ []
value_types_by (Some TypeTag) r = r.third ∷ []
value_types_by k r = []

abbrev pub value_types : Record → List ℕ
value_types r = value_types_by (kind_of r.info) r

-- the types that the type of an id has by value; none if there is no type
abbrev pub value_types_or : Option Record → List ℕ
value_types_or (Some r) = value_types r
value_types_or None = []

abbrev pub value_types_in : List Record → ℕ → List ℕ
value_types_in records id = value_types_or (slice_get records id)

-- ---- types that a header declares

-- A header declares each TYPEDEF, and each STRUCT, UNION, ENUM, ENUM64 and FWD with a name. A type of these kinds without
-- a name is written where it is used.
abbrev pub is_declared_by : Option Kind → Record → Bool
is_declared_by (Some Struct) r = not (r.name == 0)
is_declared_by (Some Union) r = not (r.name == 0)
is_declared_by (Some Enum) r = not (r.name == 0)
is_declared_by (Some Fwd) r = not (r.name == 0)
is_declared_by (Some Typedef) r = true
is_declared_by (Some Enum64) r = not (r.name == 0)
is_declared_by k r = false

abbrev pub is_declared_or : Option Record → Bool
is_declared_or (Some r) = is_declared_by (kind_of r.info) r
is_declared_or None = false

abbrev pub is_declared : List Record → ℕ → Bool
is_declared records id = is_declared_or (slice_get records id)

-- A header may declare an ENUM, ENUM64 or FWD without a name alone, if nothing refers to it.
abbrev pub may_be_declared_by : Option Kind → Record → Bool
may_be_declared_by (Some Enum) r = true
may_be_declared_by (Some Fwd) r = true
may_be_declared_by (Some Enum64) r = true
may_be_declared_by k r = is_declared_by k r

abbrev pub may_be_declared_or : Option Record → Bool
may_be_declared_or (Some r) = may_be_declared_by (kind_of r.info) r
may_be_declared_or None = false

abbrev pub may_be_declared : List Record → ℕ → Bool
may_be_declared records id = may_be_declared_or (slice_get records id)

-- ---- orders

-- Type a contains type b by value: through members, elements, typedefs and modifiers.
pub data HasByValue (records : List Record) : ℕ → ℕ → Type 0 where
  directly : (a b : ℕ) → Contains (value_types_in records a) b → HasByValue records a b
  through : (a c b : ℕ) → Contains (value_types_in records a) c → HasByValue records c b → HasByValue records a b

-- The declaration of type a needs the declaration of type b before it.
abbrev pub NeedsComplete : List Record → ℕ → ℕ → Type 0
NeedsComplete records a b = HasByValue records a b × IsTrue (is_declared records b)

-- Each id occurs once, after the ids of all types that its declaration needs.
pub data IsOrdered (records : List Record) : List ℕ → Type 0 where
  empty : IsOrdered records []
  next : (ids : List ℕ) (id : ℕ) → IsOrdered records ids → ¬ (Contains ids id)
      → ((b : ℕ) → NeedsComplete records id b → Contains ids b) → IsOrdered records (ids ++ id ∷ [])

-- The ids are an order of all declarations of a table, and of nothing else.
pub record IsHeaderOrder (records : List Record) (ids : List ℕ) : Type 0 where
  pub ordered : IsOrdered records ids
  pub all : (id : ℕ) → IsTrue (is_declared records id) → Contains ids id
  pub only : (id : ℕ) → Contains ids id → IsTrue (may_be_declared records id)
