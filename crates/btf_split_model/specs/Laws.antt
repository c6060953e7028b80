-- The laws of split tables. Each is the contract of a public function of this crate.
use Rattle.std.specs.Prelude.{All, [], ◌∷◌, Bool, suc, Some, ◌↔◌, ◌≤◌, ◌≡◌, ℕ, ◌+◌, ◌<◌, ◌^◌, List, length, Ok, slice_get}
use Rattle.btf_model.specs.declared.endianness.Endianness.{Endianness}
use Rattle.btf_model.specs.Record.{Record, unknown}
use Rattle.btf_model.specs.Refusal.{Refusal}
use Rattle.btf_model.specs.Table.{Table, strip}
use Rattle.btf_model.specs.Blob.{IsTable, IsValid}
use Rattle.btf_model.specs.Text.{bytes_at, text_at}
use Rattle.btf_model.specs.Walk.{Resolves, HasSize}
use Rattle.btf_model.specs.Fields.{Pair, Fields}
use Rattle.btf_model.specs.Compat.{Plain}
use Rattle.btf_split_model.specs.Hint.{LooksSplit, hint_records}
use Rattle.btf_split_model.specs.Split.{appended, cut, joined, IsJoined, IsJoinedRefusal, Extends, split_canon}

-- Bytes are at most one table over a base, or are refused for at most one reason, and never both.
pub record JoinedIsDetermined : Type 0 where
  pub one_table : (order : Endianness) (base : Table) (bytes : List ℕ) (t u : Table) → IsJoined order base bytes t
      → IsJoined order base bytes u → t ≡ u
  pub one_refusal : (order : Endianness) (base : Table) (bytes : List ℕ) (f g : Refusal)
      → IsJoinedRefusal order base bytes f → IsJoinedRefusal order base bytes g → f ≡ g
  pub not_both : (order : Endianness) (base : Table) (bytes : List ℕ) (t : Table) (f : Refusal)
      → IsJoined order base bytes t → IsJoinedRefusal order base bytes f → ⊥

-- A table over a base begins with the records and strings of the base. So each id of the base has the same record, and
-- each text of the base is read at the same offset.
pub record BaseStays : Type 0 where
  pub extends : (order : Endianness) (base : Table) (bytes : List ℕ) (t : Table) → IsJoined order base bytes t
      → Extends base t
  pub types : (base t : Table) → Extends base t → (id : ℕ) → id < length base.records
      → slice_get t.records id ≡ slice_get base.records id
  pub texts : (base t : Table) → Extends base t → (offset : ℕ) (text : List ℕ)
      → text_at base.strings offset ≡ Ok text → text_at t.strings offset ≡ Ok text

-- An id that resolves to a type in the base resolves to this type in the table, and a type that has a size in the base
-- has this size. An error may change, because ids above the base may be types of the table.
pub record BaseWalksStay : Type 0 where
  pub resolving : (base t : Table) → Extends base t → (id end : ℕ) → Resolves base.records id (Ok end)
      → Resolves t.records id (Ok end)
  pub size : (base t : Table) → Extends base t → (id size : ℕ) → HasSize base.records id (Ok size)
      → HasSize t.records id (Ok size)

-- If a comparison of two types, each in a base, returns true or false, it returns the same in tables that extend the
-- bases. The comparison of types also starts the same pairs.
pub record BaseComparisonsStay : Type 0 where
  pub fields : (local target l r : Table) → Extends local l → Extends target r → (id other : ℕ) (b : Bool)
      → Fields local id target other (Ok b) → Fields l id r other (Ok b)
  pub types : (local target l r : Table) → Extends local l → Extends target r
      → (above : List Pair) (p : Pair) (b : Bool) (starts : List Pair) → Plain local target above p (Ok b) starts
      → Plain l r above p (Ok b) starts

-- The types of a split table have the ids from the number of the base's types on, in their order, and its strings have
-- the offsets from the length of the base's strings on.
pub record OwnPartFollows : Type 0 where
  pub types : (base own : Table) (id : ℕ)
      → slice_get (joined base own).records (length base.records + id) ≡ slice_get own.records (1 + id)
  pub texts : (base own : Table) (offset : ℕ)
      → bytes_at (joined base own).strings (length base.strings + offset) ≡ bytes_at own.strings offset

-- Over a base that has only id 0 and no strings, a split table is a table without a base.
abbrev pub EmptyBaseAddsNothing : Type 0
EmptyBaseAddsNothing =
    (order : Endianness) (base : Table) (bytes : List ℕ) (t : Table) → All (λ byte. byte < 2 ^ 8) bytes
    → base.records ≡ unknown ∷ [] → base.strings ≡ [] → IsJoined order base bytes t ↔ IsTable order bytes t

-- The written part of a table above a base is a split table, which with the base is the table again.
pub record WrittenJoinsAgain : Type 0 where
  pub extending : (base t : Table) → IsValid t → 0 < length base.records → Extends base t
      → IsJoined t.order base (split_canon (length base.records) (length base.strings) t) (strip t)
  pub parsed : (order : Endianness) (base : Table) (bytes : List ℕ) (t : Table) → All (λ byte. byte < 2 ^ 8) bytes
      → IsJoined order base bytes t
      → IsJoined order base (split_canon (length base.records) (length base.strings) t) t

-- A base to which a split table was appended is the base again after it is cut to the base's numbers of records and of
-- bytes of strings.
abbrev pub CutGivesBase : Type 0
CutGivesBase =
    (order : Endianness) (base : Table) (bytes : List ℕ) (t : Table) → IsJoined order base bytes t
    → length base.fallbacks ≡ length base.records
    → cut (length base.records) (length base.strings) (appended base t) ≡ base

-- A blob that represents a table looks split exactly if one of the types 1 to 64 has a name at a string offset that its
-- strings do not have.
abbrev pub LooksSplitByNames : Type 0
LooksSplitByNames =
    (order : Endianness) (bytes : List ℕ) (t : Table) → IsTable order bytes t
    → LooksSplit order bytes
    ↔ ((id : ℕ) × (r : Record) × (id < hint_records) × (slice_get t.records (suc id) ≡ Some r)
    × (length t.strings ≤ r.name))
