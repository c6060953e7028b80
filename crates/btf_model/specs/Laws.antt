-- The laws of the definitions. Each is the contract of a public function of this crate.
use Rattle.std.specs.Prelude.{All, Contains, ◌≤◌, ◌*◌, ◌^◌, ◌↔◌, ◌≡◌, ◌≢◌, ℕ, ◌<◌, Bool, false, List, [], ◌∷◌, ◌++◌, map, length, Option, Some, Result, Ok, Err, slice_get}
use Rattle.btf_model.specs.declared.endianness.Endianness.{Endianness}
use Rattle.std.specs.List.{flat_map, AllByRecursion, IsDistinct}
use Rattle.std.specs.Str.{IsUtf8}
use Rattle.btf_model.specs.Record.{Kind, Unknown, Int, Fwd, Array, Var, Record, unknown}
use Rattle.btf_model.specs.Spelling.{HasKind, IsRecord, spell}
use Rattle.btf_model.specs.Refusal.{Refusal}
use Rattle.btf_model.specs.Table.{Table, Fallback, strip, with_string, with_type}
use Rattle.btf_model.specs.Text.{text_at, FindsName}
use Rattle.btf_model.specs.Walk.{Resolves, HasSize}
use Rattle.btf_model.specs.Value.{Value}
use Rattle.btf_model.specs.RelocationWords.{RelocationSection, Words}
use Rattle.btf_model.specs.Fields.{Pair, HaveKinds, IsAt, int_offset, Fields}
use Rattle.btf_model.specs.Compat.{Plain, pair_eq, firsts}
use Rattle.btf_model.specs.Ext.{Section, Sections}
use Rattle.btf_model.specs.Blob.{IsTable, IsRefusal, IsValid, canon, header_len, header_of, strings_end, type_section}

-- No spelling is a proper prefix of another, and bytes spell at most one record.
abbrev pub NoSpellingBeginsAnother : Type 0
NoSpellingBeginsAnother =
    (order : Endianness) (bytes more : List ℕ) (r q : Record) → IsRecord order bytes r → IsRecord order (bytes ++ more) q
    → (more ≡ []) × (r ≡ q)

-- Bytes represent at most one table, or are refused for at most one reason, and never both.
pub record BlobIsDetermined : Type 0 where
  pub one_table : (order : Endianness) (bytes : List ℕ) (t u : Table) → IsTable order bytes t → IsTable order bytes u → t ≡ u
  pub one_refusal : (order : Endianness) (bytes : List ℕ) (f g : Refusal) → IsRefusal order bytes f → IsRefusal order bytes g
      → f ≡ g
  pub not_both : (order : Endianness) (bytes : List ℕ) (t : Table) (f : Refusal) → IsTable order bytes t
      → IsRefusal order bytes f → ⊥

-- The written bytes represent the table without its fallbacks, in the table's byte order.
abbrev pub WrittenParsesBack : Type 0
WrittenParsesBack = (t : Table) → IsValid t → IsTable t.order (canon t) (strip t)

-- The words of a record are written as they were read: for each kind, the words that reading drops or changes already
-- have the value that is written.
abbrev pub IsWrittenAsRead : Kind → Record → Type 0
IsWrittenAsRead Unknown w = w ≡ unknown
IsWrittenAsRead Fwd w = w.third ≡ 0
IsWrittenAsRead Array w = w.third ≡ 0
IsWrittenAsRead Var w = AllByRecursion (λ linkage. linkage ≤ 3) w.tail
IsWrittenAsRead k w = Unit {0}

-- The bytes are the spellings of records whose words are written as they were read, with nothing left over.
abbrev pub AreWrittenAsRead : Endianness → List ℕ → Type 0
AreWrittenAsRead order bytes =
    (rs : List Record) × AllByRecursion (λ w. (k : Kind) × HasKind k w × IsWrittenAsRead k w) rs
    × (bytes ≡ flat_map (spell order) rs)

-- The bytes have the one written form of a table: the usual header, the strings right after the types, nothing after
-- the strings, and no word that reading drops.
pub record IsUsual (order : Endianness) (bytes : List ℕ) : Type 0 where
  pub hdr_len : (header_of order bytes).hdr_len ≡ header_len
  pub type_off : (header_of order bytes).type_off ≡ 0
  pub str_off : (header_of order bytes).str_off ≡ (header_of order bytes).type_len
  pub nothing_after : length bytes ≡ strings_end (header_of order bytes)
  pub records : AreWrittenAsRead order (type_section (header_of order bytes) bytes)

-- A blob that represents a table is written back unchanged exactly if it has the written form.
abbrev pub ParsedWritesBack : Type 0
ParsedWritesBack =
    (order : Endianness) (bytes : List ℕ) (t : Table) → All (λ byte. byte < 2 ^ 8) bytes → IsTable order bytes t
    → (canon t ≡ bytes) ↔ IsUsual order bytes

-- The id of an added type is the old number of types, and each old id retains its record.
abbrev pub AddedTypeIsFound : Type 0
AddedTypeIsFound =
    (t : Table) (r : Record) (fallback : Option Fallback)
    → (slice_get (with_type r fallback t).records (length t.records) ≡ Some r)
    × ((id : ℕ) → id < length t.records → slice_get (with_type r fallback t).records id ≡ slice_get t.records id)

-- An added text without a zero byte is read at the offset that it was given, and each offset that was read as a text
-- before is read as the same text.
pub record AddedStringReadsBack : Type 0 where
  pub added : (t : Table) (text : List ℕ) → IsUtf8 text → ¬ (Contains text 0)
      → text_at (with_string text t).strings (length t.strings) ≡ Ok text
  pub old : (t : Table) (text other : List ℕ) (offset : ℕ) → text_at t.strings offset ≡ Ok other
      → text_at (with_string text t).strings offset ≡ Ok other

-- The search for a name finds one type, or fails for one reason.
abbrev pub NameFindsOne : Type 0
NameFindsOne =
    (strings : List ℕ) (records : List Record) (k : Kind) (name : List ℕ) (a b : Result ℕ Refusal)
    → FindsName strings records k name a → FindsName strings records k name b → a ≡ b

-- A walk has one answer. So an id resolves to one type or fails for one reason, and a type has one size or fails for
-- one reason.
pub record WalksAreDetermined : Type 0 where
  pub resolving : (records : List Record) (id : ℕ) (a b : Result ℕ Refusal) → Resolves records id a
      → Resolves records id b → a ≡ b
  pub size : (records : List Record) (id : ℕ) (a b : Result ℕ Refusal) → HasSize records id a → HasSize records id b
      → a ≡ b

-- If an id resolves to a type, this type resolves to itself.
abbrev pub ResolvingTwiceIsOnce : Type 0
ResolvingTwiceIsOnce =
    (records : List Record) (id end : ℕ) → Resolves records id (Ok end) → Resolves records end (Ok end)

-- A name has one value among the variants of a type, or none, or the search fails for one reason.
abbrev pub VariantValuesAreDetermined : Type 0
VariantValuesAreDetermined =
    (t : Table) (id : ℕ) (name : List ℕ) (a b : Result (Option ℕ) Refusal) → Value t id name a → Value t id name b
    → a ≡ b

-- The relocation records of a name are one list, or reading them fails for one reason.
abbrev pub RelocationWordsAreDetermined : Type 0
RelocationWordsAreDetermined =
    (strings : List ℕ) (sections : List RelocationSection) (name : List ℕ) (a b : Result (List (List ℕ)) Refusal)
    → Words strings sections name a → Words strings sections name b → a ≡ b

-- Bytes determine the sections that they begin with, and the rest after these.
abbrev pub SectionsAreDetermined : Type 0
SectionsAreDetermined =
    (order : Endianness) (size : ℕ) (bytes : List ℕ) (a b : List Section) (x y : List ℕ) → Sections order size bytes a x
    → Sections order size bytes b y → (a ≡ b) × (x ≡ y)

-- Each comparison has one answer. A comparison of types also has one list of started pairs, for any list of open pairs.
pub record ComparisonsAreDetermined : Type 0 where
  pub fields : (local : Table) (id : ℕ) (target : Table) (other : ℕ) (a b : Result Bool Refusal)
      → Fields local id target other a → Fields local id target other b → a ≡ b
  pub types : (local target : Table) (above : List Pair) (p : Pair) (a b : Result Bool Refusal) (s t : List Pair)
      → Plain local target above p a s → Plain local target above p b t → (a ≡ b) × (s ≡ t)

-- A comparison has an answer in tables whose records have kinds, and each table that can be written is one of these.
-- The comparison of types also ends if the types are cyclic.
pub record ComparisonsHaveAnswers : Type 0 where
  pub fields : (local target : Table) → HaveKinds local → HaveKinds target → (id other : ℕ)
      → (answer : Result Bool Refusal) × Fields local id target other answer
  pub types : (local target : Table) → HaveKinds local → HaveKinds target → (above : List Pair) (p : Pair)
      → (answer : Result Bool Refusal) × (starts : List Pair) × Plain local target above p answer starts
  pub kinds : (t : Table) → IsValid t → HaveKinds t

-- both ids of a pair have a record
abbrev pub AreIdsOfPair : Table → Table → Pair → Type 0
AreIdsOfPair local target p = (p.local < length local.records) × (p.target < length target.records)

-- A comparison starts pairs of known ids only. Without repeats each pair is in the list once, so the number of pairs is
-- at most the number of local records times the number of target records.
pub record StartsAreFew : Type 0 where
  pub known : (local target : Table) (above : List Pair) (p : Pair) (answer : Result Bool Refusal) (starts : List Pair)
      → Plain local target above p answer starts → All (AreIdsOfPair local target) starts
  pub once : (starts : List Pair) → IsDistinct pair_eq (firsts starts)
  pub few : (local target : Table) (above : List Pair) (p : Pair) (answer : Result Bool Refusal) (starts : List Pair)
      → Plain local target above p answer starts
      → length (firsts starts) ≤ length local.records * length target.records

-- the pair with its two sides exchanged
abbrev pub exchanged : Pair → Pair
exchanged p = record { local = p.target; target = p.local }

-- If a comparison returns true or false, the comparison with its sides exchanged returns the same and starts the same
-- pairs. If it is refused, and the records of both tables have kinds, the exchanged comparison is refused too. The
-- refusal may have another id or reason, because the local side is read first.
pub record ComparisonsAreSymmetric : Type 0 where
  pub fields : (local target : Table) (id other : ℕ) (b : Bool) → Fields local id target other (Ok b)
      → Fields target other local id (Ok b)
  pub types : (local target : Table) (above : List Pair) (p : Pair) (b : Bool) (starts : List Pair)
      → Plain local target above p (Ok b) starts
      → Plain target local (map exchanged above) (exchanged p) (Ok b) (map exchanged starts)
  pub refused_fields : (local target : Table) → HaveKinds local → HaveKinds target → (id other : ℕ) (refusal : Refusal)
      → Fields local id target other (Err refusal) → (f : Refusal) × Fields target other local id (Err f)
  pub refused_types : (local target : Table) → HaveKinds local → HaveKinds target
      → (above : List Pair) (p : Pair) (refusal : Refusal) (starts : List Pair)
      → Plain local target above p (Err refusal) starts
      → (f : Refusal) × (others : List Pair) × Plain target local (map exchanged above) (exchanged p) (Err f) others

-- The type of the id is an INT that does not begin at bit 0.
abbrev pub IsShifted : Table → ℕ → Type 0
IsShifted t id = (r : Record) × IsAt t id Int r × (int_offset r ≢ 0)

-- the pair of an id with itself
abbrev pub with_itself : ℕ → Pair
with_itself id = record { local = id; target = id }

-- Neither comparison is reflexive: an INT that does not begin at bit 0 is not compatible with itself, and a table that
-- can be written may have such an INT.
pub record ComparisonsAreNotReflexive : Type 0 where
  pub fields : (t : Table) (id : ℕ) → IsShifted t id → Fields t id t id (Ok false)
  pub types : (t : Table) (id : ℕ) → IsShifted t id
      → Plain t t [] (with_itself id) (Ok false) (with_itself id ∷ [])
  pub occurs : (t : Table) × (id : ℕ) × IsValid t × IsShifted t id
