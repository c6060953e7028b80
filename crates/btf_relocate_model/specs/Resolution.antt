-- What a record asks to be written, for the tables of a program and of a target.
-- Source: libbpf's `bpf_core_calc_relo_insn` with the loop over candidates in it, and `bpf_core_calc_relo`. libbpf
-- computes the local value after the first match; since an error of either refuses the record, the same records are
-- refused.
use Rattle.std.specs.Prelude.{ℕ, ◌==◌, ◌&&◌, ◌||◌, nat_lt, not, if◌then◌else◌, Bool, true, false, List, [], ◌∷◌, length, codes, slice_get, slice_index, Option, Some, None, Result, Ok, Err}
use Rattle.std.specs.Str.{bytes_eq}
use Rattle.btf_model.specs.Record.{Record, kind_of}
use Rattle.btf_model.specs.Table.{Table, Variant}
use Rattle.btf_model.specs.declared.endianness.Endianness.{Endianness}
use Rattle.btf_model.specs.declared.endianness.Endianness.TheVariants.{Little, Big}
use Rattle.btf_relocate_model.specs.Access.{access_of}
use Rattle.btf_relocate_model.specs.Candidates.{candidate_limit, is_nameless}
use Rattle.btf_relocate_model.specs.Comparison.{types_alike}
use Rattle.btf_relocate_model.specs.Enumerator.{enumerator_at, find_enumerator}
use Rattle.btf_relocate_model.specs.Kind.{relocation_kinds}
use Rattle.btf_relocate_model.specs.Match.{match_path}
use Rattle.btf_relocate_model.specs.Path.{Path, path_of, local_pointer}
use Rattle.btf_relocate_model.specs.Types.{◌>>=◌, required_record, name_at, size_of, pointer_size}
use Rattle.btf_relocate_model.specs.Value.{field_value, plain, is_adjustable}
use Rattle.btf_relocate_model.specs.declared.answer.Answer.{Answer}
use Rattle.btf_relocate_model.specs.declared.answer.Match.{Match}
use Rattle.btf_relocate_model.specs.declared.answer.Match.TheVariants.{AtField, AtType, AtEnumerator}
use Rattle.btf_relocate_model.specs.declared.comparison.Rule.{Rule}
use Rattle.btf_relocate_model.specs.declared.comparison.Rule.TheVariants.{Compatible, Matches}
use Rattle.btf_relocate_model.specs.declared.error.RelocationError.{RelocationError}
use Rattle.btf_relocate_model.specs.declared.error.RelocationError.TheVariants.{UnknownKind, OrderMismatch, BadAccess, BadIndex, AnonymousType, Ambiguous, TooManyCandidates}
use Rattle.btf_relocate_model.specs.declared.field.Value.{Value}
use Rattle.btf_relocate_model.specs.declared.kind.RelocationKind.{RelocationKind}
use Rattle.btf_relocate_model.specs.declared.kind.RelocationKind.TheVariants.{FieldByteOffset, FieldByteSize, FieldSigned, FieldLShift64, FieldRShift64, TypeIdLocal, TypeIdTarget, TypeExists, TypeSize, EnumeratorExists, EnumeratorValue, TypeMatches}
use Rattle.btf_relocate_model.specs.declared.resolved.Resolved.{Resolved}

-- ---- the words of a record

-- the offset of its instruction, the id of its type, the string offset of its access string, the number of its kind
abbrev pub instruction_word : List ℕ → ℕ
instruction_word words = slice_index words 0

abbrev pub type_word : List ℕ → ℕ
type_word words = slice_index words 1

abbrev pub access_word : List ℕ → ℕ
access_word words = slice_index words 2

abbrev pub kind_word : List ℕ → ℕ
kind_word words = slice_index words 3

abbrev pub kind_or_unknown : ℕ → Option RelocationKind → Result RelocationKind RelocationError
kind_or_unknown n (Some k) = Ok k
kind_or_unknown n None = Err (UnknownKind n)

-- the kind of a record
abbrev pub relocation_kind_at : ℕ → Result RelocationKind RelocationError
relocation_kind_at n = kind_or_unknown n (slice_get relocation_kinds n)

-- ---- what a record is about

-- what a kind asks about
pub data Topic : Type 0 where
  Fields : Topic
  Types : Topic
  Enumerators : Topic

abbrev pub topic_of : RelocationKind → Topic
topic_of TypeIdLocal = Types
topic_of TypeIdTarget = Types
topic_of TypeExists = Types
topic_of TypeSize = Types
topic_of TypeMatches = Types
topic_of EnumeratorExists = Enumerators
topic_of EnumeratorValue = Enumerators
topic_of k = Fields

-- What a record is about: a field, the type itself, or an enumerator by its name and its value.
pub data Subject : Type 0 where
  OfField : (path : Path) → Subject
  OfType : (id : ℕ) → Subject
  OfEnumerator : (name : List ℕ) → (value : ℕ) → Subject

-- a type itself
abbrev pub is_of_type : Subject → Bool
is_of_type (OfType id) = true
is_of_type s = false

-- the indices of an access string
abbrev pub indices_or_bad : Option (List ℕ) → Result (List ℕ) RelocationError
indices_or_bad (Some is) = Ok is
indices_or_bad None = Err BadAccess

-- an enumerator, by the only index of its access
abbrev pub enumerator_subject : Table → ℕ → List ℕ → Result Subject RelocationError
enumerator_subject t id (index ∷ []) =
    enumerator_at t id index >>= λ e. Ok (OfEnumerator e.1 e.0.value)
enumerator_subject t id is = Err BadIndex

abbrev pub subject_by : Table → Topic → ℕ → List ℕ → Result Subject RelocationError
subject_by t Types id access = if bytes_eq access (codes "0") then Ok (OfType id) else Err BadAccess
subject_by t Enumerators id access = indices_or_bad (access_of access) >>= enumerator_subject t id
subject_by t Fields id access =
    indices_or_bad (access_of access) >>= λ is. path_of t id is >>= λ path. Ok (OfField path)

-- What a record of a kind is about, by the id of its type and its access string.
abbrev pub subject_of : Table → RelocationKind → ℕ → List ℕ → Result Subject RelocationError
subject_of t k id access = subject_by t (topic_of k) id access

-- ---- what a table has for it

-- what the program's own table has
abbrev pub local_match : Subject → Match
local_match (OfField path) = AtField path.field
local_match (OfType id) = AtType id
local_match (OfEnumerator name value) = AtEnumerator value

-- something that is there, seen in another way
abbrev pub seen_as : {A B : Type 0} → (A → B) → Option A → Result (Option B) RelocationError
seen_as f (Some x) = Ok (Some (f x))
seen_as f None = Ok None

abbrev pub type_if : ℕ → Bool → Result (Option Match) RelocationError
type_if id true = Ok (Some (AtType id))
type_if id false = Ok None

-- the rule by which a kind compares the record's type with a candidate
abbrev pub rule_of : RelocationKind → Rule
rule_of TypeMatches = Matches
rule_of k = Compatible

-- What a candidate has for the subject of a record of a kind; none if it does not match.
abbrev pub match_of : RelocationKind → Table → ℕ → Table → Subject → ℕ → Result (Option Match) RelocationError
match_of k local pointer t (OfField path) c = match_path local pointer t path.steps c >>= seen_as AtField
match_of k local pointer t (OfType id) c =
    types_alike (record { rule = rule_of k; local = local; target = t }) id c >>= type_if c
match_of k local pointer t (OfEnumerator name value) c =
    find_enumerator t c name >>= seen_as (λ (v : Variant). AtEnumerator v.value)

-- ---- values

abbrev pub type_value : ℕ → Table → RelocationKind → ℕ → Result Value RelocationError
type_value pointer t TypeIdTarget id = Ok (plain id)
type_value pointer t TypeSize id = size_of pointer t id >>= λ size. Ok (plain size)
type_value pointer t k id = Ok (plain 1)

abbrev pub enumerator_value : RelocationKind → ℕ → Value
enumerator_value EnumeratorValue value = plain value
enumerator_value k value = plain 1

-- The value of a match for a kind, in a table whose pointers have a size.
abbrev pub value_of : ℕ → Table → RelocationKind → Match → Result Value RelocationError
value_of pointer t k (AtField f) = field_value pointer t k f
value_of pointer t k (AtType id) = type_value pointer t k id
value_of pointer t k (AtEnumerator value) = Ok (enumerator_value k value)

-- ---- all candidates

abbrev pub bit_of : Match → ℕ
bit_of (AtField f) = f.bit
bit_of m = 0

abbrev pub answer_of : ℕ → Table → RelocationKind → Option Match → Result (Option Answer) RelocationError
answer_of pointer t k (Some m) =
    value_of pointer t k m >>= λ value. Ok (Some (record { bit = bit_of m; value = value }))
answer_of pointer t k None = Ok None

-- Two candidates agree if the field begins at the same bit, and the values are the same.
abbrev pub agree : Answer → Answer → Bool
agree a b = a.bit == b.bit && a.value.value == b.value.value

-- the first answer, where the next one has to agree with it
abbrev pub joined_answer : Option Answer → Option Answer → Result (Option Answer) RelocationError
joined_answer (Some a) (Some b) = if agree a b then Ok (Some a) else Err Ambiguous
joined_answer (Some a) None = Ok (Some a)
joined_answer None b = Ok b

-- a candidate is retained if it matches
abbrev pub retained : ℕ → Option Answer → List ℕ → List ℕ
retained c (Some a) cs = c ∷ cs
retained c None cs = cs

-- The answer of these candidates after an earlier one, and the candidates that match.
abbrev pub answers : (ℕ → Result (Option Answer) RelocationError) → Option Answer → List ℕ
    → Result (Option Answer × List ℕ) RelocationError
answers answer first [] = Ok (first, [])
answers answer first (c ∷ cs) =
    answer c >>= λ a. joined_answer first a >>= λ next. answers answer next cs >>= λ rest. Ok (rest.0, retained c a rest.1)

-- The same for all candidates of a table. A record with more than the limit is refused.
abbrev pub table_answers : (ℕ → Result (Option Answer) RelocationError) → Option Answer → List ℕ
    → Result (Option Answer × List ℕ) RelocationError
table_answers answer first candidates =
    if nat_lt candidate_limit (length candidates) then Err TooManyCandidates else answers answer first candidates

-- ---- the result

-- Whether an instruction must have the expected value. Compilers write other values for bit-fields and ids of types.
abbrev pub is_plain : Subject → Bool
is_plain (OfField path) = not path.field.is_member || (path.field.bits == 0)
is_plain s = true

abbrev pub validates : RelocationKind → Subject → Bool
validates TypeIdLocal s = false
validates TypeIdTarget s = false
validates FieldByteOffset s = is_plain s
validates FieldByteSize s = is_plain s
validates FieldLShift64 s = is_plain s
validates k s = true

-- the kinds that poison an instruction if nothing in the target matches
abbrev pub poisons : RelocationKind → Bool
poisons FieldByteOffset = true
poisons FieldByteSize = true
poisons FieldSigned = true
poisons FieldLShift64 = true
poisons FieldRShift64 = true
poisons EnumeratorValue = true
poisons k = false

-- A load or store may get another size if the types of the two sizes allow it.
abbrev pub adjustable_by : Result Record RelocationError → Result Record RelocationError → Bool
adjustable_by (Ok r) (Ok s) = is_adjustable (kind_of r.info) (kind_of s.info) r s
adjustable_by r s = false

abbrev pub may_resize : Table → Table → Value → Value → Bool
may_resize local t expected value =
    if expected.size == value.size then true
    else adjustable_by (required_record local expected.type_id) (required_record t value.type_id)

-- a record that needs no search: the id of the program's own type
abbrev pub local_id : ℕ → Resolved
local_id id = record {
  expected = id;
  value = id;
  is_matched = false;
  is_poisoned = false;
  validates = false;
  local_size = 0;
  target_size = 0;
  is_adjustable = true;
}

-- by the answer of the candidates: its value; or else the instruction is poisoned, or gets 0
abbrev pub resolved_by : Table → Table → RelocationKind → Bool → Value → Option Answer → Resolved
resolved_by local t k is_validated expected (Some a) = record {
  expected = expected.value;
  value = a.value.value;
  is_matched = true;
  is_poisoned = false;
  validates = is_validated;
  local_size = expected.size;
  target_size = a.value.size;
  is_adjustable = may_resize local t expected a.value;
}
resolved_by local t k is_validated expected None = record {
  expected = expected.value;
  value = 0;
  is_matched = false;
  is_poisoned = poisons k;
  validates = is_validated;
  local_size = expected.size;
  target_size = (if poisons k then 0 else expected.size);
  is_adjustable = true;
}

-- the candidates that remain for the next record: those that match, if there are any
abbrev pub remaining : {A : Type 0} → A → Option Answer → A → A
remaining before (Some a) matching = matching
remaining before None matching = before

-- A program's table, and the table of the target.
pub record TablePair : Type 0 where
  pub local : Table
  pub target : Table

-- the answer that a candidate has for a subject
abbrev pub candidate_answer : TablePair → RelocationKind → Subject → ℕ → Result (Option Answer) RelocationError
candidate_answer g k s c =
    match_of k g.local (pointer_size g.target) g.target s c >>= answer_of (pointer_size g.target) g.target k

-- a record whose kind needs a search, after its local value
abbrev pub searched : TablePair → RelocationKind → Subject → List ℕ → Value → Result (Resolved × List ℕ) RelocationError
searched g k s candidates expected =
    table_answers (candidate_answer g k s) None candidates >>= λ found.
    Ok (resolved_by g.local g.target k (validates k s) expected found.0, remaining candidates found.0 found.1)

-- the kind of a record, the name of its type, and what it is about
pub record Question : Type 0 where
  pub kind : RelocationKind
  pub name : List ℕ
  pub subject : Subject

-- the one kind that needs no search
abbrev pub is_local : RelocationKind → Bool
is_local TypeIdLocal = true
is_local k = false

-- The answer to a question about a type of this id in a program's table, where `search` looks for the answer after the
-- local value.
abbrev pub answered_by : {A : Type 0} → Table → (RelocationKind → Subject → Value → Result (Resolved × A) RelocationError)
    → ℕ → A → Question → Result (Resolved × A) RelocationError
answered_by local search id candidates q =
    if is_local q.kind then Ok (local_id id, candidates)
    else (if is_nameless q.name then Err (AnonymousType id)
    else (value_of local_pointer local q.kind (local_match q.subject) >>= search q.kind q.subject))

abbrev pub answered : TablePair → ℕ → List ℕ → Question → Result (Resolved × List ℕ) RelocationError
answered g id candidates q = answered_by g.local (λ k s. searched g k s candidates) id candidates q

-- two tables have one byte order
abbrev pub same_order : Endianness → Endianness → Bool
same_order Little Little = true
same_order Big Big = true
same_order o q = false

-- What a record asks, in a program's table, for a target of a byte order.
abbrev pub question : Table → Endianness → List ℕ → Result Question RelocationError
question t order words =
    relocation_kind_at (kind_word words) >>= λ k.
    if not (same_order t.order order) then Err OrderMismatch
    else (required_record t (type_word words) >>= λ r. name_at t r.name >>= λ name.
    name_at t (access_word words) >>= λ access. subject_of t k (type_word words) access >>= λ s.
    Ok (record { kind = k; name = name; subject = s }))

-- What a record asks to be written, and the candidates that remain for the next record of its type. The first error in
-- this order refuses the record.
abbrev pub resolution : TablePair → List ℕ → List ℕ → Result (Resolved × List ℕ) RelocationError
resolution g candidates words =
    question g.local g.target.order words >>= answered g (type_word words) candidates
