-- The laws of the definitions. Each is the contract of a public function of this crate.
use Rattle.std.specs.Prelude.{◌≡◌, ◌≢◌, ◌⊎◌, ℕ, ◌+◌, ◌*◌, ◌/◌, ◌%◌, ◌^◌, ◌<◌, ◌≤◌, ◌==◌, not, if◌then◌else◌, Bool, true, false, List, All, [], ◌∷◌, ◌++◌, map, slice_get, slice_index, Option, Some, None, Result, Ok, Err}
use Rattle.btf_model.specs.Record.{Record, kind_of}
use Rattle.btf_model.specs.Table.{Table, Variant}
use Rattle.btf_model.specs.Text.{bytes_at}
use Rattle.btf_model.specs.declared.endianness.Endianness.{Endianness}
use Rattle.btf_relocate_model.specs.Candidates.{is_nameless}
use Rattle.btf_relocate_model.specs.Comparison.{types_alike}
use Rattle.btf_relocate_model.specs.Compatible.{is_composite_kind, compatible}
use Rattle.btf_relocate_model.specs.Enumerator.{enumerators}
use Rattle.btf_relocate_model.specs.Field.{Member, members_of}
use Rattle.btf_relocate_model.specs.Instruction.{relocated, poisoned, sign_extended, alu64, wide_immediate, slot_len, ld_imm64, patched_code}
use Rattle.btf_relocate_model.specs.Kind.{relocation_kinds}
use Rattle.btf_relocate_model.specs.Match.{match_path}
use Rattle.btf_relocate_model.specs.Modules.{Candidates, KernelSetting, alone, left_after_section, relocated_section_among, reported_section, resolution_among}
use Rattle.btf_relocate_model.specs.Name.{essential}
use Rattle.btf_relocate_model.specs.Path.{Path, path_of, local_pointer}
use Rattle.btf_relocate_model.specs.Resolution.{TablePair, Question, Subject, Fields, OfField, OfType, OfEnumerator, topic_of, poisons, resolution, question, instruction_word, type_word, rule_of, relocation_kind_at, kind_word, match_of, local_match, value_of, validates}
use Rattle.btf_relocate_model.specs.Section.{candidates_of, code_after, patched_outcome, patch_of, relocated_by, relocated_section}
use Rattle.btf_relocate_model.specs.Types.{pointer_size, name_at, name_or_none, resolved_record}
use Rattle.btf_relocate_model.specs.Value.{field_value, truth_number}
use Rattle.btf_relocate_model.specs.declared.comparison.Rule.TheVariants.{Matches}
use Rattle.btf_relocate_model.specs.declared.error.RelocationError.{RelocationError}
use Rattle.btf_relocate_model.specs.declared.error.RelocationError.TheVariants.{Ambiguous, AnonymousType, InvalidStringOffset}
use Rattle.btf_relocate_model.specs.declared.field.Field.{Field}
use Rattle.btf_relocate_model.specs.declared.instruction.Slot.{Slot}
use Rattle.btf_relocate_model.specs.declared.instruction.Instruction.{Instruction}
use Rattle.btf_relocate_model.specs.declared.instruction.Instruction.TheVariants.{Narrow, Wide}
use Rattle.btf_relocate_model.specs.declared.instruction.Patched.{Patched}
use Rattle.btf_relocate_model.specs.declared.instruction.Patched.TheVariants.{Written, Poisoned}
use Rattle.btf_relocate_model.specs.declared.kind.RelocationKind.{RelocationKind}
use Rattle.btf_relocate_model.specs.declared.kind.RelocationKind.TheVariants.{TypeMatches}
use Rattle.btf_relocate_model.specs.declared.report.Report.{Report}
use Rattle.btf_relocate_model.specs.declared.resolved.Resolved.{Resolved}

-- The immediate of an arithmetic instruction reads as a value: its sign-extension, or in an instruction of 32 bits its
-- zero-extension.
abbrev pub ImmediateHas : ℕ → Slot → Type 0
ImmediateHas value s =
    (sign_extended 32 s.immediate ≡ value) ⊎ ((s.opcode % 8 ≢ alu64) × (s.immediate ≡ value))

-- The field of a slot reads as a value: the offset of a load or store, the immediate of another instruction.
abbrev pub SlotHas : ℕ → Slot → Type 0
SlotHas value s =
    ((s.opcode % 8 ≤ 3) × (s.offset ≡ value)) ⊎ ((3 < s.opcode % 8) × ImmediateHas value s)

-- the field of an instruction reads as a value
abbrev pub HasValue : ℕ → Instruction → Type 0
HasValue value (Narrow s) = SlotHas value s
HasValue value (Wide s t) = wide_immediate s t ≡ value

-- A value that was written is read back.
abbrev pub WrittenReadsBack : Type 0
WrittenReadsBack =
    (order : Endianness) (r : Resolved) (i j : Instruction)
    → relocated order r i ≡ Ok (Written, j) → HasValue r.value j

-- Nothing but the field of a slot, and the size of a load or store, has changed.
pub record SlotKeeps (s u : Slot) : Type 0 where
  pub registers : u.registers ≡ s.registers
  pub class : u.opcode % 8 ≡ s.opcode % 8
  pub mode : u.opcode / 32 ≡ s.opcode / 32
  pub others : ((u.immediate ≡ s.immediate) ⊎ (u.offset ≡ s.offset))

-- Nothing but the fields of an instruction has changed.
abbrev pub Keeps : Instruction → Instruction → Type 0
Keeps (Narrow s) (Narrow u) = SlotKeeps s u
Keeps (Wide s t) (Wide u v) = SlotKeeps s u × SlotKeeps t v
Keeps i j = ⊥

-- A written instruction is the old one but for its field, and the size of a load or store.
abbrev pub WrittenKeepsTheRest : Type 0
WrittenKeepsTheRest =
    (order : Endianness) (r : Resolved) (i j : Instruction) → relocated order r i ≡ Ok (Written, j) → Keeps i j

-- An instruction is poisoned only if the record asks for it, or if the size of a load or store would have to change and
-- may not. Then each of its slots is the poison.
abbrev pub PoisonHasAReason : Type 0
PoisonHasAReason =
    (order : Endianness) (r : Resolved) (i j : Instruction) → relocated order r i ≡ Ok (Poisoned, j)
    → (j ≡ poisoned i) × ((r.is_poisoned ≡ true) ⊎ ((r.local_size ≢ r.target_size) × (r.is_adjustable ≡ false)))

-- ---- a field and its existence

-- The error of a value of a field, by its path: candidates give different values, or the field has no value for the
-- kind, in the program's table or in a candidate that matches.
abbrev pub IsOfValue : TablePair → RelocationKind → List ℕ → Path → RelocationError → Type 0
IsOfValue g k candidates path e =
    (e ≡ Ambiguous) ⊎ ((field_value local_pointer g.local k path.field ≡ Err e)
    ⊎ ((i : ℕ) × (c : ℕ) × (f : Field) × (slice_get candidates i ≡ Some c)
    × (match_path g.local (pointer_size g.target) g.target path.steps c ≡ Ok (Some f))
    × (field_value (pointer_size g.target) g.target k f ≡ Err e)))

-- the error of a value of the field that a record is about
abbrev pub IsOfItsValue : TablePair → RelocationKind → List ℕ → List ℕ → RelocationError → Type 0
IsOfItsValue g k candidates words e =
    (q : Question) × (path : Path) × (question g.local g.target.order words ≡ Ok q) × (q.subject ≡ OfField path)
    × IsOfValue g k candidates path e

-- What a record about a field gives agrees with what the record about its existence gives. The same candidates remain,
-- and the existence is 0 if the other record poisons, and 1 if it does not. The other record has the same error, or the
-- error of a value; it gives no result if the record about the existence gives none.
abbrev pub AgreesWith : (RelocationError → Type 0) → Result (Resolved × List ℕ) RelocationError
    → Result (Resolved × List ℕ) RelocationError → Type 0
AgreesWith of_value (Ok exists) (Ok r) =
    (exists.0.value ≡ truth_number (not r.0.is_poisoned)) × (exists.0.is_poisoned ≡ false) × (exists.1 ≡ r.1)
AgreesWith of_value (Ok exists) (Err e) = of_value e
AgreesWith of_value (Err e) (Ok r) = ⊥
AgreesWith of_value (Err e) (Err other) = (other ≡ e) ⊎ of_value other

-- A record about a field, of a kind that poisons, agrees with the record about the existence of the field: of the same
-- type, access string and candidates.
abbrev pub ExistenceAgrees : Type 0
ExistenceAgrees =
    (g : TablePair) (candidates : List ℕ) (at type access n : ℕ) (k : RelocationKind)
    → slice_get relocation_kinds n ≡ Some k → topic_of k ≡ Fields → poisons k ≡ true
    → AgreesWith (IsOfItsValue g k candidates (at ∷ type ∷ access ∷ 2 ∷ []))
    (resolution g candidates (at ∷ type ∷ access ∷ 2 ∷ []))
    (resolution g candidates (at ∷ type ∷ access ∷ n ∷ []))

-- ---- the order of records

-- the number of bytes of the instruction at a place: two slots if it is the load of a 64-bit immediate
abbrev pub instruction_len : List ℕ → ℕ → ℕ
instruction_len code at = if slice_index code at == ld_imm64 then 2 * slot_len else slot_len

-- The instructions at two places do not overlap.
abbrev pub AreApart : List ℕ → ℕ → ℕ → Type 0
AreApart code at other = (at + instruction_len code at ≤ other) ⊎ (other + instruction_len code other ≤ at)

-- the code after the patch of an instruction
abbrev pub code_with : Endianness → Resolved → ℕ → List ℕ → List ℕ
code_with order r at code = code_after code (patched_code order r code at)

-- Two instructions that do not overlap are patched in either order: the outcome of each is the one that it has alone,
-- and the code is the same.
abbrev pub PatchesCommute : Type 0
PatchesCommute =
    (order : Endianness) (r s : Resolved) (code : List ℕ) (at other : ℕ) → AreApart code at other
    → (patched_outcome (patched_code order s (code_with order r at code) other)
    ≡ patched_outcome (patched_code order s code other))
    × (code_with order s other (code_with order r at code) ≡ code_with order r at (code_with order s other code))

-- Two records share no candidates: each record has all of them, or the two are about different types.
abbrev pub ShareNone : Bool → List ℕ → List ℕ → Type 0
ShareNone is_shared words others = (is_shared ≡ false) ⊎ (type_word words ≢ type_word others)

-- Two neighbouring records that share no candidates may change places, if their instructions do not overlap in the code
-- that the records before them leave. Then their outcomes change places, and all else is the same.
abbrev pub NeighboursExchange : Type 0
NeighboursExchange =
    (g : TablePair) (is_shared : Bool) (code : List ℕ) (before after : List (List ℕ)) (words others : List ℕ)
    → let run = relocated_section g is_shared code in
    ShareNone is_shared words others
    → AreApart (run before).1 (instruction_word words) (instruction_word others)
    → (o p : Result Patched RelocationError) × (os : List (Result Patched RelocationError))
    × ((run (before ++ words ∷ others ∷ after)).0 ≡ (run before).0 ++ o ∷ p ∷ os)
    × ((run (before ++ others ∷ words ∷ after)).0 ≡ (run before).0 ++ p ∷ o ∷ os)
    × ((run (before ++ words ∷ others ∷ after)).1 ≡ (run (before ++ others ∷ words ∷ after)).1)

-- ---- more strings

-- The new result is the old one, or the old one is the error of a name at an offset at which the old strings have no
-- text.
abbrev pub SameOrUnread : {A : Type 0} → List ℕ → Result A RelocationError → Result A RelocationError → Type 0
SameOrUnread strings old new =
    (new ≡ old)
    ⊎ ((offset : ℕ) × (bytes_at strings offset ≡ None) × (old ≡ Err (InvalidStringOffset offset)))

-- a table with more strings after its own
abbrev pub with_strings : List ℕ → Table → Table
with_strings more t = record t { strings = t.strings ++ more }

-- Strings that are appended to the program's table do not change the comparisons of `TypeMatches`, except where a name
-- had no text before them. In that comparison a name without a text counts as empty beside an empty name of the target.
abbrev pub MatchesAlike : List ℕ → TablePair → Type 0
MatchesAlike more g =
    (id c : ℕ) → SameOrUnread g.local.strings
    (types_alike (record { rule = Matches; local = g.local; target = g.target }) id c)
    (types_alike (record { rule = Matches; local = with_strings more g.local; target = g.target }) id c)

-- Strings that are appended to the program's table change no resolution, except where a name had no text before them.
abbrev pub StringsMayBeAppended : Type 0
StringsMayBeAppended =
    (g : TablePair) (more candidates words : List ℕ) → (relocation_kind_at (kind_word words) ≡ Ok TypeMatches → MatchesAlike more g)
    → SameOrUnread g.local.strings (resolution g candidates words)
    (resolution (record g { local = with_strings more g.local }) candidates words)

-- ---- members of different names

-- The STRUCT or UNION that an id resolves to has a member of a name: one with this name, or one without a name whose
-- type has such a member.
pub data HasMember (t : Table) (name : List ℕ) : ℕ → Type 0 where
  WithName : (id i : ℕ) (r : Record) (m : Member) → resolved_record t id ≡ Ok r → slice_get (members_of r) i ≡ Some m
      → name_or_none t m.name ≡ name → HasMember t name id
  WithinOne : (id i : ℕ) (r : Record) (m : Member) → resolved_record t id ≡ Ok r → slice_get (members_of r) i ≡ Some m
      → is_nameless (name_or_none t m.name) ≡ true → HasMember t name m.type → HasMember t name id

-- a name leads to a member: the member has it, or the member has no name and its type has a member of the name
abbrev pub LeadsTo : Table → List ℕ → Member → Type 0
LeadsTo t name m =
    (name_or_none t m.name ≡ name) ⊎ ((is_nameless (name_or_none t m.name) ≡ true) × HasMember t name m.type)

-- Members as compilers write them. The string offset 0 is the empty name. No name leads to two members of a type. A
-- member without a name is a STRUCT or UNION. The type of a member is compatible with itself, which type 0, an INT with
-- a bit offset, a FUNC, a FUNC_PROTO, a VAR, a DATASEC and a DECL_TAG are not.
pub record HasPlainMembers (t : Table) : Type 0 where
  pub no_name : name_or_none t 0 ≡ []
  pub distinct : (k i j : ℕ) (r : Record) (m n : Member) (name : List ℕ) → slice_get t.records k ≡ Some r
      → slice_get (members_of r) i ≡ Some m → slice_get (members_of r) j ≡ Some n → is_nameless name ≡ false
      → LeadsTo t name m → LeadsTo t name n → i ≡ j
  pub composite : (k i : ℕ) (r s : Record) (m : Member) → slice_get t.records k ≡ Some r
      → slice_get (members_of r) i ≡ Some m → m.name ≡ 0 → resolved_record t m.type ≡ Ok s
      → is_composite_kind (kind_of s.info) ≡ true
  pub alike : (k i : ℕ) (r : Record) (m : Member) (b : Bool) → slice_get t.records k ≡ Some r
      → slice_get (members_of r) i ≡ Some m → compatible t t m.type m.type ≡ Ok b → b ≡ true

-- In a table with such members, the path of an access leads in its own type to its own field, if the match is not
-- refused.
abbrev pub PathsMatchThemselves : Type 0
PathsMatchThemselves =
    (t : Table) (id : ℕ) (is : List ℕ) (path : Path) (o : Option Field) → HasPlainMembers t
    → path_of t id is ≡ Ok path → match_path t local_pointer t path.steps id ≡ Ok o → o ≡ Some path.field

-- ---- the program's own table as the target

-- The target is the program's own table, and its pointers have the size that they have in the program.
pub record IsOwn (g : TablePair) : Type 0 where
  pub table : g.target ≡ g.local
  pub pointer : pointer_size g.target ≡ local_pointer

-- Enumerators of a type that have the same essential name have the same value.
abbrev pub HasPlainEnumerators : Table → ℕ → Type 0
HasPlainEnumerators t id =
    (vs : List Variant) (i j : ℕ) (v w : Variant) (name other : List ℕ) → enumerators t id ≡ Ok vs
    → slice_get vs i ≡ Some v → slice_get vs j ≡ Some w → name_at t v.name ≡ Ok name → name_at t w.name ≡ Ok other
    → essential other ≡ essential name → w.value ≡ v.value

-- What makes a type match itself, for a subject. For a kind that compares types, the comparison of the type with itself
-- is true, if it is not refused. libbpf's comparison is false for a FLOAT, because it has no case for this kind.
abbrev pub MatchesItself : TablePair → RelocationKind → ℕ → Subject → Type 0
MatchesItself g k id (OfField path) = HasPlainMembers g.local
MatchesItself g k id (OfType other) =
    (b : Bool) → types_alike (record { rule = rule_of k; local = g.local; target = g.target }) id id ≡ Ok b → b ≡ true
MatchesItself g k id (OfEnumerator name value) = HasPlainEnumerators g.local id

-- The value for the target is the value for the program's own table, of the same size, and the one candidate remains.
pub record GivesTheExpected (q : Question) (id : ℕ) (r : Resolved × List ℕ) : Type 0 where
  pub value : r.0.value ≡ r.0.expected
  pub is_not_poisoned : r.0.is_poisoned ≡ false
  pub size : r.0.target_size ≡ r.0.local_size
  pub validates : r.0.validates ≡ validates q.kind q.subject
  pub remaining : r.1 ≡ id ∷ []

-- The same for a result. An error is that the type has no name, or the error of the value, or of the match.
abbrev pub IsExpected : TablePair → Question → ℕ → Result (Resolved × List ℕ) RelocationError → Type 0
IsExpected g q id (Ok r) = GivesTheExpected q id r
IsExpected g q id (Err e) =
    (e ≡ AnonymousType id) ⊎ ((value_of local_pointer g.local q.kind (local_match q.subject) ≡ Err e)
    ⊎ (match_of q.kind g.local (pointer_size g.target) g.target q.subject id ≡ Err e))

-- Against the program's own table, with its own type as the one candidate, a record gives the expected value.
abbrev pub OwnTableGivesTheExpected : Type 0
OwnTableGivesTheExpected =
    (g : TablePair) (words : List ℕ) (q : Question) → IsOwn g → question g.local g.target.order words ≡ Ok q
    → MatchesItself g q.kind (type_word words) q.subject
    → IsExpected g q (type_word words) (resolution g (type_word words ∷ []) words)

-- each element is a byte
abbrev pub AreBytes : List ℕ → Type 0
AreBytes code = All (λ byte. byte < 2 ^ 8) code

-- A patch that validates the instruction, and whose value and size are the expected ones, writes the bytes that are
-- there.
abbrev pub ExpectedKeepsTheCode : Type 0
ExpectedKeepsTheCode =
    (order : Endianness) (r : Resolved) (code : List ℕ) (at : ℕ) (p : Patched × List ℕ) → AreBytes code
    → r.value ≡ r.expected → r.is_poisoned ≡ false → r.target_size ≡ r.local_size → r.validates ≡ true
    → patched_code order r code at ≡ Ok p → p ≡ (Written, code)

-- Against the program's own table, with its own type as the one candidate, a record that validates its instruction
-- leaves the code as it is.
abbrev pub OwnTableKeepsTheCode : Type 0
OwnTableKeepsTheCode =
    (g : TablePair) (words code : List ℕ) (q : Question) (p : Patched × List ℕ) → AreBytes code → IsOwn g
    → question g.local g.target.order words ≡ Ok q → MatchesItself g q.kind (type_word words) q.subject
    → validates q.kind q.subject ≡ true
    → patch_of g code words (resolution g (type_word words ∷ []) words) ≡ Ok p → p ≡ (Written, code)

-- A record whose type is its one candidate in the target, and which validates its instruction, if it asks a question.
pub record IsOwnRecord (g : TablePair) (words : List ℕ) : Type 0 where
  pub alone : candidates_of g.local g.target (type_word words) ≡ type_word words ∷ []
  pub matches : (q : Question) → question g.local g.target.order words ≡ Ok q
      → MatchesItself g q.kind (type_word words) q.subject × (validates q.kind q.subject ≡ true)

-- Against the program's own table, such records leave the code of a section as it is, under both policies.
abbrev pub OwnTableKeepsTheSection : Type 0
OwnTableKeepsTheSection =
    (g : TablePair) (is_shared : Bool) (code : List ℕ) (records : List (List ℕ)) → AreBytes code → IsOwn g
    → ((i : ℕ) (words : List ℕ) → slice_get records i ≡ Some words → IsOwnRecord g words)
    → (relocated_section g is_shared code records).1 ≡ code

-- ---- a kernel with modules

-- The records of a section for a kernel without modules become what they become for its one table.
abbrev pub WithoutModules : Type 0
WithoutModules =
    (local kernel : Table) (is_shared : Bool) (code : List ℕ) (records : List (List ℕ))
    → relocated_section_among local (alone kernel) is_shared code records
    ≡ relocated_section (record { local = local; target = kernel }) is_shared code records

-- ---- reports

-- The reports of the records of a section have their outcomes, and go with the same code after them.
abbrev pub ReportsHaveOutcomes : Type 0
ReportsHaveOutcomes =
    (g : KernelSetting) (is_shared : Bool) (left : ℕ → Candidates) (code : List ℕ) (records : List (List ℕ))
    → let r = reported_section g is_shared left code records in
    (map (λ (x : Report). x.outcome) r.0, r.1)
    ≡ relocated_by g.local.order (resolution_among g.local g.targets) is_shared left code records

-- The records of two lists: those of the second go on with the candidates and the code that the first leaves.
abbrev pub RecordsInTurn : Type 0
RecordsInTurn =
    (g : KernelSetting) (is_shared : Bool) (left : ℕ → Candidates) (code : List ℕ) (first second : List (List ℕ))
    → let a = reported_section g is_shared left code first in
    let b = reported_section g is_shared (left_after_section g is_shared left first) a.1 second in
    reported_section g is_shared left code (first ++ second) ≡ (a.0 ++ b.0, b.1)
