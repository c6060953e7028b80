-- A relocation whose target is the program's own table.
use Rattle.std.proofs.Common.{◌≡◌, ℕ, suc, ◌+◌, ◌-◌, ◌*◌, ◌/◌, ◌%◌, ◌^◌, ◌<◌, ◌≤◌, List, [], ◌∷◌, ◌++◌, length, take, drop, Bool, true, false, Option, Some, None, Result, Ok, Err, refl, sym, ap, subst, ◌∙◌, arith, inl, inr}
use Rattle.std.specs.Prelude.{◌==◌, ◌&&◌, not, nat_lt, if◌then◌else◌, slice_index}
use Rattle.std.proofs.lemmas.Bool.{cases_lt}
use Rattle.std.proofs.lemmas.Bool.Decides.{nat_tests}
use Rattle.std.proofs.lemmas.List.{drop-drop, take-append-drop, get_or_past, length-take, length-drop}
use Rattle.std.proofs.lemmas.List.Elements.{All-get_or}
use Rattle.std.proofs.Math.Seq.{take-add, drop-cons}
use Rattle.btf_model.proofs.Words.{IsBytes, IsBytes-take, IsBytes-drop, half-half_of, word-word_of, word_of_below}
use Rattle.btf_model.specs.Blob.{slice, word_at}
use Rattle.btf_model.specs.Table.{Table}
use Rattle.btf_model.specs.Word.{half, half_of, word}
use Rattle.btf_model.specs.declared.endianness.Endianness.{Endianness}
use Rattle.btf_relocate_model.proofs.Exchanges.{size, read_by}
use Rattle.btf_relocate_model.proofs.OwnSubjects.{record_finds_itself}
use Rattle.btf_relocate_model.proofs.Patches.{arithmetic_by, slot_class}
use Rattle.btf_relocate_model.specs.Candidates.{is_nameless}
use Rattle.btf_relocate_model.specs.Instruction.{slot_at, slot_len, ld_imm64, slot_bytes, instruction_bytes, instruction_at, relocated, relocated_from, patched, patched_slot, patched_offset, patched_immediate, is_unexpected, sign_extended, wide_immediate, is_ld_imm64, narrow, fits_immediate, is_register_source, overwritten, written_back}
use Rattle.btf_relocate_model.specs.Laws.{IsOwn, IsExpected, AreBytes, OwnTableGivesTheExpected, ExpectedKeepsTheCode, OwnTableKeepsTheCode}
use Rattle.btf_relocate_model.specs.Path.{local_pointer}
use Rattle.btf_relocate_model.specs.Resolution.{TablePair, Question, Subject, is_local, local_match, local_id, match_of, value_of, bit_of, answer_of, answers, table_answers, candidate_answer, searched, answered, resolution, resolved_by, remaining, validates, instruction_word, type_word}
use Rattle.btf_relocate_model.specs.Section.{patch_of}
use Rattle.btf_relocate_model.specs.Types.{◌>>=◌, pointer_size}
use Rattle.btf_relocate_model.specs.declared.answer.Answer.{Answer}
use Rattle.btf_relocate_model.specs.declared.answer.Match.{Match}
use Rattle.btf_relocate_model.specs.declared.error.RelocationError.{RelocationError}
use Rattle.btf_relocate_model.specs.declared.error.RelocationError.TheVariants.{AnonymousType, WrongImmediate, OffsetTooBig, BadLdImm64, NotImmediate, ImmediateOverflow}
use Rattle.btf_relocate_model.specs.declared.field.Value.{Value}
use Rattle.btf_relocate_model.specs.declared.instruction.Instruction.{Instruction}
use Rattle.btf_relocate_model.specs.declared.instruction.Instruction.TheVariants.{Narrow, Wide}
use Rattle.btf_relocate_model.specs.declared.instruction.Patched.{Patched}
use Rattle.btf_relocate_model.specs.declared.instruction.Patched.TheVariants.{Written}
use Rattle.btf_relocate_model.specs.declared.instruction.Slot.{Slot}
use Rattle.btf_relocate_model.specs.declared.kind.RelocationKind.{RelocationKind}
use Rattle.btf_relocate_model.specs.declared.kind.RelocationKind.TheVariants.{TypeIdLocal}
use Rattle.btf_relocate_model.specs.declared.resolved.Resolved.{Resolved}

-- ---- values

-- a value in the target's table
own_value : (g : TablePair) → IsOwn g → (k : RelocationKind) (m : Match) → value_of (pointer_size g.target) g.target k m ≡ value_of local_pointer g.local k m
own_value g own k m =
    ap (λ (p : ℕ). value_of p g.target k m) own.pointer ∙ ap (λ (t : Table). value_of local_pointer t k m) own.table

-- the one candidate gives the value of the program's own table
own_answer : (g : TablePair) (k : RelocationKind) (id : ℕ) (s : Subject) (v : Value) → IsOwn g → match_of k g.local (pointer_size g.target) g.target s id ≡ Ok (Some (local_match s))
    → value_of local_pointer g.local k (local_match s) ≡ Ok v → candidate_answer g k s id ≡ Ok (Some (record { bit = bit_of (local_match s); value = v }))
own_answer g k id s v own finds is =
    ap (λ (m : Result (Option Match) RelocationError). m >>= answer_of (pointer_size g.target) g.target k) finds
    ∙ ap (λ (x : Result Value RelocationError). x >>= λ value. Ok (Some (record { bit = bit_of (local_match s); value = value }))) (own_value g own k (local_match s) ∙ is)

one_answer : (f : ℕ → Result (Option Answer) RelocationError) (id : ℕ) (a : Answer) → f id ≡ Ok (Some a) → answers f None (id ∷ []) ≡ Ok (Some a, id ∷ [])
one_answer f id a is = rw is

one_error : (f : ℕ → Result (Option Answer) RelocationError) (id : ℕ) (e : RelocationError) → f id ≡ Err e → answers f None (id ∷ []) ≡ Err e
one_error f id e is = rw is

-- what the one candidate has
abbrev matched : TablePair → Question → ℕ → Result (Option Match) RelocationError
matched g q id = match_of q.kind g.local (pointer_size g.target) g.target q.subject id

own_matched : (g : TablePair) (q : Question) (id : ℕ) (v : Value) (x : Result (Option Match) RelocationError) → IsOwn g → ((m : Option Match) → x ≡ Ok m → m ≡ Some (local_match q.subject)) → matched g q id ≡ x
    → value_of local_pointer g.local q.kind (local_match q.subject) ≡ Ok v → IsExpected g q id (searched g q.kind q.subject (id ∷ []) v)
own_matched g q id v (Ok m) own finds found is =
    let a : Answer = record { bit = bit_of (local_match q.subject); value = v } in
    let here : matched g q id ≡ Ok (Some (local_match q.subject)) = found ∙ ap {B = Result (Option Match) RelocationError} (λ (o : Option Match). Ok o) (finds m refl) in
    let e : table_answers (candidate_answer g q.kind q.subject) None (id ∷ []) ≡ Ok (Some a, id ∷ []) = one_answer (candidate_answer g q.kind q.subject) id a (own_answer g q.kind id q.subject v own here is) in
    subst (λ (found : Result (Option Answer × List ℕ) RelocationError). IsExpected g q id (found >>= λ f. Ok (resolved_by g.local g.target q.kind (validates q.kind q.subject) v f.0, remaining (id ∷ []) f.0 f.1))) (sym e)
    (record { value = refl; is_not_poisoned = refl; size = refl; validates = refl; remaining = refl })
own_matched g q id v (Err e) own finds found is =
    let none : table_answers (candidate_answer g q.kind q.subject) None (id ∷ []) ≡ Err e = one_error (candidate_answer g q.kind q.subject) id e (ap (λ (m : Result (Option Match) RelocationError). m >>= answer_of (pointer_size g.target) g.target q.kind) found) in
    subst (λ (found : Result (Option Answer × List ℕ) RelocationError). IsExpected g q id (found >>= λ f. Ok (resolved_by g.local g.target q.kind (validates q.kind q.subject) v f.0, remaining (id ∷ []) f.0 f.1))) (sym none)
    (inr (inr found))

own_searched : (g : TablePair) (q : Question) (id : ℕ) (x : Result Value RelocationError) → IsOwn g → ((m : Option Match) → matched g q id ≡ Ok m → m ≡ Some (local_match q.subject)) → value_of local_pointer g.local q.kind (local_match q.subject) ≡ x
    → IsExpected g q id (x >>= searched g q.kind q.subject (id ∷ []))
own_searched g q id (Ok v) own finds is = own_matched g q id v (matched g q id) own finds refl is
own_searched g q id (Err e) own finds is = inr (inl is)

local_unvalidated : (k : RelocationKind) (s : Subject) → is_local k ≡ true → false ≡ validates k s
local_unvalidated TypeIdLocal s is = refl
local_unvalidated k s is = absurd (cc)

own_answered : (g : TablePair) (q : Question) (id : ℕ) (local nameless : Bool) (rest : Result (Resolved × List ℕ) RelocationError) → (local ≡ true → false ≡ validates q.kind q.subject) → IsExpected g q id rest
    → IsExpected g q id (if local then Ok (local_id id, id ∷ []) else (if nameless then Err (AnonymousType id) else rest))
own_answered g q id true nameless rest unvalidated is = record { value = refl; is_not_poisoned = refl; size = refl; validates = unvalidated refl; remaining = refl }
own_answered g q id false true rest unvalidated is = inl refl
own_answered g q id false false rest unvalidated is = is

pub own_table_gives_the_expected : OwnTableGivesTheExpected
own_table_gives_the_expected g words q own asked plain =
    let id = type_word words in
    subst (λ (x : Result Question RelocationError). IsExpected g q id (x >>= answered g id (id ∷ []))) (sym asked)
    (own_answered g q id (is_local q.kind) (is_nameless q.name) (value_of local_pointer g.local q.kind (local_match q.subject) >>= searched g q.kind q.subject (id ∷ []))
    (local_unvalidated q.kind q.subject)
    (own_searched g q id (value_of local_pointer g.local q.kind (local_match q.subject)) own (λ m found. record_finds_itself g words q m own asked plain found) refl))

-- ---- one slot

pub record IsKept (r : Resolved) : Type 0 where
  value : r.value ≡ r.expected
  same : r.target_size ≡ r.local_size
  validates : r.validates ≡ true

-- a field that is not unexpected has the value
expected : (r : Resolved) (field : ℕ) → IsKept r → is_unexpected r field ≡ false → field ≡ r.value
expected r field kept is = tested r.validates field r.expected kept.validates is ∙ sym kept.value
  where
    tested : (v : Bool) (m n : ℕ) → v ≡ true → (v && not (m == n)) ≡ false → m ≡ n
    tested true m n on off = grind (arith, nat_tests)
    tested false m n on off = absurd (cc)

small_offset : (offset value : ℕ) → sign_extended 16 offset ≡ value → value ≤ 32767 → value ≡ offset
small_offset offset value is le = grind (arith, nat_tests)

small_immediate : (immediate value : ℕ) → immediate < 2 ^ 32 → sign_extended 32 immediate ≡ value → value % 2 ^ 32 ≡ immediate
small_immediate immediate value lt is = by_sign (nat_lt immediate (2 ^ 31)) is
  where
    by_sign : (low : Bool) → (if low then immediate else immediate + (2 ^ 64 - 2 ^ 32)) ≡ value → value % 2 ^ 32 ≡ immediate
    by_sign true e = omega arith
    by_sign false e = omega arith

low_half : (low high value : ℕ) → low < 2 ^ 32 → low + high * 2 ^ 32 ≡ value → value % 2 ^ 32 ≡ low
low_half low high value lt is = omega arith

high_half : (low high value : ℕ) → low < 2 ^ 32 → low + high * 2 ^ 32 ≡ value → value / 2 ^ 32 ≡ high
high_half low high value lt is = omega arith

same_ok : {A : Type 0} (x z : A) → ◌≡◌ {A = Result A RelocationError} (Ok x) (Ok z) → x ≡ z
same_ok x z is = cc

-- a load or store whose size stays
memory_by : (unexpected big same : Bool) (e f : RelocationError) (x z : Patched × Slot) (w : Result (Patched × Slot) RelocationError) → same ≡ true
    → (if unexpected then Err e else (if big then Err f else (if same then Ok x else w))) ≡ Ok z → (unexpected ≡ false) × (big ≡ false) × (z ≡ x)
memory_by true big same e f x z w kept is = absurd (cc)
memory_by false true same e f x z w kept is = absurd (cc)
memory_by false false true e f x z w kept is = (refl, refl, sym (same_ok x z is))
memory_by false false false e f x z w kept is = absurd (cc)

-- the load of a 64-bit immediate
wide_by : (bad unexpected : Bool) (e f : RelocationError) (x z : Patched × Instruction)
    → ◌≡◌ {A = Result (Patched × Instruction) RelocationError} (if bad then Err e else (if unexpected then Err f else Ok x)) (Ok z) → (unexpected ≡ false) × (z ≡ x)
wide_by true unexpected e f x z is = absurd (cc)
wide_by false true e f x z is = absurd (cc)
wide_by false false e f x z is = (refl, sym (same_ok x z is))

offset_kept : (r : Resolved) (s : Slot) (z : Patched × Slot) → IsKept r → patched_offset r s ≡ Ok z → z ≡ (Written, s)
offset_kept r s z kept is =
    let one = memory_by (is_unexpected r (sign_extended 16 s.offset)) (nat_lt 32767 r.value) (r.local_size == r.target_size) WrongImmediate OffsetTooBig (Written, record s { offset = r.value }) z _ (same_sizes r.local_size r.target_size (sym kept.same)) is in
    let fits : r.value ≤ 32767 = not_above r.value one.1 in
    let offset : r.value ≡ s.offset = small_offset s.offset r.value (expected r (sign_extended 16 s.offset) kept one.0) fits in
    one.2 ∙ ap {B = Patched × Slot} (λ (n : ℕ). (Written, record s { offset = n })) offset
  where
    same_sizes : (m n : ℕ) → m ≡ n → (m == n) ≡ true
    same_sizes m n e = grind (arith, nat_tests)

    not_above : (n : ℕ) → nat_lt 32767 n ≡ false → n ≤ 32767
    not_above n e = grind (arith, nat_tests)

immediate_kept : (r : Resolved) (s : Slot) (z : Patched × Slot) → IsKept r → s.immediate < 2 ^ 32 → patched_immediate r s ≡ Ok z → z ≡ (Written, s)
immediate_kept r s z kept small is =
    let one = arithmetic_by (is_register_source s) (is_unexpected r (sign_extended 32 s.immediate)) (not (fits_immediate s r.value)) NotImmediate WrongImmediate ImmediateOverflow (Written, record s { immediate = r.value % 2 ^ 32 }) z is in
    one.1 ∙ ap {B = Patched × Slot} (λ (n : ℕ). (Written, record s { immediate = n })) (small_immediate s.immediate r.value small (expected r (sign_extended 32 s.immediate) kept one.0))

slot_kept : (r : Resolved) (s : Slot) (z : Patched × Slot) → IsKept r → s.immediate < 2 ^ 32 → patched_slot r s ≡ Ok z → z ≡ (Written, s)
slot_kept r s z kept small is =
    elim (slot_class r s z is) [ inl memory ↦ offset_kept r s z kept memory.1 | inr arithmetic ↦ immediate_kept r s z kept small arithmetic.1 ]

-- ---- instructions

-- the immediate of the first slot is a word
IsSmall : Instruction → Type 0
IsSmall (Narrow s) = s.immediate < 2 ^ 32
IsSmall (Wide s t) = s.immediate < 2 ^ 32

narrow_kept : (r : Resolved) (s : Slot) (o : Result (Patched × Slot) RelocationError) (z : Patched × Instruction) → ((y : Patched × Slot) → o ≡ Ok y → y ≡ (Written, s)) → narrow o ≡ Ok z → z ≡ (Written, Narrow s)
narrow_kept r s (Ok y) z kept is = sym (same_ok (y.0, Narrow y.1) z is) ∙ ap {B = Patched × Instruction} (λ (x : Patched × Slot). (x.0, Narrow x.1)) (kept y refl)
narrow_kept r s (Err e) z kept is = absurd (cc)

instruction_kept : (order : Endianness) (r : Resolved) (i : Instruction) (z : Patched × Instruction) → IsKept r → IsSmall i → patched order r i ≡ Ok z → z ≡ (Written, i)
unfolding IsSmall
instruction_kept order r (Narrow s) z kept small is = narrow_kept r s (patched_slot r s) z (λ y e. slot_kept r s y kept small e) is
instruction_kept order r (Wide s t) z kept small is =
    let one = wide_by (not (is_ld_imm64 order s t)) (is_unexpected r (wide_immediate s t)) BadLdImm64 WrongImmediate (Written, Wide (record s { immediate = r.value % 2 ^ 32 }) (record t { immediate = r.value / 2 ^ 32 })) z is in
    let whole : s.immediate + t.immediate * 2 ^ 32 ≡ r.value = expected r (wide_immediate s t) kept one.0 in
    one.1
    ∙ ap {B = Patched × Instruction} (λ (n : ℕ). (Written, Wide (record s { immediate = n }) (record t { immediate = r.value / 2 ^ 32 }))) (low_half s.immediate t.immediate r.value small whole)
    ∙ ap {B = Patched × Instruction} (λ (n : ℕ). (Written, Wide s (record t { immediate = n }))) (high_half s.immediate t.immediate r.value small whole)

relocated_kept : (order : Endianness) (r : Resolved) (i : Instruction) (z : Patched × Instruction) → IsKept r → r.is_poisoned ≡ false → IsSmall i → relocated order r i ≡ Ok z → z ≡ (Written, i)
relocated_kept order r i z kept asked small is = instruction_kept order r i z kept small (rw asked at is)

-- ---- the code

bytes_of_all : (code : List ℕ) → AreBytes code → IsBytes code
bytes_of_all code bytes i =
    elim (cases_lt i (length code)) [
      | inl lt ↦ All-get_or (λ byte. byte < 2 ^ 8) code i 0 lt bytes
      | inr le ↦ rw (get_or_past code i 0 le) (omega arith)
    ]

two_of : (code : List ℕ) (at : ℕ) → at + 2 ≤ length code → slice_index code at ∷ slice_index code (at + 1) ∷ [] ≡ slice at 2 code
two_of code at fits =
    let first : drop at code ≡ slice_index code at ∷ drop (suc at) code = drop-cons code at 0 (omega arith) in
    let second : drop (suc at) code ≡ slice_index code (suc at) ∷ drop (suc (suc at)) code = drop-cons code (suc at) 0 (omega arith) in
    let one : at + 1 ≡ suc at = omega arith in
    rw (one, first, second) refl

slices_join : (at m n : ℕ) (code : List ℕ) → slice at m code ++ slice (at + m) n code ≡ slice at (m + n) code
slices_join at m n code =
    ap (λ (xs : List ℕ). slice at m code ++ take n xs) (sym (drop-drop m at code)) ∙ sym (take-add m n (drop at code))

reads_bytes : (order : Endianness) (code : List ℕ) (at : ℕ) → IsBytes code → at + slot_len ≤ length code → slot_bytes order (slot_at order code at) ≡ slice at slot_len code
reads_bytes order code at bytes fits =
    let two : half order (half_of order (slice (at + 2) 2 code)) ≡ slice (at + 2) 2 code = half-half_of order (slice (at + 2) 2 code) (omega (arith, length-take 2 (drop (at + 2) code), length-drop (at + 2) code)) (IsBytes-take 2 (drop (at + 2) code) (IsBytes-drop (at + 2) code bytes)) in
    let more : word order (word_at order (at + 4) code) ≡ slice (at + 4) 4 code = word-word_of order (slice (at + 4) 4 code) (omega (arith, length-take 4 (drop (at + 4) code), length-drop (at + 4) code)) (IsBytes-take 4 (drop (at + 4) code) (IsBytes-drop (at + 4) code bytes)) in
    ap (λ (xs : List ℕ). slice_index code at ∷ slice_index code (at + 1) ∷ (xs ++ word order (word_at order (at + 4) code))) two
    ∙ ap (λ (xs : List ℕ). slice_index code at ∷ slice_index code (at + 1) ∷ (slice (at + 2) 2 code ++ xs)) more
    ∙ ap (λ (xs : List ℕ). xs ++ (slice (at + 2) 2 code ++ slice (at + 4) 4 code)) (two_of code at (omega arith))
    ∙ joined_slices
  where
    joined_slices : slice at 2 code ++ (slice (at + 2) 2 code ++ slice (at + 4) 4 code) ≡ slice at 8 code
    joined_slices =
        let e : at + 2 + 2 ≡ at + 4 = omega arith in
        let inner : slice (at + 2) 2 code ++ slice (at + 4) 4 code ≡ slice (at + 2) 6 code = rw e at (slices_join (at + 2) 2 4 code) in
        ap (λ (xs : List ℕ). slice at 2 code ++ xs) inner ∙ slices_join at 2 6 code

overwritten_same : (at n : ℕ) (code : List ℕ) → at + n ≤ length code → overwritten at (slice at n code) code ≡ code
overwritten_same at n code fits =
    let len : length (slice at n code) ≡ n = omega (arith, length-take n (drop at code), length-drop at code) in
    ap (λ (m : ℕ). take at code ++ slice at n code ++ drop (at + m) code) len
    ∙ ap (λ (xs : List ℕ). xs ++ drop (at + n) code) (sym (take-add at n code)) ∙ take-append-drop (at + n) code

-- the instruction at a place has the bytes of the place
IsRead : Endianness → List ℕ → ℕ → Instruction → Type 0
IsRead order code at i = (instruction_bytes order i ≡ slice at (size i) code) × IsSmall i × (at + size i ≤ length code)

word_small : (order : Endianness) (code : List ℕ) (at : ℕ) → IsBytes code → word_at order at code < 2 ^ 32
word_small order code at bytes = word_of_below order (slice at 4 code) (IsBytes-take 4 (drop at code) (IsBytes-drop at code bytes))

read_narrow : (order : Endianness) (code : List ℕ) (at : ℕ) → IsBytes code → at + slot_len ≤ length code → IsRead order code at (Narrow (slot_at order code at))
unfolding IsRead IsSmall size
read_narrow order code at bytes fits = (reads_bytes order code at bytes fits, word_small order code (at + 4) bytes, fits)

read_wide : (order : Endianness) (code : List ℕ) (at : ℕ) → IsBytes code → at + 2 * slot_len ≤ length code → IsRead order code at (Wide (slot_at order code at) (slot_at order code (at + slot_len)))
unfolding IsRead IsSmall size
read_wide order code at bytes fits = (
  ap (λ (xs : List ℕ). xs ++ slot_bytes order (slot_at order code (at + slot_len))) (reads_bytes order code at bytes (omega arith))
      ∙ ap (λ (xs : List ℕ). slice at slot_len code ++ xs) (reads_bytes order code (at + slot_len) bytes (omega arith))
      ∙ slices_join at slot_len slot_len code,
  word_small order code (at + 4) bytes,
  fits,
)

reads : (order : Endianness) (code : List ℕ) (at : ℕ) (i : Instruction) → IsBytes code → instruction_at order code at ≡ Ok i → IsRead order code at i
reads order code at i bytes is =
    elim (read_by (not (at % slot_len == 0)) (nat_lt (length code) (at + slot_len)) (slice_index code at == ld_imm64) (nat_lt (length code) (at + 2 * slot_len))
    (Wide (slot_at order code at) (slot_at order code (at + slot_len))) (Narrow (slot_at order code at)) i is) [
      | inl wide ↦ subst (IsRead order code at) (sym wide.2) (read_wide order code at bytes (not_below (length code) (at + 2 * slot_len) wide.1))
      | inr narrow ↦ subst (IsRead order code at) (sym narrow.2) (read_narrow order code at bytes (not_below (length code) (at + slot_len) narrow.1))
    ]
  where
    not_below : (m n : ℕ) → nat_lt m n ≡ false → n ≤ m
    not_below m n is = grind (arith, nat_tests)

code_kept : (order : Endianness) (r : Resolved) (code : List ℕ) (at : ℕ) (o : Result Instruction RelocationError) (p : Patched × List ℕ) → IsBytes code → IsKept r → r.is_poisoned ≡ false → instruction_at order code at ≡ o
    → written_back order code at (relocated_from order r o) ≡ Ok p → p ≡ (Written, code)
unfolding IsRead
code_kept order r code at (Err e) p bytes kept asked read is = absurd (cc)
code_kept order r code at (Ok i) p bytes kept asked read is = by_result (relocated order r i) (λ z e. relocated_kept order r i z kept asked place.1 e) is
  where
    place : IsRead order code at i
    place = reads order code at i bytes read

    same : overwritten at (instruction_bytes order i) code ≡ code
    same = ap (λ (xs : List ℕ). overwritten at xs code) place.0 ∙ overwritten_same at (size i) code place.2

    by_result : (x : Result (Patched × Instruction) RelocationError) → ((z : Patched × Instruction) → x ≡ Ok z → z ≡ (Written, i)) → written_back order code at x ≡ Ok p → p ≡ (Written, code)
    by_result (Ok z) all e =
        sym (same_ok (z.0, overwritten at (instruction_bytes order z.1) code) p e)
        ∙ ap {B = Patched × List ℕ} (λ (y : Patched × Instruction). (y.0, overwritten at (instruction_bytes order y.1) code)) (all z refl)
        ∙ ap {B = Patched × List ℕ} (λ (c : List ℕ). (Written, c)) same
    by_result (Err f) all e = absurd (cc)

pub expected_keeps_the_code : ExpectedKeepsTheCode
expected_keeps_the_code order r code at p bytes value asked same validated is =
    code_kept order r code at (instruction_at order code at) p (bytes_of_all code bytes) (record { value = value; same = same; validates = validated }) asked refl is

-- ---- the whole record

by_result : (g : TablePair) (words code : List ℕ) (q : Question) (p : Patched × List ℕ) (x : Result (Resolved × List ℕ) RelocationError) → AreBytes code → IsExpected g q (type_word words) x → validates q.kind q.subject ≡ true
    → patch_of g code words x ≡ Ok p → p ≡ (Written, code)
by_result g words code q p (Ok r) bytes gives validated is =
    expected_keeps_the_code g.local.order r.0 code (instruction_word words) p bytes gives.value gives.is_not_poisoned gives.size (gives.validates ∙ validated) is
by_result g words code q p (Err e) bytes gives validated is = absurd (cc)

pub own_table_keeps_the_code : OwnTableKeepsTheCode
own_table_keeps_the_code g words code q p bytes own asked plain validated is =
    by_result g words code q p (resolution g (type_word words ∷ []) words) bytes (own_table_gives_the_expected g words q own asked plain) validated is
