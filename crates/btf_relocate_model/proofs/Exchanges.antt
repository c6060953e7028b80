-- Two patches in either order, and two records of a section in either order.
use Rattle.std.proofs.Common.{◌≡◌, ℕ, ◌+◌, ◌*◌, ◌/◌, ◌%◌, ◌^◌, ◌<◌, ◌≤◌, List, [], ◌∷◌, ◌++◌, length, get_or, Bool, true, false, Result, Ok, Err, refl, sym, ap, ◌∙◌, arith, inl, inr}
use Rattle.std.proofs.Math.Path.{fun_ext}
use Rattle.std.specs.Prelude.{◌≢◌, ◌⊎◌, ◌==◌, not, nat_lt, if◌then◌else◌, slice_index}
use Rattle.std.proofs.lemmas.Bool.Decides.{nat_tests}
use Rattle.std.proofs.lemmas.List.{ext_get_or, same_lists, places, length-append, get_or-take, get_or-drop}
use Rattle.btf_model.proofs.Words.{length-word, length-half}
use Rattle.btf_model.specs.Blob.{slice}
use Rattle.btf_model.specs.Word.{half, half_of, word, word_of}
use Rattle.btf_model.specs.declared.endianness.Endianness.{Endianness}
use Rattle.btf_relocate_model.specs.Instruction.{slot_at, slot_len, slot_bytes, instruction_bytes, instruction_at, instruction_with, ld_imm64, relocated, relocated_from, patched_slot, poison, narrow, is_ld_imm64, is_unexpected, wide_immediate, overwritten, written_back}
use Rattle.btf_relocate_model.specs.Laws.{instruction_len, AreApart, ShareNone, PatchesCommute, NeighboursExchange}
use Rattle.btf_relocate_model.specs.Resolution.{TablePair, resolution, instruction_word, type_word}
use Rattle.btf_relocate_model.specs.Section as section
use Rattle.btf_relocate_model.specs.Section.{code_after, patched_outcome, patch_of}
use Rattle.btf_relocate_model.specs.declared.error.RelocationError.{RelocationError}
use Rattle.btf_relocate_model.specs.declared.error.RelocationError.TheVariants.{Misaligned, NoInstruction, NoSecondSlot, BadLdImm64, WrongImmediate}
use Rattle.btf_relocate_model.specs.declared.instruction.Instruction.{Instruction}
use Rattle.btf_relocate_model.specs.declared.instruction.Instruction.TheVariants.{Narrow, Wide}
use Rattle.btf_relocate_model.specs.declared.instruction.Patched.{Patched}
use Rattle.btf_relocate_model.specs.declared.instruction.Patched.TheVariants.{Written, Poisoned}
use Rattle.btf_relocate_model.specs.declared.instruction.Slot.{Slot}
use Rattle.btf_relocate_model.specs.declared.resolved.Resolved.{Resolved}

-- ---- code with other bytes

overwritten_len : (at : ℕ) (bytes code : List ℕ) → at + length bytes ≤ length code → length (overwritten at bytes code) ≡ length code
overwritten_len at bytes code fits = grind (arith, places)

-- a byte outside of what was written
outside : (at : ℕ) (bytes code : List ℕ) (i : ℕ) → at + length bytes ≤ length code → (i < at) ⊎ (at + length bytes ≤ i) → get_or (overwritten at bytes code) i 0 ≡ get_or code i 0
outside at bytes code i fits (inl below) = grind (arith, places)
outside at bytes code i fits (inr above) = grind (arith, places)

twice : (at : ℕ) (bytes : List ℕ) (other : ℕ) (more code : List ℕ) → at + length bytes ≤ other → other + length more ≤ length code
    → overwritten at bytes (overwritten other more code) ≡ overwritten other more (overwritten at bytes code)
twice at bytes other more code apart fits = same_lists _ _ (grind (arith, places)) (λ k d h. grind (arith, places))

-- ---- reading an instruction

-- n bytes from a place on are the same
SameBytes : List ℕ → List ℕ → ℕ → ℕ → Type 0
SameBytes code new at n = (k : ℕ) → k < n → get_or new (at + k) 0 ≡ get_or code (at + k) 0

slice_same : (code new : List ℕ) (at n i m : ℕ) → SameBytes code new at n → length new ≡ length code → i + m ≤ n → slice (at + i) m new ≡ slice (at + i) m code
unfolding SameBytes
slice_same code new at n i m same len fits =
    ext_get_or 0 (slice (at + i) m new) (slice (at + i) m code) (grind (arith, places)) (λ k h. one k (grind (arith, places)))
  where
    one : (k : ℕ) → k < m → get_or (slice (at + i) m new) k 0 ≡ get_or (slice (at + i) m code) k 0
    one k h =
        let e : get_or new (at + (i + k)) 0 ≡ get_or code (at + (i + k)) 0 = same (i + k) (omega arith) in
        let f : at + i + k ≡ at + (i + k) = omega arith in
        rw (get_or-take, get_or-take, get_or-drop, get_or-drop, f) e

four : (a b c d e f x y : ℕ) → a ≡ e → b ≡ f → c ≡ x → d ≡ y
    → ◌≡◌ {A = Slot} (record { opcode = a; registers = b; offset = c; immediate = d }) (record { opcode = e; registers = f; offset = x; immediate = y })
four a b c d e f x y p q r s = rw (p, q, r, s)

slot_same : (order : Endianness) (code new : List ℕ) (at : ℕ) → SameBytes code new at slot_len → length new ≡ length code → slot_at order new at ≡ slot_at order code at
unfolding SameBytes
slot_same order code new at same len =
    four _ _ _ _ _ _ _ _ first (same 1 (omega arith)) (ap (half_of order) (slice_same code new at slot_len 2 2 same len (omega arith))) (ap (word_of order) (slice_same code new at slot_len 4 4 same len (omega arith)))
  where
    first : get_or new at 0 ≡ get_or code at 0
    first = let e : get_or new (at + 0) 0 ≡ get_or code (at + 0) 0 = same 0 (omega arith) in let z : at + 0 ≡ at = omega arith in rw z at e

-- the bytes further on
later : (code new : List ℕ) (at n i m : ℕ) → SameBytes code new at n → i + m ≤ n → SameBytes code new (at + i) m
unfolding SameBytes
later code new at n i m same fits k h =
    let e : get_or new (at + (i + k)) 0 ≡ get_or code (at + (i + k)) 0 = same (i + k) (omega arith) in
    let f : at + i + k ≡ at + (i + k) = omega arith in
    rw f e

fewer : (code new : List ℕ) (at n m : ℕ) → SameBytes code new at n → m ≤ n → SameBytes code new at m
unfolding SameBytes
fewer code new at n m same le k h = same k (omega arith)

-- an instruction by its first slot
by_slot : (order : Endianness) (code new : List ℕ) (at : ℕ) (s : Slot) (wide : Bool) → (wide ≡ true → slot_at order new (at + slot_len) ≡ slot_at order code (at + slot_len)) → length new ≡ length code
    → ◌≡◌ {A = Result Instruction RelocationError}
    (if wide then (if nat_lt (length new) (at + 2 * slot_len) then Err NoSecondSlot else Ok (Wide s (slot_at order new (at + slot_len)))) else Ok (Narrow s))
    (if wide then (if nat_lt (length code) (at + 2 * slot_len) then Err NoSecondSlot else Ok (Wide s (slot_at order code (at + slot_len)))) else Ok (Narrow s))
by_slot order code new at s true second len =
    ap (λ (n : ℕ). if nat_lt n (at + 2 * slot_len) then Err NoSecondSlot else Ok (Wide s (slot_at order new (at + slot_len)))) len
    ∙ ap (λ (t : Slot). if nat_lt (length code) (at + 2 * slot_len) then Err NoSecondSlot else Ok (Wide s t)) (second refl)
by_slot order code new at s false second len = refl

len_least : (code : List ℕ) (at : ℕ) → slot_len ≤ instruction_len code at
len_least code at = grind (arith, nat_tests)

len_wide : (code : List ℕ) (at : ℕ) → (slice_index code at == ld_imm64) ≡ true → slot_len + slot_len ≤ instruction_len code at
len_wide code at is = grind (arith, nat_tests)

with_same : (order : Endianness) (code new : List ℕ) (at : ℕ) → SameBytes code new at (instruction_len code at) → length new ≡ length code
    → instruction_with order new at (slot_at order new at) ≡ instruction_with order code at (slot_at order code at)
with_same order code new at same len =
    ap (instruction_with order new at) (slot_same order code new at (fewer code new at (instruction_len code at) slot_len same (len_least code at)) len)
    ∙ by_slot order code new at (slot_at order code at) (slice_index code at == ld_imm64)
    (λ is. slot_same order code new (at + slot_len) (later code new at (instruction_len code at) slot_len slot_len same (len_wide code at is)) len) len

instruction_same : (order : Endianness) (code new : List ℕ) (at : ℕ) → SameBytes code new at (instruction_len code at) → length new ≡ length code → instruction_at order new at ≡ instruction_at order code at
instruction_same order code new at same len =
    ap (λ (n : ℕ). if not (at % slot_len == 0) then Err Misaligned else (if nat_lt n (at + slot_len) then Err NoInstruction else instruction_with order new at (slot_at order new at))) len
    ∙ ap (λ (x : Result Instruction RelocationError). if not (at % slot_len == 0) then Err Misaligned else (if nat_lt (length code) (at + slot_len) then Err NoInstruction else x)) (with_same order code new at same len)

-- ---- what an instruction becomes

unfoldable pub size : Instruction → ℕ
size (Narrow s) = slot_len
size (Wide s t) = 2 * slot_len

slot_size : (order : Endianness) (s : Slot) → length (slot_bytes order s) ≡ slot_len
slot_size order s = omega (arith, length-append (half order s.offset) (word order s.immediate), length-half order s.offset, length-word order s.immediate)

bytes_size : (order : Endianness) (i : Instruction) → length (instruction_bytes order i) ≡ size i
unfolding size
bytes_size order (Narrow s) = slot_size order s
bytes_size order (Wide s t) = omega (arith, length-append (slot_bytes order s) (slot_bytes order t), slot_size order s, slot_size order t)

same_ok : {A : Type 0} (x z : A) → ◌≡◌ {A = Result A RelocationError} (Ok x) (Ok z) → x ≡ z
same_ok x z is = cc

-- an instruction that is read, by the tests before it
pub read_by : (apart short wide cut : Bool) (w n i : Instruction)
    → ◌≡◌ {A = Result Instruction RelocationError} (if apart then Err Misaligned else (if short then Err NoInstruction else (if wide then (if cut then Err NoSecondSlot else Ok w) else Ok n))) (Ok i)
    → ((wide ≡ true) × (cut ≡ false) × (i ≡ w)) ⊎ ((wide ≡ false) × (short ≡ false) × (i ≡ n))
read_by true short wide cut w n i is = absurd (cc)
read_by false true wide cut w n i is = absurd (cc)
read_by false false true true w n i is = absurd (cc)
read_by false false true false w n i is = inl (refl, refl, sym (same_ok w i is))
read_by false false false cut w n i is = inr (refl, refl, sym (same_ok n i is))

found : (order : Endianness) (code : List ℕ) (at : ℕ) (i : Instruction) → instruction_at order code at ≡ Ok i → (at + size i ≤ length code) × (size i ≡ instruction_len code at)
unfolding size
found order code at i is =
    elim (read_by (not (at % slot_len == 0)) (nat_lt (length code) (at + slot_len)) (slice_index code at == ld_imm64) (nat_lt (length code) (at + 2 * slot_len))
    (Wide (slot_at order code at) (slot_at order code (at + slot_len))) (Narrow (slot_at order code at)) i is) [
      | inl wide ↦
          let len : size i ≡ 2 * slot_len = ap size wide.2 in
          (let fits : at + 2 * slot_len ≤ length code = not_below (length code) (at + 2 * slot_len) wide.1 in omega arith, len ∙ len_if (slice_index code at == ld_imm64) true wide.0)
      | inr narrow ↦
          let len : size i ≡ slot_len = ap size narrow.2 in
          (let fits : at + slot_len ≤ length code = not_below (length code) (at + slot_len) narrow.1 in omega arith, len ∙ len_if (slice_index code at == ld_imm64) false narrow.0)
    ]
  where
    not_below : (m n : ℕ) → nat_lt m n ≡ false → n ≤ m
    not_below m n is = grind (arith, nat_tests)

    len_if : (test value : Bool) → test ≡ value → (if value then 2 * slot_len else slot_len) ≡ (if test then 2 * slot_len else slot_len)
    len_if test value is = ap (λ (b : Bool). if b then 2 * slot_len else slot_len) (sym is)

narrow_size : (asked : Bool) (o : Result (Patched × Slot) RelocationError) (p : Patched × Instruction) → (if asked then Ok (Poisoned, Narrow poison) else narrow o) ≡ Ok p → size p.1 ≡ slot_len
unfolding size
narrow_size true o p is = ap (λ (q : Patched × Instruction). size q.1) (sym (same_ok (Poisoned, Narrow poison) p is))
narrow_size false (Ok q) p is = ap (λ (q : Patched × Instruction). size q.1) (sym (same_ok (q.0, Narrow q.1) p is))
narrow_size false (Err e) p is = absurd (cc)

wide_size : (asked bad unexpected : Bool) (s t : Slot) (p : Patched × Instruction)
    → ◌≡◌ {A = Result (Patched × Instruction) RelocationError} (if asked then Ok (Poisoned, Wide poison poison) else (if bad then Err BadLdImm64 else (if unexpected then Err WrongImmediate else Ok (Written, Wide s t)))) (Ok p) → size p.1 ≡ 2 * slot_len
unfolding size
wide_size true bad unexpected s t p is = ap (λ (q : Patched × Instruction). size q.1) (sym (same_ok (Poisoned, Wide poison poison) p is))
wide_size false true unexpected s t p is = absurd (cc)
wide_size false false true s t p is = absurd (cc)
wide_size false false false s t p is = ap (λ (q : Patched × Instruction). size q.1) (sym (same_ok (Written, Wide s t) p is))

relocated_size : (order : Endianness) (r : Resolved) (i : Instruction) (p : Patched × Instruction) → relocated order r i ≡ Ok p → size p.1 ≡ size i
unfolding size
relocated_size order r (Narrow s) p is = narrow_size r.is_poisoned (patched_slot r s) p is
relocated_size order r (Wide s t) p is = wide_size r.is_poisoned (not (is_ld_imm64 order s t)) (is_unexpected r (wide_immediate s t)) (record s { immediate = r.value % 2 ^ 32 }) (record t { immediate = r.value / 2 ^ 32 }) p is

-- the bytes that are written have the place of the instruction
wrote_by : (order : Endianness) (r : Resolved) (code : List ℕ) (at : ℕ) (o : Result Instruction RelocationError) (p : Patched × Instruction) → instruction_at order code at ≡ o → relocated_from order r o ≡ Ok p
    → (at + length (instruction_bytes order p.1) ≤ length code) × (length (instruction_bytes order p.1) ≡ instruction_len code at)
wrote_by order r code at (Ok i) p read is =
    let place = found order code at i read in
    let same : length (instruction_bytes order p.1) ≡ size i = bytes_size order p.1 ∙ relocated_size order r i p is in
    (let fits : at + size i ≤ length code = place.0 in omega arith, same ∙ place.1)
wrote_by order r code at (Err e) p read is = absurd (cc)

wrote : (order : Endianness) (r : Resolved) (code : List ℕ) (at : ℕ) (p : Patched × Instruction) → relocated_from order r (instruction_at order code at) ≡ Ok p
    → (at + length (instruction_bytes order p.1) ≤ length code) × (length (instruction_bytes order p.1) ≡ instruction_len code at)
wrote order r code at p is = wrote_by order r code at (instruction_at order code at) p refl is

-- ---- two patches

other_bytes : (at : ℕ) (bytes code : List ℕ) (other : ℕ) → at + length bytes ≤ length code → length bytes ≡ instruction_len code at → AreApart code at other
    → SameBytes code (overwritten at bytes code) other (instruction_len code other)
unfolding SameBytes
other_bytes at bytes code other fits len (inl before) k h = outside at bytes code (other + k) fits (inr (omega arith))
other_bytes at bytes code other fits len (inr after) k h = outside at bytes code (other + k) fits (inl (omega arith))

-- the instruction at the other place is read as before
still_read : (order : Endianness) (r : Resolved) (code : List ℕ) (at other : ℕ) (x : Result (Patched × Instruction) RelocationError) → relocated_from order r (instruction_at order code at) ≡ x → AreApart code at other
    → instruction_at order (code_after code (written_back order code at x)) other ≡ instruction_at order code other
still_read order r code at other (Ok p) is apart =
    let place = wrote order r code at p is in
    let bytes = instruction_bytes order p.1 in
    instruction_same order code (overwritten at bytes code) other (other_bytes at bytes code other place.0 place.1 apart) (overwritten_len at bytes code place.0)
still_read order r code at other (Err e) is apart = refl

one_outcome : (order : Endianness) (code new : List ℕ) (at : ℕ) (x : Result (Patched × Instruction) RelocationError) → patched_outcome (written_back order new at x) ≡ patched_outcome (written_back order code at x)
one_outcome order code new at (Ok p) = refl
one_outcome order code new at (Err e) = refl

one_code : (order : Endianness) (r s : Resolved) (code : List ℕ) (at other : ℕ) (x y : Result (Patched × Instruction) RelocationError)
    → relocated_from order r (instruction_at order code at) ≡ x → relocated_from order s (instruction_at order code other) ≡ y → AreApart code at other
    → code_after (code_after code (written_back order code at x)) (written_back order (code_after code (written_back order code at x)) other y)
    ≡ code_after (code_after code (written_back order code other y)) (written_back order (code_after code (written_back order code other y)) at x)
one_code order r s code at other (Err e) y first second apart = refl
one_code order r s code at other (Ok p) (Err e) first second apart = refl
one_code order r s code at other (Ok p) (Ok q) first second (inl before) =
    let a = wrote order r code at p first in
    let b = wrote order s code other q second in
    sym (twice at (instruction_bytes order p.1) other (instruction_bytes order q.1) code (let len = a.1 in omega arith) b.0)
one_code order r s code at other (Ok p) (Ok q) first second (inr after) =
    let a = wrote order r code at p first in
    let b = wrote order s code other q second in
    twice other (instruction_bytes order q.1) at (instruction_bytes order p.1) code (let len = b.1 in omega arith) a.0

exchanged : (code : List ℕ) (at other : ℕ) → AreApart code at other → AreApart code other at
exchanged code at other (inl before) = inr before
exchanged code at other (inr after) = inl after

pub patches_commute : PatchesCommute
patches_commute order r s code at other apart =
    let x = relocated_from order r (instruction_at order code at) in
    let y = relocated_from order s (instruction_at order code other) in
    let first = code_after code (written_back order code at x) in
    let second = code_after code (written_back order code other y) in
    let read : instruction_at order first other ≡ instruction_at order code other = still_read order r code at other x refl apart in
    let back : instruction_at order second at ≡ instruction_at order code at = still_read order s code other at y refl (exchanged code at other apart) in (
      ap (λ (i : Result Instruction RelocationError). patched_outcome (written_back order first other (relocated_from order s i))) read ∙ one_outcome order code first other y,
      ap (λ (i : Result Instruction RelocationError). code_after first (written_back order first other (relocated_from order s i))) read
          ∙ one_code order r s code at other x y refl refl apart
          ∙ sym (ap (λ (i : Result Instruction RelocationError). code_after second (written_back order second at (relocated_from order r i))) back),
    )

-- ---- two records

abbrev Outcome : Type 0
Outcome = Result Patched RelocationError

-- the patches of two records
records_commute : (g : TablePair) (code words others : List ℕ) (q r : Result (Resolved × List ℕ) RelocationError) → AreApart code (instruction_word words) (instruction_word others)
    → (patched_outcome (patch_of g (code_after code (patch_of g code words q)) others r) ≡ patched_outcome (patch_of g code others r))
    × (code_after (code_after code (patch_of g code words q)) (patch_of g (code_after code (patch_of g code words q)) others r)
    ≡ code_after (code_after code (patch_of g code others r)) (patch_of g (code_after code (patch_of g code others r)) words q))
records_commute g code words others (Ok q) (Ok r) apart = patches_commute g.local.order q.0 r.0 code (instruction_word words) (instruction_word others) apart
records_commute g code words others (Ok q) (Err e) apart = (refl, refl)
records_commute g code words others (Err e) r apart = (refl, refl)

-- ---- candidates

differ : (m n : ℕ) → m ≢ n → (m == n) ≡ false
differ m n apart = grind (arith, nat_tests)

-- candidates of another type stay
other_left : (is_shared : Bool) (words others : List ℕ) (q : Result (Resolved × List ℕ) RelocationError) (left : ℕ → List ℕ) → ShareNone is_shared words others
    → section.left_after is_shared words q left (type_word others) ≡ left (type_word others)
other_left false words others q left none = refl
other_left true words others q left (inl shares) = absurd (cc)
other_left true words others q left (inr apart) = rw (differ (type_word words) (type_word others) apart)

-- two tests that do not both hold, in either order
either : {A : Type 0} (p q : Bool) (a b c : A) → (p ≡ true → q ≡ true → ⊥) → (if p then a else (if q then b else c)) ≡ (if q then b else (if p then a else c))
either true true a b c apart = absurd (apart refl refl)
either true false a b c apart = refl
either false true a b c apart = refl
either false false a b c apart = refl

-- the changes for two types, in either order
lefts_same : (is_shared : Bool) (words others : List ℕ) (q r : Result (Resolved × List ℕ) RelocationError) (left : ℕ → List ℕ) → ShareNone is_shared words others
    → section.left_after is_shared others r (section.left_after is_shared words q left) ≡ section.left_after is_shared words q (section.left_after is_shared others r left)
lefts_same false words others q r left none = refl
lefts_same true words others q r left (inl shares) = absurd (cc)
lefts_same true words others q r left (inr apart) = fun_ext (λ x. at_type x)
  where
    m : ℕ
    m = type_word words

    n : ℕ
    n = type_word others

    both : (x : ℕ) → (n == x) ≡ true → (m == x) ≡ true → ⊥
    both x e f = apart (grind (arith, nat_tests))

    at_type : (x : ℕ) → section.left_after true others r (section.left_after true words q left) x ≡ section.left_after true words q (section.left_after true others r left) x
    at_type x =
        rw (differ m n apart, differ n m (λ e. apart (sym e))) (either (n == x) (m == x) (section.candidates_after (left n) r) (section.candidates_after (left m) q) (left x) (both x))

-- ---- two records at the beginning
abbrev Exchange : List Outcome × List ℕ → List Outcome × List ℕ → List Outcome → Type 0
Exchange a b os = (o p : Outcome) × (more : List Outcome) × (a.0 ≡ os ++ o ∷ p ∷ more) × (b.0 ≡ os ++ p ∷ o ∷ more) × (a.1 ≡ b.1)

then_second : (g : TablePair) (is_shared : Bool) (after : List (List ℕ)) (others : List ℕ) (first : List ℕ) (left : ℕ → List ℕ) (r : Result (Resolved × List ℕ) RelocationError) → List Outcome × List ℕ
then_second g is_shared after others first left r =
    section.then_outcomes (patched_outcome (patch_of g first others r)) (section.section_relocated_from g is_shared (section.left_after is_shared others r left) (code_after first (patch_of g first others r)) after)

-- the first two records, where the second has the candidates that it had before the first
as_before : (g : TablePair) (is_shared : Bool) (left : ℕ → List ℕ) (code : List ℕ) (after : List (List ℕ)) (words others : List ℕ) → ShareNone is_shared words others
    → section.section_relocated_from g is_shared left code (words ∷ others ∷ after)
    ≡ section.then_outcomes (patched_outcome (patch_of g code words (resolution g (left (type_word words)) words)))
    (then_second g is_shared after others (code_after code (patch_of g code words (resolution g (left (type_word words)) words))) (section.left_after is_shared words (resolution g (left (type_word words)) words) left)
    (resolution g (left (type_word others)) others))
unfolding then_second
as_before g is_shared left code after words others none =
    let q = resolution g (left (type_word words)) words in
    let p = patch_of g code words q in
    ap (λ (cs : List ℕ). section.then_outcomes (patched_outcome p) (then_second g is_shared after others (code_after code p) (section.left_after is_shared words q left) (resolution g cs others)))
    (other_left is_shared words others q left none)

first_two : (g : TablePair) (is_shared : Bool) (left : ℕ → List ℕ) (code : List ℕ) (after : List (List ℕ)) (words others : List ℕ) → ShareNone is_shared words others → AreApart code (instruction_word words) (instruction_word others)
    → Exchange (section.section_relocated_from g is_shared left code (words ∷ others ∷ after)) (section.section_relocated_from g is_shared left code (others ∷ words ∷ after)) []
unfolding then_second
first_two g is_shared left code after words others none apart =
    let q = resolution g (left (type_word words)) words in
    let r = resolution g (left (type_word others)) others in
    let there = records_commute g code words others q r apart in
    let back = records_commute g code others words r q (exchanged code (instruction_word words) (instruction_word others) apart) in
    let o = patched_outcome (patch_of g code words q) in
    let p = patched_outcome (patch_of g code others r) in
    let first = code_after code (patch_of g code words q) in
    let second = code_after code (patch_of g code others r) in
    let end = code_after first (patch_of g first others r) in
    let end_back = code_after second (patch_of g second words q) in
    let lefts = section.left_after is_shared others r (section.left_after is_shared words q left) in
    let lefts_back = section.left_after is_shared words q (section.left_after is_shared others r left) in
    let rest = section.section_relocated_from g is_shared lefts end after in
    let one = as_before g is_shared left code after words others none in
    let two = as_before g is_shared left code after others words (turned is_shared words others none) in
    let same : section.section_relocated_from g is_shared lefts_back end_back after ≡ rest =
    ap (λ (l : ℕ → List ℕ). section.section_relocated_from g is_shared l end_back after) (sym (lefts_same is_shared words others q r left none))
    ∙ ap (λ (c : List ℕ). section.section_relocated_from g is_shared lefts c after) (sym there.1) in (
      o,
      p,
      rest.0,
      ap (λ (x : List Outcome × List ℕ). x.0) one ∙ ap (λ (x : Outcome). o ∷ x ∷ rest.0) there.0,
      ap (λ (x : List Outcome × List ℕ). x.0) two ∙ ap (λ (x : Outcome). p ∷ x ∷ (section.section_relocated_from g is_shared lefts_back end_back after).0) back.0 ∙ ap (λ (x : List Outcome × List ℕ). p ∷ o ∷ x.0) same,
      ap (λ (x : List Outcome × List ℕ). x.1) one ∙ sym (ap (λ (x : List Outcome × List ℕ). x.1) two ∙ ap (λ (x : List Outcome × List ℕ). x.1) same),
    )
  where
    turned : (b : Bool) (m n : List ℕ) → ShareNone b m n → ShareNone b n m
    turned b m n (inl none) = inl none
    turned b m n (inr apart) = inr (λ e. apart (sym e))

-- after the records before them
after_all : (g : TablePair) (is_shared : Bool) (left : ℕ → List ℕ) (code : List ℕ) (before after : List (List ℕ)) (words others : List ℕ) → ShareNone is_shared words others
    → AreApart (section.section_relocated_from g is_shared left code before).1 (instruction_word words) (instruction_word others)
    → Exchange (section.section_relocated_from g is_shared left code (before ++ words ∷ others ∷ after)) (section.section_relocated_from g is_shared left code (before ++ others ∷ words ∷ after)) (section.section_relocated_from g is_shared left code before).0
after_all g is_shared left code [] after words others none apart = first_two g is_shared left code after words others none apart
after_all g is_shared left code (one ∷ before) after words others none apart =
    let r = resolution g (left (type_word one)) one in
    let p = patch_of g code one r in
    let rest = after_all g is_shared (section.left_after is_shared one r left) (code_after code p) before after words others none apart in
    (rest.0, rest.1, rest.2, ap (λ (os : List Outcome). patched_outcome p ∷ os) rest.3, ap (λ (os : List Outcome). patched_outcome p ∷ os) rest.4, rest.5)

pub neighbours_exchange : NeighboursExchange
neighbours_exchange g is_shared code before after words others none apart =
    after_all g is_shared (section.candidates_of g.local g.target) code before after words others none apart
