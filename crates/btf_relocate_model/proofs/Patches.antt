-- What a patch changes.
use Rattle.std.proofs.Common.{◌≡◌, ◌≢◌, ℕ, ◌+◌, ◌-◌, ◌*◌, ◌/◌, ◌%◌, ◌^◌, ◌<◌, ◌≤◌, Bool, true, false, Option, Some, None, Result, Ok, Err, refl, sym, ap, subst, ◌∙◌, arith, inl, inr}
use Rattle.std.specs.Prelude.{◌⊎◌, ◌==◌, not, nat_lt, nat_le, ◌||◌, if◌then◌else◌}
use Rattle.std.proofs.lemmas.Bool.Decides.{nat_tests}
use Rattle.btf_model.specs.declared.endianness.Endianness.{Endianness}
use Rattle.btf_relocate_model.specs.Instruction.{patched_immediate, patched_offset, patched_slot, patched_wide, patched, narrow, poison, poisoned, is_unexpected, access_size, is_ld_imm64, wide_immediate, sign_extended, width_bits, with_size, fits_immediate, is_register_source}
use Rattle.btf_relocate_model.specs.Laws.{ImmediateHas, SlotHas, SlotKeeps, HasValue, Keeps, WrittenReadsBack, WrittenKeepsTheRest, PoisonHasAReason}
use Rattle.btf_relocate_model.specs.declared.error.RelocationError.{RelocationError}
use Rattle.btf_relocate_model.specs.declared.error.RelocationError.TheVariants.{NotImmediate, WrongImmediate, ImmediateOverflow, OffsetTooBig, WrongAccessSize, BadLdImm64, NotPatchable}
use Rattle.btf_relocate_model.specs.declared.instruction.Instruction.{Instruction}
use Rattle.btf_relocate_model.specs.declared.instruction.Instruction.TheVariants.{Narrow, Wide}
use Rattle.btf_relocate_model.specs.declared.instruction.Slot.{Slot}
use Rattle.btf_relocate_model.specs.declared.instruction.Patched.{Patched}
use Rattle.btf_relocate_model.specs.declared.instruction.Patched.TheVariants.{Written, Poisoned}
use Rattle.btf_relocate_model.specs.declared.resolved.Resolved.{Resolved}

-- two results of a choice are one
same_ok : {A : Type 0} (x z : A) → ◌≡◌ {A = Result A RelocationError} (Ok x) (Ok z) → x ≡ z
same_ok x z is = cc

-- the sizes of a load or store
bits_small : (size bits : ℕ) → width_bits size ≡ Some bits → bits ≤ 3
bits_small size bits is = grind (arith, nat_tests)

-- the outcomes of a load or store that is not refused
outcome : (unexpected big same fixed wrong : Bool) (e f g : RelocationError) (x p z : Patched × Slot) (w : Result (Patched × Slot) RelocationError)
    → (if unexpected then Err e else (if big then Err f else (if same then Ok x else (if fixed then Ok p else (if wrong then Err g else w))))) ≡ Ok z → (x ≡ z) ⊎ ((p ≡ z) ⊎ (w ≡ Ok z))
outcome true big same fixed wrong e f g x p z w is = absurd (cc)
outcome false true same fixed wrong e f g x p z w is = absurd (cc)
outcome false false true fixed wrong e f g x p z w is = inl (same_ok x z is)
outcome false false false true wrong e f g x p z w is = inr (inl (same_ok p z is))
outcome false false false false true e f g x p z w is = absurd (cc)
outcome false false false false false e f g x p z w is = inr (inr is)

is_written : Patched → Type 0
is_written Written = Unit {0}
is_written Poisoned = ⊥

-- a poisoned instruction is not a written one
no_poison : (s u : Slot) → ◌≡◌ {A = Patched × Slot} (Poisoned, s) (Written, u) → ⊥
unfolding is_written
no_poison s u is = subst is_written (sym (ap (λ (q : Patched × Slot). q.0) is)) tt

-- what a size makes of a load or store
resized : (r : Resolved) (s u : Slot) (o : Option ℕ) → ((bits : ℕ) → o ≡ Some bits → bits ≤ 3) → with_size r s o ≡ Ok (Written, u)
    → (u ≡ record s { offset = r.value }) ⊎ ((bits : ℕ) × (bits ≤ 3) × (u ≡ record s { opcode = s.opcode - s.opcode / 8 % 4 * 8 + bits * 8; offset = r.value }))
resized r s u None small is = absurd (cc)
resized r s u (Some bits) small is = inr (bits, small bits refl, sym (ap (λ (p : Patched × Slot). p.1) (same_ok _ _ is)))

-- what is written into a load or store: the offset, with the old opcode or with other size bits
pub offset_result : (r : Resolved) (s u : Slot) → patched_offset r s ≡ Ok (Written, u)
    → (u ≡ record s { offset = r.value }) ⊎ ((bits : ℕ) × (bits ≤ 3) × (u ≡ record s { opcode = s.opcode - s.opcode / 8 % 4 * 8 + bits * 8; offset = r.value }))
offset_result r s u is =
    let z : Patched × Slot = (Written, u) in
    let x : Patched × Slot = (Written, record s { offset = r.value }) in
    let p : Patched × Slot = (Poisoned, poison) in
    let cases : (x ≡ z) ⊎ ((p ≡ z) ⊎ (with_size r s (width_bits r.target_size) ≡ Ok z)) = outcome (is_unexpected r (sign_extended 16 s.offset)) (nat_lt 32767 r.value) (r.local_size == r.target_size) (not r.is_adjustable) (not (access_size s == r.local_size)) WrongImmediate OffsetTooBig WrongAccessSize x p z (with_size r s (width_bits r.target_size)) is in
    elim cases [
      | inl same ↦ inl (sym (ap (λ (q : Patched × Slot). q.1) same))
      | inr (inl other) ↦ absurd (no_poison poison u other)
      | inr (inr other) ↦ resized r s u (width_bits r.target_size) (bits_small r.target_size) other
    ]

pub offset_written : (r : Resolved) (s u : Slot) → patched_offset r s ≡ Ok (Written, u) → u.offset ≡ r.value
offset_written r s u is =
    elim (offset_result r s u is) [ inl same ↦ ap (λ (t : Slot). t.offset) same | inr other ↦ ap (λ (t : Slot). t.offset) other.2 ]

pub immediate_written : (r : Resolved) (s u : Slot) → patched_immediate r s ≡ Ok (Written, u) → ImmediateHas r.value u
immediate_written r s u is = grind (arith, nat_tests)

-- an arithmetic instruction that is not refused
pub arithmetic_by : (register unexpected big : Bool) (e f h : RelocationError) (x z : Patched × Slot)
    → ◌≡◌ {A = Result (Patched × Slot) RelocationError} (if register then Err e else (if unexpected then Err f else (if big then Err h else Ok x))) (Ok z) → (unexpected ≡ false) × (z ≡ x)
arithmetic_by true unexpected big e f h x z is = absurd (cc)
arithmetic_by false true big e f h x z is = absurd (cc)
arithmetic_by false false true e f h x z is = absurd (cc)
arithmetic_by false false false e f h x z is = (refl, sym (same_ok x z is))

pub immediate_keeps : (r : Resolved) (s u : Slot) → patched_immediate r s ≡ Ok (Written, u) → SlotKeeps s u
immediate_keeps r s u is =
    let x : Patched × Slot = (Written, record s { immediate = r.value % 2 ^ 32 }) in
    let z : Patched × Slot = (Written, u) in
    let same : z ≡ x = (arithmetic_by (is_register_source s) (is_unexpected r (sign_extended 32 s.immediate)) (not (fits_immediate s r.value)) NotImmediate WrongImmediate ImmediateOverflow x z is).1 in
    record {
      registers = ap (λ (q : Patched × Slot). q.1.registers) same;
      class = ap (λ (q : Patched × Slot). q.1.opcode % 8) same;
      mode = ap (λ (q : Patched × Slot). q.1.opcode / 32) same;
      others = inr (ap (λ (q : Patched × Slot). q.1.offset) same);
    }

-- other size bits leave the class and the mode
class_stays : (n bits : ℕ) → bits ≤ 3 → (n - n / 8 % 4 * 8 + bits * 8) % 8 ≡ n % 8
class_stays n bits small = omega arith

mode_stays : (n bits : ℕ) → bits ≤ 3 → (n - n / 8 % 4 * 8 + bits * 8) / 32 ≡ n / 32
mode_stays n bits small = omega arith

pub offset_keeps : (r : Resolved) (s u : Slot) → patched_offset r s ≡ Ok (Written, u) → SlotKeeps s u
offset_keeps r s u is =
    elim (offset_result r s u is) [
      | inl same ↦ record {
        registers = ap (λ (t : Slot). t.registers) same;
        class = ap (λ (t : Slot). t.opcode % 8) same;
        mode = ap (λ (t : Slot). t.opcode / 32) same;
        others = inl (ap (λ (t : Slot). t.immediate) same);
      }
      | inr other ↦ record {
        registers = ap (λ (t : Slot). t.registers) other.2;
        class = ap (λ (t : Slot). t.opcode % 8) other.2 ∙ class_stays s.opcode other.0 other.1;
        mode = ap (λ (t : Slot). t.opcode / 32) other.2 ∙ mode_stays s.opcode other.0 other.1;
        others = inl (ap (λ (t : Slot). t.immediate) other.2);
      }
    ]

-- ---- one slot

-- the outcomes of a slot by its class
by_class : (other memory jump : Bool) (e f : RelocationError) (m a : Result (Patched × Slot) RelocationError) (z : Patched × Slot)
    → (if other then Err e else (if memory then m else (if jump then Err f else a))) ≡ Ok z → ((memory ≡ true) × (m ≡ Ok z)) ⊎ ((memory ≡ false) × (a ≡ Ok z))
by_class true memory jump e f m a z is = absurd (cc)
by_class false true jump e f m a z is = inl (refl, is)
by_class false false true e f m a z is = absurd (cc)
by_class false false false e f m a z is = inr (refl, is)

-- the class of a slot that was patched, and by which rule
pub slot_class : (r : Resolved) (s : Slot) (z : Patched × Slot) → patched_slot r s ≡ Ok z
    → ((nat_le (s.opcode % 8) 3 ≡ true) × (patched_offset r s ≡ Ok z)) ⊎ ((nat_le (s.opcode % 8) 3 ≡ false) × (patched_immediate r s ≡ Ok z))
slot_class r s z is =
    by_class (s.opcode % 8 == 0) (nat_le (s.opcode % 8) 3) ((s.opcode % 8 == 5) || (s.opcode % 8 == 6)) BadLdImm64 NotPatchable (patched_offset r s) (patched_immediate r s) z is

pub slot_keeps : (r : Resolved) (s u : Slot) → patched_slot r s ≡ Ok (Written, u) → SlotKeeps s u
slot_keeps r s u is =
    elim (slot_class r s (Written, u) is) [ inl memory ↦ offset_keeps r s u memory.1 | inr arithmetic ↦ immediate_keeps r s u arithmetic.1 ]

pub slot_written : (r : Resolved) (s u : Slot) → patched_slot r s ≡ Ok (Written, u) → SlotHas r.value u
slot_written r s u is =
    let keeps : SlotKeeps s u = slot_keeps r s u is in
    elim (slot_class r s (Written, u) is) [
      | inl memory ↦ inl (let low : s.opcode % 8 ≤ 3 = grind (arith, nat_tests) in omega (arith, keeps.class), offset_written r s u memory.1)
      | inr arithmetic ↦ inr (let high : 3 < s.opcode % 8 = grind (arith, nat_tests) in omega (arith, keeps.class), immediate_written r s u arithmetic.1)
    ]

-- ---- instructions

-- an outcome of a slot, as that of an instruction
pub narrowed : (o : Result (Patched × Slot) RelocationError) (p : Patched) (j : Instruction) → narrow o ≡ Ok (p, j) → (u : Slot) × (o ≡ Ok (p, u)) × (j ≡ Narrow u)
narrowed (Err e) p j is = absurd (cc)
narrowed (Ok q) p j is =
    let same : ◌≡◌ {A = Patched × Instruction} (q.0, Narrow q.1) (p, j) = same_instruction (q.0, Narrow q.1) (p, j) is in
    (q.1, ap (λ (x : Patched). Ok (x, q.1)) (ap (λ (x : Patched × Instruction). x.0) same), sym (ap (λ (x : Patched × Instruction). x.1) same))
  where
    same_instruction : (x z : Patched × Instruction) → ◌≡◌ {A = Result (Patched × Instruction) RelocationError} (Ok x) (Ok z) → x ≡ z
    same_instruction x z is = cc

-- what the load of a 64-bit immediate becomes, if it is not refused
wide_outcome : (bad unexpected : Bool) (e f : RelocationError) (x z : Patched × Instruction) → (if bad then Err e else (if unexpected then Err f else Ok x)) ≡ Ok z → x ≡ z
wide_outcome true unexpected e f x z is = absurd (cc)
wide_outcome false true e f x z is = absurd (cc)
wide_outcome false false e f x z is = cc

pub wide_result : (order : Endianness) (r : Resolved) (s t : Slot) (z : Patched × Instruction) → patched_wide order r s t ≡ Ok z
    → ◌≡◌ {A = Patched × Instruction} (Written, Wide (record s { immediate = r.value % 2 ^ 32 }) (record t { immediate = r.value / 2 ^ 32 })) z
wide_result order r s t z is =
    wide_outcome (not (is_ld_imm64 order s t)) (is_unexpected r (wide_immediate s t)) BadLdImm64 WrongImmediate (Written, Wide (record s { immediate = r.value % 2 ^ 32 }) (record t { immediate = r.value / 2 ^ 32 })) z is

-- a written instruction is not a poisoned one
not_written : (i j : Instruction) → ◌≡◌ {A = Patched × Instruction} (Poisoned, i) (Written, j) → ⊥
unfolding is_written
not_written i j is = subst is_written (sym (ap (λ (q : Patched × Instruction). q.0) is)) tt

-- an instruction that was written was patched
is_patched : (asked : Bool) (i j : Instruction) (o : Result (Patched × Instruction) RelocationError) → (if asked then Ok (Poisoned, i) else o) ≡ Ok (Written, j) → o ≡ Ok (Written, j)
is_patched true i j o is = absurd (not_written i j cc)
is_patched false i j o is = is

halves : (n : ℕ) → n % 2 ^ 32 + n / 2 ^ 32 * 2 ^ 32 ≡ n
halves n = omega arith

patched_has : (order : Endianness) (r : Resolved) (i j : Instruction) → patched order r i ≡ Ok (Written, j) → HasValue r.value j
patched_has order r (Narrow s) j is =
    let one = narrowed (patched_slot r s) Written j is in
    subst (HasValue r.value) (sym one.2) (slot_written r s one.0 one.1)
patched_has order r (Wide s t) j is =
    subst (HasValue r.value) (ap (λ (q : Patched × Instruction). q.1) (wide_result order r s t (Written, j) is)) (halves r.value)

patched_keeps : (order : Endianness) (r : Resolved) (i j : Instruction) → patched order r i ≡ Ok (Written, j) → Keeps i j
patched_keeps order r (Narrow s) j is =
    let one = narrowed (patched_slot r s) Written j is in
    subst (Keeps (Narrow s)) (sym one.2) (slot_keeps r s one.0 one.1)
patched_keeps order r (Wide s t) j is =
    subst (Keeps (Wide s t)) (ap (λ (q : Patched × Instruction). q.1) (wide_result order r s t (Written, j) is)) (
      record { registers = refl; class = refl; mode = refl; others = inr refl },
      record { registers = refl; class = refl; mode = refl; others = inr refl },
    )

pub reads_back : WrittenReadsBack
reads_back order r i j is = patched_has order r i j (is_patched r.is_poisoned (poisoned i) j (patched order r i) is)

pub keeps_the_rest : WrittenKeepsTheRest
keeps_the_rest order r i j is = patched_keeps order r i j (is_patched r.is_poisoned (poisoned i) j (patched order r i) is)

-- ---- poison

-- the outcomes of a load or store that is not refused, with the tests for poison
poison_outcome : (unexpected big same fixed wrong : Bool) (e f g : RelocationError) (x p z : Patched × Slot) (w : Result (Patched × Slot) RelocationError)
    → (if unexpected then Err e else (if big then Err f else (if same then Ok x else (if fixed then Ok p else (if wrong then Err g else w))))) ≡ Ok z
    → ((same ≡ false) × (fixed ≡ true)) ⊎ ((x ≡ z) ⊎ (w ≡ Ok z))
poison_outcome true big same fixed wrong e f g x p z w is = absurd (cc)
poison_outcome false true same fixed wrong e f g x p z w is = absurd (cc)
poison_outcome false false true fixed wrong e f g x p z w is = inr (inl (same_ok x z is))
poison_outcome false false false true wrong e f g x p z w is = inl (refl, refl)
poison_outcome false false false false true e f g x p z w is = absurd (cc)
poison_outcome false false false false false e f g x p z w is = inr (inr is)

-- the poison of a choice is the one that it has
poison_is : (unexpected big same fixed wrong : Bool) (e f g : RelocationError) (x p z : Patched × Slot) (w : Result (Patched × Slot) RelocationError)
    → (if unexpected then Err e else (if big then Err f else (if same then Ok x else (if fixed then Ok p else (if wrong then Err g else w))))) ≡ Ok z → same ≡ false → fixed ≡ true → p ≡ z
poison_is true big same fixed wrong e f g x p z w is apart stays = absurd (cc)
poison_is false true same fixed wrong e f g x p z w is apart stays = absurd (cc)
poison_is false false true fixed wrong e f g x p z w is apart stays = absurd (cc)
poison_is false false false true wrong e f g x p z w is apart stays = same_ok p z is
poison_is false false false false wrong e f g x p z w is apart stays = absurd (cc)

negated : (b : Bool) → not b ≡ true → b ≡ false
negated true is = absurd (cc)
negated false is = refl

-- sizes never poison
no_poison_sized : (r : Resolved) (s u : Slot) (o : Option ℕ) → with_size r s o ≡ Ok (Poisoned, u) → ⊥
no_poison_sized r s u None is = cc
no_poison_sized r s u (Some bits) is = no_poison u (record s { opcode = s.opcode - s.opcode / 8 % 4 * 8 + bits * 8; offset = r.value }) (sym (same_ok _ _ is))

offset_poisoned : (r : Resolved) (s u : Slot) → patched_offset r s ≡ Ok (Poisoned, u) → (u ≡ poison) × (r.local_size ≢ r.target_size) × (r.is_adjustable ≡ false)
offset_poisoned r s u is =
    let z : Patched × Slot = (Poisoned, u) in
    let x : Patched × Slot = (Written, record s { offset = r.value }) in
    let p : Patched × Slot = (Poisoned, poison) in
    let w : Result (Patched × Slot) RelocationError = with_size r s (width_bits r.target_size) in
    let unexpected = is_unexpected r (sign_extended 16 s.offset) in
    let big = nat_lt 32767 r.value in
    let same = r.local_size == r.target_size in
    let fixed = not r.is_adjustable in
    let wrong = not (access_size s == r.local_size) in
    let cases : ((same ≡ false) × (fixed ≡ true)) ⊎ ((x ≡ z) ⊎ (w ≡ Ok z)) = poison_outcome unexpected big same fixed wrong WrongImmediate OffsetTooBig WrongAccessSize x p z w is in
    elim cases [
      | inl reason ↦ (
        sym (ap (λ (q : Patched × Slot). q.1) (poison_is unexpected big same fixed wrong WrongImmediate OffsetTooBig WrongAccessSize x p z w is reason.0 reason.1)),
        sizes_apart r.local_size r.target_size reason.0,
        negated r.is_adjustable reason.1,
      )
      | inr (inl written) ↦ absurd (no_poison u (record s { offset = r.value }) (sym written))
      | inr (inr sized) ↦ absurd (no_poison_sized r s u (width_bits r.target_size) sized)
    ]
  where
    sizes_apart : (m n : ℕ) → (m == n) ≡ false → m ≢ n
    sizes_apart m n is = grind (arith, nat_tests)

immediate_not_poisoned : (r : Resolved) (s u : Slot) → patched_immediate r s ≡ Ok (Poisoned, u) → ⊥
immediate_not_poisoned r s u is = grind (arith, nat_tests)

slot_poisoned : (r : Resolved) (s u : Slot) → patched_slot r s ≡ Ok (Poisoned, u) → (u ≡ poison) × (r.local_size ≢ r.target_size) × (r.is_adjustable ≡ false)
slot_poisoned r s u is =
    elim (slot_class r s (Poisoned, u) is) [ inl memory ↦ offset_poisoned r s u memory.1 | inr arithmetic ↦ absurd (immediate_not_poisoned r s u arithmetic.1) ]

patched_poisoned : (order : Endianness) (r : Resolved) (i j : Instruction) → patched order r i ≡ Ok (Poisoned, j) → (j ≡ poisoned i) × (r.local_size ≢ r.target_size) × (r.is_adjustable ≡ false)
patched_poisoned order r (Narrow s) j is =
    let one = narrowed (patched_slot r s) Poisoned j is in
    let reason = slot_poisoned r s one.0 one.1 in (one.2 ∙ ap (λ (t : Slot). Narrow t) reason.0, reason.1, reason.2)
patched_poisoned order r (Wide s t) j is = absurd (not_written j (Wide (record s { immediate = r.value % 2 ^ 32 }) (record t { immediate = r.value / 2 ^ 32 })) (sym (wide_result order r s t (Poisoned, j) is)))

-- by whether the record asks for poison
poisoned_by : (asked : Bool) (p j : Instruction) (o : Result (Patched × Instruction) RelocationError) → (if asked then Ok (Poisoned, p) else o) ≡ Ok (Poisoned, j)
    → ((asked ≡ true) × (j ≡ p)) ⊎ (o ≡ Ok (Poisoned, j))
poisoned_by true p j o is = inl (refl, sym (ap (λ (q : Patched × Instruction). q.1) (same_pair (Poisoned, p) (Poisoned, j) is)))
  where
    same_pair : (x z : Patched × Instruction) → ◌≡◌ {A = Result (Patched × Instruction) RelocationError} (Ok x) (Ok z) → x ≡ z
    same_pair x z is = cc
poisoned_by false p j o is = inr is

pub has_a_reason : PoisonHasAReason
has_a_reason order r i j is =
    elim (poisoned_by r.is_poisoned (poisoned i) j (patched order r i) is) [
      | inl asked ↦ (asked.1, inl asked.0)
      | inr sized ↦ let reason = patched_poisoned order r i j sized in (reason.0, inr (reason.1, reason.2))
    ]
