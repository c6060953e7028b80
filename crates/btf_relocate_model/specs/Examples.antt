-- Worked examples of the definitions, computed. The values are libbpf's.
use Rattle.std.specs.Prelude.{◌≡◌, [], ◌∷◌, codes, Some, None, Ok, Err, refl, true, false}
use Rattle.btf_model.specs.declared.endianness.Endianness.TheVariants.{Little, Big}
use Rattle.btf_relocate_model.specs.Access.{access_of}
use Rattle.btf_relocate_model.specs.Instruction.{patched_code, sign_extended, fits_immediate}
use Rattle.btf_relocate_model.specs.Name.{essential}
use Rattle.btf_relocate_model.specs.declared.error.RelocationError.TheVariants.{Misaligned, NoInstruction, NoSecondSlot, NotImmediate, WrongImmediate}
use Rattle.btf_relocate_model.specs.declared.instruction.Patched.TheVariants.{Written, Poisoned}
use Rattle.btf_relocate_model.specs.declared.instruction.Slot.{Slot}
use Rattle.btf_relocate_model.specs.declared.resolved.Resolved.{Resolved}

-- ---- names

flavors :
    (essential (codes "s___v2") ≡ codes "s") × (essential (codes "a___b___c") ≡ codes "a___b")
    × (essential (codes "s") ≡ codes "s") × (essential (codes "s____v") ≡ codes "s____v")
    × (essential (codes "___v") ≡ codes "___v") × (essential (codes "s___") ≡ codes "s___")
    × (essential [] ≡ [])
flavors = (refl, refl, refl, refl, refl, refl, refl)

-- ---- access strings

accesses :
    (access_of (codes "0") ≡ Some (0 ∷ [])) × (access_of (codes "0:1:12") ≡ Some (0 ∷ 1 ∷ 12 ∷ []))
    × (access_of (codes "00:007") ≡ Some (0 ∷ 7 ∷ [])) × (access_of (codes "2147483647") ≡ Some (2147483647 ∷ []))
accesses = (refl, refl, refl, refl)

no_accesses :
    (access_of [] ≡ None) × (access_of (codes ":0") ≡ None) × (access_of (codes "0:") ≡ None)
    × (access_of (codes "0::1") ≡ None) × (access_of (codes "+1") ≡ None) × (access_of (codes "-1") ≡ None)
    × (access_of (codes "0 1") ≡ None) × (access_of (codes "2147483648") ≡ None)
no_accesses = (refl, refl, refl, refl, refl, refl, refl, refl)

-- ---- patches

-- an offset of 4 that becomes 8
moved : Resolved
moved = record {
  expected = 4;
  value = 8;
  is_matched = true;
  is_poisoned = false;
  validates = true;
  local_size = 4;
  target_size = 4;
  is_adjustable = true;
}

-- a field of 4 bytes that has 8 in the target
wider : Resolved
wider = record moved { expected = 0; target_size = 8 }

-- nothing in the target matches
missing : Resolved
missing = record moved { value = 0; is_matched = false; is_poisoned = true }

-- a load at 4, an addition of 4, a load of the 64-bit immediate 4
patches :
    (patched_code Little moved (0x61 ∷ 0x12 ∷ 4 ∷ 0 ∷ 0 ∷ 0 ∷ 0 ∷ 0 ∷ []) 0
    ≡ Ok (Written, 0x61 ∷ 0x12 ∷ 8 ∷ 0 ∷ 0 ∷ 0 ∷ 0 ∷ 0 ∷ []))
    × (patched_code Little moved (0x07 ∷ 1 ∷ 0 ∷ 0 ∷ 4 ∷ 0 ∷ 0 ∷ 0 ∷ []) 0
    ≡ Ok (Written, 0x07 ∷ 1 ∷ 0 ∷ 0 ∷ 8 ∷ 0 ∷ 0 ∷ 0 ∷ []))
    × (patched_code Big moved (0x18 ∷ 0x60 ∷ 0 ∷ 0 ∷ 0 ∷ 0 ∷ 0 ∷ 4 ∷ 0 ∷ 0 ∷ 0 ∷ 0 ∷ 0 ∷ 0 ∷ 0 ∷ 0 ∷ []) 0
    ≡ Ok (Written, 0x18 ∷ 0x60 ∷ 0 ∷ 0 ∷ 0 ∷ 0 ∷ 0 ∷ 8 ∷ 0 ∷ 0 ∷ 0 ∷ 0 ∷ 0 ∷ 0 ∷ 0 ∷ 0 ∷ []))
unfolding moved
patches = (refl, refl, refl)

-- the load of 4 bytes becomes a load of 8, and an atomic operation keeps its mode
resized :
    (patched_code Big wider (0x61 ∷ 0x12 ∷ 0 ∷ 0 ∷ 0 ∷ 0 ∷ 0 ∷ 0 ∷ []) 0
    ≡ Ok (Written, 0x79 ∷ 0x12 ∷ 0 ∷ 8 ∷ 0 ∷ 0 ∷ 0 ∷ 0 ∷ []))
    × (patched_code Little wider (0xc3 ∷ 0x12 ∷ 0 ∷ 0 ∷ 0 ∷ 0 ∷ 0 ∷ 0 ∷ []) 0
    ≡ Ok (Written, 0xdb ∷ 0x12 ∷ 8 ∷ 0 ∷ 0 ∷ 0 ∷ 0 ∷ 0 ∷ []))
unfolding wider moved
resized = (refl, refl)

-- a poisoned load
poison_written :
    patched_code Little missing (0x61 ∷ 0x12 ∷ 4 ∷ 0 ∷ 0 ∷ 0 ∷ 0 ∷ 0 ∷ []) 0
    ≡ Ok (Poisoned, 0x85 ∷ 0 ∷ 0 ∷ 0 ∷ 0x10 ∷ 0x23 ∷ 0xad ∷ 0x0b ∷ [])
unfolding missing moved
poison_written = refl

-- an offset within an instruction, after the code, and a load of 64 bits that is cut; a register as source
refused :
    (patched_code Little moved (0x61 ∷ 0x12 ∷ 4 ∷ 0 ∷ 0 ∷ 0 ∷ 0 ∷ 0 ∷ []) 4 ≡ Err Misaligned)
    × (patched_code Little moved (0x61 ∷ 0x12 ∷ 4 ∷ 0 ∷ 0 ∷ 0 ∷ 0 ∷ 0 ∷ []) 8 ≡ Err NoInstruction)
    × (patched_code Little moved (0x18 ∷ 0x01 ∷ 0 ∷ 0 ∷ 4 ∷ 0 ∷ 0 ∷ 0 ∷ []) 0 ≡ Err NoSecondSlot)
    × (patched_code Little moved (0xbf ∷ 0x21 ∷ 0 ∷ 0 ∷ 4 ∷ 0 ∷ 0 ∷ 0 ∷ []) 0 ≡ Err NotImmediate)
    × (patched_code Little moved (0x61 ∷ 0x12 ∷ 8 ∷ 0 ∷ 0 ∷ 0 ∷ 0 ∷ 0 ∷ []) 0 ≡ Err WrongImmediate)
unfolding moved
refused = (refl, refl, refl, refl, refl)

-- an assignment to a register, of 32 bits and of 64
move : Slot
move = record { opcode = 0xb4; registers = 0; offset = 0; immediate = 0 }

wide_move : Slot
wide_move = record move { opcode = 0xb7 }

-- the ends of what an immediate holds
immediates :
    (fits_immediate move 4294967295 ≡ true) × (fits_immediate move 4294967296 ≡ false)
    × (fits_immediate move 18446744073709551615 ≡ true) × (fits_immediate move 18446744071562067967 ≡ false)
    × (sign_extended 16 32767 ≡ 32767) × (sign_extended 16 32768 ≡ 18446744073709518848)
unfolding move
immediates = (refl, refl, refl, refl, refl, refl)

-- An instruction of 64 bits would load the size of 3 GiB, 0xc0000000, as a negative number.
wide_immediates :
    (fits_immediate wide_move 2147483647 ≡ true) × (fits_immediate wide_move 3221225472 ≡ false)
    × (fits_immediate wide_move 18446744073709551615 ≡ true)
    × (fits_immediate wide_move 18446744071562067967 ≡ false)
unfolding move wide_move
wide_immediates = (refl, refl, refl, refl)
