-- Worked examples of the definitions, computed. The alignments are those of libbpf's `btf__align_of`.
use Rattle.std.specs.Prelude.{◌≡◌, ℕ, ◌==◌, true, false, List, [], ◌∷◌, Ok, Err, IsTrue, refl}
use Rattle.std.proofs.Common.{inl, inr, sym, subst}
use Rattle.std.proofs.lemmas.Bool.{eqb-true}
use Rattle.btf_model.specs.Made.{int, ptr, array, struct, typedef}
use Rattle.btf_model.specs.Record.{Record, unknown}
use Rattle.btf_model.specs.Refusal.{UnknownBtfType, UnexpectedBtfType, MaximumTypeDepthReached}
use Rattle.btf_layout_model.specs.Alignment.{AlignedMember, aligned_members_in, is_in_place, Aligns, Needs, HasAlignment}
use Rattle.btf_layout_model.specs.Alignment.Aligns.{unaligned, fixed, same_as, decided, all}
use Rattle.btf_layout_model.specs.Alignment.InPlace.{none, also}

-- A table: 1 is an INT of 4 bytes, 2 an INT of 1 byte, 3 a PTR, 4 an ARRAY of 5 of type 2, 5 a TYPEDEF of type 1,
-- 6 an INT of 16 bytes, 7 an INT of 3 bytes, 8 an INT of 0 bytes.
abbrev number_types : List Record
number_types = unknown ∷ int 0 4 32 ∷ int 0 1 8 ∷ ptr 0 0 ∷ array 0 2 1 5 ∷ typedef 1 1 ∷ int 0 16 128 ∷ int 0 3 24 ∷ int 0 0 0 ∷ []

-- an INT is aligned to its size, up to 8 bytes; the size need not be a power of two
sizes : Aligns number_types 1 (Ok 4) × Aligns number_types 6 (Ok 8) × Aligns number_types 7 (Ok 3)
sizes = (fixed 1 4 refl, fixed 6 8 refl, fixed 7 3 refl)

pointer : Aligns number_types 3 (Ok 8)
pointer = fixed 3 8 refl

-- an ARRAY is aligned as its elements, and a TYPEDEF as its type
same : Aligns number_types 4 (Ok 1) × Aligns number_types 5 (Ok 4)
same = (same_as 4 2 (Ok 1) refl (fixed 2 1 refl), same_as 5 1 (Ok 4) refl (fixed 1 4 refl))

-- void, a size of 0, and an id that the table does not have
without : Aligns number_types 0 (Err (UnexpectedBtfType 0)) × Aligns number_types 8 (Err (UnexpectedBtfType 8)) × Aligns number_types 9 (Err (UnknownBtfType 9))
without = (unaligned 0 (UnexpectedBtfType 0) refl, unaligned 8 (UnexpectedBtfType 8) refl, unaligned 9 (UnknownBtfType 9) refl)

-- the members of `struct { char a; int b; }`: their bits count from the beginning
members : aligned_members_in 0x04000002 (1 ∷ 2 ∷ 0 ∷ 2 ∷ 1 ∷ 32 ∷ []) ≡ record { type = 2; bit = 0; bits = 0 } ∷ record { type = 1; bit = 32; bits = 0 } ∷ []
members = refl

-- under the kind flag: 3 bits at bit 9
bit_field : aligned_members_in 0x84000001 (1 ∷ 1 ∷ 0x03000009 ∷ []) ≡ record { type = 1; bit = 9; bits = 3 } ∷ []
bit_field = refl

-- an INT of 4 bytes at bit 8 is not in its place, but a bit-field is at any bit
places : (is_in_place (record { type = 1; bit = 64; bits = 0 }) 4 ≡ true) × (is_in_place (record { type = 1; bit = 8; bits = 0 }) 4 ≡ false) × (is_in_place (record { type = 1; bit = 9; bits = 3 }) 4 ≡ true)
places = (refl, refl, refl)

-- A table: 1 is `int`, 2 is `char`, 3 is `struct { char a; int b; }`. 4 is the same struct, packed, in 5 bytes. 5 is
-- `struct { int a; char b; }`, packed, in 5 bytes. 6 contains itself, and 7 is an array of 6. 8 is 4 with a third member
-- of a type that the table does not have. 9 has only such a member. 10 has a bit-field of type 1 at bit 9.
abbrev structs : List Record
structs =
    unknown ∷ int 0 4 32 ∷ int 0 1 8 ∷ struct 0 8 2 (0 ∷ 2 ∷ 0 ∷ 0 ∷ 1 ∷ 32 ∷ []) ∷ struct 0 5 2 (0 ∷ 2 ∷ 0 ∷ 0 ∷ 1 ∷ 8 ∷ [])
    ∷ struct 0 5 2 (0 ∷ 1 ∷ 0 ∷ 0 ∷ 2 ∷ 32 ∷ []) ∷ struct 0 4 1 (0 ∷ 6 ∷ 0 ∷ []) ∷ array 0 6 1 2
    ∷ struct 0 9 3 (0 ∷ 2 ∷ 0 ∷ 0 ∷ 1 ∷ 8 ∷ 0 ∷ 99 ∷ 40 ∷ []) ∷ struct 0 4 1 (0 ∷ 99 ∷ 0 ∷ [])
    ∷ record { name = 0; info = 0x84000001; third = 4; tail = 0 ∷ 1 ∷ 0x03000009 ∷ [] } ∷ []

member : ℕ → ℕ → AlignedMember
member type bit = record { type = type; bit = bit; bits = 0 }

-- the alignments of types 1 and 2
abbrev four : Aligns structs 1 (Ok 4)
four = fixed 1 4 refl

abbrev one : Aligns structs 2 (Ok 1)
one = fixed 2 1 refl

largest_member : Aligns structs 3 (Ok 4)
unfolding member
largest_member =
    all 3 8 4 (member 2 0 ∷ member 1 32 ∷ []) refl
    (also (member 2 0) (member 1 32 ∷ []) 1 4 one refl (also (member 1 32) [] 4 1 four refl none))

-- the second member decides: it is not in its place
packed_by_a_member : Aligns structs 4 (Ok 1)
unfolding member
packed_by_a_member =
    decided 4 5 1 (member 2 0 ∷ []) [] (member 1 8) (Ok 4) (Ok 1) refl (also (member 2 0) [] 1 1 one refl none) four refl

packed_by_its_size : Aligns structs 5 (Ok 1)
unfolding member
packed_by_its_size =
    all 5 5 4 (member 1 0 ∷ member 2 32 ∷ []) refl
    (also (member 1 0) (member 2 32 ∷ []) 4 1 four refl (also (member 2 32) [] 1 1 one refl none))

-- members after the one that decides are not read
later_members : Aligns structs 8 (Ok 1)
unfolding member
later_members =
    decided 8 9 1 (member 2 0 ∷ []) (member 99 40 ∷ []) (member 1 8) (Ok 4) (Ok 1) refl
    (also (member 2 0) [] 1 1 one refl none) four refl

error_of_a_member : Aligns structs 9 (Err (UnknownBtfType 99))
unfolding member
error_of_a_member =
    decided 9 4 1 [] [] (member 99 0) (Err (UnknownBtfType 99)) (Err (UnknownBtfType 99)) refl none
    (unaligned 99 (UnknownBtfType 99) refl) refl

-- a bit-field counts for the largest alignment
bit_field_counts : Aligns structs 10 (Ok 4)
bit_field_counts =
    all 10 4 4 (record { type = 1; bit = 9; bits = 3 } ∷ []) refl
    (also (record { type = 1; bit = 9; bits = 3 }) [] 4 1 four refl none)

-- 6 needs itself, and 7 needs 6
needs_itself : Needs structs 6 6 × Needs structs 7 6
unfolding member
needs_itself = (inr (4, 1, [], [], member 6 0, refl, none, refl), inl refl)

-- 6 waits for itself, so it has no alignment
contains_itself : HasAlignment structs 6 (Err (MaximumTypeDepthReached 6))
unfolding member
contains_itself =
    let needs : Needs structs 6 6 = inr (4, 1, [], [], member 6 0, refl, none, refl) in
    let of_six : (at : ℕ) → IsTrue (at == 6) → Needs structs at 6 =
    λ at waits. subst (λ (x : ℕ). Needs structs x 6) (sym (eqb-true at 6 waits)) needs in
    inr ((λ id. id == 6, refl, λ at waits. (6, of_six at waits, refl)), refl)
