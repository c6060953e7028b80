-- An alignment is 1 to 8 bytes, and divides the size of a STRUCT or UNION.
use Rattle.std.proofs.Common.{◌≡◌, ℕ, ◌<◌, ◌≤◌, ◌%◌, ◌==◌, min, Bool, true, false, List, refl, subst, inl, inr, Some, None, Option, Result, Ok, Err, arith, if◌then◌else◌, slice_get}
use Rattle.btf_model.specs.Record.{Kind, Int, Ptr, Enum, Float, Enum64, Record, kind_of}
use Rattle.btf_model.specs.Refusal.{Refusal, UnexpectedBtfType}
use Rattle.btf_layout_model.specs.Alignment.{AlignedMember, Shape, Fixed, Unaligned, by_size, shape, shape_of, is_in_place, decided_by, composed, Aligns, InPlace, HasAlignment}

abbrev pub IsSmall : ℕ → Type 0
IsSmall n = (0 < n) × (n ≤ 8)

abbrev pub IsSmallAnswer : Result ℕ Refusal → Type 0
IsSmallAnswer (Ok n) = IsSmall n
IsSmallAnswer (Err refusal) = Unit {0}

abbrev IsSmallOption : Option (Result ℕ Refusal) → Type 0
IsSmallOption (Some answer) = IsSmallAnswer answer
IsSmallOption None = Unit {0}

abbrev IsSmallShape : Shape → Type 0
IsSmallShape (Fixed n) = IsSmall n
IsSmallShape s = Unit {0}

by_flag : (id size : ℕ) (b : Bool) → (size == 0) ≡ b → IsSmallShape (if b then Unaligned (UnexpectedBtfType id) else Fixed (min size 8))
by_flag id size true e = tt
by_flag id size false e = (grind arith, grind arith)

by_size_small : (id size : ℕ) → IsSmallShape (by_size id size)
by_size_small id size = by_flag id size (size == 0) refl

shape_small : (id : ℕ) (k : Option Kind) (r : Record) → IsSmallShape (shape id k r)
shape_small id (Some Int) r = by_size_small id r.third
shape_small id (Some Ptr) r = (omega arith, omega arith)
shape_small id (Some Enum) r = by_size_small id r.third
shape_small id (Some Float) r = by_size_small id r.third
shape_small id (Some Enum64) r = by_size_small id r.third
shape_small id k r = tt

shape_of_small : (id : ℕ) (o : Option Record) → IsSmallShape (shape_of id o)
shape_of_small id (Some r) = shape_small id (kind_of r.info) r
shape_of_small id None = tt

decided_small : (m : AlignedMember) (a : Result ℕ Refusal) → IsSmallOption (decided_by m a)
decided_small m (Ok n) = elim (is_in_place m n) as (λ b. IsSmallOption (if b then None else Some (Ok 1))) [ true ↦ tt | false ↦ (omega arith, omega arith) ]
decided_small m (Err refusal) = tt

composed_small : (size n : ℕ) → IsSmall n → IsSmall (composed size n)
composed_small size n small = elim (size % n == 0) as (λ b. IsSmall (if b then n else 1)) [ true ↦ small | false ↦ (omega arith, omega arith) ]

module _ (records : List Record) where
  mutual
    pub small : (id : ℕ) (a : Result ℕ Refusal) → Aligns records id a → IsSmallAnswer a
    small id a (Aligns.unaligned _ refusal is) = tt
    small id a (Aligns.fixed _ n is) = subst IsSmallShape is (shape_of_small id (slice_get records id))
    small id a (Aligns.same_as _ type _ is h) = small type a h
    small id a (Aligns.decided _ size largest before after m r _ is places h stops) = subst IsSmallOption stops (decided_small m r)
    small id a (Aligns.all _ size largest members is places) = composed_small size largest (small_places members largest places)

    pub small_places : (members : List AlignedMember) (largest : ℕ) → InPlace records members largest → IsSmall largest
    small_places members largest (InPlace.none) = (omega arith, omega arith)
    small_places members largest (InPlace.also m rest a k h goes places) =
        let one = small m.type (Ok a) h in
        let others = small_places rest k places in
        (omega arith, omega arith)

  pub small_alignment : (id n : ℕ) → HasAlignment records id (Ok n) → IsSmall n
  small_alignment id n (inl h) = small id (Ok n) h
  small_alignment id n (inr h) = cc
