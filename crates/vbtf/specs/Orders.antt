-- The byte orders that C names.
-- Source: the kernel's BTF documentation, "BTF Type and String Encoding", `magic`.
use Rattle.std.specs.Prelude.{ℕ, zero, suc, List, [], ◌∷◌, ◌==◌, if◌then◌else◌}
use Rattle.std.specs.List.{starts_with}
use Rattle.btf_model.specs.declared.endianness.Endianness.{Endianness}
use Rattle.btf_model.specs.declared.endianness.Endianness.TheVariants.{Little, Big}

-- The byte order of a number: 0 for the little one, 1 for the big one.
abbrev pub order_named : ℕ → Endianness
order_named zero = Little
order_named (suc n) = Big

-- The number of a byte order.
abbrev pub order_number : Endianness → ℕ
order_number Little = 0
order_number Big = 1

-- The order in which the first two bytes are the magic 0xeb9f: big if they are eb and 9f, otherwise little.
abbrev pub order_by_magic : List ℕ → Endianness
order_by_magic bytes = if starts_with ◌==◌ bytes (235 ∷ 159 ∷ []) then Big else Little

-- The byte order of a number for these bytes: as above, and 2 for the order of their magic.
abbrev pub order_chosen : ℕ → List ℕ → Endianness
order_chosen (suc (suc n)) bytes = order_by_magic bytes
order_chosen n bytes = order_named n
