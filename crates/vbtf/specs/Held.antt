-- The ownership of a handle.
use Rattle.std.specs.Prelude.{ℕ, zero, suc, List, [], ◌∷◌, ◌≡◌, refl, Bool, true, false}
use mathlib.Core.Path.{ap}
use Rattle.std.specs.Coded.{Coded, code_by, coded_list, coded_bool}
use base.Fraction.{Below, half, lo, hi, one, below}
use base.Fml.{Share, Fml, ftrue, fsep, flft}
use denote.RattleType.{RattleType}
use denote.RawPtr.{Ptr}
use denote.Struct.Lending.{lent_at}
use mir.Syntax.{Ty}
use Rattle.std.specs.contracts.impls.GlobalAllocator.TheImpl.{ghosts}
use Rattle.std.specs.Box.Ownership.{box_owns}
use Rattle.vbtf.specs.declared.opened.Opened.{Opened}
use Rattle.vbtf.specs.contracts.opened.Opened.{the_row}

-- A share as a list of bits, and back.
abbrev bits_of : Below → List Bool
bits_of half = []
bits_of (lo q) = false ∷ bits_of q
bits_of (hi q) = true ∷ bits_of q

abbrev of_bits : List Bool → Below
of_bits [] = half
of_bits (false ∷ bs) = lo (of_bits bs)
of_bits (true ∷ bs) = hi (of_bits bs)

abbrev bits_back : (q : Below) → of_bits (bits_of q) ≡ q
bits_back half = refl
bits_back (lo q) = ap lo (bits_back q)
bits_back (hi q) = ap hi (bits_back q)

abbrev share_bits : Share → List Bool
share_bits one = []
share_bits (below q) = true ∷ bits_of q

abbrev bits_share : List Bool → Share
bits_share [] = one
bits_share (b ∷ bs) = below (of_bits bs)

abbrev share_back : (q : Share) → bits_share (share_bits q) ≡ q
share_back one = refl
share_back (below q) = ap below (bits_back q)

-- How a share is stored.
abbrev pub coded_share : Coded Share
coded_share = code_by (List Bool) (coded_list coded_bool) share_bits bits_share share_back

-- A share of the token of a lifetime, and the value lent for that lifetime.
abbrev pub loan_owns : (R : RattleType) → Ptr → R.Denot → ℕ → Share → Fml
loan_owns R p x life share = fsep (flft (life ∷ []) share) (lent_at R p x (life ∷ []))

-- The right to free a block of the C library's heap.
abbrev pub may_free : Ty → Ptr → Fml
may_free = ghosts.dealloc_token (record { memory = record { seal = tt } })

-- What a handle owns, by its state: nothing, a box with its table, or a share of a loan of such a box.
abbrev pub held : Ptr → ℕ → Opened → ℕ → Share → Fml
held p zero o life share = ftrue
held p (suc zero) o life share = box_owns may_free the_row p o
held p (suc (suc n)) o life share = loan_owns the_row p o life share

-- How an opened table is stored.
abbrev pub coded_opened : Coded Opened
coded_opened = the_row.coded
