use Rattle.std.proofs.Common.{◌≡◌, ◌≢◌, ◌<◌, ◌∙◌, ℕ, zero, suc, List, [], ◌∷◌, slice_index_or, bit_and, refl, ap, arith}
use Rattle.std.proofs.lemmas.List.{get_or-replicate}
use Rattle.std.proofs.lemmas.Nat.{and_mask}
use Rattle.btf_view.proofs.record.kept_third.Goals as goal

-- the bits that reading retains of the third word, by the number of the kind
abbrev bits : List ℕ
bits = 4294967295 ∷ 4294967295 ∷ 4294967295 ∷ 0 ∷ 4294967295 ∷ 4294967295 ∷ 4294967295 ∷ 0 ∷ 4294967295 ∷ 4294967295 ∷ 4294967295 ∷ 4294967295 ∷ 4294967295 ∷ 4294967295 ∷ 4294967295 ∷ 4294967295 ∷ 4294967295 ∷ 4294967295 ∷ 4294967295 ∷ 4294967295 ∷ 4294967295 ∷ 4294967295 ∷ 4294967295 ∷ 4294967295 ∷ 4294967295 ∷ 4294967295 ∷ 4294967295 ∷ 4294967295 ∷ 4294967295 ∷ 4294967295 ∷ 4294967295 ∷ 4294967295 ∷ []

-- all bits of most kinds
all_bits : (n : ℕ) → n < 32 → n ≢ 3 → n ≢ 7 → slice_index_or bits n 0 ≡ 4294967295
all_bits zero lt array fwd = refl
all_bits (suc zero) lt array fwd = refl
all_bits (suc (suc zero)) lt array fwd = refl
all_bits (suc (suc (suc zero))) lt array fwd = absurd (array refl)
all_bits (suc (suc (suc (suc zero)))) lt array fwd = refl
all_bits (suc (suc (suc (suc (suc zero))))) lt array fwd = refl
all_bits (suc (suc (suc (suc (suc (suc zero)))))) lt array fwd = refl
all_bits (suc (suc (suc (suc (suc (suc (suc zero))))))) lt array fwd = absurd (fwd refl)
all_bits (suc (suc (suc (suc (suc (suc (suc (suc n)))))))) lt array fwd = get_or-replicate 24 n 4294967295 0 (omega (arith, lt))

pub returns-clause-kept : goal.returns-clause-kept
returns-clause-kept c array fwd =
    ap (bit_and c.args.third) (all_bits c.args.kind c.requires array fwd) ∙ and_mask c.args.third 32 ∙ omega (arith, c.ranges.third)
