use Rattle.std.proofs.Common.{◌≡◌, ◌∙◌, ℕ, true, length, nat_eq, refl, sym, ap, subst}
use Rattle.std.specs.Prelude.{bit_or, bit_xor, not}
use Rattle.std.specs.Int.Bits.{xor_self, or_zero_l}
use Rattle.std.proofs.lemmas.Bool.{false≢true, ltb-true}
use Rattle.std.proofs.lemmas.Option.{slice_get_read}
use Rattle.btf_view.proofs.finding.is_other.Goals as goal

pub returns-in-Some : goal.returns-in-Some
returns-in-Some c differs same =
    let readable = c.args.readable.now in
    let number = c.args.number in
    let byte = c.in-Some.byte.now in (
      byte,
      slice_get_read readable (length readable) c.args.head.now.name byte refl (ltb-true _ _ (sym c.in-Some.ensures.lookup.0)) c.in-Some.ensures.lookup.1,
      λ (first : byte ≡ c.args.first).
          let kinds : bit_xor c.kind.result number ≡ 0 = ap (λ (n : ℕ). bit_xor n number) (c.kind.ensures ∙ same) ∙ xor_self number in
          let bytes : bit_xor byte c.args.first ≡ 0 = ap (λ (n : ℕ). bit_xor n c.args.first) first ∙ xor_self c.args.first in
          let none : bit_or (bit_xor c.kind.result number) (bit_xor byte c.args.first) ≡ 0 = ap (λ (n : ℕ). bit_or n (bit_xor byte c.args.first)) kinds ∙ or_zero_l (bit_xor byte c.args.first) ∙ bytes in
          false≢true (subst (λ (n : ℕ). not (nat_eq n 0) ≡ true) none differs),
    )
