use Rattle.std.proofs.Common.{ℕ, sym, subst}
use Rattle.std.specs.Str.{IsCharBoundary}
use Rattle.btf_object.proofs.Versions.{digits_end}
use Rattle.btf_object.proofs.version.split_digits.Goals as goal

pub split_at-requires : goal.split_at-requires
split_at-requires c = subst (λ (n : ℕ). IsCharBoundary c.args.text.now n) (sym c.digits_len.ensures) (digits_end c.args.text.now c.utf8.text)
