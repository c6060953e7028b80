use Rattle.std.proofs.Common.{List, ℕ, Result, sym, ap, arith}
use Rattle.btf_model.specs.Refusal.{Refusal}
use Rattle.btf_rewrite_model.specs.Checks.{name_is_read}
use Rattle.btf_table.specs.Checked.{checked}
use Rattle.btf_table.proofs.table.Btf.check_name.Goals as goal

pub returns-then-offset-readable_end : goal.returns-then-offset-readable_end
returns-then-offset-readable_end c = sym (ap (λ (text : Result (List ℕ) Refusal). checked (name_is_read text) tt) (c.requires.below c.args.offset (omega (arith, c.if-offset-readable_end.true))).1)
