use Rattle.std.proofs.Common.{refl, ap, sym, arith}
use Rattle.btf_model.specs.Refusal.{InvalidTypeInfo}
use Rattle.btf_table.specs.Checked.{checked}
use Rattle.btf_table.proofs.Checks.{not_fitting}
use Rattle.btf_table.proofs.table.limits.record_fits.Goals as goal

pub returns-then-bytes-used : goal.returns-then-bytes-used
returns-then-bytes-used c = (InvalidTypeInfo, refl, ap (λ f. checked f tt) (sym (not_fitting c.args.used c.args.bytes (omega (arith, c.requires)) (omega (arith, c.if-bytes-used.true)))))
