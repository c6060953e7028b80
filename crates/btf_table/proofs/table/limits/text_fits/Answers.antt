use Rattle.std.proofs.Common.{refl, ap, sym, arith}
use Rattle.btf_model.specs.Refusal.{InvalidStringOffset}
use Rattle.btf_table.specs.Checked.{checked}
use Rattle.btf_table.proofs.Checks.{no_room}
use Rattle.btf_table.proofs.table.limits.text_fits.Goals as goal

pub returns-then-text-offset : goal.returns-then-text-offset
returns-then-text-offset c =
    (InvalidStringOffset c.args.offset, refl, ap (λ f. checked f tt) (sym (no_room c.args.offset c.args.text.now (omega (arith, c.requires)) (omega (arith, c.if-text-offset.true)))))
