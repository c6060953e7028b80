use Rattle.std.proofs.Common.{refl, arith}
use Rattle.btf_model.specs.Refusal.{InvalidStringOffset, UnknownBtfType}
use Rattle.btf_split.proofs.Parts.{of_no_types, of_few_types, of_few_strings}
use Rattle.btf_split.proofs.joining.check_base.Goals.{then-base_types-eq0-via-then-base_types-eq0, then-base_types-eq0-via-else-base_types-eq0+then-base_types-type_count}
use Rattle.btf_split.proofs.joining.check_base.Goals as goal

pub returns-then-base_types-eq0-clause-checked : goal.returns-then-base_types-eq0-clause-checked
returns-then-base_types-eq0-clause-checked c = (
  UnknownBtfType c.args.base_types,
  refl,
  elim c.then-base_types-eq0.branch [
    | then-base_types-eq0-via-then-base_types-eq0 w ↦ of_no_types c.args.base_types c.args.base_strings c.args.table.now w.if-base_types-eq0.true
    | then-base_types-eq0-via-else-base_types-eq0+then-base_types-type_count w ↦
        of_few_types c.args.base_types c.args.base_strings c.args.table.now (omega (arith, w.if-base_types-type_count.true, w.type_count.ensures))
  ],
)

pub returns-then-base_strings-string_len-clause-checked : goal.returns-then-base_strings-string_len-clause-checked
returns-then-base_strings-string_len-clause-checked c = (
  InvalidStringOffset c.args.base_strings,
  refl,
  of_few_strings c.args.base_types c.args.base_strings c.args.table.now (omega (arith, c.if-base_types-eq0.false)) (omega (arith, c.if-base_types-type_count.false, c.type_count.ensures))
      (omega (arith, c.if-base_strings-string_len.true, c.string_len.ensures)),
)
