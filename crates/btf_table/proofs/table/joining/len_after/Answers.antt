use Rattle.std.proofs.Common.{refl, arith}
use Rattle.btf_model.specs.Refusal.{InvalidHeader, InvalidTypeInfo}
use Rattle.btf_table.proofs.Joining.{strings_exceed, types_exceed, both_fit}
use Rattle.btf_table.proofs.table.joining.len_after.Goals as goal

pub returns-then-len-gt-SECTION_LIMIT : goal.returns-then-len-gt-SECTION_LIMIT
returns-then-len-gt-SECTION_LIMIT c = (
  InvalidHeader,
  refl,
  strings_exceed c.base.inside c.own.inside c.args.base.now c.args.own.now c.base.view_is c.own.view_is
      (omega (arith, c.if-len-gt-SECTION_LIMIT.true, c.len.ensures, c.len-2.ensures, c.base.inside.strings.ok.0, c.own.inside.strings.ok.0)),
)

pub returns-then-len-gt-SECTION_LIMIT-2 : goal.returns-then-len-gt-SECTION_LIMIT-2
returns-then-len-gt-SECTION_LIMIT-2 c = (
  InvalidTypeInfo,
  refl,
  types_exceed c.base.inside c.own.inside c.args.base.now c.args.own.now c.base.view_is c.own.view_is c.base.invariant c.own.invariant
      (omega (arith, c.if-len-gt-SECTION_LIMIT.false, c.len.ensures, c.len-2.ensures, c.base.inside.strings.ok.0, c.own.inside.strings.ok.0))
      (omega (arith, c.if-len-gt-SECTION_LIMIT-2.true)),
)

pub returns : goal.returns
returns c =
    both_fit c.base.inside c.own.inside c.args.base.now c.args.own.now c.base.view_is c.own.view_is c.base.invariant c.own.invariant
    (omega (arith, c.if-len-gt-SECTION_LIMIT.false, c.len.ensures, c.len-2.ensures, c.base.inside.strings.ok.0, c.own.inside.strings.ok.0))
    (omega (arith, c.if-len-gt-SECTION_LIMIT-2.false))
