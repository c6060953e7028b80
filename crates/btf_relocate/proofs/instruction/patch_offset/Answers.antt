use Rattle.std.proofs.Common.{◌≡◌, rules, arith}
use Rattle.std.proofs.lemmas.Grind.{common_steps}
use Rattle.btf_relocate_model.specs.Instruction.{sign_extended}
use Rattle.btf_relocate.proofs.instruction.patch_offset.Goals as goal

pub returns : goal.returns
returns c =
    let field : c.cast_unsigned-field.result ≡ sign_extended 16 c.args.slot.offset = search rules in
    grind (arith, common_steps)
