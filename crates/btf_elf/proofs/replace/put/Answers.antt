use Rattle.std.proofs.Common.{arith}
use Rattle.btf_elf.proofs.Writes.{put_is}
use Rattle.btf_elf.proofs.replace.put.Goals as goal

pub returns : goal.returns
returns c = put_is c.args.at _ c.args.file.now c.copy_from_slice.new.self c.args.bytes.now c.copy_from_slice.ensures.after (omega arith)
