use Rattle.std.proofs.Common.{take}
use Rattle.btf_cli.specs.Setting.{word_texts}
use Rattle.btf_cli.proofs.Readings.{HaveRead}
use Rattle.btf_cli.proofs.request.Request.read.Given as goal

abbrev pub invariant-loop-word : goal.invariant-loop-word
invariant-loop-word l = HaveRead (word_texts (take l.word-index l.words)) l.ksyms l.placeholder
