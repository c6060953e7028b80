use Rattle.std.proofs.Common.{◌≡◌, take, map}
use Rattle.btf_model.specs.Ext.{little_bytes}
use Rattle.btf_ext.specs.Info.{line_words}
use Rattle.btf_ext.proofs.info.line.LineSecInfo.line_info_bytes.Given as goal

abbrev pub invariant-loop-record : goal.invariant-loop-record
invariant-loop-record l = l.out.items ≡ little_bytes (map line_words (take l.record-index l.record-items))
