use Rattle.std.proofs.Common.{take}
use Rattle.std.specs.Prelude.{map}
use Rattle.btf_records.specs.BtfType.{record_of}
use Rattle.text_buffer.specs.Buffer.{Takes}
use Rattle.btf_cli.specs.Listing.{lines_from}
use Rattle.btf_cli.proofs.listing.write_lines.Given as goal

abbrev pub invariant-loop-place : goal.invariant-loop-place
invariant-loop-place g l = Takes g.W.Write.contents l.fn.lines (lines_from l.table.strings 1 (map record_of (take l.place l.types))) l.lines
