use Rattle.std.proofs.Common.{List, ℕ, ◌+◌, sym, subst, map, take}
use Rattle.btf_records.specs.BtfType.{record_of}
use Rattle.text_buffer.specs.Buffer.{Takes}
use Rattle.btf_cli.specs.Listing.{lines_from, type_line}
use Rattle.btf_cli.proofs.Listings.{lines_next}
use Rattle.btf_cli.proofs.Taken.{takes_none, takes_both}
use Rattle.btf_cli.proofs.listing.write_lines.Goals as goal

pub loop-place-init : goal.loop-place-init
loop-place-init g c = takes_none g.W.Write.contents c.args.lines.now

pub loop-place-preserved : goal.loop-place-preserved
loop-place-preserved g c =
    let held = g.W.Write.contents in
    let strings : List ℕ = c.args.table.now.strings in
    let before : List ℕ = lines_from strings 1 (map record_of (take c.loop-place.place c.args.types.now)) in
    let line : List ℕ = type_line strings (c.loop-place.place + 1) (record_of c.index-types-place.result) in
    subst (λ (text : List ℕ). Takes held c.args.lines.now text c.write_line.new.lines)
    (sym (lines_next strings c.args.types.now c.loop-place.place c.index-types-place.result c.loop-place-test.true c.index-types-place.is))
    (takes_both held c.args.lines.now c.loop-place.lines c.write_line.new.lines before line c.loop-place.invariant c.in_ok-write_line.ensures)
