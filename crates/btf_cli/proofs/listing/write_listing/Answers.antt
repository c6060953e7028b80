use Rattle.std.proofs.Common.{◌≡◌, ◌∙◌, ℕ, List, [], OnOk, length, map, drop, ap, sym, subst₂, rules}
use Rattle.std.specs.Io.KnownBytes.{Appends}
use Rattle.std.proofs.lemmas.Result.{on_ok_weaker}
use Rattle.btf_model.specs.Record.{Record}
use Rattle.btf_records.specs.BtfType.{record_of}
use Rattle.text_buffer.specs.Buffer.{Takes}
use Rattle.btf_cli.specs.Listing.{table_lines, lines_from}
use Rattle.btf_cli.proofs.Named.{nothing}
use Rattle.btf_cli.proofs.Taken.{both_ok, flushed, takes_none}
use Rattle.btf_cli.proofs.listing.write_listing.Goals as goal
use Rattle.btf_cli.proofs.listing.write_listing.Goals.{in-Some+in_ok-write_lines, in_default}

pub returns : goal.returns
returns g c =
    let held = g.W.Write.contents in
    let text : List ℕ = table_lines c.args.table.now in
    let taken : Takes held c.new-lines.result text c.match-split_first.lines =
    elim c.match-split_first.branch [
      | in-Some+in_ok-write_lines w ↦
          let rest : map record_of w.in-Some.types.now ≡ drop 1 c.args.table.now.records = search rules in
          subst₂ (λ (xs : List Record) (b : _). Takes held c.new-lines.result (lines_from c.args.table.now.strings 1 xs) b) rest (sym w.lines-is) w.in_ok-write_lines.ensures
      | in_default w ↦
          let short : length c.as_slice.result.now ≡ 0 = search rules in
          let none : drop 1 c.args.table.now.records ≡ [] =
          ap (drop 1) (sym c.types.ensures.records ∙ ap (map record_of) (sym c.as_slice.ensures.value ∙ nothing c.as_slice.result.now short)) in
          subst₂ (λ (xs : List Record) (b : _). Takes held c.new-lines.result (lines_from c.args.table.now.strings 1 xs) b) (sym none) (sym w.lines-is) (takes_none held c.new-lines.result)
    ] in
    let name = c.flush.ensures.same_reference ∙ taken.0 ∙ c.new-lines.ensures.same_reference in
    let bytes : OnOk c.flush.result (Appends (held c.args.out.now) (held c.flush.new.self.out.now) text) =
    on_ok_weaker c.flush.result
    (λ p. flushed held c.args.out.now c.new-lines.result c.match-split_first.lines c.flush.new.self text c.new-lines.ensures.out c.new-lines.ensures.empty taken p.0 p.1)
    (both_ok _ _ c.flush.result c.flush.ensures.bytes c.flush.ensures.empty) in
    search rules
