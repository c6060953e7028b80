use Rattle.std.proofs.Common.{◌≡◌, ◌∙◌, ℕ, List, ◌++◌, codes, decimal, sym, ap, subst}
use Rattle.std.proofs.lemmas.List.{append_assoc}
use Rattle.std.proofs.lemmas.Result.{on_ok_weaker}
use Rattle.btf_model.specs.Record.{kind_of}
use Rattle.btf_model.specs.Text.{text_at}
use Rattle.btf_plain.specs.Kind.{kind, kind_text}
use Rattle.btf_records.specs.BtfType.{record_of}
use Rattle.text_buffer.specs.Buffer.{Takes}
use Rattle.btf_cli.specs.Listing.{kind_part, name_part}
use Rattle.btf_cli.proofs.Taken.{takes_text, takes_both}
use Rattle.btf_cli.proofs.listing.write_line.Goals as goal

pub returns : goal.returns
returns g c =
    let held = g.W.Write.contents in
    let r = record_of c.args.btf_type.now in
    let named : kind_text (kind c.kind-kind.result) ≡ kind_part (kind_of r.info) = ap kind_text c.kind-kind.ensures.value ∙ sym (ap kind_part c.kind-kind.ensures.info) in
    let head : List ℕ = decimal c.args.id ++ codes " " ++ kind_part (kind_of r.info) in
    let name : List ℕ = name_part (text_at c.args.table.now.strings r.name) in
    let written = kind_text (kind c.kind-kind.result) in
    let front = takes_text held c.args.lines.now c.write.new.self (decimal c.args.id ++ (codes " " ++ written)) c.in_ok-write.ensures.writes in
    let same : decimal c.args.id ++ (codes " " ++ written) ≡ head =
    sym (append_assoc (decimal c.args.id) (codes " ") written) ∙ ap (λ (text : List ℕ). decimal c.args.id ++ codes " " ++ text) named in
    let kinded = subst (λ (text : List ℕ). Takes held c.args.lines.now text c.write.new.self) same front in
    let both = takes_both held c.args.lines.now c.write.new.self c.write_name.new.lines head name kinded c.in_ok-write_name.ensures.taken in
    on_ok_weaker c.put.result
    (λ last. takes_both held c.args.lines.now c.write_name.new.lines c.put.new.self (head ++ name) (codes "\n") both last)
    c.put.ensures.taken
