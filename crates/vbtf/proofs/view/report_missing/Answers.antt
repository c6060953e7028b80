use Rattle.std.proofs.Common.{◌≡◌, ◌∙◌, List, ℕ, length, refl, sym, take}
use Rattle.std.proofs.lemmas.List.{length-take}
use Rattle.vbtf.proofs.Names.{front_of}
use Rattle.vbtf.specs.Status.{name_room}
use Rattle.vbtf.proofs.view.report_missing.Goals as goal

pub returns : goal.returns
returns c =
    let name : List ℕ = c.args.name.now in
    let len : ℕ = c.min-len.result in
    let l : len ≡ length (take name_room name) = c.min-len.ensures ∙ sym (length-take name_room name) in (
      refl,
      c.write-fault.ensures.number,
      record {
        id = c.write-fault.ensures.details.id;
        offset = c.write-fault.ensures.details.offset;
        len = c.write-fault.ensures.details.len;
        section_len = c.write-fault.ensures.details.section_len;
        name_len = l;
        name = front_of name_room len name c.copy_from_slice.new.self _ l c.copy_from_slice.ensures.after;
      },
    )
