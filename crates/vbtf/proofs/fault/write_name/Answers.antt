use Rattle.std.proofs.Common.{◌∙◌, ap, sym, ℕ, List, take, length, min, ◌≡◌}
use Rattle.std.proofs.lemmas.List.{length-take}
use Rattle.vbtf.proofs.Names.{front_of}
use Rattle.vbtf.specs.Status.{name_room}
use Rattle.vbtf.proofs.fault.write_name.Goals as goal

pub returns-clause-details : goal.returns-clause-details
returns-clause-details c =
    let e = c.as_bytes-bytes.ensures.value in let name : List ℕ = c.args.name.now in let len : ℕ = c.name_len-len.result in
    let l : len ≡ length (take name_room name) = c.name_len-len.ensures ∙ ap (λ (xs : List ℕ). min name_room (length xs)) e ∙ sym (length-take name_room name) in
    record {
      id = c.write-fault.ensures.details.id;
      offset = c.write-fault.ensures.details.offset;
      len = c.write-fault.ensures.details.len;
      section_len = c.write-fault.ensures.details.section_len;
      name_len = l;
      name = front_of name_room len name c.copy_from_slice.new.self _ l (c.copy_from_slice.ensures.after ∙ ap (λ (xs : List ℕ). take len xs) e);
    }
