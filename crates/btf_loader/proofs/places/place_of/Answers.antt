use Rattle.std.proofs.Common.{◌≡◌, ◌<◌, ◌≤◌, ◌+◌, length, Some, List, sym, subst, refl, arith}
use Rattle.std.specs.Prelude.{slice_get}
use Rattle.std.proofs.lemmas.Option.{slice_get_read}
use Rattle.btf_elf_model.specs.declared.section_header.SectionHeader.{SectionHeader}
use Rattle.btf_loader.proofs.Sharing.{ends_in}
use Rattle.btf_loader.proofs.places.place_of.Goals as goal

-- the section that is read is in the file
here : (c : goal.Else-not-is_placed) → slice_get c.args.object.now.sections c.args.index ≡ Some c.in_ok-section.section.now
here c =
    subst (λ (ss : List SectionHeader). slice_get ss c.args.index ≡ Some c.in_ok-section.section.now) c.sections.ensures
    (slice_get_read c.sections.result.now (length c.sections.result.now) c.args.index c.in_ok-section.section.now refl c.in_ok-section.ensures.lookup.3.0 c.in_ok-section.ensures.lookup.1)

ends : (c : goal.Else-not-is_placed)
    → (c.in_ok-section.section.now.offset < c.in_ok-section.section.now.offset + c.in_ok-section.section.now.size)
    × (c.in_ok-section.section.now.offset + c.in_ok-section.section.now.size ≤ length c.bytes-len.result.now)
ends c = ends_in c.bytes-len.result.now c.args.object.now c.args.index c.in_ok-section.section.now c.bytes-len.ensures.object (here c) (sym c.if-not-is_placed.ensures)

pub overflow_add-result : goal.overflow_add-result
overflow_add-result c = let e = ends c in omega arith

pub returns-clause-some : goal.returns-clause-some
returns-clause-some c = record {
  section = c.in_ok-section.section.now;
  here = here c;
  placed = sym c.if-not-is_placed.ensures;
  start_is = refl;
  end_is = refl;
  some = (ends c).0;
}
