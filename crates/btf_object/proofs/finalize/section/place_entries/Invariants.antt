use Rattle.btf_table.specs.Layout.{layout_of}
use Rattle.btf_object.specs.Finalize.{AreNamesCached}
use Rattle.btf_object.proofs.FinalSections.{ArePlaced}
use Rattle.btf_object.proofs.finalize.section.place_entries.Given as goal

abbrev pub invariant-loop-entry : goal.invariant-loop-entry
invariant-loop-entry g l =
    AreNamesCached l.btf.strings (layout_of l.layout.sections l.layout.symbols) l.names
    × ArePlaced (layout_of l.layout.sections l.layout.symbols) l.btf l.entry-items l.entry-index l.placed.items
