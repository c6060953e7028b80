use Rattle.std.proofs.Common.{sym, ◌∙◌}
use Rattle.btf_table.specs.Layout.{layout_of}
use Rattle.btf_object.proofs.FinalSections.{all_placed, not_placed, none_there}
use Rattle.btf_object.proofs.finalize.section.place_entries.Goals as goal

pub returns-in_default-clause-made : goal.returns-in_default-clause-made
returns-in_default-clause-made g c =
    not_placed (layout_of c.args.layout.now.sections c.args.layout.now.symbols) c.args.btf.now c.args.data_sec.now.tail c.entries-entry-items.result.now c.loop-entry.entry-index c.entries-entry-items.ensures.words c.loop-entry-test.true
    (sym c.in_ok-offset.ensures.made ∙ none_there c.in_ok-offset.field-0 c.in_default.not-Some)

pub returns-clause-made : goal.returns-clause-made
returns-clause-made g c =
    all_placed (layout_of c.args.layout.now.sections c.args.layout.now.symbols) c.args.btf.now c.args.data_sec.now.tail c.entries-entry-items.result.now c.loop-entry.placed.items c.loop-entry.entry-index c.entries-entry-items.ensures.words
    c.loop-entry-test.false c.loop-entry.invariant.1
