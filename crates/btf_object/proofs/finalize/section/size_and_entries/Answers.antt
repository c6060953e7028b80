use Rattle.std.proofs.Common.{sym, ap, ◌∙◌}
use Rattle.std.specs.Option.{option_map}
use Rattle.btf_table.specs.Layout.{layout_of}
use Rattle.btf_object.specs.Finalize.{parts_of}
use Rattle.btf_object.proofs.FinalSections.{own_parts}
use Rattle.btf_object.proofs.finalize.section.size_and_entries.Goals as goal

pub returns-in_ok-copied-in-None-clause-made : goal.returns-in_ok-copied-in-None-clause-made
returns-in_ok-copied-in-None-clause-made g c =
    own_parts (layout_of c.args.layout.now.sections c.args.layout.now.symbols) c.args.btf.now c.args.data_sec.now c.size.result c.entries.result.now c.in_ok-copied-in-None.field-0.items
    (sym c.in_ok-parts.ensures.made ∙ ap (option_map parts_of) c.in-None.is) c.size.ensures c.entries.ensures.words c.in_ok-copied-in-None.ensures
