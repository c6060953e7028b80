use Rattle.btf_model.specs.Refusal.{Refusal}
use Rattle.btf_model.specs.Blob.{IsTable}
use Rattle.btf_model.specs.Table.{Table, strip}
use Rattle.btf_model.proofs.Comparisons.{same_ok}
use Rattle.btf_table.specs.Layout.{layout_of}
use Rattle.btf_table.specs.PassStep.{given_under}
use Rattle.btf_table.specs.Rewrites.{NeedsAreGranted, KeepsTypes, OfTables}
use Rattle.btf_table.proofs.Rewriting.{written_again, of_tables}
use Rattle.btf_table.proofs.sanitize.rewrite_bytes_with.Given.{Over}
use Rattle.btf_table.proofs.sanitize.rewrite_bytes_with.Goals as goal
use Rattle.btf_table.proofs.sanitize.rewrite_bytes_with.Goals.{In_ok-to_bytes}

module _ (g : Over) (c : In_ok-to_bytes g) where
  -- the written bytes represent the new table
  written_is : IsTable c.args.endianness c.in_ok-to_bytes.field-0.items (strip c.fixup_and_sanitize_with.new.self)
  written_is =
      written_again c.args.endianness c.args.data.now c.in_ok-to_bytes.field-0.items c.in_ok-btf.btf c.fixup_and_sanitize_with.new.self c.args.ksyms (given_under c.args.policy (layout_of c.args.sections.now c.args.symbols.now)) c.fixup_and_sanitize_with.new.resolver.answers
      c.in_ok-btf.ensures.parsed c.in_ok-answers.ensures.rewrites.0 c.in_ok-to_bytes.ensures.parses_back

  -- a fact about both tables holds for the tables that the bytes represent
  of_bytes : (P : Table → Table → Type 0) → P c.in_ok-btf.btf (strip c.fixup_and_sanitize_with.new.self) → OfTables c.args.endianness c.args.data.now c.in_ok-to_bytes.field-0.items P
  of_bytes P = of_tables c.args.endianness c.args.data.now c.in_ok-to_bytes.field-0.items c.in_ok-btf.btf c.fixup_and_sanitize_with.new.self P c.in_ok-btf.ensures.parsed written_is

pub returns-clause-rewrites : goal.returns-clause-rewrites
returns-clause-rewrites g c =
    let h = c.in_ok-answers.ensures.rewrites in
    (c.in_ok-btf.btf, c.fixup_and_sanitize_with.new.self, c.in_ok-btf.ensures.parsed, h.0, h.1, same_ok {E = Refusal} c.in_ok-to_bytes.field-0.items _ c.in_ok-to_bytes.ensures.written, written_is g (goal.at.returns-clause-rewrites g c).In_ok-to_bytes)

pub returns-clause-granted : goal.returns-clause-granted
returns-clause-granted g c = of_bytes g (goal.at.returns-clause-granted g c).In_ok-to_bytes (NeedsAreGranted c.args.policy c.args.ksyms c.fixup_and_sanitize_with.new.resolver.answers) c.in_ok-answers.ensures.granted

pub returns-clause-kept : goal.returns-clause-kept
returns-clause-kept g c =
    let types = c.in_ok-answers.ensures.kept.types in
    of_bytes g (goal.at.returns-clause-kept g c).In_ok-to_bytes KeepsTypes (record { sizes = types.sizes; resolutions = types.resolutions; appended = types.appended })
