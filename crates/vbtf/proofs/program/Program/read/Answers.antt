use Rattle.std.proofs.Common.{◌≡◌, ℕ, List, subst}
use Rattle.std.specs.Prelude.{IfSome}
use Rattle.btf.specs.Layout.{layout_of, sizes_of, offsets_of}
use Rattle.vbtf.specs.Program.{number_named}
use Rattle.vbtf.proofs.Layouts.{layout_is}
use Rattle.vbtf.proofs.program.Program.read.Goals as goal

pub returns-clause-some : goal.returns-clause-some
returns-clause-some c =
    let sizes = subst (λ o. IfSome o (λ map. (name : List ℕ) → sizes_of map name ≡ number_named c.args.section_names.now c.args.sections.now name)) c.in-Some.is c.in_ok-sections.ensures.some in
    let offsets = subst (λ o. IfSome o (λ map. (name : List ℕ) → offsets_of map name ≡ number_named c.args.symbol_names.now c.args.symbols.now name)) c.in-Some-2.is c.in_ok-symbols.ensures.some in
    layout_is (layout_of c.in-Some.sections c.in-Some-2.symbols) c.args.section_names.now c.args.symbol_names.now c.args.sections.now c.args.symbols.now sizes offsets
