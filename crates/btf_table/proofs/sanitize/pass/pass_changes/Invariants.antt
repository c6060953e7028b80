use Rattle.btf_rewrite_model.specs.Passing.{IsPassAt}
use Rattle.btf_table.specs.Features.{Called}
use Rattle.btf_table.specs.Layout.{layout_of}
use Rattle.btf_table.specs.PassStep.{pass_on, given_under, IsMade}
use Rattle.btf_table.specs.ReadNames.{AreRead}
use Rattle.btf_table.specs.contracts.sanitize.pass.pass_changes.F-FnMut.{words}
use Rattle.btf_table.proofs.sanitize.pass.pass_changes.Given as goal

abbrev pub invariant-loop-id : goal.invariant-loop-id
invariant-loop-id g l =
    goal.F-IsAlwaysCallable g l.resolver.predicate
    × Called (words g.row.F g.row.G g.row.H g.row.G-Hasher g.row.H-Hasher g.F.FnMut).step l.fn.resolver.predicate l.resolver.answers l.resolver.predicate
    × IsPassAt (pass_on l.btf (given_under l.request.policy (layout_of l.request.sections.now l.request.symbols.now)) l.resolver.answers) l.id
    × IsMade (pass_on l.btf (given_under l.request.policy (layout_of l.request.sections.now l.request.symbols.now)) l.resolver.answers) l.id l.made l.denied.items
    × AreRead l.btf.strings (layout_of l.request.sections.now l.request.symbols.now) l.names
