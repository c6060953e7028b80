use Rattle.std.proofs.Common.{arith, sym, ap, subst, ℕ}
use Rattle.std.specs.HashMap.{get_by_text}
use Rattle.btf_ext.specs.BtfExt.{ext as said}
use Rattle.btf_ext.specs.Info.{func_records, line_records}
use Rattle.btf_plain.specs.Error.{MeetsOrNoMemory}
use Rattle.vbtf.specs.ExtRead.{NamesOf}
use Rattle.vbtf.proofs.SectionNames.{lists_seen}
use Rattle.vbtf.proofs.ext_read.names_of_part.Goals as goal

pub returns-in-0 : goal.returns-in-0
returns-in-0 c =
    let names = lists_seen (λ v. v.items) func_records (get_by_text c.func_info.result.now.sections) (said c.args.ext.now).func c.names_of.result (λ name. ap (λ f. f name) c.func_info.ensures) c.names_of.ensures in
    (omega (arith, c.in-0.is), subst (λ (part : ℕ). MeetsOrNoMemory (λ v. v.items) c.names_of.result (NamesOf c.args.ext.now part)) (sym c.in-0.is) names)

pub returns-in-1 : goal.returns-in-1
returns-in-1 c =
    let names = lists_seen (λ v. v.items) line_records (get_by_text c.line_info.result.now.sections) (said c.args.ext.now).line c.names_of-in-1.result (λ name. ap (λ f. f name) c.line_info.ensures) c.names_of-in-1.ensures in
    (omega (arith, c.in-1.is), subst (λ (part : ℕ). MeetsOrNoMemory (λ v. v.items) c.names_of-in-1.result (NamesOf c.args.ext.now part)) (sym c.in-1.is) names)
