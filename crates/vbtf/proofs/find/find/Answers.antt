use Rattle.std.proofs.Common.{subst, sym, ℕ, List}
use Rattle.std.specs.Option.{option_map}
use Rattle.btf_plain.specs.Error.{MeetsOrNoMemory}
use Rattle.btf_plain.specs.Kind as kinds
use Rattle.vbtf.specs.Finding.{FindsFrom}
use Rattle.vbtf.proofs.find.find.Goals as goal

pub returns : goal.returns
returns c =
    let wanted = option_map kinds.kind c.in_ok-wanted.wanted in (
      c.in-Ok.ensures.cases.1,
      wanted,
      sym c.in_ok-wanted.ensures,
      subst (λ (name : List ℕ). MeetsOrNoMemory (λ (n : ℕ). n) c.find_from.result (FindsFrom c.args.table.now.strings c.args.table.now.records wanted name c.args.first))
          c.in-Ok.ensures.cases.0 c.find_from.ensures,
    )
