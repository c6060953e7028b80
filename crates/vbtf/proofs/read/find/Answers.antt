use Rattle.std.proofs.Common.{subst, ℕ, List}
use Rattle.btf_model.specs.Text.{FindsName}
use Rattle.btf_plain.specs.Error.{MeetsOrNoMemory}
use Rattle.btf_plain.specs.Kind.{kind}
use Rattle.vbtf.proofs.read.find.Goals as goal

pub returns : goal.returns
returns c =
    let k = kind c.in-Ok-try_from.kind in (
      c.in-Ok.ensures.cases.1,
      k,
      c.in-Ok-try_from.ensures,
      subst (λ (name : List ℕ). MeetsOrNoMemory (λ (n : ℕ). n) c.id_by_type_name_kind.result (FindsName c.args.table.now.strings c.args.table.now.records k name))
          c.in-Ok.ensures.cases.0 c.id_by_type_name_kind.ensures,
    )
