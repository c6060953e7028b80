use Rattle.std.proofs.Common.{ℕ, drop, Option}
use Rattle.btf_plain.specs.declared.kind.BtfKind.{BtfKind}
use Rattle.btfobj_cli.specs.Compat.{FindsFirst}
use Rattle.btfobj_cli.proofs.compatibility.find_first.Given as goal

abbrev pub invariant-loop-kind : goal.invariant-loop-kind
invariant-loop-kind l = (found : Option (BtfKind × ℕ)) → FindsFirst l.table l.name (drop l.kind-index l.kinds) found → FindsFirst l.table l.name l.kinds found
