use Rattle.std.proofs.Common.{◌≡◌, ℕ, List, map, take}
use Rattle.btfobj_cli.specs.Compat.{AreFindings, are_compatible}
use Rattle.btfobj_cli.specs.declared.compatibility.Finding.{Finding}
use Rattle.btfobj_cli.proofs.compatibility.compat.Given as goal

abbrev pub invariant-loop-name : goal.invariant-loop-name
invariant-loop-name g l =
    (found : List (List ℕ × Finding)) × AreFindings l.local l.target (take l.name-index (map (λ name. name.now) l.names)) found
    × (l.all ≡ are_compatible found)
