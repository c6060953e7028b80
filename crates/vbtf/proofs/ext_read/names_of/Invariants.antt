use Rattle.std.proofs.Common.{◌≡◌, ◌++◌}
use Rattle.std.specs.HashMap.{keys}
use Rattle.vbtf.specs.ExtRead.{zero_ended}
use Rattle.vbtf.proofs.SectionNames.{names_in}
use Rattle.vbtf.proofs.ext_read.names_of.Given as goal

-- the written names and the remaining names are all the names
abbrev pub invariant-loop-name : goal.invariant-loop-name
invariant-loop-name g l = l.names.items ++ zero_ended (names_in l.name-iterator) ≡ zero_ended (names_in (keys l.sections))
