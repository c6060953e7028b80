-- The members of the target so far have other names.
use Rattle.btf_relocate.specs.Members.{member_of, members_held}
use Rattle.btf_relocate.proofs.Definitions.{Same}
use Rattle.btf_relocate.proofs.types.walk.match_member.Given as goal

abbrev pub invariant-loop-index : goal.invariant-loop-index
invariant-loop-index l = Same l.local l.target (member_of l.member) (members_held l.others) l.index l.from
