use Rattle.btf_relocate.proofs.Members.{struct_members, union_members}
use Rattle.btf_relocate.proofs.kinds.parsed_members.Goals as goal

pub returns-in-Struct : goal.returns-in-Struct
returns-in-Struct c = struct_members c.args.btf_type.now c.in-Struct.t c.members.result.now c.in-Struct.is c.kind.ensures.info c.members.ensures.words

pub returns-in-Union : goal.returns-in-Union
returns-in-Union c = union_members c.args.btf_type.now c.in-Union.t c.members-in-Union.result.now c.in-Union.is c.kind.ensures.info c.members-in-Union.ensures.words
