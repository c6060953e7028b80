use Rattle.btf_relocate.proofs.Searches.{gives_plain}
use Rattle.btf_relocate.proofs.search.find_member.Goals as goal

pub returns-clause-found : goal.returns-clause-found
returns-clause-found c = gives_plain c.args.table.now c.args.name.now c.args.depth c.args.type_id c.search.result c.search.ensures.found
