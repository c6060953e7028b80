use Rattle.std.proofs.Common.{sym, ap, is_some}
use Rattle.btf_compare.proofs.EntryLists.{place_found, place_set}
use Rattle.btf_compare.proofs.entries.Entries.set.Goals as goal

pub returns-in-Some-get_mut-clause-found : goal.returns-in-Some-get_mut-clause-found
returns-in-Some-get_mut-clause-found g c =
    sym (ap is_some (place_found c.args.pair c.args.self.now.list.items c.in-Some.index (c.args.pair, c.args.progress) c.in-Some.ensures.place))

pub returns-in-Some-get_mut-clause-sets : goal.returns-in-Some-get_mut-clause-sets
returns-in-Some-get_mut-clause-sets g c found other =
    place_set c.args.pair c.args.self.now.list.items c.in-Some.index c.args.progress other c.in-Some.ensures.place
