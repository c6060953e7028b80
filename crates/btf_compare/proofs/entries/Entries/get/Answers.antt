use Rattle.std.proofs.Common.{sym}
use Rattle.btf_compare.proofs.EntryLists.{place_found}
use Rattle.btf_compare.specs.declared.entries.Progress.TheVariants.{Open}
use Rattle.btf_compare.proofs.entries.Entries.get.Goals as goal

pub returns-in-Some : goal.returns-in-Some
returns-in-Some g c =
    rw (c.deref.ensures.0)
    (sym (place_found c.args.pair c.args.self.now.list.items c.in-Some.index ((0, 0), Open) c.in-Some.ensures.place))
