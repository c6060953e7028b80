use Rattle.std.proofs.Common.{rules}
use Rattle.btf_plain.proofs.Lists.{same_words}
use Rattle.btf_plain.proofs.item_list.ItemListClone.clone.Goals as goal

pub returns-in_ok-clone-in-Many : goal.returns-in_ok-clone-in-Many
returns-in_ok-clone-in-Many g c =
    rw c.in-Many.is (search (rules, same_words g.T.Clone.is_clone g.T.Item.item_words g.met.T.Item.cloned_words c.in-Many.items.items))
