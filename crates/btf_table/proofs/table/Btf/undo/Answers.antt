use Rattle.std.proofs.Common.{◌≡◌, length, take, sym, ap, subst, ◌∙◌, arith}
use Rattle.std.proofs.lemmas.List.{with_items_is}
use Rattle.btf_model.specs.Table.{Table}
use Rattle.btf_table.specs.Changes.{put_back, Undoes}
use Rattle.btf_table.specs.Btf.{table_of}
use Rattle.btf_table.proofs.Put.{view_undone, consistent_undone}
use Rattle.btf_table.proofs.table.Btf.undo.Goals as goal

types : (c : goal.After-drop-undo) → c.truncate.new.self.items ≡ take c.args.undo.count (put_back c.args.undo.types.items c.self.inside.types.items)
types c =
    c.truncate.ensures.items ∙ ap (take c.args.undo.count) (with_items_is c.self.inside.types c.put_back_types.new.types (omega (arith, c.put_back_types.auto.types, ap length c.deref_mut.ensures.value, c.self.inside.types.ok.0)) ∙ c.put_back_types.ensures
    ∙ ap (λ cs. put_back cs c.deref_mut.result.now) c.deref_mut-2.ensures.value ∙ ap (put_back c.args.undo.types.items) c.deref_mut.ensures.value)

undoes : (c : goal.After-drop-undo) (old : Table) → Undoes c.args.undo c.args.self.now old → Undoes c.args.undo (table_of c.self.inside) old
undoes c old is = subst (λ t. Undoes c.args.undo t old) (sym c.self.view_is) is

pub invariant_of-self : goal.invariant_of-self
invariant_of-self c = consistent_undone c.self.inside c.args.undo c.requires.0 c.truncate-2.new.self c.truncate.new.self c.self.invariant (undoes c c.requires.0 c.requires.1) c.truncate-2.ensures.items (types c)

pub returns : goal.returns
returns c = λ old is. view_undone c.self.inside c.args.undo old c.truncate-2.new.self c.truncate.new.self (undoes c old is) c.truncate-2.ensures.items (types c)
