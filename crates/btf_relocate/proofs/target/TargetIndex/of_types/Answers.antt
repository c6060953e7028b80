use Rattle.std.proofs.Common.{◌≡◌, ℕ, List, Bor, rules, map, ap, ◌∙◌, take_all}
use Rattle.std.proofs.lemmas.List.Sorted.{answers_always}
use Rattle.btf_relocate.specs.Entries.{id_of}
use Rattle.btf_relocate.specs.declared.target.Entry.{Entry}
use Rattle.btf_relocate.proofs.Indexes.{index_made}
use Rattle.btf_relocate.proofs.target.TargetIndex.of_types.Goals as goal

pub returns-clause-indexed : goal.returns-clause-indexed
returns-clause-indexed c =
    let key : Entry → Bor (List ℕ) × ℕ = λ e. (e.name, e.kind) in
    let keys = answers_always _ _ _ (λ f a r next called. search rules) in
    let all : c.loop-entry.ids.items ≡ map id_of c.sort_by_key.new.self.items = c.loop-entry.invariant ∙ ap (map id_of) (take_all c.loop-entry.entry-index c.deref-entry-items.result.now c.loop-entry-test.false ∙ c.deref-entry-items.ensures.value) in (
      c.pointer_size.ensures,
      index_made c.args.table.now c.in_ok-entries.entries.items c.sort_by_key.new.self.items c.loop-entry.ids.items c.in_ok-entries.ensures c.in_ok-sort_by_key.ensures.permutation
          (c.in_ok-sort_by_key.ensures.sorted key keys) (c.in_ok-sort_by_key.ensures.stable key keys) all,
    )
