use Rattle.std.proofs.Common.{◌≡◌, ℕ, List, Option, Some, None, refl, ap, sym, ◌∙◌, false, is_some}
use Rattle.std.specs.Prelude.{cond}
use Rattle.std.proofs.lemmas.Bool.{false≢true}
use Rattle.btf_compare.specs.Entries.{IsNoPair, is_ids, values_in}
use Rattle.btf_compare.specs.PairMap.{known_in}
use Rattle.btf_compare.specs.PairTable.{BucketLayout}
use Rattle.btf_compare.specs.declared.entries.Progress.{Progress}
use Rattle.btf_compare.proofs.EntryLists.{list_push}
use Rattle.btf_compare.proofs.pair_map.PairMap.insert.Goals as goal

no_table : (o : Option (BucketLayout Progress)) → is_some o ≡ false → o ≡ None
no_table None is = refl
no_table (Some table) is = absurd (false≢true (sym is))

pub returns-then-not-are_full-clause-learns : goal.returns-then-not-are_full-clause-learns
returns-then-not-are_full-clause-learns c other =
    let few = c.args.self.now.few.list.items in
    let is : c.args.self.now.many ≡ None = no_table c.args.self.now.many c.if-is_none.ensures in
    let none : IsNoPair c.args.pair few = ap (λ (o : Option (BucketLayout Progress)). known_in few o c.args.pair) (sym is) ∙ c.requires in
    ap (λ (o : Option (BucketLayout Progress)). known_in c.push.new.self.list.items o other) is ∙ ap (λ (es : List ((ℕ × ℕ) × Progress)). values_in es other) c.push.ensures ∙ list_push c.args.pair few c.args.progress none other
    ∙ ap (λ (o : Option (BucketLayout Progress)). cond (is_ids c.args.pair other) (Some c.args.progress) (known_in few o other)) (sym is)
