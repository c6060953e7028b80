use Rattle.std.proofs.Common.{◌≡◌, ◌-◌, List, [], ◌∷◌, ◌++◌, map, refl, sym, ap, subst, ◌∙◌, arith, false}
use Rattle.btf_compare.specs.Entries.{values_in}
use Rattle.btf_compare.specs.PairTable.{IsPairTable, TakesMore, entries_of, capacity, held, layout}
use Rattle.btf_compare.specs.declared.pair_table.Bucket.{Bucket}
use Rattle.btf_compare.proofs.pair_table.PairTable.new.Goals as goal

pub invariant_of-result : goal.invariant_of-result
unfolding held capacity
invariant_of-result c =
    let first : Bucket = record { entries = c.args.entries; overflows = false } in
    let one : c.push_reserved.new.self.items ≡ first ∷ [] = c.push_reserved.ensures.items ∙ ap (λ (bs : List Bucket). bs ++ first ∷ []) c.in_ok-buckets.ensures.items in
    subst (λ (bs : List Bucket). IsPairTable (layout bs 1 c.new.result.entries) × TakesMore (layout bs 1 c.new.result.entries) (16 - c.len-left.result)) (sym one) (
      record {
        bits = 0;
        ones = refl;
        least = omega arith;
        most = omega arith;
        marked = λ ids fits. ap (λ es. values_in es ids) c.new.ensures.empty;
      },
      omega (arith, c.len-left.ensures.value, c.len-left.ensures.fits),
    )

pub returns-clause-counts : goal.returns-clause-counts
unfolding held
returns-clause-counts c =
    let first : Bucket = record { entries = c.args.entries; overflows = false } in
    let one : c.push_reserved.new.self.items ≡ first ∷ [] = c.push_reserved.ensures.items ∙ ap (λ (bs : List Bucket). bs ++ first ∷ []) c.in_ok-buckets.ensures.items in
    omega (arith, ap (λ (bs : List Bucket). held (map entries_of bs)) one, c.new.ensures.len)
