use Rattle.std.proofs.Common.{◌≡◌, ℕ, ◌+◌, ◌-◌, ◌*◌, ◌/◌, List, [], ◌∷◌, ◌++◌, length, get_or, map, set, refl, sym, ap, subst, ◌∙◌, arith, inl, inr}
use Rattle.std.proofs.lemmas.List.{length-append, length-map, length-set}
use Rattle.btf_compare.specs.PairTable.{AreShared, IsPairTable, TakesMore, capacity, count_in, entries_of, layout, value_of}
use Rattle.btf_compare.specs.declared.pair_table.Bucket.{Bucket}
use Rattle.btf_compare.proofs.Buckets.{IsNextMask, lt_not}
use Rattle.btf_compare.proofs.Splits.{half_within, next_within, most, split_values, split_counts, split_table}
use Rattle.btf_compare.proofs.pair_table.PairTable.split_next.Goals as goal
use Rattle.btf_compare.proofs.pair_table.PairTable.split_next.Goals.{After-len-many, After-push_reserved}

many : (c : After-len-many) → c.len-many.result ≡ length c.self.inside.buckets.items
many c = c.len-many.ensures ∙ c.in_ok-reserve.ensures.len ∙ c.self.inside.buckets.ok.0

pub overflow_sub-next : goal.overflow_sub-next
overflow_sub-next c =
    let t = c.self.inside in
    rw (many (goal.at.overflow_sub-next c).After-len-many) (half_within t.buckets.items t.mask t.further.entries c.self.invariant.0)

pub index-requires : goal.index-requires
index-requires c =
    let t = c.self.inside in
    let s = (goal.at.index-requires c).After-len-many in
    rw (sym c.len-many.ensures, many s) (next_within t.buckets.items t.mask t.further.entries c.self.invariant.0)

pub index_mut-requires : goal.index_mut-requires
index_mut-requires c =
    let t = c.self.inside in
    let s = (goal.at.index_mut-requires c).After-len-many in
    rw (sym c.len-many.ensures, many s) (next_within t.buckets.items t.mask t.further.entries c.self.invariant.0)

-- ---- the table after the split

items : (c : After-push_reserved) → c.push_reserved.new.self.items ≡ set c.self.inside.buckets.items (c.len-many.result - (c.self.inside.mask / 2 + 1)) c.split-stay.result.0 ++ c.split-stay.result.1 ∷ []
items c =
    c.push_reserved.ensures.items ∙ ap (λ (bs : List Bucket). set bs (c.len-many.result - (c.self.inside.mask / 2 + 1)) c.split-stay.result.0 ++ c.split-stay.result.1 ∷ []) c.in_ok-reserve.ensures.items

module _ (c : After-push_reserved) (long : c.len-many.result ≡ length c.self.inside.buckets.items) where
  from : c.len-many.result - (c.self.inside.mask / 2 + 1) ≡ length c.self.inside.buckets.items - (c.self.inside.mask / 2 + 1)
  from = ap (λ (k : ℕ). k - (c.self.inside.mask / 2 + 1)) long

  is : c.index.result.now ≡ get_or c.self.inside.buckets.items (c.len-many.result - (c.self.inside.mask / 2 + 1)) c.index.result.now
  is = c.index.ensures ∙ ap (λ (bs : List Bucket). get_or bs (c.len-many.result - (c.self.inside.mask / 2 + 1)) c.index.result.now) c.in_ok-reserve.ensures.items

  shared : AreShared c.self.inside.mask (length c.self.inside.buckets.items) (entries_of c.split-stay.result.0) (entries_of c.split-stay.result.1) (entries_of c.index.result.now)
  shared = subst (λ (k : ℕ). AreShared c.self.inside.mask k (entries_of c.split-stay.result.0) (entries_of c.split-stay.result.1) (entries_of c.index.result.now)) long c.split-stay.ensures.shared

  module _ (next : ℕ) (masks : IsNextMask c.self.inside.mask (length c.self.inside.buckets.items) next) where
    values : (ids : ℕ × ℕ) → value_of (layout c.push_reserved.new.self.items next c.self.inside.further.entries) ids ≡ value_of c.args.self.now ids
    values ids =
        let t = c.self.inside in
        ap (λ (bs : List Bucket). value_of (layout bs next t.further.entries) ids) (items c)
        ∙ split_values t.buckets.items t.mask t.further.entries c.self.invariant.0 (c.len-many.result - (t.mask / 2 + 1)) from c.index.result.now is c.split-stay.result.0 c.split-stay.result.1 shared c.split-stay.ensures.counts c.split-stay.ensures.stay c.split-stay.ensures.go next masks ids
        ∙ ap (λ t. value_of t ids) c.self.view_is

    same_counts : count_in (layout c.push_reserved.new.self.items next c.self.inside.further.entries) ≡ count_in c.args.self.now
    same_counts =
        let t = c.self.inside in
        ap (λ (bs : List Bucket). count_in (layout bs next t.further.entries)) (items c)
        ∙ split_counts t.buckets.items t.mask t.further.entries c.self.invariant.0 (c.len-many.result - (t.mask / 2 + 1)) from c.index.result.now is c.split-stay.result.0 c.split-stay.result.1 shared c.split-stay.ensures.counts c.split-stay.ensures.stay c.split-stay.ensures.go next masks
        ∙ ap count_in c.self.view_is

    longer : length (map entries_of c.push_reserved.new.self.items) ≡ length c.args.self.now.rows + 1
    longer =
        let t = c.self.inside in
        let i = c.len-many.result - (t.mask / 2 + 1) in
        omega (
          arith,
          length-map c.push_reserved.new.self.items entries_of,
          ap length (items c),
          length-append (set t.buckets.items i c.split-stay.result.0) (c.split-stay.result.1 ∷ []),
          length-set t.buckets.items i c.split-stay.result.0,
          length-map t.buckets.items entries_of,
          ap (λ t. length t.rows) c.self.view_is,
        )

    stays_table : IsPairTable (layout c.push_reserved.new.self.items next c.self.inside.further.entries)
    stays_table =
        let t = c.self.inside in
        subst (λ (bs : List Bucket). IsPairTable (layout bs next t.further.entries)) (sym (items c))
        (split_table t.buckets.items t.mask t.further.entries c.self.invariant.0 (c.len-many.result - (t.mask / 2 + 1)) from c.index.result.now is c.split-stay.result.0 c.split-stay.result.1 shared c.split-stay.ensures.counts c.split-stay.ensures.stay c.split-stay.ensures.go next masks)

    -- the buckets were full, and take some pairs more
    takes : TakesMore (layout c.push_reserved.new.self.items next c.self.inside.further.entries) c.room_gained-more.result
    takes =
        let rows : c.len-many.result ≡ length c.args.self.now.rows = omega (arith, long, length-map c.self.inside.buckets.items entries_of, ap (λ t. length t.rows) c.self.view_is) in
        omega (
          arith,
          c.requires,
          c.room_gained-more.ensures.gains,
          ap capacity rows,
          ap capacity (longer ∙ ap (λ (n : ℕ). n + 1) (sym rows)),
          same_counts,
          ap (λ t. length t.further) c.self.view_is,
        )

-- the number of buckets equals the mask
full : (c : goal.After-self-then-many-self-1) → (c.len-many.result ≡ length c.self.inside.buckets.items) × IsNextMask c.self.inside.mask (length c.self.inside.buckets.items) (2 * c.self.inside.mask + 1)
full c =
    let long = many (goal.at.returns-then-many-self-clause-counts c).After-len-many in
    (long, inr (sym long ∙ c.if-many-self.true, refl))

-- or fewer
fewer : (c : goal.Else-many-self) → (c.len-many.result ≡ length c.self.inside.buckets.items) × IsNextMask c.self.inside.mask (length c.self.inside.buckets.items) c.self.inside.mask
fewer c =
    let t = c.self.inside in
    let long = many (goal.at.returns-else-many-self-clause-counts c).After-len-many in
    (long, inl (lt_not t.mask (length t.buckets.items) (omega (arith, most t.buckets.items t.mask t.further.entries c.self.invariant.0)) (λ is. c.if-many-self.false (long ∙ is)), refl))

pub invariant_of-self-then-many-self : goal.invariant_of-self-then-many-self
invariant_of-self-then-many-self c =
    let s = (goal.at.invariant_of-self-then-many-self c).After-push_reserved in
    (stays_table s (full c).0 _ (full c).1, takes s (full c).0 _ (full c).1)

pub invariant_of-self-else-many-self : goal.invariant_of-self-else-many-self
invariant_of-self-else-many-self c =
    let s = (goal.at.invariant_of-self-else-many-self c).After-push_reserved in
    (stays_table s (fewer c).0 _ (fewer c).1, takes s (fewer c).0 _ (fewer c).1)

pub returns-then-many-self-clause-values : goal.returns-then-many-self-clause-values
returns-then-many-self-clause-values c = values (goal.at.returns-then-many-self-clause-values c).After-push_reserved (full c).0 _ (full c).1

pub returns-then-many-self-clause-counts : goal.returns-then-many-self-clause-counts
returns-then-many-self-clause-counts c = same_counts (goal.at.returns-then-many-self-clause-counts c).After-push_reserved (full c).0 _ (full c).1

pub returns-else-many-self-clause-values : goal.returns-else-many-self-clause-values
returns-else-many-self-clause-values c = values (goal.at.returns-else-many-self-clause-values c).After-push_reserved (fewer c).0 _ (fewer c).1

pub returns-else-many-self-clause-counts : goal.returns-else-many-self-clause-counts
returns-else-many-self-clause-counts c = same_counts (goal.at.returns-else-many-self-clause-counts c).After-push_reserved (fewer c).0 _ (fewer c).1

pub returns-then-many-self-clause-grows : goal.returns-then-many-self-clause-grows
returns-then-many-self-clause-grows c = longer (goal.at.returns-then-many-self-clause-grows c).After-push_reserved (full c).0 _ (full c).1

pub returns-else-many-self-clause-grows : goal.returns-else-many-self-clause-grows
returns-else-many-self-clause-grows c = longer (goal.at.returns-else-many-self-clause-grows c).After-push_reserved (fewer c).0 _ (fewer c).1

pub returns-then-many-self-clause-room : goal.returns-then-many-self-clause-room
returns-then-many-self-clause-room c = omega (arith, c.room_gained-more.ensures.some, takes (goal.at.returns-then-many-self-clause-room c).After-push_reserved (full c).0 _ (full c).1)

pub returns-else-many-self-clause-room : goal.returns-else-many-self-clause-room
returns-else-many-self-clause-room c = omega (arith, c.room_gained-more.ensures.some, takes (goal.at.returns-else-many-self-clause-room c).After-push_reserved (fewer c).0 _ (fewer c).1)
