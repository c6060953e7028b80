use Rattle.std.proofs.Common.{◌≡◌, ℕ, ◌+◌, ◌-◌, ◌<◌, [], ◌∷◌, ap, sym, subst, refl, ◌∙◌, arith, length, true, Option, Some, None, is_some}
use Rattle.std.specs.Prelude.{cond, if◌then◌else◌}
use Rattle.std.proofs.lemmas.List.{length-append}
use Rattle.btf_compare.specs.Entries.{is_ids, values_in}
use Rattle.btf_compare.specs.declared.entries.Progress.{Progress}
use Rattle.btf_compare.specs.Buckets.{bucket_of}
use Rattle.btf_compare.specs.PairTable.{HasRoom, count_in, entries_of, layout, value_of}
use Rattle.btf_compare.proofs.PairTables.{absent, within, takes_more, pushed_sets, pushed_table, pushed_counts, over_sets, over_table, over_counts}
use Rattle.btf_compare.proofs.pair_table.PairTable.insert.Goals as goal
use Rattle.btf_compare.proofs.pair_table.PairTable.insert.Goals.{After-index_mut-bucket, In_ok-insert}

at : (c : After-index_mut-bucket) → c.bucket_of-index.result ≡ bucket_of c.self.inside.mask (length c.self.inside.buckets.items) c.args.pair
at c = c.bucket_of-index.ensures ∙ ap (λ (n : ℕ). bucket_of c.self.inside.mask n c.args.pair) (c.len.ensures ∙ c.self.inside.buckets.ok.0)

-- a split changes neither the value of a pair nor the number of entries
same_values : (c : After-index_mut-bucket) (ids : ℕ × ℕ) → value_of (layout c.self.inside.buckets.items c.self.inside.mask c.self.inside.further.entries) ids ≡ value_of c.args.self.now ids
same_values c ids = ap (λ t. value_of t ids) c.self.view_is ∙ c.in_ok-make_room.ensures.values ids

same_counts : (c : After-index_mut-bucket) → count_in (layout c.self.inside.buckets.items c.self.inside.mask c.self.inside.further.entries) ≡ count_in c.args.self.now
same_counts c = ap count_in c.self.view_is ∙ c.in_ok-make_room.ensures.counts

-- the buckets take one more pair
some_left : (c : After-index_mut-bucket) → 0 < c.self.inside.left
some_left c = omega (arith, c.self.invariant.1, subst HasRoom (sym c.self.view_is) c.in_ok-make_room.ensures.room)

-- the pair was not in the ordered map, so the map gains an entry
gone : (c : After-index_mut-bucket) → values_in c.self.inside.further.entries c.args.pair ≡ None
gone c =
    let t = c.self.inside in
    absent t.buckets.items t.mask t.further.entries c.self.invariant.0 c.args.pair c.bucket_of-index.result (at c) c.index_mut-bucket.result.now c.index_mut-bucket.ensures.value (same_values c c.args.pair ∙ c.requires)

longer : (c : In_ok-insert) → values_in c.self.inside.further.entries c.args.pair ≡ None → length c.insert.new.self.entries ≡ length c.self.inside.further.entries + 1
longer c none =
    c.in_ok-insert.ensures.len ∙ ap (λ (o : Option Progress). length c.self.inside.further.entries + (if is_some o then 0 else 1)) (c.in_ok-insert.ensures.old ∙ none)

pub index_mut-bucket-requires : goal.index_mut-bucket-requires
index_mut-bucket-requires c =
    let t = c.self.inside in
    rw (c.bucket_of-index.ensures, c.len.ensures, t.buckets.ok.0) (within t.buckets.items t.mask t.further.entries c.self.invariant.0 c.args.pair)

pub invariant_of-self-then-are_full : goal.invariant_of-self-then-are_full
invariant_of-self-then-are_full c =
    let s = (goal.at.invariant_of-self-then-are_full c).After-index_mut-bucket in
    let t = c.self.inside in
    let b = c.index_mut-bucket.result.now in (
      over_table t.buckets.items t.mask t.further.entries c.self.invariant.0 c.args.pair c.bucket_of-index.result (at s) b c.index_mut-bucket.ensures.value c.args.progress (same_values s c.args.pair ∙ c.requires) (record { entries = b.entries; overflows = true }) refl refl c.insert.new.self.entries
          c.in_ok-insert.ensures.updates.0 (longer (goal.at.invariant_of-self-then-are_full c).In_ok-insert (gone s)),
      takes_more t.buckets.items t.mask t.further.entries c.self.invariant.0 c.args.pair c.bucket_of-index.result (at s) b c.index_mut-bucket.ensures.value (record { entries = b.entries; overflows = true }) c.insert.new.self.entries t.left t.left c.self.invariant.1 refl,
    )

pub invariant_of-self-else-are_full : goal.invariant_of-self-else-are_full
invariant_of-self-else-are_full c =
    let s = (goal.at.invariant_of-self-else-are_full c).After-index_mut-bucket in
    let t = c.self.inside in
    let b = c.index_mut-bucket.result.now in (
      pushed_table t.buckets.items t.mask t.further.entries c.self.invariant.0 c.args.pair c.bucket_of-index.result (at s) b c.index_mut-bucket.ensures.value c.args.progress (same_values s c.args.pair ∙ c.requires) (record { entries = c.push.new.self; overflows = b.overflows }) c.push.ensures refl,
      takes_more t.buckets.items t.mask t.further.entries c.self.invariant.0 c.args.pair c.bucket_of-index.result (at s) b c.index_mut-bucket.ensures.value (record { entries = c.push.new.self; overflows = b.overflows }) t.further.entries t.left (t.left - 1) c.self.invariant.1
          (omega (arith, ap length c.push.ensures, length-append (entries_of b) ((c.args.pair, c.args.progress) ∷ []), some_left s)),
    )

pub returns-in_ok-insert-clause-learns : goal.returns-in_ok-insert-clause-learns
returns-in_ok-insert-clause-learns c ids =
    let s = (goal.at.returns-in_ok-insert-clause-learns c).After-index_mut-bucket in
    let t = c.self.inside in
    let b = c.index_mut-bucket.result.now in
    over_sets t.buckets.items t.mask t.further.entries c.self.invariant.0 c.args.pair c.bucket_of-index.result (at s) b c.index_mut-bucket.ensures.value c.args.progress (same_values s c.args.pair ∙ c.requires) (record { entries = b.entries; overflows = true }) refl refl c.insert.new.self.entries
    c.in_ok-insert.ensures.updates.0 (longer (goal.at.returns-in_ok-insert-clause-learns c).In_ok-insert (gone s)) ids
    ∙ ap (λ (o : Option Progress). cond (is_ids c.args.pair ids) (Some c.args.progress) o) (same_values s ids)

pub returns-in_ok-insert-clause-counts : goal.returns-in_ok-insert-clause-counts
returns-in_ok-insert-clause-counts c =
    let s = (goal.at.returns-in_ok-insert-clause-counts c).After-index_mut-bucket in
    let t = c.self.inside in
    let b = c.index_mut-bucket.result.now in
    over_counts t.buckets.items t.mask t.further.entries c.self.invariant.0 c.args.pair c.bucket_of-index.result (at s) b c.index_mut-bucket.ensures.value c.args.progress (same_values s c.args.pair ∙ c.requires) (record { entries = b.entries; overflows = true }) refl refl c.insert.new.self.entries
    c.in_ok-insert.ensures.updates.0 (longer (goal.at.returns-in_ok-insert-clause-counts c).In_ok-insert (gone s))
    ∙ ap (λ (n : ℕ). n + 1) (same_counts s)

pub returns-else-are_full-clause-learns : goal.returns-else-are_full-clause-learns
returns-else-are_full-clause-learns c ids =
    let s = (goal.at.returns-else-are_full-clause-learns c).After-index_mut-bucket in
    let t = c.self.inside in
    let b = c.index_mut-bucket.result.now in
    pushed_sets t.buckets.items t.mask t.further.entries c.self.invariant.0 c.args.pair c.bucket_of-index.result (at s) b c.index_mut-bucket.ensures.value c.args.progress (same_values s c.args.pair ∙ c.requires) (record { entries = c.push.new.self; overflows = b.overflows }) c.push.ensures refl ids
    ∙ ap (λ (o : Option Progress). cond (is_ids c.args.pair ids) (Some c.args.progress) o) (same_values s ids)

pub returns-else-are_full-clause-counts : goal.returns-else-are_full-clause-counts
returns-else-are_full-clause-counts c =
    let s = (goal.at.returns-else-are_full-clause-counts c).After-index_mut-bucket in
    let t = c.self.inside in
    let b = c.index_mut-bucket.result.now in
    pushed_counts t.buckets.items t.mask t.further.entries c.self.invariant.0 c.args.pair c.bucket_of-index.result (at s) b c.index_mut-bucket.ensures.value c.args.progress (same_values s c.args.pair ∙ c.requires) (record { entries = c.push.new.self; overflows = b.overflows }) c.push.ensures refl
    ∙ ap (λ (n : ℕ). n + 1) (same_counts s)
