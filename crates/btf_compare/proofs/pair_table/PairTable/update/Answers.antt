use Rattle.std.proofs.Common.{rules, ◌≡◌, ℕ, ◌+◌, ap, sym, refl, ◌∙◌, length, false, Option, Some, None, is_some}
use Rattle.std.specs.Prelude.{cond}
use Rattle.std.proofs.lemmas.Option.{none-some}
use Rattle.std.proofs.lemmas.Bool.{false≢true}
use Rattle.btf_compare.specs.Entries.{is_ids, values_in, Sets}
use Rattle.btf_compare.specs.declared.entries.Progress.{Progress}
use Rattle.btf_compare.specs.Buckets.{bucket_of}
use Rattle.btf_compare.specs.PairTable.{count_in, entries_of, value_of}
use Rattle.btf_compare.proofs.PairTables.{set_sets, set_table, set_counts, more_sets, more_table, more_counts, takes_more}
use Rattle.btf_compare.proofs.pair_table.PairTable.update.Goals as goal
use Rattle.btf_compare.proofs.pair_table.PairTable.update.Goals.{After-index_mut, In-Some}

none_is : (o : Option Progress) → is_some o ≡ false → o ≡ None
none_is None is = refl
none_is (Some p) is = absurd (false≢true (sym is))

at : (c : After-index_mut) → c.bucket_of-index.result ≡ bucket_of c.self.inside.mask (length c.self.inside.buckets.items) c.args.pair
at c = c.bucket_of-index.ensures ∙ ap (λ (n : ℕ). bucket_of c.self.inside.mask n c.args.pair) (c.len.ensures ∙ c.self.inside.buckets.ok.0)

map_sets : (c : In-Some) → Sets (values_in c.self.inside.further.entries) (values_in (c.get_mut.follows.lender c.args.progress).entries) c.args.pair c.args.progress
map_sets c = ((c.get_mut.follows.holds c.args.progress).3 (search rules)).0

map_long : (c : In-Some) → length (c.get_mut.follows.lender c.args.progress).entries ≡ length c.self.inside.further.entries
map_long c = (c.get_mut.follows.holds c.args.progress).2

-- an entry whose value changes was there
map_some : (c : In-Some) → values_in c.self.inside.further.entries c.args.pair ≡ None → ⊥
map_some c none = none-some _ (sym none ∙ sym (c.in-Some.ensures.value))

-- its bucket has no entry of the pair
not_here : (c : In-Some) → values_in (entries_of c.index_mut.result.now) c.args.pair ≡ None
not_here c = none_is _ (sym c.if-not-set.ensures.found)

not_set : (c : In-Some) → c.set.new.self.list.items ≡ entries_of c.index_mut.result.now
not_set c = c.if-not-set.ensures.stays refl

pub invariant_of-self : goal.invariant_of-self
invariant_of-self c =
    let s = (goal.at.invariant_of-self c).After-index_mut in
    let t = c.self.inside in
    let b = c.index_mut.result.now in (
      more_table t.buckets.items t.mask t.further.entries c.self.invariant.0 c.args.pair c.bucket_of-index.result (at s) b c.index_mut.ensures.value c.args.progress (record { entries = c.set.new.self; overflows = b.overflows }) (not_here (goal.at.invariant_of-self c).In-Some) (not_set (goal.at.invariant_of-self c).In-Some) refl (c.get_mut.follows.lender c.args.progress).entries
          (map_sets (goal.at.invariant_of-self c).In-Some) (map_long (goal.at.invariant_of-self c).In-Some) (map_some (goal.at.invariant_of-self c).In-Some),
      takes_more t.buckets.items t.mask t.further.entries c.self.invariant.0 c.args.pair c.bucket_of-index.result (at s) b c.index_mut.ensures.value (record { entries = c.set.new.self; overflows = b.overflows }) (c.get_mut.follows.lender c.args.progress).entries t.left t.left c.self.invariant.1
          (ap (λ (n : ℕ). t.left + n) c.set.ensures.len),
    )

pub returns-in-Some-clause-learns : goal.returns-in-Some-clause-learns
returns-in-Some-clause-learns c ids =
    let s = (goal.at.returns-in-Some-clause-learns c).After-index_mut in
    let t = c.self.inside in
    let b = c.index_mut.result.now in
    more_sets t.buckets.items t.mask t.further.entries c.self.invariant.0 c.args.pair c.bucket_of-index.result (at s) b c.index_mut.ensures.value c.args.progress (record { entries = c.set.new.self; overflows = b.overflows }) (not_here (goal.at.returns-in-Some-clause-learns c).In-Some) (not_set (goal.at.returns-in-Some-clause-learns c).In-Some) refl (c.get_mut.follows.lender c.args.progress).entries
    (map_sets (goal.at.returns-in-Some-clause-learns c).In-Some) (map_long (goal.at.returns-in-Some-clause-learns c).In-Some) (map_some (goal.at.returns-in-Some-clause-learns c).In-Some) ids
    ∙ ap (λ t. cond (is_ids c.args.pair ids) (Some c.args.progress) (value_of t ids)) c.self.view_is

pub returns-in-Some-clause-counts : goal.returns-in-Some-clause-counts
returns-in-Some-clause-counts c =
    let s = (goal.at.returns-in-Some-clause-counts c).After-index_mut in
    let t = c.self.inside in
    let b = c.index_mut.result.now in
    more_counts t.buckets.items t.mask t.further.entries c.self.invariant.0 c.args.pair c.bucket_of-index.result (at s) b c.index_mut.ensures.value c.args.progress (record { entries = c.set.new.self; overflows = b.overflows }) (not_here (goal.at.returns-in-Some-clause-counts c).In-Some) (not_set (goal.at.returns-in-Some-clause-counts c).In-Some) refl (c.get_mut.follows.lender c.args.progress).entries
    (map_sets (goal.at.returns-in-Some-clause-counts c).In-Some) (map_long (goal.at.returns-in-Some-clause-counts c).In-Some) (map_some (goal.at.returns-in-Some-clause-counts c).In-Some)
    ∙ ap count_in c.self.view_is

pub invariant_of-self-else-not-set : goal.invariant_of-self-else-not-set
invariant_of-self-else-not-set c =
    let s = (goal.at.invariant_of-self-else-not-set c).After-index_mut in
    let t = c.self.inside in
    let b = c.index_mut.result.now in (
      set_table t.buckets.items t.mask t.further.entries c.self.invariant.0 c.args.pair c.bucket_of-index.result (at s) b c.index_mut.ensures.value c.args.progress (record { entries = c.set.new.self; overflows = b.overflows }) (c.if-not-set.ensures.sets refl) c.set.ensures.len refl,
      takes_more t.buckets.items t.mask t.further.entries c.self.invariant.0 c.args.pair c.bucket_of-index.result (at s) b c.index_mut.ensures.value (record { entries = c.set.new.self; overflows = b.overflows }) t.further.entries t.left t.left c.self.invariant.1 (ap (λ (n : ℕ). t.left + n) c.set.ensures.len),
    )

pub returns-else-not-set-clause-learns : goal.returns-else-not-set-clause-learns
returns-else-not-set-clause-learns c ids =
    let s = (goal.at.returns-else-not-set-clause-learns c).After-index_mut in
    let t = c.self.inside in
    let b = c.index_mut.result.now in
    set_sets t.buckets.items t.mask t.further.entries c.self.invariant.0 c.args.pair c.bucket_of-index.result (at s) b c.index_mut.ensures.value c.args.progress (record { entries = c.set.new.self; overflows = b.overflows }) (c.if-not-set.ensures.sets refl) c.set.ensures.len refl ids
    ∙ ap (λ t. cond (is_ids c.args.pair ids) (Some c.args.progress) (value_of t ids)) c.self.view_is

pub returns-else-not-set-clause-counts : goal.returns-else-not-set-clause-counts
returns-else-not-set-clause-counts c =
    let s = (goal.at.returns-else-not-set-clause-counts c).After-index_mut in
    let t = c.self.inside in
    let b = c.index_mut.result.now in
    set_counts t.buckets.items t.mask t.further.entries c.self.invariant.0 c.args.pair c.bucket_of-index.result (at s) b c.index_mut.ensures.value c.args.progress (record { entries = c.set.new.self; overflows = b.overflows }) (c.if-not-set.ensures.sets refl) c.set.ensures.len refl
    ∙ ap count_in c.self.view_is
