use Rattle.std.proofs.Common.{ℕ, sym, ◌∙◌, suc, ◌+◌, arith, ◌≡◌, get_or}
use Rattle.std.proofs.lemmas.Option.{slice_get-get_or}
use Rattle.btf_compare.specs.declared.entries.Progress.{Progress}
use Rattle.btf_compare.specs.declared.entries.Progress.TheVariants.{Open}
use Rattle.btf_compare.proofs.EntryLists.{ids_eq, none_so_far, place_here}
use Rattle.btf_compare.proofs.entries.Entries.place.Goals as goal

pub returns-then-eq-clause-place : goal.returns-then-eq-clause-place
returns-then-eq-clause-place g c =
    let entries = c.deref-entry-items.result.now in
    let e : (ℕ × ℕ) × Progress = get_or entries c.loop-index.index ((0, 0), Open) in
    rw (sym c.deref-entry-items.ensures.0) (
    place_here c.args.pair entries c.loop-index.index e (slice_get-get_or entries c.loop-index.index ((0, 0), Open) c.loop-index-test.true) c.loop-index.invariant
    (sym (ids_eq c.args.pair e.0) ∙ (sym c.eq.ensures ∙ c.if-eq.true)))

pub loop-index-preserved : goal.loop-index-preserved
loop-index-preserved g c =
    let entries = c.deref-entry-items.result.now in
    let e : (ℕ × ℕ) × Progress = get_or entries c.loop-index.index ((0, 0), Open) in
    let next : c.loop-index.index + 1 ≡ suc c.loop-index.index = omega arith in
    rw next (none_so_far c.args.pair entries c.loop-index.index e (slice_get-get_or entries c.loop-index.index ((0, 0), Open) c.loop-index-test.true) c.loop-index.invariant
    (sym (ids_eq c.args.pair e.0) ∙ (sym c.eq.ensures ∙ c.if-eq.false)))
