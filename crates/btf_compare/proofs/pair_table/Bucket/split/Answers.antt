use Rattle.std.proofs.Common.{◌≡◌, ◌+◌, ℕ, suc, [], ◌∷◌, ◌++◌, length, take, get_or, refl, sym, ap, subst, ◌∙◌, arith, bit_and, inl, inr}
use Rattle.std.proofs.lemmas.Bool.{eq-eqb, ne_eqb, cases_Bool}
use Rattle.std.proofs.lemmas.List.{take_all, length-append}
use Rattle.std.proofs.Math.Seq.{take-suc}
use Rattle.btf_compare.specs.Buckets.{is_numbered}
use Rattle.btf_compare.specs.PairTable.{AreShared, entries_of, mark_of}
use Rattle.btf_compare.specs.declared.entries.Progress.{Progress}
use Rattle.btf_compare.specs.declared.entries.Progress.TheVariants.{Open}
use Rattle.btf_compare.proofs.PairTables.{one_goes, one_stays}
use Rattle.btf_compare.proofs.pair_table.Bucket.split.Goals.{then-spread-mask, else-spread-mask}
use Rattle.btf_compare.proofs.pair_table.Bucket.split.Goals as goal

pub loop-entry-init : goal.loop-entry-init
loop-entry-init c = record {
  shared = λ ids. elim (cases_Bool (is_numbered c.args.mask c.args.number ids)) [
    | inl is ↦ rw (is, c.new-go.ensures.empty) refl
    | inr not ↦ rw (not, c.new-stay.ensures.empty) refl
  ];
  counts = rw (c.new-go.ensures.empty, c.new-stay.ensures.empty) refl;
  stay = c.new-stay.ensures.overflows;
  go = c.new-go.ensures.overflows;
}

pub push-requires : goal.push-requires
push-requires c = (omega arith, omega (arith, c.loop-entry.invariant.counts, c.loop-entry-test.true, c.deref-entry-items.ensures.1))

pub push-requires-else-spread-mask : goal.push-requires-else-spread-mask
push-requires-else-spread-mask c = (omega arith, omega (arith, c.loop-entry.invariant.counts, c.loop-entry-test.true, c.deref-entry-items.ensures.1))

pub loop-entry-preserved : goal.loop-entry-preserved
loop-entry-preserved c =
    let items = c.deref-entry-items.result.now in
    let i = c.loop-entry.entry-index in
    let e : (ℕ × ℕ) × Progress = get_or items i ((0, 0), Open) in
    let one : i + 1 ≡ suc i = omega arith in
    let next : take (i + 1) items ≡ take i items ++ e ∷ [] = ap (λ k. take k items) one ∙ take-suc items i ((0, 0), Open) c.loop-entry-test.true in
    let old = c.loop-entry.invariant in
    elim c.if-spread-mask.branch [
      | then-spread-mask w ↦
          let stays : entries_of c.if-spread-mask.stay ≡ entries_of c.loop-entry.stay = ap entries_of w.stay-is in
          let goes : entries_of c.if-spread-mask.go ≡ entries_of c.loop-entry.go ++ e ∷ [] = ap entries_of w.go-is ∙ w.push.ensures in
          record {
            shared = rw (stays, goes, next)
                (one_goes c.args.mask c.args.number (entries_of c.loop-entry.stay) (entries_of c.loop-entry.go) (take i items) old.shared e (eq-eqb _ _ (ap (λ h. bit_and h c.args.mask) (sym c.spread.ensures) ∙ w.if-spread-mask.true)));
            counts = rw (stays, goes) (omega (arith, old.counts, length-append (entries_of c.loop-entry.go) (e ∷ [])));
            stay = ap mark_of w.stay-is ∙ old.stay;
            go = ap mark_of w.go-is ∙ old.go;
          }
      | else-spread-mask w ↦
          let stays : entries_of c.if-spread-mask.stay ≡ entries_of c.loop-entry.stay ++ e ∷ [] = ap entries_of w.stay-is ∙ w.push-else-spread-mask.ensures in
          let goes : entries_of c.if-spread-mask.go ≡ entries_of c.loop-entry.go = ap entries_of w.go-is in
          record {
            shared = rw (stays, goes, next)
                (one_stays c.args.mask c.args.number (entries_of c.loop-entry.stay) (entries_of c.loop-entry.go) (take i items) old.shared e
                (ne_eqb _ _ (λ is. w.if-spread-mask.false (ap (λ h. bit_and h c.args.mask) c.spread.ensures ∙ is))));
            counts = rw (stays, goes) (omega (arith, old.counts, length-append (entries_of c.loop-entry.stay) (e ∷ [])));
            stay = ap mark_of w.stay-is ∙ old.stay;
            go = ap mark_of w.go-is ∙ old.go;
          }
    ]

pub returns-clause-shared : goal.returns-clause-shared
returns-clause-shared c =
    let items = c.deref-entry-items.result.now in
    subst (AreShared c.args.mask c.args.number (entries_of c.loop-entry.stay) (entries_of c.loop-entry.go)) (take_all c.loop-entry.entry-index items c.loop-entry-test.false ∙ c.deref-entry-items.ensures.0) c.loop-entry.invariant.shared

pub returns-clause-counts : goal.returns-clause-counts
returns-clause-counts c = c.loop-entry.invariant.counts ∙ omega (arith, c.loop-entry-test.false, c.loop-entry.auto.entry-index-end, ap length c.deref-entry-items.ensures.0)

pub returns-clause-stay : goal.returns-clause-stay
returns-clause-stay c = c.loop-entry.invariant.stay

pub returns-clause-go : goal.returns-clause-go
returns-clause-go c = c.loop-entry.invariant.go
