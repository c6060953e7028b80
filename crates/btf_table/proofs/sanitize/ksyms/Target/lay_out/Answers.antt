use Rattle.std.proofs.Common.{◌≡◌, ℕ, Option, refl, ◌+◌, ◌*◌, List, ◌∷◌, [], ◌++◌, length, take, drop, ap, ◌∙◌, arith, Ok}
use Rattle.btf_model.specs.Record.{Record, kind_of, vlen}
use Rattle.btf_model.specs.Refusal.{Refusal}
use Rattle.btf_model.proofs.Comparisons.{same_ok}
use Rattle.btf_table.specs.KsymsStep.{symbol_target, laid_out_anew}
use Rattle.btf_table.proofs.KsymsItems.{laid_next, laid_all, laid_same_len}
use Rattle.btf_table.proofs.sanitize.ksyms.Target.lay_out.Goals as goal

pub loop-index-init : goal.loop-index-init
loop-index-init c =
    let same : _ = same_ok {E = Refusal} c.in_ok-laid_out.laid_out c.args.data_sec.now c.in_ok-laid_out.ensures in
    (ap (λ (r : Record). r.info) same, λ placeholder is. same ∙ ap (λ (tail : List ℕ). record c.args.data_sec.now { tail = tail }) c.entries-entry-items.ensures.words)

pub set_entry-requires : goal.set_entry-requires
set_entry-requires c = omega (arith, c.loop-index-test.true, c.entries-entry-items.ensures.count, ap vlen c.loop-index.invariant.0)

pub loop-index-preserved : goal.loop-index-preserved
loop-index-preserved c =
    let i : ℕ = c.loop-index.index in
    let new : ℕ = c.entry_type.result in (
      ap (λ (r : Record). r.info) c.set_entry.ensures ∙ c.loop-index.invariant.0,
      λ placeholder is.
          c.set_entry.ensures ∙ ap (λ (r : Record). record r { tail = take (3 * i) r.tail ++ (new ∷ 4 * i ∷ 4 ∷ []) ++ drop (3 * i + 3) r.tail }) (c.loop-index.invariant.1 placeholder is)
          ∙ ap (λ (tail : List ℕ). record c.args.data_sec.now { tail = tail }) (laid_next c.args.btf.now placeholder c.entries-entry-items.result.now i new c.loop-index-test.true (c.entry_type.ensures placeholder is)),
    )

laid : (c : goal.After-set_size) (placeholder : Option ℕ) → c.args.self.now ≡ symbol_target c.args.btf.now placeholder → c.set_size.new.self ≡ laid_out_anew c.args.btf.now placeholder c.args.data_sec.now
laid c placeholder is =
    c.set_size.ensures ∙ ap (λ (r : Record). record r { third = 4 * length c.entries.result.now }) (c.loop-index.invariant.1 placeholder is)
    ∙ laid_all c.args.btf.now placeholder c.args.data_sec.now c.loop-index.index c.entries-entry-items.result.now c.entries.result.now c.entries-entry-items.ensures.words c.entries.ensures.words c.loop-index-test.false

pub returns-clause-like : goal.returns-clause-like
returns-clause-like c = λ placeholder is.
    let same : _ = laid c placeholder is in
    record {
      kind = ap (λ (r : Record). kind_of r.info) same;
      length = ap (λ (r : Record). length r.tail) same ∙ laid_same_len c.args.btf.now placeholder c.args.data_sec.now c.entries-entry-items.result.now c.entries-entry-items.ensures.words;
      fallback = refl;
    }

pub returns-clause-words : goal.returns-clause-words
returns-clause-words c = λ placeholder is. ap (λ (r : Record). Ok r) (laid c placeholder is)
