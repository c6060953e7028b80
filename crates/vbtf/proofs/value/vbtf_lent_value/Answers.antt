use Rattle.std.proofs.Common.{◌≡◌, ◌∙◌, refl, sym, ap, subst, inl, inr, ℕ, List, Option, Some, None, Result, Ok, Err}
use Rattle.btf_model.specs.Value.{Value}
use Rattle.btf_plain.specs.declared.error.BtfError.{BtfError}
use Rattle.btf_above.specs.Variants.{NamesAreUtf8}
use Rattle.btf_plain.specs.Error.{Meets, MeetsOrNoMemory, refusal_of}
use Rattle.vbtf.specs.declared.opened.Opened.{Opened}
use Rattle.vbtf.specs.Status.{ReportsError}
use Rattle.vbtf.proofs.Ending.{finding_refused}
use Rattle.vbtf.proofs.value.vbtf_lent_value.Goals as goal

-- the value of a name in a table is the value of an equal name in an equal table
same : (id : ℕ) (old new : Opened) (name other : List ℕ) (answer result : Result (Option ℕ) BtfError)
    → old ≡ new → name ≡ other → answer ≡ result
    → MeetsOrNoMemory (λ v. v) answer (Value old.btf id name) → MeetsOrNoMemory (λ v. v) result (Value new.btf id other)
same id old new name other answer result e n a =
    subst (λ (p : Opened × List ℕ × Result (Option ℕ) BtfError). MeetsOrNoMemory (λ v. v) p.2 (Value p.0.btf id p.1)) (λ i. (e i, n i, a i))

pub returns-in_default-found-clause-found : goal.returns-in_default-found-clause-found
returns-in_default-found-clause-found c two utf8 =
    inl (inr (inl (refl, same c.args.id _ _ _ _ _ (Ok None) (c.get.ensures ∙ c.in-Some.ensures.2) c.in-Ok.ensures.cases.0 (c.in-Ok-answer.is ∙ ap Ok c.in_default-found.is) c.variant_value-answer.ensures.value)))

pub returns-clause-found : goal.returns-clause-found
returns-clause-found c two utf8 =
    inl (inl (refl, same c.args.id _ _ _ _ _ (Ok (Some c.in-Some-found.found)) (c.get.ensures ∙ c.in-Some.ensures.2) c.in-Ok.ensures.cases.0 (c.in-Ok-answer.is ∙ ap Ok c.in-Some-found.is) c.variant_value-answer.ensures.value))

pub returns-in-Err-clause-found : goal.returns-in-Err-clause-found
returns-in-Err-clause-found c two utf8 =
    finding_refused c.report.result c.args.value.now c.report.new.fault (refusal_of c.in-Err.error) (Value c.args.table.now.opened.btf c.args.id c.args.name.now)
    (same c.args.id _ _ _ _ _ (Err c.in-Err.error) (c.get.ensures ∙ c.in-Some.ensures.2) c.in-Ok.ensures.cases.0 c.in-Err.is c.variant_value-answer.ensures.value) c.report.ensures

-- the same, if nothing is allocated
same_alone : (id : ℕ) (old new : Opened) (name other : List ℕ) (answer result : Result (Option ℕ) BtfError)
    → old ≡ new → name ≡ other → answer ≡ result
    → Meets (λ v. v) answer (Value old.btf id name) → Meets (λ v. v) result (Value new.btf id other)
same_alone id old new name other answer result e n a =
    subst (λ (p : Opened × List ℕ × Result (Option ℕ) BtfError). Meets (λ v. v) p.2 (Value p.0.btf id p.1)) (λ i. (e i, n i, a i))

pub returns-in_default-found-clause-no_memory : goal.returns-in_default-found-clause-no_memory
returns-in_default-found-clause-no_memory c two utf8 names =
    inr (inl (refl, same c.args.id _ _ _ _ _ (Ok None) (c.get.ensures ∙ c.in-Some.ensures.2) c.in-Ok.ensures.cases.0 (c.in-Ok-answer.is ∙ ap Ok c.in_default-found.is) c.variant_value-answer.ensures.value))

pub returns-clause-no_memory : goal.returns-clause-no_memory
returns-clause-no_memory c two utf8 names =
    inl (refl, same c.args.id _ _ _ _ _ (Ok (Some c.in-Some-found.found)) (c.get.ensures ∙ c.in-Some.ensures.2) c.in-Ok.ensures.cases.0 (c.in-Ok-answer.is ∙ ap Ok c.in-Some-found.is) c.variant_value-answer.ensures.value)

pub returns-in-Err-clause-no_memory : goal.returns-in-Err-clause-no_memory
returns-in-Err-clause-no_memory c two utf8 names =
    let is = c.get.ensures ∙ c.in-Some.ensures.2 in
    let here = subst (λ (o : Opened). NamesAreUtf8 o.btf c.args.id) (sym is) names in
    let found = same_alone c.args.id _ _ _ _ _ (Err c.in-Err.error) is c.in-Ok.ensures.cases.0 c.in-Err.is (c.variant_value-answer.ensures.no_memory here) in
    inr (inr (found.0, subst (ReportsError c.report.result c.report.new.fault) found.1 c.report.ensures, found.2))
