use Rattle.std.proofs.Common.{◌≡◌, ◌∙◌, refl, sym, subst, inl, ℕ}
use Rattle.std.specs.Prelude.{Option, Result}
use Rattle.std.proofs.lemmas.Option.{same_Some}
use Rattle.btf_model.specs.Record.{Kind}
use Rattle.btf_plain.specs.declared.error.BtfError.{BtfError}
use Rattle.btf_plain.specs.Error.{MeetsOrNoMemory, refusal_of}
use Rattle.vbtf.specs.Finding.{FindsFrom}
use Rattle.vbtf.specs.declared.opened.Opened.{Opened}
use Rattle.vbtf.proofs.Ending.{ends_refused}
use Rattle.vbtf.proofs.find.vbtf_lent_find_from.Goals as goal

pub returns-in-Some-Ok-clause-found : goal.returns-in-Some-Ok-clause-found
returns-in-Some-Ok-clause-found c two utf8 wanted is =
    let e : c.get.result.now ≡ c.args.table.now.opened = c.get.ensures ∙ c.in-Some.ensures.2 in
    let m = c.in-Some-Ok.ensures in let same : m.1 ≡ wanted = same_Some m.1 wanted (sym m.2 ∙ is) in
    inl (inl (
      refl,
      subst (λ (p : Opened × Option Kind × Result ℕ BtfError). MeetsOrNoMemory (λ (n : ℕ). n) p.2 (FindsFrom p.0.btf.strings p.0.btf.records p.1 c.args.name.now c.args.first))
          (λ i. (e i, same i, c.in-Some-Ok.field-0-is i)) m.3,
    ))

pub returns-in-Some-Err-clause-found : goal.returns-in-Some-Err-clause-found
returns-in-Some-Err-clause-found c two utf8 wanted is =
    let e : c.get.result.now ≡ c.args.table.now.opened = c.get.ensures ∙ c.in-Some.ensures.2 in
    let m = c.in-Some-Err.ensures in let same : m.1 ≡ wanted = same_Some m.1 wanted (sym m.2 ∙ is) in
    let o = refusal_of c.in-Some-Err.error in
    ends_refused c.report.result c.args.id.now c.report.new.fault o
    (FindsFrom c.args.table.now.opened.btf.strings c.args.table.now.opened.btf.records wanted c.args.name.now c.args.first)
    (subst (λ (p : Opened × Option Kind × Result ℕ BtfError). MeetsOrNoMemory (λ (n : ℕ). n) p.2 (FindsFrom p.0.btf.strings p.0.btf.records p.1 c.args.name.now c.args.first))
    (λ i. (e i, same i, c.in-Some-Err.field-0-is i)) m.3) c.report.ensures
