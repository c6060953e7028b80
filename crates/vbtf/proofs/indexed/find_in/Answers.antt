use Rattle.std.proofs.Common.{◌≡◌, ◌∙◌, refl, sym, subst, inl, ℕ}
use Rattle.std.specs.Prelude.{Result}
use Rattle.btf_model.specs.Record.{Kind}
use Rattle.btf_model.specs.Table.{Table}
use Rattle.btf_plain.specs.declared.error.BtfError.{BtfError}
use Rattle.btf_plain.specs.Error.{MeetsOrNoMemory, refusal_of}
use Rattle.vbtf.specs.IndexFinding.{FindsIndexed}
use Rattle.vbtf.proofs.Ending.{ends_refused}
use Rattle.vbtf.proofs.SameKind.{same_kind}
use Rattle.vbtf.proofs.indexed.find_in.Goals as goal

pub returns-in-Some-Ok-clause-found : goal.returns-in-Some-Ok-clause-found
returns-in-Some-Ok-clause-found c some utf8 full k is =
    let m = c.in-Some-Ok.ensures in
    let same : m.2 ≡ k = same_kind m.2 k (sym m.3 ∙ is) in
    inl (inl (
      refl,
      subst (λ (p : Table × Kind × Result ℕ BtfError). MeetsOrNoMemory (λ (n : ℕ). n) p.2 (FindsIndexed p.0 p.1 c.args.name.now))
          (λ i. (c.args.opened.now.btf, same i, c.in-Some-Ok.field-0-is i)) m.4,
    ))

pub returns-in-Some-Err-clause-found : goal.returns-in-Some-Err-clause-found
returns-in-Some-Err-clause-found c some utf8 full k is =
    let m = c.in-Some-Err.ensures in
    let same : m.2 ≡ k = same_kind m.2 k (sym m.3 ∙ is) in
    ends_refused c.report.result c.args.id.now c.report.new.fault (refusal_of c.in-Some-Err.error) (FindsIndexed c.args.opened.now.btf k c.args.name.now)
    (subst (λ (p : Table × Kind × Result ℕ BtfError). MeetsOrNoMemory (λ (n : ℕ). n) p.2 (FindsIndexed p.0 p.1 c.args.name.now))
    (λ i. (c.args.opened.now.btf, same i, c.in-Some-Err.field-0-is i)) m.4) c.report.ensures
