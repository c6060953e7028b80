use Rattle.std.proofs.Common.{subst, ◌∙◌}
use Rattle.std.specs.Prelude.{OnOk}
use Rattle.std.proofs.lemmas.Result.{on_ok_weaker}
use Rattle.btf_model.specs.Spelling.{IsWhole}
use Rattle.btf_plain.specs.Kind as kinds
use Rattle.btf_plain.specs.Head.{headed}
use Rattle.btf_plain.proofs.record.Record.append_to.Goals as goal

pub returns-clause-whole : goal.returns-clause-whole
returns-clause-whole g c =
    let k = kinds.kind g.K.Kind.KIND in
    let head = c.self.inside.head in
    let ws = g.K.Tail.Words.words c.self.inside.tail in
    subst (λ r. OnOk c.append_to.result (IsWhole r)) c.self.view_is
    (on_ok_weaker c.append_to.result (λ fit. (
      k,
      record { kind = c.self.invariant.0; tail = c.self.invariant.1; words = fit },
      g.met.K.Kind.is_kept (headed head ws)
          ∙ (λ i. record { name = head.name; info = head.info; third = c.self.invariant.2 i; tail = g.met.K.Tail.Words.words_kept c.self.inside.tail i }),
    )) c.append_to.ensures.words_fit)
