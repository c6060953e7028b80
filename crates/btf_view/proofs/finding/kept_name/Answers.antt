use Rattle.std.proofs.Common.{◌≡◌, ◌∙◌, sym, ap}
use Rattle.std.specs.Prelude.{slice_get}
use Rattle.std.proofs.lemmas.Option.{same_Some}
use Rattle.btf_model.specs.Record as model
use Rattle.btf_model.specs.Record.{Kind, Record, kind_number}
use Rattle.btf_model.specs.Spelling.{kept}
use Rattle.btf_plain.specs.Head.{headed}
use Rattle.btf_view.proofs.Found.{name_retained}
use Rattle.btf_view.proofs.finding.kept_name.Goals as goal

pub returns-then-number-eq0 : goal.returns-then-number-eq0
returns-then-number-eq0 c r h is =
    let w = headed c.args.head.now h.tail in
    let zero : kind_number c.args.head.now.info ≡ 0 = sym is ∙ c.if-number-eq0.true in
    let unknown : h.kind ≡ model.Unknown = same_Some h.kind model.Unknown (sym h.has ∙ ap (slice_get model.kinds) zero) in
    sym (ap (λ (x : Record). x.name) (h.is ∙ ap (λ (k : Kind). kept k w) unknown))

pub returns-else-number-eq0 : goal.returns-else-number-eq0
returns-else-number-eq0 c r h is = name_retained c.args.head.now r h (λ zero. c.if-number-eq0.false (is ∙ zero))
