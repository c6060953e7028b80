use Rattle.std.proofs.Common.{◌≡◌, ◌∙◌, refl, sym, ap, Some, None, Option}
use Rattle.std.specs.Prelude.{slice_get}
use Rattle.std.proofs.lemmas.Option.{none-some, same_Some}
use Rattle.btf_model.specs.Record as records
use Rattle.btf_model.specs.Record.{Kind, Record, kind_of}
use Rattle.btf_model.specs.Walk as walk
use Rattle.btf_plain.specs.Head.{headed}
use Rattle.btf_plain.specs.Kind as kinds
use Rattle.btf_view.proofs.KindNames.{kept_modified, kept_kind, kind_in}
use Rattle.btf_view.proofs.walk.modified.Goals as goal

pub returns-in_default : goal.returns-in_default
returns-in_default c r h =
    let none : kind_of c.args.head.now.info ≡ None = ap (slice_get records.kinds) (sym c.kind.ensures) ∙ c.in_default.ensures.0 in
    absurd (none-some h.kind (sym none ∙ h.has))

pub returns : goal.returns
returns c r h =
    let w = headed c.args.head.now h.tail in
    let raw = kind_in c.args.head.now.info c.kind.result c.in-Ok.kind c.in-Ok.ensures c.kind.ensures in
    let same : h.kind ≡ kinds.kind c.in-Ok.kind = same_Some h.kind (kinds.kind c.in-Ok.kind) (sym h.has ∙ raw) in
    let kind : kind_of r.info ≡ Some h.kind = ap (λ (x : Record). kind_of x.info) h.is ∙ kept_kind h.kind w h.has in
    c.modified_by.ensures w refl ∙ ap (λ (k : Kind). walk.modified (Some k) w) (sym same)
    ∙ sym (ap (λ (o : Option Kind). walk.modified o r) kind ∙ ap (walk.modified (Some h.kind)) h.is ∙ kept_modified h.kind w)
