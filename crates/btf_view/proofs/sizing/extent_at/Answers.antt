use Rattle.std.proofs.Common.{◌∙◌, Option, sym, ap}
use Rattle.std.specs.Prelude.{slice_get}
use Rattle.btf_model.specs.Record.{Kind, kinds}
use Rattle.btf_model.specs.Walk.{extent}
use Rattle.btf_plain.specs.Head.{headed}
use Rattle.btf_view.proofs.Sizings.{array_read, no_size, own_size, pointer_size, read_extent, referred_size}
use Rattle.btf_view.proofs.sizing.extent_at.Goals as goal

pub returns-in-Own : goal.returns-in-Own
returns-in-Own c r is =
    let head = c.raw_head_at-head.result in
    let h = c.raw_head_at-head.ensures r is in
    pointer_size c.kind-kind.result h.kind (headed head h.tail) (ap (slice_get kinds) c.kind-kind.ensures ∙ h.has) c.if-kind.true ∙ read_extent head r h

pub returns-in-Own-2 : goal.returns-in-Own-2
returns-in-Own-2 c r is =
    let head = c.raw_head_at-head.result in
    let h = c.raw_head_at-head.ensures r is in
    own_size c.kind-kind.result h.kind (headed head h.tail) (ap (slice_get kinds) c.kind-kind.ensures ∙ h.has) c.in-Own.is c.if-kind.false ∙ read_extent head r h

pub returns-in-Referred : goal.returns-in-Referred
returns-in-Referred c r is =
    let head = c.raw_head_at-head.result in
    let h = c.raw_head_at-head.ensures r is in
    referred_size c.kind-kind.result h.kind (headed head h.tail) (ap (slice_get kinds) c.kind-kind.ensures ∙ h.has) c.in-Referred.is ∙ read_extent head r h

pub returns-in-Other : goal.returns-in-Other
returns-in-Other c r is =
    let h = c.raw_head_at-head.ensures r is in
    let array = array_read c.raw_head_at-head.result r c.kind-kind.result h (ap (slice_get kinds) c.kind-kind.ensures ∙ h.has) c.if-kind-2.true in
    c.array_extent.ensures r is array ∙ sym (ap (λ (o : Option Kind). extent o r) array)

pub returns-in-Other-2 : goal.returns-in-Other-2
returns-in-Other-2 c r is =
    let head = c.raw_head_at-head.result in
    let h = c.raw_head_at-head.ensures r is in
    no_size c.kind-kind.result h.kind (headed head h.tail) (ap (slice_get kinds) c.kind-kind.ensures ∙ h.has) c.in-Other.is c.if-kind-2.false ∙ read_extent head r h
