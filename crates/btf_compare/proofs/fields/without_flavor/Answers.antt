use Rattle.std.proofs.Common.{◌∙◌, ℕ, List, sym, ap, arith}
use Rattle.memchr.proofs.lemmas.MatchLemmas.{OccursAt-part, OccursAt-from_part}
use Rattle.btf_model.specs.Fields.{flavor_mark, before_flavor}
use Rattle.btf_model.proofs.Flavors.{flavor_begins, no_flavor, mark_fits}
use Rattle.btf_compare.proofs.fields.without_flavor.Goals as goal

pub returns-in-Some : goal.returns-in-Some
returns-in-Some c =
    let bytes : List ℕ = c.as_bytes-bytes.result.now in
    sym (flavor_begins bytes c.in-Some.end (λ k lt at. c.in-Some.ensures.0.before k (omega arith) lt (OccursAt-from_part bytes flavor_mark k (mark_fits bytes k at) at)) (OccursAt-part bytes flavor_mark c.in-Some.end c.in-Some.ensures.1))
    ∙ ap before_flavor c.as_bytes-bytes.ensures.value

pub returns-in-None : goal.returns-in-None
returns-in-None c =
    let bytes : List ℕ = c.as_bytes-bytes.result.now in
    sym (no_flavor bytes (λ k lt at. c.in-None.ensures k (omega arith) lt (OccursAt-from_part bytes flavor_mark k (mark_fits bytes k at) at))) ∙ ap before_flavor c.as_bytes-bytes.ensures.value
