use Rattle.std.proofs.Common.{◌≡◌, ◌∙◌, ◌+◌, ◌≤◌, length, false, inl, inr, refl, sym, rules}
use Rattle.std.specs.Prelude.{◌⊎◌}
use Rattle.btf_view.specs.TypeRef.{record_in}
use Rattle.btf_relocate.specs.Members.{parameters_of}
use Rattle.btf_relocate.proofs.Definitions.{is_refusal, last_parameter, next_parameter}
use Rattle.btf_relocate.proofs.Pointers.{element_at, none_there}
use Rattle.btf_relocate.proofs.types.walk.next_parameter.Goals as goal
use Rattle.btf_relocate.proofs.types.walk.next_parameter.Goals.{in_default-2-via-in-Some+in_default, in_default-2-via-in_default}

pub returns-in_default-2-clause-next : goal.returns-in_default-2-clause-next
returns-in_default-2-clause-next c = λ inner further local target.
    let i = c.args.frame.now.index in
    let ps = parameters_of (record_in c.args.one.now) in
    let qs = parameters_of (record_in c.args.other.now) in
    let goes_on : is_refusal c.args.answer ≡ false = search rules in
    let over : (length ps ≤ i) ⊎ (length qs ≤ i) = elim c.in_default-2.branch [
      | in_default-2-via-in-Some+in_default w ↦ inr (none_there qs i (sym c.parameter_at-2.ensures.parameter ∙ w.in_default-2.is-1))
      | in_default-2-via-in_default w ↦ inl (none_there ps i (sym c.parameter_at.ensures.parameter ∙ w.in_default-2.is-0))
    ] in
    last_parameter inner further local target ps qs c.args.returned.now i c.args.frame.now.other c.args.answer goes_on over

pub returns-clause-next : goal.returns-clause-next
returns-clause-next c = λ inner further local target.
    let i = c.args.frame.now.index in
    let ps = parameters_of (record_in c.args.one.now) in
    let qs = parameters_of (record_in c.args.other.now) in
    let goes_on : is_refusal c.args.answer ≡ false = search rules in
    let one = c.in-Some-Some.parameter in
    let other = c.in-Some-Some.other_parameter in
    next_parameter inner further local target ps qs c.args.returned.now i c.args.frame.now.other c.args.answer goes_on one other
    (element_at ps i one (sym c.parameter_at.ensures.parameter ∙ c.in-Some-Some.is-0)) (element_at qs i other (sym c.parameter_at-2.ensures.parameter ∙ c.in-Some-Some.is-1)) (i + 1) refl
