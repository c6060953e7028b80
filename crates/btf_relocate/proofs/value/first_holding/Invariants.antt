-- No load of the sizes so far holds the bit-field.
use Rattle.std.proofs.Common.{◌≡◌, ◌∷◌, [], drop}
use Rattle.btf_relocate_model.specs.Value.{first_holding}
use Rattle.btf_relocate.proofs.value.first_holding.Given as goal

abbrev pub invariant-loop-size : goal.invariant-loop-size
invariant-loop-size l = first_holding l.field l.from (drop l.size-index (1 ∷ 2 ∷ 4 ∷ 8 ∷ [])) ≡ first_holding l.field l.from (1 ∷ 2 ∷ 4 ∷ 8 ∷ [])
