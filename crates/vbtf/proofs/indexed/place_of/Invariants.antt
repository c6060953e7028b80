-- None of the candidates so far has the name and the kind.
use Rattle.std.proofs.Common.{◌≡◌, ◌<◌, ℕ, Some, slice_get}
use Rattle.btf_plain.specs.Kind.{kind}
use Rattle.vbtf.specs.IndexFinding.{IsNamedAt}
use Rattle.vbtf.proofs.indexed.place_of.Given as goal

abbrev pub invariant-loop-id : goal.invariant-loop-id
invariant-loop-id l = (n x : ℕ) → n < l.id-index → slice_get l.id-items n ≡ Some x → IsNamedAt l.table (kind l.kind) l.name x → ⊥
