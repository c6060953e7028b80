-- The search for a name from an id on.
use Rattle.std.proofs.Common.{◌≡◌, ◌∙◌, ℕ, ◌+◌, ◌<◌, List, Option, Some, sym, ap, subst, arith, ◌⊎◌, ⊎_elim}
use Rattle.std.specs.Prelude.{slice_get}
use Rattle.std.proofs.lemmas.Bool.{cases_order}
use Rattle.std.proofs.lemmas.Option.{same_Some}
use Rattle.btf_model.specs.Record.{Kind, Record}
use Rattle.vbtf.specs.Finding.{AreSkipped, IsSkipped}

-- the search skips one more type
pub skipped_more : (strings : List ℕ) (records : List Record) (wanted : Option Kind) (name : List ℕ) (first id : ℕ) (r : Record)
    → AreSkipped strings records wanted name first id → slice_get records id ≡ Some r → IsSkipped strings wanted name r → AreSkipped strings records wanted name first (id + 1)
skipped_more strings records wanted name first id r below is skipped low q from lt at =
    ⊎_elim
    (λ (same : low ≡ id). subst (IsSkipped strings wanted name) (same_Some r q (sym is ∙ sym (ap (slice_get records) same) ∙ at)) skipped)
    (λ (other : (low < id) ⊎ (id < low)).
    ⊎_elim (λ (less : low < id). below low q from less at) (λ (more : id < low). absurd (omega (arith, lt, more))) other)
    (cases_order low id)
