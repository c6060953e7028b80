-- The progress of pairs, as the set of the open pairs and the set of the pairs that are known to be compatible.
use Rattle.std.proofs.Common.{◌≡◌, ℕ, refl, sym, ap, ◌∙◌, Bool, true, false, Option, Some, None, Ok, Err}
use Rattle.std.specs.Prelude.{cond, IsSome}
use Rattle.std.specs.Result.{result_ok, result_err}
use Rattle.std.proofs.lemmas.Option.{none-some, same_Some}
use Rattle.btf_model.specs.Fields.{Pair}
use Rattle.btf_model.specs.Compat.{pair_eq}
use Rattle.btf_compare.specs.declared.pair_map.PairMap.{PairMap}
use Rattle.btf_compare.specs.declared.entries.Progress.{Progress}
use Rattle.btf_compare.specs.declared.entries.Progress.TheVariants as progresses
use Rattle.btf_plain.specs.declared.error.BtfError.{BtfError}
use Rattle.btf_plain.specs.declared.error.BtfError.TheVariants as errors
use Rattle.std.proofs.lemmas.Bool.{false≢true}
use Rattle.btf_compare.specs.Entries.{is_ids}
use Rattle.btf_compare.specs.PairMap.{known_progress, Learns}
use Rattle.btf_compare.specs.Compared.{is_progress_open, is_progress_compatible, progress_compatible}
use Rattle.btf_compare.specs.Pairs.{pair_of, ids_of}
use Rattle.btf_compare.proofs.EntryLists.{ids_eq, is_same}
use Rattle.btf_compare.proofs.Comparing.{Changes}

-- a function of a value that a condition picks
decided_of : (f : Option Progress → Bool) (c : Bool) (v : Progress) (o : Option Progress) → f (cond c (Some v) o) ≡ cond c (f (Some v)) (f o)
decided_of f true v o = refl
decided_of f false v o = refl

cond_same : (c b : Bool) (x : Bool) → (c ≡ true → x ≡ b) → cond c b x ≡ x
cond_same true b x is = sym (is refl)
cond_same false b x is = refl

module _ (old new : PairMap) (ids : ℕ × ℕ) (v : Progress) (learns : Learns old new ids v) where
  -- the value of f at the progress of each pair
  pub learned : (f : Option Progress → Bool) → Changes (λ q. f (known_progress old (ids_of q))) (λ q. f (known_progress new (ids_of q))) (pair_of ids) (f (Some v))
  learned f q =
      ap f (learns (ids_of q)) ∙ decided_of f (is_ids ids (ids_of q)) v (known_progress old (ids_of q))
      ∙ ap (λ (c : Bool). cond c (f (Some v)) (f (known_progress old (ids_of q)))) (sym (ids_eq ids (ids_of q)))

  -- if it is the same for the pair as before, it is the same for all pairs
  pub learned_nothing : (f : Option Progress → Bool) → f (known_progress old ids) ≡ f (Some v) → ◌≡◌ {A = Pair → Bool} (λ q. f (known_progress new (ids_of q))) (λ q. f (known_progress old (ids_of q)))
  learned_nothing f is =
      let each : (q : Pair) → f (known_progress new (ids_of q)) ≡ f (known_progress old (ids_of q)) =
      (λ q. learned f q ∙ cond_same (pair_eq (pair_of ids) q) (f (Some v)) (f (known_progress old (ids_of q))) (λ same. sym (ap (λ (x : ℕ × ℕ). f (known_progress old x)) (is_same ids (ids_of q) (sym (ids_eq ids (ids_of q)) ∙ same))) ∙ is)) in
      λ i q. each q i

-- an open pair is known
pub known_if_open : (o : Option Progress) → is_progress_open o ≡ true → IsSome o
known_if_open None is = absurd (false≢true is)
known_if_open (Some p) is = refl

-- ---- the progress of a pair, by the result of `is_known_compatible`

-- it is open
pub open_if : (id : ℕ) (o : Option Progress) (e : BtfError) → progress_compatible id o ≡ Err e → (is_progress_open o ≡ true) × (e ≡ errors.MaximumTypeDepthReached id)
open_if id None e is = absurd (none-some false (sym (ap result_ok is)))
open_if id (Some progresses.Open) e is = (refl, sym (same_Some (errors.MaximumTypeDepthReached id) e (ap result_err is)))
open_if id (Some progresses.Compatible) e is = absurd (none-some true (sym (ap result_ok is)))

-- it is known to be compatible
pub compatible_if : (id : ℕ) (o : Option Progress) → progress_compatible id o ≡ Ok true → is_progress_compatible o ≡ true
compatible_if id None is = absurd (false≢true (same_Some false true (ap result_ok is)))
compatible_if id (Some progresses.Open) is = absurd (none-some true (ap result_ok is))
compatible_if id (Some progresses.Compatible) is = refl

-- it was not started
pub unknown_if : (id : ℕ) (o : Option Progress) → progress_compatible id o ≡ Ok false → o ≡ None
unknown_if id None is = refl
unknown_if id (Some progresses.Open) is = absurd (none-some false (ap result_ok is))
unknown_if id (Some progresses.Compatible) is = absurd (false≢true (sym (same_Some true false (ap result_ok is))))
