-- The progress before the first type.
use Rattle.std.proofs.Common.{◌≡◌, ◌<◌, ℕ, Bool, zero, suc, true, false, List, [], length, replicate, refl, ap, sym, subst, ◌∙◌, Some, arith, slice_get}
use Rattle.std.specs.List.{Contains}
use Rattle.std.proofs.lemmas.List.{length-replicate}
use Rattle.std.proofs.lemmas.Option.{none-some}
use Rattle.btf_model.specs.Record.{Record}
use Rattle.btf_order_model.specs.Order.{IsOrdered}
use Rattle.btf_order.specs.declared.progress.Mark.TheVariants.{New}
use Rattle.btf_order.specs.declared.progress.Progress.{Progress}
use Rattle.btf_order.specs.declared.progress.Walks.{Walks}
use Rattle.btf_order.specs.Progress.{is_complete_in, is_open_mark, is_open_walk, is_open, NoneWaits, KnowsOrder}
use Rattle.btf_order.proofs.Covers.{true_not_false}
use Rattle.btf_order.proofs.Opening.{by}

pub none_complete : (n id : ℕ) → is_complete_in (replicate n New) id ≡ false
none_complete zero id = refl
none_complete (suc n) zero = refl
none_complete (suc n) (suc id) = none_complete n id

none_marked : (n id : ℕ) → is_open_mark (slice_get (replicate n New) id) ≡ false
none_marked zero id = refl
none_marked (suc n) zero = refl
none_marked (suc n) (suc id) = none_marked n id

none_walked : (n id : ℕ) (w : Walks) → w.is_open ≡ false → is_open_walk (slice_get (replicate n w) id) ≡ false
none_walked zero id w closed = refl
none_walked (suc n) zero w closed = closed
none_walked (suc n) (suc id) w closed = none_walked n id w closed

-- before the first type none is open
pub none_open : (p : Progress) (n : ℕ) (w : Walks) → w.is_open ≡ false → p.marks.items ≡ replicate n New → p.walks.items ≡ replicate n w → NoneWaits p
none_open p n w closed marks walks = record { closed = λ u. cases u.type u.behind_pointer } where
  cases : (j : ℕ) (b : Bool) → is_open p (by j b) ≡ false
  cases j true = ap (λ xs. is_open_walk (slice_get xs j)) walks ∙ none_walked n j w closed
  cases j false = ap (λ xs. is_open_mark (slice_get xs j)) marks ∙ none_marked n j

none_listed : (n id : ℕ) → slice_get (replicate n false) id ≡ Some true → ⊥
none_listed zero id e = none-some true e
none_listed (suc n) zero e = cc
none_listed (suc n) (suc id) e = none_listed n id e

contains_none : (id : ℕ) → Contains [] id → ⊥
contains_none id h = let lt : h.0 < 0 = h.1 in omega (arith, lt)

pub knows_new : (records : List Record) (p : Progress) (n : ℕ) (w : Walks) → n ≡ length records → p.marks.items ≡ replicate n New → p.walks.items ≡ replicate n w → length p.referenced.items ≡ length records → p.listed.items ≡ replicate n false → p.ids.items ≡ [] → KnowsOrder records p
knows_new records p n w count marks walks referenced listed ids = record {
  marks = ap (λ xs. length xs) marks ∙ length-replicate n New ∙ count;
  walks = ap (λ xs. length xs) walks ∙ length-replicate n w ∙ count;
  referenced = referenced;
  listed = ap (λ xs. length xs) listed ∙ length-replicate n false ∙ count;
  complete = λ id e. absurd (true_not_false (sym e ∙ ap (λ xs. is_complete_in xs id) marks ∙ none_complete n id));
  ordered = subst (IsOrdered records) (sym ids) IsOrdered.empty;
  only = λ id h. absurd (contains_none id (subst (λ xs. Contains xs id) ids h));
  present = λ id e. absurd (none_listed n id (ap (λ xs. slice_get xs id) (sym listed) ∙ e));
  absent = λ id e. subst (λ xs. ¬ (Contains xs id)) (sym ids) (contains_none id);
}
