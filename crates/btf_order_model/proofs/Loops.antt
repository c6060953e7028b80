-- A type that is in an order does not contain itself by value.
use Rattle.std.proofs.Common.{ℕ, List, [], ◌<◌, IsTrue, sym, subst, inl, inr, arith}
use Rattle.std.specs.List.{Contains}
use Rattle.std.proofs.lemmas.List.Elements.{Contains-push_cases}
use Rattle.btf_model.specs.Record.{Record}
use Rattle.btf_order_model.specs.Order.{is_declared, HasByValue, IsOrdered, IsHeaderOrder}

module _ (records : List Record) where
  contains_none : (id : ℕ) → Contains [] id → ⊥
  contains_none id h = let lt : h.0 < 0 = h.1 in omega (arith, lt)

  pub no_loop : (ids : List ℕ) (id : ℕ) → IsOrdered records ids → Contains ids id → IsTrue (is_declared records id) → HasByValue records id id → ⊥
  no_loop ids id (IsOrdered.empty) here declared loops = contains_none id here
  no_loop ids id (IsOrdered.next before last ordered new earlier) here declared loops =
      elim (Contains-push_cases before last id here) [
        | inl h ↦ no_loop before id ordered h declared loops
        | inr same ↦ new (earlier last (subst (λ (x : ℕ). HasByValue records x x) (sym same) loops, subst (λ (x : ℕ). IsTrue (is_declared records x)) (sym same) declared))
      ]

pub no_loop_in_order : (records : List Record) (ids : List ℕ) (id : ℕ) → IsHeaderOrder records ids → IsTrue (is_declared records id) → ¬ (HasByValue records id id)
no_loop_in_order records ids id order declared = no_loop records ids id order.ordered (order.all id declared) declared
