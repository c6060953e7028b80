-- The laws of orders. Each is the contract of a public function of this crate.
use Rattle.std.specs.Prelude.{ℕ, List, IsTrue}
use Rattle.btf_model.specs.Record.{Record}
use Rattle.btf_order_model.specs.Order.{is_declared, HasByValue, IsHeaderOrder}

-- If a table has an order of its declarations, then no declared type contains itself by value.
abbrev pub OrderHasNoLoop : Type 0
OrderHasNoLoop =
    (records : List Record) (ids : List ℕ) (id : ℕ) → IsHeaderOrder records ids
    → IsTrue (is_declared records id) → ¬ (HasByValue records id id)
