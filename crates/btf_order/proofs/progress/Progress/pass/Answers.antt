use Rattle.std.proofs.Common.{◌≡◌, ◌<◌, ◌∙◌, ℕ, true, false, List, length, Some, slice_get, refl, sym, subst, ap}
use Rattle.btf_model.specs.Record.{Record, kind_of}
use Rattle.btf_order_model.specs.Order.{value_types, value_types_or, is_declared_by, is_declared_or}
use Rattle.btf_records.specs.BtfType.{record_of}
use Rattle.btf_order.specs.declared.progress.Progress.{Progress}
use Rattle.btf_order.specs.Frame.{IsCovered}
use Rattle.btf_order.specs.Progress.{NoneWaits, HasLeft, is_open}
use Rattle.btf_order.proofs.Covers.{covered_nothing, not_behind, true_not_false}
use Rattle.btf_order.proofs.Knowing.{inside, left_knows, left_grows, left_complete}
use Rattle.btf_order.proofs.Opening.{left_closes}
use Rattle.btf_order.proofs.Ending.{alone_sound, left_uses}
use Rattle.btf_order.proofs.progress.Progress.pass.Goals as goal

-- a type of the table that has nothing by value and is not declared
alone_covered : (records : List Record) (ids : List ℕ) (id : ℕ) (r : Record) → slice_get records id ≡ Some r → length (value_types r) ≡ 0 → is_declared_by (kind_of r.info) r ≡ false → IsCovered records ids id
alone_covered records ids id r here none undeclared =
    covered_nothing records ids id (ap (λ o. length (value_types_or o)) here ∙ none) (ap is_declared_or here ∙ undeclared)

-- a type that becomes complete opens no type
none_opened : (p q : Progress) (id : ℕ) → id < length p.marks.items → id < length p.walks.items → HasLeft p q id true → q.walks ≡ p.walks → NoneWaits p → NoneWaits q
none_opened p q id lt_marks lt_walks left walks none =
    let closes = left_closes p q (record { id = id; through_pointer = false }) lt_marks lt_walks (λ e. walks, λ e. absurd (true_not_false (sym e))) true (λ e. refl) left.marks in
    record { closed = λ u. not_behind (is_open q u) (λ e. true_not_false (sym ((closes u e).0) ∙ none.closed u)) }

pub returns-clause-knows : goal.returns-clause-knows
returns-clause-knows c =
    left_knows c.args.table.now.records c.args.self.now c.complete.new.self c.requires.knows c.args.id
    (inside c.args.table.now.records c.args.self.now c.requires.knows c.args.id (record_of c.in-Ok.btf_type.now) c.in-Ok.ensures.record_is) true c.complete.ensures.left
    (λ e. alone_covered c.args.table.now.records c.args.self.now.ids.items c.args.id (record_of c.in-Ok.btf_type.now) c.in-Ok.ensures.record_is
    (c.is_alone.ensures.no_types c.if-not-is_alone.false) (c.is_alone.ensures.undeclared c.if-not-is_alone.false))

pub returns-clause-grows : goal.returns-clause-grows
returns-clause-grows c =
    left_grows c.args.table.now.records c.args.self.now c.complete.new.self c.requires.knows c.args.id
    (inside c.args.table.now.records c.args.self.now c.requires.knows c.args.id (record_of c.in-Ok.btf_type.now) c.in-Ok.ensures.record_is) true c.complete.ensures.left

pub returns-clause-none_open : goal.returns-clause-none_open
returns-clause-none_open c =
    let inside_marks = inside c.args.table.now.records c.args.self.now c.requires.knows c.args.id (record_of c.in-Ok.btf_type.now) c.in-Ok.ensures.record_is in
    let inside_walks : c.args.id < length c.args.self.now.walks.items =
    subst (λ (n : ℕ). c.args.id < n) (c.requires.knows.marks ∙ sym c.requires.knows.walks) inside_marks in
    none_opened c.args.self.now c.complete.new.self c.args.id inside_marks inside_walks c.complete.ensures.left c.complete.ensures.walks

pub returns-clause-complete : goal.returns-clause-complete
returns-clause-complete c e =
    left_complete c.args.table.now.records c.args.self.now c.complete.new.self c.requires.knows c.args.id
    (inside c.args.table.now.records c.args.self.now c.requires.knows c.args.id (record_of c.in-Ok.btf_type.now) c.in-Ok.ensures.record_is) true c.complete.ensures.left refl

pub returns-clause-uses : goal.returns-clause-uses
returns-clause-uses c =
    let inside_marks = inside c.args.table.now.records c.args.self.now c.requires.knows c.args.id (record_of c.in-Ok.btf_type.now) c.in-Ok.ensures.record_is in
    let inside_walks : c.args.id < length c.args.self.now.walks.items =
    subst (λ (n : ℕ). c.args.id < n) (c.requires.knows.marks ∙ sym c.requires.knows.walks) inside_marks in
    let sound = alone_sound c.args.table.now.records c.args.id (record_of c.in-Ok.btf_type.now) c.in-Ok.ensures.record_is (c.is_alone.ensures.no_uses c.if-not-is_alone.false) in
    left_uses c.args.table.now.records c.args.self.now c.complete.new.self (record { id = c.args.id; through_pointer = false }) true inside_walks c.requires.uses c.complete.ensures.left
    (λ e. c.complete.ensures.walks, λ e. absurd (true_not_false (sym e))) (sound.ends false) (λ e. sound)
