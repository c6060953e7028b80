use Rattle.std.proofs.Common.{◌≡◌, ◌<◌, ◌∙◌, ℕ, Bool, length, true, false, List, Some, slice_get, refl, sym, subst}
use Rattle.std.proofs.lemmas.Option.{slice_get_past, slice_get_within}
use Rattle.btf_plain.specs.declared.error.BtfError.{BtfError}
use Rattle.btf_records.specs.BtfType.{record_of}
use Rattle.btf_model.specs.Record.{Record, kind_of}
use Rattle.btf_order_model.specs.Uses.{Use, counted, counted_by}
use Rattle.btf_order.specs.declared.shape.Node.{Node}
use Rattle.btf_order.specs.declared.shape.Passing.{Passing}
use Rattle.btf_order.specs.declared.shape.Passing.TheVariants.{AsByValue, Behind}
use Rattle.btf_order.specs.Errors.{IsVisitError}
use Rattle.btf_order.specs.Uses.{UseIs}
use Rattle.btf_order.specs.Shape.{CountsAs, IsPassing, use_of}
use Rattle.btf_order.proofs.Opening.{by, counted_here}
use Rattle.btf_order.proofs.Knowing.{marked_knows, marked_grows, marked_visit, behind_knows, behind_grows, behind_visit}
use Rattle.btf_order.proofs.Ending.{complete_inside, complete_use, marked_uses, behind_uses, behind_visited}
use Rattle.btf_order.proofs.Results.{if_ok, if_on_ok, if_err, if_err_is}
use Rattle.btf_order.proofs.progress.Progress.visit.Goals as goal

-- how the use counts
counts_as : (records : List Record) (node : Node) (r : Record) (p q : Passing) (v : Use) → slice_get records node.id ≡ Some r → CountsAs r node.through_pointer p → p ≡ q
    → (CountsAs r node.through_pointer q → counted_by (kind_of r.info) r (use_of node) ≡ Some v) → counted records (use_of node) ≡ Some v
counts_as records node r p q v here counts is follows = counted_here records (use_of node) v r here (follows (subst (CountsAs r node.through_pointer) is counts))

pub returns-in-AsByValue-clause-knows : goal.returns-in-AsByValue-clause-knows
returns-in-AsByValue-clause-knows c = if_on_ok _ _ c.open.result (marked_knows c.args.table.now.records c.args.self.now c.open.new.self c.requires.knows c.args.node.id) c.open.ensures.opened

pub returns-in-AsByValue-clause-grows : goal.returns-in-AsByValue-clause-grows
returns-in-AsByValue-clause-grows c = if_on_ok _ _ c.open.result (marked_grows c.args.table.now.records c.args.self.now c.open.new.self c.requires.knows c.args.node.id) c.open.ensures.opened

pub returns-in-AsByValue-clause-visit : goal.returns-in-AsByValue-clause-visit
returns-in-AsByValue-clause-visit c = if_ok _ _ c.open.result (λ v h. marked_visit c.args.table.now.records c.args.self.now c.open.new.self c.requires.knows c.args.node.id v c.args.node refl (slice_get_within c.args.table.now.records c.args.node.id (record_of c.in_ok-btf_type.btf_type.now) c.in_ok-btf_type.ensures.record_is) (counts_as c.args.table.now.records c.args.node (record_of c.in_ok-btf_type.btf_type.now) c.passing_of.result AsByValue (by c.args.node.id false) c.in_ok-btf_type.ensures.record_is c.passing_of.ensures.counts c.in-AsByValue.is (λ counts. counts c.args.node.id)) h) c.open.ensures.opened

pub returns-in-Behind-clause-knows : goal.returns-in-Behind-clause-knows
returns-in-Behind-clause-knows c = if_on_ok _ _ c.open_behind.result (behind_knows c.args.table.now.records c.args.self.now c.open_behind.new.self c.requires.knows c.args.node.id) c.open_behind.ensures.opened

pub returns-in-Behind-clause-grows : goal.returns-in-Behind-clause-grows
returns-in-Behind-clause-grows c = if_on_ok _ _ c.open_behind.result (behind_grows c.args.table.now.records c.args.self.now c.open_behind.new.self c.requires.knows c.args.node.id) c.open_behind.ensures.opened

pub returns-in-Behind-clause-error : goal.returns-in-Behind-clause-error
returns-in-Behind-clause-error c =
    if_err _ _ c.open_behind.result
    (λ e is. subst (λ (x : BtfError). IsVisitError c.args.table.now.records c.args.self.now (use_of c.args.node) x) (sym is.0)
    (by c.args.node.id true, (counts_as c.args.table.now.records c.args.node (record_of c.in_ok-btf_type.btf_type.now) c.passing_of.result Behind (by c.args.node.id true) c.in_ok-btf_type.ensures.record_is c.passing_of.ensures.counts c.in-Behind.is (λ counts. counts c.args.node.id)), refl, is.1))
    c.open_behind.ensures.error

pub returns-in-AsByValue-clause-error : goal.returns-in-AsByValue-clause-error
returns-in-AsByValue-clause-error c =
    if_err _ _ c.open.result
    (λ e is. subst (λ (x : BtfError). IsVisitError c.args.table.now.records c.args.self.now (use_of c.args.node) x) (sym is.0)
    (by c.args.node.id false, (counts_as c.args.table.now.records c.args.node (record_of c.in_ok-btf_type.btf_type.now) c.passing_of.result AsByValue (by c.args.node.id false) c.in_ok-btf_type.ensures.record_is c.passing_of.ensures.counts c.in-AsByValue.is (λ counts. counts c.args.node.id)), refl, is.1))
    c.open.ensures.error

pub returns-in_err-btf_type-clause-error : goal.returns-in_err-btf_type-clause-error
returns-in_err-btf_type-clause-error c =
    if_err_is (IsVisitError c.args.table.now.records c.args.self.now (use_of c.args.node)) c.from_residual.result c.in_err-btf_type.field-0.0 c.from_residual.ensures.1
    (subst (IsVisitError c.args.table.now.records c.args.self.now (use_of c.args.node)) (sym c.in_err-btf_type.ensures.1)
    (refl, slice_get_past c.args.table.now.records c.args.node.id c.in_err-btf_type.ensures.0))

pub returns-in-Behind-clause-visit : goal.returns-in-Behind-clause-visit
returns-in-Behind-clause-visit c =
    let pointer = subst (λ p. IsPassing c.args.node.through_pointer p) c.in-Behind.is c.passing_of.ensures.passes in
    if_ok _ _ c.open_behind.result (λ v h. behind_visit c.args.table.now.records c.args.self.now c.open_behind.new.self c.requires.knows c.args.node.id v c.args.node refl pointer (slice_get_within c.args.table.now.records c.args.node.id (record_of c.in_ok-btf_type.btf_type.now) c.in_ok-btf_type.ensures.record_is) (counts_as c.args.table.now.records c.args.node (record_of c.in_ok-btf_type.btf_type.now) c.passing_of.result Behind (by c.args.node.id true) c.in_ok-btf_type.ensures.record_is c.passing_of.ensures.counts c.in-Behind.is (λ counts. counts c.args.node.id)) h) c.open_behind.ensures.opened

pub returns-in-AsByValue-clause-uses : goal.returns-in-AsByValue-clause-uses
returns-in-AsByValue-clause-uses c = if_on_ok _ _ c.open.result (marked_uses c.args.table.now.records c.args.self.now c.open.new.self c.args.node.id c.requires.uses) c.open.ensures.opened

pub returns-in-Behind-clause-uses : goal.returns-in-Behind-clause-uses
returns-in-Behind-clause-uses c =
    let inside = slice_get_within c.args.table.now.records c.args.node.id (record_of c.in_ok-btf_type.btf_type.now) c.in_ok-btf_type.ensures.record_is in
    if_on_ok _ _ c.open_behind.result (behind_uses c.args.table.now.records c.args.self.now c.open_behind.new.self c.args.node.id (subst (λ (n : ℕ). c.args.node.id < n) (sym c.requires.knows.walks) inside) c.requires.uses) c.open_behind.ensures.opened

pub returns-in-Behind-clause-visited : goal.returns-in-Behind-clause-visited
returns-in-Behind-clause-visited c =
    let pointer = subst (λ p. IsPassing c.args.node.through_pointer p) c.in-Behind.is c.passing_of.ensures.passes in
    let inside = slice_get_within c.args.table.now.records c.args.node.id (record_of c.in_ok-btf_type.btf_type.now) c.in_ok-btf_type.ensures.record_is in
    let counts = counts_as c.args.table.now.records c.args.node (record_of c.in_ok-btf_type.btf_type.now) c.passing_of.result Behind (by c.args.node.id true) c.in_ok-btf_type.ensures.record_is c.passing_of.ensures.counts c.in-Behind.is (λ counts. counts c.args.node.id) in
    if_ok _ _ c.open_behind.result (behind_visited c.args.table.now.records c.args.self.now c.open_behind.new.self c.args.node c.requires.uses pointer inside counts) c.open_behind.ensures.opened

pub returns-then-is_complete-clause-visited : goal.returns-then-is_complete-clause-visited
returns-then-is_complete-clause-visited c =
    let done = sym c.is_complete.ensures ∙ c.if-is_complete.true in
    let inside : c.args.node.id < length c.args.table.now.records = subst (λ (n : ℕ). c.args.node.id < n) c.requires.knows.marks (complete_inside c.args.self.now.marks.items c.args.node.id done) in
    subst (λ (strong : Bool). UseIs c.args.table.now.records (use_of c.args.node) strong) (sym c.complete.ensures) (complete_use c.args.table.now.records (use_of c.args.node) inside (c.requires.uses.complete c.args.node.id done))
