use Rattle.std.proofs.Common.{◌≡◌, ◌<◌, ◌≤◌, ◌∙◌, ℕ, length, sym, subst, ap, arith}
use Rattle.std.specs.List.{sum_by}
use Rattle.btf_records.specs.BtfType.{record_of}
use Rattle.btf_order.specs.Progress.{left_over, mark_weight, walks_weight}
use Rattle.btf_order.specs.Shape.{use_of}
use Rattle.btf_order.proofs.Opening.{left_closes, closes_before}
use Rattle.btf_order.proofs.Covers.{covered_more, link_is}
use Rattle.btf_order.proofs.Knowing.{inside, left_knows, left_grows, left_complete, left_less, grows_trans}
use Rattle.btf_order.proofs.Using.{frame_ends, frame_sound, use_link_is}
use Rattle.btf_order.proofs.Ending.{same_uses, left_uses}
use Rattle.btf_order.proofs.progress.Progress.close.Goals as goal

pub returns-clause-knows : goal.returns-clause-knows
returns-clause-knows c =
    left_knows c.args.table.now.records c.place.new.self c.leave.new.self c.in_ok-place.ensures.knows c.args.frame.now.node.id
    (inside c.args.table.now.records c.place.new.self c.in_ok-place.ensures.knows c.args.frame.now.node.id (record_of c.in_ok-btf_type.btf_type.now) c.in_ok-btf_type.ensures.record_is)
    c.link-link.result.is_settled c.leave.ensures.left (λ e. c.in_ok-place.ensures.covered (c.link-link.ensures.settled e))

pub returns-clause-grows : goal.returns-clause-grows
returns-clause-grows c =
    grows_trans c.args.self.now c.place.new.self c.leave.new.self c.in_ok-place.ensures.grows
    (left_grows c.args.table.now.records c.place.new.self c.leave.new.self c.in_ok-place.ensures.knows c.args.frame.now.node.id
    (inside c.args.table.now.records c.place.new.self c.in_ok-place.ensures.knows c.args.frame.now.node.id (record_of c.in_ok-btf_type.btf_type.now) c.in_ok-btf_type.ensures.record_is)
    c.link-link.result.is_settled c.leave.ensures.left)

pub returns-clause-link : goal.returns-clause-link
returns-clause-link c =
    let grows =
    left_grows c.args.table.now.records c.place.new.self c.leave.new.self c.in_ok-place.ensures.knows c.args.frame.now.node.id
    (inside c.args.table.now.records c.place.new.self c.in_ok-place.ensures.knows c.args.frame.now.node.id (record_of c.in_ok-btf_type.btf_type.now) c.in_ok-btf_type.ensures.record_is)
    c.link-link.result.is_settled c.leave.ensures.left in
    link_is c.args.table.now.records c.leave.new.self.ids.items c.args.frame.now c.link-link.result c.shape_of.result (record_of c.in_ok-btf_type.btf_type.now) c.in_ok-btf_type.ensures.record_is c.shape_of.ensures c.link-link.ensures.strong
    (λ done. covered_more c.args.table.now.records c.place.new.self.ids.items c.leave.new.self.ids.items c.args.frame.now.node.id grows.ids (c.in_ok-place.ensures.covered done))

pub returns-clause-complete : goal.returns-clause-complete
returns-clause-complete c by_value =
    left_complete c.args.table.now.records c.place.new.self c.leave.new.self c.in_ok-place.ensures.knows c.args.frame.now.node.id
    (inside c.args.table.now.records c.place.new.self c.in_ok-place.ensures.knows c.args.frame.now.node.id (record_of c.in_ok-btf_type.btf_type.now) c.in_ok-btf_type.ensures.record_is)
    c.link-link.result.is_settled c.leave.ensures.left (c.link-link.ensures.by_value by_value)

pub returns-clause-less : goal.returns-clause-less
returns-clause-less c =
    let marks : sum_by mark_weight c.place.new.self.marks.items ≡ sum_by mark_weight c.args.self.now.marks.items = ap (λ v. sum_by mark_weight v.items) c.in_ok-place.ensures.marks in
    let walks : sum_by walks_weight c.place.new.self.walks.items ≡ sum_by walks_weight c.args.self.now.walks.items = ap (λ v. sum_by walks_weight v.items) c.in_ok-place.ensures.walks in
    let less : left_over c.leave.new.self ≤ left_over c.place.new.self =
    left_less c.args.table.now.records c.place.new.self c.leave.new.self c.in_ok-place.ensures.knows c.args.frame.now.node.id
    (inside c.args.table.now.records c.place.new.self c.in_ok-place.ensures.knows c.args.frame.now.node.id (record_of c.in_ok-btf_type.btf_type.now) c.in_ok-btf_type.ensures.record_is)
    c.link-link.result.is_settled c.leave.ensures.left in
    omega (arith, marks, walks, less)

pub returns-clause-closes : goal.returns-clause-closes
returns-clause-closes c =
    let inside_marks = inside c.args.table.now.records c.place.new.self c.in_ok-place.ensures.knows c.args.frame.now.node.id (record_of c.in_ok-btf_type.btf_type.now) c.in_ok-btf_type.ensures.record_is in
    let inside_walks : c.args.frame.now.node.id < length c.place.new.self.walks.items =
    subst (λ (n : ℕ). c.args.frame.now.node.id < n) (c.in_ok-place.ensures.knows.marks ∙ sym c.in_ok-place.ensures.knows.walks) inside_marks in
    let closes = left_closes c.place.new.self c.leave.new.self c.args.frame.now.node inside_marks inside_walks c.leave.ensures.walks c.link-link.result.is_settled c.link-link.ensures.by_value c.leave.ensures.left.marks in
    closes_before c.args.self.now c.place.new.self c.leave.new.self (use_of c.args.frame.now.node) c.in_ok-place.ensures.marks c.in_ok-place.ensures.walks closes

pub returns-clause-uses : goal.returns-clause-uses
returns-clause-uses c =
    let inside_marks = inside c.args.table.now.records c.place.new.self c.in_ok-place.ensures.knows c.args.frame.now.node.id (record_of c.in_ok-btf_type.btf_type.now) c.in_ok-btf_type.ensures.record_is in
    let inside_walks : c.args.frame.now.node.id < length c.place.new.self.walks.items =
    subst (λ (n : ℕ). c.args.frame.now.node.id < n) (c.in_ok-place.ensures.knows.marks ∙ sym c.in_ok-place.ensures.knows.walks) inside_marks in
    left_uses c.args.table.now.records c.place.new.self c.leave.new.self c.args.frame.now.node c.link-link.result.is_settled inside_walks
    (same_uses c.args.table.now.records c.args.self.now c.place.new.self c.requires.uses c.in_ok-place.ensures.marks c.in_ok-place.ensures.walks) c.leave.ensures.left c.leave.ensures.walks
    (frame_ends c.args.table.now.records c.args.frame.now c.requires.use_frame c.requires.last_use)
    (λ e. frame_sound c.args.table.now.records c.args.frame.now c.requires.use_frame c.requires.last_use (c.link-link.ensures.settled e))

pub returns-clause-use_link : goal.returns-clause-use_link
returns-clause-use_link c =
    use_link_is c.args.table.now.records c.args.frame.now c.requires.use_frame c.requires.last_use c.link-link.result c.shape_of.result (record_of c.in_ok-btf_type.btf_type.now) c.in_ok-btf_type.ensures.record_is c.shape_of.ensures c.link-link.ensures.strong
