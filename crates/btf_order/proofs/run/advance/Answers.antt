use Rattle.std.proofs.Common.{◌≡◌, ◌≤◌, ◌+◌, ◌∙◌, ℕ, Bool, true, List, ap, sym, subst, inl, inr, Some, slice_get}
use Rattle.std.specs.List.{Contains}
use Rattle.std.specs.Option.{option_map}
use Rattle.std.proofs.lemmas.Option.{slice_get_within, get_or_from_slice_get}
use Rattle.btf_model.specs.Record.{Record, kind_of}
use Rattle.btf_plain.specs.declared.error.BtfError.{BtfError}
use Rattle.btf_plain.specs.declared.error.BtfError.TheVariants.{UnknownBtfType, MaximumTypeDepthReached, OutOfMemory}
use Rattle.btf_order_model.specs.Uses.{Use, NeedsUse, uses_in, uses_or, uses_by}
use Rattle.btf_order.specs.declared.frame.Frame.{Frame}
use Rattle.btf_order.specs.declared.shape.Node.{Node}
use Rattle.btf_order.specs.Errors.{IsVisitError, IsStepError}
use Rattle.btf_order.proofs.Opening.{by}
use Rattle.btf_order.proofs.Results.{if_err_is}
use Rattle.btf_records.specs.BtfType.{record_of}
use Rattle.btf_order.specs.declared.progress.Progress.{Progress}
use Rattle.btf_order.specs.declared.progress.Visit.{Visit}
use Rattle.btf_order.specs.declared.progress.Visit.TheVariants.{Returns}
use Rattle.btf_order.specs.Frame.{IsWalkFrame}
use Rattle.btf_order.specs.Progress.{VisitIs, IsTypeOpened, OpensOnly, is_open, left_over}
use Rattle.btf_order.specs.Shape.{ChildIs, Refers, use_of}
use Rattle.btf_order.specs.Uses.{VisitedUseIs}
use Rattle.btf_order.proofs.Using.{frame_after_use}
use Rattle.btf_order.proofs.Covers.{frame_after, frame_more, types_here}
use Rattle.btf_order.proofs.run.advance.Goals as goal

-- the next type is the next use of the type on top
next_is : (records : List Record) (top : Node) (f : Frame) (r : Record) (node : Node) → slice_get records top.id ≡ Some r → f.node ≡ top
    → option_map use_of (Some node) ≡ slice_get (uses_by (kind_of r.info) r f.node.through_pointer) f.next → slice_get (uses_in records (use_of top)) f.next ≡ Some (use_of node)
next_is records top f r node here same uses =
    ap (λ o. slice_get (uses_or o top.through_pointer) f.next) here
    ∙ ap (λ (n : Node). slice_get (uses_by (kind_of r.info) r n.through_pointer) f.next) (sym same) ∙ sym uses

pub loop-node-preserved : goal.loop-node-preserved
loop-node-preserved c =
    let visit : VisitIs c.args.table.now.records c.loop-node.progress c.visit.new.self c.in-Some.node (Returns c.in-Returns.link) =
    subst (λ (v : Visit). VisitIs c.args.table.now.records c.loop-node.progress c.visit.new.self c.in-Some.node v) c.in-Returns.is c.in_ok-link.ensures.visit in
    record {
      same = visit.0 ∙ c.loop-node.invariant.same;
      frame =
          subst (λ (p : Progress). IsWalkFrame c.args.table.now.records p.ids.items c.after.result) (sym visit.0)
          (frame_after c.args.table.now.records c.loop-node.progress.ids.items c.loop-node.top c.after.result c.in-Some.node c.in-Returns.link c.loop-node.invariant.frame
          (subst (λ (ts : List ℕ). ChildIs ts c.loop-node.top.node.through_pointer c.loop-node.top.next (Some c.in-Some.node))
          (types_here c.args.table.now.records c.loop-node.top c.args.top.now (record_of c.in_ok-btf_type.btf_type.now) c.loop-node.invariant.node c.in_ok-btf_type.ensures.record_is) c.in-Some.ensures.child)
          visit.1 c.after.ensures.node c.after.ensures.next c.after.ensures.all_strong);
      use_frame =
          frame_after_use c.args.table.now.records c.loop-node.top c.after.result (use_of c.in-Some.node) c.in-Returns.link.is_strong c.loop-node.invariant.use_frame
          (subst (λ (n : Node). slice_get (uses_in c.args.table.now.records (use_of n)) c.loop-node.top.next ≡ Some (use_of c.in-Some.node)) (sym c.loop-node.invariant.node)
          (next_is c.args.table.now.records c.args.top.now.node c.loop-node.top (record_of c.in_ok-btf_type.btf_type.now) c.in-Some.node c.in_ok-btf_type.ensures.record_is c.loop-node.invariant.node c.in-Some.ensures.uses))
          (subst (λ (v : Visit). VisitedUseIs c.args.table.now.records c.in-Some.node v) c.in-Returns.is c.in_ok-link.ensures.visited)
          c.after.ensures.node c.after.ensures.next c.after.ensures.all_strong;
      node = c.after.ensures.node ∙ c.loop-node.invariant.node;
    }

pub returns-in-Opens-clause-frame : goal.returns-in-Opens-clause-frame
returns-in-Opens-clause-frame c =
    frame_more c.args.table.now.records c.loop-node.progress.ids.items c.visit.new.self.ids.items c.loop-node.top c.in_ok-link.ensures.grows.ids c.loop-node.invariant.frame

-- the next type is a use of the type on top
used_next : (records : List Record) (top : Node) (f : Frame) (r : Record) (node : Node) → slice_get records top.id ≡ Some r → f.node ≡ top
    → option_map use_of (Some node) ≡ slice_get (uses_by (kind_of r.info) r f.node.through_pointer) f.next → Contains (uses_in records (use_of top)) (use_of node)
used_next records top f r node here same uses =
    let at = next_is records top f r node here same uses in
    (f.next, slice_get_within (uses_in records (use_of top)) f.next (use_of node) at, get_or_from_slice_get (uses_in records (use_of top)) f.next (use_of node) (use_of node) at)

-- an error at the next type is one of the step
step_error : (records : List Record) (p q : Progress) (user : Use) (node : Node) (e : BtfError) → q ≡ p → Contains (uses_in records user) (use_of node) → IsVisitError records q (use_of node) e → IsStepError records p user e
step_error records p q user node OutOfMemory same used is = tt
step_error records p q user node (UnknownBtfType id) same used is =
    (node.through_pointer, subst (λ (i : ℕ). Contains (uses_in records user) (by i node.through_pointer)) (sym is.0) used, is.1)
step_error records p q user node (MaximumTypeDepthReached id) same used (u, counts, here, opened) =
    (u, record { direct = use_of node; used = used; counts = counts }, here, ap (λ x. is_open x u) (sym same) ∙ opened)
step_error records p q user node e same used is = absurd is

pub returns-in_err-link-clause-error : goal.returns-in_err-link-clause-error
returns-in_err-link-clause-error c =
    if_err_is (IsStepError c.args.table.now.records c.args.progress.now (use_of c.args.top.now.node)) c.from_residual-in_err-link.result c.in_err-link.field-0.0 c.from_residual-in_err-link.ensures.1
    (step_error c.args.table.now.records c.args.progress.now c.loop-node.progress (use_of c.args.top.now.node) c.in-Some.node c.in_err-link.field-0.0 c.loop-node.invariant.same
    (used_next c.args.table.now.records c.args.top.now.node c.loop-node.top (record_of c.in_ok-btf_type.btf_type.now) c.in-Some.node c.in_ok-btf_type.ensures.record_is c.loop-node.invariant.node c.in-Some.ensures.uses) c.in_err-link.ensures.error)

-- the type that is opened is the next one
refers_opened : (types : List ℕ) (through : Bool) (index : ℕ) (child node : Node) → Refers types through index child → node.id ≡ child.id → (node.through_pointer ≡ true → child.through_pointer ≡ true) → Refers types through index node
refers_opened types through index child node (small, inl none) same behind = (small, inl none)
refers_opened types through index child node (small, inr (at, pointer)) same behind = (small, inr (at ∙ ap (λ (i : ℕ). Some i) (sym same), λ t. pointer (behind t)))

pub returns-in-Opens-clause-step : goal.returns-in-Opens-clause-step
returns-in-Opens-clause-step c =
    let opened : IsTypeOpened c.args.table.now.records c.loop-node.progress c.visit.new.self c.in-Some.node c.in-Opens.node =
    subst (λ (v : Visit). VisitIs c.args.table.now.records c.loop-node.progress c.visit.new.self c.in-Some.node v) c.in-Opens.is c.in_ok-link.ensures.visit in
    let child =
    subst (λ (ts : List ℕ). ChildIs ts c.loop-node.top.node.through_pointer c.loop-node.top.next (Some c.in-Some.node))
    (types_here c.args.table.now.records c.loop-node.top c.args.top.now (record_of c.in_ok-btf_type.btf_type.now) c.loop-node.invariant.node c.in_ok-btf_type.ensures.record_is) c.in-Some.ensures.child in (
      refers_opened _ c.loop-node.top.node.through_pointer c.loop-node.top.next c.in-Some.node c.in-Opens.node child opened.id opened.through_pointer,
      subst (λ (p : Progress). left_over c.visit.new.self + 2 ≤ left_over p) c.loop-node.invariant.same opened.less,
      subst (λ (n : Node). NeedsUse c.args.table.now.records (use_of n) (use_of c.in-Opens.node)) (sym c.loop-node.invariant.node)
          (record { direct = use_of c.in-Some.node; used = (used_next c.args.table.now.records c.args.top.now.node c.loop-node.top (record_of c.in_ok-btf_type.btf_type.now) c.in-Some.node c.in_ok-btf_type.ensures.record_is c.loop-node.invariant.node c.in-Some.ensures.uses); counts = opened.counts }),
      subst (λ (p : Progress). OpensOnly p c.visit.new.self (use_of c.in-Opens.node)) c.loop-node.invariant.same opened.opens,
      opened.inside,
    )

pub returns-in-Opens-clause-use_step : goal.returns-in-Opens-clause-use_step
returns-in-Opens-clause-use_step c =
    let opened : IsTypeOpened c.args.table.now.records c.loop-node.progress c.visit.new.self c.in-Some.node c.in-Opens.node =
    subst (λ (v : Visit). VisitIs c.args.table.now.records c.loop-node.progress c.visit.new.self c.in-Some.node v) c.in-Opens.is c.in_ok-link.ensures.visit in
    record {
      direct = use_of c.in-Some.node;
      here =
          subst (λ (n : Node). slice_get (uses_in c.args.table.now.records (use_of n)) c.loop-node.top.next ≡ Some (use_of c.in-Some.node)) (sym c.loop-node.invariant.node)
          (next_is c.args.table.now.records c.args.top.now.node c.loop-node.top (record_of c.in_ok-btf_type.btf_type.now) c.in-Some.node c.in_ok-btf_type.ensures.record_is c.loop-node.invariant.node c.in-Some.ensures.uses);
      counts = opened.counts;
      behind = opened.through_pointer;
      inside = opened.inside;
    }
