use Rattle.std.proofs.Common.{◌+◌, refl, sym, ◌∙◌, Ok, subst, ℕ}
use Rattle.btf_layout_model.specs.Alignment.{Fixed, SameAs, Unaligned, Aligns, Composed}
use Rattle.btf_layout_model.proofs.Small.{small}
use Rattle.btf_model.specs.Refusal.{UnexpectedBtfType}
use Rattle.btf_records.specs.BtfType.{record_of}
use Rattle.btf_layout.specs.Frame.{IsMemberFrame, MemberStepIs}
use Rattle.btf_layout.specs.declared.frame.Step.{Step}
use Rattle.btf_layout.specs.Shape.{layout_members}
use Rattle.btf_layout.proofs.Knowing.{same_step, known_shape, not_there}
use Rattle.btf_layout.proofs.Frames.{At, member_step, member_aligned, packed, next_frame, ended, positive}
use Rattle.btf_layout.proofs.frame.Frame.step.Goals as goal
use Rattle.btf_layout.proofs.frame.Frame.step.Goals.{In-Some, In-Ok-alignment_in}

pub returns-in_default-clause-step : goal.returns-in_default-clause-step
returns-in_default-clause-step c = not_there c.args.table.now.records c.args.self.now.id c.in_default.ensures.0

pub returns-in-Fixed-clause-step : goal.returns-in-Fixed-clause-step
returns-in-Fixed-clause-step c =
    Aligns.fixed c.args.self.now.id c.in-Fixed.alignment
    (known_shape c.args.table.now.records c.args.self.now.id (record_of c.in-Ok.btf_type.now) (Fixed c.in-Fixed.alignment) c.in-Ok.ensures.record_is (c.in-Fixed.ensures c.args.self.now.id))

pub returns-in-SameAs-clause-step : goal.returns-in-SameAs-clause-step
returns-in-SameAs-clause-step c =
    subst (λ (s : Step). MemberStepIs c.args.table.now.records c.args.known.now c.args.self.now.id s) (sym c.step_to.ensures)
    (same_step c.args.table.now.records c.args.known.now c.args.self.now.id c.in-SameAs.type_id c.requires.known
    (known_shape c.args.table.now.records c.args.self.now.id (record_of c.in-Ok.btf_type.now) (SameAs c.in-SameAs.type_id) c.in-Ok.ensures.record_is (c.in-SameAs.ensures c.args.self.now.id)))

pub returns-in-Unexpected-clause-step : goal.returns-in-Unexpected-clause-step
returns-in-Unexpected-clause-step c =
    Aligns.unaligned c.args.self.now.id (UnexpectedBtfType c.args.self.now.id)
    (known_shape c.args.table.now.records c.args.self.now.id (record_of c.in-Ok.btf_type.now) (Unaligned (UnexpectedBtfType c.args.self.now.id)) c.in-Ok.ensures.record_is (c.in-Unexpected.ensures c.args.self.now.id))

pub loop-member-init : goal.loop-member-init
loop-member-init c = record {
  shape =
      known_shape c.args.table.now.records c.args.self.now.id (record_of c.in-Ok.btf_type.now) (Composed c.in-Composed.size (layout_members (record_of c.in-Ok.btf_type.now))) c.in-Ok.ensures.record_is (c.in-Composed.ensures c.args.self.now.id)
      ∙ sym c.new-composite.ensures;
  frame = c.requires.frame;
  knows = c.requires.known;
  id = refl;
}

at : (c : In-Some) → At c.args.table.now.records c.loop-member.self c.args.self.now.id c.new-composite.result c.in-Some.member.now
at c = record {
  same = c.loop-member.invariant.id;
  shape = c.loop-member.invariant.shape;
  frame = c.loop-member.invariant.frame;
  within = c.in-Some.ensures.lookup.3.0;
  here = c.in-Some.ensures.lookup.1;
}

pub returns-in-Err-clause-step : goal.returns-in-Err-clause-step
returns-in-Err-clause-step c =
    member_step c.args.table.now.records c.loop-member.self c.args.self.now.id c.new-composite.result c.in-Some.member.now (at (goal.at.returns-in-Err-clause-step c).In-Some) c.args.known.now c.loop-member.invariant.knows c.in-Err.step c.in-Err.ensures

aligned : (c : In-Ok-alignment_in) → At c.args.table.now.records c.loop-member.self c.args.self.now.id c.new-composite.result c.in-Some.member.now → Aligns c.args.table.now.records c.in-Some.member.now.btf_type (Ok c.in-Ok-alignment_in.alignment)
aligned c here =
    member_aligned c.args.table.now.records c.loop-member.self c.args.self.now.id c.new-composite.result c.in-Some.member.now here c.args.known.now c.loop-member.invariant.knows c.in-Ok-alignment_in.alignment c.in-Ok-alignment_in.ensures

pub is_in_place-requires : goal.is_in_place-requires
is_in_place-requires c = (small c.args.table.now.records c.in-Some.member.now.btf_type (Ok c.in-Ok-alignment_in.alignment) (aligned (goal.at.is_in_place-requires c).In-Ok-alignment_in (at (goal.at.is_in_place-requires c).In-Some))).0

pub returns-then-not-is_in_place-clause-step : goal.returns-then-not-is_in_place-clause-step
returns-then-not-is_in_place-clause-step c =
    packed c.args.table.now.records c.loop-member.self c.args.self.now.id c.new-composite.result c.in-Some.member.now (at (goal.at.returns-then-not-is_in_place-clause-step c).In-Some) c.in-Ok-alignment_in.alignment (aligned (goal.at.returns-then-not-is_in_place-clause-step c).In-Ok-alignment_in (at (goal.at.returns-then-not-is_in_place-clause-step c).In-Some)) (sym c.if-not-is_in_place.ensures)

pub loop-member-preserved : goal.loop-member-preserved
loop-member-preserved c = record {
  shape = c.loop-member.invariant.shape;
  frame =
      subst (λ (n : ℕ). IsMemberFrame c.args.table.now.records (record { id = c.loop-member.self.id; member = c.loop-member.self.member + 1; largest = n })) (sym c.max-self.ensures)
      (next_frame c.args.table.now.records c.loop-member.self c.args.self.now.id c.new-composite.result c.in-Some.member.now (at (goal.at.loop-member-preserved c).In-Some) c.in-Ok-alignment_in.alignment (aligned (goal.at.loop-member-preserved c).In-Ok-alignment_in (at (goal.at.loop-member-preserved c).In-Some)) (sym c.if-not-is_in_place.ensures));
  knows = c.loop-member.invariant.knows;
  id = c.loop-member.invariant.id;
}

pub composed-requires : goal.composed-requires
composed-requires c = positive c.args.table.now.records c.loop-member.self c.new-composite.result c.loop-member.invariant.shape c.loop-member.invariant.frame

pub returns-clause-step : goal.returns-clause-step
returns-clause-step c =
    subst (λ (n : ℕ). Aligns c.args.table.now.records c.args.self.now.id (Ok n)) (sym c.composed.ensures)
    (ended c.args.table.now.records c.loop-member.self c.args.self.now.id c.new-composite.result c.loop-member.invariant.id c.loop-member.invariant.shape c.loop-member.invariant.frame c.in_default-get.ensures.lookup.3)
