use Rattle.std.proofs.Common.{ℕ, sym, ◌∙◌}
use Rattle.btf_model.specs.Record.{Kind, Record}
use Rattle.btf_records.specs.BtfType.{record_of, type_kind}
use Rattle.btf_compare.specs.Compared.{WalksTo, passed_in}
use Rattle.btf_compare.specs.Pairs.{pair_of}
use Rattle.btf_compare.proofs.Positions.{found_at_ends, if_prototypes, resolved_itself, none_from}
use Rattle.btf_compare.proofs.Steps.{after_steps}
use Rattle.btf_compare.proofs.frame.Frame.first_step.Goals as goal

pub returns-then-is_modifier-clause-steps : goal.returns-then-is_modifier-clause-steps
returns-then-is_modifier-clause-steps c = λ local target at there. WalksTo.here

pub returns-clause-steps : goal.returns-clause-steps
returns-clause-steps c = λ local target at there.
    let p = pair_of c.args.self.now.at in
    let one : ℕ × Kind × Record = (c.args.self.now.at.0, type_kind c.args.local_type.now, record_of c.args.local_type.now) in
    let other : ℕ × Kind × Record = (c.args.self.now.at.1, type_kind c.args.target_type.now, record_of c.args.target_type.now) in
    let first = resolved_itself local c.args.self.now.at.0 (type_kind c.args.local_type.now) (record_of c.args.local_type.now) at (none_from _ (sym c.is_modifier.ensures ∙ c.if-is_modifier.false)) in
    let second = resolved_itself target c.args.self.now.at.1 (type_kind c.args.target_type.now) (record_of c.args.target_type.now) there (none_from _ (sym c.is_modifier-else-is_modifier.ensures ∙ c.if-is_modifier-2.false)) in
    after_steps local target (passed_in c.args.passed.now) c.args.self.now c.step.new.self c.step.result
    (c.step.ensures.steps local target (record {
      position_is = found_at_ends local target p one other c.types_at.result first second c.types_at.ensures.position;
      ids = if_prototypes local target p _ c.types_at.result (first.0, second.0) c.types_at.ensures.ids;
      few = c.types_at.ensures.few;
    }))
