use Rattle.std.proofs.Common.{◌<◌, ◌≤◌, ℕ, length, Option, ap, ◌∙◌, arith}
use Rattle.std.specs.HashMap.{get_by_text}
use Rattle.btf_object_model.specs.Hidden.{hidden_type, hidden_type_in}
use Rattle.btf_object.proofs.Hiding.{none_hidden, one_more_hidden, all_hidden, hidden_alike}
use Rattle.btf_object.proofs.finalize.hidden.hide_all.Goals as goal

pub loop-type_id-init : goal.loop-type_id-init
loop-type_id-init g c = none_hidden (get_by_text c.in_ok-hidden.hidden) c.args.btf.now

pub loop-type_id-preserved : goal.loop-type_id-preserved
loop-type_id-preserved g c =
    let lt : c.loop-type_id.type_id < length c.args.btf.now.records = omega (arith, c.loop-type_id-test.true, c.type_count-type_id-end.ensures) in
    one_more_hidden (get_by_text c.in_ok-hidden.hidden) c.args.btf.now c.loop-type_id.btf c.hide.new.btf c.loop-type_id.type_id lt c.hide.ensures c.loop-type_id.invariant

pub returns-clause-made : goal.returns-clause-made
returns-clause-made g c =
    let o = c.args.object.now in
    let end : length c.args.btf.now.records ≤ c.loop-type_id.type_id = omega (arith, c.loop-type_id-test.false, c.type_count-type_id-end.ensures) in
    hidden_alike (get_by_text c.in_ok-hidden.hidden) (hidden_type o) c.args.btf.now c.loop-type_id.btf
    (λ name. c.in_ok-hidden.ensures name ∙ ap (λ (text : Option ℕ). hidden_type_in o text name) c.section_by_name-text.ensures.first)
    (all_hidden (get_by_text c.in_ok-hidden.hidden) c.args.btf.now c.loop-type_id.btf c.loop-type_id.type_id end c.loop-type_id.invariant)
