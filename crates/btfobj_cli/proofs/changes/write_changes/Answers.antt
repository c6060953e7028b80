use Rattle.std.proofs.Common.{◌≡◌, ◌∙◌, ℕ, Bool, ◌||◌, List, map, take, sym, ap}
use Rattle.std.proofs.lemmas.List.{take_all}
use Rattle.btf_model.specs.Record.{Record}
use Rattle.btf_records.specs.BtfType.{record_of}
use Rattle.btf_records.specs.declared.btf_type.BtfType.{BtfType}
use Rattle.btfobj_cli.specs.Changes.{has_changed}
use Rattle.btfobj_cli.proofs.Changed.{changed_next}
use Rattle.btfobj_cli.proofs.changes.write_changes.Goals as goal
use Rattle.btfobj_cli.proofs.changes.write_changes.Goals.{then-changes, else-changes}

pub loop-id-preserved : goal.loop-id-preserved
loop-id-preserved g c =
    let olds : List Record = map record_of c.as_slice-old_types.result.now in
    let news : List BtfType = c.as_slice-new_types.result.now in
    let i : ℕ = c.loop-id.id-counter in
    let one : Bool = c.in_ok-is_changed.is_changed in
    let either : c.if-changes.changes ≡ (c.loop-id.changes || one) = elim c.if-changes.branch [
      | then-changes w ↦ w.changes-is ∙ w.if-changes.true ∙ sym (ap (λ (b : Bool). b || one) w.if-changes.true)
      | else-changes w ↦ w.changes-is ∙ sym (ap (λ (b : Bool). b || one) w.if-changes.false)
    ] in
    either ∙ ap (λ (b : Bool). b || one) c.loop-id.invariant
    ∙ ap (λ (b : Bool). has_changed olds (map record_of (take i news)) || b) c.in_ok-is_changed.ensures
    ∙ sym (changed_next olds news i c.index-new_types-id.result c.loop-id-test.true c.index-new_types-id.is)

pub returns : goal.returns
returns g c =
    let olds : List BtfType = c.as_slice-old_types.result.now in
    let news : List BtfType = c.as_slice-new_types.result.now in
    let old_is : map record_of olds ≡ c.args.old.now.records = ap (λ (ts : List BtfType). map record_of ts) c.as_slice-old_types.ensures.value ∙ c.types.ensures.records in
    let new_is : map record_of news ≡ c.args.new.now.records = ap (λ (ts : List BtfType). map record_of ts) c.as_slice-new_types.ensures.value ∙ c.types-2.ensures.records in
    c.loop-id.invariant
    ∙ ap (λ (ts : List BtfType). has_changed (map record_of olds) (map record_of ts)) (take_all c.loop-id.id-counter news c.loop-id-test.false)
    ∙ ap (λ (rs : List Record). has_changed rs (map record_of news)) old_is
    ∙ ap (λ (rs : List Record). has_changed c.args.old.now.records rs) new_is
