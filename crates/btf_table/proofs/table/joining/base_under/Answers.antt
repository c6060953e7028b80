use Rattle.std.proofs.Common.{◌∙◌, ap, ◌++◌}
use Rattle.btf_model.proofs.Comparisons.{same_ok}
use Rattle.btf_table.proofs.Joining.{consistent_under}
use Rattle.btf_table.proofs.table.joining.base_under.Goals as goal

pub invariant_of-result : goal.invariant_of-result
invariant_of-result c =
    consistent_under c.base.inside c.own.inside c.extend_from_slice.new.self c.in_ok-clone_records.field-0 c.base.invariant c.own.invariant
    (c.in_ok-extend_from_slice.ensures.items ∙ ap (λ xs. xs ++ c.deref.result.now) c.in_ok-strings.ensures.items ∙ c.deref.ensures.value)
    (same_ok _ _ c.in_ok-clone_records.ensures.records)
