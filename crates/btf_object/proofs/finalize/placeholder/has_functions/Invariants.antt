use Rattle.std.proofs.Common.{◌≡◌, false, take}
use Rattle.std.specs.List.{list_any}
use Rattle.btf_rewrite_model.specs.Ksyms.{is_func}
use Rattle.btf_rewrite_model.specs.Made.{kind_at}
use Rattle.btf_plain.specs.declared.items.DataSecEntry.{DataSecEntry}
use Rattle.btf_object.proofs.finalize.placeholder.has_functions.Given as goal

abbrev pub invariant-loop-entry : goal.invariant-loop-entry
invariant-loop-entry l = list_any (λ (e : DataSecEntry). is_func (kind_at l.btf e.btf_type)) (take l.entry-index l.entry-items) ≡ false
