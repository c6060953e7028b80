use Rattle.btf_model.specs.Fields.{FieldsFind}
use Rattle.btf_model.specs.Walk.{Leads}
use Rattle.btf_compare.specs.Pairs.{id_pair}
use Rattle.btf_compare.proofs.fields.fields_are_compatible.Given as goal

abbrev pub invariant-loop : goal.invariant-loop
invariant-loop l = Leads (FieldsFind l.local l.target) l.counter (id_pair l.fn.local_id l.fn.target_id) (id_pair l.local_id l.target_id)
