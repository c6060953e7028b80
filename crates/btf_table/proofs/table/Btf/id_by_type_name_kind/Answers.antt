use Rattle.std.proofs.Common.{◌≡◌, ◌∙◌, ℕ, List, ap, subst, map, arith, length}
use Rattle.btf_model.specs.Record.{Record}
use Rattle.btf_model.specs.Table.{Table}
use Rattle.btf_model.specs.Text.{FindsName}
use Rattle.btf_plain.specs.Error.{MeetsOrNoMemory}
use Rattle.btf_plain.specs.Kind as kinds
use Rattle.btf_records.specs.BtfType.{record_of}
use Rattle.btf_table.proofs.Tables.{few_types}
use Rattle.btf_table.proofs.table.Btf.id_by_type_name_kind.Goals as goal

pub find_named-requires : goal.find_named-requires
find_named-requires c = omega (arith, few_types c.self.inside c.self.invariant, ap length c.deref-2.ensures.value)

pub returns : goal.returns
returns c =
    let records : map record_of c.deref-2.result.now ≡ c.args.self.now.records = ap (map record_of) c.deref-2.ensures.value ∙ ap (λ (t : Table). t.records) c.self.view_is in
    let strings : c.deref.result.now ≡ c.args.self.now.strings = c.deref.ensures.value ∙ ap (λ (t : Table). t.strings) c.self.view_is in
    subst (λ (bytes : List ℕ). MeetsOrNoMemory (λ id. id) c.find_named.result (FindsName bytes c.args.self.now.records (kinds.kind c.args.kind) c.args.name.now)) strings
    (subst (λ (rs : List Record). MeetsOrNoMemory (λ id. id) c.find_named.result (FindsName c.deref.result.now rs (kinds.kind c.args.kind) c.args.name.now)) records c.find_named.ensures)
