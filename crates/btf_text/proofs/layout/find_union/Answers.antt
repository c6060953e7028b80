use Rattle.std.proofs.Common.{ap}
use Rattle.btf_plain.specs.Error.{refusal_of}
use Rattle.btf_model.specs.Record.{Union}
use Rattle.btf_text.specs.Layout.{FindsFirstOf}
use Rattle.btf_text.proofs.Searches.{searched_on}
use Rattle.btf_text.proofs.layout.find_union.Goals as goal

pub returns-in-Err-UnknownBtfTypeName : goal.returns-in-Err-UnknownBtfTypeName
returns-in-Err-UnknownBtfTypeName c =
    searched_on (FindsFirstOf c.args.table.now c.args.name.now Union) _ _ _ _ c.find_typedef.result c.in-Err-UnknownBtfTypeName.is
    (ap refusal_of c.in-Err-UnknownBtfTypeName.field-0-is) c.id_by_type_name_kind.ensures c.find_typedef.ensures
