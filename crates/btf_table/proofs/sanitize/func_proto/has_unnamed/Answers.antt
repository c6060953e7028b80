use Rattle.std.proofs.Common.{sym, ap, ◌∙◌}
use Rattle.btf_table.specs.Params.{lack_a_name}
use Rattle.btf_table.proofs.Prototypes.{lacks_words}
use Rattle.btf_table.proofs.sanitize.func_proto.has_unnamed.Goals as goal

pub returns : goal.returns
returns c = c.any_unnamed.ensures ∙ lacks_words c.params.result.now ∙ ap lack_a_name (sym c.params.ensures.words)
