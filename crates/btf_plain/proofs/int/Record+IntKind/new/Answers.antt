use Rattle.std.proofs.Common.{ℕ, [], ◌∷◌, ap, ◌∙◌}
use Rattle.btf_plain.proofs.Data.{new_data}
use Rattle.btf_plain.proofs.int.Record+IntKind.new.Goals as goal

pub returns : goal.returns
returns c =
    c.of.ensures ∙ ap (λ (word : ℕ). record { name = c.args.name_offset; info = 16777216; third = c.args.size; tail = word ∷ [] })
    (new_data c.args.encoding c.number.result c.args.offset c.args.size c.number.ensures)
