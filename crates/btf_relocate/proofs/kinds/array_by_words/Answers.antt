use Rattle.std.proofs.Common.{◌∙◌, ◌∷◌, [], sym}
use Rattle.btf_model.specs.Record.{kind_of, vlen}
use Rattle.btf_view.specs.TypeRef.{record_in}
use Rattle.btf_relocate.proofs.Items.{array_words, is_array, no_array}
use Rattle.btf_relocate.proofs.kinds.array_by_words.Goals as goal

pub returns-in-Array : goal.returns-in-Array
returns-in-Array c =
    let r = record_in c.args.btf_type in (
      is_array c.kind.result (kind_of r.info) c.kind.ensures.info c.in-Array.is,
      array_words c.kind.result (vlen r.info) r.tail c.in-Array.is c.kind.ensures.tail
          ∙ λ i. sym c.word_at.ensures i ∷ sym c.word_at-in-Array.ensures i ∷ sym c.word_at-in-Array-2.ensures i ∷ [],
    )

pub returns-in_default : goal.returns-in_default
returns-in_default c = no_array c.kind.result (kind_of (record_in c.args.btf_type).info) c.kind.ensures.info c.in_default.not-Array
