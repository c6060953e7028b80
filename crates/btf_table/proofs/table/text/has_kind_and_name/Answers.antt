use Rattle.std.proofs.Common.{inl, refl, sym}
use Rattle.std.proofs.lemmas.Bool.{true≢false}
use Rattle.btf_plain.specs.Kind as kinds
use Rattle.btf_records.specs.BtfType.{record_of}
use Rattle.btf_table.proofs.Names.{named_by}
use Rattle.btf_table.proofs.table.text.has_kind_and_name.Goals as goal

pub returns-then-not-has_kind : goal.returns-then-not-has_kind
returns-then-not-has_kind c = inl (λ is. true≢false (sym (c.if-not-has_kind.ensures.1 is)))

pub returns : goal.returns
returns c =
    named_by c.args.strings.now (kinds.kind c.args.kind) c.args.name.now (record_of c.args.btf_type.now) c.name_offset.result c.has_name.result (c.if-not-has_kind.ensures.0 refl) c.name_offset.ensures.value c.has_name.ensures.named
