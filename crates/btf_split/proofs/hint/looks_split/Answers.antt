use Rattle.std.proofs.Common.{◌≡◌, ℕ, List, length, subst, sym}
use Rattle.btf_model.specs.declared.endianness.Endianness.{Endianness}
use Rattle.btf_model.specs.Blob.{header_of, type_section, string_section}
use Rattle.btf_split_model.specs.Hint.{HasSections, NamesBeyond, hint_records}
use Rattle.btf_split.proofs.hint.looks_split.Goals as goal

-- the question for equal sections
moved : (order : Endianness) (strings texts types records : List ℕ) → strings ≡ texts → types ≡ records → NamesBeyond order (length strings) hint_records types → NamesBeyond order (length texts) hint_records records
moved order strings texts types records a b h =
    subst (NamesBeyond order (length texts) hint_records) b (subst (λ (s : List ℕ). NamesBeyond order (length s) hint_records types) a h)

pub returns : goal.returns
returns c =
    let bytes = c.args.data.now in
    let header = header_of c.args.endianness bytes in
    let parts = c.sections_of-sections in
    let has : HasSections c.args.endianness bytes = c.has_sections.ensures.0 cc in (
      λ is. (has, moved c.args.endianness parts.result.strings.now (string_section header bytes) parts.result.types.now (type_section header bytes) parts.ensures.strings parts.ensures.types (c.has_name_beyond.ensures.0 is)),
      λ h. c.has_name_beyond.ensures.1 (moved c.args.endianness (string_section header bytes) parts.result.strings.now (type_section header bytes) parts.result.types.now (sym parts.ensures.strings) (sym parts.ensures.types) h.1),
    )
