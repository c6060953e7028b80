-- The header of `.BTF.ext` and its ranges, in the model's terms.
use Rattle.std.specs.Prelude.{◌+◌, List, MatchOption, Option, ℕ, ◌≡◌}
use Rattle.btf_model.specs.Ext as model
use Rattle.btf_ext.specs.declared.header.Range.{Range}
use Rattle.btf_ext.specs.declared.header.Header.{Header}
use Rattle.btf_ext.specs.declared.header.Part.{Part}
use Rattle.btf_model.specs.declared.endianness.Endianness.{Endianness}
use Rattle.btf_model.specs.Ext.{IsRange, part_of}

-- a range of the code, in the model's terms
abbrev pub range : Range → model.Range
range r = record { start = r.hdr_len + r.offset; len = r.len; least = r.least }

-- a header of the code, in the model's terms
abbrev pub ext_header : Header → model.HeaderOfExt
ext_header h = record { func = range h.func; line = range h.line; core = range h.core }

-- a part of the code, in the model's terms
abbrev pub part : Part → model.Part
part p = record { size = p.rec_size; bytes = p.sections.now }

-- The result is the part that the range gives; None if the range is not valid.
abbrev pub FindsPart : Range → List ℕ → Endianness → Option Part → Type 0
FindsPart own bytes endianness result =
    MatchOption result (¬ (IsRange endianness bytes (range own)))
    (λ p. IsRange endianness bytes (range own) × (part p ≡ part_of endianness bytes (range own)))
