-- What a rewrite reads in the caller's maps: the sizes of sections and the offsets of symbols, by name.
use Rattle.std.specs.Prelude.{ℕ, List, option_map, Option, String}
use Rattle.std.specs.HashMap.{HashMap, get_by_text}
use Rattle.btf_rewrite_model.specs.Pass.{Layout}
use Rattle.btf_plain.specs.declared.section_index.SectionIndex.{SectionIndex}

-- the size of each section; its index is not read
abbrev pub sizes_of : {Y S : Type 0} → HashMap (String Y) (SectionIndex × ℕ) S → List ℕ → Option ℕ
sizes_of sections name = option_map (λ (s : SectionIndex × ℕ). s.1) (get_by_text sections name)

-- the offset of each symbol
abbrev pub offsets_of : {Y S : Type 0} → HashMap (String Y) ℕ S → List ℕ → Option ℕ
offsets_of symbols name = get_by_text symbols name

-- both
abbrev pub layout_of : {Y S Z T : Type 0} → HashMap (String Y) (SectionIndex × ℕ) S → HashMap (String Z) ℕ T → Layout
layout_of sections symbols = record { sections = sizes_of sections; symbols = offsets_of symbols }
