-- What changes append to a table. The changes are stored apart from the table.
use Rattle.std.specs.Prelude.{◌≡◌, ℕ, ◌+◌, ◌*◌, ◌≤◌, List, ◌++◌, length, map, Result}
use Rattle.std.specs.List.{flat_map, sum_by}
use Rattle.btf_model.specs.Record.{Record}
use Rattle.btf_model.specs.Table.{Table, section_limit, no_fallbacks}
use Rattle.btf_rewrite_model.specs.Checks.{record_len, has_room}
use Rattle.btf_rewrite_model.specs.Rewritten.{with_zero_byte}
use Rattle.btf_records.specs.BtfType.{record_of, fallback_of}
use Rattle.btf_table.specs.declared.table.changes.Changes.{Changes}
use Rattle.btf_model.specs.Refusal.{Refusal}
use Rattle.btf_table.specs.Checked.{checked}

-- the offset of the next text
abbrev pub next_string_offset : Table → Changes → ℕ
next_string_offset t c = length t.strings + length c.new_strings.items

-- the id of the next type
abbrev pub next_id : Table → Changes → ℕ
next_id t c = length t.records + length c.new_types.items

-- Both sections are within their limit. Each record except the first has at least 12 bytes, so ids have 32 bits.
pub record HasRoom (t : Table) (c : Changes) : Type 0 where
  pub strings : next_string_offset t c ≤ section_limit
  pub types : c.type_len ≤ section_limit
  pub ids : 12 * next_id t c ≤ c.type_len + 12

-- These texts and records are appended, and nothing else is changed.
pub record Adds (t : Table) (old new : Changes) (ts : List (List ℕ)) (rs : List Record) : Type 0 where
  pub strings : new.new_strings.items ≡ old.new_strings.items ++ flat_map with_zero_byte ts
  pub records : map record_of new.new_types.items ≡ map record_of old.new_types.items ++ rs
  pub fallbacks : map fallback_of new.new_types.items ≡ map fallback_of old.new_types.items ++ no_fallbacks rs
  pub types : new.types ≡ old.types
  pub type_len : new.type_len ≡ old.type_len + sum_by record_len rs
  pub room : HasRoom t new

-- The string offset of a text that is appended next, or why it does not fit.
abbrev pub text_place : Changes → Table → List ℕ → Result ℕ Refusal
text_place own btf text = checked (has_room (next_string_offset btf own) text) (next_string_offset btf own)
