-- What is appended in several steps.
use Rattle.std.proofs.Common.{ℕ, List, [], ◌++◌, map, refl, sym, ap, ◌∙◌, arith}
use Rattle.std.specs.List.{flat_map}
use Rattle.std.proofs.lemmas.List.{map-append, append_assoc, append-nil}
use Rattle.std.proofs.lemmas.List.Concat.{flat_map-append}
use Rattle.std.proofs.lemmas.List.Sums.{sum_by-append}
use Rattle.btf_model.specs.Record.{Record}
use Rattle.btf_model.specs.Table.{Table, no_fallbacks}
use Rattle.btf_rewrite_model.specs.Checks.{record_len}
use Rattle.btf_rewrite_model.specs.Rewritten.{with_zero_byte}
use Rattle.btf_records.specs.BtfType.{record_of, fallback_of}
use Rattle.btf_table.specs.declared.table.changes.Changes.{Changes}
use Rattle.btf_table.specs.Adding.{HasRoom, Adds}

-- nothing is appended
pub adds_none : (t : Table) (c : Changes) → HasRoom t c → Adds t c c [] []
adds_none t c room = record {
  strings = sym (append-nil c.new_strings.items);
  records = sym (append-nil (map record_of c.new_types.items));
  fallbacks = sym (append-nil (map fallback_of c.new_types.items));
  types = refl;
  type_len = omega arith;
  room = room;
}

-- first some, then others
pub adds_then : (t : Table) (old mid new : Changes) (ts us : List (List ℕ)) (rs qs : List Record) → Adds t old mid ts rs → Adds t mid new us qs → Adds t old new (ts ++ us) (rs ++ qs)
adds_then t old mid new ts us rs qs first then = record {
  strings = then.strings ∙ ap (λ (xs : List ℕ). xs ++ flat_map with_zero_byte us) first.strings ∙ append_assoc old.new_strings.items (flat_map with_zero_byte ts) (flat_map with_zero_byte us) ∙ ap (λ xs. old.new_strings.items ++ xs) (sym (flat_map-append with_zero_byte ts us));
  records = then.records ∙ ap (λ xs. xs ++ qs) first.records ∙ append_assoc (map record_of old.new_types.items) rs qs;
  fallbacks = then.fallbacks ∙ ap (λ xs. xs ++ no_fallbacks qs) first.fallbacks ∙ append_assoc (map fallback_of old.new_types.items) (no_fallbacks rs) (no_fallbacks qs)
      ∙ ap (λ xs. map fallback_of old.new_types.items ++ xs) (sym (map-append _ rs qs));
  types = then.types ∙ first.types;
  type_len = omega (arith, then.type_len, first.type_len, sum_by-append record_len rs qs);
  room = then.room;
}
