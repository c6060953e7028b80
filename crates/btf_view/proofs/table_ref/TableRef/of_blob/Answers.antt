use Rattle.std.proofs.Common.{◌≡◌, ◌∙◌, ◌+◌, ◌-◌, ℕ, List, drop, take, refl, sym, ap, subst, arith}
use Rattle.btf_model.specs.Blob.{IsTable, slice}
use Rattle.btf_model.specs.Record.{Record}
use Rattle.btf_model.specs.Table.{Table, no_fallbacks}
use Rattle.btf_view.specs.Places.{AreIndexed}
use Rattle.btf_view.specs.Words.{records_there}
use Rattle.btf_view.proofs.There.{all_there}
use Rattle.btf_view.proofs.table_ref.TableRef.of_blob.Goals as goal

-- a part of the bytes, by its ends
part : (bytes : List ℕ) (at len : ℕ) → slice at len bytes ≡ take (at + len - at) (drop at bytes)
part bytes at len = ap (λ (n : ℕ). take n (drop at bytes)) (let e : len ≡ at + len - at = omega arith in e)

pub invariant_of-result : goal.invariant_of-result
invariant_of-result c =
    let s = c.args.sections.now in
    let bytes = c.args.«data».now in
    let order = c.args.endianness in
    let places = take s.count c.args.places.now in
    let types = slice s.types_at s.types_len bytes in
    let indexed = c.requires.places_are in
    let here : AreIndexed order types places (records_there order types places) = subst (AreIndexed order types places) (all_there order types places c.requires.table.records indexed.are) indexed in
    (subst (λ (ts : List ℕ). AreIndexed order ts places (records_there order ts places)) (part bytes s.types_at s.types_len) here, refl)

pub returns : goal.returns
returns c =
    let s = c.args.sections.now in
    let bytes = c.args.«data».now in
    let order = c.args.endianness in
    let places = take s.count c.args.places.now in
    let types = slice s.types_at s.types_len bytes in
    let t = c.requires.table in
    let h = c.requires.is_table in
    let strings : t.strings ≡ take (s.strings_at + s.strings_len - s.strings_at) (drop s.strings_at bytes) = sym c.requires.strings ∙ part bytes s.strings_at s.strings_len in
    let records : t.records ≡ records_there order (take (s.types_at + s.types_len - s.types_at) (drop s.types_at bytes)) places =
    all_there order types places t.records c.requires.places_are.are ∙ ap (λ (ts : List ℕ). records_there order ts places) (part bytes s.types_at s.types_len) in
    let fallbacks = h.fallbacks ∙ ap no_fallbacks records in
    subst (IsTable order bytes) (λ i. record {
      order = h.same_order i;
      magic = sym c.requires.magic i;
      version = sym c.requires.version i;
      flags = sym c.requires.flags i;
      strings = strings i;
      records = records i;
      fallbacks = fallbacks i;
    }) h
