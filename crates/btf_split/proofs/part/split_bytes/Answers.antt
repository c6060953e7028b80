use Rattle.std.proofs.Common.{◌≡◌, ℕ, ◌-◌, List, ◌++◌, Ok, length, take, drop, ap, sym, ◌∙◌, arith}
use Rattle.std.proofs.lemmas.Grind.{common_steps}
use Rattle.std.proofs.lemmas.List.{take_all, length-drop}
use Rattle.btf_split_model.specs.Split.{split_canon}
use Rattle.btf_split.specs.Blob.{written_header}
use Rattle.btf_split.proofs.Parts.{Known, known, known_small, known_within, known_part, split_given, part_joins}
use Rattle.btf_split.proofs.part.split_bytes.Goals as goal

pub types_len-start-requires : goal.types_len-start-requires
types_len-start-requires c =
    let t = c.args.table.now in
    let k : Known t c.args.base_types c.endianness-endianness.result c.deref.result.now c.as_slice-types.result.now = known t c.args.base_types c.endianness-endianness.result c.deref.result.now c.in_ok-blob.blob.items c.as_slice-types.result.now _ c.in_ok-blob.ensures.parses_back c.in_ok-blob.ensures.written c.sections_of-whole.ensures.bytes c.deref.ensures.value c.endianness-endianness.ensures c.as_slice-types.ensures.value c.types.ensures.records c.in_ok-check_base.ensures.fits.0 in
    known_small t c.args.base_types c.endianness-endianness.result c.deref.result.now c.as_slice-types.result.now k

pub slice_bounds-own_types-count : goal.slice_bounds-own_types-count
slice_bounds-own_types-count c =
    let t = c.args.table.now in
    let k : Known t c.args.base_types c.endianness-endianness.result c.deref.result.now c.as_slice-types.result.now = known t c.args.base_types c.endianness-endianness.result c.deref.result.now c.in_ok-blob.blob.items c.as_slice-types.result.now _ c.in_ok-blob.ensures.parses_back c.in_ok-blob.ensures.written c.sections_of-whole.ensures.bytes c.deref.ensures.value c.endianness-endianness.ensures c.as_slice-types.ensures.value c.types.ensures.records c.in_ok-check_base.ensures.fits.0 in
    known_within t c.args.base_types c.endianness-endianness.result c.deref.result.now c.as_slice-types.result.now k c.types_len-start.result c.sections_of-whole.result.types.now c.types_len-start.ensures c.sections_of-whole.ensures.types

pub slice_bounds-own_types-start : goal.slice_bounds-own_types-start
slice_bounds-own_types-start c =
    let t = c.args.table.now in
    let k : Known t c.args.base_types c.endianness-endianness.result c.deref.result.now c.as_slice-types.result.now = known t c.args.base_types c.endianness-endianness.result c.deref.result.now c.in_ok-blob.blob.items c.as_slice-types.result.now _ c.in_ok-blob.ensures.parses_back c.in_ok-blob.ensures.written c.sections_of-whole.ensures.bytes c.deref.ensures.value c.endianness-endianness.ensures c.as_slice-types.ensures.value c.types.ensures.records c.in_ok-check_base.ensures.fits.0 in
    let within = known_within t c.args.base_types c.endianness-endianness.result c.deref.result.now c.as_slice-types.result.now k c.types_len-start.result c.sections_of-whole.result.types.now c.types_len-start.ensures c.sections_of-whole.ensures.types in
    omega (arith, within)

pub returns-clause-written : goal.returns-clause-written
returns-clause-written c =
    let t = c.args.table.now in
    let k : Known t c.args.base_types c.endianness-endianness.result c.deref.result.now c.as_slice-types.result.now = known t c.args.base_types c.endianness-endianness.result c.deref.result.now c.in_ok-blob.blob.items c.as_slice-types.result.now _ c.in_ok-blob.ensures.parses_back c.in_ok-blob.ensures.written c.sections_of-whole.ensures.bytes c.deref.ensures.value c.endianness-endianness.ensures c.as_slice-types.ensures.value c.types.ensures.records c.in_ok-check_base.ensures.fits.0 in
    let whole = c.sections_of-whole.result in
    let start : ℕ = c.types_len-start.result in
    let m : ℕ = c.args.base_strings in
    let types : List ℕ = take (length whole.types.now - start) (drop start whole.types.now) in
    let strings : List ℕ = take (length whole.strings.now - m) (drop m whole.strings.now) in
    let written : c.extend_from_slice-2.new.self.items ≡ written_header c.endianness-endianness.result c.deref.result.now (length types) (length strings) ++ types ++ strings = grind (arith, common_steps) in
    let part : c.extend_from_slice-2.new.self.items ≡ split_canon c.args.base_types m t =
    known_part t c.args.base_types c.endianness-endianness.result c.deref.result.now c.as_slice-types.result.now k m start _ whole.types.now types whole.strings.now strings c.types_len-start.ensures c.sections_of-whole.ensures.types
    (take_all _ (drop start whole.types.now) (omega (arith, length-drop start whole.types.now))) c.sections_of-whole.ensures.strings
    (take_all _ (drop m whole.strings.now) (omega (arith, length-drop m whole.strings.now))) written in
    let given = split_given c.args.base_types m t c.in_ok-check_base.ensures.fits.0 c.in_ok-check_base.ensures.fits.1 c.in_ok-check_base.ensures.fits.2 in
    ap (λ (b : List ℕ). Ok b) part ∙ sym given

pub returns-clause-joins_again : goal.returns-clause-joins_again
returns-clause-joins_again c =
    let t = c.args.table.now in
    let k : Known t c.args.base_types c.endianness-endianness.result c.deref.result.now c.as_slice-types.result.now = known t c.args.base_types c.endianness-endianness.result c.deref.result.now c.in_ok-blob.blob.items c.as_slice-types.result.now _ c.in_ok-blob.ensures.parses_back c.in_ok-blob.ensures.written c.sections_of-whole.ensures.bytes c.deref.ensures.value c.endianness-endianness.ensures c.as_slice-types.ensures.value c.types.ensures.records c.in_ok-check_base.ensures.fits.0 in
    let whole = c.sections_of-whole.result in
    let start : ℕ = c.types_len-start.result in
    let m : ℕ = c.args.base_strings in
    let types : List ℕ = take (length whole.types.now - start) (drop start whole.types.now) in
    let strings : List ℕ = take (length whole.strings.now - m) (drop m whole.strings.now) in
    let written : c.extend_from_slice-2.new.self.items ≡ written_header c.endianness-endianness.result c.deref.result.now (length types) (length strings) ++ types ++ strings = grind (arith, common_steps) in
    let part : c.extend_from_slice-2.new.self.items ≡ split_canon c.args.base_types m t =
    known_part t c.args.base_types c.endianness-endianness.result c.deref.result.now c.as_slice-types.result.now k m start _ whole.types.now types whole.strings.now strings c.types_len-start.ensures c.sections_of-whole.ensures.types
    (take_all _ (drop start whole.types.now) (omega (arith, length-drop start whole.types.now))) c.sections_of-whole.ensures.strings
    (take_all _ (drop m whole.strings.now) (omega (arith, length-drop m whole.strings.now))) written in
    part_joins t c.deref.result.now k.is k.written k.fits c.args.base_types m _ k.some part
