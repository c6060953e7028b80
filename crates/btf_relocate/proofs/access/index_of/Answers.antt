use Rattle.std.proofs.Common.{◌≡◌, ◌+◌, ◌*◌, take, true, sym, refl, ◌∙◌, arith, get_or}
use Rattle.std.specs.Char.{is_ascii_digit, digit_value}
use Rattle.std.specs.Str.Parse.{digits_value}
use Rattle.std.proofs.lemmas.Int.Digits.{digits_value_more}
use Rattle.std.proofs.lemmas.List.Folds.{list_all_more}
use Rattle.btf_relocate.proofs.Accesses.{too_great, digit_is}
use Rattle.btf_relocate.proofs.access.index_of.Goals as goal

pub returns-then-index-gt-INDEX_LIMIT : goal.returns-then-index-gt-INDEX_LIMIT
returns-then-index-gt-INDEX_LIMIT c =
    let part = c.args.part.now in
    let i = c.loop-byte.byte-index in
    let digit : is_ascii_digit (get_or part i 0) ≡ true = sym c.is_ascii_digit.ensures.value ∙ c.if-not-is_ascii_digit.false in
    let value : digit_value (get_or part i 0) ≡ c.from.result = digit_is (get_or part i 0) digit ∙ sym c.from.ensures in
    let next : digits_value 10 (take (i + 1) part) ≡ digits_value 10 (take i part) * 10 + digit_value (get_or part i 0) = digits_value_more 10 part i c.loop-byte-test.true in
    sym (too_great part i (omega (arith, next, value, c.loop-byte.invariant.value, c.if-index-gt-INDEX_LIMIT.true)))

pub loop-byte-preserved : goal.loop-byte-preserved
loop-byte-preserved c =
    let part = c.args.part.now in
    let i = c.loop-byte.byte-index in
    let digit : is_ascii_digit (get_or part i 0) ≡ true = sym c.is_ascii_digit.ensures.value ∙ c.if-not-is_ascii_digit.false in
    let value : digit_value (get_or part i 0) ≡ c.from.result = digit_is (get_or part i 0) digit ∙ sym c.from.ensures in
    let next : digits_value 10 (take (i + 1) part) ≡ digits_value 10 (take i part) * 10 + digit_value (get_or part i 0) = digits_value_more 10 part i c.loop-byte-test.true in
    record {
      digits = rw (list_all_more is_ascii_digit part i 0 c.loop-byte-test.true, c.loop-byte.invariant.digits, digit) refl;
      value = omega (arith, next, value, c.loop-byte.invariant.value);
      small = omega arith;
    }
