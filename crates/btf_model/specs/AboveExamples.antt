-- Worked examples of values of variants, and of the relocations of a section.
use Rattle.std.specs.Prelude.{◌≡◌, ◌≢◌, ℕ, List, [], ◌∷◌, true, false, Some, None, Ok, Err, refl}
use Rattle.std.specs.Str.{bytes_eq}
use Rattle.std.proofs.Common.{sym, ap, ◌∙◌, arith, inl, inr}
use Rattle.std.proofs.lemmas.Bool.{true≢false}
use Rattle.bstr.specs.Utf8.{pieces_from}
use lib.Utf8.{encode}
use Rattle.btf_model.specs.Record.{kind_of, unknown}
use Rattle.btf_model.specs.Refusal.{UnexpectedBtfType, InvalidStringOffset}
use Rattle.btf_model.specs.Table.{Table, Fallback, empty_table}
use Rattle.btf_model.specs.Value.{variants_by, enum_variants, Value}
use Rattle.btf_model.specs.RelocationWords.{words_named, Words}

-- "e" at 1, "A" at 3, "B" at 5: ENUM64 1 "e" with A = 1 and B = 2 ^ 32 + 5, and CONST 2 of 1
abbrev large : Table
large = record empty_table {
  strings = 0 ∷ 101 ∷ 0 ∷ 65 ∷ 0 ∷ 66 ∷ 0 ∷ [];
  records = unknown ∷ record { name = 1; info = 0x13000002; third = 8; tail = 3 ∷ 1 ∷ 0 ∷ 5 ∷ 5 ∷ 1 ∷ [] } ∷ record { name = 0; info = 0x0a000000; third = 1; tail = [] } ∷ [];
  fallbacks = None ∷ None ∷ None ∷ [];
}

-- two texts that `bytes_eq` tells apart are different
differ : (a b : List ℕ) → bytes_eq a a ≡ true → bytes_eq a b ≡ false → a ≢ b
differ a b same other is = true≢false (sym same ∙ ap (bytes_eq a) is ∙ other)

value_of_b : Value large 2 (66 ∷ []) (Ok (Some 4294967301))
unfolding pieces_from encode
value_of_b = (1, inl (1, 1, omega arith, (1, refl, refl), refl), (_, (_, None, refl, refl, refl), (_, (_ ∷ [], [], refl, ((65 ∷ [], refl, differ (65 ∷ []) (66 ∷ []) refl refl), tt)), refl, refl)))

-- no variant has the empty name
value_of_no_name : Value large 1 [] (Ok None)
unfolding pieces_from encode
value_of_no_name = (1, inl (0, 1, omega arith, refl, refl), (_, (_, None, refl, refl, refl), ((65 ∷ [], refl, differ (65 ∷ []) [] refl refl), ((66 ∷ [], refl, differ (66 ∷ []) [] refl refl), tt))))

-- id 0 has no variants
value_in_void : Value large 0 (65 ∷ []) (Err (UnexpectedBtfType 0))
value_in_void = inr (0, inl (0, 0, omega arith, refl, refl), inl (_, None, refl, refl, refl))

-- the value -1 of a signed ENUM is read as 2 ^ 32 - 1
value_of_sign : enum_variants (3 ∷ 0xffffffff ∷ []) ≡ record { name = 3; value = 4294967295 } ∷ []
value_of_sign = refl

-- a UNION with a fallback, and one without
abbrev kept_fallback : Fallback
kept_fallback = record { signed = true; variants = record { name = 3; value = 4294967301 } ∷ [] }

values_of_union : (variants_by 7 (kind_of 0x05000001) unknown (Some kept_fallback) ≡ Ok kept_fallback.variants) × (variants_by 7 (kind_of 0x05000001) unknown None ≡ Err (UnexpectedBtfType 7))
values_of_union = (refl, refl)

-- "xdp" at 1: two sections of that name, with one of the empty name between them
abbrev sections : List (ℕ × List (List ℕ))
sections = (1, (1 ∷ 2 ∷ 3 ∷ 4 ∷ []) ∷ []) ∷ (0, (9 ∷ 9 ∷ 9 ∷ 9 ∷ []) ∷ []) ∷ (1, (5 ∷ 6 ∷ 7 ∷ 8 ∷ []) ∷ []) ∷ []

words_of_two_sections : words_named (0 ∷ 120 ∷ 100 ∷ 112 ∷ 0 ∷ []) (120 ∷ 100 ∷ 112 ∷ []) sections ≡ (1 ∷ 2 ∷ 3 ∷ 4 ∷ []) ∷ (5 ∷ 6 ∷ 7 ∷ 8 ∷ []) ∷ []
unfolding pieces_from encode
words_of_two_sections = refl

-- no section has this name
words_of_no_section : words_named (0 ∷ 120 ∷ 100 ∷ 112 ∷ 0 ∷ []) (120 ∷ []) sections ≡ []
unfolding pieces_from encode
words_of_no_section = refl

-- strings without a byte: the first name cannot be read
no_words : Words [] sections [] (Err (InvalidStringOffset 1))
no_words = ([], _, _, refl, tt, refl)
