-- The name at an offset is at the front of the strings from that offset on.
use Rattle.std.proofs.Common.{◌≡◌, ◌<◌, ◌≤◌, ◌+◌, ◌-◌, ◌==◌, ℕ, suc, List, ◌∷◌, ◌++◌, length, take, drop, get_or, Option, Some, None, Ok, Err, true, inl, inr, refl, sym, ap, ◌∙◌, arith}
use Rattle.std.specs.Prelude.{position, option_map}
use Rattle.std.proofs.lemmas.Bool.{cases_lt, eqb-true}
use Rattle.std.proofs.lemmas.List.{drop-take, get_or-drop, length-drop}
use Rattle.std.proofs.lemmas.List.Quantifiers.{position-Some}
use Rattle.std.proofs.lemmas.Option.{none-some, same_Some}
use Rattle.std.proofs.Math.Seq.{drop-cons, take-add}
use Rattle.btf_model.specs.Refusal.{InvalidStringOffset}
use Rattle.btf_model.specs.Text.{bytes_at, is_zero, text_at}
use Rattle.btf_table.specs.Readable.{IsReadableEnd}
use Rattle.btf_table.proofs.Readable.{text_there}
use Rattle.vbtf.specs.Lent.{AreNamesFrom}
use Rattle.vbtf.specs.Naming.{IsNameAt}
use Rattle.vbtf.specs.declared.lent_name.Name.{Name}

-- the bytes end at the place of the first zero byte
end_of : (xs text : List ℕ) (o : Option ℕ) → option_map (λ (end : ℕ). take end xs) o ≡ Some text → (k : ℕ) × (o ≡ Some k) × (take k xs ≡ text)
end_of xs text (Some k) is = (k, refl, same_Some (take k xs) text is)
end_of xs text None is = absurd (none-some text is)

-- a name can be read at the offset of its zero byte, so the readable strings do not end before it
zero_within : (strings : List ℕ) (at end : ℕ) → at < length strings → is_zero (get_or strings at 0) ≡ true → IsReadableEnd strings end → at < end
zero_within strings at end lt zero readable =
    elim (cases_lt at end) [
      | inl below ↦ below
      | inr high ↦
          let there = text_there strings at at (omega arith) lt zero in
          let both : Ok there.0 ≡ Err (InvalidStringOffset at) = sym there.1 ∙ readable.from at high in absurd cc
    ]

pub begins_with_name : (strings bytes text : List ℕ) (offset : ℕ) → AreNamesFrom strings offset bytes → bytes_at strings offset ≡ Some text
    → (rest : List ℕ) × (bytes ≡ text ++ 0 ∷ rest)
begins_with_name strings bytes text offset from is =
    let xs : List ℕ = drop offset strings in
    let found = end_of xs text (position is_zero xs) is in
    let k : ℕ = found.0 in
    let first = position-Some is_zero xs k 0 found.1 in
    let within : offset + k < length strings = omega (arith, first.0, length-drop offset strings) in
    let zero : is_zero (get_or strings (offset + k) 0) ≡ true = ap is_zero (sym (get_or-drop offset strings k 0)) ∙ first.1 in
    let end : ℕ = from.0 in
    let below : offset + k < end = zero_within strings (offset + k) end within zero from.1 in
    let rest : ℕ = end - offset - suc k in
    let sum : offset + (k + suc rest) ≡ end = omega (arith, below) in
    let zero_is : get_or xs k 0 ≡ 0 = eqb-true (get_or xs k 0) 0 first.1 in
    let cut : drop offset (take end strings) ≡ take (k + suc rest) xs = ap (λ (e : ℕ). drop offset (take e strings)) (sym sum) ∙ drop-take offset (k + suc rest) strings in
    let behind : take (suc rest) (drop k xs) ≡ 0 ∷ take rest (drop (suc k) xs) = ap (take (suc rest)) (drop-cons xs k 0 first.0 ∙ ap (λ (b : ℕ). b ∷ drop (suc k) xs) zero_is) in
    (take rest (drop (suc k) xs), from.2 ∙ cut ∙ take-add k (suc rest) xs ∙ ap (λ (ys : List ℕ). ys ++ take (suc rest) (drop k xs)) found.2 ∙ ap (λ (ys : List ℕ). text ++ ys) behind)

-- a name whose length is known is there
some_text : (o : Option (List ℕ)) (len : ℕ) → Some len ≡ option_map length o → (text : List ℕ) × (o ≡ Some text) × (len ≡ length text)
some_text (Some text) len is = (text, refl, same_Some len (length text) is)
some_text None len is = absurd (none-some len (sym is))

pub is_name : (strings : List ℕ) (offset life len : ℕ) (name : Name) → Some len ≡ option_map length (bytes_at strings offset)
    → AreNamesFrom strings offset name.bytes → name.life ≡ life → IsNameAt strings offset life len name
is_name strings offset life len name found from same =
    let text = some_text (bytes_at strings offset) len found in
    let begins = begins_with_name strings name.bytes text.0 offset from text.1 in
    record { text = text.0; rest = begins.0; there = text.1; bytes = begins.1; len_is = text.2; life_is = same }
