-- What the tests of sections mean, and the offset at which the bytes of a section are put.
use Rattle.std.proofs.Common.{◌≡◌, ◌≢◌, ◌∙◌, ℕ, suc, ◌+◌, ◌-◌, ◌<◌, ◌≤◌, Bool, true, false, List, length, take, drop, get_or, sym, ap, arith, inl, inr, ⊎_elim}
use Rattle.std.specs.Prelude.{nat_lt, nat_le, ◌&&◌, not, remove}
use Rattle.std.specs.List.{list_any}
use Rattle.std.proofs.lemmas.Bool.{ltb-false, lt-ltb, leb-true, and_cases, and_parts, or_parts, both_ways, not-true, cases_lt, false_from_ne_true}
use Rattle.std.proofs.lemmas.List.{get_or-take, get_or-drop, length-drop, length-take-le}
use Rattle.std.proofs.lemmas.List.Folds.{list_any-append, list_any_at}
use Rattle.btf_elf_model.specs.Section.{has_bytes}
use Rattle.btf_elf_model.specs.Replaced.{shares_bytes, fits_in_place, aligned, Apart}
use Rattle.btf_elf_model.specs.declared.section_header.SectionHeader.{SectionHeader}

-- ---- the place of a section

not_shared : (offset len : ℕ) (s : SectionHeader) → shares_bytes offset len s ≡ false → has_bytes s ≡ true → Apart s.offset s.size offset len
unfolding shares_bytes
not_shared offset len s test some size lt =
    ⊎_elim
    (λ e. ⊎_elim
    (λ f. ⊎_elim
    (λ g. ⊎_elim (λ h. absurd (both_ways (has_bytes s) h some)) (λ h. absurd (both_ways (nat_lt 0 len) h (lt-ltb 0 len lt))) (and_cases (has_bytes s) (nat_lt 0 len) g))
    (λ g. absurd (both_ways (nat_lt 0 s.size) g (lt-ltb 0 s.size size)))
    (and_cases (has_bytes s && nat_lt 0 len) (nat_lt 0 s.size) f))
    (λ f. inl (ltb-false offset (s.offset + s.size) f))
    (and_cases (has_bytes s && nat_lt 0 len && nat_lt 0 s.size) (nat_lt offset (s.offset + s.size)) e))
    (λ e. inr (ltb-false s.offset (offset + len) e))
    (and_cases (has_bytes s && nat_lt 0 len && nat_lt 0 s.size && nat_lt offset (s.offset + s.size)) (nat_lt s.offset (offset + len)) test)

-- if no other section passes the test, each section of another index fails it
each_other_fails : {X : Type 0} (p : X → Bool) (xs : List X) (index k : ℕ) (d : X) → index < length xs → list_any p (remove xs index) ≡ false → k ≢ index → k < length xs
    → p (get_or xs k d) ≡ false
each_other_fails p xs index k d within none other lt =
    let parts = or_parts (list_any p (take index xs)) (list_any p (drop (suc index) xs)) (sym (list_any-append p (take index xs) (drop (suc index) xs)) ∙ none) in
    false_from_ne_true (p (get_or xs k d)) (λ passes.
    ⊎_elim
    (λ before. both_ways (list_any p (take index xs)) parts.0
    (list_any_at p (take index xs) k d (omega (arith, before, length-take-le index xs (omega (arith, within)))) (ap p (get_or-take index xs k d before) ∙ passes)))
    (λ behind.
    let split : suc index + (k - suc index) ≡ k = omega (arith, behind, other) in
    both_ways (list_any p (drop (suc index) xs)) parts.1
    (list_any_at p (drop (suc index) xs) (k - suc index) d (omega (arith, behind, other, lt, length-drop (suc index) xs))
    (ap p (get_or-drop (suc index) xs (k - suc index) d ∙ ap (λ (n : ℕ). get_or xs n d) split) ∙ passes)))
    (cases_lt k index))

pub aligned_above : (n alignment : ℕ) → n ≤ aligned n alignment
aligned_above n alignment = omega arith

-- If bytes fit, they are at most as many as the section has, and share no byte with any other section.
pub fits_apart : (sections : List SectionHeader) (index : ℕ) (s : SectionHeader) (len : ℕ) → index < length sections → fits_in_place sections index s len ≡ true
    → (len ≤ s.size) × ((k : ℕ) (d : SectionHeader) → k ≢ index → k < length sections → has_bytes (get_or sections k d) ≡ true
    → Apart (get_or sections k d).offset (get_or sections k d).size s.offset len)
unfolding fits_in_place
fits_apart sections index s len within fit =
    let parts = and_parts (nat_le len s.size) (not (list_any (shares_bytes s.offset len) (remove sections index))) fit in (
      leb-true len s.size parts.0,
      λ k d other lt some. not_shared s.offset len (get_or sections k d)
          (each_other_fails (shares_bytes s.offset len) sections index k d within (not-true (list_any (shares_bytes s.offset len) (remove sections index)) parts.1) other lt) some,
    )
