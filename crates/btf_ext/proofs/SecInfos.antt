-- Cutting a section off the front of bytes.
use Rattle.std.proofs.Common.{◌≡◌, ◌≢◌, ℕ, ◌+◌, ◌*◌, ◌^◌, ◌<◌, ◌≤◌, List, ◌++◌, length, take, drop, Some, refl, sym, ap, ◌∙◌, arith, inl, inr}
use Rattle.std.specs.Prelude.{◌⊎◌, min}
use Rattle.std.proofs.lemmas.Bool.{le-ltb}
use Rattle.std.proofs.lemmas.List.{length-take, length-drop, take-append-drop}
use Rattle.btf_model.specs.declared.endianness.Endianness.{Endianness}
use Rattle.btf_model.specs.Refusal.{InvalidInfo}
use Rattle.btf_model.specs.Blob.{word_at}
use Rattle.btf_model.specs.Ext.{Section, IsSection, BeginsNoSection, ext_section_bytes, cut_refusal, largest_len}
use Rattle.btf_model.proofs.Words.{IsBytes}
use Rattle.btf_model.proofs.Sections.{none_in_cut, begins_section, word_at_fits}

-- the two words at the start of bytes, and the bytes after them
pub record IsHead (order : Endianness) (bytes : List ℕ) (name count : ℕ) (rest : List ℕ) : Type 0 where
  pub long : 8 ≤ length bytes
  pub name_is : name ≡ word_at order 0 bytes
  pub count_is : count ≡ word_at order 4 bytes
  pub rest_is : rest ≡ drop 4 (drop 4 bytes)

length-rest : (order : Endianness) (bytes : List ℕ) (name count : ℕ) (rest : List ℕ) → IsHead order bytes name count rest → 8 + length rest ≡ length bytes
length-rest order bytes name count rest h = omega (arith, h.long, ap length h.rest_is, length-drop 4 (drop 4 bytes), length-drop 4 bytes)

-- there is no record, or the records pass the end
pub cut_section : (order : Endianness) (size : ℕ) (bytes : List ℕ) (name count : ℕ) (rest : List ℕ) (len : ℕ) → IsHead order bytes name count rest → len ≡ min (size * count) largest_len → (len ≡ 0) ⊎ (length rest < len)
    → BeginsNoSection order size bytes × (Some (InvalidInfo 8 len (length bytes)) ≡ Some (cut_refusal order size bytes))
cut_section order size bytes name count rest len h len-is bad = (none, reported)
  where
    product : size * word_at order 4 bytes ≡ size * count
    product = ap (λ (n : ℕ). size * n) (sym h.count_is)

    none : BeginsNoSection order size bytes
    none = none_in_cut order size bytes (size * word_at order 4 bytes) h.long refl (elim bad [
      | inl zero ↦ inl (omega (arith, zero, len-is, product))
      | inr cut ↦ inr (omega (arith, cut, len-is, product, length-rest order bytes name count rest h))
    ])

    reported : Some (InvalidInfo 8 len (length bytes)) ≡ Some (cut_refusal order size bytes)
    reported = rw (le-ltb (length bytes) 8 h.long, product) (ap (λ (n : ℕ). Some (InvalidInfo 8 n (length bytes))) len-is)

-- the records are within the rest
pub whole_section : (order : Endianness) (size : ℕ) (bytes : List ℕ) (name count : ℕ) (rest : List ℕ) (len : ℕ) (s : Section) (behind : List ℕ) → IsBytes bytes → length bytes < 2 ^ 64 → IsHead order bytes name count rest → len ≡ min (size * count) largest_len → len ≢ 0 → len ≤ length rest → s.name ≡ name → s.count ≡ count → s.bytes ≡ take len rest → behind ≡ drop len rest
    → IsSection size s × (bytes ≡ ext_section_bytes order s ++ behind)
whole_section order size bytes name count rest len s behind fits short h len-is some le name-is count-is bytes-is behind-is =
    let all : len ≡ size * s.count = omega (arith, len-is, le, short, length-rest order bytes name count rest h, ap (λ (n : ℕ). size * n) count-is) in
    let cut : drop 4 (drop 4 bytes) ≡ s.bytes ++ behind = sym h.rest_is ∙ sym (take-append-drop len rest) ∙ ap (λ (x : List ℕ). x ++ drop len rest) (sym bytes-is) ∙ ap (λ (x : List ℕ). s.bytes ++ x) (sym behind-is) in (
      record {
        name = rw (name-is, h.name_is) (word_at_fits order 0 bytes fits);
        count = rw (count-is, h.count_is) (word_at_fits order 4 bytes fits);
        some_record = positive s.count (λ zero. some (all ∙ ap (λ (n : ℕ). size * n) zero ∙ omega arith));
        some_byte = positive size (λ zero. some (all ∙ ap (λ (n : ℕ). n * s.count) zero ∙ omega arith));
        records = ap length bytes-is ∙ omega (arith, le, length-take len rest) ∙ all;
      },
      begins_section order bytes s behind fits h.long (name-is ∙ h.name_is) (count-is ∙ h.count_is) cut,
    )
  where
    positive : (n : ℕ) → n ≢ 0 → 0 < n
    positive n h = omega (arith, h)
