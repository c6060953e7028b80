-- The ranges of `.BTF.ext`.
use Rattle.std.proofs.Common.{◌≡◌, ◌≢◌, ℕ, ◌+◌, ◌-◌, ◌≤◌, List, [], Bool, false, length, take, drop, sym, ap, ◌∙◌, arith}
use Rattle.std.specs.Prelude.{slice_range, ◌==◌, if◌then◌else◌}
use Rattle.std.proofs.lemmas.Bool.{ne_eqb}
use Rattle.std.proofs.lemmas.List.{length-take, length-drop, take-take, drop-take, drop-drop}
use Rattle.btf_model.specs.Word.{word_of}
use Rattle.btf_model.specs.declared.endianness.Endianness.{Endianness}
use Rattle.btf_model.specs.Blob.{slice, word_at}
use Rattle.btf_model.specs.Ext.{Range, Part, IsRange, part_of}

same_part : (p q : Part) → p.size ≡ q.size → p.bytes ≡ q.bytes → p ≡ q
same_part p q a b = λ i. record { size = a i; bytes = b i }

-- the contents of a range that is not empty
pub full_range : (order : Endianness) (bytes : List ℕ) (r : Range) (size : ℕ) (found first rest : List ℕ) → r.start + r.len ≤ length bytes → found ≡ slice_range bytes r.start (r.start + r.len) → length found ≢ 0 → length rest + 4 ≡ length found → first ≡ take 4 found → size ≡ word_of order first → rest ≡ drop 4 found → r.least ≤ size
    → IsRange order bytes r × (record { size = size; bytes = rest } ≡ part_of order bytes r)
full_range order bytes r size found first rest within is some word first-is size-is rest-is large =
    let behind = drop r.start bytes in
    let found-is : found ≡ take r.len behind = is ∙ ap (λ (n : ℕ). take n behind) (omega arith) in
    let len : length found ≡ r.len = ap length found-is ∙ omega (arith, within, length-take r.len behind, length-drop r.start bytes) in
    let four : 4 ≤ r.len = omega (arith, word, len) in
    let size-at : size ≡ word_at order r.start bytes = size-is ∙ ap (word_of order) (first-is ∙ ap (take 4) found-is ∙ take-take 4 r.len behind four) in
    let split : r.len ≡ 4 + (r.len - 4) = omega (arith, four) in
    let rest-at : rest ≡ slice (r.start + 4) (r.len - 4) bytes = rest-is ∙ ap (drop 4) (found-is ∙ ap (λ (n : ℕ). take n behind) split) ∙ drop-take 4 (r.len - 4) behind ∙ ap (take (r.len - 4)) (drop-drop 4 r.start bytes) in
    let part : Part = record { size = word_at order r.start bytes; bytes = slice (r.start + 4) (r.len - 4) bytes } in
    let none : Part = record { size = 0; bytes = [] } in
    let full : (r.len == 0) ≡ false = ne_eqb r.len 0 (λ zero. some (len ∙ zero)) in (
      record {
        within = within;
        has_word = λ _. four;
        large_enough = λ _. omega (arith, large, size-at);
      },
      same_part (record { size = size; bytes = rest }) part size-at rest-at ∙ ap (λ (b : Bool). if b then none else part) (sym full),
    )
