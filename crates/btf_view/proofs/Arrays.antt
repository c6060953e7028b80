-- The words of an ARRAY.
use Rattle.std.proofs.Common.{◌≡◌, ◌≢◌, ℕ, ◌+◌, ◌≤◌, List, length, take, drop, Some, refl, sym, ap, ◌∙◌, arith}
use Rattle.std.proofs.lemmas.List.{length-drop, drop-drop}
use Rattle.std.proofs.lemmas.Option.{same_Some}
use Rattle.btf_model.specs.declared.endianness.Endianness.{Endianness}
use Rattle.btf_model.specs.Record.{Kind, Array, Var, Record, kind_of, vlen, tail_words}
use Rattle.btf_model.specs.Word.{word_of, words_at}
use Rattle.btf_model.specs.Blob.{word_at}
use Rattle.btf_model.specs.Walk as model
use Rattle.btf_view.specs.Places.{IsRecordAt}
use Rattle.btf_view.specs.Record.{HasTail}
use Rattle.btf_view.proofs.Tails.{tail_there}

not_var : (k : Kind) → k ≡ Array → k ≢ Var
not_var k is other = let e : Array ≡ Var = sym is ∙ other in cc

-- an ARRAY has three words after its head
three_words : (order : Endianness) (rest : List ℕ) (r : Record) → HasTail order rest r → kind_of r.info ≡ Some Array → (12 ≤ length rest) × (r.tail ≡ words_at order 3 rest)
three_words order rest r t array =
    let kind : t.kind ≡ Array = same_Some t.kind Array (sym t.has ∙ array) in
    let len : length r.tail ≡ 3 = t.len ∙ ap (λ (k : Kind). tail_words k (vlen r.info)) kind in
    (omega (arith, t.long, len), t.words (not_var t.kind kind) ∙ ap (λ (n : ℕ). words_at order n rest) len)

pub array_long : (order : Endianness) (types : List ℕ) (place : ℕ) (r : Record) → IsRecordAt order types place r → kind_of r.info ≡ Some Array → place + 24 ≤ length types
array_long order types place r is array =
    let three = three_words order (drop (place + 12) types) r (tail_there order types (drop (place + 12) types) place r refl is) array in
    omega (arith, three.0, length-drop (place + 12) types)

-- the first and the last of them
pub array_words : (order : Endianness) (types : List ℕ) (place : ℕ) (r : Record) (element count : ℕ) → IsRecordAt order types place r → kind_of r.info ≡ Some Array → element ≡ word_at order (place + 12) types → count ≡ word_at order (place + 12 + 8) types → model.Times count element ≡ model.array_extent r.tail
array_words order types place r element count is array element-is count-is =
    let rest = drop (place + 12) types in
    let three = three_words order rest r (tail_there order types rest place r refl is) array in
    let last : count ≡ word_of order (take 4 (drop 4 (drop 4 rest))) =
    count-is ∙ ap (λ (x : List ℕ). word_of order (take 4 x)) (sym (drop-drop 8 (place + 12) types) ∙ sym (drop-drop 4 4 rest)) in
    (λ i. model.Times (last i) (element-is i)) ∙ sym (ap model.array_extent three.1)
