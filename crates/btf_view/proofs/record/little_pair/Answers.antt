use Rattle.std.proofs.Common.{◌≡◌, ◌∙◌, ◌<◌, ◌+◌, ◌-◌, ℕ, List, drop, get_or, take, arith, ap, refl, sym}
use Rattle.std.proofs.lemmas.List.{get_or-drop, get_or-take}
use Rattle.std.proofs.lemmas.Nat.{and_mask}
use Rattle.btf_view.proofs.record.little_pair.Goals as goal

-- a byte of the four at an offset
front : (bytes : List ℕ) (b j : ℕ) → j < 4 → get_or (take 4 (drop b bytes)) j 0 ≡ get_or bytes (b + j) 0
front bytes b j lt = get_or-take 4 (drop b bytes) j 0 lt ∙ get_or-drop b bytes j 0

-- a byte of the eight at an offset
read : (bytes pair : List ℕ) (at m i n : ℕ) → pair ≡ take 8 (take m (drop at bytes)) → m ≡ 8 → i < 8 → n ≡ at + i → get_or pair i 0 ≡ get_or bytes n 0
read bytes pair at m i n is eight lt at-n =
    ap (λ (xs : List ℕ). get_or xs i 0) is ∙ get_or-take 8 (take m (drop at bytes)) i 0 lt ∙ get_or-take m (drop at bytes) i 0 (omega (arith, eight, lt)) ∙ get_or-drop at bytes i 0
    ∙ ap (λ (k : ℕ). get_or bytes k 0) (omega (arith, at-n))

pub returns-in-Some-clause-first : goal.returns-in-Some-clause-first
returns-in-Some-clause-first c =
    let bytes = c.args.bytes.now in
    let at = c.args.at in
    let both = c.from_le_bytes-both.result in
    let eight : at + 8 - at ≡ 8 = omega arith in
    let byte : (i : ℕ) → i < 4 → get_or c.in-Some.pair.now i 0 ≡ get_or (take 4 (drop at bytes)) i 0 =
    λ i lt. read bytes c.in-Some.pair.now at (at + 8 - at) i (at + i) c.in-Some.ensures.cases.same eight (omega (arith, lt)) refl ∙ sym (front bytes at i lt) in
    let fits : (i : ℕ) → i < 4 → get_or (take 4 (drop at bytes)) i 0 < 256 = λ i lt. omega (arith, front bytes at i lt, c.type_inv.bytes (at + i)) in
    and_mask both 32 ∙ omega (arith, c.from_le_bytes-both.ensures, byte 0 (omega arith), byte 1 (omega arith), byte 2 (omega arith), byte 3 (omega arith), fits 0 (omega arith), fits 1 (omega arith), fits 2 (omega arith), fits 3 (omega arith))

pub returns-in-Some-clause-second : goal.returns-in-Some-clause-second
returns-in-Some-clause-second c =
    let bytes = c.args.bytes.now in
    let at = c.args.at in
    let both = c.from_le_bytes-both.result in
    let eight : at + 8 - at ≡ 8 = omega arith in
    let low : (i : ℕ) → i < 4 → get_or c.in-Some.pair.now i 0 < 256 =
    λ i lt. omega (arith, read bytes c.in-Some.pair.now at (at + 8 - at) i (at + i) c.in-Some.ensures.cases.same eight (omega (arith, lt)) refl, c.type_inv.bytes (at + i)) in
    let byte : (i : ℕ) → i < 4 → get_or c.in-Some.pair.now (4 + i) 0 ≡ get_or (take 4 (drop (at + 4) bytes)) i 0 =
    λ i lt. read bytes c.in-Some.pair.now at (at + 8 - at) (4 + i) (at + 4 + i) c.in-Some.ensures.cases.same eight (omega (arith, lt)) (omega arith) ∙ sym (front bytes (at + 4) i lt) in
    omega (arith, c.from_le_bytes-both.ensures, byte 0 (omega arith), byte 1 (omega arith), byte 2 (omega arith), byte 3 (omega arith), low 0 (omega arith), low 1 (omega arith), low 2 (omega arith), low 3 (omega arith))
