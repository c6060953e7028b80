-- Whether types differ from the old types of their ids: one type more.
use Rattle.std.proofs.Common.{◌≡◌, ◌∙◌, ℕ, suc, ◌+◌, ◌<◌, Bool, true, false, ◌||◌, List, [], ◌∷◌, ◌++◌, length, take, map, get_or, take-suc, refl, sym, ap, arith}
use Rattle.std.specs.Prelude.{slice_get}
use Rattle.std.specs.List.{list_any, enumerate_from}
use Rattle.std.proofs.lemmas.List.{map-append, length-map, length-take-le}
use Rattle.std.proofs.lemmas.List.Folds.{list_any-append}
use Rattle.btf_model.specs.Record.{Record}
use Rattle.btf_records.specs.BtfType.{record_of}
use Rattle.btf_records.specs.declared.btf_type.BtfType.{BtfType}
use Rattle.btfobj_cli.specs.Changes.{is_changed, has_changed}

enumerate-push : {A : Type 0} (n : ℕ) (xs : List A) (y : A) → enumerate_from n (xs ++ y ∷ []) ≡ enumerate_from n xs ++ (n + length xs, y) ∷ []
enumerate-push n [] y = let none : n ≡ n + 0 = omega arith in ap (λ (k : ℕ). (k, y) ∷ []) none
enumerate-push n (x ∷ xs) y =
    let more : (n + 1) + length xs ≡ n + suc (length xs) = omega arith in
    ap (λ ps. (n, x) ∷ ps) (enumerate-push (n + 1) xs y ∙ ap (λ (k : ℕ). enumerate_from (n + 1) xs ++ (k, y) ∷ []) more)

-- one type more differs
changed_push : (old new : List Record) (r : Record) → has_changed old (new ++ r ∷ []) ≡ (has_changed old new || is_changed (slice_get old (length new)) r)
changed_push old new r =
    let differs = λ (p : ℕ × Record). is_changed (slice_get old p.0) p.1 in
    ap (list_any differs) (enumerate-push 0 new r)
    ∙ list_any-append differs (enumerate_from 0 new) ((0 + length new, r) ∷ [])
    ∙ (let at : 0 + length new ≡ length new = omega arith in
    ap (λ (k : ℕ). has_changed old new || (is_changed (slice_get old k) r || false)) at)
    ∙ ap (λ (b : Bool). has_changed old new || b) (elim (is_changed (slice_get old (length new)) r) as (λ (b : Bool). (b || false) ≡ b) [ true ↦ refl | false ↦ refl ])

-- the type at an index differs
pub changed_next : (old : List Record) (types : List BtfType) (i : ℕ) (t : BtfType) → i < length types → t ≡ get_or types i t
    → has_changed old (map record_of (take (i + 1) types)) ≡ (has_changed old (map record_of (take i types)) || is_changed (slice_get old i) (record_of t))
changed_next old types i t lt is =
    let next : i + 1 ≡ suc i = omega arith in
    let before : List Record = map record_of (take i types) in
    let more : take (i + 1) types ≡ take i types ++ t ∷ [] = ap (λ (n : ℕ). take n types) next ∙ take-suc types i t lt ∙ ap (λ (x : BtfType). take i types ++ x ∷ []) (sym is) in
    let at : length before ≡ i = omega (arith, lt, length-map (take i types) record_of, length-take-le i types (omega (arith, lt))) in
    ap (λ (ts : List BtfType). has_changed old (map record_of ts)) more
    ∙ ap (has_changed old) (map-append record_of (take i types) (t ∷ []))
    ∙ changed_push old before (record_of t)
    ∙ ap (λ (n : ℕ). has_changed old before || is_changed (slice_get old n) (record_of t)) at
