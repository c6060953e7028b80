-- Listings: one line more.
use Rattle.std.proofs.Common.{◌≡◌, ℕ, ◌+◌, suc, ◌<◌, List, [], ◌∷◌, ◌++◌, length, take, map, slice_index_or, take-suc, sym, ap, ◌∙◌, arith}
use Rattle.std.proofs.lemmas.List.{append-nil, append_assoc, map-append, length-map, length-take}
use Rattle.btf_model.specs.Record.{Record}
use Rattle.btf_records.specs.BtfType.{record_of}
use Rattle.btf_records.specs.declared.btf_type.BtfType.{BtfType}
use Rattle.btf_cli.specs.Listing.{type_line, lines_from}

-- the line of one more type
lines_push : (strings : List ℕ) (id : ℕ) (rs : List Record) (r : Record) → lines_from strings id (rs ++ r ∷ []) ≡ lines_from strings id rs ++ type_line strings (id + length rs) r
lines_push strings id [] r = append-nil (type_line strings id r) ∙ ap (λ (at : ℕ). type_line strings at r) (omega arith)
lines_push strings id (q ∷ rs) r =
    ap (λ (more : List ℕ). type_line strings id q ++ more) (lines_push strings (id + 1) rs r ∙ ap (λ (at : ℕ). lines_from strings (id + 1) rs ++ type_line strings at r) (omega arith))
    ∙ sym (append_assoc (type_line strings id q) (lines_from strings (id + 1) rs) (type_line strings (id + suc (length rs)) r))

-- the line of the type at an index; the first type has id 1
pub lines_next : (strings : List ℕ) (types : List BtfType) (place : ℕ) (t : BtfType) → place < length types → t ≡ slice_index_or types place t
    → lines_from strings 1 (map record_of (take (place + 1) types)) ≡ lines_from strings 1 (map record_of (take place types)) ++ type_line strings (place + 1) (record_of t)
lines_next strings types place t lt is =
    let next : place + 1 ≡ suc place = omega arith in
    let more : take (place + 1) types ≡ take place types ++ t ∷ [] = ap (λ (n : ℕ). take n types) next ∙ take-suc types place t lt ∙ ap (λ (x : BtfType). take place types ++ x ∷ []) (sym is) in
    let at-is : 1 + length (map record_of (take place types)) ≡ place + 1 = omega (arith, lt, length-map (take place types) record_of, length-take place types) in
    ap (λ (xs : List BtfType). lines_from strings 1 (map record_of xs)) more
    ∙ ap (lines_from strings 1) (map-append record_of (take place types) (t ∷ []))
    ∙ lines_push strings 1 (map record_of (take place types)) (record_of t)
    ∙ ap (λ (at : ℕ). lines_from strings 1 (map record_of (take place types)) ++ type_line strings at (record_of t)) at-is
