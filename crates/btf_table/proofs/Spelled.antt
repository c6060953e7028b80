-- The length of the spellings of a table's records, one after the other.
use Rattle.std.proofs.Common.{◌≡◌, ℕ, ◌+◌, List, [], ◌∷◌, length, drop, refl, sym, ap, ◌∙◌, arith}
use Rattle.std.specs.List.{flat_map, sum_by}
use Rattle.std.proofs.lemmas.List.{length-append}
use Rattle.std.proofs.lemmas.List.Sums.{sum_by-cons}
use Rattle.btf_model.specs.Record.{Record, unknown}
use Rattle.btf_model.specs.Spelling.{spell}
use Rattle.btf_model.specs.declared.endianness.Endianness.{Endianness}
use Rattle.btf_rewrite_model.specs.Checks.{record_len}
use Rattle.btf_model.proofs.Records.{length-spell}

-- the length of the spellings
spelled_len : (order : Endianness) (rs : List Record) → length (flat_map (spell order) rs) ≡ sum_by record_len rs
spelled_len order [] = refl
spelled_len order (r ∷ rs) =
    let here : sum_by record_len (r ∷ rs) ≡ record_len r + sum_by record_len rs = sum_by-cons record_len r rs in
    omega (arith, here, length-append (spell order r) (flat_map (spell order) rs), length-spell order r, spelled_len order rs)

-- without the first, which is Unknown
pub after_len : (order : Endianness) (rs xs : List Record) → xs ≡ unknown ∷ rs → sum_by record_len xs ≡ 12 + length (flat_map (spell order) (drop 1 xs))
after_len order rs xs is =
    let all : sum_by record_len xs ≡ 12 + sum_by record_len rs = ap (sum_by record_len) is ∙ sum_by-cons record_len unknown rs in
    all ∙ ap (λ (n : ℕ). 12 + n) (sym (spelled_len order rs)) ∙ ap (λ ys. 12 + length (flat_map (spell order) (drop 1 ys))) (sym is)
