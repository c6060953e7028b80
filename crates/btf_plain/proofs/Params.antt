-- A parameter that gets a name.
use Rattle.std.proofs.Common.{◌≡◌, ℕ, suc, ◌+◌, ◌*◌, ◌<◌, List, [], ◌∷◌, ◌++◌, length, get_or, take, drop, set, refl, sym, ap, ◌∙◌, append_assoc, arith}
use Rattle.std.specs.List.{flat_map}
use Rattle.std.proofs.lemmas.List.{drop_more, drop-drop}
use Rattle.btf_plain.specs.declared.items.BtfParam.{BtfParam}
use Rattle.btf_plain.specs.Items.{param_words}
use Rattle.btf_plain.proofs.Lists.{words_of_set, words_after}

pub param_named : (ps : List BtfParam) (i n t : ℕ) (lt : i < length ps) → ((p : BtfParam) → t ≡ (get_or ps i p).btf_type) → flat_map param_words (set ps i (record { name_offset = n; btf_type = t })) ≡ take (2 * i) (flat_map param_words ps) ++ n ∷ drop (2 * i + 1) (flat_map param_words ps)
param_named ps i n t lt same =
    let p : BtfParam = record { name_offset = n; btf_type = t } in
    let old = get_or ps i p in
    let two : 2 * suc i ≡ 2 * i + 2 = omega arith in
    let at : drop (2 * i) (flat_map param_words ps) ≡ old.name_offset ∷ old.btf_type ∷ flat_map param_words (drop (i + 1) ps) =
    words_after 2 param_words (λ _. refl) ps i (omega arith) ∙ ap (λ (qs : List BtfParam). flat_map param_words qs) (drop_more ps i p lt) in
    let one : suc i ≡ i + 1 = omega arith in
    let behind : drop (2 * i + 1) (flat_map param_words ps) ≡ old.btf_type ∷ flat_map param_words (drop (i + 1) ps) =
    sym (drop-drop 1 (2 * i) (flat_map param_words ps)) ∙ ap (λ (ws : List ℕ). drop 1 ws) at in
    let further : drop (2 * suc i) (flat_map param_words ps) ≡ flat_map param_words (drop (i + 1) ps) =
    words_after 2 param_words (λ _. refl) ps (suc i) (omega arith) ∙ ap (λ (k : ℕ). flat_map param_words (drop k ps)) one in
    let kept : t ≡ old.btf_type = same p in
    let tail : t ∷ drop (2 * suc i) (flat_map param_words ps) ≡ drop (2 * i + 1) (flat_map param_words ps) =
    ap (λ (x : ℕ). x ∷ drop (2 * suc i) (flat_map param_words ps)) kept ∙ ap (λ (ws : List ℕ). old.btf_type ∷ ws) further ∙ sym behind in
    words_of_set 2 param_words (λ _. refl) ps i p lt
    ∙ append_assoc (take (2 * i) (flat_map param_words ps)) (n ∷ t ∷ []) (drop (2 * suc i) (flat_map param_words ps))
    ∙ ap (λ (ws : List ℕ). take (2 * i) (flat_map param_words ps) ++ n ∷ ws) tail
