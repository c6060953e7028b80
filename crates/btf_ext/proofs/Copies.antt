-- Copying a map under names, entry by entry.
use Rattle.std.proofs.Common.{◌≡◌, ℕ, Bool, true, false, cond, List, [], ◌∷◌, Option, Some, None, refl, sym, ap, subst, ◌∙◌, Global}
use Rattle.std.specs.Prelude.{option_map, string_bytes}
use Rattle.std.specs.List.{AllByRecursion, IsDistinct}
use Rattle.std.specs.Map.{keys_of, lookup}
use Rattle.std.specs.Option.{option_or}
use Rattle.std.specs.HashMap as hash
use Rattle.std.specs.HashMap.{HashMap, get_by_text}
use Rattle.std.specs.Str.{bytes_eq}
use Rattle.std.specs.String.{string_eq}
use Rattle.std.specs.declared.string.String.{String}
use Rattle.std.proofs.lemmas.Map.Keys.{IsDistinct-head, IsDistinct-tail}
use Rattle.std.proofs.lemmas.Map.Text.{is_text, hash_map_updates_text}
use Rattle.std.proofs.lemmas.Slice.Eq.{bytes_eq-Decides}
use Rattle.std.proofs.lemmas.Bool.{true≢false}
use Rattle.btf_model.specs.Ext.{Records}

-- the copied entries and the remaining entries together are the map
pub record CopiedSoFar {X S : Type 0} (view : X → Records) (whole : List (String Global × X)) (copy : HashMap (String Global) X S) (rest : List (String Global × X)) : Type 0 where
  pub distinct : IsDistinct string_eq (keys_of rest)
  pub found : (name : List ℕ) → option_or (option_map view (lookup (is_text name) rest)) (option_map view (get_by_text copy name)) ≡ option_map view (lookup (is_text name) whole)

-- a name that is found is not among the later names
none_later : {X : Type 0} (name : List ℕ) (k : String Global) (es : List (String Global × X)) → bytes_eq name (string_bytes k) ≡ true → AllByRecursion (λ y. string_eq k y ≡ false) (keys_of es) → lookup (is_text name) es ≡ None
none_later name k [] h apart = refl
none_later name k (e ∷ es) h apart =
    let here : bytes_eq name (string_bytes e.0) ≡ false = ap (λ (x : List ℕ). bytes_eq x (string_bytes e.0)) ((bytes_eq-Decides name (string_bytes k)).0 h) ∙ apart.0 in
    ap (λ (b : Bool). cond b (Some e.1) (lookup (is_text name) es)) here ∙ none_later name k es h apart.1

-- one of the remaining entries is copied
moved : {X : Type 0} (view : X → Records) (b : Bool) (later before after : Option X) (v w : X) → (b ≡ true → later ≡ None) → view w ≡ view v → after ≡ cond b (Some w) before → option_or (option_map view later) (option_map view after) ≡ option_or (option_map view (cond b (Some v) later)) (option_map view before)
moved view true later before after v w none same is = ap (λ o. option_or (option_map view o) (option_map view after)) (none refl) ∙ ap (option_map view) is ∙ ap (λ (x : Records). Some x) same
moved view false later before after v w none same is = ap (λ o. option_or (option_map view later) (option_map view o)) is

pub eq_flips : (xs ys : List ℕ) (b c : Bool) → bytes_eq xs ys ≡ b → bytes_eq ys xs ≡ c → b ≡ c
eq_flips xs ys true true p q = refl
eq_flips xs ys false false p q = refl
eq_flips xs ys true false p q = absurd (true≢false (sym ((bytes_eq-Decides ys xs).1 (sym ((bytes_eq-Decides xs ys).0 p))) ∙ q))
eq_flips xs ys false true p q = absurd (true≢false (sym ((bytes_eq-Decides xs ys).1 (sym ((bytes_eq-Decides ys xs).0 q))) ∙ p))

-- before the first entry
pub nothing_copied : {X S : Type 0} (view : X → Records) (m copy : HashMap (String Global) X S) (rest : List (String Global × X)) → rest ≡ m.entries → hash.IsUnique string_eq m → ((name : List ℕ) → option_map view (get_by_text copy name) ≡ None) → CopiedSoFar view m.entries copy rest
nothing_copied view m copy rest is unique none = record {
  distinct = subst (λ es. IsDistinct string_eq (keys_of es)) (sym is) unique;
  found = λ name. ap (λ es. option_or (option_map view (lookup (is_text name) es)) (option_map view (get_by_text copy name))) is ∙ ap (option_or (option_map view (lookup (is_text name) m.entries))) (none name) ∙ or_none (option_map view (lookup (is_text name) m.entries));
}
  where
    or_none : (o : Option Records) → option_or o None ≡ o
    or_none (Some x) = refl
    or_none None = refl

-- one more entry
pub one_more_copied : {X S : Type 0} (view : X → Records) (whole : List (String Global × X)) (old new : HashMap (String Global) X S) (rest next : List (String Global × X)) (k : String Global) (v : X) (name : String Global) (w : X) → CopiedSoFar view whole old rest → rest ≡ (k, v) ∷ next → string_bytes name ≡ string_bytes k → view w ≡ view v → hash.Updates string_eq old new name (Some w) → CopiedSoFar view whole new next
one_more_copied view whole old new rest next k v name w h is same-name same-value updates = record {
  distinct = IsDistinct-tail string_eq k (keys_of next) distinct;
  found = λ q.
      moved view (bytes_eq q (string_bytes k)) (lookup (is_text q) next) (get_by_text old q) (get_by_text new q) v w
      (λ at. none_later q k next at (IsDistinct-head string_eq k (keys_of next) distinct)) same-value
      (hash_map_updates_text (string_bytes name) old new (Some w) updates q ∙ ap (λ (x : List ℕ). cond (bytes_eq x q) (Some w) (get_by_text old q)) same-name
      ∙ ap (λ (b : Bool). cond b (Some w) (get_by_text old q)) (eq_flips (string_bytes k) q (bytes_eq (string_bytes k) q) (bytes_eq q (string_bytes k)) refl refl))
      ∙ ap (λ es. option_or (option_map view (lookup (is_text q) es)) (option_map view (get_by_text old q))) (sym is) ∙ h.found q;
}
  where
    distinct : IsDistinct string_eq (keys_of ((k, v) ∷ next))
    distinct = subst (λ es. IsDistinct string_eq (keys_of es)) is h.distinct
