-- The names that a rewrite may ask for.
use Rattle.std.proofs.Common.{◌≡◌, ℕ, ◌<◌, ◌≤◌, Bool, true, false, ◌&&◌, List, length, refl, ap, ◌∙◌}
use Rattle.std.specs.Prelude.{nat_lt}
use Rattle.std.specs.Str.{is_utf8, IsUtf8}
use Rattle.std.proofs.Math.Bool.{and-false}
use Rattle.std.proofs.lemmas.Bool.{lt-ltb, le-ltb}
use Rattle.std.proofs.lemmas.Str.{IsUtf8-from_is_utf8, is_utf8-from_IsUtf8}
use Rattle.btf_object_model.specs.Layout.{is_askable}

pub askable_is : (name : List ℕ) → IsUtf8 name → length name < 512 → is_askable name ≡ true
askable_is name utf8 short = ap (λ (b : Bool). b && nat_lt (length name) 512) (is_utf8-from_IsUtf8 name utf8) ∙ lt-ltb (length name) 512 short

pub not_utf8 : (name : List ℕ) → ¬ (IsUtf8 name) → is_askable name ≡ false
not_utf8 name none =
    let no : is_utf8 name ≡ false = elim (is_utf8 name) as (λ (b : Bool). is_utf8 name ≡ b → b ≡ false) [ true ↦ λ is. absurd (none (IsUtf8-from_is_utf8 name is)) | false ↦ λ is. refl ] refl in
    ap (λ (b : Bool). b && nat_lt (length name) 512) no

pub too_long : (name : List ℕ) → 512 ≤ length name → is_askable name ≡ false
too_long name long = ap (λ (b : Bool). is_utf8 name && b) (le-ltb (length name) 512 long) ∙ and-false (is_utf8 name)
