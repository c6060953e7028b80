-- The look-up of a name in one kind after the other, and the findings for names.
use Rattle.std.proofs.Common.{◌≡◌, ◌∙◌, ℕ, zero, suc, Bor, ◌+◌, ◌<◌, Bool, true, false, List, [], ◌∷◌, ◌++◌, length, drop, take, map, get_or, Option, None, Some, refl, sym, ap, subst, arith, inl, inr}
use Rattle.std.specs.Prelude.{◌&&◌}
use Rattle.std.specs.List.{AllByRecursion}
use Rattle.std.proofs.Math.Seq.{drop-cons}
use Rattle.std.proofs.lemmas.List.{map-append}
use Rattle.btf_model.specs.Table.{Table}
use Rattle.btf_plain.specs.declared.kind.BtfKind.{BtfKind}
use Rattle.btf_plain.specs.declared.kind.BtfKind.TheVariants.{Unknown}
use Rattle.btfobj_cli.specs.Compat.{FindsOrNone, FindsFirst, FindsByName, AreFindings, is_compatible, are_compatible}
use Rattle.btfobj_cli.specs.declared.compatibility.Finding.{Finding}

-- the kinds from an index on
from : (ks : List BtfKind) (i : ℕ) → i < length ks → drop i ks ≡ get_or ks i Unknown ∷ drop (i + 1) ks
from ks i lt = let next : suc i ≡ i + 1 = omega arith in drop-cons ks i Unknown lt ∙ ap (λ (n : ℕ). get_or ks i Unknown ∷ drop n ks) next

-- the kind of an index has no type of the name
pub kind_passed : (t : Table) (name : List ℕ) (ks : List BtfKind) (i : ℕ) (found : Option (BtfKind × ℕ)) → i < length ks → FindsOrNone t (get_or ks i Unknown) name None → FindsFirst t name (drop (i + 1) ks) found
    → FindsFirst t name (drop i ks) found
kind_passed t name ks i found lt none rest = subst (λ (xs : List BtfKind). FindsFirst t name xs found) (sym (from ks i lt)) (inr (none, rest))

-- the kind of an index has one
pub kind_found : (t : Table) (name : List ℕ) (ks : List BtfKind) (i id : ℕ) → i < length ks → FindsOrNone t (get_or ks i Unknown) name (Some id)
    → FindsFirst t name (drop i ks) (Some (get_or ks i Unknown, id))
kind_found t name ks i id lt has = subst (λ (xs : List BtfKind). FindsFirst t name xs (Some (get_or ks i Unknown, id))) (sym (from ks i lt)) (inl (id, has, refl))

-- no kind is left
pub no_kind : (t : Table) (name : List ℕ) (ks : List BtfKind) (i : ℕ) → drop i ks ≡ [] → FindsFirst t name (drop i ks) None
no_kind t name ks i none = subst (λ (xs : List BtfKind). FindsFirst t name xs None) (sym none) refl

-- ---- the findings for names

each_push : (local other : Table) (found : List (List ℕ × Finding)) (name : List ℕ) (finding : Finding) → AllByRecursion (λ (f : List ℕ × Finding). FindsByName local other f.0 f.1) found → FindsByName local other name finding
    → AllByRecursion (λ (f : List ℕ × Finding). FindsByName local other f.0 f.1) (found ++ (name, finding) ∷ [])
each_push local other [] name finding each finds = (finds, tt)
each_push local other (f ∷ found) name finding each finds = (each.0, each_push local other found name finding each.1 finds)

pub findings_push : (local other : Table) (names : List (List ℕ)) (found : List (List ℕ × Finding)) (name : List ℕ) (finding : Finding) → AreFindings local other names found → FindsByName local other name finding
    → AreFindings local other (names ++ name ∷ []) (found ++ (name, finding) ∷ [])
findings_push local other names found name finding are finds = record {
  named = map-append (λ (f : List ℕ × Finding). f.0) found ((name, finding) ∷ []) ∙ ap (λ (ns : List (List ℕ)). ns ++ name ∷ []) are.named;
  each = each_push local other found name finding are.each finds;
}

pub compatible_push : (found : List (List ℕ × Finding)) (name : List ℕ) (finding : Finding) → are_compatible (found ++ (name, finding) ∷ []) ≡ (are_compatible found && is_compatible finding)
compatible_push [] name finding = elim (is_compatible finding) as (λ (b : Bool). (b && true) ≡ (true && b)) [ true ↦ refl | false ↦ refl ]
compatible_push (f ∷ found) name finding =
    ap (λ (b : Bool). is_compatible f.1 && b) (compatible_push found name finding)
    ∙ elim (is_compatible f.1) as (λ (b : Bool). (b && (are_compatible found && is_compatible finding)) ≡ ((b && are_compatible found) && is_compatible finding)) [ true ↦ refl | false ↦ refl ]

-- the names up to one
pub names_next : (names : List (Bor (List ℕ))) (i : ℕ) (d : Bor (List ℕ)) → i < length names
    → take (i + 1) (map (λ (name : Bor (List ℕ)). name.now) names) ≡ take i (map (λ (name : Bor (List ℕ)). name.now) names) ++ (get_or names i d).now ∷ []
names_next [] i d lt = absurd (omega arith)
names_next (name ∷ names) zero d lt = refl
names_next (name ∷ names) (suc i) d lt =
    let next : suc i + 1 ≡ suc (i + 1) = omega arith in
    ap (λ (k : ℕ). take k (map (λ (n : Bor (List ℕ)). n.now) (name ∷ names))) next ∙ ap (λ (ns : List (List ℕ)). name.now ∷ ns) (names_next names i d (omega (arith, lt)))

-- the findings for the names up to an index, and whether all their types are compatible
abbrev pub Found : Table → Table → List (Bor (List ℕ)) → ℕ → Bool → Type 0
Found local other names i all =
    (found : List (List ℕ × Finding)) × AreFindings local other (take i (map (λ (name : Bor (List ℕ)). name.now) names)) found × (all ≡ are_compatible found)

pub one_more : (local other : Table) (names : List (Bor (List ℕ))) (i : ℕ) (d : Bor (List ℕ)) (finding : Finding) (all next : Bool) → i < length names → FindsByName local other (get_or names i d).now finding
    → next ≡ (all && is_compatible finding) → Found local other names i all → Found local other names (i + 1) next
one_more local other names i d finding all next lt finds is before =
    let name : List ℕ = (get_or names i d).now in
    let found : List (List ℕ × Finding) = before.0 in (
      found ++ (name, finding) ∷ [],
      subst (λ (ns : List (List ℕ)). AreFindings local other ns (found ++ (name, finding) ∷ [])) (sym (names_next names i d lt)) (findings_push local other (take i (map (λ (n : Bor (List ℕ)). n.now) names)) found name finding before.1 finds),
      is ∙ ap (λ (b : Bool). b && is_compatible finding) before.2 ∙ sym (compatible_push found name finding),
    )
