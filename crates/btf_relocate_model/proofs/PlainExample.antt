-- A table whose members have different names: `struct s { int a; int b; }`. So the laws of the own table apply to it.
use Rattle.std.proofs.Common.{◌≡◌, ℕ, zero, suc, ◌+◌, ◌*◌, ◌^◌, List, [], ◌∷◌, ◌++◌, codes, Bool, true, false, Some, None, Ok, refl, sym, ap, subst, ◌∙◌, inl, inr}
use Rattle.std.specs.Prelude.{◌⊎◌, slice_get}
use Rattle.std.specs.Str.{bytes_eq}
use Rattle.btf_model.specs.Record.{Record, unknown}
use Rattle.btf_model.specs.Table.{Table}
use Rattle.btf_model.specs.declared.endianness.Endianness.TheVariants.{Little}
use Rattle.btf_relocate_model.proofs.OwnPaths.{same_ok, same_some}
use Rattle.btf_relocate_model.specs.Candidates.{is_nameless}
use Rattle.btf_relocate_model.specs.Compatible.{compatible, compatible_within}
use Rattle.btf_relocate_model.specs.Field.{Member, members_of}
use Rattle.btf_relocate_model.specs.Laws.{LeadsTo, HasPlainMembers}
use Rattle.btf_relocate_model.specs.Types.{name_or_none, walk}

-- `int` at 1, `s` at 5, `a` at 7, `b` at 9
abbrev texts : List ℕ
texts = (0 ∷ []) ++ codes "int" ++ (0 ∷ []) ++ codes "s" ++ (0 ∷ []) ++ codes "a" ++ (0 ∷ []) ++ codes "b" ++ (0 ∷ [])

abbrev int : Record
int = record { name = 1; info = 1 * 2 ^ 24; third = 4; tail = (1 * 2 ^ 24 + 32) ∷ [] }

abbrev structure : Record
structure = record { name = 5; info = 4 * 2 ^ 24 + 2; third = 8; tail = 7 ∷ 1 ∷ 0 ∷ 9 ∷ 1 ∷ 32 ∷ [] }

abbrev local : Table
local = record { order = Little; magic = 0xeb9f; version = 1; flags = 0; strings = texts; records = unknown ∷ int ∷ structure ∷ []; fallbacks = [] }

abbrev a : Member
a = record { name = 7; type = 1; offset = 0 }

abbrev b : Member
b = record { name = 9; type = 1; offset = 32 }

-- each member is one of the two
members : (k i : ℕ) (r : Record) (m : Member) → slice_get local.records k ≡ Some r → slice_get (members_of r) i ≡ Some m → ((i ≡ 0) × (a ≡ m)) ⊎ ((i ≡ 1) × (b ≡ m))
members zero i r m at is = absurd (none (subst (λ (s : Record). slice_get (members_of s) i ≡ Some m) (sym (same_some _ _ at)) is))
  where
    none : None ≡ Some m → ⊥
    none e = cc
members (suc zero) i r m at is = absurd (none (subst (λ (s : Record). slice_get (members_of s) i ≡ Some m) (sym (same_some _ _ at)) is))
  where
    none : None ≡ Some m → ⊥
    none e = cc
members (suc (suc zero)) i r m at is = one_of i (subst (λ (s : Record). slice_get (members_of s) i ≡ Some m) (sym (same_some _ _ at)) is)
  where
    one_of : (i : ℕ) → slice_get (a ∷ b ∷ []) i ≡ Some m → ((i ≡ 0) × (a ≡ m)) ⊎ ((i ≡ 1) × (b ≡ m))
    one_of zero e = inl (refl, same_some a m e)
    one_of (suc zero) e = inr (refl, same_some b m e)
    one_of (suc (suc i)) e = absurd (cc)
members (suc (suc (suc k))) i r m at is = absurd (cc)

-- a name leads to one of them
name_is : (name : List ℕ) (m : Member) (text : List ℕ) → name_or_none local m.name ≡ text → is_nameless text ≡ false → LeadsTo local name m → text ≡ name
name_is name m text is named (inl same) = sym is ∙ same
name_is name m text is named (inr within) = absurd (apart (sym named ∙ ap is_nameless (sym is) ∙ within.0))
  where
    apart : false ≡ true → ⊥
    apart e = cc

letters : codes "a" ≡ codes "b" → ⊥
letters e = apart (ap (λ (xs : List ℕ). bytes_eq (codes "a") xs) e)
  where
    apart : true ≡ false → ⊥
    apart is = cc

pub local_is_plain : HasPlainMembers local
unfolding walk compatible_within
local_is_plain = record {
  no_name = refl;
  distinct = λ k i j r m n name at is other named leads also. by_members i j m n name (members k i r m at is) (members k j r n at other) leads also;
  composite = λ k i r s m at is nameless inner. absurd (has_name m (members k i r m at is) nameless);
  alike = λ k i r m v at is compared. by_type m v (members k i r m at is) compared;
}
  where
    by_members : (i j : ℕ) (m n : Member) (name : List ℕ) → ((i ≡ 0) × (a ≡ m)) ⊎ ((i ≡ 1) × (b ≡ m)) → ((j ≡ 0) × (a ≡ n)) ⊎ ((j ≡ 1) × (b ≡ n)) → LeadsTo local name m → LeadsTo local name n → i ≡ j
    by_members i j m n name (inl first) (inl second) leads also = first.0 ∙ sym second.0
    by_members i j m n name (inr first) (inr second) leads also = first.0 ∙ sym second.0
    by_members i j m n name (inl first) (inr second) leads also =
        absurd (letters (name_is name m (codes "a") (ap (λ (x : Member). name_or_none local x.name) (sym first.1)) refl leads ∙ sym (name_is name n (codes "b") (ap (λ (x : Member). name_or_none local x.name) (sym second.1)) refl also)))
    by_members i j m n name (inr first) (inl second) leads also =
        absurd (letters (name_is name n (codes "a") (ap (λ (x : Member). name_or_none local x.name) (sym second.1)) refl also ∙ sym (name_is name m (codes "b") (ap (λ (x : Member). name_or_none local x.name) (sym first.1)) refl leads)))

    has_name : (m : Member) {i : ℕ} → ((i ≡ 0) × (a ≡ m)) ⊎ ((i ≡ 1) × (b ≡ m)) → m.name ≡ 0 → ⊥
    has_name m (inl first) nameless = seven (ap (λ (x : Member). x.name) first.1 ∙ nameless)
      where
        seven : ◌≡◌ {A = ℕ} 7 0 → ⊥
        seven e = cc
    has_name m (inr second) nameless = nine (ap (λ (x : Member). x.name) second.1 ∙ nameless)
      where
        nine : ◌≡◌ {A = ℕ} 9 0 → ⊥
        nine e = cc

    int_alike : (v : Bool) → compatible local local 1 1 ≡ Ok v → v ≡ true
    int_alike v e = sym (same_ok true v e)

    by_type : (m : Member) (v : Bool) {i : ℕ} → ((i ≡ 0) × (a ≡ m)) ⊎ ((i ≡ 1) × (b ≡ m)) → compatible local local m.type m.type ≡ Ok v → v ≡ true
    by_type m v (inl first) compared = int_alike v (subst (λ (x : Member). compatible local local x.type x.type ≡ Ok v) (sym first.1) compared)
    by_type m v (inr second) compared = int_alike v (subst (λ (x : Member). compatible local local x.type x.type ≡ Ok v) (sym second.1) compared)
