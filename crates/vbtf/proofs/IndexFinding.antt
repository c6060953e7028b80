-- A type of a name and a kind is a candidate, and candidates rise.
use Rattle.std.proofs.Common.{◌≡◌, ℕ, zero, suc, ◌+◌, ◌-◌, ◌<◌, ◌≤◌, Bool, true, false, List, [], ◌∷◌, drop, length, Option, None, Some, slice_get, refl, sym, ap, subst, ◌∙◌, arith, inl, inr}
use Rattle.std.specs.Prelude.{◌≢◌, ◌==◌, ◌&&◌, not, if◌then◌else◌}
use Rattle.std.specs.Str.{bytes_eq}
use Rattle.std.proofs.lemmas.Bool.{cases_lt, eq-eqb, ne_eqb}
use Rattle.std.proofs.lemmas.Option.{same_Some, slice_get_within}
use Rattle.std.proofs.lemmas.Slice.Eq.{bytes_eq-Decides}
use Rattle.btf_model.specs.Record.{Kind, Record, kind_of, kind_number}
use Rattle.btf_model.specs.Table.{Table}
use Rattle.btf_model.specs.Text.{bytes_at}
use Rattle.btf_plain.specs.Kind.{kind}
use Rattle.btf_plain.specs.declared.kind.BtfKind.{BtfKind}
use Rattle.btf_relocate.proofs.KindNumbers.{code_of_info}
use Rattle.btf_relocate.specs.Index.{kind_code}
use Rattle.btf_relocate_model.specs.Candidates.{candidates, compared_number, ids_from, is_candidate, is_nameless}
use Rattle.btf_relocate_model.specs.Name.{essential}
use Rattle.btf_relocate_model.specs.Types.{bytes_or_none, name_or_none}
use Rattle.vbtf.specs.IndexFinding.{FindsIndexPlace, IsNamedAt}

-- ---- the ids of the records that pass a test

-- a record that passes has its place
member : (passes : Record → Bool) (i : ℕ) (rs : List Record) (j : ℕ) (r : Record) → slice_get rs j ≡ Some r → passes r ≡ true → (n : ℕ) × (slice_get (ids_from passes i rs) n ≡ Some (i + j))
member passes i [] j r is passing = absurd (omega (arith, slice_get_within [] j r is))
member passes i (x ∷ rs) zero r is passing =
    let here : passes x ≡ true = ap passes (same_Some x r is) ∙ passing in
    (0, rw here (ap (λ (n : ℕ). Some n) (omega arith)))
member passes i (x ∷ rs) (suc j) r is passing =
    let more = member passes (suc i) rs j r is passing in
    let at : suc i + j ≡ i + suc j = omega arith in
    elim (passes x) as (λ (b : Bool). (n : ℕ) × (slice_get (if b then i ∷ ids_from passes (suc i) rs else ids_from passes (suc i) rs) n ≡ Some (i + suc j)))
    [ true ↦ (suc more.0, more.1 ∙ ap (λ (n : ℕ). Some n) at) | false ↦ (more.0, more.1 ∙ ap (λ (n : ℕ). Some n) at) ]

-- each is at least the first
first_or_more : (i x n : ℕ) (ids : List ℕ) → ((m : ℕ) → slice_get ids m ≡ Some x → suc i ≤ x) → slice_get (i ∷ ids) n ≡ Some x → i ≤ x
first_or_more i x zero ids more is = omega (arith, same_Some i x is)
first_or_more i x (suc n) ids more is = omega (arith, more n is)

at_least : (passes : Record → Bool) (i : ℕ) (rs : List Record) (n x : ℕ) → slice_get (ids_from passes i rs) n ≡ Some x → i ≤ x
at_least passes i [] n x is = absurd (omega (arith, slice_get_within [] n x is))
at_least passes i (r ∷ rs) n x is =
    elim (passes r) as (λ (b : Bool). slice_get (if b then i ∷ ids_from passes (suc i) rs else ids_from passes (suc i) rs) n ≡ Some x → i ≤ x)
    [ true ↦ first_or_more i x n (ids_from passes (suc i) rs) (λ m e. at_least passes (suc i) rs m x e) | false ↦ λ e. omega (arith, at_least passes (suc i) rs n x e) ] is

-- a later one is greater
later_is_more : (i n m x y : ℕ) (ids : List ℕ) → ((a : ℕ) → slice_get ids a ≡ Some y → suc i ≤ y) → ((a b : ℕ) → a < b → slice_get ids a ≡ Some x → slice_get ids b ≡ Some y → x < y) → n < m → slice_get (i ∷ ids) n ≡ Some x → slice_get (i ∷ ids) m ≡ Some y → x < y
later_is_more i n zero x y ids more rest lt is at = absurd (omega (arith, lt))
later_is_more i zero (suc m) x y ids more rest lt is at = omega (arith, same_Some i x is, more m at)
later_is_more i (suc n) (suc m) x y ids more rest lt is at = rest n m (omega (arith, lt)) is at

rises : (passes : Record → Bool) (i : ℕ) (rs : List Record) (n m x y : ℕ) → n < m → slice_get (ids_from passes i rs) n ≡ Some x → slice_get (ids_from passes i rs) m ≡ Some y → x < y
rises passes i [] n m x y lt is at = absurd (omega (arith, slice_get_within [] n x is))
rises passes i (r ∷ rs) n m x y lt is at =
    elim (passes r) as (λ (b : Bool). slice_get (if b then i ∷ ids_from passes (suc i) rs else ids_from passes (suc i) rs) n ≡ Some x
    → slice_get (if b then i ∷ ids_from passes (suc i) rs else ids_from passes (suc i) rs) m ≡ Some y → x < y) [
      | true ↦ later_is_more i n m x y (ids_from passes (suc i) rs) (λ a e. at_least passes (suc i) rs a y e) (λ a b less e f. rises passes (suc i) rs a b x y less e f) lt
      | false ↦ λ e f. rises passes (suc i) rs n m x y lt e f
    ] is at

-- ---- the candidates of a name

nonempty : (name : List ℕ) → name ≢ [] → is_nameless name ≡ false
nonempty [] full = absurd (full refl)
nonempty (x ∷ name) full = ne_eqb (length (x ∷ name)) 0 (λ e. omega (arith, e))

behind_first : (rs : List Record) (j : ℕ) → slice_get (drop 1 rs) j ≡ slice_get rs (suc j)
behind_first [] j = refl
behind_first (r ∷ rs) j = refl

module _ (t : Table) (name : List ℕ) (k : BtfKind) (ids : List ℕ) (full : name ≢ []) (are : ids ≡ candidates t name (kind_code k)) where
  passes : (r : Record) → kind_of r.info ≡ Some (kind k) → bytes_at t.strings r.name ≡ Some name → is_candidate t name (kind_code k) r ≡ true
  passes r of_kind of_name =
      let number : kind_number r.info ≡ kind_code k = sym (code_of_info k r.info of_kind) in
      let text : name_or_none t r.name ≡ name = ap bytes_or_none of_name in
      let all : (compared_number (kind_code k) == compared_number (kind_code k)) && not (is_nameless name) && bytes_eq (essential name) (essential name) ≡ true =
      rw (eq-eqb (compared_number (kind_code k)) (compared_number (kind_code k)) refl, nonempty name full, (bytes_eq-Decides (essential name) (essential name)).1 refl) refl in
      (λ i. (compared_number (number i) == compared_number (kind_code k)) && not (is_nameless (text i)) && bytes_eq (essential (text i)) (essential name)) ∙ all

  -- each type of the name and the kind has a place among them
  place : (id : ℕ) → 0 < id → IsNamedAt t (kind k) name id → (n : ℕ) × (slice_get ids n ≡ Some id)
  place zero lt h = absurd (omega (arith, lt))
  place (suc j) lt h =
      let found = member (is_candidate t name (kind_code k)) 1 (drop 1 t.records) j h.0 (behind_first t.records j ∙ h.1) (passes h.0 h.2 h.3) in
      (found.0, ap (λ (xs : List ℕ). slice_get xs found.0) are ∙ found.1 ∙ ap (λ (n : ℕ). Some n) (omega arith))

  above_zero : (n id : ℕ) → slice_get ids n ≡ Some id → 0 < id
  above_zero n id is = omega (arith, at_least (is_candidate t name (kind_code k)) 1 (drop 1 t.records) n id (ap (λ (xs : List ℕ). slice_get xs n) (sym are) ∙ is))

  -- the first of them is the least id
  pub first_is : (n id : ℕ) → slice_get ids n ≡ Some id → IsNamedAt t (kind k) name id → ((m x : ℕ) → m < n → slice_get ids m ≡ Some x → IsNamedAt t (kind k) name x → ⊥) → FindsIndexPlace t (kind k) name (Some id)
  first_is n id is here before = (
    above_zero n id is,
    here,
    λ low more less h.
        let p = place low more h in
        elim (cases_lt p.0 n) [
          | inl lt ↦ before p.0 low lt p.1 h
          | inr le ↦ absurd (not_before n id is low less p.0 le p.1)
        ],
  )
    where
      same_place : (a b x y : ℕ) → a ≡ b → slice_get ids a ≡ Some x → slice_get ids b ≡ Some y → x ≡ y
      same_place a b x y e f g = same_Some x y (sym f ∙ ap (slice_get ids) e ∙ g)

      not_before : (n id : ℕ) → slice_get ids n ≡ Some id → (low : ℕ) → low < id → (m : ℕ) → n ≤ m → slice_get ids m ≡ Some low → ⊥
      not_before n id is low less m le at =
          elim (cases_lt n m) [
            | inl lt ↦ omega (arith, less, rises (is_candidate t name (kind_code k)) 1 (drop 1 t.records) n m id low lt (ap (λ (xs : List ℕ). slice_get xs n) (sym are) ∙ is) (ap (λ (xs : List ℕ). slice_get xs m) (sym are) ∙ at))
            | inr ge ↦ omega (arith, less, same_place n m id low (omega (arith, le, ge)) is at)
          ]

  pub none_is : ((m x : ℕ) → m < length ids → slice_get ids m ≡ Some x → IsNamedAt t (kind k) name x → ⊥) → FindsIndexPlace t (kind k) name None
  none_is before id more h =
      let p = place id more h in
      before p.0 id (slice_get_within ids p.0 id p.1) p.1 h

-- one more of them was looked at
pub one_more : (t : Table) (k : Kind) (name ids : List ℕ) (n id : ℕ) → slice_get ids n ≡ Some id → (IsNamedAt t k name id → ⊥) → ((m x : ℕ) → m < n → slice_get ids m ≡ Some x → IsNamedAt t k name x → ⊥) → (m x : ℕ) → m < n + 1 → slice_get ids m ≡ Some x → IsNamedAt t k name x → ⊥
one_more t k name ids n id is not before m x lt at h =
    elim (cases_lt m n) [
      | inl less ↦ before m x less at h
      | inr le ↦ not (subst (λ (i : ℕ). IsNamedAt t k name i) (same_Some x id (sym at ∙ ap (slice_get ids) (omega (arith, le, lt)) ∙ is)) h)
    ]
