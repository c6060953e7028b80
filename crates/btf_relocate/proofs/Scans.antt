-- The candidates of a table without an index, which are found one after another.
use Rattle.std.proofs.Common.{◌≡◌, ◌≢◌, ℕ, zero, suc, ◌+◌, ◌-◌, ◌<◌, ◌≤◌, inl, inr, subst, List, [], ◌∷◌, ◌++◌, length, get_or, take, drop, Bool, true, false, Option, Some, None, refl, sym, ap, ◌∙◌, add-one, append_assoc, take-append-drop, arith}
use Rattle.std.specs.Prelude.{◌==◌, ◌&&◌, not, if◌then◌else◌, slice_get}
use Rattle.std.specs.List.{position}
use Rattle.std.specs.Option.{option_map}
use Rattle.std.specs.Str.{bytes_eq}
use Rattle.std.proofs.lemmas.List.{drop_all, append-nil, take-append-le, take_all, length-append}
use Rattle.std.proofs.lemmas.Bool.Decides.{eqb_tells}
use Rattle.std.proofs.lemmas.Option.{slice_get-get_or, slice_get_within}
use Rattle.btf_model.specs.Record.{Record, kind_number, unknown}
use Rattle.btf_model.specs.Table.{Table}
use Rattle.btf_model.specs.Text.{is_zero}
use Rattle.btf_relocate_model.specs.Candidates.{candidate_limit, compared_number, ids_from, is_nameless}
use Rattle.btf_relocate_model.specs.Name.{essential}
use Rattle.btf_relocate_model.specs.Types.{bytes_or_none, name_or_none}
use Rattle.btf_view.specs.TableRef.{AreOfOtherKinds}
use Rattle.btf_relocate.specs.TargetIndex.{has_key}
use Rattle.btf_relocate.proofs.Names.{begins_otherwise}
use Rattle.btf_relocate.proofs.Pointers.{element_at}

module _ (t : Table) (name : List ℕ) (kind : ℕ) where
  abbrev pub all : List ℕ
  all = ids_from (has_key t name kind) 1 (drop 1 t.records)

  -- the ids so far, and those that are left from this one on
  abbrev pub Completes : List ℕ → ℕ → Type 0
  Completes ids i = ids ++ ids_from (has_key t name kind) i (drop i t.records) ≡ all

  pub record Found (ids : List ℕ) (i : ℕ) : Type 0 where
    pub completes : Completes ids i
    pub few : length ids ≤ candidate_limit

  pub starts : Found [] 1
  starts = record { completes = refl; few = omega (arith) }

  module _ (ids : List ℕ) (i : ℕ) (lt : i < length t.records) (found : Found ids i) where
    abbrev r : Record
    r = get_or t.records i unknown

    there : slice_get t.records i ≡ Some r
    there = slice_get-get_or t.records i unknown lt

    abbrev rest : List ℕ
    rest = ids_from (has_key t name kind) (suc i) (drop (i + 1) t.records)

    same_rest : ids_from (has_key t name kind) (i + 1) (drop (i + 1) t.records) ≡ rest
    same_rest = ap (λ (n : ℕ). ids_from (has_key t name kind) n (drop (i + 1) t.records)) (add-one i)

    now : ids ++ (if has_key t name kind r then i ∷ rest else rest) ≡ all
    now = ap (λ (rs : List Record). ids ++ ids_from (has_key t name kind) i rs) (sym (element_at t.records i r there)) ∙ found.completes

    pub not_here : (b : Bool) → ((r : Record) → slice_get t.records i ≡ Some r → b ≡ has_key t name kind r) → b ≡ false → Found ids (i + 1)
    not_here b is none = record {
      completes = ap (λ (xs : List ℕ). ids ++ xs) same_rest ∙ ap (λ (c : Bool). ids ++ (if c then i ∷ rest else rest)) (sym none ∙ is r there) ∙ now;
      few = found.few;
    }

    pub one_here : (b : Bool) → ((r : Record) → slice_get t.records i ≡ Some r → b ≡ has_key t name kind r) → b ≡ true → (new : List ℕ) → new ≡ ids ++ i ∷ [] → Completes new (i + 1)
    one_here b is one new pushed =
        ap (λ (xs : List ℕ). xs ++ ids_from (has_key t name kind) (i + 1) (drop (i + 1) t.records)) pushed
        ∙ append_assoc ids (i ∷ []) (ids_from (has_key t name kind) (i + 1) (drop (i + 1) t.records))
        ∙ ap (λ (xs : List ℕ). ids ++ i ∷ xs) same_rest
        ∙ ap (λ (c : Bool). ids ++ (if c then i ∷ rest else rest)) (sym one ∙ is r there) ∙ now

  pub all_found : (ids : List ℕ) (i : ℕ) → length t.records ≤ i → Found ids i → ids ≡ take (candidate_limit + 1) all
  all_found ids i le found =
      let whole : ids ≡ all = sym (append-nil ids) ∙ ap (λ (rs : List Record). ids ++ ids_from (has_key t name kind) i rs) (sym (drop_all i t.records le)) ∙ found.completes in
      sym (take_all (candidate_limit + 1) ids (omega (arith, found.few))) ∙ ap (take (candidate_limit + 1)) whole

  -- as many as are listed
  pub enough : (ids : List ℕ) (i : ℕ) → Completes ids i → length ids ≡ candidate_limit + 1 → ids ≡ take (candidate_limit + 1) all
  enough ids i completes full =
      sym (take_all (candidate_limit + 1) ids (omega (arith, full)))
      ∙ sym (take-append-le (candidate_limit + 1) ids (ids_from (has_key t name kind) i (drop i t.records)) (omega (arith, full)))
      ∙ ap (take (candidate_limit + 1)) completes

-- ---- a record that lacks the key

last_false : (a b : Bool) → (a && b && false) ≡ false
last_false true true = refl
last_false true false = refl
last_false false true = refl
last_false false false = refl

middle_false : (a b : Bool) → (a && false && b) ≡ false
middle_false true true = refl
middle_false true false = refl
middle_false false true = refl
middle_false false false = refl

module _ (t : Table) (name own : List ℕ) (kind : ℕ) (r : Record) (is : own ≡ name_or_none t r.name) where
  abbrev same_kind : Bool
  same_kind = compared_number (kind_number r.info) == kind

  -- it has no name
  pub nameless : is_nameless own ≡ true → false ≡ has_key t name kind r
  nameless none =
      let all : is_nameless (name_or_none t r.name) ≡ true = ap is_nameless (sym is) ∙ none in
      sym (ap (λ (b : Bool). same_kind && not b && bytes_eq (essential (name_or_none t r.name)) name) all ∙ middle_false same_kind (bytes_eq (essential (name_or_none t r.name)) name))

  -- its name begins otherwise
  pub named_otherwise : (b : Bool) → ((rest : List ℕ) → own ≡ name ++ rest → b ≡ true) → b ≡ false → false ≡ has_key t name kind r
  named_otherwise b starts other =
      let differ : bytes_eq (essential (name_or_none t r.name)) name ≡ false = ap (λ (n : List ℕ). bytes_eq (essential n) name) (sym is) ∙ begins_otherwise name own b starts other in
      sym (ap (λ (e : Bool). same_kind && not (is_nameless (name_or_none t r.name)) && e) differ ∙ last_false same_kind (not (is_nameless (name_or_none t r.name))))

-- the strings at its name's offset begin otherwise
pub strings_otherwise : (t : Table) (name : List ℕ) (kind : ℕ) (r : Record) (b : Bool) → ((rest : List ℕ) → drop r.name t.strings ≡ name ++ rest → b ≡ true) → b ≡ false → false ≡ has_key t name kind r
strings_otherwise t name kind r b starts other =
    let here = drop r.name t.strings in
    let read = λ (o : Option ℕ). bytes_or_none (option_map (λ (end : ℕ). take end here) o) in
    let by_end : (o : Option ℕ) → position is_zero here ≡ o → false ≡ has_key t name kind r = λ o. elim o as (λ o. position is_zero here ≡ o → false ≡ has_key t name kind r) [
      | None ↦ λ is. nameless t name [] kind r (sym (ap read is)) refl
      | Some end ↦ λ is.
          named_otherwise t name (take end here) kind r (sym (ap read is)) b (λ rest e. starts (rest ++ drop end here) (sym (take-append-drop end here) ∙ ap (λ (xs : List ℕ). xs ++ drop end here) e ∙ append_assoc name rest (drop end here))) other
    ] in
    by_end (position is_zero here) refl

-- ---- ids whose types have other kinds

unequal : (a b : ℕ) → a ≢ b → (a == b) ≡ false
unequal a b differ = elim (eqb_tells a b) [
  | inl same ↦ absurd (differ same.1)
  | inr apart ↦ apart.0
]

-- the kinds that count as one have one of two numbers
apart : (k kind other : ℕ) → other ≡ (if kind == 6 then 19 else kind) → k ≢ kind → k ≢ other → (compared_number k == kind) ≡ false
apart k kind other is a b = elim (eqb_tells k 19) [
  | inl wide ↦ elim (eqb_tells kind 6) [
    | inl six ↦ absurd (b (wide.1 ∙ sym (is ∙ ap (λ (c : Bool). if c then 19 else kind) six.0)))
    | inr differ ↦ ap (λ (c : Bool). (if c then 6 else k) == kind) wide.0 ∙ unequal 6 kind (λ same. differ.1 (sym same))
  ]
  | inr narrow ↦ ap (λ (c : Bool). (if c then 6 else k) == kind) narrow.0 ∙ unequal k kind a
]

module _ (t : Table) (name : List ℕ) (kind other : ℕ) (is : other ≡ (if kind == 6 then 19 else kind)) where
  of_other_kind : (r : Record) → kind_number r.info ≢ kind → kind_number r.info ≢ other → false ≡ has_key t name kind r
  of_other_kind r a b = sym (ap (λ (c : Bool). c && not (is_nameless (name_or_none t r.name)) && bytes_eq (essential (name_or_none t r.name)) name) (apart (kind_number r.info) kind other is a b))

  skipped : (ids : List ℕ) (i n : ℕ) → n ≤ length t.records - i → AreOfOtherKinds t.records i (i + n) kind other → Found t name kind ids i → Found t name kind ids (i + n)
  skipped ids i zero le others found = subst (Found t name kind ids) (let same : i ≡ i + 0 = omega (arith) in same) found
  skipped ids i (suc n) le others found =
      let before = skipped ids i n (omega (arith, le)) (λ id r from lt there. others id r from (omega (arith, lt)) there) found in
      let here : (r : Record) → slice_get t.records (i + n) ≡ Some r → false ≡ has_key t name kind r =
      λ r there. let two = others (i + n) r (omega (arith)) (omega (arith)) there in of_other_kind r two.0 two.1 in
      subst (Found t name kind ids) (let same : i + n + 1 ≡ i + suc n = omega (arith) in same)
      (not_here t name kind ids (i + n) (omega (arith, le)) before false here refl)

  -- all ids before the next one
  pub next_found : (ids : List ℕ) (i j : ℕ) → i ≤ j → j < length t.records → AreOfOtherKinds t.records i j kind other → Found t name kind ids i → Found t name kind ids j
  next_found ids i j le lt others found =
      let same : i + (j - i) ≡ j = omega (arith, le) in
      subst (Found t name kind ids) same (skipped ids i (j - i) (omega (arith, lt)) (subst (λ (end : ℕ). AreOfOtherKinds t.records i end kind other) (sym same) others) found)

  -- and all ids, if there is no next one
  pub none_next : (ids : List ℕ) (i : ℕ) → AreOfOtherKinds t.records i (length t.records) kind other → Found t name kind ids i → ids ≡ take (candidate_limit + 1) (all t name kind)
  none_next ids i others found =
      let n = length t.records - i in
      all_found t name kind ids (i + n) (omega (arith))
      (skipped ids i n (omega (arith)) (λ id r from lt there. others id r from (omega (arith, slice_get_within t.records id r there)) there) found)
