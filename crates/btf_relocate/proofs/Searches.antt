-- The search for a member: what is remembered of a type holds with more room, and the search finds what the plain search finds.
use Rattle.std.proofs.Common.{◌≡◌, ℕ, zero, suc, ◌+◌, ◌-◌, ◌<◌, ◌≤◌, List, [], ◌∷◌, length, drop, Bool, true, false, cond, Option, Some, Result, Ok, Err, refl, sym, ap, subst, ◌∙◌, inl, inr, arith, add-one}
use Rattle.std.specs.Prelude.{◌⊎◌, ◌==◌, max}
use Rattle.std.specs.Str.{bytes_eq}
use Rattle.std.proofs.lemmas.Bool.Decides.{nat_tests}
use Rattle.btf_model.specs.Record.{Record, member_bit_offset}
use Rattle.btf_model.specs.Table.{Table}
use Rattle.btf_relocate_model.specs.Candidates.{is_nameless}
use Rattle.btf_relocate_model.specs.Field.{Member, member_field, members_of, moved_bit}
use Rattle.btf_relocate_model.specs.Search as model
use Rattle.btf_relocate_model.specs.Search.{is_end, first_member, else_later, further_out}
use Rattle.btf_relocate_model.specs.Types.{◌>>=◌, name_or_none, required_record, resolved_record}
use Rattle.btf_relocate_model.specs.declared.error.RelocationError.{RelocationError}
use Rattle.btf_relocate_model.specs.declared.error.RelocationError.TheVariants.{TooDeep}
use Rattle.btf_relocate_model.specs.declared.field.Field.{Field}
use Rattle.btf_relocate.specs.declared.search.Found.{Found}
use Rattle.btf_relocate.specs.declared.search.Found.TheVariants as code
use Rattle.btf_relocate.specs.Gives.{Gives, GivesBy}
use Rattle.btf_relocate.specs.Searching.{found_of, outward, or_later, among, found_without_room, within, from_id, InVain, Remembers}
use Rattle.std.specs.BTreeMap.{BTreeMap, get, Updates, is_at}
use Rattle.std.specs.Ordering.{nat_cmp}
use Rattle.std.proofs.lemmas.Bool.{cases_eq}
use Rattle.std.specs.Cmp.{unsigned_tied}

module _ (t : Table) (name : List ℕ) where
  pub within_suc : (room : ℕ) (r : Record) → within (suc room) t name r ≡ among (from_id room t name) t name r.info 0 (members_of r)
  unfolding within
  within_suc room r = refl

  within_zero : (r : Record) → within zero t name r ≡ found_without_room (members_of r)
  unfolding within
  within_zero r = refl

  search_suc : (room id : ℕ) → model.search (suc room) t name id ≡ (resolved_record t id >>= λ r. first_member (model.search room t name) t name r.info (members_of r))
  unfolding model.search
  search_suc room id = refl

  search_zero : (id : ℕ) → model.search zero t name id ≡ (resolved_record t id >>= λ r. model.without_room (members_of r))
  unfolding model.search
  search_zero id = refl

  -- ---- the plain search

  abbrev pub seen : Result Found RelocationError → Result (Option model.Found) RelocationError
  seen (Ok f) = Ok (found_of f)
  seen (Err e) = Err e

  seen_outward : (bit : ℕ) (f : Field) (n : ℕ) → seen (outward bit f n) ≡ further_out bit (record { field = f; count = n })
  seen_outward bit f n = elim (moved_bit bit f.bit) as (λ o. seen (o >>= λ first. Ok (code.Member (record f { bit = first }) (suc n))) ≡ (o >>= λ first. Ok (Some (record { field = record f { bit = first }; count = suc n })))) [ Ok b ↦ refl | Err e ↦ refl ]

  abbrev Later : (ℕ → Result Found RelocationError) → Table → List ℕ → ℕ → ℕ → List Member → ℕ → Result Found RelocationError
  Later inside u other info levels ms = λ h. among inside u other info (max levels h) ms

  seen_later : (bit : ℕ) (later : ℕ → Result Found RelocationError) (plain : Result (Option model.Found) RelocationError) (o : Result Found RelocationError)
      → ((h : ℕ) → seen (later h) ≡ plain) → seen (o >>= or_later bit later) ≡ (seen o >>= else_later bit plain)
  seen_later bit later plain (Err e) same = refl
  seen_later bit later plain (Ok (code.Member f n)) same = seen_outward bit f n
  seen_later bit later plain (Ok (code.Nothing h)) same = same (suc h)

  among_plain : (inside : ℕ → Result Found RelocationError) (plain : ℕ → Result (Option model.Found) RelocationError) → ((id : ℕ) → seen (inside id) ≡ plain id)
      → (info levels : ℕ) (ms : List Member) → seen (among inside t name info levels ms) ≡ first_member plain t name info ms
  among_plain inside plain same info levels [] = refl
  among_plain inside plain same info levels (m ∷ ms) =
      elim (is_nameless (name_or_none t m.name)) as (λ b. seen (cond b (inside m.type >>= or_later (member_bit_offset info m.offset) (Later inside t name info levels ms))
      (cond (bytes_eq (name_or_none t m.name) name) (member_field info 0 (is_end ms) m >>= λ f. Ok (code.Member f 1)) (among inside t name info (max levels 1) ms)))
      ≡ cond b (plain m.type >>= else_later (member_bit_offset info m.offset) (first_member plain t name info ms))
      (cond (bytes_eq (name_or_none t m.name) name) (member_field info 0 (is_end ms) m >>= λ f. Ok (Some (record { field = f; count = 1 }))) (first_member plain t name info ms))) [
        | true ↦ seen_later (member_bit_offset info m.offset) (Later inside t name info levels ms) (first_member plain t name info ms) (inside m.type) (λ h. among_plain inside plain same info (max levels h) ms)
            ∙ ap (λ (o : Result (Option model.Found) RelocationError). o >>= else_later (member_bit_offset info m.offset) (first_member plain t name info ms)) (same m.type)
        | false ↦ elim (bytes_eq (name_or_none t m.name) name) as (λ b. seen (cond b (member_field info 0 (is_end ms) m >>= λ f. Ok (code.Member f 1)) (among inside t name info (max levels 1) ms))
            ≡ cond b (member_field info 0 (is_end ms) m >>= λ f. Ok (Some (record { field = f; count = 1 }))) (first_member plain t name info ms)) [
              | true ↦ elim (member_field info 0 (is_end ms) m) as (λ o. seen (o >>= λ f. Ok (code.Member f 1)) ≡ (o >>= λ f. Ok (Some (record { field = f; count = 1 })))) [ Ok f ↦ refl | Err e ↦ refl ]
              | false ↦ among_plain inside plain same info (max levels 1) ms
            ]
      ]

  no_room_plain : (ms : List Member) → seen (found_without_room ms) ≡ model.without_room ms
  no_room_plain [] = refl
  no_room_plain (m ∷ ms) = refl

  pub plain_search : (room id : ℕ) → seen (from_id room t name id) ≡ model.search room t name id
  plain_search zero id = elim (resolved_record t id) as (λ o. seen (o >>= within zero t name) ≡ (o >>= λ r. model.without_room (members_of r))) [
    | Ok r ↦ ap seen (within_zero r) ∙ no_room_plain (members_of r)
    | Err e ↦ refl
  ] ∙ sym (search_zero id)
  plain_search (suc room) id = elim (resolved_record t id) as (λ o. seen (o >>= within (suc room) t name) ≡ (o >>= λ r. first_member (model.search room t name) t name r.info (members_of r))) [
    | Ok r ↦ ap seen (within_suc room r) ∙ among_plain (from_id room t name) (model.search room t name) (plain_search room) r.info 0 (members_of r)
    | Err e ↦ refl
  ] ∙ sym (search_suc room id)

  pub gives_plain : (room id : ℕ) (o : Result Found RelocationError) → Gives (from_id room t name id) o → GivesBy found_of (model.search room t name id) o
  gives_plain room id (Ok f) is = sym (plain_search room id) ∙ ap seen is
  gives_plain room id (Err e) (inl memory) = inl memory
  gives_plain room id (Err e) (inr is) = inr (sym (plain_search room id) ∙ ap seen is)

  -- ---- what is remembered

  -- a search in vain with one room, with another room
  abbrev Same : (ℕ → Result Found RelocationError) → ℕ → Result Found RelocationError → ℕ → Type 0
  Same inside e there id = (h : ℕ) → there ≡ Ok (code.Nothing h) → (h ≤ e → inside id ≡ Ok (code.Nothing h)) × (e < h → inside id ≡ Err TooDeep)

  pub record Agrees (e levels h : ℕ) (p : Result Found RelocationError) : Type 0 where
    pub grows : levels ≤ h
    pub nothing : h ≤ suc e → p ≡ Ok (code.Nothing h)
    pub deep : suc e < h → levels ≤ suc e → p ≡ Err TooDeep

  outward_found : (bit : ℕ) (f : Field) (n h : ℕ) → outward bit f n ≡ Ok (code.Nothing h) → ⊥
  outward_found bit f n h = elim (moved_bit bit f.bit) as (λ o. (o >>= λ first. Ok (code.Member (record f { bit = first }) (suc n))) ≡ Ok (code.Nothing h) → ⊥) [ Ok b ↦ λ is. cc | Err e ↦ λ is. cc ]

  named_found : (o : Result Field RelocationError) (h : ℕ) → (o >>= λ f. Ok (code.Member f 1)) ≡ Ok (code.Nothing h) → ⊥
  named_found (Ok f) h is = cc
  named_found (Err e) h is = cc

  le_or_lt : (m n : ℕ) → (m ≤ n) ⊎ (n < m)
  le_or_lt m n = grind arith

  -- a member without a name, and then the members after it
  vain_inside : (wider : ℕ → Result Found RelocationError) (e info levels h bit : ℕ) (later : ℕ → Result Found RelocationError) (ms : List Member) (o p : Result Found RelocationError)
      → ((k : ℕ) → o ≡ Ok (code.Nothing k) → (k ≤ e → p ≡ Ok (code.Nothing k)) × (e < k → p ≡ Err TooDeep))
      → ((k : ℕ) → later (suc k) ≡ Ok (code.Nothing h) → Agrees e (max levels (suc k)) h (among wider t name info (max levels (suc k)) ms))
      → (o >>= or_later bit later) ≡ Ok (code.Nothing h)
      → Agrees e levels h (p >>= or_later bit (Later wider t name info levels ms))
  vain_inside wider e info levels h bit later ms (Err x) p here rest is = absurd (cc)
  vain_inside wider e info levels h bit later ms (Ok (code.Member f n)) p here rest is = absurd (outward_found bit f n h is)
  vain_inside wider e info levels h bit later ms (Ok (code.Nothing k)) p here rest is =
      let known : Agrees e (max levels (suc k)) h (among wider t name info (max levels (suc k)) ms) = rest k is in
      let both : (k ≤ e → p ≡ Ok (code.Nothing k)) × (e < k → p ≡ Err TooDeep) = here k refl in
      let grows : max levels (suc k) ≤ h = known.grows in
      record {
        grows = omega (arith, grows);
        nothing = λ low. let found : p ≡ Ok (code.Nothing k) = both.0 (omega (arith, grows, low)) in rw found (known.nothing low);
        deep = λ high few. elim (le_or_lt k e) [
          | inl fits ↦ let found : p ≡ Ok (code.Nothing k) = both.0 fits in rw found (known.deep high (omega (arith, few, fits)))
          | inr over ↦ let found : p ≡ Err TooDeep = both.1 over in rw found refl
        ];
      }

  vain_other : (e levels h : ℕ) (p : Result Found RelocationError) → Agrees e (max levels 1) h p → Agrees e levels h p
  vain_other e levels h p known =
      let grows : max levels 1 ≤ h = known.grows in
      record { grows = omega (arith, grows); nothing = known.nothing; deep = λ high few. known.deep high (omega (arith, few)) }

  vain : (inside wider : ℕ → Result Found RelocationError) (e : ℕ) → ((id : ℕ) → Same wider e (inside id) id)
      → (info levels h : ℕ) (ms : List Member) → among inside t name info levels ms ≡ Ok (code.Nothing h) → Agrees e levels h (among wider t name info levels ms)
  vain inside wider e same info levels h [] is =
      let all : levels ≡ h = cc in
      record { grows = omega (arith, all); nothing = λ low. ap (λ (n : ℕ). Ok (code.Nothing n)) all; deep = λ high few. absurd (omega (arith, all, high, few)) }
  vain inside wider e same info levels h (m ∷ ms) is =
      elim (is_nameless (name_or_none t m.name)) as (λ b.
      cond b (inside m.type >>= or_later (member_bit_offset info m.offset) (Later inside t name info levels ms))
      (cond (bytes_eq (name_or_none t m.name) name) (member_field info 0 (is_end ms) m >>= λ f. Ok (code.Member f 1)) (among inside t name info (max levels 1) ms)) ≡ Ok (code.Nothing h)
      → Agrees e levels h (cond b (wider m.type >>= or_later (member_bit_offset info m.offset) (Later wider t name info levels ms))
      (cond (bytes_eq (name_or_none t m.name) name) (member_field info 0 (is_end ms) m >>= λ f. Ok (code.Member f 1)) (among wider t name info (max levels 1) ms)))) [
        | true ↦ vain_inside wider e info levels h (member_bit_offset info m.offset) (Later inside t name info levels ms) ms (inside m.type) (wider m.type) (same m.type)
            (λ k. vain inside wider e same info (max levels (suc k)) h ms)
        | false ↦ elim (bytes_eq (name_or_none t m.name) name) as (λ b.
            cond b (member_field info 0 (is_end ms) m >>= λ f. Ok (code.Member f 1)) (among inside t name info (max levels 1) ms) ≡ Ok (code.Nothing h)
            → Agrees e levels h (cond b (member_field info 0 (is_end ms) m >>= λ f. Ok (code.Member f 1)) (among wider t name info (max levels 1) ms))) [
              | true ↦ λ found. absurd (named_found (member_field info 0 (is_end ms) m) h found)
              | false ↦ λ rest. vain_other e levels h (among wider t name info (max levels 1) ms) (vain inside wider e same info (max levels 1) h ms rest)
            ]
      ] is

  -- the levels only grow, and a member without the name is one
  grows_inside : (levels h bit : ℕ) (later : ℕ → Result Found RelocationError) (o : Result Found RelocationError) → ((k : ℕ) → later (suc k) ≡ Ok (code.Nothing h) → max levels (suc k) ≤ h)
      → (o >>= or_later bit later) ≡ Ok (code.Nothing h) → max levels 1 ≤ h
  grows_inside levels h bit later (Err x) rest is = absurd (cc)
  grows_inside levels h bit later (Ok (code.Member f n)) rest is = absurd (outward_found bit f n h is)
  grows_inside levels h bit later (Ok (code.Nothing k)) rest is = let least : max levels (suc k) ≤ h = rest k is in omega (arith, least)

  grows_cons : (inside : ℕ → Result Found RelocationError) (info levels h : ℕ) (m : Member) (ms : List Member) → ((l : ℕ) → among inside t name info l ms ≡ Ok (code.Nothing h) → l ≤ h)
      → among inside t name info levels (m ∷ ms) ≡ Ok (code.Nothing h) → max levels 1 ≤ h
  grows_cons inside info levels h m ms rest is =
      elim (is_nameless (name_or_none t m.name)) as (λ b.
      cond b (inside m.type >>= or_later (member_bit_offset info m.offset) (Later inside t name info levels ms))
      (cond (bytes_eq (name_or_none t m.name) name) (member_field info 0 (is_end ms) m >>= λ f. Ok (code.Member f 1)) (among inside t name info (max levels 1) ms)) ≡ Ok (code.Nothing h)
      → max levels 1 ≤ h) [
        | true ↦ grows_inside levels h (member_bit_offset info m.offset) (Later inside t name info levels ms) (inside m.type) (λ k. rest (max levels (suc k)))
        | false ↦ elim (bytes_eq (name_or_none t m.name) name) as (λ b.
            cond b (member_field info 0 (is_end ms) m >>= λ f. Ok (code.Member f 1)) (among inside t name info (max levels 1) ms) ≡ Ok (code.Nothing h) → max levels 1 ≤ h) [
              | true ↦ λ found. absurd (named_found (member_field info 0 (is_end ms) m) h found)
              | false ↦ λ other. rest (max levels 1) other
            ]
      ] is

  grows : (inside : ℕ → Result Found RelocationError) (info levels h : ℕ) (ms : List Member) → among inside t name info levels ms ≡ Ok (code.Nothing h) → levels ≤ h
  grows inside info levels h [] is = let all : levels ≡ h = cc in omega (arith, all)
  grows inside info levels h (m ∷ ms) is =
      let least : max levels 1 ≤ h = grows_cons inside info levels h m ms (λ l. grows inside info l h ms) is in
      omega (arith, least)

  same_from : (d e id : ℕ) → ((r : Record) (h : ℕ) → within d t name r ≡ Ok (code.Nothing h) → InVain t name r h) → Same (from_id e t name) e (from_id d t name id) id
  same_from d e id known h = elim (resolved_record t id) as (λ o. (o >>= within d t name) ≡ Ok (code.Nothing h)
      → (h ≤ e → (o >>= within e t name) ≡ Ok (code.Nothing h)) × (e < h → (o >>= within e t name) ≡ Err TooDeep)) [
        | Ok r ↦ λ is. known r h is e
        | Err x ↦ λ is. absurd (cc)
      ]

  without_levels : (ms : List Member) (h : ℕ) → found_without_room ms ≡ Ok (code.Nothing h) → (ms ≡ []) × (0 ≡ h)
  without_levels [] h is = (refl, cc)
  without_levels (m ∷ ms) h is = absurd (cc)

  no_members : (r : Record) (h : ℕ) → members_of r ≡ [] → 0 ≡ h → InVain t name r h
  no_members r h none is zero = (λ low. within_zero r ∙ ap found_without_room none ∙ ap (λ (n : ℕ). Ok (code.Nothing n)) is, λ high. absurd (omega (arith, is, high)))
  no_members r h none is (suc e) =
      (λ low. within_suc e r ∙ ap (among (from_id e t name) t name r.info 0) none ∙ ap (λ (n : ℕ). Ok (code.Nothing n)) is, λ high. absurd (omega (arith, is, high)))

  no_room_at : (inside : ℕ → Result Found RelocationError) (info h : ℕ) (ms : List Member) → among inside t name info 0 ms ≡ Ok (code.Nothing h)
      → (h ≤ 0 → found_without_room ms ≡ Ok (code.Nothing h)) × (0 < h → found_without_room ms ≡ Err TooDeep)
  no_room_at inside info h [] is = let all : 0 ≡ h = cc in (λ low. ap (λ (n : ℕ). Ok (code.Nothing n)) all, λ high. absurd (omega (arith, all, high)))
  no_room_at inside info h (m ∷ ms) is =
      let least : max 0 1 ≤ h = grows_cons inside info 0 h m ms (λ l. grows inside info l h ms) is in
      (λ low. absurd (omega (arith, least, low)), λ high. refl)

  -- a type that was searched in vain
  pub in_vain : (room : ℕ) (r : Record) (h : ℕ) → within room t name r ≡ Ok (code.Nothing h) → InVain t name r h
  in_vain zero r h is e = let none : (members_of r ≡ []) × (0 ≡ h) = without_levels (members_of r) h (sym (within_zero r) ∙ is) in no_members r h none.0 none.1 e
  in_vain (suc d) r h is zero =
      let both : (h ≤ 0 → found_without_room (members_of r) ≡ Ok (code.Nothing h)) × (0 < h → found_without_room (members_of r) ≡ Err TooDeep) =
      no_room_at (from_id d t name) r.info h (members_of r) (sym (within_suc d r) ∙ is) in
      (λ low. within_zero r ∙ both.0 low, λ high. within_zero r ∙ both.1 high)
  in_vain (suc d) r h is (suc e) =
      let known : Agrees e 0 h (among (from_id e t name) t name r.info 0 (members_of r)) =
      vain (from_id d t name) (from_id e t name) e (λ id. same_from d e id (λ s k. in_vain d s k)) r.info 0 h (members_of r) (sym (within_suc d r) ∙ is) in
      (λ low. within_suc e r ∙ known.nothing low, λ high. within_suc e r ∙ known.deep high (omega arith))

  -- ---- the steps of the code

  pub begins : (depth : ℕ) (r : Record) → (depth ≡ 0 → ⊥) → among (from_id (depth - 1) t name) t name r.info 0 (members_of r) ≡ within depth t name r
  begins zero r some = absurd (some refl)
  begins (suc d) r some =
      let one : suc d - 1 ≡ d = omega arith in
      rw one (sym (within_suc d r))

  empty : (depth : ℕ) (r : Record) → members_of r ≡ [] → within depth t name r ≡ Ok (code.Nothing 0)
  empty zero r none = within_zero r ∙ ap found_without_room none
  empty (suc d) r none = within_suc d r ∙ ap (among (from_id d t name) t name r.info 0) none

  pub none_at_all : (depth : ℕ) (r : Record) (ms : List Member) → ms ≡ members_of r → length ms ≡ 0 → within depth t name r ≡ Ok (code.Nothing 0)
  none_at_all depth r [] same none = empty depth r (sym same)
  none_at_all depth r (m ∷ ms) same none = absurd (omega (arith, none))

  pub some_too_deep : (depth : ℕ) (r : Record) (ms : List Member) → ms ≡ members_of r → (length ms ≡ 0 → ⊥) → depth ≡ 0 → within depth t name r ≡ Err TooDeep
  some_too_deep depth r [] same some at = absurd (some refl)
  some_too_deep zero r (m ∷ ms) same some at = within_zero r ∙ ap found_without_room (sym same)
  some_too_deep (suc d) r (m ∷ ms) same some at = absurd (omega (arith, at))

  -- one member: it has no name, it is the one, or it has another name
  module _ (inside : ℕ → Result Found RelocationError) (r : Record) (levels i : ℕ) (ms : List Member) (m : Member) (whole : Result Found RelocationError) where
    abbrev Rest : Type 0
    Rest = among inside t name r.info levels (drop i ms) ≡ whole

    abbrev Here : Type 0
    Here = drop i ms ≡ m ∷ drop (i + 1) ms

    at_member : Here → Rest → among inside t name r.info levels (m ∷ drop (i + 1) ms) ≡ whole
    at_member here rest = ap (λ (xs : List Member). among inside t name r.info levels xs) (sym here) ∙ rest

    abbrev Empty : Bool → List ℕ → Type 0
    Empty b text = (b ≡ (length text == 0)) × (text ≡ name_or_none t m.name)

    nameless : (b : Bool) (text : List ℕ) → Empty b text → b ≡ is_nameless (name_or_none t m.name)
    nameless b text is = is.0 ∙ ap is_nameless is.1

    pub at_nameless : Here → Rest → (b : Bool) (text : List ℕ) → Empty b text → b ≡ true → (inside m.type >>= or_later (member_bit_offset r.info m.offset) (Later inside t name r.info levels (drop (i + 1) ms))) ≡ whole
    at_nameless here rest b text is so =
        let none : is_nameless (name_or_none t m.name) ≡ true = sym (nameless b text is) ∙ so in
        rw none at (at_member here rest)

    pub after_nothing : Here → Rest → (b : Bool) (text : List ℕ) → Empty b text → b ≡ true → (f : Found) (k n : ℕ) → inside m.type ≡ Ok f → f ≡ code.Nothing k → n ≡ max levels (k + 1)
        → among inside t name r.info n (drop (i + 1) ms) ≡ whole
    after_nothing here rest b text is so f k n found nothing more =
        let given : inside m.type ≡ Ok (code.Nothing k) = found ∙ ap (λ (x : Found). Ok x) nothing in
        let more-is : n ≡ max levels (suc k) = more ∙ ap (max levels) (add-one k) in
        rw more-is (rw given at (at_nameless here rest b text is so))

    pub in_member : Here → Rest → (b : Bool) (text : List ℕ) → Empty b text → b ≡ true → (f : Found) (g : Field) (n : ℕ) → inside m.type ≡ Ok f → f ≡ code.Member g n
        → outward (member_bit_offset r.info m.offset) g n ≡ whole
    in_member here rest b text is so f g n found member =
        let given : inside m.type ≡ Ok (code.Member g n) = found ∙ ap (λ (x : Found). Ok x) member in
        rw given at (at_nameless here rest b text is so)

    -- an error inside a member without a name, a place that is too far, and a member that was found there
    pub inner_fails : Here → Rest → (b : Bool) (text : List ℕ) → Empty b text → b ≡ true → (e : RelocationError) → inside m.type ≡ Err e → whole ≡ Err e
    inner_fails here rest b text is so e given = sym (rw given at (at_nameless here rest b text is so))

    pub bit_fails : Here → Rest → (b : Bool) (text : List ℕ) → Empty b text → b ≡ true → (f : Found) (g : Field) (n : ℕ) → inside m.type ≡ Ok f → f ≡ code.Member g n
        → (e : RelocationError) → moved_bit (member_bit_offset r.info m.offset) g.bit ≡ Err e → whole ≡ Err e
    bit_fails here rest b text is so f g n found member e far = sym (rw far at (in_member here rest b text is so f g n found member))

    pub found_inside : Here → Rest → (b : Bool) (text : List ℕ) → Empty b text → b ≡ true → (f : Found) (g : Field) (n : ℕ) → inside m.type ≡ Ok f → f ≡ code.Member g n
        → (first : ℕ) → moved_bit (member_bit_offset r.info m.offset) g.bit ≡ Ok first → whole ≡ Ok (code.Member (record g { bit = first }) (n + 1))
    found_inside here rest b text is so f g n found member first fits =
        sym (rw fits at (in_member here rest b text is so f g n found member)) ∙ ap (λ (k : ℕ). Ok (code.Member (record g { bit = first }) k)) (sym (add-one n))

    pub at_named : Here → Rest → (b c : Bool) (text : List ℕ) → Empty b text → b ≡ false → c ≡ bytes_eq text name → c ≡ true → (member_field r.info 0 (is_end (drop (i + 1) ms)) m >>= λ f. Ok (code.Member f 1)) ≡ whole
    at_named here rest b c text is other same so =
        let some : is_nameless (name_or_none t m.name) ≡ false = sym (nameless b text is) ∙ other in
        let found : bytes_eq (name_or_none t m.name) name ≡ true = ap (λ (xs : List ℕ). bytes_eq xs name) (sym is.1) ∙ sym same ∙ so in
        rw (some, found) at (at_member here rest)

    pub at_other : Here → Rest → (b c : Bool) (text : List ℕ) → Empty b text → b ≡ false → c ≡ bytes_eq text name → c ≡ false → among inside t name r.info (max levels 1) (drop (i + 1) ms) ≡ whole
    at_other here rest b c text is other same so =
        let some : is_nameless (name_or_none t m.name) ≡ false = sym (nameless b text is) ∙ other in
        let found : bytes_eq (name_or_none t m.name) name ≡ false = ap (λ (xs : List ℕ). bytes_eq xs name) (sym is.1) ∙ sym same ∙ so in
        rw (some, found) at (at_member here rest)

    last : i < length ms → (b : Bool) → b ≡ (i + 1 == length ms) → b ≡ is_end (drop (i + 1) ms)
    last lt b is = is ∙ ends (i + 1) ms (omega (arith, lt))
      where
        ends : (n : ℕ) (xs : List Member) → n ≤ length xs → (n == length xs) ≡ is_end (drop n xs)
        ends zero [] le = refl
        ends zero (x ∷ xs) le = grind (arith, nat_tests)
        ends (suc n) [] le = absurd (omega (arith, le))
        ends (suc n) (x ∷ xs) le = grind (arith, nat_tests, ends n xs (omega (arith, le)))

    pub found_here : Here → Rest → (b c d : Bool) (text : List ℕ) → Empty b text → b ≡ false → c ≡ bytes_eq text name → c ≡ true → i < length ms → d ≡ (i + 1 == length ms)
        → (o : Result Field RelocationError) → o ≡ member_field r.info 0 d m → (o >>= λ f. Ok (code.Member f 1)) ≡ whole
    found_here here rest b c d text is other same so lt final o field =
        let field-is : o ≡ member_field r.info 0 (is_end (drop (i + 1) ms)) m = field ∙ ap (λ (x : Bool). member_field r.info 0 x m) (last lt d final) in
        ap (λ (p : Result Field RelocationError). p >>= λ f. Ok (code.Member f 1)) field-is ∙ at_named here rest b c text is other same so

  -- a type that is remembered from now on
  pub remember : (old new : BTreeMap ℕ ℕ) (end levels room : ℕ) (s : Record) → Updates nat_cmp old new end (Some levels) → Remembers t name old → required_record t end ≡ Ok s
      → within room t name s ≡ Ok (code.Nothing levels) → Remembers t name new
  remember old new end levels room s updates before at lost id h found r is =
      elim (cases_eq end id) [
        | inl same ↦
            let levels-is : levels ≡ h = some_same (sym updates.1 ∙ ap (get nat_cmp new) same ∙ found) in
            let record-is : s ≡ r = ok_same (sym at ∙ ap (required_record t) same ∙ is) in
            subst (λ (x : Record). InVain t name x h) record-is (subst (λ (n : ℕ). InVain t name s n) levels-is (in_vain room s levels lost))
        | inr apart ↦ before id h (sym (updates.2 id (is_apart end id apart)) ∙ found) r is
      ]
    where
      some_same : {m n : ℕ} → Some m ≡ Some n → m ≡ n
      some_same e = cc

      ok_same : {a b : Record} → ◌≡◌ {A = Result Record RelocationError} (Ok a) (Ok b) → a ≡ b
      ok_same e = cc

      unequal : (m n : ℕ) → (m ≡ n → ⊥) → (m == n) ≡ false
      unequal m n apart = grind (arith, nat_tests)

      is_apart : (m n : ℕ) → (m ≡ n → ⊥) → is_at (nat_cmp m) n ≡ false
      is_apart m n apart = unsigned_tied m n ∙ unequal m n apart
