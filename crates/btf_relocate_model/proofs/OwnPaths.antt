-- A path of a table, matched in the same table.
use Rattle.std.proofs.Common.{◌≡◌, ℕ, zero, suc, ◌+◌, ◌-◌, ◌^◌, ◌<◌, List, [], ◌∷◌, length, drop, Bool, true, false, Option, Some, None, Result, Ok, Err, refl, sym, ap, subst, ◌∙◌, arith, inl, inr}
use Rattle.std.specs.Prelude.{◌⊎◌, ◌==◌, nat_lt, if◌then◌else◌, slice_get}
use Rattle.std.specs.Str.{bytes_eq}
use Rattle.std.proofs.lemmas.Bool.Decides.{nat_tests}
use Rattle.std.proofs.lemmas.Slice.Eq.{bytes_eq-Decides}
use Rattle.btf_model.specs.Record.{Kind, Array, Record, kind_of, member_bit_offset, member_bit_field_size}
use Rattle.btf_model.specs.Table.{Table}
use Rattle.btf_model.specs.Text.{bytes_at}
use Rattle.btf_relocate_model.specs.Candidates.{is_nameless}
use Rattle.btf_relocate_model.specs.Compatible.{is_composite_kind, compatible}
use Rattle.btf_relocate_model.specs.Field.{Member, members_of, member, member_field, member_or_none, moved_bit, element, element_by, root}
use Rattle.btf_relocate_model.specs.Laws.{HasMember, WithName, WithinOne, LeadsTo, HasPlainMembers, PathsMatchThemselves}
use Rattle.btf_relocate_model.specs.Match.{element_after, in_place, if_compatible, member_after, match_step, match_from, match_path, path_limit}
use Rattle.btf_relocate_model.specs.Path.{Path, Place, PathStep, AtIndex, ToMember, local_pointer, nameless_place, named_place, member_place, element_place, place_by, place_at, ended_path, after_step, path_from}
use Rattle.btf_relocate_model.specs.Search.{Found, is_end, further_out, else_later, first_member, without_room, search}
use Rattle.btf_relocate_model.specs.Types.{◌>>=◌, known_record, required_record, name_at, readable, bytes_or_none, name_or_none, resolved, resolved_record}
use Rattle.btf_relocate_model.specs.declared.error.RelocationError.{RelocationError}
use Rattle.btf_relocate_model.specs.declared.error.RelocationError.TheVariants.{BadAccess, TooDeep, BitOffsetTooBig}
use Rattle.btf_relocate_model.specs.declared.field.Field.{Field}

-- ---- steps

pub same_bytes : (a b : List ℕ) → bytes_eq a b ≡ true → a ≡ b
same_bytes a b is = (bytes_eq-Decides a b).0 is

pub bytes_same : (a : List ℕ) → bytes_eq a a ≡ true
bytes_same a = (bytes_eq-Decides a a).1 refl

pub ok_of : {A B : Type 0} (x : Result A RelocationError) (f : A → Result B RelocationError) (b : B) → x >>= f ≡ Ok b → (a : A) × (x ≡ Ok a) × (f a ≡ Ok b)
ok_of (Ok a) f b is = (a, refl, is)
ok_of (Err e) f b is = absurd (cc)

pub same_ok : {A : Type 0} (x z : A) → ◌≡◌ {A = Result A RelocationError} (Ok x) (Ok z) → x ≡ z
same_ok x z is = cc

-- the record that an id resolves to is one of the table's
of_table : (t : Table) (id : ℕ) (r : Record) → resolved_record t id ≡ Ok r → (k : ℕ) × (slice_get t.records k ≡ Some r)
of_table t id r is =
    let one = ok_of (resolved t id) (required_record t) r is in
    (one.0, by_option one.0 (slice_get t.records one.0) one.2)
  where
    by_option : (k : ℕ) (o : Option Record) → known_record k o ≡ Ok r → o ≡ Some r
    by_option k (Some s) e = ap (λ (x : Record). Some x) (same_ok s r e)
    by_option k None e = absurd (cc)

-- ---- lists

pub same_some : {A : Type 0} (x y : A) → Some x ≡ Some y → x ≡ y
same_some x y is = cc

rest_of : {A : Type 0} (xs : List A) (i : ℕ) (x : A) → slice_get xs i ≡ Some x → drop i xs ≡ x ∷ drop (suc i) xs
rest_of [] i x is = absurd (cc)
rest_of (y ∷ ys) zero x is = ap (λ (z : _). z ∷ ys) (same_some y x is)
rest_of (y ∷ ys) (suc i) x is = rest_of ys i x is

last_of : (ms : List Member) (i : ℕ) (m : Member) → slice_get ms i ≡ Some m → is_end (drop (suc i) ms) ≡ (i + 1 == length ms)
last_of [] i m is = absurd (cc)
last_of (x ∷ xs) zero m is = one xs
  where
    one : (ys : List Member) → is_end ys ≡ (0 + 1 == suc (length ys))
    one [] = refl
    one (y ∷ ys) = two (length ys)
      where
        two : (n : ℕ) → false ≡ (0 + 1 == suc (suc n))
        two n = grind (arith, nat_tests)
last_of (x ∷ xs) (suc i) m is = last_of xs i m is ∙ shift i (length xs)
  where
    shift : (k n : ℕ) → (k + 1 == n) ≡ (suc k + 1 == suc n)
    shift k n = grind (arith, nat_tests)

-- ---- a search that finds a member

-- a search comes to its first member, or goes on after it
head_of : (inside : ℕ → Result (Option Found) RelocationError) (t : Table) (name : List ℕ) (info : ℕ) (m : Member) (ms : List Member) (o : Option Found)
    → ((id : ℕ) (g : Found) → inside id ≡ Ok (Some g) → HasMember t name id)
    → first_member inside t name info (m ∷ ms) ≡ Ok o → LeadsTo t name m ⊎ (first_member inside t name info ms ≡ Ok o)
head_of inside t name info m ms o has is = by_name (is_nameless (name_or_none t m.name)) (bytes_eq (name_or_none t m.name) name) refl refl is
  where
    later : Result (Option Found) RelocationError
    later = first_member inside t name info ms

    by_inside : is_nameless (name_or_none t m.name) ≡ true → (p : Option Found) → inside m.type ≡ Ok p → else_later (member_bit_offset info m.offset) later p ≡ Ok o → LeadsTo t name m ⊎ (later ≡ Ok o)
    by_inside nameless (Some g) found e = inl (inr (nameless, has m.type g found))
    by_inside nameless None found e = inr e

    by_name : (nameless equal : Bool) → is_nameless (name_or_none t m.name) ≡ nameless → bytes_eq (name_or_none t m.name) name ≡ equal
        → (if nameless then (inside m.type >>= else_later (member_bit_offset info m.offset) later) else (if equal then (member_field info 0 (is_end ms) m >>= λ f. Ok (Some (record { field = f; count = 1 }))) else later)) ≡ Ok o
        → LeadsTo t name m ⊎ (later ≡ Ok o)
    by_name true equal nameless eq e =
        let one = ok_of (inside m.type) (else_later (member_bit_offset info m.offset) later) o e in by_inside nameless one.0 one.1 one.2
    by_name false true nameless eq e = inl (inl (same_bytes (name_or_none t m.name) name eq))
    by_name false false nameless eq e = inr e

-- what a search finds is a member that the name leads to
found_in : (inside : ℕ → Result (Option Found) RelocationError) (t : Table) (name : List ℕ) (info : ℕ) (ms : List Member) (f : Found)
    → ((id : ℕ) (g : Found) → inside id ≡ Ok (Some g) → HasMember t name id) → first_member inside t name info ms ≡ Ok (Some f) → (i : ℕ) × (m : Member) × (slice_get ms i ≡ Some m) × LeadsTo t name m
found_in inside t name info [] f has is = absurd (cc)
found_in inside t name info (m ∷ ms) f has is =
    elim (head_of inside t name info m ms (Some f) has is) [
      | inl leads ↦ (0, m, refl, leads)
      | inr rest ↦ let there = found_in inside t name info ms f has rest in (suc there.0, there.1, there.2, there.3)
    ]

no_room : (ms : List Member) (f : Found) → without_room ms ≡ Ok (Some f) → ⊥
no_room [] f is = cc
no_room (m ∷ ms) f is = cc

has_member : (room : ℕ) (t : Table) (name : List ℕ) (id : ℕ) (f : Found) → search room t name id ≡ Ok (Some f) → HasMember t name id
unfolding search
has_member zero t name id f is =
    let one = ok_of (resolved_record t id) (λ r. without_room (members_of r)) (Some f) is in absurd (no_room (members_of one.0) f one.2)
has_member (suc room) t name id f is =
    let one = ok_of (resolved_record t id) (λ r. first_member (search room t name) t name r.info (members_of r)) (Some f) is in
    let there = found_in (search room t name) t name one.0.info (members_of one.0) f (has_member room t name) one.2 in
    by_member one.0 there.0 there.1 one.1 there.2 there.3
  where
    by_member : (r : Record) (i : ℕ) (m : Member) → resolved_record t id ≡ Ok r → slice_get (members_of r) i ≡ Some m → LeadsTo t name m → HasMember t name id
    by_member r i m at is (inl named) = WithName id i r m at is named
    by_member r i m at is (inr inside) = WithinOne id i r m at is inside.0 inside.1

-- ---- members that a search passes

skip : (inside : ℕ → Result (Option Found) RelocationError) (t : Table) (name : List ℕ) (info : ℕ) (ms : List Member) (i : ℕ) (o : Option Found)
    → ((id : ℕ) (g : Found) → inside id ≡ Ok (Some g) → HasMember t name id)
    → ((k : ℕ) (m : Member) → k < i → slice_get ms k ≡ Some m → LeadsTo t name m → ⊥)
    → first_member inside t name info ms ≡ Ok o → first_member inside t name info (drop i ms) ≡ Ok o
skip inside t name info ms zero o has passes is = is
skip inside t name info [] (suc i) o has passes is = is
skip inside t name info (m ∷ ms) (suc i) o has passes is =
    elim (head_of inside t name info m ms o has is) [
      | inl leads ↦ absurd (passes 0 m (omega arith) refl leads)
      | inr rest ↦ skip inside t name info ms i o has (λ k n lt e leads. passes (suc k) n (omega arith) e leads) rest
    ]

-- ---- where a search ends

-- the place of what a name leads to, in any search that is not refused
pub record Finds (t : Table) (around : Field) (name : List ℕ) (f : Field) : Type 0 where
  has : HasMember t name around.type_id
  finds : (room : ℕ) (o : Option Found) → search room t name around.type_id ≡ Ok o
      → (g : Found) × (o ≡ Some g) × (moved_bit around.bit g.field.bit ≡ Ok f.bit) × (record g.field { bit = f.bit } ≡ f)

has_room : (ms : List Member) (i : ℕ) (m : Member) (o : Option Found) → slice_get ms i ≡ Some m → without_room ms ≡ Ok o → ⊥
has_room [] i m o is found = cc
has_room (x ∷ xs) i m o is found = cc

-- a search in a type whose member i is the one that the name leads to, from this member on
from_member : (t : Table) (name : List ℕ) (id i : ℕ) (r : Record) (m : Member) (room : ℕ) (o : Option Found) → HasPlainMembers t → is_nameless name ≡ false → resolved_record t id ≡ Ok r
    → slice_get (members_of r) i ≡ Some m → LeadsTo t name m → search room t name id ≡ Ok o
    → (n : ℕ) × (first_member (search n t name) t name r.info (m ∷ drop (suc i) (members_of r)) ≡ Ok o)
unfolding search
from_member t name id i r m zero o plain named at is leads found =
    absurd (has_room (members_of r) i m o is (sym (ap (λ (x : Result Record RelocationError). x >>= λ s. without_room (members_of s)) at) ∙ found))
from_member t name id i r m (suc n) o plain named at is leads found =
    let there = of_table t id r at in
    let all : first_member (search n t name) t name r.info (members_of r) ≡ Ok o = sym (ap (λ (x : Result Record RelocationError). x >>= λ s. first_member (search n t name) t name s.info (members_of s)) at) ∙ found in (
      n,
      subst (λ (xs : List Member). first_member (search n t name) t name r.info xs ≡ Ok o) (rest_of (members_of r) i m is)
          (skip (search n t name) t name r.info (members_of r) i o (has_member n t name) (λ k other lt e other_leads. apart k lt (plain.distinct there.0 i k r m other name there.1 is e named leads other_leads)) all),
    )
  where
    apart : (k : ℕ) → k < i → i ≡ k → ⊥
    apart k lt e = omega arith

moved_is : (bit by to : ℕ) → moved_bit bit by ≡ Ok to → (bit + by ≡ to) × (to < 2 ^ 32)
moved_is bit by to is = by_test (nat_lt (bit + by) (2 ^ 32)) refl is
  where
    by_test : (test : Bool) → nat_lt (bit + by) (2 ^ 32) ≡ test → (if test then Ok (bit + by) else Err BitOffsetTooBig) ≡ Ok to → (bit + by ≡ to) × (to < 2 ^ 32)
    by_test true below e = let same : bit + by ≡ to = same_ok (bit + by) to e in (same, grind (arith, nat_tests))
    by_test false below e = absurd (cc)

moves : (bit by to : ℕ) → bit + by ≡ to → to < 2 ^ 32 → moved_bit bit by ≡ Ok to
moves bit by to is lt = rw (is, below) refl
  where
    below : nat_lt to (2 ^ 32) ≡ true
    below = grind (arith, nat_tests)

-- the field of a member, but for its place
member_with : Record → Member → Bool → ℕ → Field
member_with r m is_last bit = record { type_id = m.type; bit = bit; bits = member_bit_field_size r.info m.offset; is_member = true; is_last = is_last }

field_is : (r : Record) (m : Member) (bit : ℕ) (is_last : Bool) (f : Field) → member_field r.info bit is_last m ≡ Ok f → (moved_bit bit (member_bit_offset r.info m.offset) ≡ Ok f.bit) × (member_with r m is_last f.bit ≡ f)
unfolding member_with
field_is r m bit is_last f is =
    let one = ok_of (moved_bit bit (member_bit_offset r.info m.offset)) (λ first. Ok (member_with r m is_last first)) f is in
    let same : member_with r m is_last one.0 ≡ f = same_ok (member_with r m is_last one.0) f one.2 in
    let bits : one.0 ≡ f.bit = ap (λ (h : Field). h.bit) same in
    (one.1 ∙ ap {B = Result ℕ RelocationError} (λ (b : ℕ). Ok b) bits, ap (λ (b : ℕ). member_with r m is_last b) (sym bits) ∙ same)

find_named : (t : Table) (around : Field) (i : ℕ) (r : Record) (m : Member) (f : Field) → HasPlainMembers t → resolved_record t around.type_id ≡ Ok r → slice_get (members_of r) i ≡ Some m
    → is_nameless (name_or_none t m.name) ≡ false → member_field r.info around.bit (i + 1 == length (members_of r)) m ≡ Ok f → Finds t around (name_or_none t m.name) f
unfolding member_with
find_named t around i r m f plain at is named made = record { has = WithName around.type_id i r m at is refl; finds = finds }
  where
    name : List ℕ
    name = name_or_none t m.name

    by_tests : (nameless equal : Bool) (a b c : Result (Option Found) RelocationError) (o : Option Found) → nameless ≡ false → equal ≡ true → (if nameless then a else (if equal then b else c)) ≡ Ok o → b ≡ Ok o
    by_tests nameless equal a b c o p q e = rw (p, q) at e

    finds : (room : ℕ) (o : Option Found) → search room t name around.type_id ≡ Ok o → (g : Found) × (o ≡ Some g) × (moved_bit around.bit g.field.bit ≡ Ok f.bit) × (record g.field { bit = f.bit } ≡ f)
    finds room o found =
        let start = from_member t name around.type_id i r m room o plain named at is (inl refl) found in
        let last = is_end (drop (suc i) (members_of r)) in
        let here : (member_field r.info 0 last m >>= λ h. Ok (Some (record { field = h; count = 1 }))) ≡ Ok o =
        by_tests (is_nameless name) (bytes_eq name name) _ (member_field r.info 0 last m >>= λ h. Ok (Some (record { field = h; count = 1 }))) _ o named (bytes_same name) start.1 in
        let one = ok_of (member_field r.info 0 last m) (λ h. Ok (Some (record { field = h; count = 1 }))) o here in
        let inner = field_is r m 0 last one.0 one.1 in
        let outer = field_is r m around.bit (i + 1 == length (members_of r)) f made in
        let low = moved_is 0 (member_bit_offset r.info m.offset) one.0.bit inner.0 in
        let high = moved_is around.bit (member_bit_offset r.info m.offset) f.bit outer.0 in (
          record { field = one.0; count = 1 },
          sym (same_ok _ _ one.2),
          moves around.bit one.0.bit f.bit (omega (arith, low.0, high.0)) high.1,
          ap (λ (h : Field). record h { bit = f.bit }) (sym inner.1) ∙ ap (λ (l : Bool). member_with r m l f.bit) (last_of (members_of r) i m is) ∙ outer.1,
        )

find_within : (t : Table) (around : Field) (i : ℕ) (r : Record) (m : Member) (inner f : Field) (name : List ℕ) → HasPlainMembers t → is_nameless name ≡ false → resolved_record t around.type_id ≡ Ok r → slice_get (members_of r) i ≡ Some m
    → is_nameless (name_or_none t m.name) ≡ true → inner.type_id ≡ m.type → moved_bit around.bit (member_bit_offset r.info m.offset) ≡ Ok inner.bit → Finds t inner name f → Finds t around name f
find_within t around i r m inner f name plain named at is nameless type place there = record { has = WithinOne around.type_id i r m at is nameless has; finds = finds }
  where
    has : HasMember t name m.type
    has = subst (HasMember t name) type there.has

    by_test : (test : Bool) (a b : Result (Option Found) RelocationError) (o : Option Found) → test ≡ true → (if test then a else b) ≡ Ok o → a ≡ Ok o
    by_test test a b o p e = rw p at e

    finds : (room : ℕ) (o : Option Found) → search room t name around.type_id ≡ Ok o → (g : Found) × (o ≡ Some g) × (moved_bit around.bit g.field.bit ≡ Ok f.bit) × (record g.field { bit = f.bit } ≡ f)
    finds room o found =
        let offset = member_bit_offset r.info m.offset in
        let start = from_member t name around.type_id i r m room o plain named at is (inr (nameless, has)) found in
        let later = first_member (search start.0 t name) t name r.info (drop (suc i) (members_of r)) in
        let here : (search start.0 t name m.type >>= else_later offset later) ≡ Ok o = by_test (is_nameless (name_or_none t m.name)) (search start.0 t name m.type >>= else_later offset later) _ o nameless start.1 in
        let one = ok_of (search start.0 t name m.type) (else_later offset later) o here in
        let deep = there.finds start.0 one.0 (ap (search start.0 t name) type ∙ one.1) in
        let out : further_out offset deep.0 ≡ Ok o = ap (else_later offset later) (sym deep.1) ∙ one.2 in
        let two = ok_of (moved_bit offset deep.0.field.bit) (λ first. Ok (Some (record { field = record deep.0.field { bit = first }; count = suc deep.0.count }))) o out in
        let a = moved_is around.bit offset inner.bit place in
        let b = moved_is offset deep.0.field.bit two.0 two.1 in
        let c = moved_is inner.bit deep.0.field.bit f.bit deep.2 in (
          record { field = record deep.0.field { bit = two.0 }; count = suc deep.0.count },
          sym (same_ok _ _ two.2),
          moves around.bit two.0 f.bit (omega (arith, a.0, b.0, c.0)) c.1,
          deep.3,
        )

-- ---- the places that an index leads to

IsElement : Table → Field → ℕ → Place → Type 0
IsElement t p i q = (q.step ≡ Some (AtIndex i)) × (element local_pointer t p i ≡ Ok (Some q.field))

IsNamed : Table → Field → Place → Type 0
IsNamed t p q =
    (name : List ℕ) × (is_nameless name ≡ false) × (q.step ≡ Some (ToMember name q.field.type_id)) × Finds t p name q.field
    × ((b : Bool) → compatible t t q.field.type_id q.field.type_id ≡ Ok b → b ≡ true)

-- what a search finds in the inner place, a search finds in the outer one
Carries : Table → Field → Field → Type 0
Carries t p f = (name : List ℕ) (g : Field) → is_nameless name ≡ false → Finds t f name g → Finds t p name g

IsComposite : Table → Field → Type 0
IsComposite t f = (s : Record) → resolved_record t f.type_id ≡ Ok s → is_composite_kind (kind_of s.info) ≡ true

IsWithin : Table → Field → Place → Type 0
IsWithin t p q = (q.step ≡ None) × Carries t p q.field × IsComposite t q.field

-- a member, with its record
IsMember : Table → Field → ℕ → Field × ℕ → Type 0
IsMember t p i found =
    (r : Record) × (m : Member) × (resolved_record t p.type_id ≡ Ok r) × (slice_get (members_of r) i ≡ Some m)
    × (member_field r.info p.bit (i + 1 == length (members_of r)) m ≡ Ok found.0) × (m.name ≡ found.1)

is_member : (t : Table) (p : Field) (i : ℕ) (found : Field × ℕ) → member t p i ≡ Ok (Some found) → IsMember t p i found
unfolding IsMember
is_member t p i found is =
    let one = ok_of (resolved_record t p.type_id) (λ r. member_or_none r.info p.bit (i + 1 == length (members_of r)) (slice_get (members_of r) i)) (Some found) is in
    by_option one.0 one.1 (slice_get (members_of one.0) i) refl one.2
  where
    by_option : (r : Record) → resolved_record t p.type_id ≡ Ok r → (o : Option Member) → slice_get (members_of r) i ≡ o → member_or_none r.info p.bit (i + 1 == length (members_of r)) o ≡ Ok (Some found)
        → (r : Record) × (m : Member) × (resolved_record t p.type_id ≡ Ok r) × (slice_get (members_of r) i ≡ Some m) × (member_field r.info p.bit (i + 1 == length (members_of r)) m ≡ Ok found.0) × (m.name ≡ found.1)
    by_option r at None e is = absurd (cc)
    by_option r at (Some m) e is =
        let one = ok_of (member_field r.info p.bit (i + 1 == length (members_of r)) m) (λ f. Ok (Some (f, m.name))) (Some found) is in
        let pair : ◌≡◌ {A = Field × ℕ} (one.0, m.name) found = same_some _ _ (same_ok _ _ one.2) in
        (r, m, at, e, one.1 ∙ ap {B = Result Field RelocationError} (λ (x : Field × ℕ). Ok x.0) pair, ap (λ (x : Field × ℕ). x.1) pair)

readable_is : (t : Table) (offset : ℕ) (name : List ℕ) → name_at t offset ≡ Ok name → name_or_none t offset ≡ name
readable_is t offset name is = by_option (bytes_at t.strings offset) is
  where
    by_option : (o : Option (List ℕ)) → readable offset o ≡ Ok name → bytes_or_none o ≡ name
    by_option (Some bytes) e = same_ok bytes name e
    by_option None e = absurd (cc)

-- the place of a member
member_places : (t : Table) (p : Field) (i : ℕ) (found : Field × ℕ) (q : Place) → HasPlainMembers t → IsMember t p i found → member_place t p found.0 found.1 ≡ Ok q → IsNamed t p q ⊎ IsWithin t p q
unfolding IsMember IsNamed IsWithin Carries IsComposite member_with
member_places t p i found q plain of made = by_test (found.1 == 0) refl made
  where
    r : Record
    r = of.0

    m : Member
    m = of.1

    table : (k : ℕ) × (slice_get t.records k ≡ Some r)
    table = of_table t p.type_id r of.2

    field : (moved_bit p.bit (member_bit_offset r.info m.offset) ≡ Ok found.0.bit) × (member_with r m (i + 1 == length (members_of r)) found.0.bit ≡ found.0)
    field = field_is r m p.bit (i + 1 == length (members_of r)) found.0 of.4

    type : found.0.type_id ≡ m.type
    type = sym (ap (λ (h : Field). h.type_id) field.1)

    is_zero_offset : (n : ℕ) → (n == 0) ≡ true → n ≡ 0
    is_zero_offset n e = grind (arith, nat_tests)

    by_name : (name : List ℕ) → name_at t found.1 ≡ Ok name → (nameless : Bool) → is_nameless name ≡ nameless
        → (if nameless then Err BadAccess else Ok (record { field = found.0; step = Some (ToMember name found.0.type_id) })) ≡ Ok q → IsNamed t p q ⊎ IsWithin t p q
    by_name name read true e is = absurd (cc)
    by_name name read false e is =
        let same : ◌≡◌ {A = Place} (record { field = found.0; step = Some (ToMember name found.0.type_id) }) q = same_ok _ _ is in
        let text : name_or_none t m.name ≡ name = ap (name_or_none t) of.5 ∙ readable_is t found.1 name read in
        let there : Finds t p name found.0 = subst (λ (n : List ℕ). Finds t p n found.0) text (find_named t p i r m found.0 plain of.2 of.3 (ap is_nameless text ∙ e) of.4) in
        inl (subst (IsNamed t p) same (name, e, refl, there, λ b alike. plain.alike table.0 i r m b table.1 of.3 (subst (λ (n : ℕ). compatible t t n n ≡ Ok b) type alike)))

    by_test : (test : Bool) → (found.1 == 0) ≡ test → (if test then Ok (nameless_place p found.0) else (name_at t found.1 >>= named_place found.0)) ≡ Ok q → IsNamed t p q ⊎ IsWithin t p q
    by_test true zero_offset is =
        let same : nameless_place p found.0 ≡ q = same_ok _ _ is in
        let none : m.name ≡ 0 = of.5 ∙ is_zero_offset found.1 zero_offset in
        let nameless : is_nameless (name_or_none t m.name) ≡ true = ap (λ (n : ℕ). is_nameless (name_or_none t n)) none ∙ ap is_nameless plain.no_name in
        inr (subst (IsWithin t p) same (
          refl,
          λ name g named there. find_within t p i r m (record found.0 { is_member = p.is_member; is_last = p.is_last }) g name plain named of.2 of.3 nameless type field.0 there,
          λ s at. plain.composite table.0 i r s m table.1 of.3 none (subst (λ (n : ℕ). resolved_record t n ≡ Ok s) type at),
        ))
    by_test false other is =
        let one = ok_of (name_at t found.1) (named_place found.0) q is in by_name one.0 one.1 (is_nameless one.0) refl one.2

places : (t : Table) (p : Field) (i : ℕ) (q : Place) → HasPlainMembers t → place_at t p i ≡ Ok q → IsElement t p i q ⊎ (IsNamed t p q ⊎ IsWithin t p q)
unfolding IsElement
places t p i q plain is =
    let one = ok_of (member t p i) (place_by t p i) q is in by_option one.0 one.1 one.2
  where
    by_element : (o : Option Field) → element local_pointer t p i ≡ Ok o → element_place i o ≡ Ok q → (q.step ≡ Some (AtIndex i)) × (element local_pointer t p i ≡ Ok (Some q.field))
    by_element (Some f) at e =
        let same : ◌≡◌ {A = Place} (record { field = f; step = Some (AtIndex i) }) q = same_ok _ _ e in
        (sym (ap (λ (x : Place). x.step) same), at ∙ ap {B = Result (Option Field) RelocationError} (λ (x : Place). Ok (Some x.field)) same)
    by_element None at e = absurd (cc)

    by_option : (o : Option (Field × ℕ)) → member t p i ≡ Ok o → place_by t p i o ≡ Ok q → ((q.step ≡ Some (AtIndex i)) × (element local_pointer t p i ≡ Ok (Some q.field))) ⊎ (IsNamed t p q ⊎ IsWithin t p q)
    by_option (Some found) at e = inr (member_places t p i found q plain (is_member t p i found at) e)
    by_option None at e = let one = ok_of (element local_pointer t p i) (element_place i) q e in inl (by_element one.0 one.1 one.2)

-- ---- steps of a match

-- What is matched from a place on leads to the end of the path: after the step to the place, if it is one; else from the
-- place around it.
Followed : Table → Option PathStep → Field → Path → Type 0
Followed t (Some s) f path =
    (ss : List PathStep) × (path.steps ≡ s ∷ ss) × ((at : Found) (o : Option Field) → at.field ≡ f → match_from t local_pointer t ss (Some at) ≡ Ok o → o ≡ Some path.field)
Followed t None f path =
    (at : Found) (o : Option Field) → Carries t at.field f → IsComposite t f → match_from t local_pointer t path.steps (Some at) ≡ Ok o → o ≡ Some path.field

-- an element of the place of a match
from_element : (t : Table) (f : Field) (i : ℕ) (q : Place) (path : Path) (at : Found) (o : Option Field) → IsElement t f i q → Followed t q.step q.field path → at.field ≡ f
    → match_from t local_pointer t path.steps (Some at) ≡ Ok o → o ≡ Some path.field
unfolding IsElement Followed
from_element t f i q path at o is rest here matched = by_rest (subst (λ (s : Option PathStep). Followed t s q.field path) is.0 rest)
  where
    by_rest : Followed t (Some (AtIndex i)) q.field path → o ≡ Some path.field
    by_rest next =
        let all : match_from t local_pointer t (AtIndex i ∷ next.0) (Some at) ≡ Ok o = subst (λ (ss : List PathStep). match_from t local_pointer t ss (Some at) ≡ Ok o) next.1 matched in
        let one = ok_of (match_step t local_pointer t at (AtIndex i)) (match_from t local_pointer t next.0) o all in
        let element_is : element local_pointer t at.field i ≡ Ok (Some q.field) = ap (λ (h : Field). element local_pointer t h i) here ∙ is.1 in
        let x : element_after at.count (Some q.field) ≡ Ok one.0 = sym (ap (λ (e : Result (Option Field) RelocationError). e >>= element_after at.count) element_is) ∙ one.1 in
        by_count (nat_lt at.count path_limit) one.0 x one.2
      where
        by_count : (test : Bool) (x : Option Found) → (if test then Ok (Some (record { field = q.field; count = at.count + 1 })) else Err TooDeep) ≡ Ok x → match_from t local_pointer t next.0 x ≡ Ok o → o ≡ Some path.field
        by_count true x e m =
            let same : ◌≡◌ {A = Option Found} (Some (record { field = q.field; count = at.count + 1 })) x = same_ok _ _ e in
            next.2 (record { field = q.field; count = at.count + 1 }) o refl (subst (λ (y : Option Found). match_from t local_pointer t next.0 y ≡ Ok o) (sym same) m)
        by_count false x e m = absurd (cc)

abbrev if_so : Found → Bool → Result (Option Found) RelocationError
if_so h b = if b then Ok (Some h) else Ok None

-- a member of the place of a match
from_named : (t : Table) (f : Field) (q : Place) (path : Path) (at : Found) (o : Option Field) → IsNamed t f q → Followed t q.step q.field path → Carries t at.field f
    → match_from t local_pointer t path.steps (Some at) ≡ Ok o → o ≡ Some path.field
unfolding IsNamed Followed Carries
from_named t f q path at o is rest carries matched = by_rest (subst (λ (s : Option PathStep). Followed t s q.field path) is.2 rest)
  where
    name : List ℕ
    name = is.0

    there : Finds t at.field name q.field
    there = carries name q.field is.1 is.3

    by_rest : Followed t (Some (ToMember name q.field.type_id)) q.field path → o ≡ Some path.field
    by_rest next =
        let type = q.field.type_id in
        let all : match_from t local_pointer t (ToMember name type ∷ next.0) (Some at) ≡ Ok o = subst (λ (ss : List PathStep). match_from t local_pointer t ss (Some at) ≡ Ok o) next.1 matched in
        let one = ok_of (match_step t local_pointer t at (ToMember name type)) (match_from t local_pointer t next.0) o all in
        let two = ok_of (search (path_limit - at.count) t name at.field.type_id) (member_after t t type at) one.0 one.1 in
        let found = there.finds (path_limit - at.count) two.0 two.1 in
        let after_it : member_after t t type at (Some found.0) ≡ Ok one.0 = ap (member_after t t type at) (sym found.1) ∙ two.2 in
        let h : Found = record { field = record found.0.field { bit = q.field.bit }; count = at.count + found.0.count } in
        let placed_is : in_place at found.0 ≡ Ok h = ap (λ (b : Result ℕ RelocationError). b >>= λ first. Ok (record { field = record found.0.field { bit = first }; count = at.count + found.0.count })) found.2 in
        let tested : if_compatible t t type h ≡ Ok one.0 = sym (ap (λ (p : Result Found RelocationError). p >>= if_compatible t t type) placed_is) ∙ after_it in
        let three = ok_of (compatible t t type h.field.type_id) (if_so h) one.0 tested in
        let alike : three.0 ≡ true = is.4 three.0 (subst (λ (n : ℕ). compatible t t type n ≡ Ok three.0) (ap (λ (g : Field). g.type_id) found.3) three.1) in
        let same : ◌≡◌ {A = Option Found} (Some h) one.0 = same_ok _ _ (subst (λ (b : Bool). if_so h b ≡ Ok one.0) alike three.2) in
        next.2 h o found.3 (subst (λ (y : Option Found). match_from t local_pointer t next.0 y ≡ Ok o) (sym same) one.2)

from_within : (t : Table) (f : Field) (q : Place) (path : Path) (at : Found) (o : Option Field) → IsWithin t f q → Followed t q.step q.field path → Carries t at.field f
    → match_from t local_pointer t path.steps (Some at) ≡ Ok o → o ≡ Some path.field
unfolding IsWithin Followed Carries
from_within t f q path at o is rest carries matched =
    let next : Followed t None q.field path = subst (λ (s : Option PathStep). Followed t s q.field path) is.0 rest in
    next at o (λ name g named there. carries name g named (is.1 name g named there)) is.2 matched

-- a STRUCT or UNION has no elements
no_element : (t : Table) (f g : Field) (i : ℕ) → IsComposite t f → element local_pointer t f i ≡ Ok (Some g) → ⊥
unfolding IsComposite
no_element t f g i composite is =
    let one = ok_of (resolved t f.type_id) _ (Some g) is in
    let two = ok_of (required_record t one.0) (λ r. element_by local_pointer t f i (kind_of r.info) r) (Some g) one.2 in
    by_kind two.0 (kind_of two.0.info) (composite two.0 (ap (λ (x : Result ℕ RelocationError). x >>= required_record t) one.1 ∙ two.1)) two.2
  where
    by_kind : (r : Record) (k : Option Kind) → is_composite_kind k ≡ true → element_by local_pointer t f i k r ≡ Ok (Some g) → ⊥
    by_kind r (Some Array) e found = cc
    by_kind r k e found = cc

itself : (t : Table) (f g : Field) → f ≡ g → Carries t f g
unfolding Carries
itself t f g same name h named there = subst (λ (x : Field). Finds t x name h) (sym same) there

step_on : (t : Table) (s : Option PathStep) (f : Field) (i : ℕ) (q : Place) (path : Path) → IsElement t f i q ⊎ (IsNamed t f q ⊎ IsWithin t f q) → Followed t q.step q.field path → Followed t s f (after_step s path)
unfolding Followed IsElement
step_on t (Some s) f i q path (inl element_is) rest = (path.steps, refl, λ at o here matched. from_element t f i q path at o element_is rest here matched)
step_on t (Some s) f i q path (inr (inl named)) rest = (path.steps, refl, λ at o here matched. from_named t f q path at o named rest (itself t at.field f here) matched)
step_on t (Some s) f i q path (inr (inr within)) rest = (path.steps, refl, λ at o here matched. from_within t f q path at o within rest (itself t at.field f here) matched)
step_on t None f i q path (inl element_is) rest = λ at o carries composite matched. absurd (no_element t f q.field i composite element_is.1)
step_on t None f i q path (inr (inl named)) rest = λ at o carries composite matched. from_named t f q path at o named rest carries matched
step_on t None f i q path (inr (inr within)) rest = λ at o carries composite matched. from_within t f q path at o within rest carries matched

end_of : (t : Table) (s : Option PathStep) (f : Field) (path : Path) → ended_path f s ≡ Ok path → Followed t s f path
unfolding Followed
end_of t (Some s) f path is =
    subst (Followed t (Some s) f) (same_ok _ _ is) ([], refl, λ at o here matched. sym (same_ok (Some at.field) o matched) ∙ ap (λ (g : Field). Some g) here)
end_of t None f path is = absurd (cc)

follow : (t : Table) → HasPlainMembers t → (is : List ℕ) (p : Place) (path : Path) → path_from t p is ≡ Ok path → Followed t p.step p.field path
follow t plain [] p path made = end_of t p.step p.field path made
follow t plain (i ∷ is) p path made =
    let one = ok_of (place_at t p.field i) (λ q. path_from t q is >>= λ x. Ok (after_step p.step x)) path made in
    let two = ok_of (path_from t one.0 is) (λ x. Ok (after_step p.step x)) path one.2 in
    subst (Followed t p.step p.field) (same_ok (after_step p.step two.0) path two.2)
    (step_on t p.step p.field i one.0 two.0 (places t p.field i one.0 plain one.1) (follow t plain is one.0 two.0 two.1))

pub paths_match_themselves : PathsMatchThemselves
unfolding Followed
paths_match_themselves t id [] path o plain made matched = absurd (cc)
paths_match_themselves t id (i ∷ is) path o plain made matched =
    let one = ok_of (root local_pointer t id i) (λ f. path_from t (record { field = f; step = Some (AtIndex i) }) is) path made in
    let rest = follow t plain is (record { field = one.0; step = Some (AtIndex i) }) path one.2 in
    let all : match_path t local_pointer t (AtIndex i ∷ rest.0) id ≡ Ok o = subst (λ (ss : List PathStep). match_path t local_pointer t ss id ≡ Ok o) rest.1 matched in
    let here : match_from t local_pointer t rest.0 (Some (record { field = one.0; count = 1 })) ≡ Ok o =
    sym (ap (λ (x : Result Field RelocationError). x >>= λ f. match_from t local_pointer t rest.0 (Some (record { field = f; count = 1 }))) one.1) ∙ all in
    rest.2 (record { field = one.0; count = 1 }) o refl here
