-- The search for a name in the places of a view.
use Rattle.std.proofs.Common.{◌≡◌, ◌∙◌, ◌+◌, ◌<◌, ◌≤◌, ◌⊎◌, ℕ, true, false, List, length, get_or, Option, Some, Ok, Err, [], sym, ap, subst, inl, inr, ◌++◌, ◌∷◌, take, refl, ◌≢◌, arith}
use Rattle.std.specs.Prelude.{IfSome, MatchOption, slice_get}
use Rattle.std.specs.Str.{IsUtf8}
use Rattle.std.proofs.lemmas.Bool.Decides.{eqb_tells}
use Rattle.std.proofs.lemmas.Option.{same_Some, slice_get-get_or}
use Rattle.btf_model.specs.declared.endianness.Endianness.{Endianness}
use Rattle.btf_model.specs.Record as model
use Rattle.btf_model.specs.Record.{Kind, Record, kind_number, kind_of}
use Rattle.btf_model.specs.Refusal.{InvalidStringOffset}
use Rattle.btf_model.specs.Text.{text_at, ArePassed, IsPassed}
use Rattle.btf_plain.specs.Head.{headed}
use Rattle.btf_plain.specs.declared.head.Head.{Head}
use Rattle.btf_table.specs.BtfStr.{HasName}
use Rattle.btf_table.specs.Readable.{IsComparable, IsReadableEnd}
use Rattle.btf_table.proofs.Names.{begins_otherwise, passed_one}
use Rattle.btf_view.specs.Places.{AreIndexed, IsRecordAt}
use Rattle.btf_view.specs.Record.{IsReadAs}
use Rattle.btf_view.specs.Finding.{LooksUp}
use Rattle.btf_view.specs.TableRef.{AreOfOtherKinds, IsNextOfKinds}
use Rattle.btf_view.specs.declared.finding.Lookup.TheVariants.{Found, Unreadable}
use Rattle.btf_view.proofs.KindNames.{kept_kind, kept_name, one_number}
use Rattle.btf_view.proofs.Places.{placed}

-- the record of an id, with the head at its place
pub record Seen (records : List Record) (id : ℕ) (raw : Head) : Type 0 where
  pub seen : Record
  pub there : slice_get records id ≡ Some seen
  pub read : IsReadAs raw seen

pub seen_at : (order : Endianness) (types places : List ℕ) (records : List Record) (id : ℕ) (raw : Head) → AreIndexed order types places records → id < length places → ((r : Record) → IsRecordAt order types (get_or places id 0) r → IsReadAs raw r) → Seen records id raw
seen_at order types places records id raw h lt has =
    let found = placed order types places records id (get_or places id 0) h.are (slice_get-get_or places id 0 lt) in
    record { seen = found.0; there = found.1; read = has found.0 found.2 }

-- its kind is that of the head
kind_seen : (records : List Record) (id : ℕ) (raw : Head) (s : Seen records id raw) → kind_of s.seen.info ≡ kind_of raw.info
kind_seen records id raw s = ap (λ (r : Record). kind_of r.info) s.read.is ∙ kept_kind s.read.kind (headed raw s.read.tail) s.read.has ∙ sym s.read.has

-- the kind is the one that has this number, or another one
pub same_kind : (records : List Record) (id number n : ℕ) (raw : Head) (k : Kind) (s : Seen records id raw) → slice_get model.kinds number ≡ Some k → n ≡ kind_number raw.info → n ≡ number → kind_of s.seen.info ≡ Some k
same_kind records id number n raw k s is n-is same = kind_seen records id raw s ∙ ap (slice_get model.kinds) (sym n-is ∙ same) ∙ is

pub other_kind : (strings : List ℕ) (records : List Record) (id number n : ℕ) (raw : Head) (k : Kind) (name : List ℕ) → Seen records id raw → slice_get model.kinds number ≡ Some k → n ≡ kind_number raw.info → (n ≡ number → ⊥) → ArePassed strings records k name id → (low : ℕ) (r : Record) → low < id + 1 → slice_get records low ≡ Some r → IsPassed strings k name r
other_kind strings records id number n raw k name s is n-is differ below =
    passed_one strings records k name id s.seen below s.there
    (inl (λ has. differ (one_number n number k (ap (slice_get model.kinds) n-is ∙ sym (kind_seen records id raw s) ∙ has) is)))

-- another name
pub other_name : (strings : List ℕ) (records : List Record) (id : ℕ) (raw : Head) (offset : ℕ) (k : Kind) (name : List ℕ) (s : Seen records id raw) → offset ≡ s.seen.name → HasName strings offset name (Ok false) → ArePassed strings records k name id → (low : ℕ) (r : Record) → low < id + 1 → slice_get records low ≡ Some r → IsPassed strings k name r
other_name strings records id raw offset k name s at named below =
    passed_one strings records k name id s.seen below s.there (inr (subst (λ (o : ℕ). HasName strings o name (Ok false)) at named))

-- the name
pub found_there : (strings : List ℕ) (records : List Record) (id : ℕ) (raw : Head) (offset : ℕ) (k : Kind) (name : List ℕ) (s : Seen records id raw) → offset ≡ s.seen.name → kind_of s.seen.info ≡ Some k → HasName strings offset name (Ok true) → ArePassed strings records k name id → LooksUp strings records k name (Found id)
found_there strings records id raw offset k name s at kind named below = (s.seen, (below, s.there, kind), subst (λ (o : ℕ). HasName strings o name (Ok true)) at named)

-- a name that can't be read
pub unread_there : (strings : List ℕ) (records : List Record) (id : ℕ) (raw : Head) (offset : ℕ) (k : Kind) (name : List ℕ) (s : Seen records id raw) → offset ≡ s.seen.name → kind_of s.seen.info ≡ Some k → text_at strings offset ≡ Err (InvalidStringOffset offset) → ArePassed strings records k name id → LooksUp strings records k name (Unreadable offset)
unread_there strings records id raw offset k name s at kind unread below =
    inl (id, s.seen, (below, s.there, kind), subst (λ (o : ℕ). text_at strings o ≡ Err (InvalidStringOffset offset)) at unread)

-- reading retains the name, except for kind 0
pub name_retained : (raw : Head) (r : Record) → IsReadAs raw r → (kind_number raw.info ≡ 0 → ⊥) → raw.name ≡ r.name
name_retained raw r h other =
    let named : h.kind ≢ model.Unknown = λ (unknown : h.kind ≡ model.Unknown). other (one_number (kind_number raw.info) 0 model.Unknown (h.has ∙ ap (λ (k : Kind). Some k) unknown) refl) in
    sym (ap (λ (x : Record). x.name) h.is ∙ kept_name h.kind (headed raw h.tail) named)

-- another kind, or a name that begins with another byte
pub passed_other : (strings readable : List ℕ) (records : List Record) (id number first : ℕ) (end : Option ℕ) (raw : Head) (k : Kind) (name : List ℕ) (s : Seen records id raw) → slice_get model.kinds number ≡ Some k → (number ≡ 0 → ⊥)
    → IfSome end (λ n. IsReadableEnd strings n × IsComparable name) → MatchOption end (readable ≡ []) (λ n. readable ≡ take n strings) → IsUtf8 name → ((rest : List ℕ) → get_or (name ++ 0 ∷ rest) 0 0 ≡ first)
    → (kind_number raw.info ≡ number → (byte : ℕ) × (slice_get readable raw.name ≡ Some byte) × (byte ≢ first))
    → ArePassed strings records k name id → (low : ℕ) (r : Record) → low < id + 1 → slice_get records low ≡ Some r → IsPassed strings k name r
passed_other strings readable records id number first end raw k name s is nonzero ends until utf8 firsts differs below =
    elim (eqb_tells (kind_number raw.info) number) [
      | inl same ↦
          let byte = differs same.1 in
          other_name strings records id raw raw.name k name s (name_retained raw s.seen s.read (λ zero. nonzero (sym same.1 ∙ zero)))
          (begins_otherwise strings name readable raw.name first byte.0 end ends until utf8 firsts byte.1 byte.2) below
      | inr other ↦ other_kind strings records id number (kind_number raw.info) raw k name s is refl other.1 below
    ]

-- the number of a record's kind is that of the head
pub number_seen : (records : List Record) (id n : ℕ) (raw : Head) (s : Seen records id raw) → n ≡ kind_number raw.info → n ≡ kind_number s.seen.info
number_seen records id n raw s is = is ∙ sym (one_number (kind_number s.seen.info) (kind_number raw.info) s.read.kind (kind_seen records id raw s ∙ s.read.has) s.read.has)

-- it is one of two that are sought
pub next_here : (records : List Record) (first id n kind other : ℕ) (r : Record) → slice_get records id ≡ Some r → n ≡ kind_number r.info → (n ≡ kind) ⊎ (n ≡ other) → first ≤ id → AreOfOtherKinds records first id kind other → IsNextOfKinds records first kind other (Some id)
next_here records first id n kind other r there is one from below =
    (r, there, from, elim one [ inl a ↦ inl (sym is ∙ a) | inr b ↦ inr (sym is ∙ b) ], below)

-- or none of them
pub others_here : (records : List Record) (first id n kind other : ℕ) (r : Record) → slice_get records id ≡ Some r → n ≡ kind_number r.info → n ≢ kind → n ≢ other → AreOfOtherKinds records first id kind other → AreOfOtherKinds records first (id + 1) kind other
others_here records first id n kind other r there is a b below low q from lt has =
    elim (eqb_tells low id) [
      | inl same ↦
          let one : r ≡ q = same_Some r q (sym there ∙ ap (slice_get records) (sym same.1) ∙ has) in
          let number : n ≡ kind_number q.info = is ∙ ap (λ (x : Record). kind_number x.info) one in
          (λ here. a (number ∙ here), λ here. b (number ∙ here))
      | inr differ ↦ below low q from (omega (arith, lt, differ.1)) has
    ]

-- the number of the kind in an info word
pub number_told : (n info : ℕ) (k : Kind) (given : Kind) → slice_get model.kinds n ≡ Some k → k ≡ given → kind_of info ≡ Some given → n ≡ kind_number info
number_told n info k given is same has = one_number n (kind_number info) given (is ∙ ap (λ (x : Kind). Some x) same) has
