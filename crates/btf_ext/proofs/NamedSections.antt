-- Reading the sections of a program in two passes, and putting their records into a map under their names.
use Rattle.std.proofs.Common.{◌≡◌, ℕ, zero, suc, ◌<◌, Bool, true, false, cond, List, [], ◌∷◌, ◌++◌, length, get_or, Option, Some, None, Result, Ok, Err, refl, sym, ap, subst, ◌∙◌, append_assoc, inl, inr, arith, Global}
use Rattle.std.specs.Prelude.{◌⊎◌, map, filter, not, option_map, string_bytes, IfSome}
use Rattle.std.specs.List.{AllByRecursion, last_or, list_any}
use Rattle.std.specs.Option.{option_or, IsSome, is_some}
use Rattle.std.specs.Ordering.{is_eq, nat_cmp}
use Rattle.std.specs.BTreeMap.{is_at}
use Rattle.std.specs.BTreeSet as ordered
use Rattle.std.specs.BTreeSet.{BTreeSet, contains, IsEmpty}
use Rattle.std.specs.HashMap as hash
use Rattle.std.specs.HashMap.{HashMap, get_by_text}
use Rattle.std.specs.Str.{bytes_eq}
use Rattle.std.specs.String.{string_eq}
use Rattle.std.specs.declared.string.String.{String}
use Rattle.std.proofs.lemmas.Bool.{false≢true}
use Rattle.std.proofs.lemmas.List.{append-nil, map-append}
use Rattle.std.proofs.lemmas.Map.Lookups.{exact_unsigned}
use Rattle.std.proofs.lemmas.Map.Views.{tells_apart}
use Rattle.std.proofs.lemmas.Map.Text.{hash_map_updates_text}
use Rattle.std.proofs.lemmas.Option.{IfSome_then}
use Rattle.std.proofs.lemmas.Slice.Eq.{bytes_eq-Decides}
use Rattle.btf_model.specs.Ext.{Section, SectionBytes, Part, Named, Records, IsSection, HaveNames, AreNamed, instruction_records, records_named, section_named, sections_of}
use Rattle.btf_model.specs.Refusal.{Refusal}
use Rattle.btf_model.specs.Text.{text_at}
use Rattle.btf_model.specs.declared.endianness.Endianness.{Endianness}
use Rattle.btf_plain.specs.declared.error.BtfError.{BtfError}
use Rattle.btf_plain.specs.Error.{refusal_of}
use Rattle.btf_ext.specs.Info.{AreByName, GainsUnder}
use Rattle.btf_ext.specs.SecInfo.{section_of, GivesSection, ReadsSections}
use Rattle.btf_ext.specs.declared.sections.SecInfo.{SecInfo}
use Rattle.btf_ext.proofs.Copies.{eq_flips}
use Rattle.btf_ext.proofs.Parts.{CutSoFar, cut_one, cut_all}

-- ---- the first pass: each name can be read

-- The state of the first pass: the sections at the start of the bytes were read, their names can be read, and so can
-- the text at each offset that was met.
pub record MetSoFar (order : Endianness) (size : ℕ) (strings bytes : List ℕ) (sections : List Section) (rest : SectionBytes) (set : BTreeSet ℕ) : Type 0 where
  pub names : List Named
  pub same : sections_of names ≡ sections
  pub cut : CutSoFar order size bytes (sections_of names) rest
  pub have : HaveNames strings names
  pub met : (q : ℕ) → contains nat_cmp set q ≡ true → (text : List ℕ) × (text_at strings q ≡ Ok text)

empty_has_none : (set : BTreeSet ℕ) → IsEmpty set → (q : ℕ) → contains nat_cmp set q ≡ false
empty_has_none set is q = ap (list_any (is_at (nat_cmp q))) is

-- before the first
pub none_met : (order : Endianness) (size : ℕ) (strings bytes : List ℕ) (sections : List Section) (rest : SectionBytes) (met : BTreeSet ℕ) → sections ≡ [] → rest ≡ record { order = order; size = size; bytes = bytes } → IsEmpty met → MetSoFar order size strings bytes sections rest met
none_met order size strings bytes sections rest met none is empty = record {
  names = [];
  same = sym none;
  cut = record { order_is = ap (λ (r : SectionBytes). r.order) is; size_is = ap (λ (r : SectionBytes). r.size) is; begins = (tt, sym (ap (λ (r : SectionBytes). r.bytes) is)) };
  have = tt;
  met = λ q at. absurd (false≢true (sym (empty_has_none met empty q) ∙ at));
}

have_more : (strings : List ℕ) (ns : List Named) (n : Named) → HaveNames strings ns → text_at strings n.section.name ≡ Ok n.text → HaveNames strings (ns ++ n ∷ [])
have_more strings [] n have is = (is, tt)
have_more strings (m ∷ ns) n have is = (have.0, have_more strings ns n have.1 is)

-- a number of the set after an insertion is the one that was inserted, or was in the set
gained : (old new : BTreeSet ℕ) (k q : ℕ) → ordered.Updates nat_cmp old new k true → contains nat_cmp new q ≡ true → (k ≡ q) ⊎ (contains nat_cmp old q ≡ true)
gained old new k q updates at = split (is_eq (nat_cmp k q)) (contains nat_cmp old q) (λ is. tells_apart exact_unsigned k q is) (sym (updates.0 q) ∙ at)
  where
    split : {P : Type 0} (b c : Bool) → (b ≡ true → P) → cond b true c ≡ true → P ⊎ (c ≡ true)
    split true c here at = inl (here refl)
    split false c here at = inr at

-- one more section, whose name was read, or is at an offset that was met
pub one_more_met : (order : Endianness) (size : ℕ) (strings bytes : List ℕ) (sections more : List Section) (rest next : SectionBytes) (met now : BTreeSet ℕ) (s : SecInfo)
    → MetSoFar order size strings bytes sections rest met → GivesSection rest (Some (Ok s)) next → more ≡ sections ++ section_of s ∷ [] → ordered.Updates nat_cmp met now s.name_offset true → (text : List ℕ) × (text_at strings s.name_offset ≡ Ok text) → MetSoFar order size strings bytes more next now
one_more_met order size strings bytes sections more rest next met now s h gives more-is updates read =
    let n : Named = record { text = read.0; section = section_of s } in
    let push : sections_of (h.names ++ n ∷ []) ≡ sections_of h.names ++ section_of s ∷ [] = map-append (λ (m : Named). m.section) h.names (n ∷ []) in
    record {
      names = h.names ++ n ∷ [];
      same = push ∙ ap (λ (xs : List Section). xs ++ section_of s ∷ []) h.same ∙ sym more-is;
      cut = subst (λ (ss : List Section). CutSoFar order size bytes ss next) (sym push) (cut_one order size bytes (sections_of h.names) rest next s h.cut gives);
      have = have_more strings h.names n h.have read.1;
      met = λ q at. elim (gained met now s.name_offset q updates at) [
        | inl same ↦ subst (λ (o : ℕ). (text : List ℕ) × (text_at strings o ≡ Ok text)) same read
        | inr was ↦ h.met q was
      ];
    }

-- all are read
pub all_met : (order : Endianness) (size : ℕ) (strings bytes : List ℕ) (sections : List Section) (rest : SectionBytes) (met : BTreeSet ℕ) → MetSoFar order size strings bytes sections rest met → rest.bytes ≡ [] → ReadsSections order size strings bytes (Ok sections)
all_met order size strings bytes sections rest met h done = (h.names, h.same, (cut_all order size bytes (sections_of h.names) rest h.cut done, h.have))

-- an offset that is not new was met
pub was_met : (b is_new : Bool) → is_new ≡ not b → is_new ≡ false → b ≡ true
was_met true is_new is none = refl
was_met false is_new is none = absurd (false≢true (sym none ∙ is))

-- ---- the second pass: from the last section to the first

option_or-none : {A : Type 0} (o : Option A) → option_or o None ≡ o
option_or-none None = refl
option_or-none (Some x) = refl

option_or-same : {A : Type 0} (o : Option A) (p : Option A) → IsSome o → option_or o p ≡ o
option_or-same None p h = absurd (false≢true h)
option_or-same (Some x) p h = refl

IsSome-option_or : {A : Type 0} (o : Option A) (p : Option A) → IsSome o → IsSome (option_or o p)
IsSome-option_or None p h = absurd (false≢true h)
IsSome-option_or (Some x) p h = refl

IsSome-option_or_some : {A : Type 0} (o : Option A) (x : A) → IsSome (option_or o (Some x))
IsSome-option_or_some None x = refl
IsSome-option_or_some (Some y) x = refl

option_map-or : {A B : Type 0} (f : A → B) (o p : Option A) → option_map f (option_or o p) ≡ option_or (option_map f o) (option_map f p)
option_map-or f None p = refl
option_map-or f (Some x) p = refl

option_map-if : {A B : Type 0} (f : A → B) (b : Bool) (x : A) → option_map f (cond b (Some x) None) ≡ cond b (Some (f x)) None
option_map-if f true x = refl
option_map-if f false x = refl

last_or-or : {A : Type 0} (o : Option A) (xs : List A) → last_or o xs ≡ option_or (last_or None xs) o
last_or-or o [] = refl
last_or-or o (x ∷ xs) = sym (option_or-same (last_or (Some x) xs) o (subst (λ p. IsSome p) (sym (last_or-or (Some x) xs)) (IsSome-option_or_some (last_or None xs) x)))

-- the section of a name, in a list with one more section in front
pub section_named-cons : (n : Named) (ns : List Named) (q : List ℕ) → section_named (n ∷ ns) q ≡ option_or (section_named ns q) (cond (bytes_eq q n.text) (Some n.section) None)
section_named-cons n ns q = at (bytes_eq q n.text) (filter (λ x. bytes_eq q x.text) ns)
  where
    at : (b : Bool) (fs : List Named) → option_map (λ (x : Named). x.section) (last_or None (cond b (n ∷ fs) fs)) ≡ option_or (option_map (λ (x : Named). x.section) (last_or None fs)) (cond b (Some n.section) None)
    at true fs = ap (option_map (λ (x : Named). x.section)) (last_or-or (Some n) fs) ∙ option_map-or (λ (x : Named). x.section) (last_or None fs) (Some n)
    at false fs = sym (option_or-none (option_map (λ (x : Named). x.section) (last_or None fs)))

-- records that are added under the name of one more section at the front of a list
gains_section : (order : Endianness) (width : ℕ) (p : Part) (n : Named) (ns : List Named) (old new : List ℕ → Option Records) → ((q : List ℕ) → old q ≡ records_named order width p ns q) → GainsUnder n.text (instruction_records order p.size width n.section) old new → (q : List ℕ) → new q ≡ records_named order width p (n ∷ ns) q
gains_section order width p n ns old new h gains q =
    let read : Section → Records = instruction_records order p.size width in
    gains q
    ∙ ap (λ o. option_or o (cond (bytes_eq q n.text) (Some (read n.section)) None)) (h q)
    ∙ ap (λ o. option_or (option_map read (section_named ns q)) o) (sym (option_map-if read (bytes_eq q n.text) n.section))
    ∙ sym (option_map-or read (section_named ns q) (cond (bytes_eq q n.text) (Some n.section) None))
    ∙ ap (option_map read) (sym (section_named-cons n ns q))

-- one more section at the front of a list in which a later section has its name
named_later : (n : Named) (ns : List Named) (q : List ℕ) → IsSome (section_named ns n.text) → section_named (n ∷ ns) q ≡ section_named ns q
named_later n ns q later = section_named-cons n ns q ∙ at (bytes_eq q n.text) refl
  where
    at : (b : Bool) → bytes_eq q n.text ≡ b → option_or (section_named ns q) (cond b (Some n.section) None) ≡ section_named ns q
    at true is = option_or-same (section_named ns q) (Some n.section) (subst (λ (t : List ℕ). IsSome (section_named ns t)) (sym ((bytes_eq-Decides q n.text).0 is)) later)
    at false is = option_or-none (section_named ns q)

-- The state of the second pass, which begins at the last section: the records under their names, and a name at each
-- offset that was met.
pub record TakenSoFar (order : Endianness) (width : ℕ) (strings : List ℕ) (p : Part) (items : List SecInfo) (set : BTreeSet ℕ) (found_in : List ℕ → Option Records) : Type 0 where
  pub before : List Named
  pub after : List Named
  pub named : AreNamed order p.size strings p.bytes (Ok (before ++ after))
  pub left : sections_of before ≡ map section_of items
  pub taken : (q : ℕ) → contains nat_cmp set q ≡ true → (text : List ℕ) × (text_at strings q ≡ Ok text) × IsSome (section_named after text)
  pub found : (q : List ℕ) → found_in q ≡ records_named order width p after q

-- before the last
pub none_taken : (order : Endianness) (width : ℕ) (strings : List ℕ) (p : Part) (sections left : List SecInfo) (taken : BTreeSet ℕ) (found : List ℕ → Option Records) → ReadsSections order p.size strings p.bytes (Ok (map section_of sections)) → left ≡ sections → IsEmpty taken → ((q : List ℕ) → found q ≡ None) → TakenSoFar order width strings p left taken found
none_taken order width strings p sections left taken found h is empty none = record {
  before = h.0;
  after = [];
  named = subst (λ (ns : List Named). AreNamed order p.size strings p.bytes (Ok ns)) (sym (append-nil h.0)) h.2;
  left = h.1 ∙ ap (map section_of) (sym is);
  taken = λ q at. absurd (false≢true (sym (empty_has_none taken empty q) ∙ at));
  found = none;
}

absent : {A : Type 0} (o : Option A) → is_some o ≡ false → o ≡ None
absent None h = refl
absent (Some x) h = absurd (false≢true (sym h))

-- records under a name that has none
pub put_under : {X S : Type 0} (view : X → Records) (old new : HashMap (String Global) X S) (k : String Global) (x : X) (records : Records) → is_some (get_by_text old (string_bytes k)) ≡ false → view x ≡ records → hash.Updates string_eq old new k (Some x) → GainsUnder (string_bytes k) records (λ q. option_map view (get_by_text old q)) (λ q. option_map view (get_by_text new q))
put_under view old new k x records none is updates q =
    let text : List ℕ = string_bytes k in
    ap (option_map view) (hash_map_updates_text text old new (Some x) updates q ∙ ap (λ (b : Bool). cond b (Some x) (get_by_text old q)) (eq_flips text q (bytes_eq text q) (bytes_eq q text) refl refl)) ∙ at (bytes_eq q text) refl
  where
    at : (b : Bool) → bytes_eq q (string_bytes k) ≡ b → option_map view (cond b (Some x) (get_by_text old q)) ≡ option_or (option_map view (get_by_text old q)) (cond b (Some records) None)
    at true same =
        ap (λ (r : Records). Some r) is
        ∙ ap (λ o. option_or (option_map view o) (Some records)) (sym (absent (get_by_text old q) (ap (λ (t : List ℕ). is_some (get_by_text old t)) ((bytes_eq-Decides q (string_bytes k)).0 same) ∙ none)))
    at false same = sym (option_or-none (option_map view (get_by_text old q)))

one_text : (r : Result (List ℕ) Refusal) (a b : List ℕ) → Ok a ≡ r → r ≡ Ok b → a ≡ b
one_text r a b p q = cc

-- the same, if the name is the text at an offset
pub added_under : {X S : Type 0} (view : X → Records) (old new : HashMap (String Global) X S) (k : String Global) (x : X) (records : Records) (read : Result (List ℕ) Refusal) → Ok (string_bytes k) ≡ read → is_some (get_by_text old (string_bytes k)) ≡ false → view x ≡ records → hash.Updates string_eq old new k (Some x)
    → (text : List ℕ) → read ≡ Ok text → GainsUnder text records (λ q. option_map view (get_by_text old q)) (λ q. option_map view (get_by_text new q))
added_under view old new k x records read name none is updates text given = subst (λ (t : List ℕ). GainsUnder t records (λ q. option_map view (get_by_text old q)) (λ q. option_map view (get_by_text new q))) (one_text read (string_bytes k) text name given) (put_under view old new k x records none is updates)

-- a list whose images end with y, as the elements before its last one, and the last one
record EndsIn {A B : Type 0} (f : A → B) (xs : List A) (ys : List B) (y : B) : Type 0 where
  pub front : List A
  pub last : A
  pub is : xs ≡ front ++ last ∷ []
  pub front_is : map f front ≡ ys
  pub last_is : f last ≡ y

ends_in : {A B : Type 0} (f : A → B) (xs : List A) (ys : List B) (y : B) → map f xs ≡ ys ++ y ∷ [] → EndsIn f xs ys y
ends_in f [] [] y e = cc
ends_in f [] (z ∷ zs) y e = cc
ends_in f (x ∷ []) [] y e = record { front = []; last = x; is = refl; front_is = refl; last_is = cc }
ends_in f (x ∷ w ∷ xs) [] y e = cc
ends_in f (x ∷ xs) (z ∷ zs) y e =
    let tail : map f xs ≡ zs ++ y ∷ [] = cc in
    let h = ends_in f xs zs y tail in
    record { front = x ∷ h.front; last = h.last; is = ap (λ (t : List _). x ∷ t) h.is; front_is = cc; last_is = h.last_is }

-- the current section
pub record IsTurn (order : Endianness) (strings : List ℕ) (p : Part) (s : SecInfo) (left : List SecInfo) (after : List Named) : Type 0 where
  pub front : List Named
  pub name : Named
  pub front_is : sections_of front ≡ map section_of left
  pub section_is : name.section ≡ section_of s
  pub text_is : text_at strings s.name_offset ≡ Ok name.text
  pub is_section : IsSection p.size (section_of s)
  pub named : AreNamed order p.size strings p.bytes (Ok (front ++ name ∷ after))

all_at : {A : Type 0} (P : A → Type 0) (xs ys : List A) (x : A) → AllByRecursion P (xs ++ x ∷ ys) → P x
all_at P [] ys x h = h.0
all_at P (z ∷ zs) ys x h = all_at P zs ys x h.1

pub turn_of : (order : Endianness) (width : ℕ) (strings : List ℕ) (p : Part) (all left : List SecInfo) (s : SecInfo) (taken : BTreeSet ℕ) (found : List ℕ → Option Records) → (h : TakenSoFar order width strings p all taken found) → all ≡ left ++ s ∷ [] → IsTurn order strings p s left (h.after)
turn_of order width strings p all left s taken found h is = made (ends_in (λ (n : Named). n.section) h.before (map section_of left) (section_of s) (h.left ∙ ap (map section_of) is ∙ map-append section_of left (s ∷ [])))
  where
    made : EndsIn (λ (n : Named). n.section) h.before (map section_of left) (section_of s) → IsTurn order strings p s left (h.after)
    made e =
        let whole : h.before ++ h.after ≡ e.front ++ e.last ∷ h.after = ap (λ (ns : List Named). ns ++ h.after) e.is ∙ append_assoc e.front (e.last ∷ []) h.after in
        let named : AreNamed order p.size strings p.bytes (Ok (e.front ++ e.last ∷ h.after)) = subst (λ (ns : List Named). AreNamed order p.size strings p.bytes (Ok ns)) whole h.named in
        record {
          front = e.front;
          name = e.last;
          front_is = e.front_is;
          section_is = e.last_is;
          text_is = ap (λ (x : Section). text_at strings x.name) (sym e.last_is) ∙ all_at (λ (n : Named). text_at strings n.section.name ≡ Ok n.text) e.front h.after e.last named.1;
          is_section = subst (IsSection p.size) e.last_is (all_at (IsSection p.size) (sections_of e.front) (sections_of h.after) e.last.section (subst (AllByRecursion (IsSection p.size)) (map-append (λ (n : Named). n.section) e.front (e.last ∷ h.after)) named.0.0));
          named = named;
        }

-- the offsets that were met after one more section
still_taken : (strings : List ℕ) (n : Named) (after : List Named) (taken now : BTreeSet ℕ) (offset : ℕ) → ordered.Updates nat_cmp taken now offset true → text_at strings offset ≡ Ok n.text → ((q : ℕ) → contains nat_cmp taken q ≡ true → (text : List ℕ) × (text_at strings q ≡ Ok text) × IsSome (section_named after text))
    → (q : ℕ) → contains nat_cmp now q ≡ true → (text : List ℕ) × (text_at strings q ≡ Ok text) × IsSome (section_named (n ∷ after) text)
still_taken strings n after taken now offset updates text h q at =
    elim (gained taken now offset q updates at) [
      | inl same ↦ (n.text, ap (text_at strings) (sym same) ∙ text, subst (λ o. IsSome o) (sym (section_named-cons n after n.text)) (subst (λ (b : Bool). IsSome (option_or (section_named after n.text) (cond b (Some n.section) None))) (sym ((bytes_eq-Decides n.text n.text).1 refl)) (IsSome-option_or_some (section_named after n.text) n.section)))
      | inr was ↦ let w = h q was in (w.0, w.1, subst (λ o. IsSome o) (sym (section_named-cons n after w.0)) (IsSome-option_or (section_named after w.0) (cond (bytes_eq w.0 n.text) (Some n.section) None) w.2))
    ]

-- one more section, at an offset that was not met before
pub one_added : (order : Endianness) (width : ℕ) (strings : List ℕ) (p : Part) (all left : List SecInfo) (s : SecInfo) (taken now : BTreeSet ℕ) (old new : List ℕ → Option Records) → TakenSoFar order width strings p all taken old → all ≡ left ++ s ∷ [] → ordered.Updates nat_cmp taken now s.name_offset true
    → ((text : List ℕ) → text_at strings s.name_offset ≡ Ok text → GainsUnder text (instruction_records order p.size width (section_of s)) old new) → TakenSoFar order width strings p left now new
one_added order width strings p all left s taken now old new h is updates gains =
    let t = turn_of order width strings p all left s taken old h is in
    record {
      before = t.front;
      after = t.name ∷ h.after;
      named = t.named;
      left = t.front_is;
      taken = still_taken strings t.name h.after taken now s.name_offset updates t.text_is h.taken;
      found = gains_section order width p t.name h.after old new h.found (subst (λ (x : Section). GainsUnder t.name.text (instruction_records order p.size width x) old new) (sym t.section_is) (gains t.name.text t.text_is));
    }

-- one more section, at an offset that was met
pub one_passed : (order : Endianness) (width : ℕ) (strings : List ℕ) (p : Part) (all left : List SecInfo) (s : SecInfo) (taken now : BTreeSet ℕ) (found : List ℕ → Option Records) → TakenSoFar order width strings p all taken found → all ≡ left ++ s ∷ [] → ordered.Updates nat_cmp taken now s.name_offset true → contains nat_cmp taken s.name_offset ≡ true → TakenSoFar order width strings p left now found
one_passed order width strings p all left s taken now found h is updates was =
    let t = turn_of order width strings p all left s taken found h is in
    let w = h.taken s.name_offset was in
    let same : Ok w.0 ≡ Ok t.name.text = sym w.1 ∙ t.text_is in
    let text : w.0 ≡ t.name.text = cc in
    let later : IsSome (section_named h.after t.name.text) = subst (λ (x : List ℕ). IsSome (section_named h.after x)) text w.2 in
    record {
      before = t.front;
      after = t.name ∷ h.after;
      named = t.named;
      left = t.front_is;
      taken = still_taken strings t.name h.after taken now s.name_offset updates t.text_is h.taken;
      found = λ q. h.found q ∙ ap (option_map (instruction_records order p.size width)) (sym (named_later t.name h.after q later));
    }

-- the name of a section can be read, so only an allocation can fail
pub not_refused : (order : Endianness) (width : ℕ) (strings : List ℕ) (p : Part) (all left : List SecInfo) (s : SecInfo) (taken : BTreeSet ℕ) (found : List ℕ → Option Records) (e : BtfError) (P : Refusal → Type 0) → TakenSoFar order width strings p all taken found → all ≡ left ++ s ∷ [] → IfSome (refusal_of e) (λ f. text_at strings s.name_offset ≡ Err f) → IfSome (refusal_of e) P
not_refused order width strings p all left s taken found e P h is refused =
    let t = turn_of order width strings p all left s taken found h is in
    IfSome_then (refusal_of e) refused (λ f at. absurd (apart (text_at strings s.name_offset) t.name.text f t.text_is at))
  where
    apart : (r : Result (List ℕ) Refusal) (text : List ℕ) (f : Refusal) → r ≡ Ok text → r ≡ Err f → ⊥
    apart r text f p q = cc

-- all are taken
pub all_taken : (order : Endianness) (width : ℕ) (strings : List ℕ) (p : Part) (left : List SecInfo) (taken : BTreeSet ℕ) (found : List ℕ → Option Records) → TakenSoFar order width strings p left taken found → length left ≡ 0 → AreByName order width strings p (Ok found)
all_taken order width strings p left taken found h done = (h.after, subst (λ (ns : List Named). AreNamed order p.size strings p.bytes (Ok ns)) (ap (λ (ns : List Named). ns ++ h.after) (none h.before (h.left ∙ ap (map section_of) (no_item left done)))) h.named, h.found)
  where
    no_item : (xs : List SecInfo) → length xs ≡ 0 → xs ≡ []
    no_item [] e = refl
    no_item (x ∷ xs) e = absurd (omega (arith, e))

    none : (ns : List Named) → sections_of ns ≡ [] → ns ≡ []
    none [] e = refl
    none (n ∷ ns) e = cc

pub each_section : (size : ℕ) (items : List SecInfo) (i : ℕ) (d : SecInfo) → AllByRecursion (IsSection size) (map section_of items) → i < length items → IsSection size (section_of (get_or items i d))
each_section size [] i d h lt = absurd (omega arith)
each_section size (x ∷ xs) zero d h lt = h.0
each_section size (x ∷ xs) (suc i) d h lt = each_section size xs i d h.1 (omega (arith, lt))
