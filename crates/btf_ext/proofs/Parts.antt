-- Reading the sections of a part one by one.
use Rattle.std.proofs.Common.{◌≡◌, ◌≢◌, ℕ, List, [], ◌∷◌, ◌++◌, Some, Ok, Err, refl, sym, ap, subst, ◌∙◌, inl, inr}
use Rattle.std.specs.Prelude.{IfSome}
use Rattle.std.proofs.lemmas.Option.{IfSome_then}
use Rattle.btf_model.specs.declared.endianness.Endianness.{Endianness}
use Rattle.btf_model.specs.Text.{text_at}
use Rattle.btf_model.specs.Ext.{Section, SectionBytes, Named, Sections, BeginsWith, BeginsNoSection, IsSection, HaveNames, AreNamed, AreSections, sections_of, ext_section_bytes, cut_refusal}
use Rattle.btf_model.proofs.Sections.{begins_push, sections_from_none}
use Rattle.btf_plain.specs.declared.error.BtfError.{BtfError}
use Rattle.btf_plain.specs.Error.{refusal_of}
use Rattle.btf_ext.specs.SecInfo.{section_of, GivesSection}
use Rattle.btf_ext.specs.declared.sections.SecInfo.{SecInfo}
use Rattle.btf_plain.proofs.Refused.{known_refusal}

-- the bytes up to the rest are these sections
pub record CutSoFar (order : Endianness) (size : ℕ) (bytes : List ℕ) (sections : List Section) (rest : SectionBytes) : Type 0 where
  pub order_is : rest.order ≡ order
  pub size_is : rest.size ≡ size
  pub begins : BeginsWith order size bytes sections rest.bytes

-- one more section
pub cut_one : (order : Endianness) (size : ℕ) (bytes : List ℕ) (sections : List Section) (rest next : SectionBytes) (s : SecInfo) → CutSoFar order size bytes sections rest → GivesSection rest (Some (Ok s)) next → CutSoFar order size bytes (sections ++ section_of s ∷ []) next
cut_one order size bytes sections rest next s h g =
    let o : next.order ≡ order = sym (ap (λ (r : SectionBytes). r.order) g.1) ∙ h.order_is in
    let n : next.size ≡ size = sym (ap (λ (r : SectionBytes). r.size) g.1) ∙ h.size_is in
    let b : rest.bytes ≡ ext_section_bytes order (section_of s) ++ next.bytes = ap (λ (r : SectionBytes). r.bytes) g.1 ∙ ap (λ (x : Endianness). ext_section_bytes x (section_of s) ++ next.bytes) h.order_is in
    record {
      order_is = o;
      size_is = n;
      begins = begins_push order size bytes sections (section_of s) rest.bytes next.bytes h.begins (subst (λ (x : ℕ). IsSection x (section_of s)) h.size_is g.0) b;
    }

-- the rest begins with no section
pub cut_end : (order : Endianness) (size : ℕ) (bytes : List ℕ) (sections : List Section) (rest next : SectionBytes) (e : BtfError) → CutSoFar order size bytes sections rest → GivesSection rest (Some (Err e)) next
    → Sections order size bytes sections rest.bytes × (rest.bytes ≢ []) × (refusal_of e ≡ Some (cut_refusal order size rest.bytes))
cut_end order size bytes sections rest next e h g = (
  sections_from_none order size bytes sections rest.bytes h.begins (subst (λ (n : ℕ). BeginsNoSection order n rest.bytes) h.size_is (subst (λ (o : Endianness). BeginsNoSection o rest.size rest.bytes) h.order_is g.1)),
  g.0,
  g.2 ∙ ap (λ (o : Endianness). Some (cut_refusal o rest.size rest.bytes)) h.order_is ∙ ap (λ (n : ℕ). Some (cut_refusal order n rest.bytes)) h.size_is,
)

-- nothing is left
pub cut_all : (order : Endianness) (size : ℕ) (bytes : List ℕ) (sections : List Section) (rest : SectionBytes) → CutSoFar order size bytes sections rest → rest.bytes ≡ [] → BeginsWith order size bytes sections []
cut_all order size bytes sections rest h done = subst (BeginsWith order size bytes sections) done h.begins

-- the rest is an error, if names are not read
pub sections_refused : (order : Endianness) (size : ℕ) (bytes : List ℕ) (sections : List Section) (rest next : SectionBytes) (e : BtfError) → CutSoFar order size bytes sections rest → GivesSection rest (Some (Err e)) next → IfSome (refusal_of e) (λ f. AreSections order size bytes (Err f))
sections_refused order size bytes sections rest next e h g =
    let p = cut_end order size bytes sections rest next e h g in
    known_refusal e (cut_refusal order size rest.bytes) (λ f. AreSections order size bytes (Err f)) p.2 (sections, rest.bytes, p.0, p.1, refl)

-- the same if they are
pub named_refused : (order : Endianness) (size : ℕ) (strings bytes : List ℕ) (names : List Named) (rest next : SectionBytes) (e : BtfError) → CutSoFar order size bytes (sections_of names) rest → HaveNames strings names → GivesSection rest (Some (Err e)) next → IfSome (refusal_of e) (λ f. AreNamed order size strings bytes (Err f))
named_refused order size strings bytes names rest next e h have g =
    let p = cut_end order size bytes (sections_of names) rest next e h g in
    known_refusal e (cut_refusal order size rest.bytes) (λ f. AreNamed order size strings bytes (Err f)) p.2 (names, have, inr (rest.bytes, p.0, p.1, refl))

-- a name cannot be read
pub unnamed_refused : (order : Endianness) (size : ℕ) (strings bytes : List ℕ) (names : List Named) (rest next : SectionBytes) (s : SecInfo) (e : BtfError) → CutSoFar order size bytes (sections_of names) rest → HaveNames strings names → GivesSection rest (Some (Ok s)) next → IfSome (refusal_of e) (λ f. Err f ≡ text_at strings s.name_offset)
    → IfSome (refusal_of e) (λ f. AreNamed order size strings bytes (Err f))
unnamed_refused order size strings bytes names rest next s e h have g is =
    IfSome_then (refusal_of e) is (λ f at. (names, have, inl (section_of s, next.bytes, (cut_one order size bytes (sections_of names) rest next s h g).begins, sym at)))
