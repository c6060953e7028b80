-- The bytes of `.BTF.ext` have one contents, or are refused for one reason.
use Rattle.std.proofs.Common.{◌≡◌, ◌≢◌, ◌⊎◌, ℕ, ◌<◌, ◌≤◌, List, [], ◌∷◌, ◌++◌, length, Option, Some, None, Ok, Err, refl, sym, ap, subst, ◌∙◌, append_assoc, arith, inl, inr}
use Rattle.std.specs.Prelude.{Result}
use Rattle.std.specs.List.{flat_map, AllByRecursion}
use Rattle.std.proofs.lemmas.List.{length-append, append-nil}
use Rattle.std.proofs.lemmas.List.Concat.{flat_map-append}
use Rattle.btf_model.specs.declared.endianness.Endianness.{Endianness}
use Rattle.btf_model.specs.Blob.{word_at}
use Rattle.btf_model.specs.Ext.{Section, Named, HeaderOfExt, Part, Range, IsSection, ext_section_bytes, BeginsWith, BeginsNoSection, Sections, sections_of, HaveNames, AreNamed, AreSections, HasHeader, HasPart, IsExt, Then, cut_refusal, ext_of}
use Rattle.btf_model.specs.Refusal.{Refusal}
use Rattle.btf_model.specs.Text.{text_at}
use Rattle.btf_model.proofs.Comparisons.{same_ok, same_err}
use Rattle.btf_model.proofs.Sections.{same_section, length-section_bytes, begins_push, same_sections}

-- at most one result meets a relation
abbrev pub IsOne : {A : Type 0} → (Result A Refusal → Type 0) → Type 0
IsOne {A} P = (x y : Result A Refusal) → P x → P y → x ≡ y

then_one : {A B : Type 0} (first : Result A Refusal → Type 0) (second : A → Result B Refusal → Type 0) → IsOne first → ((a : A) → IsOne (second a)) → IsOne (Then first second)
then_one {A} first second one next (Ok x) (Ok y) p q =
    next q.0 (Ok x) (Ok y) (subst (λ (a : A). second a (Ok x)) (same_ok p.0 q.0 (one (Ok p.0) (Ok q.0) p.1 q.1)) p.2) q.2
then_one {A} {B} first second one next (Ok x) (Err f) p (inl q) = absurd (differ p.0 f (one (Ok p.0) (Err f) p.1 q))
  where
    differ : (a : A) (e : Refusal) → ◌≡◌ {A = Result A Refusal} (Ok a) (Err e) → ⊥
    differ a e is = cc
then_one {A} first second one next (Ok x) (Err f) p (inr q) =
    next q.0 (Ok x) (Err f) (subst (λ (a : A). second a (Ok x)) (same_ok p.0 q.0 (one (Ok p.0) (Ok q.0) p.1 q.1)) p.2) q.2
then_one {A} first second one next (Err e) (Ok y) (inl p) q = absurd (differ q.0 e (one (Err e) (Ok q.0) p q.1))
  where
    differ : (a : A) (f : Refusal) → ◌≡◌ {A = Result A Refusal} (Err f) (Ok a) → ⊥
    differ a f is = cc
then_one {A} first second one next (Err e) (Ok y) (inr p) q =
    next q.0 (Err e) (Ok y) (subst (λ (a : A). second a (Err e)) (same_ok p.0 q.0 (one (Ok p.0) (Ok q.0) p.1 q.1)) p.2) q.2
then_one {A} {B} first second one next (Err e) (Err f) (inl p) (inl q) = as_error (same_err {A = A} e f (one (Err e) (Err f) p q))
  where
    as_error : e ≡ f → ◌≡◌ {A = Result B Refusal} (Err e) (Err f)
    as_error is = ap (λ (x : Refusal). Err x) is
then_one {A} first second one next (Err e) (Err f) (inl p) (inr q) = absurd (differ q.0 e (one (Err e) (Ok q.0) p q.1))
  where
    differ : (a : A) (f : Refusal) → ◌≡◌ {A = Result A Refusal} (Err f) (Ok a) → ⊥
    differ a f is = cc
then_one {A} first second one next (Err e) (Err f) (inr p) (inl q) = absurd (differ p.0 f (one (Ok p.0) (Err f) p.1 q))
  where
    differ : (a : A) (f : Refusal) → ◌≡◌ {A = Result A Refusal} (Ok a) (Err f) → ⊥
    differ a f is = cc
then_one {A} first second one next (Err e) (Err f) (inr p) (inr q) =
    next q.0 (Err e) (Err f) (subst (λ (a : A). second a (Err e)) (same_ok p.0 q.0 (one (Ok p.0) (Ok q.0) p.1 q.1)) p.2) q.2

-- ---- the header and the ranges

one_header : (order : Endianness) (bytes : List ℕ) → IsOne (HasHeader order bytes)
one_header order bytes (Ok h) (Ok g) p q = ap (λ (x : HeaderOfExt). Ok x) (p.2 ∙ sym q.2)
one_header order bytes (Ok h) (Err f) p q = absurd (header_fits (length bytes) (word_at order 4 bytes) p.0 p.1 q.0)
  where
    header_fits : (len word : ℕ) → 8 ≤ len → word ≤ len → (len < 8) ⊎ (len < word) → ⊥
    header_fits len word a b (inl c) = omega (arith, a, c)
    header_fits len word a b (inr c) = omega (arith, b, c)
one_header order bytes (Err e) (Ok g) p q = absurd (header_fits (length bytes) (word_at order 4 bytes) q.0 q.1 p.0)
  where
    header_fits : (len word : ℕ) → 8 ≤ len → word ≤ len → (len < 8) ⊎ (len < word) → ⊥
    header_fits len word a b (inl c) = omega (arith, a, c)
    header_fits len word a b (inr c) = omega (arith, b, c)
one_header order bytes (Err e) (Err f) p q = ap (λ (x : Refusal). Err x) (p.1 ∙ sym q.1)

one_part : (order : Endianness) (bytes : List ℕ) (r : Range) → IsOne (HasPart order bytes r)
one_part order bytes r (Ok h) (Ok g) p q = ap (λ (x : Part). Ok x) (p.1 ∙ sym q.1)
one_part order bytes r (Ok h) (Err f) p q = absurd (q.0 p.0)
one_part order bytes r (Err e) (Ok g) p q = absurd (p.0 q.0)
one_part order bytes r (Err e) (Err f) p q = ap (λ (x : Refusal). Err x) (p.1 ∙ sym q.1)

-- ---- sections

-- no section begins after the longest list of sections
none_after : (order : Endianness) (size : ℕ) (bytes : List ℕ) (ss : List Section) (rest : List ℕ) → Sections order size bytes ss rest → BeginsNoSection order size rest
none_after order size bytes ss rest all s more is begins =
    let shorter : length rest ≤ length more = all.longest (ss ++ s ∷ []) more (begins_push order size bytes ss s rest more all.cut is begins) in
    omega (arith, shorter, ap length begins, length-append (ext_section_bytes order s) more, length-section_bytes order s)

-- no section begins where there are no bytes
not_empty : (order : Endianness) (s : Section) (more : List ℕ) → [] ≡ ext_section_bytes order s ++ more → ⊥
not_empty order s more is = omega (arith, ap length is, length-append (ext_section_bytes order s) more, length-section_bytes order s)

-- the last section of a list
begins_split : (order : Endianness) (size : ℕ) (bytes : List ℕ) (ss : List Section) (s : Section) (more : List ℕ) → BeginsWith order size bytes (ss ++ s ∷ []) more
    → BeginsWith order size bytes ss (ext_section_bytes order s ++ more) × IsSection size s
begins_split order size bytes ss s more begins =
    let parts = split ss begins.0 in (
      (
        parts.0,
        begins.1 ∙ ap (λ (x : List ℕ). x ++ more) (flat_map-append (ext_section_bytes order) ss (s ∷ []) ∙ ap (λ (x : List ℕ). flat_map (ext_section_bytes order) ss ++ x) (append-nil (ext_section_bytes order s)))
            ∙ append_assoc (flat_map (ext_section_bytes order) ss) (ext_section_bytes order s) more,
      ),
      parts.1,
    )
  where
    split : (xs : List Section) → AllByRecursion (IsSection size) (xs ++ s ∷ []) → AllByRecursion (IsSection size) xs × IsSection size s
    split [] all = (tt, all.0)
    split (x ∷ xs) all = let rest = split xs all.1 in ((all.0, rest.0), rest.1)

module _ (order : Endianness) (size : ℕ) (strings : List ℕ) where
  -- Why reading the sections one after another stops: there are no bytes left; or the name of the next section cannot be
  -- read; or no section begins there.
  abbrev pub Stops : List ℕ → Option Refusal → Type 0
  Stops rest None = rest ≡ []
  Stops rest (Some f) =
      ((s : Section) × (more : List ℕ) × IsSection size s × (rest ≡ ext_section_bytes order s ++ more) × (text_at strings s.name ≡ Err f))
      ⊎ (BeginsNoSection order size rest × (rest ≢ []) × (f ≡ cut_refusal order size rest))

  -- reading does not stop at a section with a name
  goes_on : (rest : List ℕ) (s : Section) (more text : List ℕ) (x : Option Refusal) → rest ≡ ext_section_bytes order s ++ more → IsSection size s → text_at strings s.name ≡ Ok text → Stops rest x → ⊥
  goes_on rest s more text None is section name stops = not_empty order s more (sym stops ∙ is)
  goes_on rest s more text (Some f) is section name (inl p) =
      let same = same_section order size s p.0 more p.1 section p.2 (sym is ∙ p.3) in
      differ text f (sym name ∙ ap (λ (t : Section). text_at strings t.name) same.section_is ∙ p.4)
    where
      differ : (a : List ℕ) (e : Refusal) → ◌≡◌ {A = Result (List ℕ) Refusal} (Ok a) (Err e) → ⊥
      differ a e is = cc
  goes_on rest s more text (Some f) is section name (inr p) = p.0 s more section is

  one_stop : (rest more : List ℕ) (x y : Option Refusal) → rest ≡ more → Stops rest x → Stops more y → x ≡ y
  one_stop rest more None None is p q = refl
  one_stop rest more None (Some f) is p (inl q) = absurd (not_empty order q.0 q.1 (sym p ∙ is ∙ q.3))
  one_stop rest more None (Some f) is p (inr q) = absurd (q.1 (sym is ∙ p))
  one_stop rest more (Some e) None is (inl p) q = absurd (not_empty order p.0 p.1 (sym q ∙ sym is ∙ p.3))
  one_stop rest more (Some e) None is (inr p) q = absurd (p.1 (is ∙ q))
  one_stop rest more (Some e) (Some f) is (inl p) (inl q) =
      let same = same_section order size p.0 q.0 p.1 q.1 p.2 q.2 (sym p.3 ∙ is ∙ q.3) in
      ap (λ (g : Refusal). Some g) (same_err {A = List ℕ} e f (sym p.4 ∙ ap (λ (t : Section). text_at strings t.name) same.section_is ∙ q.4))
  one_stop rest more (Some e) (Some f) is (inl p) (inr q) = absurd (q.0 p.0 p.1 p.2 (sym is ∙ p.3))
  one_stop rest more (Some e) (Some f) is (inr p) (inl q) = absurd (p.0 q.0 q.1 q.2 (is ∙ q.3))
  one_stop rest more (Some e) (Some f) is (inr p) (inr q) = ap (λ (g : Refusal). Some g) (p.2 ∙ ap (cut_refusal order size) is ∙ sym q.2)

  -- named sections, and why reading stops after them
  pub record Reads (bytes : List ℕ) (named : List Named) (rest : List ℕ) (why : Option Refusal) : Type 0 where
    pub have : HaveNames strings named
    pub are : AllByRecursion (IsSection size) (sections_of named)
    pub cut : bytes ≡ flat_map (ext_section_bytes order) (sections_of named) ++ rest
    pub stops : Stops rest why

  one_reading : (bytes other : List ℕ) (a b : List Named) (rest more : List ℕ) (x y : Option Refusal) → bytes ≡ other → Reads bytes a rest x → Reads other b more y → (a ≡ b) × (x ≡ y)
  one_reading bytes other [] [] rest more x y is p q = (refl, one_stop rest more x y (sym p.cut ∙ is ∙ q.cut) p.stops q.stops)
  one_reading bytes other [] (m ∷ b) rest more x y is p q =
      absurd (goes_on rest m.section (flat_map (ext_section_bytes order) (sections_of b) ++ more) m.text x
      (sym p.cut ∙ is ∙ q.cut ∙ append_assoc (ext_section_bytes order m.section) (flat_map (ext_section_bytes order) (sections_of b)) more) q.are.0 q.have.0 p.stops)
  one_reading bytes other (n ∷ a) [] rest more x y is p q =
      absurd (goes_on more n.section (flat_map (ext_section_bytes order) (sections_of a) ++ rest) n.text y
      (sym q.cut ∙ sym is ∙ p.cut ∙ append_assoc (ext_section_bytes order n.section) (flat_map (ext_section_bytes order) (sections_of a)) rest) p.are.0 p.have.0 q.stops)
  one_reading bytes other (n ∷ a) (m ∷ b) rest more x y is p q =
      let left : List ℕ = flat_map (ext_section_bytes order) (sections_of a) ++ rest in
      let right : List ℕ = flat_map (ext_section_bytes order) (sections_of b) ++ more in
      let same = same_section order size n.section m.section left right p.are.0 q.are.0
      (sym (append_assoc (ext_section_bytes order n.section) (flat_map (ext_section_bytes order) (sections_of a)) rest) ∙ sym p.cut ∙ is ∙ q.cut ∙ append_assoc (ext_section_bytes order m.section) (flat_map (ext_section_bytes order) (sections_of b)) more) in
      let text : n.text ≡ m.text = same_ok n.text m.text (sym p.have.0 ∙ ap (λ (t : Section). text_at strings t.name) same.section_is ∙ q.have.0) in
      let others = one_reading left right a b rest more x y same.rest (record { have = p.have.1; are = p.are.1; cut = refl; stops = p.stops }) (record { have = q.have.1; are = q.are.1; cut = refl; stops = q.stops }) in
      (ap (λ (k : Named). k ∷ a) (same_named n m text same.section_is) ∙ ap (λ (ks : List Named). m ∷ ks) others.0, others.1)
    where
      same_named : (k l : Named) → k.text ≡ l.text → k.section ≡ l.section → k ≡ l
      same_named k l t s = λ i. record { text = t i; section = s i }

  -- what a reading returns
  result_of : List Named → Option Refusal → Result (List Named) Refusal
  result_of named None = Ok named
  result_of named (Some f) = Err f

  as_read : (bytes : List ℕ) (x : Result (List Named) Refusal) → AreNamed order size strings bytes x → (named : List Named) × (rest : List ℕ) × (why : Option Refusal) × Reads bytes named rest why × (x ≡ result_of named why)
  unfolding result_of
  as_read bytes (Ok named) p = (named, [], None, record { have = p.1; are = p.0.0; cut = p.0.1; stops = refl }, refl)
  as_read bytes (Err f) p = elim p.2 [
    | inl q ↦
        let last = begins_split order size bytes (sections_of p.0) q.0 q.1 q.2 in
        (p.0, ext_section_bytes order q.0 ++ q.1, Some f, record { have = p.1; are = last.0.0; cut = last.0.1; stops = inl (q.0, q.1, last.1, refl, q.3) }, refl)
    | inr q ↦
        (p.0, q.0, Some f, record { have = p.1; are = q.1.cut.0; cut = q.1.cut.1; stops = inr (none_after order size bytes (sections_of p.0) q.0 q.1, q.2, q.3) }, refl)
  ]

  one_named : (bytes : List ℕ) → IsOne (AreNamed order size strings bytes)
  one_named bytes x y p q =
      let a = as_read bytes x p in
      let b = as_read bytes y q in
      let same = one_reading bytes bytes a.0 b.0 a.1 b.1 a.2 b.2 refl a.3 b.3 in
      a.4 ∙ ap (λ (named : List Named). result_of named a.2) same.0 ∙ ap (result_of b.0) same.1 ∙ sym b.4

-- the relocation sections are read without their names
as_cut : (order : Endianness) (size : ℕ) (bytes : List ℕ) (ss : List Section) → BeginsWith order size bytes ss [] → Sections order size bytes ss []
as_cut order size bytes ss begins = record { cut = begins; longest = λ others more _. omega arith }

one_cut : (order : Endianness) (size : ℕ) (bytes : List ℕ) → IsOne (AreSections order size bytes)
one_cut order size bytes (Ok a) (Ok b) p q = ap (λ (x : List Section). Ok x) (same_sections order size bytes a b [] [] (as_cut order size bytes a p) (as_cut order size bytes b q)).0
one_cut order size bytes (Ok a) (Err f) p q = absurd (q.3 (sym (same_sections order size bytes a q.0 [] q.1 (as_cut order size bytes a p) q.2).1))
one_cut order size bytes (Err e) (Ok b) p q = absurd (p.3 (same_sections order size bytes p.0 b p.1 [] p.2 (as_cut order size bytes b q)).1)
one_cut order size bytes (Err e) (Err f) p q =
    ap (λ (x : Refusal). Err x) (p.4 ∙ ap (cut_refusal order size) (same_sections order size bytes p.0 q.0 p.1 q.1 p.2 q.2).1 ∙ sym q.4)

-- ---- the whole

-- The bytes have one contents, or are refused for one reason.
pub one_ext : (order : Endianness) (bytes strings : List ℕ) → IsOne (IsExt order bytes strings)
one_ext order bytes strings =
    then_one _ _ (one_header order bytes) (λ h.
    then_one _ _ (one_part order bytes h.func) (λ func.
    then_one _ _ (one_part order bytes h.line) (λ line.
    then_one _ _ (one_part order bytes h.core) (λ core.
    then_one _ _ (one_named order func.size strings func.bytes) (λ funcs.
    then_one _ _ (one_named order line.size strings line.bytes) (λ lines.
    then_one _ (λ relocations answer. answer ≡ Ok (ext_of order func funcs line lines core relocations)) (one_cut order core.size core.bytes) (λ relocations x y p q. p ∙ sym q)))))))
