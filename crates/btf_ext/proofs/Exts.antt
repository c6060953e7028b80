-- The parts that are read one after another are the contents of `.BTF.ext`, and their first error is its error.
use Rattle.std.proofs.Common.{◌≡◌, ℕ, zero, suc, ◌+◌, ◌-◌, ◌<◌, ◌≤◌, Bool, true, false, List, [], ◌∷◌, length, Ok, Err, refl, ap, arith, inl, inr}
use Rattle.std.specs.Prelude.{map, ◌==◌, if◌then◌else◌}
use Rattle.std.specs.List.{AllByRecursion}
use Rattle.std.proofs.lemmas.Bool.{true≢false}
use Rattle.btf_model.specs.declared.endianness.Endianness.{Endianness}
use Rattle.btf_model.specs.Refusal.{Refusal}
use Rattle.btf_model.specs.Blob.{slice, word_at}
use Rattle.btf_model.specs.Ext.{HeaderOfExt, Range, Part, Section, Named, Ext, HasHeader, HasPart, IsSection, AreNamed, AreSections, IsExt, ext_of, records_named, relocation_section}
use Rattle.btf_ext.specs.SecInfo.{section_of}
use Rattle.btf_ext.specs.declared.sections.SecInfo.{SecInfo}

-- the parts that the header names
pub record HasParts (order : Endianness) (bytes : List ℕ) (h : HeaderOfExt) (func line core : Part) : Type 0 where
  pub header : HasHeader order bytes (Ok h)
  pub func_part : HasPart order bytes h.func (Ok func)
  pub line_part : HasPart order bytes h.line (Ok line)
  pub core_part : HasPart order bytes h.core (Ok core)

pub line_refused : (order : Endianness) (bytes strings : List ℕ) (h : HeaderOfExt) (func : Part) (f : Refusal) → HasHeader order bytes (Ok h) → HasPart order bytes h.func (Ok func) → HasPart order bytes h.line (Err f) → IsExt order bytes strings (Err f)
line_refused order bytes strings h func f header a b = inr (h, header, inr (func, a, inl b))

pub core_refused : (order : Endianness) (bytes strings : List ℕ) (h : HeaderOfExt) (func line : Part) (f : Refusal) → HasHeader order bytes (Ok h) → HasPart order bytes h.func (Ok func) → HasPart order bytes h.line (Ok line) → HasPart order bytes h.core (Err f) → IsExt order bytes strings (Err f)
core_refused order bytes strings h func line f header a b c = inr (h, header, inr (func, a, inr (line, b, inl c)))

pub funcs_refused : (order : Endianness) (bytes strings : List ℕ) (h : HeaderOfExt) (func line core : Part) (f : Refusal) → HasParts order bytes h func line core → AreNamed order func.size strings func.bytes (Err f) → IsExt order bytes strings (Err f)
funcs_refused order bytes strings h func line core f p e = inr (h, p.header, inr (func, p.func_part, inr (line, p.line_part, inr (core, p.core_part, inl e))))

pub lines_refused : (order : Endianness) (bytes strings : List ℕ) (h : HeaderOfExt) (func line core : Part) (funcs : List Named) (f : Refusal) → HasParts order bytes h func line core → AreNamed order func.size strings func.bytes (Ok funcs) → AreNamed order line.size strings line.bytes (Err f) → IsExt order bytes strings (Err f)
lines_refused order bytes strings h func line core funcs f p a e = inr (h, p.header, inr (func, p.func_part, inr (line, p.line_part, inr (core, p.core_part, inr (funcs, a, inl e)))))

pub relocations_refused : (order : Endianness) (bytes strings : List ℕ) (h : HeaderOfExt) (func line core : Part) (funcs lines : List Named) (f : Refusal) → HasParts order bytes h func line core → AreNamed order func.size strings func.bytes (Ok funcs) → AreNamed order line.size strings line.bytes (Ok lines) → AreSections order core.size core.bytes (Err f)
    → IsExt order bytes strings (Err f)
relocations_refused order bytes strings h func line core funcs lines f p a b e = inr (h, p.header, inr (func, p.func_part, inr (line, p.line_part, inr (core, p.core_part, inr (funcs, a, inr (lines, b, inl e))))))

same_ext : (a b : Ext) → a.func_size ≡ b.func_size → ((name : List ℕ) → a.func name ≡ b.func name) → a.line_size ≡ b.line_size → ((name : List ℕ) → a.line name ≡ b.line name) → a.relocations ≡ b.relocations → a ≡ b
same_ext a b p q r s t = λ i. record { func_size = p i; func = λ name. q name i; line_size = r i; line = λ name. s name i; relocations = t i }

pub whole_ext : (order : Endianness) (bytes strings : List ℕ) (h : HeaderOfExt) (func line core : Part) (funcs lines : List Named) (relocations : List Section) (e : Ext) → HasParts order bytes h func line core → AreNamed order func.size strings func.bytes (Ok funcs) → AreNamed order line.size strings line.bytes (Ok lines) → AreSections order core.size core.bytes (Ok relocations)
    → e.func_size ≡ func.size → ((name : List ℕ) → e.func name ≡ records_named order 2 func funcs name) → e.line_size ≡ line.size → ((name : List ℕ) → e.line name ≡ records_named order 4 line lines name) → e.relocations ≡ map (relocation_section order core.size) relocations → IsExt order bytes strings (Ok e)
whole_ext order bytes strings h func line core funcs lines relocations e p a b c q r s t u =
    (h, p.header, (func, p.func_part, (line, p.line_part, (core, p.core_part, (funcs, a, (lines, b, (relocations, c, ap (λ (x : Ext). Ok x) (same_ext e (ext_of order func funcs line lines core relocations) q r s t u))))))))

-- if there are sections, records have at least one byte
pub some_sections : (size : ℕ) (items : List SecInfo) → AllByRecursion (IsSection size) (map section_of items) → 0 < length items → 0 < size
some_sections size [] h lt = absurd (omega (arith, lt))
some_sections size (x ∷ xs) h lt = h.0.some_byte

-- then records have at least the least size
not_empty : (n : ℕ) → (n == 0) ≡ false → 0 < n
not_empty zero e = absurd (true≢false e)
not_empty (suc n) e = omega arith

wide_if : (least len word : ℕ) (some : ℕ) (b : Bool) (empty full : Part) → (len == 0) ≡ b → empty.size ≡ 0 → full.size ≡ word → (0 < len → least ≤ word) → some ≡ (if b then empty else full).size → 0 < some → least ≤ some
wide_if least len word some true empty full e none is large at lt = absurd (omega (arith, at, none, lt))
wide_if least len word some false empty full e none is large at lt = omega (arith, at, is, large (not_empty len e))

pub wide_part : (order : Endianness) (bytes : List ℕ) (r : Range) (p : Part) → HasPart order bytes r (Ok p) → 0 < p.size → r.least ≤ p.size
wide_part order bytes r p h some =
    wide_if r.least r.len (word_at order r.start bytes) p.size (r.len == 0) (record { size = 0; bytes = [] }) (record { size = word_at order r.start bytes; bytes = slice (r.start + 4) (r.len - 4) bytes }) refl refl refl h.0.large_enough (ap (λ (x : Part). x.size) h.1) some
