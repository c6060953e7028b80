-- Maps of names, name by name.
use Rattle.std.proofs.Common.{◌≡◌, ℕ, suc, ◌+◌, ◌<◌, Bool, true, false, List, [], ◌∷◌, ◌++◌, length, take, map, cond, get_or, Option, None, Some, refl, sym, ap, ◌∙◌, arith, inl, inr}
use Rattle.std.specs.Prelude.{if◌then◌else◌, option_map, slice_get}
use Rattle.std.specs.List.{filter, last_or, enumerate_from}
use Rattle.std.specs.Str.{bytes_eq}
use Rattle.std.proofs.Math.Path.{fun_ext}
use Rattle.std.proofs.Math.Seq.{take-suc}
use Rattle.std.proofs.lemmas.List.{append-nil, length-take-le}
use Rattle.std.proofs.lemmas.List.Elements.{filter-append}
use Rattle.std.proofs.lemmas.Slice.Eq.{bytes_eq-Decides}
use Rattle.std.proofs.lemmas.Option.{slice_get_within, slice_get-get_or, get_or_from_slice_get}
use Rattle.btf_elf_model.specs.Object.{Object, section_name, symbols, symbol_name}
use Rattle.btf_elf_model.specs.declared.section_header.SectionHeader.{SectionHeader}
use Rattle.btf_elf_model.specs.declared.symbol.Symbol.{Symbol}
use Rattle.btf_object.specs.Names.{IsReadSection, IsSectionLeftOut, IsNamedSymbol, IsUnnamed}
use Rattle.btf_object_model.specs.Layout.{is_askable, last_named}
use Rattle.btf_rewrite_model.specs.Pass.{Layout}
use Rattle.btf_plain.specs.declared.section_index.SectionIndex.{SectionIndex}

-- ---- the last of a name

last_push : {A : Type 0} (o : Option A) (xs : List A) (y : A) → last_or o (xs ++ y ∷ []) ≡ Some y
last_push o [] y = refl
last_push o (x ∷ xs) y = last_push (Some x) xs y

map_push : {A B : Type 0} (f : A → B) (xs : List A) (y : A) → map f (xs ++ y ∷ []) ≡ map f xs ++ f y ∷ []
map_push f [] y = refl
map_push f (x ∷ xs) y = ap (λ ys. f x ∷ ys) (map_push f xs y)

-- the last number of these that pass a test, with one more
last_more : {T : Type 0} (p : T → Bool) (number : T → ℕ) (xs : List T) (x : T) → last_or None (map number (filter p (xs ++ x ∷ []))) ≡ (if p x then Some (number x) else last_or None (map number (filter p xs)))
last_more p number xs x =
    ap (λ ys. last_or None (map number ys)) (filter-append p xs (x ∷ []))
    ∙ elim (p x) as (λ (b : Bool). last_or None (map number (filter p xs ++ cond b (x ∷ []) [])) ≡ (if b then Some (number x) else last_or None (map number (filter p xs)))) [
      | true ↦ ap (last_or None) (map_push number (filter p xs) x) ∙ last_push None (map number (filter p xs)) (number x)
      | false ↦ ap (λ ys. last_or None (map number ys)) (append-nil (filter p xs))
    ]

module _ {T : Type 0} (name_of : T → List ℕ) (number : T → ℕ) where
  -- one more item, and a rewrite may ask for its name
  pub named_push : (xs : List T) (x : T) (name : List ℕ) → is_askable (name_of x) ≡ true → last_named name_of number (xs ++ x ∷ []) name ≡ (if bytes_eq (name_of x) name then Some (number x) else last_named name_of number xs name)
  named_push xs x name askable =
      let rest : Option ℕ = last_or None (map number (filter (λ t. bytes_eq (name_of t) name) xs)) in
      ap (λ (o : Option ℕ). if is_askable name then o else None) (last_more (λ t. bytes_eq (name_of t) name) number xs x)
      ∙ elim (bytes_eq (name_of x) name) as (λ (b : Bool). bytes_eq (name_of x) name ≡ b → (if is_askable name then (if b then Some (number x) else rest) else None) ≡ (if b then Some (number x) else (if is_askable name then rest else None))) [
        | true ↦ λ same. ap (λ (b : Bool). if b then Some (number x) else None) (ap is_askable (sym ((bytes_eq-Decides (name_of x) name).0 same)) ∙ askable)
        | false ↦ λ other. refl
      ] refl

  -- one more item with another name
  pub named_pass : (xs : List T) (x : T) (name : List ℕ) → is_askable (name_of x) ≡ false → last_named name_of number (xs ++ x ∷ []) name ≡ last_named name_of number xs name
  named_pass xs x name left =
      let rest : Option ℕ = last_or None (map number (filter (λ t. bytes_eq (name_of t) name) xs)) in
      ap (λ (o : Option ℕ). if is_askable name then o else None) (last_more (λ t. bytes_eq (name_of t) name) number xs x)
      ∙ elim (bytes_eq (name_of x) name) as (λ (b : Bool). bytes_eq (name_of x) name ≡ b → (if is_askable name then (if b then Some (number x) else rest) else None) ≡ (if is_askable name then rest else None)) [
        | true ↦ λ same. let no : is_askable name ≡ false = ap is_askable (sym ((bytes_eq-Decides (name_of x) name).0 same)) ∙ left in ap (λ (b : Bool). if b then Some (number x) else None) no ∙ sym (ap (λ (b : Bool). if b then rest else None) no)
        | false ↦ λ other. refl
      ] refl

  pub none_named : (name : List ℕ) → last_named name_of number [] name ≡ None
  none_named name = elim (is_askable name) as (λ (b : Bool). (if b then (last_or {A = ℕ} None []) else None) ≡ None) [ true ↦ refl | false ↦ refl ]

-- the items up to one
pub take_next : {T : Type 0} (xs : List T) (i : ℕ) (d : T) → i < length xs → take (i + 1) xs ≡ take i xs ++ get_or xs i d ∷ []
take_next xs i d lt = let next : i + 1 ≡ suc i = omega arith in ap (λ (n : ℕ). take n xs) next ∙ take-suc xs i d lt

-- ---- what a map has after a name is inserted

pub section_kept : (b : Bool) (section : SectionIndex × ℕ) (old : Option (SectionIndex × ℕ)) (rest : Option ℕ) → option_map (λ (s : SectionIndex × ℕ). s.1) old ≡ rest
    → option_map (λ (s : SectionIndex × ℕ). s.1) (cond b (Some section) old) ≡ (if b then Some section.1 else rest)
section_kept true section old rest is = refl
section_kept false section old rest is = is

pub symbol_kept : (b : Bool) (offset : ℕ) (old rest : Option ℕ) → old ≡ rest → cond b (Some offset) old ≡ (if b then Some offset else rest)
symbol_kept true offset old rest is = refl
symbol_kept false offset old rest is = is

-- the maps represent a layout if they have the same value for each name
pub layouts_alike : (layout other : Layout) → ((name : List ℕ) → layout.sections name ≡ other.sections name) → ((name : List ℕ) → layout.symbols name ≡ other.symbols name) → layout ≡ other
layouts_alike layout other sizes offsets =
    ap (λ (f : List ℕ → Option ℕ). record { sections = f; symbols = layout.symbols }) (fun_ext sizes)
    ∙ ap (λ (f : List ℕ → Option ℕ). record { sections = other.sections; symbols = f }) (fun_ext offsets)

-- ---- sections

no_section : SectionHeader
no_section = record { name = 0; kind = 0; flags = 0; address = 0; offset = 0; size = 0; link = 0; info = 0; alignment = 0; entry_size = 0 }

section_next : (all : List SectionHeader) (i : ℕ) (s : SectionHeader) → slice_get all i ≡ Some s → take (i + 1) all ≡ take i all ++ s ∷ []
section_next all i s here = take_next all i s (slice_get_within all i s here) ∙ ap (λ (t : SectionHeader). take i all ++ t ∷ []) (get_or_from_slice_get all i s s here)

-- a section whose size is read
pub section_push : (o : Object) (i : ℕ) (text : List ℕ) (size : ℕ) (name : List ℕ) → IsReadSection o i text size
    → last_named (section_name o) (λ (t : SectionHeader). t.size) (take (i + 1) o.sections) name ≡ (if bytes_eq text name then Some size else last_named (section_name o) (λ (t : SectionHeader). t.size) (take i o.sections) name)
section_push o i text size name r =
    let before : List SectionHeader = take i o.sections in
    let number = λ (t : SectionHeader). t.size in
    ap (λ ts. last_named (section_name o) number ts name) (section_next o.sections i r.section r.here)
    ∙ named_push (section_name o) number before r.section name (ap is_askable (sym r.named) ∙ r.askable)
    ∙ ap (λ (t : List ℕ). if bytes_eq t name then Some r.section.size else last_named (section_name o) number before name) (sym r.named)
    ∙ ap (λ (n : ℕ). if bytes_eq text name then Some n else last_named (section_name o) number before name) (sym r.size_is)

-- a section that is left out
pub section_pass : (o : Object) (i : ℕ) (name : List ℕ) → i < length o.sections → IsSectionLeftOut o i
    → last_named (section_name o) (λ (t : SectionHeader). t.size) (take (i + 1) o.sections) name ≡ last_named (section_name o) (λ (t : SectionHeader). t.size) (take i o.sections) name
section_pass o i name lt out =
    let s : SectionHeader = get_or o.sections i no_section in
    let here : slice_get o.sections i ≡ Some s = slice_get-get_or o.sections i no_section lt in
    ap (λ ts. last_named (section_name o) (λ (t : SectionHeader). t.size) ts name) (section_next o.sections i s here) ∙ named_pass (section_name o) (λ (t : SectionHeader). t.size) (take i o.sections) s name (out s here)

-- ---- the indices of sections

enumerate-push : {A : Type 0} (n : ℕ) (xs : List A) (y : A) → enumerate_from n (xs ++ y ∷ []) ≡ enumerate_from n xs ++ (n + length xs, y) ∷ []
enumerate-push n [] y = let none : n ≡ n + 0 = omega arith in ap (λ (k : ℕ). (k, y) ∷ []) none
enumerate-push n (x ∷ xs) y =
    let more : (n + 1) + length xs ≡ n + suc (length xs) = omega arith in
    ap (λ ps. (n, x) ∷ ps) (enumerate-push (n + 1) xs y ∙ ap (λ (k : ℕ). enumerate_from (n + 1) xs ++ (k, y) ∷ []) more)

-- the sections below an index, with their indices
abbrev pub indexed : Object → ℕ → List (ℕ × SectionHeader)
indexed o i = enumerate_from 0 (take i o.sections)

indexed_next : (o : Object) (i : ℕ) (s : SectionHeader) → slice_get o.sections i ≡ Some s → indexed o (i + 1) ≡ indexed o i ++ (i, s) ∷ []
indexed_next o i s here =
    let lt : i < length o.sections = slice_get_within o.sections i s here in
    let at : 0 + length (take i o.sections) ≡ i = omega (arith, length-take-le i o.sections (omega (arith, lt))) in
    ap (enumerate_from 0) (section_next o.sections i s here) ∙ enumerate-push 0 (take i o.sections) s ∙ ap (λ (k : ℕ). indexed o i ++ (k, s) ∷ []) at

-- the index of the last of these sections that has a name
abbrev pub last_indexed : Object → List (ℕ × SectionHeader) → List ℕ → Option ℕ
last_indexed o ps name = last_named (λ (p : ℕ × SectionHeader). section_name o p.1) (λ (p : ℕ × SectionHeader). p.0) ps name

-- a section whose index is read
pub index_push : (o : Object) (i : ℕ) (text : List ℕ) (size : ℕ) (name : List ℕ) → IsReadSection o i text size
    → last_indexed o (indexed o (i + 1)) name ≡ (if bytes_eq text name then Some i else last_indexed o (indexed o i) name)
index_push o i text size name r =
    let p : ℕ × SectionHeader = (i, r.section) in
    ap (λ ps. last_indexed o ps name) (indexed_next o i r.section r.here)
    ∙ named_push (λ (q : ℕ × SectionHeader). section_name o q.1) (λ (q : ℕ × SectionHeader). q.0) (indexed o i) p name (ap is_askable (sym r.named) ∙ r.askable)
    ∙ ap (λ (t : List ℕ). if bytes_eq t name then Some i else last_indexed o (indexed o i) name) (sym r.named)

-- a section that is left out
pub index_pass : (o : Object) (i : ℕ) (name : List ℕ) → i < length o.sections → IsSectionLeftOut o i → last_indexed o (indexed o (i + 1)) name ≡ last_indexed o (indexed o i) name
index_pass o i name lt out =
    let s : SectionHeader = get_or o.sections i no_section in
    let here : slice_get o.sections i ≡ Some s = slice_get-get_or o.sections i no_section lt in
    let p : ℕ × SectionHeader = (i, s) in
    ap (λ ps. last_indexed o ps name) (indexed_next o i s here)
    ∙ named_pass (λ (q : ℕ × SectionHeader). section_name o q.1) (λ (q : ℕ × SectionHeader). q.0) (indexed o i) p name (out s here)

pub index_kept : (b : Bool) (section : SectionIndex × ℕ) (old : Option (SectionIndex × ℕ)) (rest : Option ℕ) → option_map (λ (s : SectionIndex × ℕ). s.0.0) old ≡ rest
    → option_map (λ (s : SectionIndex × ℕ). s.0.0) (cond b (Some section) old) ≡ (if b then Some section.0.0 else rest)
index_kept true section old rest is = refl
index_kept false section old rest is = is

-- ---- symbols

no_symbol : Symbol
no_symbol = record { name = 0; binding = 0; kind = 0; other = 0; section = 0; value = 0; size = 0 }

module _ (wants : Symbol → Bool) (number : Symbol → ℕ) where
  -- the symbols that are wanted, with one more
  wanted_next : (all : List Symbol) (i : ℕ) (s : Symbol) → slice_get all i ≡ Some s → filter wants (take (i + 1) all) ≡ filter wants (take i all) ++ cond (wants s) (s ∷ []) []
  wanted_next all i s here =
      let lt : i < length all = slice_get_within all i s here in
      ap (filter wants) (take_next all i s lt) ∙ filter-append wants (take i all) (get_or all i s ∷ [])
      ∙ ap (λ (t : Symbol). filter wants (take i all) ++ cond (wants t) (t ∷ []) []) (get_or_from_slice_get all i s s here)

  -- a symbol that is wanted
  pub symbol_push : (o : Object) (i : ℕ) (text : List ℕ) (value : ℕ) (name : List ℕ) → IsNamedSymbol wants number o i text value
      → last_named (symbol_name o) number (filter wants (take (i + 1) (symbols o))) name
      ≡ (if bytes_eq text name then Some value else last_named (symbol_name o) number (filter wants (take i (symbols o))) name)
  symbol_push o i text value name r =
      let before : List Symbol = filter wants (take i (symbols o)) in
      ap (λ ts. last_named (symbol_name o) number ts name) (wanted_next (symbols o) i r.symbol r.here ∙ ap (λ (b : Bool). before ++ cond b (r.symbol ∷ []) []) r.wanted)
      ∙ named_push (symbol_name o) number before r.symbol name (ap is_askable (sym r.named) ∙ r.askable)
      ∙ ap (λ (t : List ℕ). if bytes_eq t name then Some (number r.symbol) else last_named (symbol_name o) number before name) (sym r.named)
      ∙ ap (λ (n : ℕ). if bytes_eq text name then Some n else last_named (symbol_name o) number before name) (sym r.value_is)

  -- a symbol that is left out
  pub symbol_pass : (o : Object) (i : ℕ) (name : List ℕ) → i < length (symbols o) → IsUnnamed wants o i
      → last_named (symbol_name o) number (filter wants (take (i + 1) (symbols o))) name ≡ last_named (symbol_name o) number (filter wants (take i (symbols o))) name
  symbol_pass o i name lt out =
      let before : List Symbol = filter wants (take i (symbols o)) in
      let s : Symbol = get_or (symbols o) i no_symbol in
      let here : slice_get (symbols o) i ≡ Some s = slice_get-get_or (symbols o) i no_symbol lt in
      ap (λ ts. last_named (symbol_name o) number ts name) (wanted_next (symbols o) i s here)
      ∙ elim (out s here) [
        | inl unwanted ↦ ap (λ (b : Bool). last_named (symbol_name o) number (before ++ cond b (s ∷ []) []) name) unwanted ∙ ap (λ ts. last_named (symbol_name o) number ts name) (append-nil before)
        | inr left ↦ elim (wants s) as (λ (b : Bool). last_named (symbol_name o) number (before ++ cond b (s ∷ []) []) name ≡ last_named (symbol_name o) number before name)
            [ true ↦ named_pass (symbol_name o) number before s name left | false ↦ ap (λ ts. last_named (symbol_name o) number ts name) (append-nil before) ]
      ]
