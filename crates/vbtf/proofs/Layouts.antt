-- The maps of sections and symbols, entry by entry.
use Rattle.std.proofs.Common.{◌≡◌, ℕ, suc, ◌+◌, ◌<◌, List, [], ◌∷◌, ◌++◌, length, take, cond, slice_index_or, Option, None, Some, Bool, true, false, refl, sym, ap, subst, ◌∙◌, arith}
use Rattle.std.specs.Prelude.{if◌then◌else◌, option_map}
use Rattle.std.specs.List.{AllByRecursion}
use Rattle.std.specs.Option.{option_or}
use Rattle.std.specs.Str.{bytes_eq}
use Rattle.std.proofs.Math.Path.{fun_ext}
use Rattle.std.proofs.Math.Seq.{take-suc}
use Rattle.btf_plain.specs.declared.section_index.SectionIndex.{SectionIndex}
use Rattle.vbtf.specs.declared.program.Named.{Named}
use Rattle.btf_rewrite_model.specs.Pass.{Layout}
use Rattle.vbtf.specs.Program.{name_in, number_named, layout_named, IsReadable, AreReadableEntries}

-- the value at an index past the end
abbrev pub no_entry : Named
no_entry = record { at = 0; len = 0; number = 0 }

-- the number of an entry that has the name, or otherwise this
abbrev pub number_or : List ℕ → Named → List ℕ → Option ℕ → Option ℕ
number_or names entry name rest = if bytes_eq (name_in names entry) name then Some entry.number else rest

or_assoc : (b : Bool) (number : ℕ) (rest first : Option ℕ) → option_or (if b then Some number else rest) first ≡ (if b then Some number else option_or rest first)
or_assoc true number rest first = refl
or_assoc false number rest first = refl

-- the last entry comes first
push_entry : (names : List ℕ) (entries : List Named) (entry : Named) (name : List ℕ) → number_named names (entries ++ entry ∷ []) name ≡ number_or names entry name (number_named names entries name)
push_entry names [] entry name = refl
push_entry names (e ∷ entries) entry name =
    ap (λ o. option_or o (if bytes_eq (name_in names e) name then Some e.number else None)) (push_entry names entries entry name)
    ∙ or_assoc (bytes_eq (name_in names entry) name) entry.number (number_named names entries name) (if bytes_eq (name_in names e) name then Some e.number else None)

pub next_entry : (names : List ℕ) (entries : List Named) (i : ℕ) (name : List ℕ) → i < length entries
    → number_named names (take (i + 1) entries) name ≡ number_or names (slice_index_or entries i no_entry) name (number_named names (take i entries) name)
next_entry names entries i name lt =
    let next : i + 1 ≡ suc i = omega arith in
    ap (λ (n : ℕ). number_named names (take n entries) name) next
    ∙ ap (λ es. number_named names es name) (take-suc entries i no_entry lt)
    ∙ push_entry names (take i entries) (slice_index_or entries i no_entry) name

all_push : (P : Named → Type 0) (entries : List Named) (entry : Named) → AllByRecursion P entries → P entry → AllByRecursion P (entries ++ entry ∷ [])
all_push P [] entry all one = (one, tt)
all_push P (e ∷ entries) entry all one = (all.0, all_push P entries entry all.1 one)

pub next_readable : (names : List ℕ) (entries : List Named) (i : ℕ) → AreReadableEntries names (take i entries) → IsReadable names (slice_index_or entries i no_entry) → i < length entries → AreReadableEntries names (take (i + 1) entries)
next_readable names entries i before this lt =
    let next : suc i ≡ i + 1 = omega arith in
    subst (λ (n : ℕ). AreReadableEntries names (take n entries)) next
    (subst (λ es. AreReadableEntries names es) (sym (take-suc entries i no_entry lt)) (all_push (IsReadable names) (take i entries) (slice_index_or entries i no_entry) before this))

-- the contents of a map after the insertion of an entry
pub section_kept : (b : Bool) (section : SectionIndex × ℕ) (old : Option (SectionIndex × ℕ)) (rest : Option ℕ) → option_map (λ (s : SectionIndex × ℕ). s.1) old ≡ rest
    → option_map (λ (s : SectionIndex × ℕ). s.1) (cond b (Some section) old) ≡ (if b then Some section.1 else rest)
section_kept true section old rest is = refl
section_kept false section old rest is = is

pub symbol_kept : (b : Bool) (offset : ℕ) (old rest : Option ℕ) → old ≡ rest → cond b (Some offset) old ≡ (if b then Some offset else rest)
symbol_kept true offset old rest is = refl
symbol_kept false offset old rest is = is

-- the maps have the numbers of the entries, for every name
pub layout_is : (layout : Layout) (names others : List ℕ) (sections symbols : List Named) → ((name : List ℕ) → layout.sections name ≡ number_named names sections name)
    → ((name : List ℕ) → layout.symbols name ≡ number_named others symbols name) → layout ≡ layout_named names sections others symbols
layout_is layout names others sections symbols sizes offsets =
    ap (λ (f : List ℕ → Option ℕ). record { sections = f; symbols = layout.symbols }) (fun_ext sizes)
    ∙ ap (λ (f : List ℕ → Option ℕ). record { sections = number_named names sections; symbols = f }) (fun_ext offsets)
