-- The maps of a layout, word by word.
use Rattle.std.proofs.Common.{◌≡◌, ℕ, zero, suc, ◌+◌, ◌<◌, ◌≤◌, List, [], ◌∷◌, ◌++◌, length, take, slice_index_or, cond, Option, None, Some, Bool, true, false, String, Global, refl, sym, ap, subst, ◌∙◌, arith}
use Rattle.std.specs.Prelude.{if◌then◌else◌, string_bytes, option_map}
use Rattle.std.specs.Option.{option_or}
use Rattle.std.specs.Str.{bytes_eq}
use Rattle.std.proofs.lemmas.List.{take_all}
use Rattle.btf_plain.specs.declared.section_index.SectionIndex.{SectionIndex}
use Rattle.btf_cli.specs.Setting.{Setting, SectionSize, SymbolOffset, Sets, word_texts}
use Rattle.btf_cli.specs.Settings.{SetAll, last_set, size_set, offset_set}
use Rattle.btf_cli.proofs.Asked.{asked_is}

-- ---- one word more

option_or_assoc : (a b c : Option ℕ) → option_or a (option_or b c) ≡ option_or (option_or a b) c
option_or_assoc None b c = refl
option_or_assoc (Some x) b c = refl

option_or_none : (a : Option ℕ) → option_or a None ≡ a
option_or_none None = refl
option_or_none (Some x) = refl

-- its number, or otherwise the number of the words before it
last_push : (number : Setting → Option ℕ) (settings : List Setting) (setting : Setting) → last_set number (settings ++ setting ∷ []) ≡ option_or (number setting) (last_set number settings)
last_push number [] setting = sym (option_or_none (number setting))
last_push number (s ∷ settings) setting = ap (λ o. option_or o (number s)) (last_push number settings setting) ∙ sym (option_or_assoc (number setting) (last_set number settings) (number s))

-- the setting at the index of a word
set_at : (words : List (String Global)) (settings : List Setting) (i : ℕ) (word : String Global) → SetAll (word_texts words) settings → i < length words → word ≡ slice_index_or words i word
    → (setting : Setting) × Sets (string_bytes word) setting × (take (suc i) settings ≡ take i settings ++ setting ∷ [])
set_at [] settings i word all lt is = absurd (omega (arith, lt))
set_at (w ∷ words) [] i word all lt is = absurd all
set_at (w ∷ words) (s ∷ settings) zero word all lt is = (s, subst (λ (x : String Global). Sets (string_bytes x) s) (sym is) all.0, refl)
set_at (w ∷ words) (s ∷ settings) (suc i) word all lt is =
    let rest = set_at words settings i word all.1 (omega (arith, lt)) is in (rest.0, rest.1, ap (λ ss. s ∷ ss) rest.2)

-- The settings of the words up to and with this word, which makes this setting.
pub record IsNext (text : List ℕ) (settings : List Setting) (i : ℕ) : Type 0 where
  pub setting : Setting
  pub sets : Sets text setting
  pub more : take (i + 1) settings ≡ take i settings ++ setting ∷ []

pub next_set : (words : List (String Global)) (settings : List Setting) (i : ℕ) (word : String Global) (text : List ℕ) → SetAll (word_texts words) settings → i < length words → word ≡ slice_index_or words i word → text ≡ string_bytes word → IsNext text settings i
next_set words settings i word text all lt is text_is =
    let at = set_at words settings i word all lt is in
    let next : i + 1 ≡ suc i = omega arith in
    record { setting = at.0; sets = subst (λ (t : List ℕ). Sets t at.0) (sym text_is) at.1; more = ap (λ (n : ℕ). take n settings) next ∙ at.2 }

-- the number of the last setting then
next_last : (number : Setting → Option ℕ) (text : List ℕ) (settings : List Setting) (i : ℕ) (setting : Setting) → (next : IsNext text settings i) → Sets text setting → last_set number (take (i + 1) settings) ≡ option_or (number setting) (last_set number (take i settings))
next_last number text settings i setting next sets =
    let same : next.setting ≡ setting = sym (asked_is text next.setting next.sets) ∙ asked_is text setting sets in
    ap (last_set number) next.more ∙ last_push number (take i settings) next.setting ∙ ap (λ (s : Setting). option_or (number s) (last_set number (take i settings))) same

-- ---- all words

settings_len : (words : List (String Global)) (settings : List Setting) → SetAll (word_texts words) settings → length settings ≡ length words
settings_len [] [] all = refl
settings_len [] (s ∷ settings) all = absurd all
settings_len (w ∷ words) [] all = absurd all
settings_len (w ∷ words) (s ∷ settings) all = ap suc (settings_len words settings all.1)

pub settings_whole : (words : List (String Global)) (settings : List Setting) (i : ℕ) → SetAll (word_texts words) settings → length words ≤ i → take i settings ≡ settings
settings_whole words settings i all le = take_all i settings (omega (arith, le, settings_len words settings all))

-- ---- sections

no_size : (setting : Setting) (name : List ℕ) → ((section : List ℕ) (size : ℕ) → setting ≡ SectionSize section size → ⊥) → size_set name setting ≡ None
no_size (SectionSize section size) name other = absurd (other section size refl)
no_size setting name other = refl

-- a word about no section
pub no_section : (text : List ℕ) (settings : List Setting) (i : ℕ) (name : List ℕ) → IsNext text settings i → ((section : List ℕ) (size : ℕ) → Sets text (SectionSize section size) → ⊥) → last_set (size_set name) (take (i + 1) settings) ≡ last_set (size_set name) (take i settings)
no_section text settings i name next other =
    next_last (size_set name) text settings i next.setting next next.sets
    ∙ ap (λ (o : Option ℕ). option_or o (last_set (size_set name) (take i settings))) (no_size next.setting name (λ section size is. other section size (subst (λ (s : Setting). Sets text s) is next.sets)))

-- a word about a section
pub one_section : (text : List ℕ) (settings : List Setting) (i : ℕ) (section : List ℕ) (size : ℕ) (name : List ℕ) → IsNext text settings i → Sets text (SectionSize section size)
    → last_set (size_set name) (take (i + 1) settings) ≡ (if bytes_eq section name then Some size else last_set (size_set name) (take i settings))
one_section text settings i section size name next sets =
    next_last (size_set name) text settings i (SectionSize section size) next sets
    ∙ elim (bytes_eq section name) as (λ (b : Bool). option_or (if b then Some size else None) (last_set (size_set name) (take i settings)) ≡ (if b then Some size else last_set (size_set name) (take i settings))) [ true ↦ refl | false ↦ refl ]

-- the contents of the map then
pub section_kept : (b : Bool) (section : SectionIndex × ℕ) (old : Option (SectionIndex × ℕ)) (rest : Option ℕ) → option_map (λ (s : SectionIndex × ℕ). s.1) old ≡ rest
    → option_map (λ (s : SectionIndex × ℕ). s.1) (cond b (Some section) old) ≡ (if b then Some section.1 else rest)
section_kept true section old rest is = refl
section_kept false section old rest is = is

-- ---- symbols

no_offset : (setting : Setting) (name : List ℕ) → ((symbol : List ℕ) (offset : ℕ) → setting ≡ SymbolOffset symbol offset → ⊥) → offset_set name setting ≡ None
no_offset (SymbolOffset symbol offset) name other = absurd (other symbol offset refl)
no_offset setting name other = refl

pub no_symbol : (text : List ℕ) (settings : List Setting) (i : ℕ) (name : List ℕ) → IsNext text settings i → ((symbol : List ℕ) (offset : ℕ) → Sets text (SymbolOffset symbol offset) → ⊥) → last_set (offset_set name) (take (i + 1) settings) ≡ last_set (offset_set name) (take i settings)
no_symbol text settings i name next other =
    next_last (offset_set name) text settings i next.setting next next.sets
    ∙ ap (λ (o : Option ℕ). option_or o (last_set (offset_set name) (take i settings))) (no_offset next.setting name (λ symbol offset is. other symbol offset (subst (λ (s : Setting). Sets text s) is next.sets)))

pub one_symbol : (text : List ℕ) (settings : List Setting) (i : ℕ) (symbol : List ℕ) (offset : ℕ) (name : List ℕ) → IsNext text settings i → Sets text (SymbolOffset symbol offset)
    → last_set (offset_set name) (take (i + 1) settings) ≡ (if bytes_eq symbol name then Some offset else last_set (offset_set name) (take i settings))
one_symbol text settings i symbol offset name next sets =
    next_last (offset_set name) text settings i (SymbolOffset symbol offset) next sets
    ∙ elim (bytes_eq symbol name) as (λ (b : Bool). option_or (if b then Some offset else None) (last_set (offset_set name) (take i settings)) ≡ (if b then Some offset else last_set (offset_set name) (take i settings))) [ true ↦ refl | false ↦ refl ]

pub symbol_kept : (b : Bool) (offset : ℕ) (old rest : Option ℕ) → old ≡ rest → cond b (Some offset) old ≡ (if b then Some offset else rest)
symbol_kept true offset old rest is = refl
symbol_kept false offset old rest is = is
