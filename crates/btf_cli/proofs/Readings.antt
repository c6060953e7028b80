-- The words of a rewrite, read one after another.
use Rattle.std.proofs.Common.{◌≡◌, ℕ, suc, ◌+◌, ◌<◌, ◌≤◌, List, [], ◌∷◌, ◌++◌, length, take, drop, map, slice_index_or, take-suc, drop-cons, Option, None, Some, String, Global, refl, sym, ap, subst, ◌∙◌, arith}
use Rattle.std.specs.Prelude.{string_bytes}
use Rattle.std.specs.List.{filter_map, cons_option}
use Rattle.std.specs.Option.{option_to_list}
use Rattle.std.proofs.lemmas.List.{append-nil, map-append, take-append-drop, take_all}
use Rattle.std.proofs.lemmas.List.Elements.{filter_map-append}
use Rattle.btf_rewrite_model.specs.declared.ksyms_ids.KsymsIds.{KsymsIds}
use Rattle.btf_cli.specs.Setting.{Setting, KsymsId, PlaceholderId, Sets, word_texts}
use Rattle.btf_cli.specs.Settings.{SetAll, SetIds, ksyms_set, placeholder_set}
use Rattle.btf_cli.specs.Word.{setting_of}
use Rattle.btf_cli.specs.declared.word.Word.{Word}
use Rattle.btf_cli.specs.declared.word.Word.TheVariants as words
use Rattle.btf_cli.proofs.Asked.{setting_asked, asked_is, all_asked}

-- ---- words in a row

set_more : (words : List (List ℕ)) (settings : List Setting) (word : List ℕ) (setting : Setting) → SetAll words settings → Sets word setting → SetAll (words ++ word ∷ []) (settings ++ setting ∷ [])
set_more [] [] word setting all sets = (sets, tt)
set_more [] (s ∷ settings) word setting all sets = absurd all
set_more (w ∷ words) [] word setting all sets = absurd all
set_more (w ∷ words) (s ∷ settings) word setting all sets = (all.0, set_more words settings word setting all.1 sets)

-- if all words are valid, each is
pub set_one : (front : List (List ℕ)) (word : List ℕ) (back : List (List ℕ)) (settings : List Setting) → SetAll (front ++ word ∷ back) settings → (setting : Setting) × Sets word setting
set_one [] word back [] all = absurd all
set_one [] word back (s ∷ settings) all = (s, all.0)
set_one (w ∷ front) word back [] all = absurd all
set_one (w ∷ front) word back (s ∷ settings) all = set_one front word back settings all.1

-- the texts before a word, with it, and around it
pub texts_next : (words : List (String Global)) (i : ℕ) (word : String Global) → i < length words → word ≡ slice_index_or words i word → word_texts (take (i + 1) words) ≡ word_texts (take i words) ++ string_bytes word ∷ []
texts_next words i word lt is =
    let next : i + 1 ≡ suc i = omega arith in
    ap (λ (n : ℕ). word_texts (take n words)) next ∙ ap word_texts (take-suc words i word lt) ∙ map-append string_bytes (take i words) (slice_index_or words i word ∷ [])
    ∙ ap (λ (w : String Global). word_texts (take i words) ++ string_bytes w ∷ []) (sym is)

pub texts_round : (words : List (String Global)) (i : ℕ) (word : String Global) → i < length words → word ≡ slice_index_or words i word → word_texts words ≡ word_texts (take i words) ++ string_bytes word ∷ word_texts (drop (suc i) words)
texts_round words i word lt is =
    ap word_texts (sym (take-append-drop i words)) ∙ map-append string_bytes (take i words) (drop i words) ∙ ap (λ (ws : List (String Global)). word_texts (take i words) ++ word_texts ws) (drop-cons words i word lt)
    ∙ ap (λ (w : String Global). word_texts (take i words) ++ string_bytes w ∷ word_texts (drop (suc i) words)) (sym is)

-- ---- the words that were read

-- These words were read, with these ids.
pub record HaveRead (words : List (List ℕ)) (ksyms placeholder : Option ℕ) : Type 0 where
  pub set : SetAll words (map setting_asked words)
  pub datasecs : filter_map ksyms_set (map setting_asked words) ≡ option_to_list ksyms
  pub placeholders : filter_map placeholder_set (map setting_asked words) ≡ option_to_list placeholder

one_more : (id_set : Setting → Option ℕ) (words : List (List ℕ)) (word : List ℕ) (old new : Option ℕ) → filter_map id_set (map setting_asked words) ≡ option_to_list old → option_to_list old ++ filter_map id_set (setting_asked word ∷ []) ≡ option_to_list new
    → filter_map id_set (map setting_asked (words ++ word ∷ [])) ≡ option_to_list new
one_more id_set words word old new is more =
    ap (filter_map id_set) (map-append setting_asked words (word ∷ [])) ∙ filter_map-append id_set (map setting_asked words) (setting_asked word ∷ []) ∙ ap (λ (ids : List ℕ). ids ++ filter_map id_set (setting_asked word ∷ [])) is ∙ more

-- one word more
pub read_more : (words : List (List ℕ)) (word : List ℕ) (setting : Setting) (ksyms placeholder new_ksyms new_placeholder : Option ℕ) → HaveRead words ksyms placeholder → Sets word setting
    → option_to_list ksyms ++ filter_map ksyms_set (setting ∷ []) ≡ option_to_list new_ksyms → option_to_list placeholder ++ filter_map placeholder_set (setting ∷ []) ≡ option_to_list new_placeholder
    → HaveRead (words ++ word ∷ []) new_ksyms new_placeholder
read_more words word setting ksyms placeholder new_ksyms new_placeholder read sets more_ksyms more_placeholder =
    let is : setting_asked word ≡ setting = asked_is word setting sets in
    record {
      set = subst (λ (settings : List Setting). SetAll (words ++ word ∷ []) settings) (sym (map-append setting_asked words (word ∷ []))) (set_more words (map setting_asked words) word (setting_asked word) read.set (subst (λ (s : Setting). Sets word s) (sym is) sets));
      datasecs = one_more ksyms_set words word ksyms new_ksyms read.datasecs (ap (λ (s : Setting). option_to_list ksyms ++ filter_map ksyms_set (s ∷ [])) is ∙ more_ksyms);
      placeholders = one_more placeholder_set words word placeholder new_placeholder read.placeholders (ap (λ (s : Setting). option_to_list placeholder ++ filter_map placeholder_set (s ∷ [])) is ∙ more_placeholder);
    }

-- a word with an id that was not given before, and a word without an id
pub first_id : (id_set : Setting → Option ℕ) (setting : Setting) (old new : Option ℕ) (id : ℕ) → old ≡ None → id_set setting ≡ Some id → new ≡ Some id → option_to_list old ++ filter_map id_set (setting ∷ []) ≡ option_to_list new
first_id id_set setting old new id none is kept =
    ap (λ (o : Option ℕ). option_to_list o ++ filter_map id_set (setting ∷ [])) none ∙ ap (λ (o : Option ℕ). cons_option o []) is ∙ ap (λ (o : Option ℕ). option_to_list o) (sym kept)

pub no_id : (id_set : Setting → Option ℕ) (setting : Setting) (old new : Option ℕ) → id_set setting ≡ None → new ≡ old → option_to_list old ++ filter_map id_set (setting ∷ []) ≡ option_to_list new
no_id id_set setting old new none kept =
    ap (λ (o : Option ℕ). option_to_list old ++ cons_option o []) none ∙ append-nil (option_to_list old) ∙ ap (λ (o : Option ℕ). option_to_list o) (sym kept)

-- ---- invalid words

-- the ids of all words, by the ids of the words before one, and its own
ids_set : (id_set : Setting → Option ℕ) (front back : List (List ℕ)) (word : List ℕ) (setting : Setting) (settings : List Setting) (ids : List ℕ) → SetAll (front ++ word ∷ back) settings → filter_map id_set (map setting_asked front) ≡ ids → Sets word setting
    → filter_map id_set settings ≡ ids ++ filter_map id_set (setting ∷ map setting_asked back)
ids_set id_set front back word setting settings ids all is sets =
    ap (filter_map id_set) (all_asked (front ++ word ∷ back) settings all ∙ map-append setting_asked front (word ∷ back))
    ∙ filter_map-append id_set (map setting_asked front) (setting_asked word ∷ map setting_asked back)
    ∙ ap (λ (before : List ℕ). before ++ filter_map id_set (setting_asked word ∷ map setting_asked back)) is
    ∙ ap (λ (s : Setting). ids ++ filter_map id_set (s ∷ map setting_asked back)) (asked_is word setting sets)

-- a second `ksyms`
second_ksyms : (front back : List (List ℕ)) (word : List ℕ) (first : Option ℕ) (id : ℕ) (placeholder : Option ℕ) (settings : List Setting) (ids : Option KsymsIds) → HaveRead front first placeholder → (first ≡ None → ⊥) → Sets word (KsymsId id)
    → SetAll (front ++ word ∷ back) settings → SetIds settings ids → ⊥
second_ksyms front back word None id placeholder settings ids read there sets all is = there refl
second_ksyms front back word (Some first) id placeholder settings None read there sets all is =
    let two = sym is.0 ∙ ids_set ksyms_set front back word (KsymsId id) settings (first ∷ []) all read.datasecs sets in cc
second_ksyms front back word (Some first) id placeholder settings (Some ids) read there sets all is =
    let two = sym is.0 ∙ ids_set ksyms_set front back word (KsymsId id) settings (first ∷ []) all read.datasecs sets in cc

one_at_most : (o : Option ℕ) (a b : ℕ) (more : List ℕ) → option_to_list o ≡ a ∷ b ∷ more → ⊥
one_at_most None a b more is_two = cc
one_at_most (Some x) a b more is_two = cc

-- a second placeholder
second_placeholder : (front back : List (List ℕ)) (word : List ℕ) (first : Option ℕ) (id : ℕ) (ksyms : Option ℕ) (settings : List Setting) (ids : Option KsymsIds) → HaveRead front ksyms first → (first ≡ None → ⊥) → Sets word (PlaceholderId id)
    → SetAll (front ++ word ∷ back) settings → SetIds settings ids → ⊥
second_placeholder front back word None id ksyms settings ids read there sets all is = there refl
second_placeholder front back word (Some first) id ksyms settings None read there sets all is =
    let two = sym is.1 ∙ ids_set placeholder_set front back word (PlaceholderId id) settings (first ∷ []) all read.placeholders sets in cc
second_placeholder front back word (Some first) id ksyms settings (Some ids) read there sets all is =
    let two : option_to_list ids.placeholder_id ≡ first ∷ id ∷ filter_map placeholder_set (map setting_asked back) = sym is.1 ∙ ids_set placeholder_set front back word (PlaceholderId id) settings (first ∷ []) all read.placeholders sets in
    one_at_most ids.placeholder_id first id (filter_map placeholder_set (map setting_asked back)) two

-- A word among others, after the words before it were read.
pub record IsMet (words : List (String Global)) (i : ℕ) (word : String Global) (text : List ℕ) (ksyms placeholder : Option ℕ) : Type 0 where
  pub within : i < length words
  pub at : word ≡ slice_index_or words i word
  pub text_is : text ≡ string_bytes word
  pub read : HaveRead (word_texts (take i words)) ksyms placeholder

round : (words : List (String Global)) (i : ℕ) (word : String Global) (text : List ℕ) (ksyms placeholder : Option ℕ) → IsMet words i word text ksyms placeholder → word_texts words ≡ word_texts (take i words) ++ text ∷ word_texts (drop (suc i) words)
round words i word text ksyms placeholder met = texts_round words i word met.within met.at ∙ ap (λ (t : List ℕ). word_texts (take i words) ++ t ∷ word_texts (drop (suc i) words)) (sym met.text_is)

-- an invalid one
pub unread : (words : List (String Global)) (i : ℕ) (word : String Global) (text : List ℕ) (ksyms placeholder : Option ℕ) → IsMet words i word text ksyms placeholder → ((setting : Setting) → Sets text setting → ⊥) → (settings : List Setting) → SetAll (word_texts words) settings → ⊥
unread words i word text ksyms placeholder met unset settings all =
    let one = set_one (word_texts (take i words)) text (word_texts (drop (suc i) words)) settings (subst (λ (ws : List (List ℕ)). SetAll ws settings) (round words i word text ksyms placeholder met) all) in unset one.0 one.1

-- one that gives an id again
pub ksyms_again : (words : List (String Global)) (i : ℕ) (word : String Global) (text : List ℕ) (setting : Setting) (id : ℕ) (ksyms placeholder : Option ℕ) → IsMet words i word text ksyms placeholder → (ksyms ≡ None → ⊥) → Sets text setting → setting ≡ KsymsId id
    → (settings : List Setting) (ids : Option KsymsIds) → SetAll (word_texts words) settings → SetIds settings ids → ⊥
ksyms_again words i word text setting id ksyms placeholder met there sets setting_is settings ids all is =
    second_ksyms (word_texts (take i words)) (word_texts (drop (suc i) words)) text ksyms id placeholder settings ids met.read there (subst (λ (s : Setting). Sets text s) setting_is sets) (subst (λ (ws : List (List ℕ)). SetAll ws settings) (round words i word text ksyms placeholder met) all) is

pub placeholder_again : (words : List (String Global)) (i : ℕ) (word : String Global) (text : List ℕ) (setting : Setting) (id : ℕ) (ksyms placeholder : Option ℕ) → IsMet words i word text ksyms placeholder → (placeholder ≡ None → ⊥) → Sets text setting
    → setting ≡ PlaceholderId id → (settings : List Setting) (ids : Option KsymsIds) → SetAll (word_texts words) settings → SetIds settings ids → ⊥
placeholder_again words i word text setting id ksyms placeholder met there sets setting_is settings ids all is =
    second_placeholder (word_texts (take i words)) (word_texts (drop (suc i) words)) text placeholder id ksyms settings ids met.read there (subst (λ (s : Setting). Sets text s) setting_is sets) (subst (λ (ws : List (List ℕ)). SetAll ws settings) (round words i word text ksyms placeholder met) all) is

-- a placeholder alone
alone : (words : List (List ℕ)) (id : ℕ) (settings : List Setting) (ids : Option KsymsIds) → HaveRead words None (Some id) → SetAll words settings → SetIds settings ids → ⊥
alone words id settings None read all is = let one = sym is.1 ∙ ap (filter_map placeholder_set) (all_asked words settings all) ∙ read.placeholders in cc
alone words id settings (Some ids) read all is = let none = sym is.0 ∙ ap (filter_map ksyms_set) (all_asked words settings all) ∙ read.datasecs in cc

pub placeholder_alone : (words : List (List ℕ)) (ksyms placeholder : Option ℕ) (id : ℕ) → ksyms ≡ None → placeholder ≡ Some id → (settings : List Setting) (ids : Option KsymsIds) → HaveRead words ksyms placeholder → SetAll words settings → SetIds settings ids → ⊥
placeholder_alone words ksyms placeholder id none some settings ids read all is =
    alone words id settings ids (subst (λ (o : Option ℕ). HaveRead words None o) some (subst (λ (o : Option ℕ). HaveRead words o placeholder) none read)) all is

-- ---- all words

-- one more of the words
pub read_next : (words : List (String Global)) (i : ℕ) (word : String Global) (text : List ℕ) (setting : Setting) (ksyms placeholder new_ksyms new_placeholder : Option ℕ) → IsMet words i word text ksyms placeholder → Sets text setting
    → option_to_list ksyms ++ filter_map ksyms_set (setting ∷ []) ≡ option_to_list new_ksyms → option_to_list placeholder ++ filter_map placeholder_set (setting ∷ []) ≡ option_to_list new_placeholder
    → HaveRead (word_texts (take (i + 1) words)) new_ksyms new_placeholder
read_next words i word text setting ksyms placeholder new_ksyms new_placeholder met sets more_ksyms more_placeholder =
    subst (λ (ws : List (List ℕ)). HaveRead ws new_ksyms new_placeholder) (sym (texts_next words i word met.within met.at))
    (read_more (word_texts (take i words)) (string_bytes word) setting ksyms placeholder new_ksyms new_placeholder met.read (subst (λ (t : List ℕ). Sets t setting) met.text_is sets) more_ksyms more_placeholder)

-- the whole list
pub read_whole : (words : List (String Global)) (i : ℕ) (ksyms placeholder : Option ℕ) → length words ≤ i → HaveRead (word_texts (take i words)) ksyms placeholder → HaveRead (word_texts words) ksyms placeholder
read_whole words i ksyms placeholder le read = subst (λ (ws : List (String Global)). HaveRead (word_texts ws) ksyms placeholder) (take_all i words le) read

-- a word without an id
pub no_ksyms : (word : Word) → ((id : ℕ) → word ≡ words.Ksyms id → ⊥) → ksyms_set (setting_of word) ≡ None
no_ksyms (words.Ksyms id) other = absurd (other id refl)
no_ksyms word other = refl

pub no_placeholder : (word : Word) → ((id : ℕ) → word ≡ words.Placeholder id → ⊥) → placeholder_set (setting_of word) ≡ None
no_placeholder (words.Placeholder id) other = absurd (other id refl)
no_placeholder word other = refl

-- the ids that were read
pub some_ids : (texts_read : List (List ℕ)) (ksyms placeholder : Option ℕ) (datasec : ℕ) (ids : Option KsymsIds) → HaveRead texts_read ksyms placeholder → ksyms ≡ Some datasec → ids ≡ Some (record { datasec_id = datasec; placeholder_id = placeholder })
    → SetIds (map setting_asked texts_read) ids
some_ids texts_read ksyms placeholder datasec ids read some is =
    subst (λ (o : Option KsymsIds). SetIds (map setting_asked texts_read) o) (sym is) (read.datasecs ∙ ap (λ (o : Option ℕ). option_to_list o) some, read.placeholders)

pub no_ids : (texts_read : List (List ℕ)) (ksyms placeholder : Option ℕ) (ids : Option KsymsIds) → HaveRead texts_read ksyms placeholder → ksyms ≡ None → placeholder ≡ None → ids ≡ None → SetIds (map setting_asked texts_read) ids
no_ids texts_read ksyms placeholder ids read none no_other is =
    subst (λ (o : Option KsymsIds). SetIds (map setting_asked texts_read) o) (sym is) (read.datasecs ∙ ap (λ (o : Option ℕ). option_to_list o) none, read.placeholders ∙ ap (λ (o : Option ℕ). option_to_list o) no_other)
