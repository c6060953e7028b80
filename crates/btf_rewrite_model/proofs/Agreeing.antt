-- What a rewrite asks for, appends and makes under other answers that agree on the features that were asked for.
use Rattle.std.proofs.Common.{◌≡◌, ℕ, zero, suc, ◌+◌, ◌<◌, ◌≤◌, max, Bool, true, false, ◌&&◌, ◌||◌, not, List, [], ◌∷◌, ◌++◌, length, map, Option, None, Some, Result, Ok, Err, refl, sym, ap, subst, ◌∙◌, arith, inl, inr}
use Rattle.std.specs.Prelude.{if◌then◌else◌, ◌==◌}
use Rattle.std.specs.List.{list_any, flat_map, sum_by}
use Rattle.std.specs.Option.{is_none, unwrap_or}
use Rattle.std.proofs.lemmas.Bool.{false≢true, or_left, or_right, cases_order}
use Rattle.std.proofs.lemmas.List.Folds.{list_any-append}
use Rattle.std.proofs.lemmas.Option.{none-some}
use Rattle.btf_model.specs.Record as kinds
use Rattle.btf_model.specs.Record.{Kind, Record, kind_of, vlen}
use Rattle.btf_model.specs.Refusal.{Refusal}
use Rattle.btf_rewrite_model.specs.declared.feature.BtfFeature.TheVariants as features
use Rattle.btf_rewrite_model.specs.Feature.{grants, same_feature, is_global, is_signed, has_no_entries, fills_sized, is_sized_and_empty}
use Rattle.btf_rewrite_model.specs.declared.feature.BtfFeature.{BtfFeature}
use Rattle.btf_rewrite_model.specs.declared.feature.FeatureAnswer.{FeatureAnswer}
use Rattle.btf_rewrite_model.specs.Made.{section_entries, variants, record_at, kind_at, byte_int, static_var, const, typedef, struct, union, enum, made_data_sec, with_linkage, unsigned}
use Rattle.btf_rewrite_model.specs.Checks.{Check, first_fault, name_is_read, has_room, have_room, fits, record_len}
use Rattle.btf_model.specs.Table.{type_bytes}
use Rattle.btf_rewrite_model.specs.Pass.{Pass, has, name_of, name_checks, least, passing_or, is_least, renaming, section_size, is_unsized, is_zero_or, is_positive, fills_sized_one, fills_unsized, gets_filler, sized_asks_zero, unsized_asks_zero, makes_filler, wants_member_type, makes_member_type, param_texts, filler, filler_type_text, filler_text, member_type_text, texts, texts_by, texts_below, texts_len, offset_at, filler_offset, added_by, added_below, with_added, free_id, added, growth_below, type_len_at, func_asks, asks_by, asks, asks_below, is_builtin, is_enum64}
use Rattle.btf_rewrite_model.specs.Rule.{becomes_by, ruled_below, with_ruled, known_func, new_name, name_or, filler_id, placed, named_params, variant_members, entry_members, member_type_id}
use Rattle.btf_rewrite_model.specs.Fault.{fault, checks_by, completing_checks, filling_checks, member_checks, entry_checks, is_sized, all_fit}
use Rattle.btf_rewrite_model.specs.Rewritten.{AreRuled}
use Rattle.btf_rewrite_model.specs.RewriteLaws.{IsAmong, with_answers, Agree, IsSameBelow}
use Rattle.btf_rewrite_model.proofs.Lengths.{unsized_section, sized_section}
use Rattle.btf_rewrite_model.proofs.Granted.{passed_head, passed_tail, passed_left}

-- ---- the least that passes a test

least_le : (test : ℕ → Bool) (n : ℕ) → least test n ≤ n
least_le test zero = omega arith
least_le test (suc n) =
    elim (test (least test n)) as (λ (b : Bool). (if b then least test n else suc n) ≤ suc n) [ true ↦ omega (arith, least_le test n) | false ↦ omega arith ]

least_alike : (test other : ℕ → Bool) (n : ℕ) → ((j : ℕ) → j ≤ n → test j ≡ other j) → least test n ≡ least other n
least_alike test other zero alike = refl
least_alike test other (suc n) alike =
    let below : least test n ≡ least other n = least_alike test other n (λ j le. alike j (omega (arith, le))) in
    ap (λ (found : ℕ). passing_or test found (suc n)) below ∙ ap (λ (b : Bool). if b then least other n else suc n) (alike (least other n) (omega (arith, least_le other n)))

pub is_least_alike : (test other : ℕ → Bool) (n : ℕ) → ((j : ℕ) → j ≤ n → test j ≡ other j) → is_least test n ≡ is_least other n
is_least_alike test other n alike = ap (λ (b : Bool). b && (least test n == n)) (alike n (omega arith)) ∙ ap (λ (m : ℕ). other n && (m == n)) (least_alike test other n alike)

-- ---- what agrees

agree_below : (p : Pass) (answers : List FeatureAnswer) (id : ℕ) → Agree p answers (suc id) → Agree p answers id
agree_below p answers id agree f among =
    agree f (list_any-append (same_feature f) (asks_below p id) (asks p id) ∙ or_left (list_any (same_feature f) (asks_below p id)) (list_any (same_feature f) (asks p id)) among)

-- Other answers agree on what an id itself asks for.
abbrev pub AgreeAt : Pass → List FeatureAnswer → ℕ → Type 0
AgreeAt p answers id = (f : BtfFeature) → IsAmong f (asks p id) → grants answers f ≡ has p f

agree_itself : (p : Pass) (answers : List FeatureAnswer) (id : ℕ) → Agree p answers (suc id) → AgreeAt p answers id
agree_itself p answers id agree f among =
    agree f (list_any-append (same_feature f) (asks_below p id) (asks p id) ∙ or_right (list_any (same_feature f) (asks_below p id)) (list_any (same_feature f) (asks p id)) among)

pub agree_at : (p : Pass) (answers : List FeatureAnswer) (n id : ℕ) → id < n → Agree p answers n → AgreeAt p answers id
agree_at p answers zero id lt agree = absurd (omega (arith, lt))
agree_at p answers (suc n) id lt agree =
    elim (cases_order id n) as (λ c. AgreeAt p answers id) [
      | inl same ↦ subst (λ (i : ℕ). AgreeAt p answers i) (sym same) (agree_itself p answers n agree)
      | inr other ↦ elim other as (λ c. AgreeAt p answers id)
          [ inl less ↦ agree_at p answers n id less (agree_below p answers n agree) | inr more ↦ absurd (omega (arith, lt, more)) ]
    ]

-- ---- the filler

-- for a DATASEC of size 0
unsized_alike : (u e z y : Bool) (size : Option ℕ) → (u ≡ true → e ≡ true → is_positive size ≡ true → y ≡ z) → (u && e && is_zero_or (not y) size) ≡ (u && e && is_zero_or (not z) size)
unsized_alike false e z y size same = refl
unsized_alike true false z y size same = refl
unsized_alike true true z y None same = refl
unsized_alike true true z y (Some size) same =
    elim (size == 0) as (λ (b : Bool). (not b ≡ true → y ≡ z) → (b || not y) ≡ (b || not z)) [ true ↦ λ is. refl | false ↦ λ is. ap not (is refl) ] (same refl refl)

-- for a DATASEC that has a size
sized_alike : (s w z y : Bool) → (s ≡ true → w ≡ true → y ≡ z) → (s && w && not y) ≡ (s && w && not z)
sized_alike false w z y same = refl
sized_alike true false z y same = refl
sized_alike true true z y same = ap not (same refl refl)

-- for both, if one of them is a DATASEC
filler_alike : (d g s t u v : Bool) → (s ≡ true → g ≡ d) → (t ≡ true → g ≡ d) → (u ≡ true → g ≡ d) → (v ≡ true → g ≡ d) → (d ≡ true → s ≡ t) → (d ≡ true → u ≡ v) → (g && (s || u)) ≡ (d && (t || v))
filler_alike true true s t u v is_s is_t is_u is_v same_s same_u = ap (λ (b : Bool). b || u) (same_s refl) ∙ ap (λ (b : Bool). t || b) (same_u refl)
filler_alike true false s true u v is_s is_t is_u is_v same_s same_u = absurd (false≢true (is_t refl))
filler_alike true false s false u true is_s is_t is_u is_v same_s same_u = absurd (false≢true (is_v refl))
filler_alike true false s false u false is_s is_t is_u is_v same_s same_u = refl
filler_alike false true true t u v is_s is_t is_u is_v same_s same_u = absurd (false≢true (sym (is_s refl)))
filler_alike false true false t true v is_s is_t is_u is_v same_s same_u = absurd (false≢true (sym (is_u refl)))
filler_alike false true false t false v is_s is_t is_u is_v same_s same_u = refl
filler_alike false false s t u v is_s is_t is_u is_v same_s same_u = refl

-- what an id of this kind asks for agrees
pub agree_of : (p : Pass) (answers : List FeatureAnswer) (id : ℕ) (k : Option Kind) (f : BtfFeature) → AgreeAt p answers id → kind_at p.table id ≡ k → IsAmong f (asks_by p id k (record_at p.table id)) → grants answers f ≡ has p f
agree_of p answers id k f agree kind among = agree f (subst (λ (j : Option Kind). IsAmong f (asks_by p id j (record_at p.table id))) (sym kind) among)

pub first_among : (c : Bool) → IsAmong features.DataSec (if c then features.DataSec ∷ features.DataSecZero ∷ [] else features.DataSec ∷ [])
first_among true = refl
first_among false = refl

pub second_among : (c : Bool) → c ≡ true → IsAmong features.DataSecZero (if c then features.DataSec ∷ features.DataSecZero ∷ [] else features.DataSec ∷ [])
second_among true is = refl
second_among false is = absurd (false≢true is)

-- the name of a section can be read, and the new name fits
abbrev pub IsNamed : Pass → ℕ → Type 0
IsNamed p id = first_fault (name_checks p id) ≡ None

pub name_room : (p : Pass) (id : ℕ) → IsNamed p id → is_none (first_fault (have_room (offset_at p id) (renaming p (name_of p id)))) ≡ true
name_room p id named = ap is_none (passed_tail (name_is_read (name_of p id)) (have_room (offset_at p id) (renaming p (name_of p id))) named)

abbrev asks_zero : Pass → ℕ → Bool
asks_zero p id = has p features.DataSec && (sized_asks_zero p id (record_at p.table id) || unsized_asks_zero p id (record_at p.table id))

section_agrees : (p : Pass) (answers : List FeatureAnswer) (id : ℕ) → AgreeAt p answers id → kind_at p.table id ≡ Some kinds.DataSec → grants answers features.DataSec ≡ has p features.DataSec
section_agrees p answers id agree kind = agree_of p answers id (Some kinds.DataSec) features.DataSec agree kind (first_among (asks_zero p id))

zero_agrees : (p : Pass) (answers : List FeatureAnswer) (id : ℕ) → AgreeAt p answers id → kind_at p.table id ≡ Some kinds.DataSec → asks_zero p id ≡ true → grants answers features.DataSecZero ≡ has p features.DataSecZero
zero_agrees p answers id agree kind is = agree_of p answers id (Some kinds.DataSec) features.DataSecZero agree kind (second_among (asks_zero p id) is)

asks_unsized : (d a z e room size : Bool) → d ≡ true → z ≡ true → e ≡ true → room ≡ true → size ≡ true → (d && (a || (z && e && room && size))) ≡ true
asks_unsized true true z e room size is_d is_z is_e is_room is_size = refl
asks_unsized true false true true true true is_d is_z is_e is_room is_size = refl
asks_unsized false a z e room size is_d is_z is_e is_room is_size = absurd (false≢true is_d)
asks_unsized true false false e room size is_d is_z is_e is_room is_size = absurd (false≢true is_z)
asks_unsized true false true false room size is_d is_z is_e is_room is_size = absurd (false≢true is_e)
asks_unsized true false true true false size is_d is_z is_e is_room is_size = absurd (false≢true is_room)
asks_unsized true false true true true false is_d is_z is_e is_room is_size = absurd (false≢true is_size)

asks_sized : (d s z e named a : Bool) → d ≡ true → s ≡ true → z ≡ false → e ≡ true → named ≡ true → (d && ((s && not z && e && named) || a)) ≡ true
asks_sized true true false true true a is_d is_s is_z is_e named_is = refl
asks_sized false s z e named a is_d is_s is_z is_e named_is = absurd (false≢true is_d)
asks_sized true false z e named a is_d is_s is_z is_e named_is = absurd (false≢true is_s)
asks_sized true true true e named a is_d is_s is_z is_e named_is = absurd (false≢true (sym is_z))
asks_sized true true false false named a is_d is_s is_z is_e named_is = absurd (false≢true is_e)
asks_sized true true false true false a is_d is_s is_z is_e named_is = absurd (false≢true named_is)

first_two : (a b c : Bool) → (a && b && c) ≡ true → (a ≡ true) × (b ≡ true)
first_two true true c is = (refl, refl)
first_two true false c is = absurd (false≢true is)
first_two false b c is = absurd (false≢true is)

pub filler_same : (p : Pass) (answers : List FeatureAnswer) (id : ℕ) → AgreeAt p answers id → (kind_at p.table id ≡ Some kinds.DataSec → IsNamed p id) → gets_filler (with_answers p answers) id ≡ gets_filler p id
filler_same p answers id agree named =
    let q : Pass = with_answers p answers in
    let r : Record = record_at p.table id in
    let k : Option Kind = kind_at p.table id in
    let no : Pass → Bool = λ (o : Pass). not (has o features.DataSecZero) in
    let same : k ≡ Some kinds.DataSec → grants answers features.DataSec ≡ has p features.DataSec = section_agrees p answers id agree in
    let of_sized : (h : Bool) → (fills_sized p.policy && is_sized_and_empty k r && h) ≡ true → grants answers features.DataSec ≡ has p features.DataSec =
    λ h is. same (sized_section k r (first_two (fills_sized p.policy) (is_sized_and_empty k r) h is).1).0 in
    let of_unsized : (h : Bool) → (is_unsized k r && has_no_entries r && h) ≡ true → grants answers features.DataSec ≡ has p features.DataSec =
    λ h is. same (unsized_section k r (first_two (is_unsized k r) (has_no_entries r) h is).0).0 in
    filler_alike (has p features.DataSec) (grants answers features.DataSec) (fills_sized_one q id) (fills_sized_one p id) (fills_unsized q id) (fills_unsized p id)
    (of_sized (no q)) (of_sized (no p)) (of_unsized (is_zero_or (no q) (section_size p id))) (of_unsized (is_zero_or (no p) (section_size p id)))
    (λ d. sized_alike (fills_sized p.policy) (is_sized_and_empty k r) (has p features.DataSecZero) (grants answers features.DataSecZero)
    (λ s w. let section = sized_section k r w in zero_agrees p answers id agree section.0
    (asks_sized (has p features.DataSec) (fills_sized p.policy) (r.third == 0) (has_no_entries r) (is_none (first_fault (name_checks p id))) (unsized_asks_zero p id r) d s section.2 section.1 (ap is_none (named section.0)))))
    (λ d. unsized_alike (is_unsized k r) (has_no_entries r) (has p features.DataSecZero) (grants answers features.DataSecZero) (section_size p id)
    (λ u e size. let section = unsized_section k r u in zero_agrees p answers id agree section.0
    (asks_unsized (has p features.DataSec) (sized_asks_zero p id r) (r.third == 0) (has_no_entries r) (is_none (first_fault (have_room (offset_at p id) (renaming p (name_of p id))))) (is_positive (section_size p id)) d section.1 e (name_room p id (named section.0)) size)))

-- the name of an id that is not refused
pub named_of_ruled : (p : Pass) (id : ℕ) → fault p id ≡ None → kind_at p.table id ≡ Some kinds.DataSec → IsNamed p id
named_of_ruled p id ruled kind =
    let r : Record = record_at p.table id in
    let checks : first_fault (checks_by p id (Some kinds.DataSec) r) ≡ None = subst (λ (k : Option Kind). first_fault (checks_by p id k r) ≡ None) kind ruled in
    passed_left (name_checks p id) _ checks

fillers_same : (p : Pass) (answers : List FeatureAnswer) (n id : ℕ) → Agree p answers n → AreRuled p n → id < n → gets_filler (with_answers p answers) id ≡ gets_filler p id
fillers_same p answers n id agree ruled lt = filler_same p answers id (agree_at p answers n id lt agree) (named_of_ruled p id (ruled id lt))

-- ---- texts

renaming_same : (p : Pass) (answers : List FeatureAnswer) (name : Result (List ℕ) Refusal) → grants answers features.DataSec ≡ has p features.DataSec → renaming (with_answers p answers) name ≡ renaming p name
renaming_same p answers (Ok name) same = cc
renaming_same p answers (Err refusal) same = refl

texts_same : (p : Pass) (answers : List FeatureAnswer) (id : ℕ) (k : Option Kind) → kind_at p.table id ≡ k → AgreeAt p answers id → makes_filler (with_answers p answers) id ≡ makes_filler p id
    → texts_by (with_answers p answers) id k (record_at p.table id) ≡ texts_by p id k (record_at p.table id)
texts_same p answers id (Some kinds.FuncProto) kind agree filler_made =
    let same : grants answers features.Func ≡ has p features.Func = agree_of p answers id (Some kinds.FuncProto) features.Func agree kind refl in
    ap (λ (b : Bool). if b then param_texts 0 (record_at p.table id).tail else []) same
texts_same p answers id (Some kinds.Enum64) kind agree filler_made =
    let same : grants answers features.Enum64 ≡ has p features.Enum64 = agree_of p answers id (Some kinds.Enum64) features.Enum64 agree kind refl in
    ap (λ (b : Bool). if b then member_type_text ∷ [] else []) (is_least_alike (wants_member_type (with_answers p answers)) (wants_member_type p) id (λ j le. ap (λ (b : Bool). is_enum64 (kind_at p.table j) && not b) same))
texts_same p answers id (Some kinds.DataSec) kind agree filler_made =
    let same : renaming (with_answers p answers) (name_of p id) ≡ renaming p (name_of p id) = renaming_same p answers (name_of p id) (section_agrees p answers id agree kind) in
    ap (λ (ts : List (List ℕ)). ts ++ (if makes_filler (with_answers p answers) id then filler_type_text ∷ filler_text ∷ [] else [])) same
    ∙ ap (λ (b : Bool). renaming p (name_of p id) ++ (if b then filler_type_text ∷ filler_text ∷ [] else [])) filler_made
texts_same p answers id k kind agree filler_made = refl

-- ---- records that are appended

added_same : (p : Pass) (answers : List FeatureAnswer) (free id : ℕ) (k : Option Kind) → kind_at p.table id ≡ k → AgreeAt p answers id → makes_filler (with_answers p answers) id ≡ makes_filler p id
    → offset_at (with_answers p answers) id ≡ offset_at p id → added_by (with_answers p answers) free id k ≡ added_by p free id k
added_same p answers free id (Some kinds.Enum64) kind agree filler_made offset =
    let same : grants answers features.Enum64 ≡ has p features.Enum64 = agree_of p answers id (Some kinds.Enum64) features.Enum64 agree kind refl in
    ap (λ (o : ℕ). if makes_member_type (with_answers p answers) id then byte_int o ∷ [] else []) offset
    ∙ ap (λ (b : Bool). if b then byte_int (offset_at p id) ∷ [] else []) (is_least_alike (wants_member_type (with_answers p answers)) (wants_member_type p) id (λ j le. ap (λ (b : Bool). is_enum64 (kind_at p.table j) && not b) same))
added_same p answers free id (Some kinds.DataSec) kind agree filler_made offset =
    let same : renaming (with_answers p answers) (name_of p id) ≡ renaming p (name_of p id) = renaming_same p answers (name_of p id) (section_agrees p answers id agree kind) in
    ap (λ (b : Bool). if b then filler (filler_offset (with_answers p answers) id) free else []) filler_made
    ∙ ap (λ (o : ℕ). if makes_filler p id then filler (o + texts_len (renaming (with_answers p answers) (name_of p id))) free else []) offset
    ∙ ap (λ (ts : List (List ℕ)). if makes_filler p id then filler (offset_at p id + texts_len ts) free else []) same
added_same p answers free id k kind agree filler_made offset = refl

-- ---- what is asked

func_asks_same : (p : Pass) (answers : List FeatureAnswer) (r : Record) (name : Result (List ℕ) Refusal) → ((f : BtfFeature) → IsAmong f (func_asks p r name) → grants answers f ≡ has p f) → func_asks (with_answers p answers) r name ≡ func_asks p r name
func_asks_same p answers r (Ok name) agree =
    let c : Bool = has p features.Func && is_global r && not (is_builtin name) in
    let first : IsAmong features.Func (if c then features.Func ∷ features.FuncGlobal ∷ [] else features.Func ∷ []) =
    elim c as (λ (b : Bool). IsAmong features.Func (if b then features.Func ∷ features.FuncGlobal ∷ [] else features.Func ∷ [])) [ true ↦ refl | false ↦ refl ] in
    ap (λ (b : Bool). if b && is_global r && not (is_builtin name) then features.Func ∷ features.FuncGlobal ∷ [] else features.Func ∷ []) (agree features.Func first)
func_asks_same p answers r (Err refusal) agree = refl

rooms_same : (p : Pass) (answers : List FeatureAnswer) (id : ℕ) → offset_at (with_answers p answers) id ≡ offset_at p id → renaming (with_answers p answers) (name_of p id) ≡ renaming p (name_of p id)
    → have_room (offset_at (with_answers p answers) id) (renaming (with_answers p answers) (name_of p id)) ≡ have_room (offset_at p id) (renaming p (name_of p id))
rooms_same p answers id offset same = ap (λ (o : ℕ). have_room o (renaming (with_answers p answers) (name_of p id))) offset ∙ ap (λ (ts : List (List ℕ)). have_room (offset_at p id) ts) same

names_same : (p : Pass) (answers : List FeatureAnswer) (id : ℕ) → offset_at (with_answers p answers) id ≡ offset_at p id → renaming (with_answers p answers) (name_of p id) ≡ renaming p (name_of p id)
    → name_checks (with_answers p answers) id ≡ name_checks p id
names_same p answers id offset same = ap (λ (cs : List Check). name_is_read (name_of p id) ∷ cs) (rooms_same p answers id offset same)

asks_same : (p : Pass) (answers : List FeatureAnswer) (id : ℕ) (k : Option Kind) → kind_at p.table id ≡ k → AgreeAt p answers id → offset_at (with_answers p answers) id ≡ offset_at p id
    → asks_by (with_answers p answers) id k (record_at p.table id) ≡ asks_by p id k (record_at p.table id)
asks_same p answers id (Some kinds.Func) kind agree offset = func_asks_same p answers (record_at p.table id) (name_of p id) (λ f among. agree_of p answers id (Some kinds.Func) f agree kind among)
asks_same p answers id (Some kinds.DataSec) kind agree offset =
    let r : Record = record_at p.table id in
    let granted : grants answers features.DataSec ≡ has p features.DataSec = section_agrees p answers id agree kind in
    let same : renaming (with_answers p answers) (name_of p id) ≡ renaming p (name_of p id) = renaming_same p answers (name_of p id) granted in
    let room : List Check → Bool = λ cs. is_none (first_fault cs) in
    let names : name_checks (with_answers p answers) id ≡ name_checks p id = names_same p answers id offset same in
    let rooms : have_room (offset_at (with_answers p answers) id) (renaming (with_answers p answers) (name_of p id)) ≡ have_room (offset_at p id) (renaming p (name_of p id)) = rooms_same p answers id offset same in
    let asked : Bool → List Check → List Check → List BtfFeature =
    λ b named has_room. if b && ((fills_sized p.policy && not (r.third == 0) && has_no_entries r && room named) || ((r.third == 0) && has_no_entries r && room has_room && is_positive (section_size p id)))
    then features.DataSec ∷ features.DataSecZero ∷ [] else features.DataSec ∷ [] in
    ap (λ (b : Bool). asked b (name_checks (with_answers p answers) id) (have_room (offset_at (with_answers p answers) id) (renaming (with_answers p answers) (name_of p id)))) granted
    ∙ ap (λ (cs : List Check). asked (has p features.DataSec) cs (have_room (offset_at (with_answers p answers) id) (renaming (with_answers p answers) (name_of p id)))) names
    ∙ ap (λ (cs : List Check). asked (has p features.DataSec) (name_checks p id) cs) rooms
asks_same p answers id k kind agree offset = refl

-- ---- what records become

-- what a rule reads besides the record itself
record Same (p : Pass) (answers : List FeatureAnswer) (id : ℕ) : Type 0 where
  agree : AgreeAt p answers id
  offset : offset_at (with_answers p answers) id ≡ offset_at p id
  read : kind_at p.table id ≡ Some kinds.Func → name_is_read (name_of p id) ≡ None
  gets : gets_filler (with_answers p answers) id ≡ gets_filler p id
  filler_at : filler_id (with_answers p answers) id ≡ filler_id p id
  member_type : kind_at p.table id ≡ Some kinds.Enum64 → member_type_id (with_answers p answers) id ≡ member_type_id p id

known_alike : (d g b h i : Bool) (x y z : Record) → (d ≡ true → g ≡ true → b ≡ false → i ≡ h) → (if d then (if g && (b || not i) then x else y) else z) ≡ (if d then (if g && (b || not h) then x else y) else z)
known_alike false g b h i x y z same = refl
known_alike true false b h i x y z same = refl
known_alike true true true h i x y z same = refl
known_alike true true false h i x y z same = ap (λ (c : Bool). if not c then x else y) (same refl refl refl)

asked_too : (d g b : Bool) → d ≡ true → g ≡ true → b ≡ false → IsAmong features.FuncGlobal (if d && g && not b then features.Func ∷ features.FuncGlobal ∷ [] else features.Func ∷ [])
asked_too true true false is_d is_g is_b = refl
asked_too true true true is_d is_g is_b = absurd (false≢true (sym is_b))
asked_too true false b is_d is_g is_b = absurd (false≢true is_g)
asked_too false g b is_d is_g is_b = absurd (false≢true is_d)

func_same : (p : Pass) (answers : List FeatureAnswer) (r : Record) (name : Result (List ℕ) Refusal) → ((f : BtfFeature) → IsAmong f (func_asks p r name) → grants answers f ≡ has p f) → name_is_read name ≡ None
    → (if grants answers features.Func then known_func (with_answers p answers) r name else typedef r.name r.third) ≡ (if has p features.Func then known_func p r name else typedef r.name r.third)
func_same p answers r (Ok name) agree read =
    let c : Bool = has p features.Func && is_global r && not (is_builtin name) in
    let first : IsAmong features.Func (if c then features.Func ∷ features.FuncGlobal ∷ [] else features.Func ∷ []) =
    elim c as (λ (b : Bool). IsAmong features.Func (if b then features.Func ∷ features.FuncGlobal ∷ [] else features.Func ∷ [])) [ true ↦ refl | false ↦ refl ] in
    ap (λ (b : Bool). if b then known_func (with_answers p answers) r (Ok name) else typedef r.name r.third) (agree features.Func first)
    ∙ known_alike (has p features.Func) (is_global r) (is_builtin name) (has p features.FuncGlobal) (grants answers features.FuncGlobal) (with_linkage 0 r) r (typedef r.name r.third)
    (λ d g b. agree features.FuncGlobal (asked_too (has p features.Func) (is_global r) (is_builtin name) d g b))
func_same p answers r (Err refusal) agree read = absurd (none-some refusal (sym read))

enum_alike : (g b h : Bool) (x y : Record) → (g ≡ true → h ≡ b) → (if g && not h then x else y) ≡ (if g && not b then x else y)
enum_alike true b h x y same = ap (λ (c : Bool). if not c then x else y) (same refl)
enum_alike false b h x y same = refl

signed_among : (g : Bool) → g ≡ true → IsAmong features.Enum64 (if g then features.Enum64 ∷ [] else [])
signed_among true is = refl
signed_among false is = absurd (false≢true is)

-- what a DATASEC becomes, by the answer, by whether it gets the filler, by its name and by the filler's id
abbrev section_made : Pass → List Record → ℕ → Bool → Bool → ℕ → ℕ → Record
section_made p lower id granted filled name at =
    let r : Record = record_at p.table id in
    let size : ℕ = unwrap_or (section_size p id) 0 in
    let filling : ℕ → Record = λ n. made_data_sec name n 1 (record { type = at; offset = 0; size = n } ∷ []) in
    if granted then (if r.third == 0 then (if filled then filling (max size 1) else made_data_sec name size (vlen r.info) (map (placed p) (section_entries r.tail))) else (if filled then filling r.third else record r { name = name }))
    else struct name (vlen r.info) (vlen r.info) (entry_members p lower id (section_entries r.tail))

section_same : (p : Pass) (answers : List FeatureAnswer) (lower : List Record) (id : ℕ) → kind_at p.table id ≡ Some kinds.DataSec → Same p answers id
    → becomes_by (with_answers p answers) lower id (Some kinds.DataSec) (record_at p.table id) ≡ becomes_by p lower id (Some kinds.DataSec) (record_at p.table id)
section_same p answers lower id kind same =
    let q : Pass = with_answers p answers in
    let r : Record = record_at p.table id in
    let granted : grants answers features.DataSec ≡ has p features.DataSec = section_agrees p answers id same.agree kind in
    let renamed : renaming q (name_of p id) ≡ renaming p (name_of p id) = renaming_same p answers (name_of p id) granted in
    let name : new_name q id r ≡ new_name p id r = ap (λ (o : ℕ). name_or r.name o (renaming q (name_of p id))) same.offset ∙ ap (λ (ts : List (List ℕ)). name_or r.name (offset_at p id) ts) renamed in
    ap (λ (b : Bool). section_made p lower id b (gets_filler q id) (new_name q id r) (filler_id q id)) granted
    ∙ ap (λ (b : Bool). section_made p lower id (has p features.DataSec) b (new_name q id r) (filler_id q id)) same.gets
    ∙ ap (λ (n : ℕ). section_made p lower id (has p features.DataSec) (gets_filler p id) n (filler_id q id)) name
    ∙ ap (λ (n : ℕ). section_made p lower id (has p features.DataSec) (gets_filler p id) (new_name p id r) n) same.filler_at

becomes_same : (p : Pass) (answers : List FeatureAnswer) (lower : List Record) (id : ℕ) (k : Option Kind) → kind_at p.table id ≡ k → Same p answers id
    → becomes_by (with_answers p answers) lower id k (record_at p.table id) ≡ becomes_by p lower id k (record_at p.table id)
becomes_same p answers lower id (Some kinds.Var) kind same =
    ap (λ (b : Bool). if b then record_at p.table id else byte_int (record_at p.table id).name) (agree_of p answers id (Some kinds.Var) features.DataSec same.agree kind refl)
becomes_same p answers lower id (Some kinds.Float) kind same =
    ap (λ (b : Bool). if b then record_at p.table id else struct 0 (record_at p.table id).third 0 []) (agree_of p answers id (Some kinds.Float) features.Float same.agree kind refl)
becomes_same p answers lower id (Some kinds.DeclTag) kind same =
    ap (λ (b : Bool). if b then record_at p.table id else byte_int (record_at p.table id).name) (agree_of p answers id (Some kinds.DeclTag) features.DeclTag same.agree kind refl)
becomes_same p answers lower id (Some kinds.TypeTag) kind same =
    ap (λ (b : Bool). if b then record_at p.table id else const (record_at p.table id).third) (agree_of p answers id (Some kinds.TypeTag) features.TypeTag same.agree kind refl)
becomes_same p answers lower id (Some kinds.Enum) kind same =
    enum_alike (is_signed (record_at p.table id)) (has p features.Enum64) (grants answers features.Enum64) (unsigned (record_at p.table id)) (record_at p.table id)
    (λ signed. agree_of p answers id (Some kinds.Enum) features.Enum64 same.agree kind (signed_among (is_signed (record_at p.table id)) signed))
becomes_same p answers lower id (Some kinds.Enum64) kind same =
    let r : Record = record_at p.table id in
    ap (λ (b : Bool). if b then r else union r.name r.third (vlen r.info) (variant_members (member_type_id (with_answers p answers) id) (variants r.tail))) (agree_of p answers id (Some kinds.Enum64) features.Enum64 same.agree kind refl)
    ∙ ap (λ (n : ℕ). if has p features.Enum64 then r else union r.name r.third (vlen r.info) (variant_members n (variants r.tail))) (same.member_type kind)
becomes_same p answers lower id (Some kinds.Func) kind same =
    func_same p answers (record_at p.table id) (name_of p id) (λ f among. agree_of p answers id (Some kinds.Func) f same.agree kind among) (same.read kind)
becomes_same p answers lower id (Some kinds.FuncProto) kind same =
    let r : Record = record_at p.table id in
    ap (λ (b : Bool). if b then record r { tail = named_params 0 (offset_at (with_answers p answers) id) r.tail } else enum r.name (vlen r.info) r.tail) (agree_of p answers id (Some kinds.FuncProto) features.Func same.agree kind refl)
    ∙ ap (λ (o : ℕ). if has p features.Func then record r { tail = named_params 0 o r.tail } else enum r.name (vlen r.info) r.tail) same.offset
becomes_same p answers lower id (Some kinds.DataSec) kind same = section_same p answers lower id kind same
becomes_same p answers lower id k kind same = refl

-- ---- all ids below

read_of_ruled : (p : Pass) (id : ℕ) → fault p id ≡ None → kind_at p.table id ≡ Some kinds.Func → name_is_read (name_of p id) ≡ None
read_of_ruled p id ruled kind = passed_head (name_is_read (name_of p id)) [] (subst (λ (k : Option Kind). first_fault (checks_by p id k (record_at p.table id)) ≡ None) kind ruled)

offset_same : (p : Pass) (answers : List FeatureAnswer) (id : ℕ) → IsSameBelow p answers id → offset_at (with_answers p answers) id ≡ offset_at p id
offset_same p answers id below = ap (λ (ts : List (List ℕ)). length p.table.strings + texts_len ts) below.texts

makes_same : (p : Pass) (answers : List FeatureAnswer) (id : ℕ) → ((j : ℕ) → j ≤ id → gets_filler (with_answers p answers) j ≡ gets_filler p j) → makes_filler (with_answers p answers) id ≡ makes_filler p id
makes_same p answers id fillers = is_least_alike (gets_filler (with_answers p answers)) (gets_filler p) id fillers

free_same : (p : Pass) (answers : List FeatureAnswer) (id : ℕ) → IsSameBelow p answers id → free_id (with_answers p answers) id ≡ free_id p id
free_same p answers id below = ap (λ (rs : List Record). length p.table.records + length rs) below.added

-- the id that the least one made, if all ids up to this one are alike
made_same : (p : Pass) (answers : List FeatureAnswer) (id : ℕ) (test other : ℕ → Bool) → ((j : ℕ) → j ≤ id → test j ≡ other j) → ((j : ℕ) → j ≤ id → IsSameBelow p answers j)
    → free_id (with_answers p answers) (least test id) ≡ free_id p (least other id)
made_same p answers id test other alike below =
    ap (λ (j : ℕ). free_id (with_answers p answers) j) (least_alike test other id alike) ∙ free_same p answers (least other id) (below (least other id) (least_le other id))

all_same : (p : Pass) (answers : List FeatureAnswer) (id : ℕ) → AgreeAt p answers id → fault p id ≡ None → ((j : ℕ) → j ≤ id → gets_filler (with_answers p answers) j ≡ gets_filler p j)
    → ((j : ℕ) → j ≤ id → IsSameBelow p answers j) → Same p answers id
all_same p answers id agree ruled fillers below = record {
  agree = agree;
  offset = offset_same p answers id (below id (omega arith));
  read = read_of_ruled p id ruled;
  gets = fillers id (omega arith);
  filler_at = ap (λ (n : ℕ). n + 1) (made_same p answers id (gets_filler (with_answers p answers)) (gets_filler p) fillers below);
  member_type = λ kind. made_same p answers id (wants_member_type (with_answers p answers)) (wants_member_type p)
      (λ j le. ap (λ (b : Bool). is_enum64 (kind_at p.table j) && not b) (agree_of p answers id (Some kinds.Enum64) features.Enum64 agree kind refl)) below;
}

-- one more id
step : (p : Pass) (answers : List FeatureAnswer) (id : ℕ) → AgreeAt p answers id → fault p id ≡ None → ((j : ℕ) → j ≤ id → gets_filler (with_answers p answers) j ≡ gets_filler p j)
    → ((j : ℕ) → j ≤ id → IsSameBelow p answers j) → IsSameBelow p answers (suc id)
step p answers id agree ruled fillers below =
    let q : Pass = with_answers p answers in
    let k : Option Kind = kind_at p.table id in
    let r : Record = record_at p.table id in
    let here : IsSameBelow p answers id = below id (omega arith) in
    let offset : offset_at q id ≡ offset_at p id = offset_same p answers id here in
    let makes : makes_filler q id ≡ makes_filler p id = makes_same p answers id fillers in
    record {
      asks = ap (λ (fs : List BtfFeature). fs ++ asks q id) here.asks ∙ ap (λ (fs : List BtfFeature). asks_below p id ++ fs) (asks_same p answers id k refl agree offset);
      texts = ap (λ (ts : List (List ℕ)). ts ++ texts q id) here.texts ∙ ap (λ (ts : List (List ℕ)). texts_below p id ++ ts) (texts_same p answers id k refl agree makes);
      added = ap (λ (rs : List Record). with_added q id rs) here.added
          ∙ ap (λ (rs : List Record). added_below p id ++ rs) (added_same p answers (length p.table.records + length (added_below p id)) id k refl agree makes offset);
      growth = ap (λ (n : ℕ). n + (if gets_filler q id then 12 else 0)) here.growth ∙ ap (λ (b : Bool). growth_below p id + (if b then 12 else 0)) (fillers id (omega arith));
      ruled = ap (λ (rs : List Record). with_ruled q id rs) here.ruled
          ∙ ap (λ (x : Record). ruled_below p id ++ x ∷ []) (becomes_same p answers (ruled_below p id) id k refl (all_same p answers id agree ruled fillers below));
    }

nothing_below : (p : Pass) (answers : List FeatureAnswer) → IsSameBelow p answers zero
nothing_below p answers = record { asks = refl; texts = refl; added = refl; growth = refl; ruled = refl }

up_to : (p : Pass) (answers : List FeatureAnswer) (n j : ℕ) → j ≤ n → Agree p answers n → AreRuled p n → IsSameBelow p answers j
up_to p answers zero zero le agree ruled = nothing_below p answers
up_to p answers zero (suc j) le agree ruled = absurd (omega (arith, le))
up_to p answers (suc n) j le agree ruled =
    let lower : (i : ℕ) → i ≤ n → IsSameBelow p answers i = λ i less. up_to p answers n i less (agree_below p answers n agree) (λ m lt. ruled m (omega (arith, lt))) in
    elim (cases_order j (suc n)) as (λ c. IsSameBelow p answers j) [
      | inl same ↦ subst (λ (i : ℕ). IsSameBelow p answers i) (sym same)
          (step p answers n (agree_itself p answers n agree) (ruled n (omega arith)) (λ i less. fillers_same p answers (suc n) i agree ruled (omega (arith, less))) lower)
      | inr other ↦ elim other as (λ c. IsSameBelow p answers j) [ inl less ↦ lower j (omega (arith, less)) | inr more ↦ absurd (omega (arith, le, more)) ]
    ]

pub same_below : (p : Pass) (answers : List FeatureAnswer) (id : ℕ) → Agree p answers id → AreRuled p id → IsSameBelow p answers id
same_below p answers id agree ruled = up_to p answers id id (omega arith) agree ruled

pub same_asked : (p : Pass) (answers : List FeatureAnswer) (id : ℕ) → Agree p answers (suc id) → AreRuled p id → asks (with_answers p answers) id ≡ asks p id
same_asked p answers id agree ruled =
    asks_same p answers id (kind_at p.table id) refl (agree_itself p answers id agree) (offset_same p answers id (same_below p answers id (agree_below p answers id agree) ruled))

-- ---- refusals

-- two lists of tests whose first parts are equal, and whose second parts are equal if the first part passes
both_parts : (before after other : List Check) → (first_fault before ≡ None → first_fault after ≡ first_fault other) → first_fault (before ++ after) ≡ first_fault (before ++ other)
both_parts [] after other same = same refl
both_parts (None ∷ before) after other same = both_parts before after other same
both_parts (Some refusal ∷ before) after other same = refl

type_len_same : (p : Pass) (answers : List FeatureAnswer) (id : ℕ) → IsSameBelow p answers id → type_len_at (with_answers p answers) id ≡ type_len_at p id
type_len_same p answers id below =
    ap (λ (rs : List Record). length (type_bytes p.table) + sum_by record_len rs + growth_below (with_answers p answers) id) below.added ∙ ap (λ (n : ℕ). length (type_bytes p.table) + sum_by record_len (added_below p id) + n) below.growth

-- the tests of a DATASEC by its size, by whether it makes and gets the filler, by the filler's offset, the bytes before
-- it and its records
abbrev sizing_by : Pass → ℕ → Bool → Bool → ℕ → ℕ → List Record → List Check
sizing_by p id makes gets offset used records =
    let r : Record = record_at p.table id in
    let making : List Check =
    if makes then has_room offset filler_type_text ∷ fits used (record_len (byte_int 0)) ∷ has_room (offset + length filler_type_text + 1) filler_text ∷ fits (used + record_len (byte_int 0)) (record_len (static_var 0 0)) ∷ [] else [] in
    let growing : List Check = if gets then fits (used + sum_by record_len records) 12 ∷ [] else [] in
    if r.third == 0 then is_sized (section_size p id) (name_of p id) ∷ making ++ flat_map (entry_checks p) (section_entries r.tail) ++ growing else making ++ growing

fillers_to : (p : Pass) (answers : List FeatureAnswer) (id : ℕ) → Agree p answers (suc id) → AreRuled p id → (kind_at p.table id ≡ Some kinds.DataSec → IsNamed p id) → (j : ℕ) → j ≤ id → gets_filler (with_answers p answers) j ≡ gets_filler p j
fillers_to p answers id agree ruled named j le =
    elim (cases_order j id) as (λ c. gets_filler (with_answers p answers) j ≡ gets_filler p j) [
      | inl same ↦ subst (λ (i : ℕ). gets_filler (with_answers p answers) i ≡ gets_filler p i) (sym same) (filler_same p answers id (agree_itself p answers id agree) named)
      | inr other ↦ elim other as (λ c. gets_filler (with_answers p answers) j ≡ gets_filler p j)
          [ inl less ↦ fillers_same p answers id j (agree_below p answers id agree) ruled less | inr more ↦ absurd (omega (arith, le, more)) ]
    ]

-- the tests of a DATASEC after those of its name
abbrev section_rest : Pass → ℕ → List Check
section_rest p id = if has p features.DataSec then (if (record_at p.table id).third == 0 then completing_checks p id (record_at p.table id) else filling_checks p id) else flat_map (member_checks p) (section_entries (record_at p.table id).tail)

section_rest_same : (p : Pass) (answers : List FeatureAnswer) (id : ℕ) → kind_at p.table id ≡ Some kinds.DataSec → Agree p answers (suc id) → AreRuled p id → IsNamed p id
    → section_rest (with_answers p answers) id ≡ section_rest p id
section_rest_same p answers id kind agree ruled named =
    let q : Pass = with_answers p answers in
    let r : Record = record_at p.table id in
    let at_id : AgreeAt p answers id = agree_itself p answers id agree in
    let below : IsSameBelow p answers id = same_below p answers id (agree_below p answers id agree) ruled in
    let fillers : (j : ℕ) → j ≤ id → gets_filler q j ≡ gets_filler p j = fillers_to p answers id agree ruled (λ is. named) in
    let makes : makes_filler q id ≡ makes_filler p id = makes_same p answers id fillers in
    let granted : grants answers features.DataSec ≡ has p features.DataSec = section_agrees p answers id at_id kind in
    let renamed : renaming q (name_of p id) ≡ renaming p (name_of p id) = renaming_same p answers (name_of p id) granted in
    let offset : filler_offset q id ≡ filler_offset p id = ap (λ (o : ℕ). o + texts_len (renaming q (name_of p id))) (offset_same p answers id below) ∙ ap (λ (ts : List (List ℕ)). offset_at p id + texts_len ts) renamed in
    let used : type_len_at q id ≡ type_len_at p id = type_len_same p answers id below in
    let records : added q id ≡ added p id =
    ap (λ (n : ℕ). added_by q n id (kind_at p.table id)) (free_same p answers id below) ∙ added_same p answers (free_id p id) id (kind_at p.table id) refl at_id makes (offset_same p answers id below) in
    let same : sizing_by q id (makes_filler q id) (gets_filler q id) (filler_offset q id) (type_len_at q id) (added q id) ≡ sizing_by p id (makes_filler p id) (gets_filler p id) (filler_offset p id) (type_len_at p id) (added p id) =
    ap (λ (b : Bool). sizing_by p id b (gets_filler q id) (filler_offset q id) (type_len_at q id) (added q id)) makes
    ∙ ap (λ (b : Bool). sizing_by p id (makes_filler p id) b (filler_offset q id) (type_len_at q id) (added q id)) (fillers id (omega arith))
    ∙ ap (λ (o : ℕ). sizing_by p id (makes_filler p id) (gets_filler p id) o (type_len_at q id) (added q id)) offset
    ∙ ap (λ (n : ℕ). sizing_by p id (makes_filler p id) (gets_filler p id) (filler_offset p id) n (added q id)) used
    ∙ ap (λ (rs : List Record). sizing_by p id (makes_filler p id) (gets_filler p id) (filler_offset p id) (type_len_at p id) rs) records in
    ap (λ (cs : List Check). if grants answers features.DataSec then cs else flat_map (member_checks p) (section_entries r.tail)) same
    ∙ ap (λ (b : Bool). if b then (if r.third == 0 then completing_checks p id r else filling_checks p id) else flat_map (member_checks p) (section_entries r.tail)) granted

section_fault_same : (p : Pass) (answers : List FeatureAnswer) (id : ℕ) → kind_at p.table id ≡ Some kinds.DataSec → Agree p answers (suc id) → AreRuled p id
    → first_fault (name_checks (with_answers p answers) id ++ section_rest (with_answers p answers) id) ≡ first_fault (name_checks p id ++ section_rest p id)
section_fault_same p answers id kind agree ruled =
    let q : Pass = with_answers p answers in
    let below : IsSameBelow p answers id = same_below p answers id (agree_below p answers id agree) ruled in
    let renamed : renaming q (name_of p id) ≡ renaming p (name_of p id) = renaming_same p answers (name_of p id) (section_agrees p answers id (agree_itself p answers id agree) kind) in
    let names : name_checks q id ≡ name_checks p id = names_same p answers id (offset_same p answers id below) renamed in
    ap (λ (cs : List Check). first_fault (cs ++ section_rest q id)) names
    ∙ both_parts (name_checks p id) (section_rest q id) (section_rest p id)
    (λ passed. ap first_fault (section_rest_same p answers id kind agree ruled passed))

no_section : (k : Option Kind) → k ≡ Some kinds.Enum64 → k ≡ Some kinds.DataSec → ⊥
no_section k is_enum is_section = false≢true (ap is_enum64 (sym is_section ∙ is_enum))

fault_same : (p : Pass) (answers : List FeatureAnswer) (id : ℕ) (k : Option Kind) → kind_at p.table id ≡ k → Agree p answers (suc id) → AreRuled p id
    → first_fault (checks_by (with_answers p answers) id k (record_at p.table id)) ≡ first_fault (checks_by p id k (record_at p.table id))
fault_same p answers id (Some kinds.FuncProto) kind agree ruled =
    let q : Pass = with_answers p answers in
    let below : IsSameBelow p answers id = same_below p answers id (agree_below p answers id agree) ruled in
    let same : texts_by q id (Some kinds.FuncProto) (record_at p.table id) ≡ texts_by p id (Some kinds.FuncProto) (record_at p.table id) =
    ap (λ (b : Bool). if b then param_texts 0 (record_at p.table id).tail else []) (agree_of p answers id (Some kinds.FuncProto) features.Func (agree_itself p answers id agree) kind refl) in
    let texts_are : texts q id ≡ texts p id =
    ap (λ (j : Option Kind). texts_by q id j (record_at p.table id)) kind ∙ same ∙ sym (ap (λ (j : Option Kind). texts_by p id j (record_at p.table id)) kind) in
    ap (λ (o : ℕ). first_fault (have_room o (texts q id))) (offset_same p answers id below) ∙ ap (λ (ts : List (List ℕ)). first_fault (have_room (offset_at p id) ts)) texts_are
fault_same p answers id (Some kinds.Enum64) kind agree ruled =
    let q : Pass = with_answers p answers in
    let at_id : AgreeAt p answers id = agree_itself p answers id agree in
    let below : IsSameBelow p answers id = same_below p answers id (agree_below p answers id agree) ruled in
    let makes : makes_filler q id ≡ makes_filler p id = makes_same p answers id (fillers_to p answers id agree ruled (λ is. absurd (no_section (kind_at p.table id) kind is))) in
    let offset : offset_at q id ≡ offset_at p id = offset_same p answers id below in
    let texts_are : texts q id ≡ texts p id = texts_same p answers id (kind_at p.table id) refl at_id makes in
    let records : added q id ≡ added p id =
    ap (λ (n : ℕ). added_by q n id (kind_at p.table id)) (free_same p answers id below) ∙ added_same p answers (free_id p id) id (kind_at p.table id) refl at_id makes offset in
    ap (λ (o : ℕ). first_fault (have_room o (texts q id) ++ all_fit (type_len_at q id) (added q id))) offset
    ∙ ap (λ (ts : List (List ℕ)). first_fault (have_room (offset_at p id) ts ++ all_fit (type_len_at q id) (added q id))) texts_are
    ∙ ap (λ (n : ℕ). first_fault (have_room (offset_at p id) (texts p id) ++ all_fit n (added q id))) (type_len_same p answers id below)
    ∙ ap (λ (rs : List Record). first_fault (have_room (offset_at p id) (texts p id) ++ all_fit (type_len_at p id) rs)) records
fault_same p answers id (Some kinds.DataSec) kind agree ruled = section_fault_same p answers id kind agree ruled
fault_same p answers id k kind agree ruled = refl

pub same_refused : (p : Pass) (answers : List FeatureAnswer) (id : ℕ) → Agree p answers (suc id) → AreRuled p id → fault (with_answers p answers) id ≡ fault p id
same_refused p answers id agree ruled = fault_same p answers id (kind_at p.table id) refl agree ruled
