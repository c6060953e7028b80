-- The rule of a FUNC.
use Rattle.std.proofs.Common.{◌≡◌, ◌≢◌, ◌==◌, ℕ, Bool, true, false, not, ◌&&◌, ◌||◌, List, [], ◌∷◌, length, drop, Option, None, Some, Result, Ok, Err, refl, sym, ap, ◌∙◌}
use Rattle.std.specs.Prelude.{if◌then◌else◌, ⊤}
use Rattle.std.proofs.lemmas.Bool.{eqb-true, false_from_ne_true}
use Rattle.btf_model.specs.Record as kinds
use Rattle.btf_model.specs.Record.{Kind, Record, kind_of, vlen}
use Rattle.btf_model.specs.Refusal.{Refusal}
use Rattle.btf_rewrite_model.specs.declared.feature.BtfFeature.TheVariants as features
use Rattle.btf_rewrite_model.specs.Feature.{grants, is_global}
use Rattle.btf_rewrite_model.specs.declared.feature.BtfFeature.{BtfFeature}
use Rattle.btf_rewrite_model.specs.declared.feature.FeatureAnswer.{FeatureAnswer}
use Rattle.btf_model.specs.Table.{Table}
use Rattle.btf_rewrite_model.specs.Passing.{AreAnswersTo}
use Rattle.btf_rewrite_model.proofs.Passing.{NextAnswers}
use Rattle.btf_plain.specs.declared.linkage.FuncLinkage.TheVariants as linkage
use Rattle.btf_plain.specs.declared.linkage.FuncLinkage.{FuncLinkage}
use Rattle.btf_table.proofs.PassAsking.{asked_none, asked_more, asked_kept}
use Rattle.btf_rewrite_model.specs.Made.{record_at, typedef, with_linkage}
use Rattle.btf_rewrite_model.specs.Checks.{first_fault, name_is_read}
use Rattle.btf_model.specs.Text.{text_at}
use Rattle.btf_rewrite_model.specs.Pass.{Pass, asks_below, has, name_of, is_builtin, func_asks, asks, asks_by, gets_filler, wants_member_type, free_id}
use Rattle.btf_rewrite_model.specs.Rule.{becomes, known_func}
use Rattle.btf_rewrite_model.specs.Fault.{fault}
use Rattle.btf_plain.specs.Linkage.{func_linkage_of}
use Rattle.btf_records.specs.BtfType.{record_of, fallback_of}
use Rattle.btf_records.specs.declared.btf_type.BtfType.{BtfType}
use Rattle.btf_table.proofs.Adding.{adds_none}
use Rattle.btf_table.proofs.PassRules.{record_there, kind_there, becomes_there, fault_there, texts_there, added_there, falls_back_there, made_on, wants_none, no_filler, grown_by, same_len}
use Rattle.btf_table.specs.Builtins.{begins_builtin}
use Rattle.std.specs.Result.{result_ok, result_err}
use Rattle.std.proofs.lemmas.Option.{none-some, same_Some}
use Rattle.btf_table.specs.Checked.{checked}
use Rattle.btf_table.proofs.Readable.{builtin_is}
use Rattle.btf_table.specs.Btf.{IsType}
use Rattle.btf_table.specs.PassStep.{Given, pass_on, IsHere, IsRuled, AsksUpTo}
use Rattle.btf_table.specs.declared.sanitize.made.Made.{Made}

module _ (p : Pass) (id : ℕ) (b : BtfType) (there : IsType p.table id b) (kind : kind_of (record_of b).info ≡ Some kinds.Func) where
  abbrev r : Record
  r = record_of b

  pub func_name : name_of p id ≡ text_at p.table.strings r.name
  func_name = ap (λ (q : Record). text_at p.table.strings q.name) (record_there p.table id b there)

  asks_are : (name : Result (List ℕ) Refusal) → text_at p.table.strings r.name ≡ name → asks p id ≡ func_asks p r name
  asks_are name is =
      ap (λ (k : Option Kind). asks_by p id k (record_at p.table id)) (kind_there p.table id b there ∙ kind) ∙ ap (λ (q : Record). func_asks p q (name_of p id)) (record_there p.table id b there) ∙ ap (func_asks p r) (func_name ∙ is)

  -- its name can't be read
  pub func_unread : (refusal : Refusal) → Err refusal ≡ text_at p.table.strings r.name → (asks p id ≡ []) × (fault p id ≡ Some refusal)
  func_unread refusal is = (asks_are (Err refusal) (sym is), fault_there p id b (Some kinds.Func) there kind ∙ ap (λ n. first_fault (name_is_read n ∷ [])) (func_name ∙ sym is))

  -- what it asks for after its name is read
  pub asks_func : (name : List ℕ) → Ok name ≡ text_at p.table.strings r.name → (has p features.Func && is_global r && not (is_builtin name)) ≡ false → asks p id ≡ features.Func ∷ []
  asks_func name is not_both = asks_are (Ok name) (sym is) ∙ ap (λ (c : Bool). if c then features.Func ∷ features.FuncGlobal ∷ [] else features.Func ∷ []) not_both

  pub asks_both : (name : List ℕ) → Ok name ≡ text_at p.table.strings r.name → (has p features.Func && is_global r && not (is_builtin name)) ≡ true → asks p id ≡ features.Func ∷ features.FuncGlobal ∷ []
  asks_both name is together = asks_are (Ok name) (sym is) ∙ ap (λ (c : Bool). if c then features.Func ∷ features.FuncGlobal ∷ [] else features.Func ∷ []) together

  module _ (made : Made) (here : IsHere p id made) (name : List ℕ) (is_name : Ok name ≡ text_at p.table.strings r.name) (none : fallback_of b ≡ None) (new : BtfType) (new_none : fallback_of new ≡ None) where
    ruled_as : (q : Record) → becomes p id ≡ q → record_of new ≡ q → length q.tail ≡ length r.tail → IsRuled p id b made made new
    ruled_as q becomes_is is tail =
        let unfilled : gets_filler p id ≡ false = no_filler p id (Some kinds.Func) (kind_there p.table id b there ∙ kind) refl in
        let wants : wants_member_type p id ≡ false = wants_none p id (Some kinds.Func) (kind_there p.table id b there ∙ kind) refl in
        record {
          passed = fault_there p id b (Some kinds.Func) there kind ∙ ap (λ n. first_fault (name_is_read n ∷ [])) (func_name ∙ sym is_name);
          record_is = is ∙ sym becomes_is;
          fallback_is = new_none ∙ sym (falls_back_there p id b (Some kinds.Func) there kind ∙ none);
          len = same_len p id r (record_of new) (ap (λ (x : Record). length x.tail) is ∙ tail) unfilled;
          grown = grown_by p id made made [] [] (adds_none p.table made.changes here.room) (texts_there p id b (Some kinds.Func) there kind) (added_there p id b (Some kinds.Func) there kind) unfilled refl
              (made_on (wants_member_type p) (free_id p) id made.member_type here.member_type wants) here.filler refl;
        }

    pub func_denied : has p features.Func ≡ false → record_of new ≡ typedef r.name r.third → length r.tail ≡ 0 → IsRuled p id b made made new
    func_denied denied is no_tail =
        ruled_as (typedef r.name r.third) (becomes_there p id b (Some kinds.Func) there kind ∙ ap (λ (g : Bool). if g then known_func p r (name_of p id) else typedef r.name r.third) denied) is (sym no_tail)

    known : has p features.Func ≡ true → becomes p id ≡ (if is_global r && (is_builtin name || not (has p features.FuncGlobal)) then with_linkage 0 r else r)
    known granted =
        becomes_there p id b (Some kinds.Func) there kind ∙ ap (λ (g : Bool). if g then known_func p r (name_of p id) else typedef r.name r.third) granted ∙ ap (known_func p r) (func_name ∙ sym is_name)

    pub func_static : has p features.Func ≡ true → (is_global r && (is_builtin name || not (has p features.FuncGlobal))) ≡ true → record_of new ≡ with_linkage 0 r → IsRuled p id b made made new
    func_static granted changes is = ruled_as (with_linkage 0 r) (known granted ∙ ap (λ (c : Bool). if c then with_linkage 0 r else r) changes) is refl

    pub func_stays : has p features.Func ≡ true → (is_global r && (is_builtin name || not (has p features.FuncGlobal))) ≡ false → record_of new ≡ r → IsRuled p id b made made new
    func_stays granted stays is = ruled_as r (known granted ∙ ap (λ (c : Bool). if c then with_linkage 0 r else r) stays) is refl

-- ---- what is asked

module _ (t : Table) (given : Given) (id : ℕ) (b : BtfType) (there : IsType t id b) (kind : kind_of (record_of b).info ≡ Some kinds.Func) (name : List ℕ) (is_name : Ok name ≡ text_at t.strings (record_of b).name)
    (old : List FeatureAnswer) (asked : AreAnswersTo (asks_below (pass_on t given old) id) old) where
  -- Func is asked for
  pub one_granted : (new : List FeatureAnswer) (granted : Bool) → NextAnswers old features.Func granted new → grants new features.Func ≡ granted
  one_granted new granted next = (asked_more (pass_on t given old) id [] old new features.Func granted (asked_none (pass_on t given old) id asked) next).1

  pub one_asked : (new : List FeatureAnswer) (granted : Bool) → NextAnswers old features.Func granted new → (granted && is_global (record_of b) && not (is_builtin name)) ≡ false → AsksUpTo (pass_on t given old) id new []
  one_asked new granted next alone =
      let has = asked_more (pass_on t given old) id [] old new features.Func granted (asked_none (pass_on t given old) id asked) next in
      (features.Func ∷ [], has.0, asks_func (pass_on t given new) id b there kind name is_name (ap (λ (g : Bool). g && is_global (record_of b) && not (is_builtin name)) has.1 ∙ alone))

  -- and FuncGlobal
  pub both_asked : (mid new : List FeatureAnswer) (granted : Bool) → NextAnswers old features.Func true mid → NextAnswers mid features.FuncGlobal granted new → is_global (record_of b) ≡ true → is_builtin name ≡ false
      → AsksUpTo (pass_on t given old) id new [] × (grants new features.Func ≡ true) × (grants new features.FuncGlobal ≡ granted)
  both_asked mid new granted first second global other =
      let p : Pass = pass_on t given old in
      let one = asked_more p id [] old mid features.Func true (asked_none p id asked) first in
      let two = asked_more p id (features.Func ∷ []) mid new features.FuncGlobal granted one.0 second in
      let kept : grants new features.Func ≡ true = asked_kept p id (features.Func ∷ []) mid new features.FuncGlobal features.Func granted one.0 second refl ∙ one.1 in (
        (
          features.Func ∷ features.FuncGlobal ∷ [],
          two.0,
          asks_both (pass_on t given new) id b there kind name is_name
              (ap (λ (g : Bool). g && is_global (record_of b) && not (is_builtin name)) kept ∙ ap (λ (g : Bool). g && not (is_builtin name)) global ∙ ap not other),
        ),
        kept,
        two.1,
      )

-- ---- the name

-- a checked name can be read
pub read_name : (strings : List ℕ) (offset name : ℕ) → ◌≡◌ {A = Result ⊤ Refusal} (Ok tt) (checked (name_is_read (text_at strings offset)) tt) → offset ≡ name → (text : List ℕ) × (Ok text ≡ text_at strings name)
read_name strings offset name passed is = let found = there (text_at strings offset) passed in (found.0, found.1 ∙ ap (text_at strings) is)
  where
    there : (read : Result (List ℕ) Refusal) → ◌≡◌ {A = Result ⊤ Refusal} (Ok tt) (checked (name_is_read read) tt) → (text : List ℕ) × (Ok text ≡ read)
    there (Ok text) passed = (text, refl)
    there (Err refusal) passed = absurd (none-some tt (sym (ap (result_ok {T = ⊤} {E = Refusal}) passed)))

-- or why it can't be read
pub unread_name : (strings : List ℕ) (offset name : ℕ) (refusal : Refusal) → ◌≡◌ {A = Result ⊤ Refusal} (Err refusal) (checked (name_is_read (text_at strings offset)) tt) → offset ≡ name → Err refusal ≡ text_at strings name
unread_name strings offset name refusal refused is = there (text_at strings offset) refused ∙ ap (text_at strings) is
  where
    there : (read : Result (List ℕ) Refusal) → ◌≡◌ {A = Result ⊤ Refusal} (Err refusal) (checked (name_is_read read) tt) → Err refusal ≡ read
    there (Ok text) refused = absurd (none-some tt (ap (result_ok {T = ⊤} {E = Refusal}) refused))
    there (Err other) refused = ap (λ (f : Refusal). Err f) (same_Some refusal other (ap (result_err {T = ⊤} {E = Refusal}) refused))

-- the name is a builtin's if the strings from its offset on begin with a builtin's name
pub is_known : (strings rest text : List ℕ) (offset name : ℕ) (known : Bool) → rest ≡ drop offset strings → offset ≡ name → Ok text ≡ text_at strings name → known ≡ begins_builtin rest → is_builtin text ≡ known
is_known strings rest text offset name known rest_is offset_is text_is known_is =
    sym (known_is ∙ ap begins_builtin rest_is ∙ builtin_is strings offset text (ap (text_at strings) offset_is ∙ sym text_is))

-- ---- the linkage

abbrev is_global_linkage : FuncLinkage → Bool
is_global_linkage linkage.Global = true
is_global_linkage other = false

pub linkage_global : (n : ℕ) → func_linkage_of n ≡ linkage.Global → (n == 1) ≡ true
linkage_global n is = sym (by_cases (n == 0) (n == 1) (n == 2) (λ zero_is. ap (λ (m : ℕ). m == 1) (eqb-true n 0 zero_is))) ∙ ap is_global_linkage is
  where
    by_cases : (a b c : Bool) → (a ≡ true → b ≡ false) → is_global_linkage (if a then linkage.Static else (if b then linkage.Global else (if c then linkage.Extern else linkage.Unknown))) ≡ b
    by_cases true b c not_both = sym (not_both refl)
    by_cases false true c not_both = refl
    by_cases false false true not_both = refl
    by_cases false false false not_both = refl

pub linkage_other : (n : ℕ) → func_linkage_of n ≢ linkage.Global → (n == 1) ≡ false
linkage_other n other = false_from_ne_true (n == 1) (λ is. other (ap func_linkage_of (eqb-true n 1 is)))

-- nothing is asked
pub none_asked : (t : Table) (given : Given) (id : ℕ) (old : List FeatureAnswer) → AreAnswersTo (asks_below (pass_on t given old) id) old → (left : List BtfFeature) × AsksUpTo (pass_on t given old) id old left
none_asked t given id old asked = (asks (pass_on t given old) id, ([], asked_none (pass_on t given old) id asked, refl))

-- ---- three tests

pub and_second : (a b c : Bool) → b ≡ false → (a && b && c) ≡ false
and_second true b c is = ap (λ (x : Bool). x && c) is
and_second false b c is = refl

pub and_third : (a b c : Bool) → c ≡ true → (a && b && not c) ≡ false
and_third true true c is = ap not is
and_third true false c is = refl
and_third false b c is = refl

pub and_first : (a b c : Bool) → a ≡ false → (a && b && c) ≡ false
and_first a b c is = ap (λ (x : Bool). x && b && c) is

pub not_if : (a b : Bool) → a ≡ false → (a && b) ≡ false
not_if a b is = ap (λ (x : Bool). x && b) is

pub changes_if : (a b c : Bool) → a ≡ true → b ≡ true → (a && (b || not c)) ≡ true
changes_if a b c one two = ap (λ (x : Bool). x && (b || not c)) one ∙ ap (λ (x : Bool). x || not c) two

pub changes_else : (a b c : Bool) → a ≡ true → b ≡ false → c ≡ false → (a && (b || not c)) ≡ true
changes_else a b c one two three = ap (λ (x : Bool). x && (b || not c)) one ∙ ap (λ (x : Bool). x || not c) two ∙ ap not three

pub stays_if : (a b c : Bool) → a ≡ true → b ≡ false → c ≡ true → (a && (b || not c)) ≡ false
stays_if a b c one two three = ap (λ (x : Bool). x && (b || not c)) one ∙ ap (λ (x : Bool). x || not c) two ∙ ap not three
