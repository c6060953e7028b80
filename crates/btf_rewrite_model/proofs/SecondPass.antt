-- A second rewrite changes nothing: a rule does not change a new record if the features that it asks for were granted.
use Rattle.std.proofs.Common.{◌≡◌, ◌==◌, ℕ, ◌+◌, Bool, true, false, ◌&&◌, ◌||◌, not, List, [], ◌∷◌, ◌++◌, length, Option, None, Some, Ok, refl, sym, ap, subst, ◌∙◌}
use Rattle.std.specs.Prelude.{if◌then◌else◌}
use Rattle.std.specs.Option.{is_none, unwrap_or}
use Rattle.std.specs.List.{flat_map, sum_by}
use Rattle.std.proofs.lemmas.Bool.{false≢true, true≢false}
use Rattle.std.proofs.lemmas.Slice.Eq.{bytes_eq-Decides}
use Rattle.btf_model.specs.Record as kinds
use Rattle.btf_model.specs.Record.{Kind, Record, unknown, kind_of, vlen}
use Rattle.btf_model.specs.Table.{Fallback}
use Rattle.btf_rewrite_model.specs.declared.feature.BtfFeature.TheVariants as features
use Rattle.btf_rewrite_model.specs.Feature.{same_feature, is_global, is_signed, has_no_entries, needs_by, is_sized_and_empty, fills_sized}
use Rattle.btf_rewrite_model.specs.declared.feature.BtfFeature.{BtfFeature}
use Rattle.btf_rewrite_model.specs.Made.{record_at, kind_at, section_entries, variants, byte_int, const, typedef, struct, union, enum, with_linkage, unsigned, enum64_fallback}
use Rattle.btf_rewrite_model.specs.Checks.{first_fault, name_is_read, have_room, fits, record_len}
use Rattle.btf_rewrite_model.specs.Pass.{Pass, has, name_of, name_checks, sized_asks_zero, unsized_asks_zero, replaced, slash, dot, new_section_name, renaming, gets_filler, makes_filler, makes_member_type, wants_member_type, least, is_enum64, is_unsized, is_zero_or, is_positive, section_size, is_builtin, texts, texts_by, param_texts, offset_at, added, added_by, free_id, func_asks, data_sec_asks, asks_by, filler_type_text, filler_text, filler, filler_offset, member_type_text, param_text, underscore_byte, type_len_at}
use Rattle.btf_rewrite_model.specs.Rule.{becomes_by, known_func, new_name, name_or, named_params, falls_back_by, completed, sized, filled, variant_members, entry_members, member_type_id}
use Rattle.btf_rewrite_model.specs.Fault.{checks_by, completing_checks, filling_checks, filler_checks, growth_checks, member_checks, all_fit}
use Rattle.btf_rewrite_model.specs.RewriteLaws.{IsAmong}
use Rattle.btf_rewrite_model.proofs.Asking.{needed_by}
use Rattle.btf_rewrite_model.proofs.Agreeing.{first_among, second_among}
use Rattle.btf_rewrite_model.proofs.NewFacts.{NoneWants, FactOf}

one_in_both : (f : BtfFeature) (c : Bool) → IsAmong f (features.DataSec ∷ []) → IsAmong f (if c then features.DataSec ∷ features.DataSecZero ∷ [] else features.DataSec ∷ [])
one_in_both f false among = among
one_in_both f true among = ap (λ (b : Bool). b || (same_feature f features.DataSecZero || false)) (or_false (same_feature f features.DataSec) among)
  where
    or_false : (a : Bool) → (a || false) ≡ true → a ≡ true
    or_false true is = refl
    or_false false is = is

-- a DATASEC that has a size asks for DataSecZero if it has no entries, and is never exempt then
zero_asked : (f : BtfFeature) (d s x z e named room size : Bool) → z ≡ false → IsAmong f (if d && ((s && not z && e && named) || (z && e && room && size)) then features.DataSec ∷ features.DataSecZero ∷ [] else features.DataSec ∷ [])
    → IsAmong f (if e && not (not s && x) then features.DataSec ∷ features.DataSecZero ∷ [] else features.DataSec ∷ [])
zero_asked f d s x true e named room size sized among = absurd (false≢true (sym sized))
zero_asked f d true x false true named room size sized among = both_of (d && (named || false)) among
  where
    both_of : (b : Bool) → IsAmong f (if b then features.DataSec ∷ features.DataSecZero ∷ [] else features.DataSec ∷ []) → IsAmong f (features.DataSec ∷ features.DataSecZero ∷ [])
    both_of true is = is
    both_of false is = one_in_both f true is
zero_asked f true false x false true named room size sized among = one_in_both f (not x) among
zero_asked f false false x false true named room size sized among = one_in_both f (not x) among
zero_asked f true true x false false named room size sized among = among
zero_asked f true false x false false named room size sized among = among
zero_asked f false s x false false named room size sized among = among

-- what a record asks for is needed for it, whatever the record was before
pub asks_need : (q : Pass) (id : ℕ) (x : Bool) (f : BtfFeature) (k : Option Kind) (r : Record) → (k ≡ Some kinds.DataSec → (r.third == 0) ≡ false) → IsAmong f (asks_by q id k r)
    → IsAmong f (needs_by (not (fills_sized q.policy) && x) k r)
asks_need q id x f (Some kinds.DataSec) r sized among =
    zero_asked f (has q features.DataSec) (fills_sized q.policy) x (r.third == 0) (has_no_entries r) (is_none (first_fault (name_checks q id)))
    (is_none (first_fault (have_room (offset_at q id) (renaming q (name_of q id))))) (is_positive (section_size q id)) (sized refl) among
asks_need q id x f k r sized among = needed_by q id f k r among

-- ---- each rule

-- The rule of this kind does not change the record of an id, appends nothing, and does not refuse it.
pub record Stays (q : Pass) (id : ℕ) (k : Option Kind) : Type 0 where
  pub becomes : (lower : List Record) → becomes_by q lower id k (record_at q.table id) ≡ record_at q.table id
  pub texts : texts_by q id k (record_at q.table id) ≡ []
  pub added : (free : ℕ) → added_by q free id k ≡ []
  pub falls_back : (old : Option Fallback) → falls_back_by q k (record_at q.table id) old ≡ old
  pub passes : first_fault (checks_by q id k (record_at q.table id)) ≡ None

-- a rule that may change only the record
kept : (q : Pass) (id : ℕ) (k : Option Kind) → ((lower : List Record) → becomes_by q lower id k (record_at q.table id) ≡ record_at q.table id) → texts_by q id k (record_at q.table id) ≡ []
    → ((free : ℕ) → added_by q free id k ≡ []) → ((old : Option Fallback) → falls_back_by q k (record_at q.table id) old ≡ old) → first_fault (checks_by q id k (record_at q.table id)) ≡ None → Stays q id k
kept q id k becomes texts added falls_back passes = record { becomes = becomes; texts = texts; added = added; falls_back = falls_back; passes = passes }

none_named : (k offset : ℕ) (words : List ℕ) → NoneWants words → (named_params k offset words ≡ words) × (param_texts k words ≡ [])
none_named k offset [] none = (refl, refl)
none_named k offset (n ∷ []) none = (refl, refl)
none_named k offset (name ∷ type ∷ words) none =
    let rest = none_named (k + 1) offset words none.1 in (
      ap (λ (b : Bool). if b then offset ∷ type ∷ named_params (k + 1) (offset + length (param_text k) + 1) words else name ∷ type ∷ named_params (k + 1) offset words) none.0 ∙ ap (λ ws. name ∷ type ∷ ws) rest.0,
      ap (λ (b : Bool). (if b then param_text k ∷ [] else []) ++ param_texts (k + 1) words) none.0 ∙ rest.1,
    )

func_among : (c : Bool) → IsAmong features.Func (if c then features.Func ∷ features.FuncGlobal ∷ [] else features.Func ∷ [])
func_among true = refl
func_among false = refl

func_stays : (g b h d m : Bool) → d ≡ true → (g && (b || not h)) ≡ false → (IsAmong features.FuncGlobal (if d && g && not b then features.Func ∷ features.FuncGlobal ∷ [] else features.Func ∷ []) → m ≡ true) → (g && (b || not m)) ≡ false
func_stays false b h d m granted keeps asked = refl
func_stays true true h d m granted keeps asked = absurd (true≢false keeps)
func_stays true false h true m granted keeps asked = ap not (asked refl)
func_stays true false h false m granted keeps asked = absurd (false≢true granted)

sign_stays : (s h : Bool) (x y : Record) → (IsAmong features.Enum64 (if s then features.Enum64 ∷ [] else []) → h ≡ true) → (if s && not h then x else y) ≡ y
sign_stays true h x y asked = ap (λ (b : Bool). if not b then x else y) (asked refl)
sign_stays false h x y asked = refl

and_false : (b : Bool) → (b && false) ≡ false
and_false true = refl
and_false false = refl

module _ (p q : Pass) (id : ℕ) where
  no_member_type : has q features.Enum64 ≡ true → makes_member_type q id ≡ false
  no_member_type granted =
      let wants_none : wants_member_type q id ≡ false = ap (λ (b : Bool). is_enum64 (kind_at q.table id) && not b) granted ∙ and_false (is_enum64 (kind_at q.table id)) in
      ap (λ (b : Bool). b && (least (wants_member_type q) id == id)) wants_none

  -- a DATASEC that has a size gets no filler if what it asks for is granted
  no_filler : kind_at q.table id ≡ Some kinds.DataSec → ((record_at q.table id).third == 0) ≡ false → has q features.DataSec ≡ true → first_fault (name_checks q id) ≡ None
      → ((f : BtfFeature) → IsAmong f (data_sec_asks q id (record_at q.table id)) → has q f ≡ true) → gets_filler q id ≡ false
  no_filler kind sized is_granted named granted =
      let r : Record = record_at q.table id in
      ap (λ (k : Option Kind). has q features.DataSec && ((fills_sized q.policy && is_sized_and_empty k r && not (has q features.DataSecZero)) || (is_unsized k r && has_no_entries r && is_zero_or (not (has q features.DataSecZero)) (section_size q id)))) kind
      ∙ never (has q features.DataSec) (fills_sized q.policy) (has_no_entries r) (r.third == 0) (has q features.DataSecZero) (is_none (first_fault (name_checks q id))) (unsized_asks_zero q id r)
      (is_zero_or (not (has q features.DataSecZero)) (section_size q id)) is_granted sized (ap is_none named)
      (λ is. granted features.DataSecZero (second_among (has q features.DataSec && (sized_asks_zero q id r || unsized_asks_zero q id r)) is))
    where
      never : (d s e z h named a x : Bool) → d ≡ true → z ≡ false → named ≡ true → ((d && ((s && not z && e && named) || a)) ≡ true → h ≡ true) → (d && ((s && (e && not z) && not h) || (z && e && x))) ≡ false
      never false s e z h named a x is_d is_z named_is asked = absurd (false≢true is_d)
      never true s e true h named a x is_d is_z named_is asked = absurd (false≢true (sym is_z))
      never true s e false h false a x is_d is_z named_is asked = absurd (false≢true named_is)
      never true true true false h true a x is_d is_z named_is asked = ap (λ (b : Bool). not b || false) (asked refl)
      never true true false false h true a x is_d is_z named_is asked = refl
      never true false e false h true a x is_d is_z named_is asked = refl

  pub stays : (k : Option Kind) → kind_at q.table id ≡ k → FactOf p q.table.strings k (record_at q.table id) → (k ≡ Some kinds.DataSec → ((record_at q.table id).third == 0) ≡ false)
      → ((f : BtfFeature) → IsAmong f (asks_by q id k (record_at q.table id)) → has q f ≡ true) → Stays q id k
  stays (Some kinds.Ptr) kind fact sized granted = kept q id (Some kinds.Ptr) (λ lower. ap (λ (n : ℕ). record (record_at q.table id) { name = n }) (sym fact)) refl (λ free. refl) (λ old. refl) refl
  stays (Some kinds.Var) kind fact sized granted = kept q id (Some kinds.Var) (λ lower. ap (λ (b : Bool). if b then record_at q.table id else byte_int (record_at q.table id).name) (granted features.DataSec refl)) refl (λ free. refl) (λ old. refl) refl
  stays (Some kinds.Float) kind fact sized granted = kept q id (Some kinds.Float) (λ lower. ap (λ (b : Bool). if b then record_at q.table id else struct 0 (record_at q.table id).third 0 []) (granted features.Float refl)) refl (λ free. refl) (λ old. refl) refl
  stays (Some kinds.DeclTag) kind fact sized granted = kept q id (Some kinds.DeclTag) (λ lower. ap (λ (b : Bool). if b then record_at q.table id else byte_int (record_at q.table id).name) (granted features.DeclTag refl)) refl (λ free. refl) (λ old. refl) refl
  stays (Some kinds.TypeTag) kind fact sized granted = kept q id (Some kinds.TypeTag) (λ lower. ap (λ (b : Bool). if b then record_at q.table id else const (record_at q.table id).third) (granted features.TypeTag refl)) refl (λ free. refl) (λ old. refl) refl
  stays (Some kinds.Enum) kind fact sized granted =
      kept q id (Some kinds.Enum) (λ lower. sign_stays (is_signed (record_at q.table id)) (has q features.Enum64) (unsigned (record_at q.table id)) (record_at q.table id) (granted features.Enum64)) refl (λ free. refl) (λ old. refl) refl
  stays (Some kinds.Enum64) kind fact sized granted =
      let r : Record = record_at q.table id in
      let is_granted : has q features.Enum64 ≡ true = granted features.Enum64 refl in
      let makes_none : makes_member_type q id ≡ false = no_member_type is_granted in
      let no_texts : texts_by q id (Some kinds.Enum64) r ≡ [] = ap (λ (b : Bool). if b then member_type_text ∷ [] else []) makes_none in
      let none_added : (free : ℕ) → added_by q free id (Some kinds.Enum64) ≡ [] = λ free. ap (λ (b : Bool). if b then byte_int (offset_at q id) ∷ [] else []) makes_none in
      kept q id (Some kinds.Enum64)
      (λ lower. ap (λ (b : Bool). if b then r else union r.name r.third (vlen r.info) (variant_members (member_type_id q id) (variants r.tail))) is_granted) no_texts none_added
      (λ old. ap (λ (b : Bool). if b then old else Some (enum64_fallback r)) is_granted)
      (ap (λ ts. first_fault (have_room (offset_at q id) ts ++ all_fit (type_len_at q id) (added q id))) (ap (λ k. texts_by q id k r) kind ∙ no_texts)
      ∙ ap (λ rs. first_fault ([] ++ all_fit (type_len_at q id) rs)) (ap (λ k. added_by q (free_id q id) id k) kind ∙ none_added (free_id q id)))
  stays (Some kinds.Func) kind fact sized granted =
      let r : Record = record_at q.table id in
      let name : List ℕ = fact.0 in
      let reads : name_of q id ≡ Ok name = fact.1 in
      let asked : (f : BtfFeature) → IsAmong f (func_asks q r (Ok name)) → has q f ≡ true = λ f among. granted f (subst (λ m. IsAmong f (func_asks q r m)) (sym reads) among) in
      let is_granted : has q features.Func ≡ true = asked features.Func (func_among (has q features.Func && is_global r && not (is_builtin name))) in
      let keeps : (is_global r && (is_builtin name || not (has q features.FuncGlobal))) ≡ false = func_stays (is_global r) (is_builtin name) (has p features.FuncGlobal) (has q features.Func) (has q features.FuncGlobal) is_granted fact.2 (asked features.FuncGlobal) in
      kept q id (Some kinds.Func)
      (λ lower. ap (λ (b : Bool). if b then known_func q r (name_of q id) else typedef r.name r.third) is_granted ∙ ap (known_func q r) reads ∙ ap (λ (b : Bool). if b then with_linkage 0 r else r) keeps)
      refl (λ free. refl) (λ old. refl) (ap (λ m. first_fault (name_is_read m ∷ [])) reads)
  stays (Some kinds.FuncProto) kind fact sized granted =
      let r : Record = record_at q.table id in
      let is_granted : has q features.Func ≡ true = granted features.Func refl in
      let same = none_named 0 (offset_at q id) r.tail fact in
      let no_texts : texts_by q id (Some kinds.FuncProto) r ≡ [] = ap (λ (b : Bool). if b then param_texts 0 r.tail else []) is_granted ∙ same.1 in
      kept q id (Some kinds.FuncProto)
      (λ lower. ap (λ (b : Bool). if b then record r { tail = named_params 0 (offset_at q id) r.tail } else enum r.name (vlen r.info) r.tail) is_granted ∙ ap (λ ws. record r { tail = ws }) same.0)
      no_texts (λ free. refl) (λ old. refl) (ap (λ ts. first_fault (have_room (offset_at q id) ts)) (ap (λ k. texts_by q id k r) kind ∙ no_texts))
  stays (Some kinds.DataSec) kind fact has_third granted =
      let r : Record = record_at q.table id in
      let name : List ℕ = fact.0 in
      let reads : name_of q id ≡ Ok name = fact.1 in
      let has_size : (r.third == 0) ≡ false = has_third refl in
      let is_granted : has q features.DataSec ≡ true = granted features.DataSec (first_among (has q features.DataSec && (sized_asks_zero q id r || unsized_asks_zero q id r))) in
      let section : new_section_name q name ≡ name = ap (λ (b : Bool). if b then replaced slash dot name else replaced dot underscore_byte name) is_granted ∙ fact.2 in
      let none_renamed : renaming q (name_of q id) ≡ [] =
      ap (renaming q) reads ∙ ap (λ (b : Bool). if b then [] else new_section_name q name ∷ []) ((bytes_eq-Decides (new_section_name q name) name).1 section) in
      let named : first_fault (name_checks q id) ≡ None = ap (λ ts. first_fault (name_is_read (name_of q id) ∷ have_room (offset_at q id) ts)) none_renamed ∙ ap (λ m. first_fault (name_is_read m ∷ [])) reads in
      let gets_none : gets_filler q id ≡ false = no_filler kind has_size is_granted named granted in
      let makes_none : makes_filler q id ≡ false = ap (λ (b : Bool). b && (least (gets_filler q) id == id)) gets_none in
      let none_tested : filling_checks q id ≡ [] =
      ap (λ (b : Bool). (if b then filler_checks q id else []) ++ growth_checks q id) makes_none ∙ ap (λ (b : Bool). if b then fits (type_len_at q id + sum_by record_len (added q id)) 12 ∷ [] else []) gets_none in
      kept q id (Some kinds.DataSec)
      (λ lower. ap (λ (b : Bool). if b then (if r.third == 0 then completed q id (unwrap_or (section_size q id) 0) r else sized q id r) else struct (new_name q id r) (vlen r.info) (vlen r.info) (entry_members q lower id (section_entries r.tail))) is_granted
      ∙ ap (λ (b : Bool). if b then completed q id (unwrap_or (section_size q id) 0) r else sized q id r) has_size
      ∙ ap (λ (b : Bool). if b then filled q id r.third r else record r { name = new_name q id r }) gets_none
      ∙ ap (λ ts. record r { name = name_or r.name (offset_at q id) ts }) none_renamed)
      (ap (λ ts. ts ++ (if makes_filler q id then filler_type_text ∷ filler_text ∷ [] else [])) none_renamed ∙ ap (λ (b : Bool). if b then filler_type_text ∷ filler_text ∷ [] else []) makes_none)
      (λ free. ap (λ (b : Bool). if b then filler (filler_offset q id) free else []) makes_none) (λ old. refl)
      (ap (λ ts. first_fault (name_is_read (name_of q id) ∷ have_room (offset_at q id) ts ++ (if has q features.DataSec then (if r.third == 0 then completing_checks q id r else filling_checks q id) else flat_map (member_checks q) (section_entries r.tail)))) none_renamed
      ∙ ap (λ m. first_fault (name_is_read m ∷ [] ++ (if has q features.DataSec then (if r.third == 0 then completing_checks q id r else filling_checks q id) else flat_map (member_checks q) (section_entries r.tail)))) reads
      ∙ ap (λ (b : Bool). first_fault (if b then (if r.third == 0 then completing_checks q id r else filling_checks q id) else flat_map (member_checks q) (section_entries r.tail))) is_granted
      ∙ ap (λ (b : Bool). first_fault (if b then completing_checks q id r else filling_checks q id)) has_size ∙ ap first_fault none_tested)
  stays k kind fact sized granted = kept q id k (λ lower. refl) refl (λ free. refl) (λ old. refl) refl
