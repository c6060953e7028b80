-- The rule of a DATASEC.
use Rattle.std.proofs.Common.{◌≡◌, ◌==◌, ℕ, zero, suc, ◌+◌, ◌*◌, ◌≤◌, max, Bool, true, false, not, ◌&&◌, ◌||◌, List, [], ◌∷◌, ◌++◌, length, map, Option, None, Some, Result, Ok, Err, refl, sym, ap, subst, ◌∙◌, arith}
use Rattle.std.specs.Prelude.{if◌then◌else◌, nat_le, IfSome, IfOk, IsErrAnd}
use Rattle.std.specs.List.{flat_map, sum_by}
use Rattle.std.specs.Option.{unwrap_or, is_none}
use Rattle.std.proofs.lemmas.Bool.{false≢true, eqb-true, leb-true}
use Rattle.std.proofs.lemmas.Option.{none-some, same_Some, IfSome_then}
use Rattle.std.proofs.lemmas.List.{append-nil}
use Rattle.std.proofs.lemmas.Int.{clamps}
use Rattle.std.proofs.lemmas.List.Folds.{flat_map-map}
use Rattle.btf_model.specs.Record as kinds
use Rattle.btf_model.specs.Record.{Kind, Record, kind_of, vlen}
use Rattle.btf_model.specs.Refusal.{Refusal, InvalidTypeInfo}
use Rattle.btf_model.specs.Table.{section_limit}
use Rattle.btf_model.specs.Text.{text_at}
use Rattle.btf_rewrite_model.specs.declared.feature.BtfFeature.TheVariants as features
use Rattle.btf_rewrite_model.specs.Feature.{fills_sized, grants, has_no_entries, is_sized_and_empty}
use Rattle.btf_rewrite_model.specs.declared.feature.BtfFeature.{BtfFeature}
use Rattle.btf_rewrite_model.specs.declared.feature.FeatureAnswer.{FeatureAnswer}
use Rattle.btf_rewrite_model.specs.declared.feature.FillPolicy.{FillPolicy}
use Rattle.btf_rewrite_model.specs.Made as model
use Rattle.btf_rewrite_model.specs.Made.{section_entries, record_at, kind_at, byte_int, static_var}
use Rattle.btf_rewrite_model.specs.Checks.{Check, first_fault, name_is_read, has_room, have_room, fits, record_len}
use Rattle.btf_rewrite_model.specs.Pass.{Pass, has, name_of, name_checks, sized_asks_zero, unsized_asks_zero, renaming, section_size, size_by_name, is_unsized, is_zero_or, is_positive, gets_filler, makes_filler, least, filler_type_text, filler_text, filler, filler_offset, texts, texts_len, added, free_id, offset_at, type_len_at, wants_member_type, asks, asks_by, asks_below, data_sec_asks}
use Rattle.btf_rewrite_model.specs.Rule as rule
use Rattle.btf_rewrite_model.specs.Rule.{becomes_by, ruled_below, new_name, name_or, completed, placed, filler_id, entry_members, member_name}
use Rattle.btf_rewrite_model.specs.Fault.{fault, member_checks, entry_checks, completing_checks, filling_checks, filler_checks, growth_checks, is_sized}
use Rattle.btf_rewrite_model.proofs.Lengths.{entries_len, IsFilled, is_filled}
use Rattle.btf_rewrite_model.specs.Passing.{MadeBelow}
use Rattle.btf_rewrite_model.proofs.FirstMade.{makes_first, made_first, makes_no_second, made_next, made_is}
use Rattle.btf_rewrite_model.specs.Passing.{AreAnswersTo}
use Rattle.btf_rewrite_model.proofs.Passing.{NextAnswers}
use Rattle.btf_plain.specs.Error.{MeetsOrNoMemory, IsOrNoMemory, refusal_of}
use Rattle.btf_plain.specs.declared.error.BtfError.{BtfError}
use Rattle.btf_records.specs.BtfType.{record_of, fallback_of}
use Rattle.btf_records.specs.declared.btf_type.BtfType.{BtfType}
use Rattle.btf_records.specs.declared.btf_type.BtfType.TheVariants.{DataSec}
use Rattle.btf_table.specs.Adding.{next_string_offset, next_id, Adds}
use Rattle.btf_table.specs.Checked.{checked}
use Rattle.btf_table.specs.Btf.{IsType}
use Rattle.btf_table.specs.PassStep.{IsHere, IsRuled, Rules, growth, HasAsked, AsksUpTo}
use Rattle.btf_table.specs.SectionStep.{HasNewName, filler_section, final_size, is_fillable, asks_zero}
use Rattle.btf_table.specs.declared.sanitize.made.Made.{Made}
use Rattle.btf_table.proofs.Adding.{adds_none, adds_then}
use Rattle.btf_table.proofs.Checks.{fault_after, fault_before, fault_third, checked_ok, checked_err}
use Rattle.btf_table.proofs.Prototypes.{end_after}
use Rattle.btf_plain.proofs.Refused.{handed_on}
use Rattle.btf_table.proofs.SectionItems.{id_stays}
use Rattle.btf_table.specs.Features.{Resolver, AsksResolver, Called, IsFurther}
use Rattle.btf_table.proofs.PassAsking.{asks_called, asks_further, further_none, asked_none, asked_more, asked_kept}
use Rattle.btf_table.proofs.PassRules.{record_there, kind_there, becomes_there, fault_there, texts_there, added_there, falls_back_there, made_on, wants_none, grown_by, same_len}

-- ---- results

-- an error is passed on, and is the refusal of the same tests
pub reported_on : {X Y U : Type 0} (view : X → Y) (e : BtfError) (r : Result X BtfError) (f : Option Refusal) (u : U) (y : Y) → IsErrAnd r (λ x. x ≡ e) → IfSome (refusal_of e) (λ refusal. ◌≡◌ {A = Result U Refusal} (Err refusal) (checked f u)) → IsOrNoMemory view r (checked f y)
reported_on view e r f u y err is =
    handed_on view e r (λ a. a ≡ checked f y) err (IfSome_then _ is (λ refusal same. sym (ap (λ (o : Option Refusal). checked o y) (checked_err f u refusal same))))

-- a type that is made, or a refusal by these tests
pub ruled_answer : (p : Pass) (id : ℕ) (b : BtfType) (before after : Made) (f : Option Refusal) (x : Record) (r : Result (Option BtfType) BtfError) → IsOrNoMemory (λ new. record_of (unwrap_or new b)) r (checked f x) → IfOk r (λ new. fallback_of (unwrap_or new b) ≡ None)
    → ((refusal : Refusal) → f ≡ Some refusal → fault p id ≡ Some refusal) → ((new : BtfType) → f ≡ None → record_of new ≡ x → fallback_of new ≡ None → IsRuled p id b before after new) → MeetsOrNoMemory (λ new. unwrap_or new b) r (Rules p id b before after)
ruled_answer p id b before after f x (Ok new) words fallback refused rule =
    let ok = checked_ok f x (record_of (unwrap_or new b)) words in
    rule (unwrap_or new b) ok.0 ok.1 fallback
ruled_answer p id b before after f x (Err e) words fallback refused rule = IfSome_then _ words (λ refusal is. refused refusal (checked_err f x refusal is))

-- ---- what a DATASEC asks for, and whether it gets the filler

read_name : (name : Result (List ℕ) Refusal) (rest : List Check) → first_fault (name_is_read name ∷ rest) ≡ None → (name_is_read name ≡ None) × (first_fault rest ≡ None)
read_name (Ok name) rest passed = (refl, passed)
read_name (Err refusal) rest passed = absurd (none-some refusal (sym passed))

-- the size of a section is tested after its name is read
size_faults : (name : Result (List ℕ) Refusal) (size : Option ℕ) (rest : List Check) (refusal : Refusal) → name_is_read name ≡ None → first_fault (name_is_read name ∷ is_sized size name ∷ []) ≡ Some refusal
    → (first_fault (is_sized size name ∷ rest) ≡ Some refusal) × (is_positive size ≡ false)
size_faults (Err other) size rest refusal read faults = absurd (none-some other (sym read))
size_faults (Ok name) None rest refusal read faults = (faults, refl)
size_faults (Ok name) (Some size) rest refusal read faults = absurd (none-some refusal faults)

size_passes : (name : Result (List ℕ) Refusal) (size : Option ℕ) (n : ℕ) → name_is_read name ≡ None → first_fault (name_is_read name ∷ is_sized size name ∷ []) ≡ None → n ≡ unwrap_or size 0 → size ≡ Some n
size_passes (Err other) size n read passed is = absurd (none-some other (sym read))
size_passes (Ok name) None n read passed is = absurd (none-some _ (sym passed))
size_passes (Ok name) (Some size) n read passed is = ap (λ (m : ℕ). Some m) (sym is)

module _ (p : Pass) (id : ℕ) (r : Record) (there : IsType p.table id (DataSec r)) (kind : kind_of r.info ≡ Some kinds.DataSec) where
  kind_is : kind_at p.table id ≡ Some kinds.DataSec
  kind_is = kind_there p.table id (DataSec r) there ∙ kind

  pub section_name_is : name_of p id ≡ text_at p.table.strings r.name
  section_name_is = ap (λ (q : Record). text_at p.table.strings q.name) (record_there p.table id (DataSec r) there)

  asks_is : asks p id ≡ data_sec_asks p id r
  asks_is = ap (λ (k : Option Kind). asks_by p id k (record_at p.table id)) kind_is ∙ ap (data_sec_asks p id) (record_there p.table id (DataSec r) there)

  -- whether DataSecZero is asked for
  abbrev pub is_zero_asked : Bool
  is_zero_asked = has p features.DataSec && (sized_asks_zero p id r || unsized_asks_zero p id r)

  pub section_asks : (b : Bool) → is_zero_asked ≡ b → asks p id ≡ (if b then features.DataSec ∷ features.DataSecZero ∷ [] else features.DataSec ∷ [])
  section_asks b is = asks_is ∙ ap (λ (c : Bool). if c then features.DataSec ∷ features.DataSecZero ∷ [] else features.DataSec ∷ []) is

  -- DataSec is asked for first
  pub section_asks_first : (left : List BtfFeature) × (asks p id ≡ (features.DataSec ∷ []) ++ left)
  section_asks_first =
      elim is_zero_asked as (λ (b : Bool). is_zero_asked ≡ b → (left : List BtfFeature) × (asks p id ≡ (features.DataSec ∷ []) ++ left)) [
        | true ↦ λ is. (features.DataSecZero ∷ [], section_asks true is)
        | false ↦ λ is. ([], section_asks false is)
      ] refl

  pub denied_asks : has p features.DataSec ≡ false → asks p id ≡ features.DataSec ∷ []
  denied_asks denied = section_asks false (ap (λ (b : Bool). b && (sized_asks_zero p id r || unsized_asks_zero p id r)) denied)

  abbrev reads_name : Bool
  reads_name = is_none (first_fault (name_checks p id))

  abbrev has_room_for_it : Bool
  has_room_for_it = is_none (first_fault (have_room (offset_at p id) (renaming p (name_of p id))))

  pub unknown_asks : (r.third == 0) ≡ true → is_positive (section_size p id) ≡ false → asks p id ≡ features.DataSec ∷ []
  unknown_asks unsized none =
      section_asks false
      (ap (λ (z : Bool). has p features.DataSec && ((fills_sized p.policy && not z && has_no_entries r && reads_name) || (z && has_no_entries r && has_room_for_it && is_positive (section_size p id)))) unsized
      ∙ ap (λ (b : Bool). has p features.DataSec && ((fills_sized p.policy && false && has_no_entries r && reads_name) || (has_no_entries r && has_room_for_it && b))) none
      ∙ never (has p features.DataSec) (fills_sized p.policy) (has_no_entries r) reads_name has_room_for_it)
    where
      never : (d s e n room : Bool) → (d && ((s && false && e && n) || (e && room && false))) ≡ false
      never false s e n room = refl
      never true true true n true = refl
      never true true true n false = refl
      never true true false n room = refl
      never true false true n true = refl
      never true false true n false = refl
      never true false false n room = refl

  -- a name that can't be read, or a new name that does not fit
  pub unnamed_asks : (refusal : Refusal) → first_fault (name_checks p id) ≡ Some refusal → asks p id ≡ features.DataSec ∷ []
  unnamed_asks refusal faults =
      let before : Bool = (r.third == 0) && has_no_entries r in
      section_asks false
      (ap (λ (o : Option Refusal). has p features.DataSec && ((fills_sized p.policy && not (r.third == 0) && has_no_entries r && is_none o) || unsized_asks_zero p id r)) faults
      ∙ ap (λ (b : Bool). has p features.DataSec && ((fills_sized p.policy && not (r.third == 0) && has_no_entries r && false) || b)) (ends before (name_of p id) faults)
      ∙ never (has p features.DataSec) (fills_sized p.policy && not (r.third == 0) && has_no_entries r))
    where
      ends : (before : Bool) (name : Result (List ℕ) Refusal) → first_fault (name_is_read name ∷ have_room (offset_at p id) (renaming p name)) ≡ Some refusal
          → (before && is_none (first_fault (have_room (offset_at p id) (renaming p name))) && is_positive (size_by_name p name)) ≡ false
      ends true (Ok name) faulty = ap (λ (o : Option Refusal). is_none o && is_positive (size_by_name p (Ok name))) faulty
      ends false (Ok name) faulty = refl
      ends true (Err other) faulty = refl
      ends false (Err other) faulty = refl

      never : (d a : Bool) → (d && ((a && false) || false)) ≡ false
      never true true = refl
      never true false = refl
      never false a = refl

  pub filler_there : gets_filler p id
      ≡ (has p features.DataSec && ((fills_sized p.policy && (has_no_entries r && not (r.third == 0)) && not (has p features.DataSecZero)) || ((r.third == 0) && has_no_entries r && is_zero_or (not (has p features.DataSecZero)) (section_size p id))))
  filler_there =
      ap (λ (k : Option Kind). has p features.DataSec && ((fills_sized p.policy && is_sized_and_empty k (record_at p.table id) && not (has p features.DataSecZero))
      || (is_unsized k (record_at p.table id) && has_no_entries (record_at p.table id) && is_zero_or (not (has p features.DataSecZero)) (section_size p id)))) kind_is
      ∙ ap (λ (q : Record). has p features.DataSec && ((fills_sized p.policy && (has_no_entries q && not (q.third == 0)) && not (has p features.DataSecZero))
      || ((q.third == 0) && has_no_entries q && is_zero_or (not (has p features.DataSecZero)) (section_size p id)))) (record_there p.table id (DataSec r) there)

  denied_unfilled : has p features.DataSec ≡ false → gets_filler p id ≡ false
  denied_unfilled denied =
      filler_there ∙ ap (λ (b : Bool). b && ((fills_sized p.policy && (has_no_entries r && not (r.third == 0)) && not (has p features.DataSecZero)) || ((r.third == 0) && has_no_entries r && is_zero_or (not (has p features.DataSecZero)) (section_size p id)))) denied

  -- ---- its tests, after it has its name

  pub unnamed_faults : (refusal : Refusal) → first_fault (name_checks p id) ≡ Some refusal → fault p id ≡ Some refusal
  unnamed_faults refusal faults = fault_there p id (DataSec r) (Some kinds.DataSec) there kind ∙ fault_before (name_checks p id) _ refusal faults

  abbrev rest_by : Bool → Bool → List Check
  rest_by granted unsized = if granted then (if unsized then completing_checks p id r else filling_checks p id) else flat_map (member_checks p) (section_entries r.tail)

  fault_by : (granted unsized : Bool) → first_fault (name_checks p id) ≡ None → has p features.DataSec ≡ granted → (r.third == 0) ≡ unsized → fault p id ≡ first_fault (rest_by granted unsized)
  fault_by granted unsized passed has_it is =
      fault_there p id (DataSec r) (Some kinds.DataSec) there kind ∙ fault_after (name_checks p id) (rest_by (has p features.DataSec) (r.third == 0)) passed
      ∙ ap (λ (b : Bool). first_fault (rest_by b (r.third == 0))) has_it ∙ ap (λ (b : Bool). first_fault (rest_by granted b)) is

  pub size_fault : (refusal : Refusal) → first_fault (name_checks p id) ≡ None → has p features.DataSec ≡ true → (r.third == 0) ≡ true → first_fault (name_is_read (name_of p id) ∷ is_sized (section_size p id) (name_of p id) ∷ []) ≡ Some refusal
      → (asks p id ≡ features.DataSec ∷ []) × (fault p id ≡ Some refusal)
  size_fault refusal passed granted unsized faults =
      let read = read_name (name_of p id) _ passed in
      let is = size_faults (name_of p id) (section_size p id) ((if makes_filler p id then filler_checks p id else []) ++ flat_map (entry_checks p) (section_entries r.tail) ++ growth_checks p id) refusal read.0 faults in
      (unknown_asks unsized is.1, fault_by true true passed granted unsized ∙ is.0)

  pub size_known : (size : ℕ) → first_fault (name_checks p id) ≡ None → first_fault (name_is_read (name_of p id) ∷ is_sized (section_size p id) (name_of p id) ∷ []) ≡ None → size ≡ unwrap_or (section_size p id) 0 → section_size p id ≡ Some size
  size_known size passed known is = size_passes (name_of p id) (section_size p id) size (read_name (name_of p id) _ passed).0 known is

-- ---- one that gets no filler

module _ (p : Pass) (id : ℕ) (r : Record) (name : ℕ) (before now : Made) (n : HasNewName p id r name before now) where
  wants_is : wants_member_type p id ≡ false
  wants_is = wants_none p id (Some kinds.DataSec) (kind_is p id r n.there n.kind) refl

  member_type_is : MadeBelow (wants_member_type p) (free_id p) (suc id) now.member_type
  member_type_is = subst (MadeBelow (wants_member_type p) (free_id p) (suc id)) (sym n.member_type) (made_on (wants_member_type p) (free_id p) id before.member_type n.here.member_type wants_is)

  unfilled_ruled : (new : BtfType) → gets_filler p id ≡ false → fault p id ≡ None → record_of new ≡ becomes_by p (ruled_below p id) id (Some kinds.DataSec) r → length (record_of new).tail ≡ length r.tail → fallback_of new ≡ None → IsRuled p id (DataSec r) before now new
  unfilled_ruled new unfilled passed is tail none =
      let makes : makes_filler p id ≡ false = ap (λ (b : Bool). b && (least (gets_filler p) id == id)) unfilled in
      record {
        passed = passed;
        record_is = is ∙ sym (becomes_there p id (DataSec r) (Some kinds.DataSec) n.there n.kind);
        fallback_is = none ∙ sym (falls_back_there p id (DataSec r) (Some kinds.DataSec) n.there n.kind);
        len = same_len p id r (record_of new) tail unfilled;
        grown = grown_by p id before now (renaming p (name_of p id)) [] n.adds
            (texts_there p id (DataSec r) (Some kinds.DataSec) n.there n.kind ∙ ap (λ (b : Bool). renaming p (name_of p id) ++ (if b then filler_type_text ∷ filler_text ∷ [] else [])) makes ∙ append-nil (renaming p (name_of p id)))
            (added_there p id (DataSec r) (Some kinds.DataSec) n.there n.kind ∙ ap (λ (b : Bool). if b then filler (filler_offset p id) (free_id p id) else []) makes) unfilled n.names member_type_is n.here.filler n.filler;
      }

  abbrev completed_is : Record
  completed_is = completed p id (unwrap_or (section_size p id) 0) r

  abbrev as_struct_is : Record
  as_struct_is = model.struct (new_name p id r) (vlen r.info) (vlen r.info) (entry_members p (ruled_below p id) id (section_entries r.tail))

  becomes_if : (granted unsized : Bool) → has p features.DataSec ≡ granted → (r.third == 0) ≡ unsized
      → becomes_by p (ruled_below p id) id (Some kinds.DataSec) r ≡ (if granted then (if unsized then completed_is else rule.sized p id r) else as_struct_is)
  becomes_if granted unsized has_it is =
      ap (λ (b : Bool). if b then (if r.third == 0 then completed_is else rule.sized p id r) else as_struct_is) has_it ∙ ap (λ (b : Bool). if granted then (if b then completed_is else rule.sized p id r) else as_struct_is) is

  pub struct_answer : (result : Result (Option BtfType) BtfError) → has p features.DataSec ≡ false
      → IsOrNoMemory (λ new. record_of (unwrap_or new (DataSec r))) result (checked (first_fault (flat_map (member_checks p) (section_entries r.tail))) (model.struct name (vlen r.info) (vlen r.info) (entry_members p (ruled_below p id) (length (ruled_below p id)) (section_entries r.tail))))
      → IfOk result (λ new. fallback_of (unwrap_or new (DataSec r)) ≡ None) → MeetsOrNoMemory (λ new. unwrap_or new (DataSec r)) result (Rules p id (DataSec r) before now)
  struct_answer result denied words fallback =
      let faults = fault_by p id r n.there n.kind false (r.third == 0) n.passed denied refl in
      ruled_answer p id (DataSec r) before now _ _ result words fallback (λ refusal is. faults ∙ is)
      (λ new passed is none. unfilled_ruled new (denied_unfilled p id r n.there n.kind denied) (faults ∙ passed)
      (is ∙ ap (λ (m : ℕ). model.struct m (vlen r.info) (vlen r.info) (entry_members p (ruled_below p id) (length (ruled_below p id)) (section_entries r.tail))) (sym n.name_is)
      ∙ ap (λ (m : ℕ). model.struct (new_name p id r) (vlen r.info) (vlen r.info) (entry_members p (ruled_below p id) m (section_entries r.tail))) n.here.count
      ∙ sym (becomes_if false (r.third == 0) denied refl))
      (ap (λ (x : Record). length x.tail) is ∙ entries_len (λ e. member_name p (ruled_below p id) (length (ruled_below p id)) e.type ∷ e.type ∷ e.offset * 8 ∷ []) (λ e. refl) (vlen r.info) r.tail n.tail) none)

  pub renamed_answer : (result : Result (Option BtfType) BtfError) → has p features.DataSec ≡ true → (r.third == 0) ≡ false → gets_filler p id ≡ false → IsOrNoMemory (λ new. record_of (unwrap_or new (DataSec r))) result (Ok (record r { name = name })) → IfOk result (λ new. fallback_of (unwrap_or new (DataSec r)) ≡ None)
      → MeetsOrNoMemory (λ new. unwrap_or new (DataSec r)) result (Rules p id (DataSec r) before now)
  renamed_answer result granted sized unfilled words fallback =
      let makes : makes_filler p id ≡ false = ap (λ (b : Bool). b && (least (gets_filler p) id == id)) unfilled in
      let faults : fault p id ≡ None =
      fault_by p id r n.there n.kind true false n.passed granted sized ∙ ap (λ (b : Bool). first_fault ((if b then filler_checks p id else []) ++ growth_checks p id)) makes
      ∙ ap (λ (b : Bool). first_fault (if b then fits (type_len_at p id + sum_by record_len (added p id)) 12 ∷ [] else [])) unfilled in
      ruled_answer p id (DataSec r) before now None (record r { name = name }) result words fallback (λ refusal is. absurd (none-some refusal is))
      (λ new passed is none. unfilled_ruled new unfilled faults
      (is ∙ ap (λ (m : ℕ). record r { name = m }) (sym n.name_is)
      ∙ sym (becomes_if true false granted sized ∙ ap (λ (b : Bool). if b then rule.filled p id r.third r else record r { name = new_name p id r }) unfilled)) (ap (λ (x : Record). length x.tail) is) none)

  abbrev completed_by : ℕ → Bool → Record
  completed_by size b = if b then rule.filled p id (max size 1) r else model.made_data_sec (new_name p id r) size (vlen r.info) (map (placed p) (section_entries r.tail))

  completed_if : (b : Bool) (size : ℕ) → gets_filler p id ≡ b → section_size p id ≡ Some size → completed_is ≡ completed_by size b
  completed_if b size fills known = ap (λ (o : Option ℕ). completed p id (unwrap_or o 0) r) known ∙ ap (completed_by size) fills

  -- the tests of a DATASEC whose size is known
  completing_if : (b : Bool) (size : ℕ) → gets_filler p id ≡ b → section_size p id ≡ Some size → has p features.DataSec ≡ true → (r.third == 0) ≡ true
      → fault p id ≡ first_fault ((if makes_filler p id then filler_checks p id else []) ++ flat_map (entry_checks p) (section_entries r.tail) ++ (if b then fits (type_len_at p id + sum_by record_len (added p id)) 12 ∷ [] else []))
  completing_if b size fills known granted unsized =
      fault_by p id r n.there n.kind true true n.passed granted unsized
      ∙ ap (λ (o : Option ℕ). first_fault (is_sized o (name_of p id) ∷ (if makes_filler p id then filler_checks p id else []) ++ flat_map (entry_checks p) (section_entries r.tail) ++ growth_checks p id)) known
      ∙ ap (λ (c : Bool). first_fault ((if makes_filler p id then filler_checks p id else []) ++ flat_map (entry_checks p) (section_entries r.tail) ++ (if c then fits (type_len_at p id + sum_by record_len (added p id)) 12 ∷ [] else []))) fills

  pub laid_answer : (size : ℕ) (result : Result (Option BtfType) BtfError) → has p features.DataSec ≡ true → (r.third == 0) ≡ true → gets_filler p id ≡ false → section_size p id ≡ Some size
      → IsOrNoMemory (λ new. record_of (unwrap_or new (DataSec r))) result (checked (first_fault (flat_map (entry_checks p) (section_entries r.tail))) (model.made_data_sec name size (vlen r.info) (map (placed p) (section_entries r.tail))))
      → IfOk result (λ new. fallback_of (unwrap_or new (DataSec r)) ≡ None) → MeetsOrNoMemory (λ new. unwrap_or new (DataSec r)) result (Rules p id (DataSec r) before now)
  laid_answer size result granted unsized unfilled known words fallback =
      let makes : makes_filler p id ≡ false = ap (λ (b : Bool). b && (least (gets_filler p) id == id)) unfilled in
      let faults : fault p id ≡ first_fault (flat_map (entry_checks p) (section_entries r.tail)) =
      completing_if false size unfilled known granted unsized
      ∙ ap (λ (b : Bool). first_fault ((if b then filler_checks p id else []) ++ flat_map (entry_checks p) (section_entries r.tail) ++ [])) makes ∙ ap first_fault (append-nil (flat_map (entry_checks p) (section_entries r.tail))) in
      ruled_answer p id (DataSec r) before now _ _ result words fallback (λ refusal is. faults ∙ is)
      (λ new passed is none. unfilled_ruled new unfilled (faults ∙ passed)
      (is ∙ ap (λ (m : ℕ). model.made_data_sec m size (vlen r.info) (map (placed p) (section_entries r.tail))) (sym n.name_is) ∙ sym (becomes_if true true granted unsized ∙ completed_if false size unfilled known))
      (ap (λ (x : Record). length x.tail) is ∙ ap length (flat_map-map model.entry_words (placed p) (section_entries r.tail)) ∙ entries_len (λ e. model.entry_words (placed p e)) (λ e. refl) (vlen r.info) r.tail n.tail) none)

-- ---- one that gets the filler

-- The filler for an id that gets it: the existing filler, or a new one.
pub record HasFiller (p : Pass) (id : ℕ) (now after : Made) (number : ℕ) : Type 0 where
  pub checks : first_fault (if makes_filler p id then filler_checks p id else []) ≡ None
  pub adds : Adds p.table now.changes after.changes (if makes_filler p id then filler_type_text ∷ filler_text ∷ [] else []) (if makes_filler p id then filler (filler_offset p id) (free_id p id) else [])
  pub made : MadeBelow (gets_filler p) (λ k. free_id p k + 1) (suc id) after.filler
  pub number_is : filler_id p id ≡ number

at_least_one : (n : ℕ) → (n == 0) ≡ false → n ≡ max n 1
at_least_one zero is = absurd (false≢true (sym is))
at_least_one (suc n) is = omega (arith, clamps)

no_words : (words : List ℕ) → length words ≡ 0 → words ≡ []
no_words [] none = refl
no_words (word ∷ words) none = absurd (omega (arith, none))

passes_if : (b : Bool) (refusal : Refusal) → ◌≡◌ {A = Option Refusal} (if b then None else Some refusal) None → b ≡ true
passes_if true refusal is = refl
passes_if false refusal is = absurd (none-some refusal (sym is))

module _ (p : Pass) (id : ℕ) (r : Record) (name : ℕ) (before now : Made) (n : HasNewName p id r name before now) (fills : gets_filler p id ≡ true) where
  parts : IsFilled p id
  parts = is_filled p id fills

  tail_none : r.tail ≡ []
  tail_none =
      let empty : has_no_entries r ≡ true = ap has_no_entries (sym (record_there p.table id (DataSec r) n.there)) ∙ parts.empty in
      no_words r.tail (n.tail ∙ ap (λ (m : ℕ). 3 * m) (eqb-true (vlen r.info) 0 empty))

  offset_is : filler_offset p id ≡ next_string_offset p.table now.changes
  offset_is = ap (λ (o : ℕ). o + texts_len (renaming p (name_of p id))) n.here.offset ∙ sym (end_after p.table before.changes now.changes (renaming p (name_of p id)) [] n.adds)

  free_is : free_id p id ≡ next_id p.table now.changes
  free_is = n.here.free ∙ sym (id_stays p.table before.changes now.changes (renaming p (name_of p id)) n.adds)

  type_len_is : type_len_at p id ≡ now.changes.type_len
  type_len_is = omega (arith, n.here.type_len, n.adds.type_len)

  abbrev checks_at : ℕ → ℕ → List Check
  checks_at offset used =
      has_room offset filler_type_text ∷ fits used (record_len (byte_int 0)) ∷ has_room (offset + length filler_type_text + 1) filler_text ∷ fits (used + record_len (byte_int 0)) (record_len (static_var 0 0)) ∷ []

  abbrev checks_now : List Check
  checks_now = checks_at (next_string_offset p.table now.changes) now.changes.type_len

  checks_are : filler_checks p id ≡ checks_now
  checks_are = ap (λ (o : ℕ). checks_at o (type_len_at p id)) offset_is ∙ ap (checks_at (next_string_offset p.table now.changes)) type_len_is

  abbrev number_of : ℕ → ℕ
  number_of k = free_id p k + 1

  made_before : MadeBelow (gets_filler p) number_of id now.filler
  made_before = subst (MadeBelow (gets_filler p) number_of id) (sym n.filler) n.here.filler

  pub filler_old : (after : Made) (number : ℕ) → now.filler ≡ Some number → after ≡ now → HasFiller p id now after number
  filler_old after number some same =
      let m : MadeBelow (gets_filler p) number_of id (Some number) = subst (MadeBelow (gets_filler p) number_of id) some made_before in
      let makes : makes_filler p id ≡ false = makes_no_second (gets_filler p) number_of id number m in
      let none : Adds p.table now.changes after.changes [] [] = subst (λ (a : Made). Adds p.table now.changes a.changes [] []) (sym same) (adds_none p.table now.changes n.adds.room) in
      record {
        checks = ap (λ (b : Bool). first_fault (if b then filler_checks p id else [])) makes;
        adds = subst (λ (b : Bool). Adds p.table now.changes after.changes (if b then filler_type_text ∷ filler_text ∷ [] else []) (if b then filler (filler_offset p id) (free_id p id) else [])) (sym makes) none;
        made = subst (MadeBelow (gets_filler p) number_of (suc id)) (sym (ap (λ (a : Made). a.filler) same ∙ some)) (made_next (gets_filler p) number_of id number m);
        number_is = made_is (gets_filler p) number_of id number m;
      }

  makes_new : now.filler ≡ None → makes_filler p id ≡ true
  makes_new none = makes_first (gets_filler p) number_of id (subst (MadeBelow (gets_filler p) number_of id) none made_before) ∙ fills

  pub filler_new : (after : Made) (number : ℕ) → now.filler ≡ None → first_fault checks_now ≡ None → number ≡ next_id p.table now.changes + 1
      → Adds p.table now.changes after.changes (filler_type_text ∷ filler_text ∷ []) (filler (next_string_offset p.table now.changes) (next_id p.table now.changes)) → after.filler ≡ Some (next_id p.table now.changes + 1) → HasFiller p id now after number
  filler_new after number none passed is adds made =
      let m : MadeBelow (gets_filler p) number_of id None = subst (MadeBelow (gets_filler p) number_of id) none made_before in
      let makes : makes_filler p id ≡ true = makes_new none in
      let records : filler (filler_offset p id) (free_id p id) ≡ filler (next_string_offset p.table now.changes) (next_id p.table now.changes) = ap (λ (o : ℕ). filler o (free_id p id)) offset_is ∙ ap (filler (next_string_offset p.table now.changes)) free_is in
      record {
        checks = ap (λ (b : Bool). first_fault (if b then filler_checks p id else [])) makes ∙ ap first_fault checks_are ∙ passed;
        adds = subst (λ (b : Bool). Adds p.table now.changes after.changes (if b then filler_type_text ∷ filler_text ∷ [] else []) (if b then filler (filler_offset p id) (free_id p id) else [])) (sym makes)
            (subst (Adds p.table now.changes after.changes (filler_type_text ∷ filler_text ∷ [])) (sym records) adds);
        made = subst (MadeBelow (gets_filler p) number_of (suc id)) (sym (made ∙ ap (λ (k : ℕ). Some (k + 1)) (sym free_is))) (made_first (gets_filler p) number_of id m fills);
        number_is = ap number_of (eqb-true (least (gets_filler p) id) id (second (gets_filler p id) (least (gets_filler p) id == id) makes)) ∙ ap (λ (k : ℕ). k + 1) free_is ∙ sym is;
      }
    where
      second : (a b : Bool) → (a && b) ≡ true → b ≡ true
      second true b both = both
      second false b both = absurd (false≢true both)

  -- which of the two it is
  pub filler_is : (after : Made) (number : ℕ) → ((k : ℕ) → now.filler ≡ Some k → (k ≡ number) × (after ≡ now)) → (now.filler ≡ None → ◌≡◌ {A = Result ℕ Refusal} (Ok number) (checked (first_fault checks_now) (next_id p.table now.changes + 1)))
      → (now.filler ≡ None → Adds p.table now.changes after.changes (filler_type_text ∷ filler_text ∷ []) (filler (next_string_offset p.table now.changes) (next_id p.table now.changes))) → (now.filler ≡ None → after.filler ≡ Some (next_id p.table now.changes + 1))
      → HasFiller p id now after number
  filler_is after number old answer adds made =
      elim now.filler as (λ (o : Option ℕ). now.filler ≡ o → HasFiller p id now after number) [
        | None ↦ λ none.
            let ok = checked_ok _ _ _ (answer none) in
            filler_new after number none ok.0 ok.1 (adds none) (made none)
        | Some k ↦ λ some. subst (HasFiller p id now after) (old k some).0 (filler_old after k some (old k some).1)
      ] refl

  module _ (size : ℕ) (known : final_size p id r ≡ Some size) where
    abbrev first_checks : List Check
    first_checks = if makes_filler p id then filler_checks p id else []

    abbrev last_checks : List Check
    last_checks = fits (type_len_at p id + sum_by record_len (added p id)) 12 ∷ []

    size_of : (z : Bool) → (r.third == 0) ≡ z → (if z then section_size p id else Some r.third) ≡ Some size
    size_of z is = ap (λ (b : Bool). if b then section_size p id else Some r.third) (sym is) ∙ known

    filled_faults : fault p id ≡ first_fault (first_checks ++ [] ++ last_checks)
    filled_faults =
        elim (r.third == 0) as (λ (z : Bool). (r.third == 0) ≡ z → fault p id ≡ first_fault (first_checks ++ [] ++ last_checks)) [
          | true ↦ λ is.
              completing_if p id r name before now n true size fills (size_of true is) parts.granted is
              ∙ ap (λ (words : List ℕ). first_fault (first_checks ++ flat_map (entry_checks p) (section_entries words) ++ last_checks)) tail_none
          | false ↦ λ is.
              fault_by p id r n.there n.kind true false n.passed parts.granted is ∙ ap (λ (b : Bool). first_fault (first_checks ++ (if b then last_checks else []))) fills
              ∙ ap (λ (cs : List Check). first_fault (cs ++ last_checks)) (sym (append-nil first_checks))
        ] refl

    filled_becomes : becomes_by p (ruled_below p id) id (Some kinds.DataSec) r ≡ rule.filled p id (max size 1) r
    filled_becomes =
        elim (r.third == 0) as (λ (z : Bool). (r.third == 0) ≡ z → becomes_by p (ruled_below p id) id (Some kinds.DataSec) r ≡ rule.filled p id (max size 1) r) [
          | true ↦ λ is. becomes_if p id r name before now n true true parts.granted is ∙ completed_if p id r name before now n true size fills (size_of true is)
          | false ↦ λ is.
              let own : r.third ≡ size = same_Some r.third size (size_of false is) in
              becomes_if p id r name before now n true false parts.granted is ∙ ap (λ (b : Bool). if b then rule.filled p id r.third r else record r { name = new_name p id r }) fills
              ∙ ap (λ (m : ℕ). rule.filled p id m r) (at_least_one r.third is ∙ ap (λ (m : ℕ). max m 1) own)
        ] refl

    pub filler_fault : (refusal : Refusal) → now.filler ≡ None → first_fault checks_now ≡ Some refusal → fault p id ≡ Some refusal
    filler_fault refusal none faults =
        filled_faults
        ∙ fault_before (first_checks ++ []) last_checks refusal
        (fault_before first_checks [] refusal (ap (λ (b : Bool). first_fault (if b then filler_checks p id else [])) (makes_new none) ∙ ap first_fault checks_are ∙ faults))

    module _ (after : Made) (number : ℕ) (h : HasFiller p id now after number) where
      added_is : added p id ≡ (if makes_filler p id then filler (filler_offset p id) (free_id p id) else [])
      added_is = added_there p id (DataSec r) (Some kinds.DataSec) n.there n.kind

      used_is : after.changes.type_len ≡ type_len_at p id + sum_by record_len (added p id)
      used_is = h.adds.type_len ∙ ap (λ (rs : List Record). now.changes.type_len + sum_by record_len rs) (sym added_is) ∙ ap (λ (m : ℕ). m + sum_by record_len (added p id)) (sym type_len_is)

      grown_faults : fault p id ≡ first_fault (fits after.changes.type_len 12 ∷ [])
      grown_faults = filled_faults ∙ fault_third first_checks [] last_checks h.checks refl ∙ ap (λ (m : ℕ). first_fault (fits m 12 ∷ [])) (sym used_is)

      pub growth_fault : (refusal : Refusal) → fits after.changes.type_len 12 ≡ Some refusal → fault p id ≡ Some refusal
      growth_fault refusal faults = grown_faults ∙ ap (λ (o : Check). first_fault (o ∷ [])) faults

      has_all : Adds p.table before.changes after.changes (texts p id) (added p id)
      has_all =
          subst (λ ts. Adds p.table before.changes after.changes ts (added p id)) (sym (texts_there p id (DataSec r) (Some kinds.DataSec) n.there n.kind))
          (subst (Adds p.table before.changes after.changes (renaming p (name_of p id) ++ (if makes_filler p id then filler_type_text ∷ filler_text ∷ [] else []))) (sym added_is)
          (adds_then p.table before.changes now.changes after.changes (renaming p (name_of p id)) (if makes_filler p id then filler_type_text ∷ filler_text ∷ [] else []) []
          (if makes_filler p id then filler (filler_offset p id) (free_id p id) else []) n.adds h.adds))

      pub filled_ruled : (new : BtfType) → fits after.changes.type_len 12 ≡ None → record_of new ≡ filler_section name size number → fallback_of new ≡ None → after.names ≡ now.names → after.member_type ≡ now.member_type
          → IsRuled p id (DataSec r) before (record after { changes = record after.changes { type_len = after.changes.type_len + 12 } }) new
      filled_ruled new fits_in is none names member_type =
          let all = has_all in
          let below : after.changes.type_len + 12 ≤ section_limit = leb-true (after.changes.type_len + 12) section_limit (passes_if (nat_le (after.changes.type_len + 12) section_limit) InvalidTypeInfo fits_in) in
          let entry : ℕ → model.Entry = λ k. record { type = k; offset = 0; size = max size 1 } in
          record {
            passed = grown_faults ∙ ap (λ (o : Check). first_fault (o ∷ [])) fits_in;
            record_is = is ∙ ap (λ (k : ℕ). model.made_data_sec name (max size 1) 1 (entry k ∷ [])) (sym h.number_is) ∙ ap (λ (m : ℕ). model.made_data_sec m (max size 1) 1 (entry (filler_id p id) ∷ [])) (sym n.name_is)
                ∙ sym (becomes_there p id (DataSec r) (Some kinds.DataSec) n.there n.kind ∙ filled_becomes);
            fallback_is = none ∙ sym (falls_back_there p id (DataSec r) (Some kinds.DataSec) n.there n.kind);
            len = ap record_len is ∙ sym (ap (λ (words : List ℕ). 4 * (3 + length words) + growth p id) tail_none ∙ ap (λ (b : Bool). 12 + (if b then 12 else 0)) fills);
            grown = record {
              strings = all.strings;
              records = all.records;
              fallbacks = all.fallbacks;
              types = all.types;
              type_len = ap (λ (m : ℕ). m + 12) all.type_len ∙ ap (λ (b : Bool). before.changes.type_len + sum_by record_len (added p id) + (if b then 12 else 0)) (sym fills);
              names = names ∙ n.names;
              member_type = subst (MadeBelow (wants_member_type p) (free_id p) (suc id)) (sym member_type) (member_type_is p id r name before now n);
              filler = h.made;
              room = record { strings = all.room.strings; types = below; ids = omega (arith, all.room.ids) };
            };
          }

-- ---- what is asked for

not_not : (b : Bool) → not (not b) ≡ b
not_not true = refl
not_not false = refl

quiet_fills : (e z y : Bool) → (e && not z) ≡ false → e ≡ (e && (z || not y))
quiet_fills false z y is = refl
quiet_fills true true y is = refl
quiet_fills true false y is = absurd (false≢true (sym is))

asked_fills : (e z y f : Bool) → (e && not z) ≡ true → y ≡ not f → f ≡ (e && (z || not y))
asked_fills true false y f is same = sym (ap not same ∙ not_not f)
asked_fills true true y f is same = absurd (false≢true is)
asked_fills false z y f is same = absurd (false≢true is)

-- whether a DATASEC of size 0 gets the filler, and what it asks for
fills_unsized_so : (s e h z : Bool) → ((s && (e && false) && not h) || (e && (z || not h))) ≡ ((s || true) && e && (z || not h))
fills_unsized_so true true h z = refl
fills_unsized_so true false h z = refl
fills_unsized_so false true h z = refl
fills_unsized_so false false h z = refl

asks_unsized_so : (s e n z : Bool) → ((s && false && e && n) || (e && true && z)) ≡ ((s || true) && e && z)
asks_unsized_so true true n z = refl
asks_unsized_so true false n z = refl
asks_unsized_so false true n z = refl
asks_unsized_so false false n z = refl

-- the same for a DATASEC that has a size
fills_sized_so : (s e h x : Bool) → ((s && (e && true) && not h) || (false && x)) ≡ ((s || false) && e && (false || not h))
fills_sized_so true true true x = refl
fills_sized_so true true false x = refl
fills_sized_so true false h x = refl
fills_sized_so false e h x = refl

asks_sized_so : (s e : Bool) → ((s && true && e && true) || false) ≡ ((s || false) && e && true)
asks_sized_so true true = refl
asks_sized_so true false = refl
asks_sized_so false e = refl

abbrev zero_too : Bool → List BtfFeature
zero_too b = features.DataSec ∷ (if b then features.DataSecZero ∷ [] else [])

both_ways : (b : Bool) → (if b then features.DataSec ∷ features.DataSecZero ∷ [] else features.DataSec ∷ []) ≡ zero_too b
both_ways true = refl
both_ways false = refl

module _ (p : Pass) (id : ℕ) (r : Record) (there : IsType p.table id (DataSec r)) (kind : kind_of r.info ≡ Some kinds.DataSec) where
  abbrev old_name : Result (List ℕ) Refusal
  old_name = text_at p.table.strings r.name

  abbrev name_tests : ℕ → List Check
  name_tests offset = name_is_read old_name ∷ have_room offset (renaming p old_name)

  name_checks_are : (offset : ℕ) → offset_at p id ≡ offset → first_fault (name_checks p id) ≡ first_fault (name_tests offset)
  name_checks_are offset at =
      ap (λ (o : Result (List ℕ) Refusal). first_fault (name_is_read o ∷ have_room (offset_at p id) (renaming p o))) (section_name_is p id r there kind) ∙ ap (λ (o : ℕ). first_fault (name_tests o)) at

  pub name_refused : (offset : ℕ) (refusal : Refusal) → offset_at p id ≡ offset → first_fault (name_tests offset) ≡ Some refusal → (asks p id ≡ features.DataSec ∷ []) × (fault p id ≡ Some refusal)
  name_refused offset refusal at faults =
      let checks : first_fault (name_checks p id) ≡ Some refusal = name_checks_are offset at ∙ faults in
      (unnamed_asks p id r there kind refusal checks, unnamed_faults p id r there kind refusal checks)

  pub has_new_name : (before now : Made) (name : ℕ) → length r.tail ≡ 3 * vlen r.info → IsHere p id before
      → ◌≡◌ {A = Result ℕ Refusal} (Ok name) (checked (first_fault (name_tests (next_string_offset p.table before.changes))) (name_or r.name (next_string_offset p.table before.changes) (renaming p old_name)))
      → Adds p.table before.changes now.changes (renaming p old_name) [] → now.names ≡ before.names → now.member_type ≡ before.member_type → now.filler ≡ before.filler → HasNewName p id r name before now
  has_new_name before now name tail here answer adds names member_type filler =
      let ok = checked_ok _ _ _ answer in
      record {
        there = there;
        kind = kind;
        tail = tail;
        here = here;
        passed = name_checks_are (next_string_offset p.table before.changes) here.offset ∙ ok.0;
        name_is = ap (λ (o : Result (List ℕ) Refusal). name_or r.name (offset_at p id) (renaming p o)) (section_name_is p id r there kind) ∙ ap (λ (o : ℕ). name_or r.name o (renaming p old_name)) here.offset ∙ sym ok.1;
        adds = subst (λ (o : Result (List ℕ) Refusal). Adds p.table before.changes now.changes (renaming p o) []) (sym (section_name_is p id r there kind)) adds;
        names = names;
        member_type = member_type;
        filler = filler;
      }

  abbrev size_tests : Result (List ℕ) Refusal → Option Refusal
  size_tests o = first_fault (name_is_read o ∷ is_sized (size_by_name p o) o ∷ [])

  pub size_refused : (refusal : Refusal) → first_fault (name_checks p id) ≡ None → has p features.DataSec ≡ true → (r.third == 0) ≡ true → size_tests old_name ≡ Some refusal → (asks p id ≡ features.DataSec ∷ []) × (fault p id ≡ Some refusal)
  size_refused refusal passed granted unsized faults = size_fault p id r there kind refusal passed granted unsized (ap size_tests (section_name_is p id r there kind) ∙ faults)

  section_size_is : (size : ℕ) → first_fault (name_checks p id) ≡ None → ◌≡◌ {A = Result ℕ Refusal} (Ok size) (checked (size_tests old_name) (unwrap_or (size_by_name p old_name) 0)) → section_size p id ≡ Some size
  section_size_is size passed answer =
      let ok = checked_ok _ _ _ answer in
      size_known p id r there kind size passed (ap size_tests (section_name_is p id r there kind) ∙ ok.0) (ok.1 ∙ ap (λ (o : Result (List ℕ) Refusal). unwrap_or (size_by_name p o) 0) (sym (section_name_is p id r there kind)))

  pub size_is : (size : ℕ) → first_fault (name_checks p id) ≡ None → ((r.third == 0) ≡ false → size ≡ r.third)
      → ((r.third == 0) ≡ true → ◌≡◌ {A = Result ℕ Refusal} (Ok size) (checked (size_tests old_name) (unwrap_or (size_by_name p old_name) 0))) → final_size p id r ≡ Some size
  size_is size passed own section =
      elim (r.third == 0) as (λ (z : Bool). (r.third == 0) ≡ z → (if z then section_size p id else Some r.third) ≡ Some size) [
        | true ↦ λ is. section_size_is size passed (section is)
        | false ↦ λ is. ap (λ (m : ℕ). Some m) (sym (own is))
      ] refl

  abbrev sizes_by : Bool → Option ℕ
  sizes_by z = if z then section_size p id else Some r.third

  -- with a size that is known
  pub fills_by : (size : ℕ) → has p features.DataSec ≡ true → final_size p id r ≡ Some size → gets_filler p id ≡ (is_fillable p.policy r && ((size == 0) || not (has p features.DataSecZero)))
  fills_by size granted known =
      let s : Bool = fills_sized p.policy in
      let e : Bool = has_no_entries r in
      let h : Bool = has p features.DataSecZero in
      let unsized : Bool → Bool = λ z. z && e && is_zero_or (not h) (section_size p id) in
      filler_there p id r there kind ∙ ap (λ (b : Bool). b && ((s && (e && not (r.third == 0)) && not h) || unsized (r.third == 0))) granted
      ∙ elim (r.third == 0) as (λ (z : Bool). (r.third == 0) ≡ z → sizes_by z ≡ Some size → ((s && (e && not z) && not h) || (z && e && is_zero_or (not h) (section_size p id))) ≡ ((s || z) && e && ((size == 0) || not h))) [
        | true ↦ λ is size_there. ap (λ (o : Option ℕ). (s && (e && false) && not h) || (e && is_zero_or (not h) o)) size_there ∙ fills_unsized_so s e h (size == 0)
        | false ↦ λ is size_there.
            fills_sized_so s e h (is_zero_or (not h) (section_size p id))
            ∙ ap (λ (b : Bool). (s || false) && e && (b || not h)) (sym (ap (λ (m : ℕ). m == 0) (sym (same_Some r.third size size_there)) ∙ is))
      ] refl known

  pub asks_by_size : (size : ℕ) → first_fault (name_checks p id) ≡ None → has p features.DataSec ≡ true → final_size p id r ≡ Some size → asks p id ≡ zero_too (asks_zero p.policy r size)
  asks_by_size size passed granted known =
      let s : Bool = fills_sized p.policy in
      let e : Bool = has_no_entries r in
      let asked : Bool → Option Refusal → Option Refusal → Bool → Bool = λ z named room positive. (s && not z && e && is_none named) || (z && e && is_none room && positive) in
      let room : Option Refusal = first_fault (have_room (offset_at p id) (renaming p (name_of p id))) in
      section_asks p id r there kind (asks_zero p.policy r size)
      (ap (λ (b : Bool). b && asked (r.third == 0) (first_fault (name_checks p id)) room (is_positive (section_size p id))) granted
      ∙ ap (λ (o : Option Refusal). asked (r.third == 0) o room (is_positive (section_size p id))) passed
      ∙ ap (λ (o : Option Refusal). asked (r.third == 0) None o (is_positive (section_size p id))) (read_name (name_of p id) _ passed).1
      ∙ elim (r.third == 0) as (λ (z : Bool). (r.third == 0) ≡ z → sizes_by z ≡ Some size → asked z None None (is_positive (section_size p id)) ≡ ((s || z) && e && not (size == 0))) [
        | true ↦ λ is size_there. ap (λ (o : Option ℕ). asked true None None (is_positive o)) size_there ∙ asks_unsized_so s e true (not (size == 0))
        | false ↦ λ is size_there.
            asks_sized_so s e ∙ ap (λ (b : Bool). (s || false) && e && not b) (sym (ap (λ (m : ℕ). m == 0) (sym (same_Some r.third size size_there)) ∙ is))
      ] refl known)
      ∙ both_ways (asks_zero p.policy r size)

  module _ (below : AreAnswersTo (asks_below p id) p.answers) (one : List FeatureAnswer) (granted : Bool) (next : NextAnswers p.answers features.DataSec granted one) where
    first_asked : HasAsked p id (features.DataSec ∷ []) one × (grants one features.DataSec ≡ granted)
    first_asked = asked_more p id [] p.answers one features.DataSec granted (asked_none p id below) next

    pub granted_one : grants one features.DataSec ≡ granted
    granted_one = first_asked.1

    pub asks_some : (left : List BtfFeature) × AsksUpTo p id one left
    asks_some =
        let first = section_asks_first (record p { answers = one }) id r there kind in
        (first.0, (features.DataSec ∷ [], first_asked.0, first.1))

    pub asks_one : asks (record p { answers = one }) id ≡ features.DataSec ∷ [] → AsksUpTo p id one []
    asks_one is = (features.DataSec ∷ [], first_asked.0, is)

    module _ (size : ℕ) (two : List FeatureAnswer) (fills : Bool) (quiet : asks_zero p.policy r size ≡ false → (two ≡ one) × (fills ≡ is_fillable p.policy r)) (asked : asks_zero p.policy r size ≡ true → NextAnswers one features.DataSecZero (not fills) two) where
      second_asked : (grants two features.DataSec ≡ granted) × HasAsked p id (zero_too (asks_zero p.policy r size)) two × (fills ≡ (is_fillable p.policy r && ((size == 0) || not (grants two features.DataSecZero))))
      second_asked =
          elim (asks_zero p.policy r size)
          as (λ (b : Bool). asks_zero p.policy r size ≡ b → (grants two features.DataSec ≡ granted) × HasAsked p id (zero_too b) two × (fills ≡ (is_fillable p.policy r && ((size == 0) || not (grants two features.DataSecZero))))) [
            | true ↦ λ is.
                let more = asked_more p id (features.DataSec ∷ []) one two features.DataSecZero (not fills) first_asked.0 (asked is) in (
                  asked_kept p id (features.DataSec ∷ []) one two features.DataSecZero features.DataSec (not fills) first_asked.0 (asked is) refl ∙ first_asked.1,
                  more.0,
                  asked_fills (is_fillable p.policy r) (size == 0) (grants two features.DataSecZero) fills is more.1,
                )
            | false ↦ λ is. (
              ap (λ (answers : List FeatureAnswer). grants answers features.DataSec) (quiet is).0 ∙ first_asked.1,
              subst (HasAsked p id (features.DataSec ∷ [])) (sym (quiet is).0) first_asked.0,
              (quiet is).1 ∙ quiet_fills (is_fillable p.policy r) (size == 0) (grants two features.DataSecZero) is,
            )
          ] refl

      pub granted_two : grants two features.DataSec ≡ granted
      granted_two = second_asked.0

      pub asks_two : asks (record p { answers = two }) id ≡ zero_too (asks_zero p.policy r size) → AsksUpTo p id two []
      asks_two is = (zero_too (asks_zero p.policy r size), second_asked.1, is ∙ sym (append-nil (zero_too (asks_zero p.policy r size))))

      pub fills_two : gets_filler (record p { answers = two }) id ≡ (is_fillable p.policy r && ((size == 0) || not (grants two features.DataSecZero))) → gets_filler (record p { answers = two }) id ≡ fills
      fills_two is = is ∙ sym second_asked.2

-- the predicate was called for what was asked
pub zero_called : {F : Type 0} (step : F → BtfFeature → Bool → F → Type 0) (first : F) (policy : FillPolicy) (r : Record) (size : ℕ) (old new : Resolver F) (fills : Bool)
    → (asks_zero policy r size ≡ false → (new ≡ old) × (fills ≡ is_fillable policy r)) → (asks_zero policy r size ≡ true → AsksResolver step features.DataSecZero old (not fills) new) → Called step first old.answers old.predicate → Called step first new.answers new.predicate
zero_called {F} step first policy r size old new fills quiet asked called =
    elim (asks_zero policy r size) as (λ (b : Bool). asks_zero policy r size ≡ b → Called step first new.answers new.predicate) [
      | true ↦ λ is. asks_called step first features.DataSecZero old new (not fills) (asked is) called
      | false ↦ λ is. subst (λ (s : Resolver F). Called step first s.answers s.predicate) (sym (quiet is).0) called
    ] refl

pub zero_further : {F : Type 0} (step : F → BtfFeature → Bool → F → Type 0) (policy : FillPolicy) (r : Record) (size : ℕ) (old new : Resolver F) (fills : Bool) → (asks_zero policy r size ≡ false → (new ≡ old) × (fills ≡ is_fillable policy r))
    → (asks_zero policy r size ≡ true → AsksResolver step features.DataSecZero old (not fills) new) → IsFurther old.answers new.answers
zero_further {F} step policy r size old new fills quiet asked =
    elim (asks_zero policy r size) as (λ (b : Bool). asks_zero policy r size ≡ b → IsFurther old.answers new.answers) [
      | true ↦ λ is. asks_further step features.DataSecZero old new (not fills) (asked is)
      | false ↦ λ is. subst (λ (s : Resolver F). IsFurther old.answers s.answers) (sym (quiet is).0) (further_none old.answers)
    ] refl
