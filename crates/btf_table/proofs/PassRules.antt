-- A type is rewritten by the rule of its kind.
use Rattle.std.proofs.Common.{◌≡◌, ◌==◌, ℕ, suc, ◌+◌, ◌*◌, Bool, true, false, not, ◌&&◌, ◌||◌, List, [], ◌∷◌, ◌++◌, length, Option, None, Some, refl, sym, ap, subst, ◌∙◌, arith}
use Rattle.std.specs.Prelude.{if◌then◌else◌, slice_get}
use Rattle.std.specs.Option.{unwrap_or}
use Rattle.std.specs.List.{sum_by}
use Rattle.std.proofs.lemmas.Bool.{false≢true, eqb-true}
use Rattle.btf_model.specs.Record as kinds
use Rattle.btf_model.specs.Record.{Kind, Record, unknown, kind_of, vlen}
use Rattle.btf_model.specs.Refusal.{Refusal}
use Rattle.btf_model.specs.Table.{Table, Fallback}
use Rattle.btf_rewrite_model.specs.declared.feature.BtfFeature.TheVariants as features
use Rattle.btf_rewrite_model.specs.Feature.{fills_sized, has_no_entries, is_sized_and_empty}
use Rattle.btf_rewrite_model.specs.Made as model
use Rattle.btf_rewrite_model.specs.Made.{record_at, kind_at, byte_int}
use Rattle.btf_rewrite_model.specs.Checks.{first_fault, have_room, record_len}
use Rattle.btf_rewrite_model.specs.Pass.{Pass, has, texts, texts_by, added, added_by, free_id, offset_at, type_len_at, gets_filler, wants_member_type, makes_member_type, is_enum64, least, is_unsized, is_zero_or, section_size, param_texts, member_type_text}
use Rattle.btf_rewrite_model.specs.Rule.{becomes, becomes_by, ruled_below, falls_back, falls_back_by, named_params, member_type_id, variant_members}
use Rattle.btf_rewrite_model.specs.Fault.{fault, checks_by, all_fit}
use Rattle.btf_rewrite_model.proofs.Lengths.{named_len, members_len}
use Rattle.btf_rewrite_model.specs.Passing.{is_quiet}
use Rattle.btf_rewrite_model.proofs.Passing.{IsQuiet, quiet}
use Rattle.btf_rewrite_model.specs.Passing.{MadeBelow}
use Rattle.btf_rewrite_model.proofs.FirstMade.{makes_first, made_first, none_next, makes_no_second, made_next, made_is}
use Rattle.btf_records.specs.BtfType.{record_of, fallback_of, type_kind}
use Rattle.btf_records.specs.declared.btf_type.BtfType.TheVariants as types
use Rattle.btf_records.specs.declared.btf_type.BtfType.{BtfType}
use Rattle.btf_table.specs.Adding.{next_string_offset, next_id, Adds}
use Rattle.btf_table.specs.Params.{lack_a_name}
use Rattle.btf_table.proofs.Prototypes.{no_texts, names_stay}
use Rattle.btf_table.proofs.Adding.{adds_none}
use Rattle.btf_table.specs.Btf.{IsType}
use Rattle.btf_table.specs.PassStep.{IsHere, IsGrown, IsRuled, growth}
use Rattle.btf_table.specs.SoleFeature.{asks_one}
use Rattle.btf_table.specs.InPlace.{denied_type}
use Rattle.btf_table.specs.declared.sanitize.made.Made.{Made}

-- ---- the record of an id

pub record_there : (t : Table) (id : ℕ) (b : BtfType) → IsType t id b → record_at t id ≡ record_of b
record_there t id b is = ap (λ (o : Option Record). unwrap_or o unknown) is.record_is

pub kind_there : (t : Table) (id : ℕ) (b : BtfType) → IsType t id b → kind_at t id ≡ kind_of (record_of b).info
kind_there t id b is = ap (λ (r : Record). kind_of r.info) (record_there t id b is)

-- what an id becomes, by its kind and its record
pub becomes_there : (p : Pass) (id : ℕ) (b : BtfType) (k : Option Kind) → IsType p.table id b → kind_of (record_of b).info ≡ k → becomes p id ≡ becomes_by p (ruled_below p id) id k (record_of b)
becomes_there p id b k is kind =
    ap (λ (j : Option Kind). becomes_by p (ruled_below p id) id j (record_at p.table id)) (kind_there p.table id b is ∙ kind) ∙ ap (becomes_by p (ruled_below p id) id k) (record_there p.table id b is)

pub fault_there : (p : Pass) (id : ℕ) (b : BtfType) (k : Option Kind) → IsType p.table id b → kind_of (record_of b).info ≡ k → fault p id ≡ first_fault (checks_by p id k (record_of b))
fault_there p id b k is kind = ap (λ (j : Option Kind). first_fault (checks_by p id j (record_at p.table id))) (kind_there p.table id b is ∙ kind) ∙ ap (λ r. first_fault (checks_by p id k r)) (record_there p.table id b is)

pub texts_there : (p : Pass) (id : ℕ) (b : BtfType) (k : Option Kind) → IsType p.table id b → kind_of (record_of b).info ≡ k → texts p id ≡ texts_by p id k (record_of b)
texts_there p id b k is kind = ap (λ (j : Option Kind). texts_by p id j (record_at p.table id)) (kind_there p.table id b is ∙ kind) ∙ ap (texts_by p id k) (record_there p.table id b is)

pub added_there : (p : Pass) (id : ℕ) (b : BtfType) (k : Option Kind) → IsType p.table id b → kind_of (record_of b).info ≡ k → added p id ≡ added_by p (free_id p id) id k
added_there p id b k is kind = ap (added_by p (free_id p id) id) (kind_there p.table id b is ∙ kind)

pub falls_back_there : (p : Pass) (id : ℕ) (b : BtfType) (k : Option Kind) → IsType p.table id b → kind_of (record_of b).info ≡ k → falls_back p id ≡ falls_back_by p k (record_of b) (fallback_of b)
falls_back_there p id b k is kind =
    ap (λ (j : Option Kind). falls_back_by p j (record_at p.table id) (unwrap_or (slice_get p.table.fallbacks id) None)) (kind_there p.table id b is ∙ kind)
    ∙ ap (λ r. falls_back_by p k r (unwrap_or (slice_get p.table.fallbacks id) None)) (record_there p.table id b is)
    ∙ ap (λ (o : Option (Option Fallback)). falls_back_by p k (record_of b) (unwrap_or o None)) is.fallback_is

-- ---- what is made once

pub made_on : (test : ℕ → Bool) (number : ℕ → ℕ) (n : ℕ) (made : Option ℕ) → MadeBelow test number n made → test n ≡ false → MadeBelow test number (suc n) made
made_on test number n None made fails = none_next test number n made fails
made_on test number n (Some k) made fails = made_next test number n k made

pub wants_none : (p : Pass) (id : ℕ) (k : Option Kind) → kind_at p.table id ≡ k → is_enum64 k ≡ false → wants_member_type p id ≡ false
wants_none p id k kind other = ap (λ (b : Bool). b && not (has p features.Enum64)) (ap is_enum64 kind ∙ other)

never : (d s u w e z h : Bool) → (u || w) ≡ false → (d && ((s && w && h) || (u && e && z))) ≡ false
never d s true w e z h none = absurd (false≢true (sym none))
never d s false true e z h none = absurd (false≢true (sym none))
never true true false false e z h none = refl
never true false false false e z h none = refl
never false s false false e z h none = refl

-- a kind that is no DATASEC gets no filler
pub no_filler : (p : Pass) (id : ℕ) (k : Option Kind) → kind_at p.table id ≡ k → (is_unsized k (record_at p.table id) || is_sized_and_empty k (record_at p.table id)) ≡ false → gets_filler p id ≡ false
no_filler p id k kind other =
    let r : Record = record_at p.table id in
    ap (λ (j : Option Kind). has p features.DataSec && ((fills_sized p.policy && is_sized_and_empty j r && not (has p features.DataSecZero)) || (is_unsized j r && has_no_entries r && is_zero_or (not (has p features.DataSecZero)) (section_size p id)))) kind
    ∙ never (has p features.DataSec) (fills_sized p.policy) (is_unsized k r) (is_sized_and_empty k r) (has_no_entries r) (is_zero_or (not (has p features.DataSecZero)) (section_size p id)) (not (has p features.DataSecZero)) other

-- ---- what is appended

-- what was appended is what the id appends, if it gets no filler
pub grown_by : (p : Pass) (id : ℕ) (old new : Made) (ts : List (List ℕ)) (rs : List Record) → Adds p.table old.changes new.changes ts rs → texts p id ≡ ts → added p id ≡ rs → gets_filler p id ≡ false → new.names ≡ old.names
    → MadeBelow (wants_member_type p) (free_id p) (suc id) new.member_type → MadeBelow (gets_filler p) (λ k. free_id p k + 1) id old.filler → new.filler ≡ old.filler → IsGrown p id old new
grown_by p id old new ts rs adds texts_are added_are unfilled names member_type filler stays =
    let all : Adds p.table old.changes new.changes (texts p id) (added p id) = subst (λ us. Adds p.table old.changes new.changes us (added p id)) (sym texts_are) (subst (Adds p.table old.changes new.changes ts) (sym added_are) adds) in
    record {
      strings = all.strings;
      records = all.records;
      fallbacks = all.fallbacks;
      types = all.types;
      type_len = all.type_len ∙ sym (ap (λ (b : Bool). old.changes.type_len + sum_by record_len (added p id) + (if b then 12 else 0)) unfilled ∙ plus_none (old.changes.type_len + sum_by record_len (added p id)));
      names = names;
      member_type = member_type;
      filler = subst (MadeBelow (gets_filler p) (λ k. free_id p k + 1) (suc id)) (sym stays) (made_on (gets_filler p) (λ k. free_id p k + 1) id old.filler filler unfilled);
      room = all.room;
    }
  where
    plus_none : (n : ℕ) → n + 0 ≡ n
    plus_none n = omega arith

-- two records have the same length if their tails have
pub same_len : (p : Pass) (id : ℕ) (old new : Record) → length new.tail ≡ length old.tail → gets_filler p id ≡ false → record_len new ≡ record_len old + growth p id
same_len p id old new is unfilled = ap (λ (n : ℕ). 4 * (3 + n)) is ∙ plus_none (record_len old) ∙ ap (λ (b : Bool). record_len old + (if b then 12 else 0)) (sym unfilled)
  where
    plus_none : (n : ℕ) → n ≡ n + 0
    plus_none n = omega arith

-- ---- kinds that append nothing

quiet_kind : (k : Option Kind) (r : Record) → is_quiet k ≡ true → (is_enum64 k ≡ false) × (is_unsized k r ≡ false)
quiet_kind (Some kinds.Enum64) r is = absurd (false≢true is)
quiet_kind (Some kinds.DataSec) r is = absurd (false≢true is)
quiet_kind k r is = (refl, refl)

pub quiet_ruled : (p : Pass) (id : ℕ) (b new : BtfType) (before : Made) → IsType p.table id b → is_quiet (kind_of (record_of b).info) ≡ true → IsHere p id before
    → record_of new ≡ becomes_by p (ruled_below p id) id (kind_of (record_of b).info) (record_of b) → length (record_of new).tail ≡ length (record_of b).tail → fallback_of new ≡ fallback_of b → IsRuled p id b before before new
quiet_ruled p id b new before there is_q here is tail fallback =
    let k : Option Kind = kind_of (record_of b).info in
    let kind : kind_at p.table id ≡ k = kind_there p.table id b there in
    let q : IsQuiet p id = quiet p id (ap is_quiet kind ∙ is_q) in
    let other = quiet_kind k (record_at p.table id) is_q in
    record {
      passed = q.no_fault;
      record_is = is ∙ sym (becomes_there p id b k there refl);
      fallback_is = fallback ∙ sym (q.fallback ∙ ap (λ (o : Option (Option Fallback)). unwrap_or o None) there.fallback_is);
      len = same_len p id (record_of b) (record_of new) tail q.no_filler;
      grown = grown_by p id before before [] [] (adds_none p.table before.changes here.room) q.no_texts q.none_added q.no_filler refl
          (made_on (wants_member_type p) (free_id p) id before.member_type here.member_type (wants_none p id k kind other.0)) here.filler refl;
    }

-- ---- FUNC_PROTO

-- its fallback does not change, and it does not make the filler
loud_no_filler : (p : Pass) (id : ℕ) (b : BtfType) (k : Option Kind) → IsType p.table id b → kind_of (record_of b).info ≡ k → (is_unsized k (record_at p.table id) || is_sized_and_empty k (record_at p.table id)) ≡ false → gets_filler p id ≡ false
loud_no_filler p id b k there kind other = no_filler p id k (kind_there p.table id b there ∙ kind) other

pub proto_names : (p : Pass) (id : ℕ) (b : BtfType) → IsType p.table id b → kind_of (record_of b).info ≡ Some kinds.FuncProto → has p features.Func ≡ true → texts p id ≡ param_texts 0 (record_of b).tail
proto_names p id b there kind granted = texts_there p id b (Some kinds.FuncProto) there kind ∙ ap (λ (g : Bool). if g then param_texts 0 (record_of b).tail else []) granted

pub proto_fault : (p : Pass) (id : ℕ) (b : BtfType) (offset : ℕ) → IsType p.table id b → kind_of (record_of b).info ≡ Some kinds.FuncProto → has p features.Func ≡ true → offset_at p id ≡ offset
    → fault p id ≡ first_fault (have_room offset (param_texts 0 (record_of b).tail))
proto_fault p id b offset there kind granted at =
    fault_there p id b (Some kinds.FuncProto) there kind ∙ ap (λ ts. first_fault (have_room (offset_at p id) ts)) (proto_names p id b there kind granted)
    ∙ ap (λ (o : ℕ). first_fault (have_room o (param_texts 0 (record_of b).tail))) at

pub proto_named : (p : Pass) (id : ℕ) (b new : BtfType) (before after : Made) → IsType p.table id b → kind_of (record_of b).info ≡ Some kinds.FuncProto → IsHere p id before → has p features.Func ≡ true
    → first_fault (have_room (next_string_offset p.table before.changes) (param_texts 0 (record_of b).tail)) ≡ None → record_of new ≡ record (record_of b) { tail = named_params 0 (next_string_offset p.table before.changes) (record_of b).tail }
    → fallback_of b ≡ None → fallback_of new ≡ None → Adds p.table before.changes after.changes (param_texts 0 (record_of b).tail) [] → after.names ≡ before.names → after.member_type ≡ before.member_type → after.filler ≡ before.filler
    → IsRuled p id b before after new
proto_named p id b new before after there kind here granted passed is none fallback adds names member_type filler =
    let unfilled : gets_filler p id ≡ false = loud_no_filler p id b (Some kinds.FuncProto) there kind refl in
    let wants : wants_member_type p id ≡ false = wants_none p id (Some kinds.FuncProto) (kind_there p.table id b there ∙ kind) refl in
    record {
      passed = proto_fault p id b (next_string_offset p.table before.changes) there kind granted here.offset ∙ passed;
      record_is = is ∙ sym (
          becomes_there p id b (Some kinds.FuncProto) there kind
          ∙ ap (λ (g : Bool). if g then record (record_of b) { tail = named_params 0 (offset_at p id) (record_of b).tail } else model.enum (record_of b).name (vlen (record_of b).info) (record_of b).tail) granted
          ∙ ap (λ (o : ℕ). record (record_of b) { tail = named_params 0 o (record_of b).tail }) here.offset
          );
      fallback_is = fallback ∙ sym (falls_back_there p id b (Some kinds.FuncProto) there kind ∙ none);
      len = same_len p id (record_of b) (record_of new) (ap (λ (r : Record). length r.tail) is ∙ named_len 0 (next_string_offset p.table before.changes) (record_of b).tail) unfilled;
      grown = grown_by p id before after (param_texts 0 (record_of b).tail) [] adds (proto_names p id b there kind granted) (added_there p id b (Some kinds.FuncProto) there kind) unfilled names
          (subst (MadeBelow (wants_member_type p) (free_id p) (suc id)) (sym member_type) (made_on (wants_member_type p) (free_id p) id before.member_type here.member_type wants)) here.filler filler;
    }

-- a prototype whose parameters all have names is unchanged
pub proto_stays : (p : Pass) (id : ℕ) (b : BtfType) (before : Made) → IsType p.table id b → kind_of (record_of b).info ≡ Some kinds.FuncProto → IsHere p id before → has p features.Func ≡ true
    → lack_a_name (record_of b).tail ≡ false → fallback_of b ≡ None → IsRuled p id b before before b
proto_stays p id b before there kind here granted named none =
    let texts_are : param_texts 0 (record_of b).tail ≡ [] = no_texts 0 (record_of b).tail named in
    proto_named p id b b before before there kind here granted
    (ap (λ ts. first_fault (have_room (next_string_offset p.table before.changes) ts)) texts_are)
    (ap (λ (tail : List ℕ). record (record_of b) { tail = tail }) (sym (names_stay 0 (next_string_offset p.table before.changes) (record_of b).tail named)))
    none none
    (subst (λ ts. Adds p.table before.changes before.changes ts []) (sym texts_are) (adds_none p.table before.changes here.room)) refl refl refl

pub proto_as_enum : (p : Pass) (id : ℕ) (b new : BtfType) (before : Made) → IsType p.table id b → kind_of (record_of b).info ≡ Some kinds.FuncProto → IsHere p id before → has p features.Func ≡ false
    → record_of new ≡ model.enum (record_of b).name (vlen (record_of b).info) (record_of b).tail → fallback_of b ≡ None → fallback_of new ≡ None → IsRuled p id b before before new
proto_as_enum p id b new before there kind here denied is none fallback =
    let unfilled : gets_filler p id ≡ false = loud_no_filler p id b (Some kinds.FuncProto) there kind refl in
    let wants : wants_member_type p id ≡ false = wants_none p id (Some kinds.FuncProto) (kind_there p.table id b there ∙ kind) refl in
    let no_texts : texts p id ≡ [] = texts_there p id b (Some kinds.FuncProto) there kind ∙ ap (λ (g : Bool). if g then param_texts 0 (record_of b).tail else []) denied in
    record {
      passed = fault_there p id b (Some kinds.FuncProto) there kind ∙ ap (λ ts. first_fault (have_room (offset_at p id) ts)) no_texts;
      record_is = is ∙ sym (
          becomes_there p id b (Some kinds.FuncProto) there kind
          ∙ ap (λ (g : Bool). if g then record (record_of b) { tail = named_params 0 (offset_at p id) (record_of b).tail } else model.enum (record_of b).name (vlen (record_of b).info) (record_of b).tail) denied
          );
      fallback_is = fallback ∙ sym (falls_back_there p id b (Some kinds.FuncProto) there kind ∙ none);
      len = same_len p id (record_of b) (record_of new) (ap (λ (r : Record). length r.tail) is) unfilled;
      grown = grown_by p id before before [] [] (adds_none p.table before.changes here.room) no_texts (added_there p id b (Some kinds.FuncProto) there kind) unfilled refl
          (made_on (wants_member_type p) (free_id p) id before.member_type here.member_type wants) here.filler refl;
    }

-- ---- ENUM64

granted_wants : (p : Pass) (id : ℕ) → has p features.Enum64 ≡ true → wants_member_type p id ≡ false
granted_wants p id granted = ap (λ (g : Bool). is_enum64 (kind_at p.table id) && not g) granted ∙ and_false (is_enum64 (kind_at p.table id))
  where
    and_false : (b : Bool) → (b && false) ≡ false
    and_false true = refl
    and_false false = refl

-- if the kernel has ENUM64, the record is unchanged
pub enum64_stays : (p : Pass) (id : ℕ) (b : BtfType) (before : Made) → IsType p.table id b → kind_of (record_of b).info ≡ Some kinds.Enum64 → IsHere p id before → has p features.Enum64 ≡ true → IsRuled p id b before before b
enum64_stays p id b before there kind here granted =
    let unfilled : gets_filler p id ≡ false = loud_no_filler p id b (Some kinds.Enum64) there kind refl in
    let wants : wants_member_type p id ≡ false = granted_wants p id granted in
    let makes : makes_member_type p id ≡ false = ap (λ (w : Bool). w && (least (wants_member_type p) id == id)) wants in
    let no_texts : texts p id ≡ [] = texts_there p id b (Some kinds.Enum64) there kind ∙ ap (λ (m : Bool). if m then member_type_text ∷ [] else []) makes in
    let none_added : added p id ≡ [] = added_there p id b (Some kinds.Enum64) there kind ∙ ap (λ (m : Bool). if m then byte_int (offset_at p id) ∷ [] else []) makes in
    record {
      passed = fault_there p id b (Some kinds.Enum64) there kind ∙ ap (λ ts. first_fault (have_room (offset_at p id) ts ++ all_fit (type_len_at p id) (added p id))) no_texts ∙ ap (λ rs. first_fault (all_fit (type_len_at p id) rs)) none_added;
      record_is = sym (becomes_there p id b (Some kinds.Enum64) there kind
          ∙ ap (λ (g : Bool). if g then record_of b else model.union (record_of b).name (record_of b).third (vlen (record_of b).info) (variant_members (member_type_id p id) (model.variants (record_of b).tail))) granted);
      fallback_is = sym (falls_back_there p id b (Some kinds.Enum64) there kind ∙ ap (λ (g : Bool). if g then fallback_of b else Some (model.enum64_fallback (record_of b))) granted);
      len = same_len p id (record_of b) (record_of b) refl unfilled;
      grown = grown_by p id before before [] [] (adds_none p.table before.changes here.room) no_texts none_added unfilled refl
          (made_on (wants_member_type p) (free_id p) id before.member_type here.member_type wants) here.filler refl;
    }

pub wants_one : (p : Pass) (id : ℕ) (b : BtfType) → IsType p.table id b → kind_of (record_of b).info ≡ Some kinds.Enum64 → has p features.Enum64 ≡ false → wants_member_type p id ≡ true
wants_one p id b there kind denied = ap (λ (g : Bool). is_enum64 (kind_at p.table id) && not g) denied ∙ ap (λ (k : Option Kind). is_enum64 k && true) (kind_there p.table id b there ∙ kind)

-- The member type for an id that needs it: the existing one, or a new one.
pub record HasMemberType (p : Pass) (id : ℕ) (before after : Made) (number : ℕ) : Type 0 where
  pub checks : first_fault (have_room (offset_at p id) (if makes_member_type p id then member_type_text ∷ [] else []) ++ all_fit (type_len_at p id) (if makes_member_type p id then byte_int (offset_at p id) ∷ [] else [])) ≡ None
  pub adds : Adds p.table before.changes after.changes (if makes_member_type p id then member_type_text ∷ [] else []) (if makes_member_type p id then byte_int (offset_at p id) ∷ [] else [])
  pub made : MadeBelow (wants_member_type p) (free_id p) (suc id) after.member_type
  pub number_is : member_type_id p id ≡ number

pub member_type_there : (p : Pass) (id : ℕ) (before after : Made) (number : ℕ) → IsHere p id before → wants_member_type p id ≡ true → before.member_type ≡ Some number → after ≡ before → HasMemberType p id before after number
member_type_there p id before after number here wants some same =
    let m : MadeBelow (wants_member_type p) (free_id p) id (Some number) = subst (MadeBelow (wants_member_type p) (free_id p) id) some here.member_type in
    let makes : makes_member_type p id ≡ false = makes_no_second (wants_member_type p) (free_id p) id number m in
    let none : Adds p.table before.changes after.changes [] [] = subst (λ (a : Made). Adds p.table before.changes a.changes [] []) (sym same) (adds_none p.table before.changes here.room) in
    record {
      checks = ap (λ (b : Bool). first_fault (have_room (offset_at p id) (if b then member_type_text ∷ [] else []) ++ all_fit (type_len_at p id) (if b then byte_int (offset_at p id) ∷ [] else []))) makes;
      adds = subst (λ (b : Bool). Adds p.table before.changes after.changes (if b then member_type_text ∷ [] else []) (if b then byte_int (offset_at p id) ∷ [] else [])) (sym makes) none;
      made = subst (MadeBelow (wants_member_type p) (free_id p) (suc id)) (sym (ap (λ (a : Made). a.member_type) same ∙ some)) (made_next (wants_member_type p) (free_id p) id number m);
      number_is = made_is (wants_member_type p) (free_id p) id number m;
    }

pub member_type_new : (p : Pass) (id : ℕ) (before after : Made) (number : ℕ) → IsHere p id before → wants_member_type p id ≡ true → before.member_type ≡ None
    → first_fault (have_room (next_string_offset p.table before.changes) (member_type_text ∷ []) ++ all_fit before.changes.type_len (byte_int (next_string_offset p.table before.changes) ∷ [])) ≡ None → number ≡ next_id p.table before.changes
    → Adds p.table before.changes after.changes (member_type_text ∷ []) (byte_int (next_string_offset p.table before.changes) ∷ []) → after.member_type ≡ Some (next_id p.table before.changes) → HasMemberType p id before after number
member_type_new p id before after number here wants none passed is adds made =
    let m : MadeBelow (wants_member_type p) (free_id p) id None = subst (MadeBelow (wants_member_type p) (free_id p) id) none here.member_type in
    let makes : makes_member_type p id ≡ true = makes_first (wants_member_type p) (free_id p) id m ∙ wants in
    let checks : ℕ → ℕ → Option Refusal = λ o n. first_fault (have_room o (member_type_text ∷ []) ++ all_fit n (byte_int o ∷ [])) in
    record {
      checks = ap (λ (b : Bool). first_fault (have_room (offset_at p id) (if b then member_type_text ∷ [] else []) ++ all_fit (type_len_at p id) (if b then byte_int (offset_at p id) ∷ [] else []))) makes
          ∙ ap (λ (o : ℕ). checks o (type_len_at p id)) here.offset ∙ ap (checks (next_string_offset p.table before.changes)) here.type_len ∙ passed;
      adds = subst (λ (b : Bool). Adds p.table before.changes after.changes (if b then member_type_text ∷ [] else []) (if b then byte_int (offset_at p id) ∷ [] else [])) (sym makes)
          (subst (λ (o : ℕ). Adds p.table before.changes after.changes (member_type_text ∷ []) (byte_int o ∷ [])) (sym here.offset) adds);
      made = subst (MadeBelow (wants_member_type p) (free_id p) (suc id)) (sym (made ∙ ap (λ (n : ℕ). Some n) (sym here.free))) (made_first (wants_member_type p) (free_id p) id m wants);
      number_is = ap (free_id p) (eqb-true (least (wants_member_type p) id) id (least_here (wants_member_type p id) (least (wants_member_type p) id == id) makes)) ∙ here.free ∙ sym is;
    }
  where
    least_here : (a b : Bool) → (a && b) ≡ true → b ≡ true
    least_here true b both = both
    least_here false b both = absurd (false≢true both)

pub enum64_as_union : (p : Pass) (id : ℕ) (b new : BtfType) (before after : Made) (number : ℕ) → IsType p.table id b → kind_of (record_of b).info ≡ Some kinds.Enum64 → IsHere p id before → has p features.Enum64 ≡ false
    → HasMemberType p id before after number → length (record_of b).tail ≡ 3 * vlen (record_of b).info
    → record_of new ≡ model.union (record_of b).name (record_of b).third (vlen (record_of b).info) (variant_members number (model.variants (record_of b).tail)) → fallback_of new ≡ Some (model.enum64_fallback (record_of b))
    → after.names ≡ before.names → after.filler ≡ before.filler → IsRuled p id b before after new
enum64_as_union p id b new before after number there kind here denied member_type tail is fallback names filler =
    let unfilled : gets_filler p id ≡ false = loud_no_filler p id b (Some kinds.Enum64) there kind refl in
    let texts_are : texts p id ≡ (if makes_member_type p id then member_type_text ∷ [] else []) = texts_there p id b (Some kinds.Enum64) there kind in
    let added_are : added p id ≡ (if makes_member_type p id then byte_int (offset_at p id) ∷ [] else []) = added_there p id b (Some kinds.Enum64) there kind in
    let made : ℕ → Record = λ n. model.union (record_of b).name (record_of b).third (vlen (record_of b).info) (variant_members n (model.variants (record_of b).tail)) in
    record {
      passed = fault_there p id b (Some kinds.Enum64) there kind ∙ ap (λ ts. first_fault (have_room (offset_at p id) ts ++ all_fit (type_len_at p id) (added p id))) texts_are
          ∙ ap (λ rs. first_fault (have_room (offset_at p id) (if makes_member_type p id then member_type_text ∷ [] else []) ++ all_fit (type_len_at p id) rs)) added_are ∙ member_type.checks;
      record_is = is ∙ ap made (sym member_type.number_is) ∙ sym (becomes_there p id b (Some kinds.Enum64) there kind ∙ ap (λ (g : Bool). if g then record_of b else made (member_type_id p id)) denied);
      fallback_is = fallback ∙ sym (falls_back_there p id b (Some kinds.Enum64) there kind ∙ ap (λ (g : Bool). if g then fallback_of b else Some (model.enum64_fallback (record_of b))) denied);
      len = same_len p id (record_of b) (record_of new) (ap (λ (r : Record). length r.tail) is ∙ members_len number (vlen (record_of b).info) (record_of b).tail tail) unfilled;
      grown = grown_by p id before after _ _ member_type.adds texts_are added_are unfilled names member_type.made here.filler filler;
    }

-- the tests of an ENUM64 that makes the member type
pub enum64_fault : (p : Pass) (id : ℕ) (b : BtfType) (before : Made) → IsType p.table id b → kind_of (record_of b).info ≡ Some kinds.Enum64 → IsHere p id before → has p features.Enum64 ≡ false → before.member_type ≡ None
    → fault p id ≡ first_fault (have_room (next_string_offset p.table before.changes) (member_type_text ∷ []) ++ all_fit before.changes.type_len (byte_int (next_string_offset p.table before.changes) ∷ []))
enum64_fault p id b before there kind here denied none =
    let m : MadeBelow (wants_member_type p) (free_id p) id None = subst (MadeBelow (wants_member_type p) (free_id p) id) none here.member_type in
    let makes : makes_member_type p id ≡ true = makes_first (wants_member_type p) (free_id p) id m ∙ wants_one p id b there kind denied in
    let checks : ℕ → ℕ → Option Refusal = λ o n. first_fault (have_room o (member_type_text ∷ []) ++ all_fit n (byte_int o ∷ [])) in
    fault_there p id b (Some kinds.Enum64) there kind
    ∙ ap (λ ts. first_fault (have_room (offset_at p id) ts ++ all_fit (type_len_at p id) (added p id))) (texts_there p id b (Some kinds.Enum64) there kind ∙ ap (λ (g : Bool). if g then member_type_text ∷ [] else []) makes)
    ∙ ap (λ rs. first_fault (have_room (offset_at p id) (member_type_text ∷ []) ++ all_fit (type_len_at p id) rs)) (added_there p id b (Some kinds.Enum64) there kind ∙ ap (λ (g : Bool). if g then byte_int (offset_at p id) ∷ [] else []) makes)
    ∙ ap (λ (o : ℕ). checks o (type_len_at p id)) here.offset ∙ ap (checks (next_string_offset p.table before.changes)) here.type_len

-- ---- kinds that ask for at most one feature

pub quiet_type : (b : BtfType) → asks_one (Some (type_kind b)) ≡ true → ((x : _) → b ≡ types.FuncProto x → ⊥) → ((x : _) → b ≡ types.Enum64 x → ⊥) → is_quiet (Some (type_kind b)) ≡ true
quiet_type (types.FuncProto x) one no_proto no_enum64 = absurd (no_proto x refl)
quiet_type (types.Enum64 x) one no_proto no_enum64 = absurd (no_enum64 x refl)
quiet_type (types.Func x) one no_proto no_enum64 = absurd (false≢true one)
quiet_type (types.DataSec x) one no_proto no_enum64 = absurd (false≢true one)
quiet_type b one no_proto no_enum64 = refl

-- a type whose rule appends nothing is unchanged, or denied
pub quiet_outcome : (p : Pass) (id : ℕ) (b : BtfType) (before : Made) (changes : Bool) → IsType p.table id b → IsHere p id before → asks_one (kind_of (record_of b).info) ≡ true → kind_of (record_of b).info ≡ Some (type_kind b)
    → ((x : _) → b ≡ types.FuncProto x → ⊥) → ((x : _) → b ≡ types.Enum64 x → ⊥)
    → (is_quiet (kind_of (record_of b).info) ≡ true → record_of (if changes then denied_type b else b) ≡ becomes_by p (ruled_below p id) id (kind_of (record_of b).info) (record_of b))
    → length (record_of (if changes then denied_type b else b)).tail ≡ length (record_of b).tail → fallback_of (if changes then denied_type b else b) ≡ fallback_of b → IsRuled p id b before before (if changes then denied_type b else b)
quiet_outcome p id b before changes there here one kind no_proto no_enum64 words len fallback =
    let quiet : is_quiet (kind_of (record_of b).info) ≡ true = ap is_quiet kind ∙ quiet_type b (ap asks_one (sym kind) ∙ one) no_proto no_enum64 in
    quiet_ruled p id b (if changes then denied_type b else b) before there quiet here (words quiet) len fallback
