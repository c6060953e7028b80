-- The lengths of rewritten records.
use Rattle.std.proofs.Common.{◌≡◌, ℕ, zero, suc, ◌+◌, ◌*◌, max, Bool, true, false, ◌&&◌, ◌||◌, not, List, [], ◌∷◌, length, map, length-append, Option, Some, Result, Ok, Err, refl, sym, ap, ◌∙◌, arith}
use Rattle.std.specs.Prelude.{if◌then◌else◌, ◌==◌}
use Rattle.std.specs.List.{flat_map}
use Rattle.std.specs.Option.{unwrap_or}
use Rattle.std.proofs.lemmas.Bool.{false≢true, eqb-true}
use Rattle.std.proofs.lemmas.Option.{same_Some}
use Rattle.std.proofs.lemmas.List.Folds.{flat_map-map}
use Rattle.btf_model.specs.Record as kinds
use Rattle.btf_model.specs.Record.{Kind, Record, kind_of, vlen, tail_words}
use Rattle.btf_model.specs.Refusal.{Refusal}
use Rattle.btf_model.specs.Spelling.{HasKind}
use Rattle.btf_rewrite_model.specs.declared.feature.BtfFeature.TheVariants as features
use Rattle.btf_rewrite_model.specs.Feature.{fills_sized, is_global, is_signed, has_no_entries, is_sized_and_empty}
use Rattle.btf_rewrite_model.specs.Made.{Entry, section_entries, entry_words, variants, record_at, kind_at, wants_name, byte_int, const, typedef, struct, union, enum, made_data_sec, with_linkage, unsigned}
use Rattle.btf_rewrite_model.specs.Checks.{record_len}
use Rattle.btf_rewrite_model.specs.Pass.{Pass, has, name_of, is_builtin, gets_filler, section_size, is_unsized, is_zero_or, param_text, offset_at}
use Rattle.btf_rewrite_model.specs.Rule as rule
use Rattle.btf_rewrite_model.specs.Rule.{becomes, becomes_by, ruled_below, known_func, completed, sized, new_name, filler_id, placed, named_params, variant_members, entry_members, member_name, member_type_id}

-- ---- items

pub named_len : (k offset : ℕ) (words : List ℕ) → length (named_params k offset words) ≡ length words
named_len k offset [] = refl
named_len k offset (name ∷ []) = refl
named_len k offset (name ∷ type ∷ words) =
    elim (wants_name name type) as (λ (b : Bool). length (if b then offset ∷ type ∷ named_params (k + 1) (offset + length (param_text k) + 1) words else name ∷ type ∷ named_params (k + 1) offset words) ≡ suc (suc (length words)))
    [ true ↦ ap (λ (n : ℕ). suc (suc n)) (named_len (k + 1) (offset + length (param_text k) + 1) words) | false ↦ ap (λ (n : ℕ). suc (suc n)) (named_len (k + 1) offset words) ]

-- three words for each item
pub entries_len : (f : Entry → List ℕ) → ((e : Entry) → length (f e) ≡ 3) → (n : ℕ) (words : List ℕ) → length words ≡ 3 * n → length (flat_map f (section_entries words)) ≡ length words
entries_len f three n [] is = refl
entries_len f three n (a ∷ []) is = absurd (omega (arith, is))
entries_len f three n (a ∷ b ∷ []) is = absurd (omega (arith, is))
entries_len f three zero (a ∷ b ∷ c ∷ words) is = absurd (omega (arith, is))
entries_len f three (suc n) (a ∷ b ∷ c ∷ words) is =
    let e : Entry = record { type = a; offset = b; size = c } in
    omega (arith, length-append (f e) (flat_map f (section_entries words)), three e, entries_len f three n words (omega (arith, is)))

pub members_len : (type n : ℕ) (words : List ℕ) → length words ≡ 3 * n → length (variant_members type (variants words)) ≡ length words
members_len type n [] is = refl
members_len type n (a ∷ []) is = absurd (omega (arith, is))
members_len type n (a ∷ b ∷ []) is = absurd (omega (arith, is))
members_len type zero (a ∷ b ∷ c ∷ words) is = absurd (omega (arith, is))
members_len type (suc n) (a ∷ b ∷ c ∷ words) is = ap (λ (m : ℕ). suc (suc (suc m))) (members_len type n words (omega (arith, is)))

-- ---- kinds

-- a record that is made or retained, depending on a test
pub by_both : (P : Record → Type 0) (b : Bool) (x y : Record) → P x → P y → P (if b then x else y)
by_both P true x y px py = px
by_both P false x y px py = py

abbrev AsLong : Record → Record → Type 0
AsLong r q = length q.tail ≡ length r.tail

pub known_len : (p : Pass) (r : Record) (name : Result (List ℕ) Refusal) → AsLong r (known_func p r name)
known_len p r (Ok name) = by_both (AsLong r) (is_global r && (is_builtin name || not (has p features.FuncGlobal))) (with_linkage 0 r) r refl refl
known_len p r (Err refusal) = refl

-- a DATASEC that gets no filler
laid_len : (p : Pass) (id size : ℕ) (r : Record) → length r.tail ≡ 3 * vlen r.info → gets_filler p id ≡ false → AsLong r (completed p id size r)
laid_len p id size r tail unfilled =
    ap (λ (b : Bool). length (if b then rule.filled p id (max size 1) r else made_data_sec (new_name p id r) size (vlen r.info) (map (placed p) (section_entries r.tail))).tail) unfilled
    ∙ ap length (flat_map-map entry_words (placed p) (section_entries r.tail)) ∙ entries_len (λ e. entry_words (placed p e)) (λ e. refl) (vlen r.info) r.tail tail

sized_len : (p : Pass) (id : ℕ) (r : Record) → gets_filler p id ≡ false → AsLong r (sized p id r)
sized_len p id r unfilled = ap (λ (b : Bool). length (if b then rule.filled p id r.third r else record r { name = new_name p id r }).tail) unfilled

section_len : (p : Pass) (lower : List Record) (id : ℕ) (r : Record) → length r.tail ≡ 3 * vlen r.info → gets_filler p id ≡ false → AsLong r (becomes_by p lower id (Some kinds.DataSec) r)
section_len p lower id r tail unfilled =
    by_both (AsLong r) (has p features.DataSec) (if r.third == 0 then completed p id (unwrap_or (section_size p id) 0) r else sized p id r) (struct (new_name p id r) (vlen r.info) (vlen r.info) (entry_members p lower id (section_entries r.tail)))
    (by_both (AsLong r) (r.third == 0) (completed p id (unwrap_or (section_size p id) 0) r) (sized p id r) (laid_len p id (unwrap_or (section_size p id) 0) r tail unfilled) (sized_len p id r unfilled))
    (entries_len (λ e. member_name p lower id e.type ∷ e.type ∷ e.offset * 8 ∷ []) (λ e. refl) (vlen r.info) r.tail tail)

stays_long : (p : Pass) (lower : List Record) (id : ℕ) (k : Kind) (r : Record) → length r.tail ≡ tail_words k (vlen r.info) → gets_filler p id ≡ false → AsLong r (becomes_by p lower id (Some k) r)
stays_long p lower id kinds.Var r tail unfilled = by_both (AsLong r) (has p features.DataSec) r (byte_int r.name) refl (sym tail)
stays_long p lower id kinds.Float r tail unfilled = by_both (AsLong r) (has p features.Float) r (struct 0 r.third 0 []) refl (sym tail)
stays_long p lower id kinds.DeclTag r tail unfilled = by_both (AsLong r) (has p features.DeclTag) r (byte_int r.name) refl (sym tail)
stays_long p lower id kinds.TypeTag r tail unfilled = by_both (AsLong r) (has p features.TypeTag) r (const r.third) refl (sym tail)
stays_long p lower id kinds.Enum r tail unfilled = by_both (AsLong r) (is_signed r && not (has p features.Enum64)) (unsigned r) r refl refl
stays_long p lower id kinds.Enum64 r tail unfilled =
    by_both (AsLong r) (has p features.Enum64) r (union r.name r.third (vlen r.info) (variant_members (member_type_id p id) (variants r.tail))) refl (members_len (member_type_id p id) (vlen r.info) r.tail tail)
stays_long p lower id kinds.Func r tail unfilled = by_both (AsLong r) (has p features.Func) (known_func p r (name_of p id)) (typedef r.name r.third) (known_len p r (name_of p id)) (sym tail)
stays_long p lower id kinds.FuncProto r tail unfilled =
    by_both (AsLong r) (has p features.Func) (record r { tail = named_params 0 (offset_at p id) r.tail }) (enum r.name (vlen r.info) r.tail) (named_len 0 (offset_at p id) r.tail) refl
stays_long p lower id kinds.DataSec r tail unfilled = section_len p lower id r tail unfilled
stays_long p lower id k r tail unfilled = refl

pub lengths_stay : (p : Pass) (id : ℕ) (k : Kind) → HasKind k (record_at p.table id) → gets_filler p id ≡ false → record_len (becomes p id) ≡ record_len (record_at p.table id)
lengths_stay p id k has_kind unfilled =
    let r : Record = record_at p.table id in
    ap (λ (n : ℕ). 4 * (3 + n)) (ap (λ (j : Option Kind). length (becomes_by p (ruled_below p id) id j r).tail) has_kind.kind ∙ stays_long p (ruled_below p id) id k r has_kind.tail unfilled)

-- ---- a DATASEC that gets the filler

pub unsized_section : (k : Option Kind) (r : Record) → is_unsized k r ≡ true → (k ≡ Some kinds.DataSec) × ((r.third == 0) ≡ true)
unsized_section (Some kinds.DataSec) r is = (refl, is)
unsized_section k r is = absurd (false≢true is)

sized_parts : (e z : Bool) → (e && not z) ≡ true → (e ≡ true) × (z ≡ false)
sized_parts true false is = (refl, refl)
sized_parts true true is = absurd (false≢true is)
sized_parts false z is = absurd (false≢true is)

pub sized_section : (k : Option Kind) (r : Record) → is_sized_and_empty k r ≡ true → (k ≡ Some kinds.DataSec) × (has_no_entries r ≡ true) × ((r.third == 0) ≡ false)
sized_section (Some kinds.DataSec) r is = (refl, (sized_parts (has_no_entries r) (r.third == 0) is).0, (sized_parts (has_no_entries r) (r.third == 0) is).1)
sized_section k r is = absurd (false≢true is)

-- An id that gets the filler is a DATASEC without entries.
pub record IsFilled (p : Pass) (id : ℕ) : Type 0 where
  pub granted : has p features.DataSec ≡ true
  pub kind : kind_at p.table id ≡ Some kinds.DataSec
  pub empty : has_no_entries (record_at p.table id) ≡ true

filled_by : (p : Pass) (id : ℕ) (d u w e s z h : Bool) → has p features.DataSec ≡ d → (u ≡ true → kind_at p.table id ≡ Some kinds.DataSec) → has_no_entries (record_at p.table id) ≡ e
    → (w ≡ true → (kind_at p.table id ≡ Some kinds.DataSec) × (has_no_entries (record_at p.table id) ≡ true)) → (d && ((s && w && h) || (u && e && z))) ≡ true → IsFilled p id
filled_by p id false u w e s z h is_d unsized is_e sized is = absurd (false≢true is)
filled_by p id true true w true s z h is_d unsized is_e sized is = record { granted = is_d; kind = unsized refl; empty = is_e }
filled_by p id true u true e true z true is_d unsized is_e sized is = record { granted = is_d; kind = (sized refl).0; empty = (sized refl).1 }
filled_by p id true false w e false z h is_d unsized is_e sized is = absurd (false≢true is)
filled_by p id true false false e true z h is_d unsized is_e sized is = absurd (false≢true is)
filled_by p id true false true e true z false is_d unsized is_e sized is = absurd (false≢true is)
filled_by p id true true w false false z h is_d unsized is_e sized is = absurd (false≢true is)
filled_by p id true true false false true z h is_d unsized is_e sized is = absurd (false≢true is)
filled_by p id true true true false true z false is_d unsized is_e sized is = absurd (false≢true is)

pub is_filled : (p : Pass) (id : ℕ) → gets_filler p id ≡ true → IsFilled p id
is_filled p id filled =
    let r : Record = record_at p.table id in
    filled_by p id (has p features.DataSec) (is_unsized (kind_at p.table id) r) (is_sized_and_empty (kind_at p.table id) r) (has_no_entries r) (fills_sized p.policy)
    (is_zero_or (not (has p features.DataSecZero)) (section_size p id)) (not (has p features.DataSecZero)) refl
    (λ u. (unsized_section (kind_at p.table id) r u).0) refl (λ w. ((sized_section (kind_at p.table id) r w).0, (sized_section (kind_at p.table id) r w).1)) filled

filled_tail : (p : Pass) (lower : List Record) (id : ℕ) (k : Option Kind) (r : Record) → k ≡ Some kinds.DataSec → has p features.DataSec ≡ true → gets_filler p id ≡ true → length (becomes_by p lower id k r).tail ≡ 3
filled_tail p lower id k r kind granted filled =
    let size : ℕ = unwrap_or (section_size p id) 0 in
    let made : Record = struct (new_name p id r) (vlen r.info) (vlen r.info) (entry_members p lower id (section_entries r.tail)) in
    let laid : Record = made_data_sec (new_name p id r) size (vlen r.info) (map (placed p) (section_entries r.tail)) in
    ap (λ (j : Option Kind). length (becomes_by p lower id j r).tail) kind ∙ ap (λ (b : Bool). length (if b then (if r.third == 0 then completed p id size r else sized p id r) else made).tail) granted
    ∙ ap (λ (b : Bool). length (if r.third == 0 then (if b then rule.filled p id (max size 1) r else laid) else (if b then rule.filled p id r.third r else record r { name = new_name p id r })).tail) filled
    ∙ by_both (λ (q : Record). length q.tail ≡ 3) (r.third == 0) (rule.filled p id (max size 1) r) (rule.filled p id r.third r) refl refl

pub filled_len : (p : Pass) (id : ℕ) (k : Kind) → HasKind k (record_at p.table id) → gets_filler p id ≡ true → (record_len (record_at p.table id) ≡ 12) × (record_len (becomes p id) ≡ 24)
filled_len p id k has_kind filled =
    let r : Record = record_at p.table id in
    let is : IsFilled p id = is_filled p id filled in
    let none : vlen r.info ≡ 0 = eqb-true (vlen r.info) 0 is.empty in
    let kind : k ≡ kinds.DataSec = same_Some k kinds.DataSec (sym has_kind.kind ∙ is.kind) in
    let tail : length r.tail ≡ 3 * vlen r.info = has_kind.tail ∙ ap (λ (j : Kind). tail_words j (vlen r.info)) kind in
    (ap (λ (n : ℕ). 4 * (3 + n)) (tail ∙ ap (λ (n : ℕ). 3 * n) none), ap (λ (n : ℕ). 4 * (3 + n)) (filled_tail p (ruled_below p id) id (kind_at p.table id) r is.kind is.granted filled))
