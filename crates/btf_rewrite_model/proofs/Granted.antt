-- The features that the kernel needs for a rewritten record were granted.
use Rattle.std.proofs.Common.{◌≡◌, ℕ, ◌+◌, ◌*◌, ◌^◌, ◌<◌, Bool, true, false, ◌&&◌, ◌||◌, not, List, [], ◌∷◌, ◌++◌, map, take, Option, None, Some, Result, Ok, Err, refl, sym, ap, subst, ◌∙◌, arith, inl, inr}
use Rattle.std.specs.Prelude.{max, if◌then◌else◌, ◌==◌, slice_get}
use Rattle.std.specs.Option.{unwrap_or}
use Rattle.std.proofs.lemmas.Bool.{false≢true, or_cases, eqb-true}
use Rattle.std.proofs.lemmas.Option.{none-some}
use Rattle.btf_model.specs.Record as kinds
use Rattle.btf_model.specs.Record.{Kind, Record, kind_of, kind_number, kind_flag, vlen}
use Rattle.btf_model.specs.Info.{with_vlen, with_flag}
use Rattle.btf_model.specs.Refusal.{Refusal, UnknownSectionSize}
use Rattle.btf_rewrite_model.specs.declared.feature.BtfFeature.TheVariants as features
use Rattle.btf_rewrite_model.specs.Feature.{feature_number, same_feature, grants, needs, needs_by, is_sized_and_empty, fills_sized, is_global, is_signed, has_no_entries}
use Rattle.btf_rewrite_model.specs.declared.feature.BtfFeature.{BtfFeature}
use Rattle.btf_rewrite_model.specs.declared.feature.FeatureAnswer.{FeatureAnswer}
use Rattle.btf_rewrite_model.specs.Made.{Entry, section_entries, record_at, kind_at, struct, union, enum, made_data_sec, with_linkage, unsigned}
use Rattle.btf_rewrite_model.specs.Checks.{Check, first_fault, name_is_read}
use Rattle.btf_rewrite_model.specs.Pass.{Pass, has, name_of, name_checks, is_builtin, gets_filler, section_size, is_unsized, is_zero_or, fills_sized_one, fills_unsized}
use Rattle.btf_rewrite_model.specs.Rule.{becomes, becomes_by, ruled_below, known_func, completed, sized, filled, new_name, placed}
use Rattle.btf_rewrite_model.specs.Fault.{fault, checks_by, is_sized, completing_checks, filling_checks}
use Rattle.btf_rewrite_model.specs.RewriteLaws.{IsAmong}

-- ---- kinds of made records

pub kind_made : (n count : ℕ) (k : Kind) → n < 2 ^ 5 → count < 2 ^ 16 → slice_get (take 20 kinds.kinds) n ≡ Some k → kind_of (n * 2 ^ 24 + count) ≡ Some k
kind_made n count k small few is =
    let number_is : kind_number (n * 2 ^ 24 + count) ≡ n = omega arith in
    ap (λ (m : ℕ). slice_get (take 20 kinds.kinds) m) number_is ∙ is

pub vlen_small : (info : ℕ) → vlen info < 2 ^ 16
vlen_small info = omega arith

-- ---- features

grants_alike : (answers : List FeatureAnswer) (f g : BtfFeature) → feature_number f ≡ feature_number g → grants answers f ≡ grants answers g
grants_alike [] f g same = refl
grants_alike (answer ∷ answers) f g same = ap (λ (n : ℕ). if feature_number answer.feature == n then answer.granted else grants answers f) same ∙ ap (λ (b : Bool). if same_feature answer.feature g then answer.granted else b) (grants_alike answers f g same)

-- the only feature that is needed is granted
alone : (f g : BtfFeature) → IsAmong f (g ∷ []) → feature_number f ≡ feature_number g
alone f g is = elim (or_cases (same_feature f g) false is) as (λ c. feature_number f ≡ feature_number g) [ inl same ↦ eqb-true (feature_number f) (feature_number g) same | inr never ↦ absurd (false≢true never) ]

pub one_granted : (p : Pass) (f g : BtfFeature) → has p g ≡ true → IsAmong f (g ∷ []) → has p f ≡ true
one_granted p f g granted is = grants_alike p.answers f g (alone f g is) ∙ granted

-- each of two features that are needed is granted
two_granted : (p : Pass) (f g h : BtfFeature) → has p g ≡ true → has p h ≡ true → IsAmong f (g ∷ h ∷ []) → has p f ≡ true
two_granted p f g h granted granted_too is =
    elim (or_cases (same_feature f g) (same_feature f h || false) is) as (λ c. has p f ≡ true)
    [ inl same ↦ grants_alike p.answers f g (eqb-true (feature_number f) (feature_number g) same) ∙ granted | inr other ↦ one_granted p f h granted_too other ]

-- ---- the kinds

-- the features that the kernel needs for a new record
abbrev Needs : Bool → BtfFeature → Record → Type 0
Needs is_exempt f r = IsAmong f (needs_by is_exempt (kind_of r.info) r)

-- a record that is made or retained, depending on a test
either : (P : Record → Type 0) (C : Type 0) (b : Bool) (x y : Record) → (b ≡ true → P x → C) → (b ≡ false → P y → C) → P (if b then x else y) → C
either P C true x y f g h = f refl h
either P C false x y f g h = g refl h

-- a record whose kind is known
of_kind : (is_exempt : Bool) (f : BtfFeature) (r : Record) (k : Option Kind) → kind_of r.info ≡ k → Needs is_exempt f r → IsAmong f (needs_by is_exempt k r)
of_kind is_exempt f r k kind is = subst (λ (j : Option Kind). IsAmong f (needs_by is_exempt j r)) kind is

-- if no features are needed
none : {C : Type 0} (f : BtfFeature) → IsAmong f [] → C
none f is = absurd (false≢true is)

-- if a sign is retained, its feature is granted
sign_granted : (f g : BtfFeature) (s h : Bool) → (s && not h) ≡ false → IsAmong f (if s then g ∷ [] else []) → (h ≡ true) × IsAmong f (g ∷ [])
sign_granted f g true true stays is = (refl, is)
sign_granted f g true false stays is = absurd (false≢true (sym stays))
sign_granted f g false h stays is = absurd (false≢true is)

unsigned_flag : (info : ℕ) → kind_flag (with_flag info false) ≡ 0
unsigned_flag info = omega arith

pub unsigned_number : (info : ℕ) → kind_number (with_flag info false) ≡ kind_number info
unsigned_number info = omega arith

unsigned_needs_none : {C : Type 0} (is_exempt : Bool) (f : BtfFeature) (r : Record) → kind_of r.info ≡ Some kinds.Enum → Needs is_exempt f (unsigned r) → C
unsigned_needs_none is_exempt f r kind is =
    let same : kind_of (unsigned r).info ≡ Some kinds.Enum = ap (λ (m : ℕ). slice_get (take 20 kinds.kinds) m) (unsigned_number r.info) ∙ kind in
    none f (subst (λ (n : ℕ). IsAmong f (if n == 1 then features.Enum64 ∷ [] else [])) (unsigned_flag r.info) (of_kind is_exempt f (unsigned r) (Some kinds.Enum) same is))

enum_granted : (p : Pass) (is_exempt : Bool) (f : BtfFeature) (r : Record) → kind_of r.info ≡ Some kinds.Enum → Needs is_exempt f (if is_signed r && not (has p features.Enum64) then unsigned r else r) → has p f ≡ true
enum_granted p is_exempt f r kind is =
    either (Needs is_exempt f) (has p f ≡ true) (is_signed r && not (has p features.Enum64)) (unsigned r) r
    (λ cleared n. unsigned_needs_none is_exempt f r kind n)
    (λ stays n. let both = sign_granted f features.Enum64 (is_signed r) (has p features.Enum64) stays (of_kind is_exempt f r (Some kinds.Enum) kind n) in one_granted p f features.Enum64 both.0 both.1)
    is

-- ---- functions

pub static_vlen : (info : ℕ) → vlen (with_vlen info 0) ≡ 0
static_vlen info = omega arith

pub static_number : (info : ℕ) → kind_number (with_vlen info 0) ≡ kind_number info
static_number info = omega arith

static_needs : (is_exempt : Bool) (f : BtfFeature) (r : Record) → kind_of r.info ≡ Some kinds.Func → Needs is_exempt f (with_linkage 0 r) → IsAmong f (features.Func ∷ [])
static_needs is_exempt f r kind is =
    let same : kind_of (with_linkage 0 r).info ≡ Some kinds.Func = ap (λ (m : ℕ). slice_get (take 20 kinds.kinds) m) (static_number r.info) ∙ kind in
    subst (λ (n : ℕ). IsAmong f (if n == 1 then features.Func ∷ features.FuncGlobal ∷ [] else features.Func ∷ [])) (static_vlen r.info) (of_kind is_exempt f (with_linkage 0 r) (Some kinds.Func) same is)

-- if a Global function is retained, its features are granted
global_granted : (p : Pass) (f : BtfFeature) (g b h : Bool) → has p features.Func ≡ true → has p features.FuncGlobal ≡ h → (g && (b || not h)) ≡ false
    → IsAmong f (if g then features.Func ∷ features.FuncGlobal ∷ [] else features.Func ∷ []) → has p f ≡ true
global_granted p f true true h granted is_h stays is = absurd (false≢true (sym stays))
global_granted p f true false true granted is_h stays is = two_granted p f features.Func features.FuncGlobal granted is_h is
global_granted p f true false false granted is_h stays is = absurd (false≢true (sym stays))
global_granted p f false b h granted is_h stays is = one_granted p f features.Func granted is

known_granted : (p : Pass) (is_exempt : Bool) (f : BtfFeature) (r : Record) (name : Result (List ℕ) Refusal) → kind_of r.info ≡ Some kinds.Func → has p features.Func ≡ true
    → first_fault (name_is_read name ∷ []) ≡ None → Needs is_exempt f (known_func p r name) → has p f ≡ true
known_granted p is_exempt f r (Ok name) kind granted read is =
    either (Needs is_exempt f) (has p f ≡ true) (is_global r && (is_builtin name || not (has p features.FuncGlobal))) (with_linkage 0 r) r
    (λ cleared n. one_granted p f features.Func granted (static_needs is_exempt f r kind n))
    (λ stays n. global_granted p f (is_global r) (is_builtin name) (has p features.FuncGlobal) granted refl stays (of_kind is_exempt f r (Some kinds.Func) kind n))
    is
known_granted p is_exempt f r (Err refusal) kind granted read is = absurd (none-some refusal (sym read))

-- a made ENUM has no sign
made_flag : (count : ℕ) → count < 2 ^ 16 → kind_flag (6 * 2 ^ 24 + count) ≡ 0
made_flag count small = omega arith

made_enum_needs_none : {C : Type 0} (is_exempt : Bool) (f : BtfFeature) (name count : ℕ) (words : List ℕ) → count < 2 ^ 16 → Needs is_exempt f (enum name count words) → C
made_enum_needs_none is_exempt f name count words small is =
    none f (subst (λ (n : ℕ). IsAmong f (if n == 1 then features.Enum64 ∷ [] else [])) (made_flag count small)
    (of_kind is_exempt f (enum name count words) (Some kinds.Enum) (kind_made 6 count kinds.Enum (omega arith) small refl) is))

proto_granted : (p : Pass) (is_exempt : Bool) (f : BtfFeature) (r : Record) (words : List ℕ) → kind_of r.info ≡ Some kinds.FuncProto
    → Needs is_exempt f (if has p features.Func then record r { tail = words } else enum r.name (vlen r.info) r.tail) → has p f ≡ true
proto_granted p is_exempt f r words kind is =
    either (Needs is_exempt f) (has p f ≡ true) (has p features.Func) (record r { tail = words }) (enum r.name (vlen r.info) r.tail)
    (λ granted n. one_granted p f features.Func granted (of_kind is_exempt f (record r { tail = words }) (Some kinds.FuncProto) kind n))
    (λ denied n. made_enum_needs_none is_exempt f r.name (vlen r.info) r.tail (vlen_small r.info) n)
    is

-- ---- sections

-- a made STRUCT or UNION needs nothing
struct_needs_none : {C : Type 0} (is_exempt : Bool) (f : BtfFeature) (name size count : ℕ) (words : List ℕ) → count < 2 ^ 16 → Needs is_exempt f (struct name size count words) → C
struct_needs_none is_exempt f name size count words small is =
    none f (of_kind is_exempt f (struct name size count words) (Some kinds.Struct) (kind_made 4 count kinds.Struct (omega arith) small refl) is)

union_needs_none : {C : Type 0} (is_exempt : Bool) (f : BtfFeature) (name size count : ℕ) (words : List ℕ) → count < 2 ^ 16 → Needs is_exempt f (union name size count words) → C
union_needs_none is_exempt f name size count words small is =
    none f (of_kind is_exempt f (union name size count words) (Some kinds.Union) (kind_made 5 count kinds.Union (omega arith) small refl) is)

made_vlen : (count : ℕ) → count < 2 ^ 16 → vlen (15 * 2 ^ 24 + count) ≡ count
made_vlen count small = omega arith

-- a DATASEC that has entries, or is exempt, needs only DataSec
section_needs : (f : BtfFeature) (e x : Bool) → (e && not x) ≡ false → IsAmong f (if e && not x then features.DataSec ∷ features.DataSecZero ∷ [] else features.DataSec ∷ []) → IsAmong f (features.DataSec ∷ [])
section_needs f e x one is = subst (λ (b : Bool). IsAmong f (if b then features.DataSec ∷ features.DataSecZero ∷ [] else features.DataSec ∷ [])) one is

or_true : (b : Bool) → (b || true) ≡ true
or_true true = refl
or_true false = refl

-- if the size of its section is known, a DATASEC that gets no filler has entries, or the kernel accepts it without
-- entries
unfilled : (d s u e h : Bool) (size : ℕ) → d ≡ true → u ≡ true → (d && (s || (u && e && is_zero_or (not h) (Some size)))) ≡ false → (e && not h) ≡ false
unfilled false s u e h size is_d is_u no_filler = absurd (false≢true is_d)
unfilled true s false e h size is_d is_u no_filler = absurd (false≢true is_u)
unfilled true true true e h size is_d is_u no_filler = absurd (false≢true (sym no_filler))
unfilled true false true true true size is_d is_u no_filler = refl
unfilled true false true true false size is_d is_u no_filler = absurd (false≢true (sym no_filler ∙ or_true (size == 0)))
unfilled true false true false h size is_d is_u no_filler = refl

-- a DATASEC that has a size and gets no filler has entries, or is exempt, or the kernel accepts it without entries
unfilled_sized : (p : Pass) (f : BtfFeature) (d s e z h u : Bool) → has p features.DataSec ≡ true → has p features.DataSecZero ≡ h → d ≡ true → z ≡ false
    → (d && ((s && (e && not z) && not h) || u)) ≡ false
    → IsAmong f (if e && not (not s && (e && not z)) then features.DataSec ∷ features.DataSecZero ∷ [] else features.DataSec ∷ []) → has p f ≡ true
unfilled_sized p f false s e z h u granted is_h is_d is_z no_filler is = absurd (false≢true is_d)
unfilled_sized p f true s e true h u granted is_h is_d is_z no_filler is = absurd (false≢true (sym is_z))
unfilled_sized p f true true true false true u granted is_h is_d is_z no_filler is = two_granted p f features.DataSec features.DataSecZero granted is_h is
unfilled_sized p f true true true false false u granted is_h is_d is_z no_filler is = absurd (false≢true (sym no_filler))
unfilled_sized p f true false true false h u granted is_h is_d is_z no_filler is = one_granted p f features.DataSec granted is
unfilled_sized p f true s false false h u granted is_h is_d is_z no_filler is = one_granted p f features.DataSec granted is

zero_granted : (p : Pass) (f : BtfFeature) (e x h : Bool) → has p features.DataSec ≡ true → has p features.DataSecZero ≡ h → (e && not h) ≡ false
    → IsAmong f (if e && not x then features.DataSec ∷ features.DataSecZero ∷ [] else features.DataSec ∷ []) → has p f ≡ true
zero_granted p f true true h granted is_h known is = one_granted p f features.DataSec granted is
zero_granted p f true false true granted is_h known is = two_granted p f features.DataSec features.DataSecZero granted is_h is
zero_granted p f true false false granted is_h known is = absurd (false≢true (sym known))
zero_granted p f false x h granted is_h known is = one_granted p f features.DataSec granted is

-- ---- tests that pass

pub passed_head : (check : Check) (checks : List Check) → first_fault (check ∷ checks) ≡ None → check ≡ None
passed_head None checks passed = refl
passed_head (Some refusal) checks passed = absurd (none-some refusal (sym passed))

pub passed_tail : (check : Check) (checks : List Check) → first_fault (check ∷ checks) ≡ None → first_fault checks ≡ None
passed_tail None checks passed = passed
passed_tail (Some refusal) checks passed = absurd (none-some refusal (sym passed))

pub passed_left : (before after : List Check) → first_fault (before ++ after) ≡ None → first_fault before ≡ None
passed_left [] after passed = refl
passed_left (None ∷ before) after passed = passed_left before after passed
passed_left (Some refusal ∷ before) after passed = absurd (none-some refusal (sym passed))

pub passed_right : (before after : List Check) → first_fault (before ++ after) ≡ None → first_fault after ≡ None
passed_right [] after passed = passed
passed_right (None ∷ before) after passed = passed_right before after passed
passed_right (Some refusal ∷ before) after passed = absurd (none-some refusal (sym passed))

-- a section whose name is read and whose size test passes has a known size
size_known : (size : Option ℕ) (name : Result (List ℕ) Refusal) → name_is_read name ≡ None → is_sized size name ≡ None → (n : ℕ) × (size ≡ Some n)
size_known (Some n) name read sized = (n, refl)
size_known None (Ok name) read sized = absurd (none-some (UnknownSectionSize name) (sym sized))
size_known None (Err refusal) read sized = absurd (none-some refusal (sym read))

-- ---- a DATASEC

-- the tests of a DATASEC that is completed
module _ (p : Pass) (id : ℕ) (unsized : Bool) (others : List Check) (granted : has p features.DataSec ≡ true) where
  completing : unsized ≡ true → first_fault (name_checks p id ++ (if has p features.DataSec then (if unsized then completing_checks p id (record_at p.table id) else filling_checks p id) else others)) ≡ None
      → (n : ℕ) × (section_size p id ≡ Some n)
  completing is passed =
      let rest : first_fault (if has p features.DataSec then (if unsized then completing_checks p id (record_at p.table id) else filling_checks p id) else others) ≡ None = passed_right (name_checks p id) _ passed in
      let inner : first_fault (completing_checks p id (record_at p.table id)) ≡ None =
      subst (λ (b : Bool). first_fault (if b then completing_checks p id (record_at p.table id) else filling_checks p id) ≡ None) is
      (subst (λ (b : Bool). first_fault (if b then (if unsized then completing_checks p id (record_at p.table id) else filling_checks p id) else others) ≡ None) granted rest) in
      size_known (section_size p id) (name_of p id) (passed_head _ _ (passed_left (name_checks p id) _ passed)) (passed_head _ _ inner)

-- a DATASEC that gets the filler has an entry
filled_granted : (p : Pass) (is_exempt : Bool) (f : BtfFeature) (id size : ℕ) (r : Record) → has p features.DataSec ≡ true → Needs is_exempt f (filled p id size r) → has p f ≡ true
filled_granted p is_exempt f id size r granted is =
    one_granted p f features.DataSec granted (of_kind is_exempt f (filled p id size r) (Some kinds.DataSec) (kind_made 15 1 kinds.DataSec (omega arith) (omega arith) refl) is)

-- a completed DATASEC has the filler as its entry, or entries of its own, or none if this was granted

laid_granted : (p : Pass) (is_exempt : Bool) (f : BtfFeature) (name size count : ℕ) (es : List Entry) → has p features.DataSec ≡ true → count < 2 ^ 16
    → ((count == 0) && not (has p features.DataSecZero)) ≡ false → Needs is_exempt f (made_data_sec name size count es) → has p f ≡ true
laid_granted p is_exempt f name size count es granted small known is =
    zero_granted p f (count == 0) is_exempt (has p features.DataSecZero) granted refl known
    (subst (λ (n : ℕ). IsAmong f (if (n == 0) && not is_exempt then features.DataSec ∷ features.DataSecZero ∷ [] else features.DataSec ∷ [])) (made_vlen count small)
    (of_kind is_exempt f (made_data_sec name size count es) (Some kinds.DataSec) (kind_made 15 count kinds.DataSec (omega arith) small refl) is))

completed_granted : (p : Pass) (id : ℕ) (is_exempt : Bool) (f : BtfFeature) (size : ℕ) → kind_at p.table id ≡ Some kinds.DataSec → has p features.DataSec ≡ true → ((record_at p.table id).third == 0) ≡ true
    → (n : ℕ) × (section_size p id ≡ Some n) → Needs is_exempt f (completed p id size (record_at p.table id)) → has p f ≡ true
completed_granted p id is_exempt f size kind granted unsized known is =
    let r : Record = record_at p.table id in
    let is_u : is_unsized (kind_at p.table id) r ≡ true = ap (λ (k : Option Kind). is_unsized k r) kind ∙ unsized in
    either (Needs is_exempt f) (has p f ≡ true) (gets_filler p id) _ _
    (λ is_filled n. filled_granted p is_exempt f id (max size 1) r granted n)
    (λ not_filled n. laid_granted p is_exempt f (new_name p id r) size (vlen r.info) (map (placed p) (section_entries r.tail)) granted (vlen_small r.info)
    (unfilled (has p features.DataSec) (fills_sized_one p id) (is_unsized (kind_at p.table id) r) (has_no_entries r) (has p features.DataSecZero) known.0 granted is_u
    (subst (λ (o : Option ℕ). (has p features.DataSec && (fills_sized_one p id || (is_unsized (kind_at p.table id) r && has_no_entries r && is_zero_or (not (has p features.DataSecZero)) o))) ≡ false) known.1 not_filled)) n)
    is

-- whether a DATASEC is exempt
abbrev exempt : Pass → Record → Bool
exempt p r = not (fills_sized p.policy) && (has_no_entries r && not (r.third == 0))

-- a DATASEC that has a size has the filler as its entry, or is unchanged
sized_granted : (p : Pass) (id : ℕ) (f : BtfFeature) → kind_at p.table id ≡ Some kinds.DataSec → has p features.DataSec ≡ true → ((record_at p.table id).third == 0) ≡ false
    → Needs (exempt p (record_at p.table id)) f (sized p id (record_at p.table id)) → has p f ≡ true
sized_granted p id f kind granted is_sized is =
    let r : Record = record_at p.table id in
    either (Needs (exempt p r) f) (has p f ≡ true) (gets_filler p id) _ _
    (λ is_filled n. filled_granted p (exempt p r) f id r.third r granted n)
    (λ not_filled n. unfilled_sized p f (has p features.DataSec) (fills_sized p.policy) (has_no_entries r) (r.third == 0) (has p features.DataSecZero) (fills_unsized p id) granted refl granted is_sized
    (subst (λ (k : Option Kind). (has p features.DataSec && ((fills_sized p.policy && is_sized_and_empty k r && not (has p features.DataSecZero)) || fills_unsized p id)) ≡ false) kind not_filled)
    (of_kind (exempt p r) f (record r { name = new_name p id r }) (Some kinds.DataSec) kind n))
    is

section_granted : (p : Pass) (id : ℕ) (f : BtfFeature) (words : List ℕ) → kind_at p.table id ≡ Some kinds.DataSec
    → first_fault (checks_by p id (Some kinds.DataSec) (record_at p.table id)) ≡ None
    → Needs (exempt p (record_at p.table id)) f
    (if has p features.DataSec then (if (record_at p.table id).third == 0 then completed p id (unwrap_or (section_size p id) 0) (record_at p.table id) else sized p id (record_at p.table id))
    else struct (new_name p id (record_at p.table id)) (vlen (record_at p.table id).info) (vlen (record_at p.table id).info) words)
    → has p f ≡ true
section_granted p id f words kind passed is =
    let r : Record = record_at p.table id in
    let x : Bool = exempt p r in
    either (Needs x f) (has p f ≡ true) (has p features.DataSec) _ _
    (λ granted n. either (Needs x f) (has p f ≡ true) (r.third == 0) _ _
    (λ unsized m. completed_granted p id x f _ kind granted unsized (completing p id (r.third == 0) _ granted unsized passed) m)
    (λ is_sized m. sized_granted p id f kind granted is_sized m) n)
    (λ denied n. struct_needs_none x f _ _ (vlen r.info) words (vlen_small r.info) n)
    is

-- ---- all kinds

-- whether a record of another kind is exempt
abbrev none_exempt : Pass → Bool
none_exempt p = not (fills_sized p.policy) && false

-- The features that the kernel needs for the new record of an id were granted, if the id is not refused.
granted_by : (p : Pass) (lower : List Record) (id : ℕ) (f : BtfFeature) (k : Option Kind) → kind_at p.table id ≡ k → first_fault (checks_by p id k (record_at p.table id)) ≡ None
    → Needs (not (fills_sized p.policy) && is_sized_and_empty k (record_at p.table id)) f (becomes_by p lower id k (record_at p.table id)) → has p f ≡ true
granted_by p lower id f (Some kinds.Var) kind passed is =
    either (Needs (none_exempt p) f) (has p f ≡ true) (has p features.DataSec) _ _ (λ granted n. one_granted p f features.DataSec granted (of_kind (none_exempt p) f (record_at p.table id) _ kind n)) (λ denied n. none f n) is
granted_by p lower id f (Some kinds.Float) kind passed is =
    either (Needs (none_exempt p) f) (has p f ≡ true) (has p features.Float) _ _ (λ granted n. one_granted p f features.Float granted (of_kind (none_exempt p) f (record_at p.table id) _ kind n)) (λ denied n. none f n) is
granted_by p lower id f (Some kinds.DeclTag) kind passed is =
    either (Needs (none_exempt p) f) (has p f ≡ true) (has p features.DeclTag) _ _ (λ granted n. one_granted p f features.DeclTag granted (of_kind (none_exempt p) f (record_at p.table id) _ kind n)) (λ denied n. none f n) is
granted_by p lower id f (Some kinds.TypeTag) kind passed is =
    either (Needs (none_exempt p) f) (has p f ≡ true) (has p features.TypeTag) _ _ (λ granted n. one_granted p f features.TypeTag granted (of_kind (none_exempt p) f (record_at p.table id) _ kind n)) (λ denied n. none f n) is
granted_by p lower id f (Some kinds.Enum) kind passed is = enum_granted p (none_exempt p) f (record_at p.table id) kind is
granted_by p lower id f (Some kinds.Enum64) kind passed is =
    either (Needs (none_exempt p) f) (has p f ≡ true) (has p features.Enum64) _ _ (λ granted n. one_granted p f features.Enum64 granted (of_kind (none_exempt p) f (record_at p.table id) _ kind n))
    (λ denied n. union_needs_none (none_exempt p) f _ _ _ _ (vlen_small (record_at p.table id).info) n) is
granted_by p lower id f (Some kinds.Func) kind passed is =
    either (Needs (none_exempt p) f) (has p f ≡ true) (has p features.Func) _ _ (λ granted n. known_granted p (none_exempt p) f (record_at p.table id) (name_of p id) kind granted passed n) (λ denied n. none f n) is
granted_by p lower id f (Some kinds.FuncProto) kind passed is = proto_granted p (none_exempt p) f (record_at p.table id) _ kind is
granted_by p lower id f (Some kinds.DataSec) kind passed is = section_granted p id f _ kind passed is
granted_by p lower id f (Some kinds.Ptr) kind passed is = none f (of_kind (none_exempt p) f (record (record_at p.table id) { name = 0 }) (Some kinds.Ptr) kind is)
granted_by p lower id f k kind passed is = none f (of_kind (not (fills_sized p.policy) && is_sized_and_empty k (record_at p.table id)) f (record_at p.table id) k kind is)

pub new_granted : (p : Pass) (id : ℕ) (f : BtfFeature) → fault p id ≡ None → IsAmong f (needs p.policy (record_at p.table id) (becomes p id)) → has p f ≡ true
new_granted p id f passed is = granted_by p (ruled_below p id) id f (kind_at p.table id) refl passed is
