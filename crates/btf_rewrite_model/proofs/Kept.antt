-- A rewrite retains sizes of types, and the types that ids resolve to.
use Rattle.std.proofs.Common.{◌≡◌, ◌≢◌, ℕ, zero, suc, ◌+◌, ◌*◌, ◌^◌, ◌<◌, max, Bool, true, false, ◌&&◌, not, List, [], ◌∷◌, length, map, Option, None, Some, Ok, Err, refl, sym, ap, ◌∙◌, arith, inl, inr}
use Rattle.std.specs.Prelude.{if◌then◌else◌, ◌==◌, slice_get}
use Rattle.std.specs.Option.{unwrap_or}
use Rattle.std.specs.Result.{is_ok}
use Rattle.std.proofs.lemmas.Bool.{false≢true}
use Rattle.std.proofs.lemmas.Option.{none-some, slice_get-get_or, slice_get_within}
use Rattle.std.proofs.lemmas.List.FromFn.{length-map-range_with_len, get_or-map-range_with_len}
use Rattle.btf_model.specs.Record as kinds
use Rattle.btf_model.specs.Record.{Kind, Record, unknown, kind_of, kind_number, vlen}
use Rattle.btf_model.specs.Refusal.{Refusal, UnknownBtfType, MaximumTypeDepthReached}
use Rattle.btf_model.specs.Table.{Table}
use Rattle.btf_model.specs.Walk.{Extent, Finding, Ends, GoesOn, Leads, WalkAnswers, By, Elements, size_in, size_by, extent, modified, modified_type, after_modifier, unmodified_in, Resolves, HasSize}
use Rattle.btf_rewrite_model.specs.declared.feature.BtfFeature.TheVariants as features
use Rattle.btf_rewrite_model.specs.Feature.{is_signed}
use Rattle.btf_rewrite_model.specs.declared.feature.FeatureAnswer.{FeatureAnswer}
use Rattle.btf_rewrite_model.specs.declared.feature.FillPolicy.{FillPolicy}
use Rattle.btf_rewrite_model.specs.Made.{section_entries, variants, record_at, kind_at, table_ids, byte_int, const, struct, union, enum, made_data_sec, unsigned, c_int}
use Rattle.btf_rewrite_model.specs.Ksyms.{stepped, each_stepped, appends_int}
use Rattle.btf_rewrite_model.specs.declared.ksyms_ids.KsymsIds.{KsymsIds}
use Rattle.btf_rewrite_model.specs.Pass.{Pass, Layout, has, gets_filler, section_size, offset_at}
use Rattle.btf_rewrite_model.specs.Rule.{becomes, becomes_by, ruled_below, completed, sized, filled, new_name, placed, named_params, variant_members, entry_members, member_type_id}
use Rattle.btf_rewrite_model.specs.Rewritten.{begun, pass_of, Rewritten}
use Rattle.btf_rewrite_model.specs.RewriteLaws.{keeps_size, FindsKept}
use Rattle.btf_model.proofs.Blobs.{slice_get-append_left}
use Rattle.btf_rewrite_model.proofs.Granted.{kind_made, vlen_small}
use Rattle.btf_rewrite_model.proofs.Lengths.{by_both}
use Rattle.btf_rewrite_model.proofs.Ruled.{new_at}
use Rattle.btf_model.proofs.Walks.{ends_there, not_both, same_answer, same_next}

-- ---- what a rule retains

pub unsigned_kind : (r : Record) → kind_of r.info ≡ Some kinds.Enum → kind_of (unsigned r).info ≡ Some kinds.Enum
unsigned_kind r kind =
    let same : kind_number (unsigned r).info ≡ kind_number r.info = omega arith in
    ap (λ (m : ℕ). slice_get kinds.kinds m) same ∙ kind

-- the size that a record of this kind gives
sized_as : (q : Record) (k : Kind) → kind_of q.info ≡ Some k → extent (kind_of q.info) q ≡ extent (Some k) q
sized_as q k kind = ap (λ (j : Option Kind). extent j q) kind

keeps_extent : (p : Pass) (lower : List Record) (id : ℕ) (k : Option Kind) (r : Record) → kind_of r.info ≡ k → keeps_size k ≡ true → extent (kind_of (becomes_by p lower id k r).info) (becomes_by p lower id k r) ≡ extent k r
keeps_extent p lower id (Some kinds.Var) r kind keeps = absurd (false≢true keeps)
keeps_extent p lower id (Some kinds.Func) r kind keeps = absurd (false≢true keeps)
keeps_extent p lower id (Some kinds.FuncProto) r kind keeps = absurd (false≢true keeps)
keeps_extent p lower id (Some kinds.DataSec) r kind keeps = absurd (false≢true keeps)
keeps_extent p lower id (Some kinds.DeclTag) r kind keeps = absurd (false≢true keeps)
keeps_extent p lower id (Some kinds.Ptr) r kind keeps = sized_as (record r { name = 0 }) kinds.Ptr kind
keeps_extent p lower id (Some kinds.Float) r kind keeps = by_both (λ q. extent (kind_of q.info) q ≡ extent (Some kinds.Float) r) (has p features.Float) r (struct 0 r.third 0 []) (sized_as r kinds.Float kind) refl
keeps_extent p lower id (Some kinds.TypeTag) r kind keeps = by_both (λ q. extent (kind_of q.info) q ≡ extent (Some kinds.TypeTag) r) (has p features.TypeTag) r (const r.third) (sized_as r kinds.TypeTag kind) refl
keeps_extent p lower id (Some kinds.Enum) r kind keeps =
    by_both (λ q. extent (kind_of q.info) q ≡ extent (Some kinds.Enum) r) (is_signed r && not (has p features.Enum64)) (unsigned r) r (sized_as (unsigned r) kinds.Enum (unsigned_kind r kind)) (sized_as r kinds.Enum kind)
keeps_extent p lower id (Some kinds.Enum64) r kind keeps =
    let made : Record = union r.name r.third (vlen r.info) (variant_members (member_type_id p id) (variants r.tail)) in
    by_both (λ q. extent (kind_of q.info) q ≡ extent (Some kinds.Enum64) r) (has p features.Enum64) r made (sized_as r kinds.Enum64 kind)
    (sized_as made kinds.Union (kind_made 5 (vlen r.info) kinds.Union (omega arith) (vlen_small r.info) refl))
keeps_extent p lower id k r kind keeps = ap (λ (j : Option Kind). extent j r) kind

-- the type that a record of this kind modifies
modified_as : (q : Record) (k : Kind) → kind_of q.info ≡ Some k → modified_type q ≡ modified (Some k) q
modified_as q k kind = ap (λ (j : Option Kind). modified j q) kind

no_modifier : (q : Record) (n count : ℕ) (k : Kind) → q.info ≡ n * 2 ^ 24 + count → n < 2 ^ 5 → count < 2 ^ 16 → slice_get kinds.kinds n ≡ Some k → modified (Some k) q ≡ None → modified_type q ≡ None
no_modifier q n count k info small few is none = modified_as q k (ap kind_of info ∙ kind_made n count k small few is) ∙ none

section_unmodified : (p : Pass) (lower : List Record) (id : ℕ) (r : Record) → kind_of r.info ≡ Some kinds.DataSec → modified_type (becomes_by p lower id (Some kinds.DataSec) r) ≡ None
section_unmodified p lower id r kind =
    let size : ℕ = unwrap_or (section_size p id) 0 in
    let with_filler : (n : ℕ) → modified_type (filled p id n r) ≡ None = λ n. no_modifier (filled p id n r) 15 1 kinds.DataSec refl (omega arith) (omega arith) refl refl in
    let laid : Record = made_data_sec (new_name p id r) size (vlen r.info) (map (placed p) (section_entries r.tail)) in
    let made : Record = struct (new_name p id r) (vlen r.info) (vlen r.info) (entry_members p lower id (section_entries r.tail)) in
    by_both (λ q. modified_type q ≡ None) (has p features.DataSec) (if r.third == 0 then completed p id size r else sized p id r) made
    (by_both (λ q. modified_type q ≡ None) (r.third == 0) (completed p id size r) (sized p id r)
    (by_both (λ q. modified_type q ≡ None) (gets_filler p id) (filled p id (max size 1) r) laid (with_filler (max size 1)) (no_modifier laid 15 (vlen r.info) kinds.DataSec refl (omega arith) (vlen_small r.info) refl refl))
    (by_both (λ q. modified_type q ≡ None) (gets_filler p id) (filled p id r.third r) (record r { name = new_name p id r }) (with_filler r.third) (modified_as (record r { name = new_name p id r }) kinds.DataSec kind)))
    (no_modifier made 4 (vlen r.info) kinds.Struct refl (omega arith) (vlen_small r.info) refl refl)

keeps_modified : (p : Pass) (lower : List Record) (id : ℕ) (k : Option Kind) (r : Record) → kind_of r.info ≡ k → k ≢ Some kinds.Func → modified_type (becomes_by p lower id k r) ≡ modified k r
keeps_modified p lower id (Some kinds.Func) r kind other = absurd (other refl)
keeps_modified p lower id (Some kinds.Ptr) r kind other = modified_as (record r { name = 0 }) kinds.Ptr kind
keeps_modified p lower id (Some kinds.Var) r kind other = by_both (λ q. modified_type q ≡ None) (has p features.DataSec) r (byte_int r.name) (modified_as r kinds.Var kind) refl
keeps_modified p lower id (Some kinds.Float) r kind other = by_both (λ q. modified_type q ≡ None) (has p features.Float) r (struct 0 r.third 0 []) (modified_as r kinds.Float kind) refl
keeps_modified p lower id (Some kinds.DeclTag) r kind other = by_both (λ q. modified_type q ≡ None) (has p features.DeclTag) r (byte_int r.name) (modified_as r kinds.DeclTag kind) refl
keeps_modified p lower id (Some kinds.TypeTag) r kind other = by_both (λ q. modified_type q ≡ Some r.third) (has p features.TypeTag) r (const r.third) (modified_as r kinds.TypeTag kind) refl
keeps_modified p lower id (Some kinds.Enum) r kind other =
    by_both (λ q. modified_type q ≡ None) (is_signed r && not (has p features.Enum64)) (unsigned r) r (modified_as (unsigned r) kinds.Enum (unsigned_kind r kind)) (modified_as r kinds.Enum kind)
keeps_modified p lower id (Some kinds.Enum64) r kind other =
    let made : Record = union r.name r.third (vlen r.info) (variant_members (member_type_id p id) (variants r.tail)) in
    by_both (λ q. modified_type q ≡ None) (has p features.Enum64) r made (modified_as r kinds.Enum64 kind) (no_modifier made 5 (vlen r.info) kinds.Union refl (omega arith) (vlen_small r.info) refl refl)
keeps_modified p lower id (Some kinds.FuncProto) r kind other =
    let made : Record = enum r.name (vlen r.info) r.tail in
    by_both (λ q. modified_type q ≡ None) (has p features.Func) (record r { tail = named_params 0 (offset_at p id) r.tail }) made
    (modified_as (record r { tail = named_params 0 (offset_at p id) r.tail }) kinds.FuncProto kind) (no_modifier made 6 (vlen r.info) kinds.Enum refl (omega arith) (vlen_small r.info) refl refl)
keeps_modified p lower id (Some kinds.DataSec) r kind other = section_unmodified p lower id r kind
keeps_modified p lower id k r kind other = ap (λ (j : Option Kind). modified j r) kind

-- ---- what the step of `.ksyms` retains

-- the kind of a record that is no FUNC; a FUNC also retains its kind, but is not needed here
step_info : (t : Table) (ids : KsymsIds) (id : ℕ) (k : Option Kind) (r : Record) → k ≢ Some kinds.Func → (stepped t ids id k r).info ≡ r.info
step_info t ids id (Some kinds.Func) r other = absurd (other refl)
step_info t ids id (Some kinds.Var) r other = by_both (λ q. q.info ≡ r.info) _ _ r refl refl
step_info t ids id (Some kinds.FuncProto) r other = by_both (λ q. q.info ≡ r.info) _ _ r refl refl
step_info t ids id (Some kinds.DataSec) r other = by_both (λ q. q.info ≡ r.info) _ _ r refl refl
step_info t ids id k r other = refl

step_modified : (t : Table) (ids : KsymsIds) (id : ℕ) (k : Option Kind) (r : Record) → k ≢ Some kinds.Func → modified k (stepped t ids id k r) ≡ modified k r
step_modified t ids id (Some kinds.Func) r other = refl
step_modified t ids id (Some kinds.Var) r other = refl
step_modified t ids id (Some kinds.FuncProto) r other = refl
step_modified t ids id (Some kinds.DataSec) r other = refl
step_modified t ids id k r other = refl

step_same : (t : Table) (ids : KsymsIds) (id : ℕ) (k : Option Kind) (r : Record) → keeps_size k ≡ true → stepped t ids id k r ≡ r
step_same t ids id (Some kinds.Func) r keeps = absurd (false≢true keeps)
step_same t ids id (Some kinds.Var) r keeps = absurd (false≢true keeps)
step_same t ids id (Some kinds.FuncProto) r keeps = absurd (false≢true keeps)
step_same t ids id (Some kinds.DataSec) r keeps = absurd (false≢true keeps)
step_same t ids id k r keeps = refl

-- the record that an id has as the pass begins
pub begun_record : Table → Option KsymsIds → ℕ → Record → Record
begun_record t (Some ids) id r = stepped t ids id (kind_of r.info) r
begun_record t None id r = r

pub by_table : (P : Table → Type 0) (b : Bool) (x y : Table) → P x → P y → P (if b then x else y)
by_table P true x y px py = px
by_table P false x y px py = py

each_at : (t : Table) (ids : KsymsIds) (id : ℕ) (r : Record) → slice_get t.records id ≡ Some r → slice_get (each_stepped t ids).records id ≡ Some (stepped t ids id (kind_of r.info) r)
each_at t ids id r at =
    let lt : id < length t.records = slice_get_within t.records id r at in
    let f : ℕ → Record = λ i. stepped t ids i (kind_at t i) (record_at t i) in
    let len : length (map f (table_ids t)) ≡ length t.records = length-map-range_with_len f 0 (length t.records) in
    slice_get-get_or (map f (table_ids t)) id unknown (omega (arith, lt, len)) ∙ ap (λ (q : Record). Some q) (get_or-map-range_with_len f 0 (length t.records) id id unknown lt (omega arith))
    ∙ ap (λ (o : Option Record). Some (stepped t ids id (kind_of (unwrap_or o unknown).info) (unwrap_or o unknown))) at

pub begun_at : (t : Table) (ids : Option KsymsIds) (id : ℕ) (r : Record) → slice_get t.records id ≡ Some r → slice_get (begun t ids).records id ≡ Some (begun_record t ids id r)
unfolding begun_record
begun_at t None id r at = at
begun_at t (Some ids) id r at =
    let here : slice_get (each_stepped t ids).records id ≡ Some (stepped t ids id (kind_of r.info) r) = each_at t ids id r at in
    let within : id < length (each_stepped t ids).records = slice_get_within (each_stepped t ids).records id (stepped t ids id (kind_of r.info) r) here in
    by_table (λ u. slice_get u.records id ≡ Some (stepped t ids id (kind_of r.info) r)) (appends_int t ids.placeholder_id) _ (each_stepped t ids)
    (slice_get-append_left (each_stepped t ids).records (c_int (length t.strings) ∷ []) id within ∙ here) here

pub begun_same : (t : Table) (ids : Option KsymsIds) (id : ℕ) (r : Record) → keeps_size (kind_of r.info) ≡ true → begun_record t ids id r ≡ r
unfolding begun_record
begun_same t None id r keeps = refl
begun_same t (Some ids) id r keeps = step_same t ids id (kind_of r.info) r keeps

begun_info : (t : Table) (ids : Option KsymsIds) (id : ℕ) (r : Record) → kind_of r.info ≢ Some kinds.Func → (begun_record t ids id r).info ≡ r.info
unfolding begun_record
begun_info t None id r other = refl
begun_info t (Some ids) id r other = step_info t ids id (kind_of r.info) r other

begun_modified : (t : Table) (ids : Option KsymsIds) (id : ℕ) (r : Record) → kind_of r.info ≢ Some kinds.Func → modified (kind_of r.info) (begun_record t ids id r) ≡ modified (kind_of r.info) r
unfolding begun_record
begun_modified t None id r other = refl
begun_modified t (Some ids) id r other = step_modified t ids id (kind_of r.info) r other

-- ---- walks

leads_too : {P A : Type 0} (Finds Found : P → Finding P A → Type 0) → ((at next : P) → Finds at (GoesOn next) → Found at (GoesOn next)) → (n : ℕ) (start end : P) → Leads Finds n start end → Leads Found n start end
leads_too Finds Found on zero start end leads = leads
leads_too Finds Found on (suc n) start end leads = (leads.0, on start leads.0 leads.1, leads_too Finds Found on n leads.0 end leads.2)

-- a walk that succeeds also succeeds if at least the same is found
answers_too : {P A : Type 0} (Finds Found : P → Finding P A → Type 0) (start : P) (too_deep : P → Refusal) (answer : A) → ((at next : P) → Finds at (GoesOn next) → Found at (GoesOn next))
    → ((at : P) → ((n : ℕ) × (n < 32) × Leads Finds n start at) → Finds at (Ends (Ok answer)) → Found at (Ends (Ok answer))) → WalkAnswers Finds start too_deep (Ok answer) → WalkAnswers Found start too_deep (Ok answer)
answers_too Finds Found start too_deep answer on ends (inl walk) = inl (walk.0, walk.1, walk.2, leads_too Finds Found on walk.0 start walk.1 walk.3, ends walk.1 (walk.0, walk.2, walk.3) walk.4)
answers_too Finds Found start too_deep answer on ends (inr deep) = absurd (false≢true (sym (ap is_ok deep.2)))

module _ (policy : FillPolicy) (old new : Table) (ids : Option KsymsIds) (layout : Layout) (answers : List FeatureAnswer) (is : Rewritten policy old ids layout answers new) where
  -- the new record of an id that the old table has
  new_record : (id : ℕ) (r : Record) → slice_get old.records id ≡ Some r → slice_get new.records id ≡ Some (becomes (pass_of policy old ids layout answers) id)
  new_record id r at =
      new_at policy old new ids layout answers is id (slice_get_within (begun old ids).records id (begun_record old ids id r) (begun_at old ids id r at))

  record_begun : (id : ℕ) (r : Record) → slice_get old.records id ≡ Some r → record_at (begun old ids) id ≡ begun_record old ids id r
  record_begun id r at = ap (λ (o : Option Record). unwrap_or o unknown) (begun_at old ids id r at)

  same_extent : (id : ℕ) (r : Record) → slice_get old.records id ≡ Some r → keeps_size (kind_of r.info) ≡ true
      → (q : Record) × (slice_get new.records id ≡ Some q) × (extent (kind_of q.info) q ≡ extent (kind_of r.info) r)
  same_extent id r at keeps =
      let p : Pass = pass_of policy old ids layout answers in
      let same : record_at (begun old ids) id ≡ r = record_begun id r at ∙ begun_same old ids id r keeps in (
        becomes p id,
        new_record id r at,
        ap (λ (q : Record). extent (kind_of (becomes_by p (ruled_below p id) id (kind_of q.info) q).info) (becomes_by p (ruled_below p id) id (kind_of q.info) q)) same
            ∙ keeps_extent p (ruled_below p id) id (kind_of r.info) r refl keeps,
      )

  same_modified : (id : ℕ) (r : Record) → slice_get old.records id ≡ Some r → kind_of r.info ≢ Some kinds.Func → (q : Record) × (slice_get new.records id ≡ Some q) × (modified_type q ≡ modified_type r)
  same_modified id r at other =
      let p : Pass = pass_of policy old ids layout answers in
      let b : Record = begun_record old ids id r in
      let info : b.info ≡ r.info = begun_info old ids id r other in
      let not_func : kind_of b.info ≢ Some kinds.Func = λ e. other (sym (ap kind_of info) ∙ e) in (
        becomes p id,
        new_record id r at,
        ap (λ (q : Record). modified_type (becomes_by p (ruled_below p id) id (kind_of q.info) q)) (record_begun id r at) ∙ keeps_modified p (ruled_below p id) id (kind_of b.info) b refl not_func
            ∙ ap (λ (n : ℕ). modified (kind_of n) b) info ∙ begun_modified old ids id r other,
      )

  -- ---- sizes

  -- if a walk for a size finds this, and it is no refusal
  size_found : (at : Elements) (found : Finding Elements ℕ) → (found ≡ Ends (Err (UnknownBtfType at.type)) → ⊥) → FindsKept old at found → size_in at (slice_get new.records at.type) ≡ found
  size_found at found known finds =
      elim (slice_get old.records at.type) as (λ (o : Option Record). slice_get old.records at.type ≡ o → size_in at o ≡ found → size_in at (slice_get new.records at.type) ≡ found) [
        | Some r ↦ λ here there.
            let keeps : keeps_size (kind_of r.info) ≡ true = ap (λ (o : Option Record). keeps_size (kind_of (unwrap_or o unknown).info)) (sym here) ∙ finds.0 in
            let same = same_extent at.type r here keeps in
            ap (λ (o : Option Record). size_in at o) same.1 ∙ ap (λ (x : Extent). size_by at x) same.2 ∙ there
        | None ↦ λ here there. absurd (known (sym there))
      ] refl finds.1

  pub sizes_stay : (id size : ℕ) → WalkAnswers (FindsKept old) (record { count = 1; type = id }) (λ _. MaximumTypeDepthReached id) (Ok size) → HasSize new.records id (Ok size)
  sizes_stay id size walk =
      answers_too (FindsKept old) (By (λ at. size_in at (slice_get new.records at.type))) (record { count = 1; type = id }) (λ _. MaximumTypeDepthReached id) size
      (λ at next finds. size_found at (GoesOn next) (λ e. not_both (GoesOn next) (Err (UnknownBtfType at.type)) next e refl) finds)
      (λ at way finds. size_found at (Ends (Ok size)) (λ e. false≢true (sym (ap is_ok (same_answer (Ok size) (Err (UnknownBtfType at.type)) e)))) finds) walk

  -- ---- resolving

  modifier_is_no_func : (k : Option Kind) (r : Record) (next : ℕ) → modified k r ≡ Some next → k ≢ Some kinds.Func
  modifier_is_no_func k r next modifies is_func = none-some next (sym (ap (λ (j : Option Kind). modified j r) is_func) ∙ modifies)

  goes_on_by : (id next : ℕ) (o : Option ℕ) → ◌≡◌ {A = Finding ℕ ℕ} (after_modifier id o) (GoesOn next) → o ≡ Some next
  goes_on_by id next (Some other) is_next = ap (λ (n : ℕ). Some n) (same_next other next is_next)
  goes_on_by id next None is_next = absurd (not_both (Ends (Ok id)) (Ok id) next refl is_next)

  unmodified_found : (id : ℕ) (r : Record) (found : Finding ℕ ℕ) → slice_get old.records id ≡ Some r → kind_of r.info ≢ Some kinds.Func → after_modifier id (modified_type r) ≡ found → unmodified_in id (slice_get new.records id) ≡ found
  unmodified_found id r found here other there =
      let same = same_modified id r here other in
      ap (λ (o : Option Record). unmodified_in id o) same.1 ∙ ap (λ (o : Option ℕ). after_modifier id o) same.2 ∙ there

  on_too : (id next : ℕ) → By (λ at. unmodified_in at (slice_get old.records at)) id (GoesOn next) → By (λ at. unmodified_in at (slice_get new.records at)) id (GoesOn next)
  on_too id next finds =
      elim (slice_get old.records id) as (λ (o : Option Record). slice_get old.records id ≡ o → unmodified_in id o ≡ GoesOn next → unmodified_in id (slice_get new.records id) ≡ GoesOn next) [
        | Some r ↦ λ here there. unmodified_found id r (GoesOn next) here (modifier_is_no_func (kind_of r.info) r next (goes_on_by id next (modified_type r) there)) there
        | None ↦ λ here there. absurd (not_both (Ends (Err (UnknownBtfType id))) (Err (UnknownBtfType id)) next refl there)
      ] refl finds

  ends_too : (end id : ℕ) → kind_at old end ≢ Some kinds.Func → By (λ at. unmodified_in at (slice_get old.records at)) id (Ends (Ok end)) → By (λ at. unmodified_in at (slice_get new.records at)) id (Ends (Ok end))
  ends_too end id other finds =
      let there_is : id ≡ end = ends_there id end (slice_get old.records id) finds in
      elim (slice_get old.records id) as (λ (o : Option Record). slice_get old.records id ≡ o → unmodified_in id o ≡ Ends (Ok end) → unmodified_in id (slice_get new.records id) ≡ Ends (Ok end)) [
        | Some r ↦ λ here there.
            let no_func : kind_of r.info ≢ Some kinds.Func = λ e. other (ap (λ (i : ℕ). kind_at old i) (sym there_is) ∙ ap (λ (o : Option Record). kind_of (unwrap_or o unknown).info) here ∙ e) in
            unmodified_found id r (Ends (Ok end)) here no_func there
        | None ↦ λ here there. absurd (false≢true (ap is_ok (same_answer (Err (UnknownBtfType id)) (Ok end) there)))
      ] refl finds

  pub resolutions_stay : (id end : ℕ) → Resolves old.records id (Ok end) → kind_at old end ≢ Some kinds.Func → Resolves new.records id (Ok end)
  resolutions_stay id end walk other =
      answers_too (By (λ at. unmodified_in at (slice_get old.records at))) (By (λ at. unmodified_in at (slice_get new.records at))) id (λ _. MaximumTypeDepthReached id) end on_too (λ at way finds. ends_too end at other finds) walk
