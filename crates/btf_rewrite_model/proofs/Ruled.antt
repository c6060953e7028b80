-- The records and the fallbacks of a rewritten table, by their ids.
use Rattle.std.proofs.Common.{◌≡◌, ℕ, zero, suc, ◌<◌, Bool, false, List, [], ◌∷◌, ◌++◌, length, map, Option, None, Some, refl, sym, ap, subst, ◌∙◌, arith, inl, inr}
use Rattle.std.specs.Prelude.{slice_get, ◌⊎◌, if◌then◌else◌}
use Rattle.std.specs.Option.{unwrap_or}
use Rattle.std.proofs.lemmas.Bool.{cases_order}
use Rattle.std.proofs.lemmas.List.{length-append}
use Rattle.std.proofs.lemmas.List.FromFn.{length-map-range_with_len, get_or-map-range_with_len}
use Rattle.std.proofs.lemmas.Option.{slice_get-get_or}
use Rattle.btf_model.specs.Record as kinds
use Rattle.btf_model.specs.Record.{Kind, Record, unknown, kind_of, vlen}
use Rattle.btf_rewrite_model.specs.declared.feature.BtfFeature.TheVariants as features
use Rattle.btf_model.specs.Table.{Table, Fallback, no_fallbacks}
use Rattle.btf_rewrite_model.specs.Made.{record_at, kind_at, table_ids, union, variants, enum64_fallback}
use Rattle.btf_rewrite_model.specs.declared.ksyms_ids.KsymsIds.{KsymsIds}
use Rattle.btf_rewrite_model.specs.Feature.{grants}
use Rattle.btf_rewrite_model.specs.declared.feature.FeatureAnswer.{FeatureAnswer}
use Rattle.btf_rewrite_model.specs.declared.feature.FillPolicy.{FillPolicy}
use Rattle.btf_rewrite_model.specs.Pass.{Pass, Layout, has, added_below}
use Rattle.btf_rewrite_model.specs.Rule.{becomes, becomes_by, ruled_below, falls_back, falls_back_by, variant_members, member_type_id}
use Rattle.btf_rewrite_model.specs.Rewritten.{begun, old_count, pass_of, Rewritten}
use Rattle.btf_rewrite_model.proofs.Granted.{kind_made}
use Rattle.btf_model.proofs.Blobs.{slice_get-push, slice_get-append_left}

pub length-ruled : (p : Pass) (n : ℕ) → length (ruled_below p n) ≡ n
length-ruled p zero = refl
length-ruled p (suc n) = omega (arith, length-append (ruled_below p n) (becomes p n ∷ []), length-ruled p n)

-- one more record at the end of the new records
last_ruled : (p : Pass) (n : ℕ) → slice_get (ruled_below p (suc n)) n ≡ Some (becomes p n)
last_ruled p n = subst (λ (i : ℕ). slice_get (ruled_below p (suc n)) i ≡ Some (becomes p n)) (length-ruled p n) (slice_get-push (ruled_below p n) (becomes p n))

ruled_among : (p : Pass) (n id : ℕ) → id < suc n → (id < n → slice_get (ruled_below p n) id ≡ Some (becomes p id)) → (id ≡ n) ⊎ ((id < n) ⊎ (n < id)) → slice_get (ruled_below p (suc n)) id ≡ Some (becomes p id)
ruled_among p n id lt below (inl same) = subst (λ (i : ℕ). slice_get (ruled_below p (suc n)) i ≡ Some (becomes p i)) (sym same) (last_ruled p n)
ruled_among p n id lt below (inr (inl less)) = slice_get-append_left (ruled_below p n) (becomes p n ∷ []) id (omega (arith, less, length-ruled p n)) ∙ below less
ruled_among p n id lt below (inr (inr more)) = absurd (omega (arith, lt, more))

-- the new record of an id does not change when higher ids get their records
pub ruled_at : (p : Pass) (n id : ℕ) → id < n → slice_get (ruled_below p n) id ≡ Some (becomes p id)
ruled_at p zero id lt = absurd (omega (arith, lt))
ruled_at p (suc n) id lt = ruled_among p n id lt (ruled_at p n id) (cases_order id n)

-- ---- the rewritten table

module _ (policy : FillPolicy) (old new : Table) (ids : Option KsymsIds) (layout : Layout) (answers : List FeatureAnswer) (is : Rewritten policy old ids layout answers new) where
  pass : Pass
  pass = pass_of policy old ids layout answers

  records_are : new.records ≡ ruled_below (pass_of policy old ids layout answers) (old_count (pass_of policy old ids layout answers)) ++ added_below (pass_of policy old ids layout answers) (old_count (pass_of policy old ids layout answers))
  records_are = ap (λ (t : Table). t.records) is.table

  pub new_at : (id : ℕ) → id < old_count (pass_of policy old ids layout answers) → slice_get new.records id ≡ Some (becomes (pass_of policy old ids layout answers) id)
  new_at id lt =
      let p : Pass = pass_of policy old ids layout answers in
      let within : id < length (ruled_below p (old_count p)) = omega (arith, lt, length-ruled p (old_count p)) in
      ap (λ (rs : List Record). slice_get rs id) records_are ∙ slice_get-append_left (ruled_below p (old_count p)) (added_below p (old_count p)) id within ∙ ruled_at p (old_count p) id lt

  pub record_new : (id : ℕ) → id < old_count (pass_of policy old ids layout answers) → record_at new id ≡ becomes (pass_of policy old ids layout answers) id
  record_new id lt = ap (λ (o : Option Record). unwrap_or o unknown) (new_at id lt)

  pub fallback_new : (id : ℕ) → id < old_count (pass_of policy old ids layout answers) → slice_get new.fallbacks id ≡ Some (falls_back (pass_of policy old ids layout answers) id)
  fallback_new id lt =
      let p : Pass = pass_of policy old ids layout answers in
      let each : List (Option Fallback) = map (falls_back p) (table_ids p.table) in
      let len : length each ≡ old_count p = length-map-range_with_len (falls_back p) 0 (old_count p) in
      let within : id < length each = omega (arith, lt, len) in
      ap (λ (t : Table). slice_get t.fallbacks id) is.table ∙ slice_get-append_left each (no_fallbacks (added_below p (old_count p))) id within
      ∙ slice_get-get_or each id None within ∙ ap (λ (f : Option Fallback). Some f) (get_or-map-range_with_len (falls_back p) 0 (old_count p) id id None lt (omega arith))

-- ---- ENUM64

-- an ENUM64 that is not granted becomes a UNION, and leaves a fallback
union_kind : (p : Pass) (lower : List Record) (id : ℕ) (k : Option Kind) (r : Record) → k ≡ Some kinds.Enum64 → has p features.Enum64 ≡ false → kind_of (becomes_by p lower id k r).info ≡ Some kinds.Union
union_kind p lower id k r is denied =
    let made : becomes_by p lower id k r ≡ union r.name r.third (vlen r.info) (variant_members (member_type_id p id) (variants r.tail)) =
    ap (λ (j : Option Kind). becomes_by p lower id j r) is ∙ ap (λ (b : Bool). if b then r else union r.name r.third (vlen r.info) (variant_members (member_type_id p id) (variants r.tail))) denied in
    ap (λ (q : Record). kind_of q.info) made ∙ kind_made 5 (vlen r.info) kinds.Union (omega arith) (omega arith) refl

left_fallback : (p : Pass) (k : Option Kind) (r : Record) (before : Option Fallback) → k ≡ Some kinds.Enum64 → has p features.Enum64 ≡ false → falls_back_by p k r before ≡ Some (enum64_fallback r)
left_fallback p k r before is denied = ap (λ (j : Option Kind). falls_back_by p j r before) is ∙ ap (λ (b : Bool). if b then before else Some (enum64_fallback r)) denied

pub enum64_kept : (policy : FillPolicy) (old new : Table) (ids : Option KsymsIds) (layout : Layout) (answers : List FeatureAnswer) → Rewritten policy old ids layout answers new
    → (id : ℕ) → id < length (begun old ids).records → kind_at (begun old ids) id ≡ Some kinds.Enum64 → grants answers features.Enum64 ≡ false
    → (kind_at new id ≡ Some kinds.Union) × (slice_get new.fallbacks id ≡ Some (Some (enum64_fallback (record_at (begun old ids) id))))
enum64_kept policy old new ids layout answers is id lt kind denied =
    let p : Pass = pass_of policy old ids layout answers in
    let r : Record = record_at p.table id in (
      ap (λ (q : Record). kind_of q.info) (record_new policy old new ids layout answers is id lt) ∙ union_kind p (ruled_below p id) id (kind_at p.table id) r kind denied,
      fallback_new policy old new ids layout answers is id lt
          ∙ ap (λ (f : Option Fallback). Some f) (left_fallback p (kind_at p.table id) r (unwrap_or (slice_get p.table.fallbacks id) None) kind denied),
    )
