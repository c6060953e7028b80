-- The features that a rewritten table needs were granted, including the features of appended records.
use Rattle.std.proofs.Common.{◌≡◌, ℕ, zero, suc, ◌+◌, ◌<◌, Bool, true, false, ◌&&◌, List, [], ◌∷◌, ◌++◌, length, map, Option, None, Some, refl, sym, ap, subst, ◌∙◌, arith, inl, inr}
use Rattle.std.specs.Prelude.{◌⊎◌, slice_get, if◌then◌else◌}
use Rattle.std.specs.List.{AllByRecursion}
use Rattle.std.proofs.lemmas.Bool.{false≢true}
use Rattle.std.proofs.lemmas.Option.{same_Some, slice_get_within}
use Rattle.btf_model.specs.Record as kinds
use Rattle.btf_model.specs.Record.{Kind, Record, unknown}
use Rattle.btf_model.specs.Table.{Table}
use Rattle.btf_rewrite_model.specs.declared.feature.BtfFeature.TheVariants as features
use Rattle.btf_rewrite_model.specs.Feature.{needs}
use Rattle.btf_rewrite_model.specs.declared.feature.BtfFeature.{BtfFeature}
use Rattle.btf_rewrite_model.specs.declared.feature.FeatureAnswer.{FeatureAnswer}
use Rattle.btf_rewrite_model.specs.declared.feature.FillPolicy.{FillPolicy}
use Rattle.btf_rewrite_model.specs.Made.{record_at, kind_at, byte_int, static_var}
use Rattle.btf_rewrite_model.specs.declared.ksyms_ids.KsymsIds.{KsymsIds}
use Rattle.btf_rewrite_model.specs.Pass.{Pass, Layout, has, makes_filler, makes_member_type, filler, filler_type_text, offset_at, filler_offset, added_by, added_below, Asked, asks_below}
use Rattle.btf_rewrite_model.specs.Rule.{becomes, ruled_below}
use Rattle.btf_rewrite_model.specs.Fault.{fault}
use Rattle.btf_rewrite_model.specs.Rewritten.{begun, pass_of, old_count, Rewritten}
use Rattle.btf_rewrite_model.specs.RewriteLaws.{IsAmong, IsGrantedOnce}
use Rattle.btf_rewrite_model.proofs.Ruled.{length-ruled, ruled_at}
use Rattle.btf_rewrite_model.proofs.Granted.{one_granted, new_granted}
use Rattle.btf_rewrite_model.proofs.GrantedOnce.{AreOnce, each_is_once, granted_once}

-- the features that the kernel needs for an appended record were granted
abbrev AddedGranted : Pass → Record → Type 0
AddedGranted p r = (before : Record) (f : BtfFeature) → IsAmong f (needs p.policy before r) → has p f ≡ true

nothing_needed : (p : Pass) (name : ℕ) → AddedGranted p (byte_int name)
nothing_needed p name before f is = absurd (false≢true is)

var_granted : (p : Pass) (name type : ℕ) → has p features.DataSec ≡ true → AddedGranted p (static_var name type)
var_granted p name type granted before f is = one_granted p f features.DataSec granted is

-- the filler is made only if DataSec is granted
made_granted : (d x l : Bool) → ((d && x) && l) ≡ true → d ≡ true
made_granted true x l is = refl
made_granted false x l is = is

by_test : (p : Pass) (b : Bool) (rs : List Record) → (b ≡ true → AllByRecursion (AddedGranted p) rs) → AllByRecursion (AddedGranted p) (if b then rs else [])
by_test p true rs all = all refl
by_test p false rs all = tt

filler_granted : (p : Pass) (offset id : ℕ) → has p features.DataSec ≡ true → AllByRecursion (AddedGranted p) (filler offset id)
filler_granted p offset id granted = (nothing_needed p offset, (var_granted p (offset + length filler_type_text + 1) id granted, tt))

added_granted : (p : Pass) (free id : ℕ) (k : Option Kind) → AllByRecursion (AddedGranted p) (added_by p free id k)
added_granted p free id (Some kinds.Enum64) = by_test p (makes_member_type p id) (byte_int (offset_at p id) ∷ []) (λ made. (nothing_needed p (offset_at p id), tt))
added_granted p free id (Some kinds.DataSec) = by_test p (makes_filler p id) (filler (filler_offset p id) free) (λ made. filler_granted p (filler_offset p id) free (made_granted (has p features.DataSec) _ _ made))
added_granted p free id k = tt

pub all_of_both : (P : Record → Type 0) (rs more : List Record) → AllByRecursion P rs → AllByRecursion P more → AllByRecursion P (rs ++ more)
all_of_both P [] more first second = second
all_of_both P (r ∷ rs) more first second = (first.0, all_of_both P rs more first.1 second)

all_added_granted : (p : Pass) (id : ℕ) → AllByRecursion (AddedGranted p) (added_below p id)
all_added_granted p zero = tt
all_added_granted p (suc id) = all_of_both (AddedGranted p) (added_below p id) _ (all_added_granted p id) (added_granted p _ id (kind_at p.table id))

pub each_of : (P : Record → Type 0) (rs : List Record) (i : ℕ) (r : Record) → AllByRecursion P rs → slice_get rs i ≡ Some r → P r
each_of P [] i r all at = absurd (omega (arith, slice_get_within [] i r at))
each_of P (q ∷ rs) zero r all at = subst P (same_Some q r at) all.0
each_of P (q ∷ rs) (suc i) r all at = each_of P rs i r all.1 at

-- an element of two joined lists is in the first or in the second
pub of_either : (rs more : List Record) (i : ℕ) (r : Record) → slice_get (rs ++ more) i ≡ Some r → ((i < length rs) × (slice_get rs i ≡ Some r)) ⊎ ((j : ℕ) × (slice_get more j ≡ Some r))
of_either [] more i r at = inr (i, at)
of_either (q ∷ rs) more zero r at = inl (omega arith, at)
of_either (q ∷ rs) more (suc i) r at =
    elim (of_either rs more i r at) as (λ c. ((suc i < suc (length rs)) × (slice_get rs i ≡ Some r)) ⊎ ((j : ℕ) × (slice_get more j ≡ Some r)))
    [ inl here ↦ inl (omega (arith, here.0), here.1) | inr there ↦ inr there ]

pub has_granted : (p : Pass) (id : ℕ) (r : Record) (f : BtfFeature) → ((low : ℕ) → low < old_count p → fault p low ≡ None)
    → ((id < length (ruled_below p (old_count p))) × (slice_get (ruled_below p (old_count p)) id ≡ Some r)) ⊎ ((j : ℕ) × (slice_get (added_below p (old_count p)) j ≡ Some r))
    → IsAmong f (needs p.policy (record_at p.table id) r) → has p f ≡ true
has_granted p id r f ruled (inl old) is =
    let lt : id < old_count p = omega (arith, old.0, length-ruled p (old_count p)) in
    let same : r ≡ becomes p id = same_Some r (becomes p id) (sym old.1 ∙ ruled_at p (old_count p) id lt) in
    new_granted p id f (ruled id lt) (subst (λ (q : Record). IsAmong f (needs p.policy (record_at p.table id) q)) same is)
has_granted p id r f ruled (inr added) is = each_of (AddedGranted p) (added_below p (old_count p)) added.0 r (all_added_granted p (old_count p)) added.1 (record_at p.table id) f is

pub suffice : (policy : FillPolicy) (old new : Table) (ids : Option KsymsIds) (layout : Layout) (answers : List FeatureAnswer) → Rewritten policy old ids layout answers new → map (λ (answer : FeatureAnswer). answer.feature) answers ≡ Asked (pass_of policy old ids layout answers)
    → (id : ℕ) (r : Record) → slice_get new.records id ≡ Some r → (f : BtfFeature) → IsAmong f (needs policy (record_at (begun old ids) id) r) → IsGrantedOnce answers f
suffice policy old new ids layout answers is asked id r at f needed =
    let p : Pass = pass_of policy old ids layout answers in
    let place : slice_get (ruled_below p (old_count p) ++ added_below p (old_count p)) id ≡ Some r = ap (λ (t : Table). slice_get t.records id) (sym is.table) ∙ at in
    granted_once answers f (subst AreOnce (sym asked) (each_is_once (asks_below p (old_count p))))
    (has_granted p id r f is.ruled (of_either (ruled_below p (old_count p)) (added_below p (old_count p)) id r place) needed)
