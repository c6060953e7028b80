-- The number of types that a rewrite appends: what is made once counts once.
use Rattle.std.proofs.Common.{◌≡◌, ℕ, zero, suc, ◌+◌, ◌*◌, ◌≤◌, Bool, true, false, List, [], ◌∷◌, length, Option, None, Some, refl, ap, ◌∙◌, arith}
use Rattle.std.specs.Prelude.{if◌then◌else◌}
use Rattle.std.proofs.lemmas.List.{length-append}
use Rattle.std.proofs.lemmas.List.FromFn.{length-map-range_with_len}
use Rattle.btf_model.specs.Record as kinds
use Rattle.btf_model.specs.Record.{Kind, Record}
use Rattle.btf_model.specs.Table.{Table, with_string, with_type}
use Rattle.btf_rewrite_model.specs.declared.feature.FeatureAnswer.{FeatureAnswer}
use Rattle.btf_rewrite_model.specs.declared.feature.FillPolicy.{FillPolicy}
use Rattle.btf_rewrite_model.specs.Ksyms.{appends_int, each_stepped, stepped, int_text}
use Rattle.btf_rewrite_model.specs.declared.ksyms_ids.KsymsIds.{KsymsIds}
use Rattle.btf_rewrite_model.specs.Made.{record_at, kind_at, c_int, byte_int, static_var}
use Rattle.btf_rewrite_model.specs.Pass.{Pass, Layout, is_least, wants_member_type, gets_filler, added_by, added_below, makes_member_type, makes_filler, offset_at, filler_offset, filler_type_text}
use Rattle.btf_rewrite_model.specs.Rewritten.{begun, pass_of, old_count, Rewritten}
use Rattle.btf_rewrite_model.specs.Rule.{ruled_below}
use Rattle.btf_rewrite_model.specs.Passing.{MadeBelow}
use Rattle.btf_rewrite_model.proofs.FirstMade.{none_below_zero, makes_first, made_first, none_next, makes_no_second, made_next}
use Rattle.btf_rewrite_model.proofs.Ruled.{length-ruled}

-- ---- what is made once

-- 1 if this id is the least that passes the test, else 0
abbrev once : (ℕ → Bool) → ℕ → ℕ
once test n = if is_least test n then 1 else 0

abbrev seen : Option ℕ → ℕ
seen None = 0
seen (Some made) = 1

-- the number of a maker is its id here
abbrev itself : ℕ → ℕ
itself k = k

-- If what is made below n counts at most once, the same holds below n + 1.
record NextSeen (test : ℕ → Bool) (n : ℕ) (m : Option ℕ) : Type 0 where
  made : Option ℕ
  below : MadeBelow test itself (suc n) made
  count : once test n + seen m ≡ seen made

next_seen : (test : ℕ → Bool) (n : ℕ) (m : Option ℕ) → MadeBelow test itself n m → NextSeen test n m
next_seen test n (Some made) here =
    record { made = Some made; below = made_next test itself n made here; count = ap (λ (b : Bool). (if b then 1 else 0) + 1) (makes_no_second test itself n made here) }
next_seen test n None here = by_test (test n) refl
  where
    by_test : (b : Bool) → test n ≡ b → NextSeen test n None
    by_test true passes = record { made = Some n; below = made_first test itself n here passes; count = ap (λ (b : Bool). (if b then 1 else 0) + 0) (makes_first test itself n here ∙ passes) }
    by_test false fails = record { made = None; below = none_next test itself n here fails; count = ap (λ (b : Bool). (if b then 1 else 0) + 0) (makes_first test itself n here ∙ fails) }

-- ---- what an id appends

one_if : {X : Type 0} (b : Bool) (x : X) (more : ℕ) → length (if b then x ∷ [] else []) ≤ (if b then 1 else 0) + more
one_if true x more = omega arith
one_if false x more = omega arith

two_if : {X : Type 0} (b : Bool) (x y : X) (more : ℕ) → length (if b then x ∷ y ∷ [] else []) ≤ more + 2 * (if b then 1 else 0)
two_if true x y more = omega arith
two_if false x y more = omega arith

added_few : (p : Pass) (free id : ℕ) (k : Option Kind) → length (added_by p free id k) ≤ once (wants_member_type p) id + 2 * once (gets_filler p) id
added_few p free id (Some kinds.Enum64) = one_if (makes_member_type p id) (byte_int (offset_at p id)) (2 * once (gets_filler p) id)
added_few p free id (Some kinds.DataSec) =
    let offset : ℕ = filler_offset p id in
    two_if (makes_filler p id) (byte_int offset) (static_var (offset + length filler_type_text + 1) free) (once (wants_member_type p) id)
added_few p free id k = omega arith

-- ---- a pass

record FewBelow (p : Pass) (n : ℕ) : Type 0 where
  member_type : Option ℕ
  filler : Option ℕ
  has_member_type : MadeBelow (wants_member_type p) itself n member_type
  has_filler : MadeBelow (gets_filler p) itself n filler
  few : length (added_below p n) ≤ seen member_type + 2 * seen filler

few_below : (p : Pass) (n : ℕ) → FewBelow p n
few_below p zero =
    record { member_type = None; filler = None; has_member_type = none_below_zero (wants_member_type p) itself; has_filler = none_below_zero (gets_filler p) itself; few = omega arith }
few_below p (suc n) =
    let here = few_below p n in
    let one = next_seen (wants_member_type p) n here.member_type here.has_member_type in
    let two = next_seen (gets_filler p) n here.filler here.has_filler in
    let before : List Record = added_below p n in
    let free : ℕ = length p.table.records + length before in
    let new : List Record = added_by p free n (kind_at p.table n) in
    record {
      member_type = one.made;
      filler = two.made;
      has_member_type = one.below;
      has_filler = two.below;
      few = omega (arith, here.few, one.count, two.count, length-append before new, added_few p free n (kind_at p.table n));
    }

seen_few : (m : Option ℕ) → seen m ≤ 1
seen_few None = omega arith
seen_few (Some made) = omega arith

pub few_in_a_pass : (p : Pass) (n : ℕ) → length (added_below p n) ≤ 3
few_in_a_pass p n =
    let here = few_below p n in
    omega (arith, here.few, seen_few here.member_type, seen_few here.filler)

-- ---- the step of `.ksyms`, and a whole rewrite

length_stepped : (t : Table) (ids : KsymsIds) → length (each_stepped t ids).records ≡ length t.records
length_stepped t ids = length-map-range_with_len (λ id. stepped t ids id (kind_at t id) (record_at t id)) 0 (length t.records)

pub few_in_the_step : (t : Table) (ids : Option KsymsIds) → (length t.records ≤ length (begun t ids).records) × (length (begun t ids).records ≤ length t.records + 1)
few_in_the_step t None = (omega arith, omega arith)
few_in_the_step t (Some ids) =
    let stepped_table = λ (b : Bool). if b then with_type (c_int (length t.strings)) None (with_string int_text (each_stepped t ids)) else each_stepped t ids in
    let one = length-append (each_stepped t ids).records (c_int (length t.strings) ∷ []) in
    elim (appends_int t ids.placeholder_id) as (λ (b : Bool). (length t.records ≤ length (stepped_table b).records) × (length (stepped_table b).records ≤ length t.records + 1)) [
      | true ↦ (omega (arith, one, length_stepped t ids), omega (arith, one, length_stepped t ids))
      | false ↦ (omega (arith, length_stepped t ids), omega (arith, length_stepped t ids))
    ]

pub few_in_a_rewrite : (policy : FillPolicy) (old new : Table) (ids : Option KsymsIds) (layout : Layout) (answers : List FeatureAnswer) → Rewritten policy old ids layout answers new → (length old.records ≤ length new.records) × (length new.records ≤ length old.records + 4)
few_in_a_rewrite policy old new ids layout answers h =
    let p : Pass = pass_of policy old ids layout answers in
    let n : ℕ = old_count p in
    let is = ap (λ (t : Table). length t.records) h.table in
    let both = length-append (ruled_below p n) (added_below p n) in
    let step = few_in_the_step old ids in
    (omega (arith, is, both, length-ruled p n, step.0), omega (arith, is, both, length-ruled p n, few_in_a_pass p n, step.1))
