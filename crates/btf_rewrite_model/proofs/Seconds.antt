-- A second rewrite, id by id.
use Rattle.std.proofs.Common.{◌≡◌, ℕ, zero, suc, ◌+◌, ◌<◌, ◌≤◌, Bool, true, false, ◌||◌, List, [], ◌∷◌, ◌++◌, length, take, get_or, map, Option, None, Some, refl, sym, ap, subst, ◌∙◌, arith, inl, inr}
use Rattle.std.specs.Prelude.{◌==◌, ◌⊎◌, if◌then◌else◌, slice_get}
use Rattle.std.specs.Option.{unwrap_or}
use Rattle.std.specs.List.{list_any, flat_map, AllByRecursion}
use Rattle.std.proofs.lemmas.Bool.{ne_eqb, cases_order, or_right}
use Rattle.std.proofs.lemmas.List.{append-nil, length-append, take_all}
use Rattle.std.proofs.lemmas.List.Folds.{list_any-append}
use Rattle.std.proofs.lemmas.List.FromFn.{length-map-range_with_len, fill_by_all}
use Rattle.std.proofs.lemmas.Option.{slice_get-get_or, same_Some}
use Rattle.std.proofs.Math.Seq.{take-suc}
use Rattle.btf_model.specs.Record as kinds
use Rattle.btf_model.specs.Record.{Kind, Record, unknown, kind_of}
use Rattle.btf_model.specs.Table.{Table, Fallback, no_fallbacks}
use Rattle.btf_rewrite_model.specs.Feature.{same_feature, is_sized_and_empty}
use Rattle.btf_rewrite_model.specs.declared.feature.BtfFeature.{BtfFeature}
use Rattle.btf_rewrite_model.specs.Made.{record_at, kind_at, table_ids, byte_int, static_var}
use Rattle.btf_rewrite_model.specs.Pass.{Pass, makes_member_type, makes_filler, offset_at, filler_offset, filler, filler_type_text, texts, texts_below, added_by, added_below, asks, asks_below}
use Rattle.btf_rewrite_model.specs.Rule.{becomes, ruled_below, falls_back}
use Rattle.btf_rewrite_model.specs.Rewritten.{pass_of, old_count, with_zero_byte, rewritten, AreRuled}
use Rattle.btf_rewrite_model.specs.RewriteLaws.{IsAmong, SecondRewriteChangesNothing}
use Rattle.btf_rewrite_model.proofs.Ruled.{length-ruled, ruled_at}
use Rattle.btf_rewrite_model.proofs.GrantedAll.{has_granted, of_either, each_of, all_of_both}
use Rattle.btf_rewrite_model.proofs.NewFacts.{Fact, after, new_fact}
use Rattle.btf_rewrite_model.proofs.SecondPass.{Stays, stays, asks_need}

-- ---- if no id changes

module _ (q : Pass) (each : (id : ℕ) → id < old_count q → Stays q id (kind_at q.table id)) where
  no_texts : (n : ℕ) → n ≤ old_count q → texts_below q n ≡ []
  no_texts zero le = refl
  no_texts (suc n) le = ap (λ ts. ts ++ texts q n) (no_texts n (omega (arith, le))) ∙ (each n (omega (arith, le))).texts

  none_added : (n : ℕ) → n ≤ old_count q → added_below q n ≡ []
  none_added zero le = refl
  none_added (suc n) le =
      ap (λ (before : List Record). before ++ added_by q (length q.table.records + length before) n (kind_at q.table n)) (none_added n (omega (arith, le))) ∙ (each n (omega (arith, le))).added (length q.table.records + 0)

  same_records : (n : ℕ) → n ≤ old_count q → ruled_below q n ≡ take n q.table.records
  same_records zero le = refl
  same_records (suc n) le =
      let lt : n < length q.table.records = omega (arith, le) in
      let there : record_at q.table n ≡ get_or q.table.records n unknown = ap (λ (o : Option Record). unwrap_or o unknown) (slice_get-get_or q.table.records n unknown lt) in
      ap (λ (r : Record). ruled_below q n ++ r ∷ []) ((each n lt).becomes (ruled_below q n)) ∙ ap (λ rs. rs ++ record_at q.table n ∷ []) (same_records n (omega (arith, lt)))
      ∙ ap (λ (r : Record). take n q.table.records ++ r ∷ []) there ∙ sym (take-suc q.table.records n unknown lt)

  same_fallbacks : length q.table.fallbacks ≡ old_count q → map (falls_back q) (table_ids q.table) ≡ q.table.fallbacks
  same_fallbacks many =
      sym (fill_by_all (falls_back q) q.table.fallbacks (old_count q) None many (λ k lt.
      let there : slice_get q.table.fallbacks k ≡ Some (get_or q.table.fallbacks k None) = slice_get-get_or q.table.fallbacks k None (omega (arith, lt, many)) in
      sym (ap (λ (o : Option (Option Fallback)). unwrap_or o None) there) ∙ sym ((each k lt).falls_back (unwrap_or (slice_get q.table.fallbacks k) None))))

  -- the pass returns its own table
  pub gives_back : length q.table.fallbacks ≡ old_count q → rewritten q ≡ q.table
  gives_back many =
      let n : ℕ = old_count q in
      let all : n ≤ old_count q = omega arith in
      ap (λ ts. record (rewritten q) { strings = q.table.strings ++ flat_map with_zero_byte ts }) (no_texts n all)
      ∙ ap (λ xs. record (rewritten q) { strings = xs }) (append-nil q.table.strings)
      ∙ ap (λ rs. record (rewritten q) { strings = q.table.strings; records = ruled_below q n ++ rs; fallbacks = map (falls_back q) (table_ids q.table) ++ no_fallbacks rs }) (none_added n all)
      ∙ ap (λ rs. record q.table { records = rs; fallbacks = map (falls_back q) (table_ids q.table) ++ [] }) (append-nil (ruled_below q n) ∙ same_records n all ∙ take_all n q.table.records all)
      ∙ ap (λ fs. record q.table { fallbacks = fs }) (append-nil (map (falls_back q) (table_ids q.table)) ∙ same_fallbacks many)

  pub none_refused : AreRuled q (old_count q)
  none_refused id lt = (each id lt).passes

-- ---- the records of a rewritten table

member_type_has : (P : Record → Type 0) (b : Bool) (rs : List Record) → AllByRecursion P rs → AllByRecursion P (if b then rs else [])
member_type_has P true rs all = all
member_type_has P false rs all = tt

one_adds : (P : Record → Type 0) → ((name : ℕ) → P (byte_int name)) → ((name type : ℕ) → P (static_var name type)) → (p : Pass) (free id : ℕ) (k : Option Kind) → AllByRecursion P (added_by p free id k)
one_adds P int var p free id (Some kinds.Enum64) = member_type_has P (makes_member_type p id) (byte_int (offset_at p id) ∷ []) (int (offset_at p id), tt)
one_adds P int var p free id (Some kinds.DataSec) =
    member_type_has P (makes_filler p id) (filler (filler_offset p id) free) (int (filler_offset p id), (var (filler_offset p id + length filler_type_text + 1) free, tt))
one_adds P int var p free id k = tt

-- a fact about all records that may be appended holds for all appended records
all_added : (P : Record → Type 0) → ((name : ℕ) → P (byte_int name)) → ((name type : ℕ) → P (static_var name type)) → (p : Pass) (n : ℕ) → AllByRecursion P (added_below p n)
all_added P int var p zero = tt
all_added P int var p (suc n) = all_of_both P (added_below p n) _ (all_added P int var p n) (one_adds P int var p _ n (kind_at p.table n))

-- each new record has the fact of its kind, for old ids and for appended records
either_fact : (p : Pass) (id : ℕ) (r : Record) → 0 < length p.table.strings → AreRuled p (old_count p)
    → ((id < length (ruled_below p (old_count p))) × (slice_get (ruled_below p (old_count p)) id ≡ Some r)) ⊎ ((j : ℕ) × (slice_get (added_below p (old_count p)) j ≡ Some r)) → Fact p (after p (old_count p)) r
either_fact p id r some ruled (inl old) =
    let lt : id < old_count p = omega (arith, old.0, length-ruled p (old_count p)) in
    let same : becomes p id ≡ r = sym (same_Some r (becomes p id) (sym old.1 ∙ ruled_at p (old_count p) id lt)) in
    subst (Fact p (after p (old_count p))) same (new_fact p (old_count p) id lt some (ruled id lt))
either_fact p id r some ruled (inr added) =
    each_of (Fact p (after p (old_count p))) (added_below p (old_count p)) added.0 r (all_added (Fact p (after p (old_count p))) (λ name. tt) (λ name type. tt) p (old_count p)) added.1

-- what one id asks for is among what all ids ask for
asks_up_to : (q : Pass) (n id : ℕ) (f : BtfFeature) → id < n → IsAmong f (asks q id) → IsAmong f (asks_below q n)
asks_up_to q zero id f lt among = absurd (omega (arith, lt))
asks_up_to q (suc n) id f lt among =
    list_any-append (same_feature f) (asks_below q n) (asks q n)
    ∙ elim (cases_order id n) as (λ c. (list_any (same_feature f) (asks_below q n) || list_any (same_feature f) (asks q n)) ≡ true) [
      | inl same ↦ or_right (list_any (same_feature f) (asks_below q n)) (list_any (same_feature f) (asks q n)) (subst (λ (i : ℕ). IsAmong f (asks q i)) same among)
      | inr other ↦ elim other as (λ c. (list_any (same_feature f) (asks_below q n) || list_any (same_feature f) (asks q n)) ≡ true) [
        | inl less ↦ ap (λ (b : Bool). b || list_any (same_feature f) (asks q n)) (asks_up_to q n id f less among)
        | inr more ↦ absurd (omega (arith, lt, more))
      ]
    ]

no_fallbacks_len : (rs : List Record) → length (no_fallbacks rs) ≡ length rs
no_fallbacks_len [] = refl
no_fallbacks_len (r ∷ rs) = ap suc (no_fallbacks_len rs)

-- ---- the second rewrite

pub changes_nothing : SecondRewriteChangesNothing
changes_nothing policy old new layout answers again some is sized granted =
    let p : Pass = pass_of policy old None layout answers in
    let q : Pass = pass_of policy new None layout again in
    let n : ℕ = old_count p in
    let records : new.records ≡ ruled_below p n ++ added_below p n = ap (λ (t : Table). t.records) is.table in
    let strings : new.strings ≡ after p n = ap (λ (t : Table). t.strings) is.table in
    let fallbacks : new.fallbacks ≡ map (falls_back p) (table_ids p.table) ++ no_fallbacks (added_below p n) = ap (λ (t : Table). t.fallbacks) is.table in
    let many : length new.fallbacks ≡ length new.records = omega (
      arith,
      ap length fallbacks,
      ap length records,
      length-append (map (falls_back p) (table_ids p.table)) (no_fallbacks (added_below p n)),
      length-append (ruled_below p n) (added_below p n),
      length-map-range_with_len (falls_back p) 0 n,
      no_fallbacks_len (added_below p n),
      length-ruled p n,
    ) in
    let split : (id : ℕ) → id < length new.records → ((id < length (ruled_below p n)) × (slice_get (ruled_below p n) id ≡ Some (record_at new id))) ⊎ ((j : ℕ) × (slice_get (added_below p n) j ≡ Some (record_at new id))) =
    λ id lt.
    let there : slice_get new.records id ≡ Some (get_or new.records id unknown) = slice_get-get_or new.records id unknown lt in
    let at : slice_get new.records id ≡ Some (record_at new id) = there ∙ ap (λ (o : Option Record). Some (unwrap_or o unknown)) (sym there) in
    of_either (ruled_below p n) (added_below p n) id (record_at new id) (ap (λ rs. slice_get rs id) (sym records) ∙ at) in
    let each : (id : ℕ) → id < length new.records → Stays q id (kind_at new id) =
    λ id lt.
    let r : Record = record_at new id in
    let has_size : kind_at new id ≡ Some kinds.DataSec → (r.third == 0) ≡ false = λ kind. ne_eqb r.third 0 (sized id kind) in
    let before : Record = record_at p.table id in
    stays p q id (kind_at new id) refl (subst (λ xs. Fact p xs r) (sym strings) (either_fact p id r some is.ruled (split id lt))) has_size
    (λ f among. granted f (asks_up_to q (length new.records) id f lt among)
    (has_granted p id r f is.ruled (split id lt) (asks_need q id (is_sized_and_empty (kind_of before.info) before) f (kind_at new id) r has_size among))) in
    record { step = refl; ruled = none_refused q each; table = sym (gives_back q each many) }
