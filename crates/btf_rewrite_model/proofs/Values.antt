-- A rewrite retains the values of variants.
use Rattle.std.proofs.Common.{◌≡◌, ◌≢◌, ℕ, ◌<◌, Bool, true, false, ◌&&◌, not, List, [], ◌∷◌, ◌++◌, Option, None, Some, Ok, Err, refl, sym, ap, subst, ◌∙◌, arith, append_assoc}
use Rattle.std.specs.Prelude.{if◌then◌else◌, slice_get}
use Rattle.std.specs.List.{flat_map}
use Rattle.std.specs.Option.{unwrap_or}
use Rattle.std.specs.Result.{is_ok}
use Rattle.std.proofs.lemmas.Bool.{false≢true}
use Rattle.std.proofs.lemmas.List.{append-nil}
use Rattle.std.proofs.lemmas.Option.{slice_get_within}
use Rattle.btf_model.specs.Record as kinds
use Rattle.btf_model.specs.Record.{Kind, Record, unknown, kind_of, vlen}
use Rattle.btf_model.specs.Refusal.{Refusal}
use Rattle.btf_model.specs.Table.{Table, Variant, Fallback}
use Rattle.btf_model.specs.Text.{text_at}
use Rattle.btf_model.specs.Value.{variants_by, HasVariants, HaveOtherNames, FindsVariant, Value}
use Rattle.btf_rewrite_model.specs.declared.feature.BtfFeature.TheVariants as features
use Rattle.btf_rewrite_model.specs.Feature.{is_signed}
use Rattle.btf_rewrite_model.specs.declared.feature.FeatureAnswer.{FeatureAnswer}
use Rattle.btf_rewrite_model.specs.declared.feature.FillPolicy.{FillPolicy}
use Rattle.btf_rewrite_model.specs.Made.{record_at, kind_at, union, unsigned, variants, enum64_fallback}
use Rattle.btf_rewrite_model.specs.Ksyms.{appends_int, each_stepped, int_text}
use Rattle.btf_rewrite_model.specs.declared.ksyms_ids.KsymsIds.{KsymsIds}
use Rattle.btf_rewrite_model.specs.Pass.{Pass, Layout, has, texts_below}
use Rattle.btf_rewrite_model.specs.Rule.{becomes, becomes_by, ruled_below, falls_back, falls_back_by, variant_members, member_type_id}
use Rattle.btf_rewrite_model.specs.Rewritten.{begun, with_zero_byte, old_count, pass_of, Rewritten}
use Rattle.btf_rewrite_model.specs.RewriteLaws.{keeps_size}
use Rattle.btf_model.proofs.Blobs.{slice_get-append_left}
use Rattle.btf_model.proofs.Texts.{text_stays}
use Rattle.btf_rewrite_model.proofs.Granted.{kind_made, vlen_small}
use Rattle.btf_rewrite_model.proofs.Kept.{by_table, unsigned_kind, begun_record, begun_at, begun_same, resolutions_stay}
use Rattle.btf_rewrite_model.proofs.Lengths.{by_both}
use Rattle.btf_rewrite_model.proofs.Ruled.{new_at, fallback_new}

-- ---- what a rule retains

no_variants : (vs : List Variant) (refusal : Refusal) → Ok vs ≡ Err refusal → ⊥
no_variants vs refusal is = false≢true (sym (ap is_ok is))

-- the variants of a record of this kind
variants_as : (id : ℕ) (vs : List Variant) (q : Record) (k : Kind) (fallback : Option Fallback) → kind_of q.info ≡ Some k → Ok vs ≡ variants_by id (Some k) q fallback → Ok vs ≡ variants_by id (kind_of q.info) q fallback
variants_as id vs q k fallback kind is = is ∙ ap (λ (j : Option Kind). variants_by id j q fallback) (sym kind)

-- the step of `.ksyms` changes no type that has variants
variants_keep : (id : ℕ) (vs : List Variant) (k : Option Kind) (r : Record) (fallback : Option Fallback) → Ok vs ≡ variants_by id k r fallback → keeps_size k ≡ true
variants_keep id vs (Some kinds.Var) r fallback is = absurd (no_variants vs _ is)
variants_keep id vs (Some kinds.Func) r fallback is = absurd (no_variants vs _ is)
variants_keep id vs (Some kinds.FuncProto) r fallback is = absurd (no_variants vs _ is)
variants_keep id vs (Some kinds.DataSec) r fallback is = absurd (no_variants vs _ is)
variants_keep id vs (Some kinds.DeclTag) r fallback is = absurd (no_variants vs _ is)
variants_keep id vs k r fallback is = refl

enum64_stays : (id : ℕ) (vs : List Variant) (granted : Bool) (r made : Record) (fallback : Option Fallback) → kind_of r.info ≡ Some kinds.Enum64 → kind_of made.info ≡ Some kinds.Union → Ok vs ≡ variants_by id (Some kinds.Enum64) r fallback
    → Ok vs ≡ variants_by id (kind_of (if granted then r else made).info) (if granted then r else made) (if granted then fallback else Some (enum64_fallback r))
enum64_stays id vs true r made fallback kind as_union is = variants_as id vs r kinds.Enum64 fallback kind is
enum64_stays id vs false r made fallback kind as_union is = variants_as id vs made kinds.Union (Some (enum64_fallback r)) as_union is

rule_keeps : (p : Pass) (lower : List Record) (id : ℕ) (vs : List Variant) (k : Option Kind) (r : Record) (fallback : Option Fallback) → kind_of r.info ≡ k → Ok vs ≡ variants_by id k r fallback
    → Ok vs ≡ variants_by id (kind_of (becomes_by p lower id k r).info) (becomes_by p lower id k r) (falls_back_by p k r fallback)
rule_keeps p lower id vs (Some kinds.Enum) r fallback kind is =
    by_both (λ q. Ok vs ≡ variants_by id (kind_of q.info) q fallback) (is_signed r && not (has p features.Enum64)) (unsigned r) r
    (variants_as id vs (unsigned r) kinds.Enum fallback (unsigned_kind r kind) is) (variants_as id vs r kinds.Enum fallback kind is)
rule_keeps p lower id vs (Some kinds.Enum64) r fallback kind is =
    enum64_stays id vs (has p features.Enum64) r (union r.name r.third (vlen r.info) (variant_members (member_type_id p id) (variants r.tail))) fallback kind
    (kind_made 5 (vlen r.info) kinds.Union (omega arith) (vlen_small r.info) refl) is
rule_keeps p lower id vs (Some kinds.Union) r fallback kind is = variants_as id vs r kinds.Union fallback kind is
rule_keeps p lower id vs k r fallback kind is = absurd (no_variants vs _ is)

-- ---- what the step of `.ksyms` retains

begun_strings : (t : Table) (ids : Option KsymsIds) → (more : List ℕ) × ((begun t ids).strings ≡ t.strings ++ more)
begun_strings t None = ([], sym (append-nil t.strings))
begun_strings t (Some ids) =
    by_table (λ u. (more : List ℕ) × (u.strings ≡ t.strings ++ more)) (appends_int t ids.placeholder_id) _ (each_stepped t ids)
    (int_text ++ 0 ∷ [], append_assoc t.strings int_text (0 ∷ []))
    ([], sym (append-nil t.strings))

begun_fallback : (t : Table) (ids : Option KsymsIds) (id : ℕ) (fallback : Option Fallback) → slice_get t.fallbacks id ≡ Some fallback → slice_get (begun t ids).fallbacks id ≡ Some fallback
begun_fallback t None id fallback at = at
begun_fallback t (Some ids) id fallback at =
    by_table (λ u. slice_get u.fallbacks id ≡ Some fallback) (appends_int t ids.placeholder_id) _ (each_stepped t ids)
    (slice_get-append_left t.fallbacks (None ∷ []) id (slice_get_within t.fallbacks id fallback at) ∙ at) at

-- ---- the rewritten table

others_too : (strings strings' name : List ℕ) → ((offset : ℕ) (text : List ℕ) → text_at strings offset ≡ Ok text → text_at strings' offset ≡ Ok text) → (vs : List Variant) → HaveOtherNames strings name vs → HaveOtherNames strings' name vs
others_too strings strings' name stays [] others = tt
others_too strings strings' name stays (v ∷ vs) others = ((others.0.0, stays v.name others.0.0 others.0.1, others.0.2), others_too strings strings' name stays vs others.1)

finds_too : (strings strings' name : List ℕ) → ((offset : ℕ) (text : List ℕ) → text_at strings offset ≡ Ok text → text_at strings' offset ≡ Ok text) → (vs : List Variant) (found : Option ℕ) → FindsVariant strings name vs (Ok found) → FindsVariant strings' name vs (Ok found)
finds_too strings strings' name stays vs None finds = others_too strings strings' name stays vs finds
finds_too strings strings' name stays vs (Some value) finds =
    (finds.0, (finds.1.0, finds.1.1, finds.1.2, others_too strings strings' name stays finds.1.0 finds.1.3), stays finds.0.name name finds.2, finds.3)

module _ (policy : FillPolicy) (old new : Table) (ids : Option KsymsIds) (layout : Layout) (answers : List FeatureAnswer) (is : Rewritten policy old ids layout answers new) where
  texts_stay : (offset : ℕ) (text : List ℕ) → text_at old.strings offset ≡ Ok text → text_at new.strings offset ≡ Ok text
  texts_stay offset text reads =
      let p : Pass = pass_of policy old ids layout answers in
      let added : List ℕ = flat_map with_zero_byte (texts_below p (old_count p)) in
      let first = begun_strings old ids in
      let strings_are : new.strings ≡ (old.strings ++ first.0) ++ added = ap (λ (t : Table). t.strings) is.table ∙ ap (λ xs. xs ++ added) first.1 in
      ap (λ xs. text_at xs offset) strings_are ∙ text_stays (old.strings ++ first.0) added offset text (text_stays old.strings first.0 offset text reads)

  variants_stay : (id : ℕ) (vs : List Variant) → HasVariants old id (Ok vs) → HasVariants new id (Ok vs)
  variants_stay id vs h =
      let p : Pass = pass_of policy old ids layout answers in
      let r : Record = h.0 in
      let same : begun_record old ids id r ≡ r = begun_same old ids id r (variants_keep id vs (kind_of r.info) r h.1 h.4) in
      let here : slice_get p.table.records id ≡ Some r = begun_at old ids id r h.2 ∙ ap (λ (q : Record). Some q) same in
      let lt : id < old_count p = slice_get_within p.table.records id r here in
      let record_is : record_at p.table id ≡ r = ap (λ (o : Option Record). unwrap_or o unknown) here in
      let fallback_is : unwrap_or (slice_get p.table.fallbacks id) None ≡ h.1 = ap (λ (o : Option (Option Fallback)). unwrap_or o None) (begun_fallback old ids id h.1 h.3) in
      let kept : Ok vs ≡ variants_by id (kind_of (becomes_by p (ruled_below p id) id (kind_of r.info) r).info) (becomes_by p (ruled_below p id) id (kind_of r.info) r) (falls_back_by p (kind_of r.info) r h.1) =
      rule_keeps p (ruled_below p id) id vs (kind_of r.info) r h.1 refl h.4 in
      let as_begun : (q : Record) (f : Option Fallback) → Type 0 = λ q f. Ok vs ≡ variants_by id (kind_of (becomes_by p (ruled_below p id) id (kind_of q.info) q).info) (becomes_by p (ruled_below p id) id (kind_of q.info) q) (falls_back_by p (kind_of q.info) q f) in (
        becomes p id,
        falls_back p id,
        new_at policy old new ids layout answers is id lt,
        fallback_new policy old new ids layout answers is id lt,
        subst (λ (q : Record). as_begun q (unwrap_or (slice_get p.table.fallbacks id) None)) (sym record_is) (subst (λ (f : Option Fallback). as_begun r f) (sym fallback_is) kept),
      )

  no_func : (id : ℕ) (vs : List Variant) → HasVariants old id (Ok vs) → kind_at old id ≢ Some kinds.Func
  no_func id vs h is_func =
      let kind : kind_of h.0.info ≡ Some kinds.Func = ap (λ (o : Option Record). kind_of (unwrap_or o unknown).info) (sym h.2) ∙ is_func in
      no_variants vs _ (h.4 ∙ ap (λ (k : Option Kind). variants_by id k h.0 h.1) kind)

  pub value_stays : (id : ℕ) (name : List ℕ) (found : Option ℕ) → Value old id name (Ok found) → Value new id name (Ok found)
  value_stays id name found value =
      let end : ℕ = value.0 in
      let vs : List Variant = value.2.0 in (
        end,
        resolutions_stay policy old new ids layout answers is id end value.1 (no_func end vs value.2.1),
        (vs, variants_stay end vs value.2.1, finds_too old.strings new.strings name texts_stay vs found value.2.2),
      )
