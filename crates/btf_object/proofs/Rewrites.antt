-- The rewrite of a section's table under the answers to what was asked is the rewrite for the kernel.
use Rattle.std.proofs.Common.{◌≡◌, ℕ, Bool, true, false, List, length, Option, None, Some, Result, Ok, Err, refl, sym, ap, subst, ◌∙◌, inl, inr}
use Rattle.std.specs.Prelude.{IfErr, IfSome, IsErrAnd}
use Rattle.std.proofs.lemmas.Result.{err_from_is_err_and}
use Rattle.btf_model.specs.declared.endianness.Endianness.{Endianness}
use Rattle.btf_model.specs.Blob.{IsTable, canon}
use Rattle.btf_model.specs.Refusal.{Refusal}
use Rattle.btf_model.specs.Table.{Table, strip, with_string, with_type}
use Rattle.btf_elf_model.specs.Object.{Object}
use Rattle.btf_rewrite_model.specs.Ksyms.{appends_int, int_of_4, int_text}
use Rattle.btf_rewrite_model.specs.Made.{c_int}
use Rattle.btf_rewrite_model.specs.Pass.{Layout, Asked}
use Rattle.btf_rewrite_model.specs.Passing.{features_of}
use Rattle.btf_rewrite_model.specs.Rewritten.{pass_of, Rewritten, IsRefused}
use Rattle.btf_rewrite_model.specs.declared.feature.BtfFeature.{BtfFeature}
use Rattle.btf_rewrite_model.specs.declared.feature.FeatureAnswer.{FeatureAnswer}
use Rattle.btf_rewrite_model.specs.declared.feature.FillPolicy.TheVariants.{FillSized}
use Rattle.btf_rewrite_model.specs.declared.ksyms_ids.KsymsIds.{KsymsIds}
use Rattle.btf_rewrite_model.proofs.Kept.{by_table}
use Rattle.btf_table.specs.Checked.{checked}
use Rattle.btf_table.proofs.Checks.{checked_ok, checked_err}
use Rattle.btf_object_model.specs.Finalized.{with_int, with_variable, has_functions, with_placeholder, with_ksyms_size, with_old_sizes}
use Rattle.btf_rewrite_model.specs.FeatureSet.{answers_of}
use Rattle.btf_object_model.specs.Ksyms.{FindsKsyms}
use Rattle.btf_object_model.specs.Layout as model
use Rattle.btf_object_model.specs.Sanitized.{Target, AreAnswers, RewritesTable, RefusesTable}
use Rattle.btf_object_model.specs.SanitizedFinalized.{kernel_target, IsOpened, RewritesFinalized, RefusesFinalized, written_table, takes_placeholder, begun_table, begun_ids, begun_fault}
use Rattle.btf_object_model.specs.declared.reader.TableReader.{TableReader}
use Rattle.btf_object_model.proofs.Opened.{opened_others, reader_others}
use Rattle.btf_plain.specs.Error.{refusal_of}
use Rattle.btf_plain.specs.declared.error.BtfError.{BtfError}
use Rattle.btf_rewrite_model.proofs.FeatureSet.{AreOfKernel}

module _ (o : Object) (bytes : List ℕ) (target : Target) (old : Table) (ids : Option KsymsIds) (layout : Layout) (same : layout ≡ model.object_layout o) (table : IsTable o.header.order bytes old) (ksyms : FindsKsyms old target.placeholder (Ok ids)) where
  pub rewrites_so : (new : Table) (answers : List FeatureAnswer) → Rewritten target.policy old ids layout (answers_of target.has) new → AreOfKernel target.has answers → features_of answers ≡ Asked (pass_of target.policy old ids layout answers)
      → IsTable o.header.order (canon new) (strip new) → RewritesTable o bytes target old new answers
  rewrites_so new answers is are asked written = record {
    ids = ids;
    table = table;
    ksyms = ksyms;
    rewritten = subst (λ (l : Layout). Rewritten target.policy old ids l (answers_of target.has) new) same is;
    answers_are = record {
      of_kernel = are;
      asked_for = subst (λ (l : Layout). features_of answers ≡ Asked (pass_of target.policy old ids l answers)) same asked;
    };
    written = written;
  }

  pub refuses_so : (refusal : Refusal) → IsRefused target.policy old ids layout (answers_of target.has) refusal → RefusesTable o bytes target refusal
  refuses_so refusal is =
      inr (inr (old, ids, table, ksyms, subst (λ (l : Layout). IsRefused target.policy old ids l (answers_of target.has) refusal) same is))

-- a placeholder does not change the byte order
placeholder_order : (t : Table) (ids : Option KsymsIds) → (with_placeholder t ids).order ≡ t.order
placeholder_order t ids =
    by_table (λ (u : Table). u.order ≡ t.order) (has_functions t ids) (with_variable (int_of_4 t) (with_int t)) t
    (by_table (λ (u : Table). u.order ≡ t.order) (appends_int t None) (with_type (c_int (length t.strings)) None (with_string int_text t)) t refl refl)
    refl

-- so does the begin of a rewrite
begun_order : (b : Bool) (t : Table) (ids : Option KsymsIds) → (begun_table b t ids).order ≡ t.order
begun_order true t ids = placeholder_order t ids
begun_order false t ids = refl

module _ (o : Object) (bytes : List ℕ) (has : BtfFeature → Bool) (reader : TableReader) (old base : Table) (layout : Layout) (same : layout ≡ model.object_layout o) (table : IsTable o.header.order bytes old) (opened : IsOpened o old base) where
  abbrev wanted : Bool
  wanted = takes_placeholder reader has

  -- the search for `.ksyms` fails
  pub refuses_ksyms : (refusal : Refusal) → FindsKsyms base None (Err refusal) → RefusesFinalized o bytes has reader refusal
  refuses_ksyms refusal finds = inr (old, base, table, opened, inl finds)

  module _ (ids : Option KsymsIds) (ksyms : FindsKsyms base None (Ok ids)) where
    -- the placeholder does not fit
    pub refuses_placeholder : (refusal : Refusal) → Err refusal ≡ checked (begun_fault wanted base ids) (begun_ids wanted base ids) → RefusesFinalized o bytes has reader refusal
    refuses_placeholder refusal is = inr (old, base, table, opened, inr (ids, ksyms, inl (checked_err (begun_fault wanted base ids) (begun_ids wanted base ids) refusal is)))

    module _ (begun : Table) (given : Option KsymsIds) (begun_is : begun ≡ begun_table wanted base ids) (given_is : Ok given ≡ checked (begun_fault wanted base ids) (begun_ids wanted base ids)) where
      fits : (begun_fault wanted base ids ≡ None) × (given ≡ begun_ids wanted base ids)
      fits = checked_ok (begun_fault wanted base ids) (begun_ids wanted base ids) given given_is

      -- what is known under these tables and ids is known under those of the definitions
      known_so : (P : Table → Option KsymsIds → Layout → Type 0) → P begun given layout → P (begun_table wanted base ids) (begun_ids wanted base ids) (model.object_layout o)
      known_so P known =
          subst (P (begun_table wanted base ids) (begun_ids wanted base ids)) same
          (subst (λ (i : Option KsymsIds). P (begun_table wanted base ids) i layout) fits.1 (subst (λ (t : Table). P t given layout) begun_is known))

      -- the rewrite is refused
      pub refuses_rewrite : (refusal : Refusal) → IsRefused FillSized begun given layout (answers_of has) refusal → RefusesFinalized o bytes has reader refusal
      refuses_rewrite refusal is =
          inr (old, base, table, opened, inr (ids, ksyms, inr (fits.0, known_so (λ t i l. IsRefused FillSized t i l (answers_of has) refusal) is)))

      -- the rewrite succeeds, and the sizes are set
      pub rewrites_finalized : (new made : Table) (answers : List FeatureAnswer) (given_bytes : List ℕ) → Rewritten FillSized begun given layout (answers_of has) new
          → AreAnswers (kernel_target has) (Asked (pass_of FillSized begun given layout answers)) answers → new.order ≡ begun.order → made ≡ written_table reader old base ids new → given_bytes ≡ canon made → IsTable made.order given_bytes (strip made)
          → (all : RewritesFinalized o bytes has reader old base new answers) × (given_bytes ≡ canon (written_table reader old base all.ids new))
      rewrites_finalized new made answers given_bytes is are order made_is written again =
          let order_is : made.order ≡ o.header.order =
          ap (λ (t : Table). t.order) made_is ∙ ap (λ (t : Table). t.order) (reader_others reader old (with_old_sizes (with_ksyms_size base ids) new)) ∙ order ∙ ap (λ (t : Table). t.order) begun_is ∙ begun_order wanted base ids
          ∙ ap (λ (t : Table). t.order) (opened_others o old base opened) ∙ table.same_order in
          let bytes_are : given_bytes ≡ canon (written_table reader old base ids new) = written ∙ ap canon made_is in
          let read : IsTable o.header.order (canon (written_table reader old base ids new)) (strip (written_table reader old base ids new)) =
          subst (λ (t : Table). IsTable o.header.order (canon (written_table reader old base ids new)) (strip t)) made_is
          (subst (λ (b : List ℕ). IsTable o.header.order b (strip made)) bytes_are (subst (λ (e : Endianness). IsTable e given_bytes (strip made)) order_is again)) in (
            record {
              ids = ids;
              table = table;
              opened = opened;
              ksyms = ksyms;
              fits = fits.0;
              rewritten = known_so (λ t i l. Rewritten FillSized t i l (answers_of has) new) is;
              answers_are = known_so (λ t i l. AreAnswers (kernel_target has) (Asked (pass_of FillSized t i l answers)) answers) are;
              written = read;
            },
            bytes_are,
          )

-- what is known about an error that is passed on
pub passed_on : {T : Type 0} (P Q : Refusal → Type 0) (e : BtfError) (r : Result T BtfError) → ((refusal : Refusal) → P refusal → Q refusal) → IfSome (refusal_of e) P → IsErrAnd r (λ y. y ≡ e) → IfErr r (λ y. IfSome (refusal_of y) Q)
passed_on {T} P Q e r so known err =
    let q = err_from_is_err_and r err in
    let here : IfSome (refusal_of e) Q = elim (refusal_of e) as (λ (o : Option Refusal). IfSome o P → IfSome o Q) [ Some refusal ↦ so refusal | None ↦ λ none. tt ] known in
    subst (λ (x : Result T BtfError). IfErr x (λ y. IfSome (refusal_of y) Q)) (sym (q.1 ∙ ap (λ (x : BtfError). Err x) q.2)) here
