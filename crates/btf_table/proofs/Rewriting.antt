-- Consequences for a table that was rewritten.
use Rattle.std.proofs.Common.{◌≡◌, ℕ, Bool, true, false, List, length, Option, None, Some, Result, Ok, Err, refl, ap, subst, ◌∙◌, inr}
use Rattle.std.specs.Prelude.{if◌then◌else◌, OnOk, IfSome}
use Rattle.btf_model.specs.Refusal.{Refusal}
use Rattle.btf_model.specs.declared.endianness.Endianness.{Endianness}
use Rattle.btf_model.specs.Table.{Table, strip, with_string, with_type}
use Rattle.btf_model.specs.Blob.{IsTable}
use Rattle.btf_rewrite_model.specs.declared.feature.FeatureAnswer.{FeatureAnswer}
use Rattle.btf_rewrite_model.specs.declared.feature.FillPolicy.{FillPolicy}
use Rattle.btf_rewrite_model.specs.Ksyms.{appends_int, each_stepped, int_text}
use Rattle.btf_rewrite_model.specs.declared.ksyms_ids.KsymsIds.{KsymsIds}
use Rattle.btf_rewrite_model.specs.Made.{c_int}
use Rattle.btf_rewrite_model.specs.Rewritten.{begun, pass_of, step_fault, Rewritten}
use Rattle.btf_rewrite_model.proofs.GrantedAll.{suffice}
use Rattle.btf_rewrite_model.proofs.FewAdded.{few_in_a_rewrite}
use Rattle.btf_rewrite_model.proofs.Kept as kept
use Rattle.btf_rewrite_model.proofs.Values.{value_stays}
use Rattle.btf_model.proofs.Blobs.{same_table}
use Rattle.btf_plain.specs.declared.error.BtfError.{BtfError}
use Rattle.btf_plain.specs.Error.{MeetsOrNoMemory, refusal_of}
use Rattle.btf_table.specs.PassStep.{Given, pass_on}
use Rattle.btf_table.specs.Rewrites.{Rewrite, Rewrites, Sanitizes, NeedsAreGranted, KeepsMeaning, OfTables}

-- the rewrite with these symbols and the arguments of its pass
abbrev pub asked_by : Option KsymsIds → Given → Rewrite
asked_by k given = record { policy = given.policy; ksyms = k; layout = given.layout }

-- a pass over the table as it begins, after the step
sanitized : {X : Type 0} (old new : Table) (k : Option KsymsIds) (given : Given) (answers : List FeatureAnswer) (r : Result X Refusal) → step_fault old k ≡ None → Sanitizes (pass_of given.policy old k given.layout answers) new r → Rewrites (asked_by k given) old answers new r
sanitized old new k given answers (Ok x) step s = (record { step = step; ruled = s.0; table = s.1 }, s.2)
sanitized old new k given answers (Err refusal) step s = inr (step, s)

pub stepped_by : {X : Type 0} (old t new : Table) (k : Option KsymsIds) (given : Given) (answers : List FeatureAnswer) (r : Result X Refusal) → step_fault old k ≡ None → t ≡ begun old k → Sanitizes (pass_on t given answers) new r → Rewrites (asked_by k given) old answers new r
stepped_by old t new k given answers r step is s = sanitized old new k given answers r step (subst (λ u. Sanitizes (pass_on u given answers) new r) is s)

-- the same for the result of a call
pub rewrites_by : {X Y : Type 0} (view : X → Y) (r : Result X BtfError) (old t new : Table) (k : Option KsymsIds) (given : Given) (answers : List FeatureAnswer) → step_fault old k ≡ None → t ≡ begun old k
    → MeetsOrNoMemory view r (Sanitizes (pass_on t given answers) new) → MeetsOrNoMemory view r (Rewrites (asked_by k given) old answers new)
rewrites_by view (Ok x) old t new k given answers step is reported = stepped_by old t new k given answers (Ok (view x)) step is reported
rewrites_by {X} {Y} view (Err e) old t new k given answers step is reported = refused (refusal_of e) reported
  where
    refused : (o : Option Refusal) → IfSome o (λ f. Sanitizes {X = Y} (pass_on t given answers) new (Err f)) → IfSome o (λ f. Rewrites {X = Y} (asked_by k given) old answers new (Err f))
    refused None none = tt
    refused (Some f) one = stepped_by {X = Y} old t new k given answers (Err f) step is one

-- ---- what follows

-- What a rewrite guarantees: needed features are granted, and the old table's meaning is kept.
pub record Keeps (policy : FillPolicy) (old : Table) (k : Option KsymsIds) (answers : List FeatureAnswer) (new : Table) : Type 0 where
  pub granted : NeedsAreGranted policy k answers old new
  pub meaning : KeepsMeaning old new

-- a rewrite that succeeds guarantees this
pub keeps_of : {X : Type 0} (old new : Table) (k : Option KsymsIds) (given : Given) (answers : List FeatureAnswer) (x : X) → Rewrites (asked_by k given) old answers new (Ok x) → Keeps given.policy old k answers new
keeps_of old new k given answers x h = record {
  granted = suffice given.policy old new k given.layout answers h.0 h.1;
  meaning = record {
    types = record {
      sizes = kept.sizes_stay given.policy old new k given.layout answers h.0;
      resolutions = kept.resolutions_stay given.policy old new k given.layout answers h.0;
      appended = few_in_a_rewrite given.policy old new k given.layout answers h.0;
    };
    values = value_stays given.policy old new k given.layout answers h.0;
  };
}

-- bytes represent at most one table each
pub of_tables : (order : Endianness) (bytes written : List ℕ) (old new : Table) (P : Table → Table → Type 0) → IsTable order bytes old → IsTable order written (strip new) → P old (strip new) → OfTables order bytes written P
of_tables order bytes written old new P parsed again holds = λ t u is_t is_u.
    subst (P t) (same_table order written (strip new) u again is_u) (subst (λ (x : Table). P x (strip new)) (same_table order bytes old t parsed is_t) holds)

pub on_ok : {X Y : Type 0} (view : X → Y) (r : Result X BtfError) (P : Result Y Refusal → Type 0) (Q : Type 0) → MeetsOrNoMemory view r P → ((y : Y) → P (Ok y) → Q) → OnOk r Q
on_ok view (Ok x) P Q given then_q = then_q (view x) given
on_ok view (Err e) P Q given then_q = tt

-- ---- the order

begun_order : (old : Table) (k : Option KsymsIds) → (begun old k).order ≡ old.order
begun_order old None = refl
begun_order old (Some ids) =
    elim (appends_int old ids.placeholder_id) as (λ (b : Bool). (if b then with_type (c_int (length old.strings)) None (with_string int_text (each_stepped old ids)) else each_stepped old ids).order ≡ old.order) [ true ↦ refl | false ↦ refl ]

pub rewritten_order : (old new : Table) (k : Option KsymsIds) (given : Given) (answers : List FeatureAnswer) → Rewritten given.policy old k given.layout answers new → new.order ≡ old.order
rewritten_order old new k given answers h = ap (λ (t : Table). t.order) h.table ∙ begun_order old k

-- the written bytes represent the new table in the byte order of the parsed bytes
pub written_again : (order : Endianness) (bytes written : List ℕ) (old new : Table) (k : Option KsymsIds) (given : Given) (answers : List FeatureAnswer) → IsTable order bytes old → Rewritten given.policy old k given.layout answers new
    → IsTable new.order written (strip new) → IsTable order written (strip new)
written_again order bytes written old new k given answers parsed h again =
    subst (λ (o : Endianness). IsTable o written (strip new)) (rewritten_order old new k given answers h ∙ parsed.same_order) again
