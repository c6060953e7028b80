-- A rewrite with the answers that a request gives is the rewrite of that request.
use Rattle.std.proofs.Common.{◌≡◌, ℕ, List, Option, None, Some, Ok, Err, Result, Vec, Global, sym, ap, subst, ◌∙◌, inl, inr}
use Rattle.std.specs.Prelude.{IfErr, IfSome, IsErrAnd}
use Rattle.std.proofs.Math.Path.{fun_ext}
use Rattle.std.proofs.lemmas.Result.{err_from_is_err_and}
use Rattle.btf_model.specs.Refusal.{Refusal}
use Rattle.btf_model.specs.Table.{Table}
use Rattle.btf_rewrite_model.specs.declared.feature.FeatureAnswer.{FeatureAnswer}
use Rattle.btf_rewrite_model.specs.declared.feature.FillPolicy.{FillPolicy}
use Rattle.btf_rewrite_model.specs.Pass.{Layout, Asked}
use Rattle.btf_rewrite_model.specs.Rewritten.{pass_of, Rewritten}
use Rattle.btf_rewrite_model.proofs.Kernels.{AgreeWith, rewritten_alike, refused_alike}
use Rattle.btf_plain.specs.Error.{refusal_of}
use Rattle.btf_plain.specs.declared.error.BtfError.{BtfError}
use Rattle.btf_model.specs.declared.endianness.Endianness.{Endianness}
use Rattle.btf_table.specs.Rewrites.{features_asked, Refuses, RewritesBytes}
use Rattle.btf_cli.specs.Setting.{Setting}
use Rattle.btf_cli.specs.Settings.{layout_set, kernel_set, policy_set, last_set, size_set, offset_set}
use Rattle.btf_cli.specs.Request.{request_ids, AreSet}
use Rattle.btf_cli.specs.declared.request.Request.{Request}
use Rattle.btf_cli.specs.declared.line.Command.TheVariants.{Rewrite}
use Rattle.btf_cli.specs.Answer.{RewritesAsAsked, IsAnswer, IsDeclined}

-- a layout is the request's if it has the numbers of each name
pub layout_is : (layout : Layout) (settings : List Setting) → ((name : List ℕ) → layout.sections name ≡ last_set (size_set name) settings) → ((name : List ℕ) → layout.symbols name ≡ last_set (offset_set name) settings) → layout ≡ layout_set settings
layout_is layout settings sizes offsets =
    ap (λ (sections : List ℕ → Option ℕ). record { sections = sections; symbols = layout.symbols }) (fun_ext sizes)
    ∙ ap (λ (symbols : List ℕ → Option ℕ). record { sections = λ name. last_set (size_set name) settings; symbols = symbols }) (fun_ext offsets)

-- A rewrite that was made for a request: its layout and its policy are the request's, and its answers are the kernel's.
pub record IsFor (request : Request) (layout : Layout) (policy : FillPolicy) (answers : List FeatureAnswer) (settings : List Setting) : Type 0 where
  pub are_set : AreSet request settings
  pub same_layout : layout ≡ layout_set settings
  pub same_policy : policy ≡ policy_set settings
  pub agree : AgreeWith answers (kernel_set settings)

module _ (request : Request) (layout : Layout) (policy : FillPolicy) (answers : List FeatureAnswer) (settings : List Setting) (for_request : IsFor request layout policy answers settings) where
  rewrites_so : (t new : Table) → Rewritten policy t (request_ids request) layout answers new → features_asked answers ≡ Asked (pass_of policy t (request_ids request) layout answers) → RewritesAsAsked request t (Ok new)
  rewrites_so t new is asked =
      let Known : FillPolicy → Layout → Type 0 = λ f l. Rewritten f t (request_ids request) l answers new × (features_asked answers ≡ Asked (pass_of f t (request_ids request) l answers)) in
      let known : Known (policy_set settings) (layout_set settings) = subst (λ (f : FillPolicy). Known f (layout_set settings)) for_request.same_policy (subst (Known policy) for_request.same_layout (is, asked)) in
      (settings, for_request.are_set, rewritten_alike (policy_set settings) t new (request_ids request) (layout_set settings) answers (kernel_set settings) known.0 known.1 for_request.agree)

  refuses_so : (t : Table) (refusal : Refusal) → Refuses (record { policy = policy; ksyms = request_ids request; layout = layout }) t answers refusal → RewritesAsAsked request t (Err refusal)
  refuses_so t refusal is =
      let Known : FillPolicy → Layout → Type 0 = λ f l. Refuses (record { policy = f; ksyms = request_ids request; layout = l }) t answers refusal in
      let known : Known (policy_set settings) (layout_set settings) =
      subst (λ (f : FillPolicy). Known f (layout_set settings)) for_request.same_policy (subst (Known policy) for_request.same_layout is) in
      (settings, for_request.are_set, refused_alike (policy_set settings) t (request_ids request) (layout_set settings) answers (kernel_set settings) refusal known for_request.agree)

  -- the bytes of the rewritten table are the output
  pub rewritten_answer : (endianness : Endianness) (bytes written : List ℕ) (listed : List FeatureAnswer) → RewritesBytes (record { policy = policy; ksyms = request_ids request; layout = layout }) endianness bytes answers (Ok (written, listed))
      → IsAnswer (record { endianness = endianness; command = Rewrite request }) bytes written
  rewritten_answer endianness bytes written listed is = (is.0, is.2, (is.1, rewrites_so is.0 is.1 is.3 is.4, is.5))

  -- an error of the rewrite is an error of the command
  pub rewritten_declined : (endianness : Endianness) (bytes : List ℕ) (refusal : Refusal) → RewritesBytes (record { policy = policy; ksyms = request_ids request; layout = layout }) endianness bytes answers (Err refusal)
      → IsDeclined (record { endianness = endianness; command = Rewrite request }) bytes refusal
  rewritten_declined endianness bytes refusal (inl no_table) = record { cause = inl no_table.0 }
  rewritten_declined endianness bytes refusal (inr table) = record { cause = inr (table.0, table.1, refuses_so table.0 refusal table.2) }

-- a claim about an error holds of the error that is returned for it
pub refusal_through : (P Q : Refusal → Type 0) (e : BtfError) (r : Result (Vec ℕ Global) BtfError) → ((refusal : Refusal) → P refusal → Q refusal) → IfSome (refusal_of e) P → IsErrAnd r (λ y. y ≡ e) → IfErr r (λ y. IfSome (refusal_of y) Q)
refusal_through P Q e r so setting_asked err =
    let q = err_from_is_err_and r err in
    let here : IfSome (refusal_of e) Q = elim (refusal_of e) as (λ (o : Option Refusal). IfSome o P → IfSome o Q) [ Some refusal ↦ so refusal | None ↦ λ none. tt ] setting_asked in
    subst (λ (x : Result (Vec ℕ Global) BtfError). IfErr x (λ y. IfSome (refusal_of y) Q)) (sym (q.1 ∙ ap (λ (x : BtfError). Err x) q.2)) here
