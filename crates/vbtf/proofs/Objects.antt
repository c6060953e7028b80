-- The target of the rewrite of an object, by the arguments of C.
use Rattle.std.proofs.Common.{◌≡◌, ℕ, Bool, List, Option, ap, sym, ◌∙◌}
use Rattle.std.proofs.Math.Nat.{suc-ne-zero}
use Rattle.std.proofs.Math.Path.{fun_ext}
use Rattle.btf_rewrite_model.specs.declared.feature.BtfFeature.{BtfFeature}
use Rattle.btf_rewrite_model.specs.declared.feature.FillPolicy.{FillPolicy}
use Rattle.btf_elf.specs.declared.error.ObjectError.TheVariants as elf
use Rattle.btf_elf.specs.declared.error.ReplaceError.TheVariants as replace
use Rattle.btf_object_model.specs.Sanitized.{Target}
use Rattle.btf_object.specs.Errors.{target_of}
use Rattle.btf_object.specs.Kernel.{kernel_has}
use Rattle.btf_object.specs.declared.error.SanitizeError.{SanitizeError}
use Rattle.btf_object.specs.declared.error.SanitizeError.TheVariants.{Object, NoTable, Table, Section, OutOfMemory}
use Rattle.btf_object.specs.declared.kernel.Kernel as object
use Rattle.btf_plain.specs.Error.{refusal_of}
use Rattle.btf_rewrite_model.specs.FeatureSet.{has_bit}
use Rattle.vbtf.specs.Kernel.{policy_chosen}
use Rattle.vbtf.specs.Object.{text_or_none, target_chosen, ReportsCause}
use Rattle.vbtf.specs.declared.fault.Fault.{Fault}
use Rattle.vbtf.proofs.Ending.{error_is_no_success}
use Rattle.vbtf.specs.declared.kernel.Kernel.{Kernel}

abbrev target : (BtfFeature → Bool) → FillPolicy → Option (List ℕ) → Target
target h policy placeholder = record { has = h; policy = policy; placeholder = placeholder }

pub chosen : (k : object.Kernel) (kernel : Kernel) (policy : FillPolicy) (o : Option (List ℕ)) (name placeholder : List ℕ)
    → ((f : BtfFeature) → kernel_has k f ≡ has_bit kernel.features f) → policy ≡ policy_chosen kernel → o ≡ text_or_none name → name ≡ placeholder
    → target_of k policy o ≡ target_chosen kernel placeholder
chosen k kernel policy o name placeholder bits policy_is named name_is =
    ap (λ h. target h policy o) (fun_ext bits) ∙ ap (λ p. target (has_bit kernel.features) p o) policy_is
    ∙ ap (λ n. target (has_bit kernel.features) (policy_chosen kernel) n) (named ∙ ap text_or_none name_is)

-- no cause has the status of success
pub cause_is_no_success : (status : ℕ) (fault : Fault) (e : SanitizeError) → ReportsCause status fault e → status ≡ 0 → ⊥
cause_is_no_success status fault (Object (elf.Parse e)) reported zero = suc-ne-zero 103 (sym reported.0 ∙ zero)
cause_is_no_success status fault (Object elf.OutOfMemory) reported zero = suc-ne-zero 19 (sym reported.0 ∙ zero)
cause_is_no_success status fault NoTable reported zero = suc-ne-zero 104 (sym reported.0 ∙ zero)
cause_is_no_success status fault (Table e) reported zero = error_is_no_success status fault (refusal_of e) reported zero
cause_is_no_success status fault (Section replace.OutOfMemory) reported zero = suc-ne-zero 19 (sym reported.0 ∙ zero)
cause_is_no_success status fault (Section (replace.NoSuchSection index)) reported zero = suc-ne-zero 105 (sym reported.0 ∙ zero)
cause_is_no_success status fault (Section (replace.NotReplaceable index)) reported zero = suc-ne-zero 105 (sym reported.0 ∙ zero)
cause_is_no_success status fault OutOfMemory reported zero = suc-ne-zero 19 (sym reported.0 ∙ zero)
