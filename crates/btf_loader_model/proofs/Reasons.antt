-- An object is refused for one reason, or for none.
use Rattle.std.proofs.Common.{◌≡◌, ◌⊎◌, ℕ, List, Bool, Option, Some, None, Ok, Err, refl, sym, ap, subst, ◌∙◌, inl, inr}
use Rattle.std.specs.Prelude.{Result}
use Rattle.std.proofs.lemmas.Option.{same_Some}
use Rattle.btf_model.specs.declared.endianness.Endianness.{Endianness}
use Rattle.btf_model.specs.Blob.{IsTable, IsRefusal}
use Rattle.btf_model.specs.Ext.{Ext, IsExt}
use Rattle.btf_model.specs.Refusal.{Refusal}
use Rattle.btf_model.specs.Table.{Table}
use Rattle.btf_model.proofs.Blobs.{same_table, same_refusal, table_not_refused}
use Rattle.btf_model.proofs.Comparisons.{same_ok, same_err}
use Rattle.btf_elf_model.proofs.Determined.{one_object, one_error, not_both}
use Rattle.btf_elf_model.specs.Object.{Object, IsObject, IsParseError}
use Rattle.btf_elf_model.specs.declared.error.ParseError.{ParseError}
use Rattle.btf_object_model.specs.Sanitized.{table_name, ext_name}
use Rattle.btf_relocate_model.specs.Modules.{Targets}
use Rattle.btf_loader_model.specs.Loader.{AreRelocationSections, bytes_named}
use Rattle.btf_loader_model.specs.Refused.{Reason, BadObject, NoTable, BadTable, BadExt, BadSectionName, SharedPlace, BadRecord, HasReason, IsReasonAmong, ReasonIsDetermined, sections_reason}
use Rattle.btf_loader_model.proofs.Exts.{one_ext}

-- the contents are not refused too
ok_or_refused : (order : Endianness) (ext strings : List ℕ) (e : Ext) (f : Refusal) → IsExt order ext strings (Ok e) → IsExt order ext strings (Err f) → ⊥
ok_or_refused order ext strings e f p q = let is : ◌≡◌ {A = Result Ext Refusal} (Ok e) (Err f) = one_ext order ext strings (Ok e) (Err f) p q in cc

one_list : (order : Endianness) (strings : List ℕ) (b : Option (List ℕ)) (s t : List (ℕ × List (List ℕ))) → AreRelocationSections order strings b s → AreRelocationSections order strings b t → s ≡ t
one_list order strings None s t p q = p ∙ sym q
one_list order strings (Some ext) s t p q =
    p.2 ∙ ap (λ (e : Ext). e.relocations) (same_ok p.0 q.0 (one_ext order ext strings (Ok p.0) (Ok q.0) p.1 q.1)) ∙ sym q.2

not_refused : (order : Endianness) (strings : List ℕ) (b : Option (List ℕ)) (ext : List ℕ) (f : Refusal) (s : List (ℕ × List (List ℕ))) → b ≡ Some ext → IsExt order ext strings (Err f) → AreRelocationSections order strings b s → ⊥
not_refused order strings b ext f s is refused are =
    let have = subst (λ (c : Option (List ℕ)). AreRelocationSections order strings c s) is are in
    ok_or_refused order ext strings have.0 f have.1 refused

none_or_some : (b : Option (List ℕ)) (x : List ℕ) → b ≡ None → b ≡ Some x → ⊥
none_or_some b x p q = cc

module _ (bytes : List ℕ) (targets : Targets) (is_shared refuses_errors : Bool) where
  abbrev found : Object → Table → List (ℕ × List (List ℕ)) → Option Reason
  found o local sections = sections_reason (record { local = local; targets = targets }) is_shared refuses_errors o bytes sections

  -- the reason, step by step
  abbrev AfterTable : Object → Table → Option Reason → Type 0
  AfterTable o local x =
      ((ext : List ℕ) × (f : Refusal) × (bytes_named o ext_name ≡ Some ext) × IsExt o.header.order ext local.strings (Err f) × (x ≡ Some (BadExt f)))
      ⊎ ((sections : List (ℕ × List (List ℕ))) × AreRelocationSections o.header.order local.strings (bytes_named o ext_name) sections × (found o local sections ≡ x))

  abbrev AfterBytes : Object → List ℕ → Option Reason → Type 0
  AfterBytes o table x =
      ((f : Refusal) × IsRefusal o.header.order table f × (x ≡ Some (BadTable f)))
      ⊎ ((local : Table) × IsTable o.header.order table local × AfterTable o local x)

  abbrev AfterObject : Object → Option Reason → Type 0
  AfterObject o x =
      ((bytes_named o table_name ≡ None) × (x ≡ Some NoTable))
      ⊎ ((table : List ℕ) × (bytes_named o table_name ≡ Some table) × AfterBytes o table x)

  abbrev InSteps : Option Reason → Type 0
  InSteps x = ((e : ParseError) × IsParseError bytes e × (x ≡ Some (BadObject e))) ⊎ ((o : Object) × IsObject bytes o × AfterObject o x)

  of_sections : (x : Option Reason) → HasReason bytes targets is_shared refuses_errors x → InSteps x
  of_sections x h = inr (h.object, h.has_table.is_object, inr (h.has_table.table, h.has_table.has_table, inr (h.local, h.has_table.is_table, inr (h.sections, h.are_sections, h.reason_is))))

  in_steps : (x : Option Reason) → IsReasonAmong bytes targets is_shared refuses_errors x → InSteps x
  in_steps (Some (BadObject e)) p = inl (e, p, refl)
  in_steps (Some NoTable) p = inr (p.0, p.1, inl (p.2, refl))
  in_steps (Some (BadTable f)) p = inr (p.0, p.2, inr (p.1, p.3, inl (f, p.4, refl)))
  in_steps (Some (BadExt f)) p = inr (p.0, p.3.is_object, inr (p.3.table, p.3.has_table, inr (p.1, p.3.is_table, inl (p.2, f, p.4, p.5, refl))))
  in_steps (Some (BadSectionName n)) p = of_sections _ p
  in_steps (Some (SharedPlace i)) p = of_sections _ p
  in_steps (Some (BadRecord n i e)) p = of_sections _ p
  in_steps None p = of_sections _ p

  one_after_table : (o : Object) (local : Table) (x y : Option Reason) → AfterTable o local x → AfterTable o local y → x ≡ y
  one_after_table o local x y (inl p) (inl q) =
      let same : p.0 ≡ q.0 = same_Some p.0 q.0 (sym p.2 ∙ q.2) in
      let refused : IsExt o.header.order q.0 local.strings (Err p.1) = subst (λ (ext : List ℕ). IsExt o.header.order ext local.strings (Err p.1)) same p.3 in
      p.4 ∙ ap (λ (f : Refusal). Some (BadExt f)) (same_err {A = Ext} p.1 q.1 (one_ext o.header.order q.0 local.strings (Err p.1) (Err q.1) refused q.3)) ∙ sym q.4
  one_after_table o local x y (inl p) (inr q) = absurd (not_refused o.header.order local.strings (bytes_named o ext_name) p.0 p.1 q.0 p.2 p.3 q.1)
  one_after_table o local x y (inr p) (inl q) = absurd (not_refused o.header.order local.strings (bytes_named o ext_name) q.0 q.1 p.0 q.2 q.3 p.1)
  one_after_table o local x y (inr p) (inr q) =
      sym p.2 ∙ ap (found o local) (one_list o.header.order local.strings (bytes_named o ext_name) p.0 q.0 p.1 q.1) ∙ q.2

  one_after_bytes : (o : Object) (table : List ℕ) (x y : Option Reason) → AfterBytes o table x → AfterBytes o table y → x ≡ y
  one_after_bytes o table x y (inl p) (inl q) = p.2 ∙ ap (λ (f : Refusal). Some (BadTable f)) (same_refusal o.header.order table p.0 q.0 p.1 q.1) ∙ sym q.2
  one_after_bytes o table x y (inl p) (inr q) = absurd (table_not_refused o.header.order table q.0 p.0 q.1 p.1)
  one_after_bytes o table x y (inr p) (inl q) = absurd (table_not_refused o.header.order table p.0 q.0 p.1 q.1)
  one_after_bytes o table x y (inr p) (inr q) =
      one_after_table o q.0 x y (subst (λ (local : Table). AfterTable o local x) (same_table o.header.order table p.0 q.0 p.1 q.1) p.2) q.2

  one_after_object : (o : Object) (x y : Option Reason) → AfterObject o x → AfterObject o y → x ≡ y
  one_after_object o x y (inl p) (inl q) = p.1 ∙ sym q.1
  one_after_object o x y (inl p) (inr q) = absurd (none_or_some (bytes_named o table_name) q.0 p.0 q.1)
  one_after_object o x y (inr p) (inl q) = absurd (none_or_some (bytes_named o table_name) p.0 q.0 p.1)
  one_after_object o x y (inr p) (inr q) =
      one_after_bytes o q.0 x y (subst (λ (table : List ℕ). AfterBytes o table x) (same_Some p.0 q.0 (sym p.1 ∙ q.1)) p.2) q.2

  one_in_steps : (x y : Option Reason) → InSteps x → InSteps y → x ≡ y
  one_in_steps x y (inl p) (inl q) = p.2 ∙ ap (λ (e : ParseError). Some (BadObject e)) (one_error bytes p.0 q.0 p.1 q.1) ∙ sym q.2
  one_in_steps x y (inl p) (inr q) = absurd (not_both bytes q.0 p.0 q.1 p.1)
  one_in_steps x y (inr p) (inl q) = absurd (not_both bytes p.0 q.0 p.1 q.1)
  one_in_steps x y (inr p) (inr q) = one_after_object q.0 x y (subst (λ (o : Object). AfterObject o x) (one_object bytes p.0 q.0 p.1 q.1) p.2) q.2

pub one_reason : ReasonIsDetermined
one_reason bytes targets is_shared refuses_errors x y p q =
    one_in_steps bytes targets is_shared refuses_errors x y (in_steps bytes targets is_shared refuses_errors x p) (in_steps bytes targets is_shared refuses_errors y q)
