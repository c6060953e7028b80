-- Why an object is not relocated, from the results of the steps.
use Rattle.std.proofs.Common.{◌≡◌, ℕ, Bool, List, Option, Some, None, Ok, Err, refl, sym, ap, ◌∙◌, subst}
use Rattle.std.specs.Prelude.{IfSome, IfErr, Result, IsErrAnd}
use Rattle.std.proofs.lemmas.Result.{err_from_is_err_and}
use Rattle.btf_model.specs.Blob.{IsTable, IsRefusal}
use Rattle.btf_model.specs.Ext.{Ext, IsExt}
use Rattle.btf_model.specs.Table.{Table}
use Rattle.btf_elf.specs.Results.{IsElfError as IsObjectReason}
use Rattle.btf_elf.specs.declared.error.ObjectError.{ObjectError}
use Rattle.btf_elf.specs.declared.error.ObjectError.TheVariants as object
use Rattle.btf_elf_model.specs.Object.{Object, IsObject}
use Rattle.btf_elf_model.specs.declared.file_header.FileHeader.{FileHeader}
use Rattle.btf_plain.specs.Error.{refusal_of}
use Rattle.btf_plain.specs.declared.error.BtfError.{BtfError}
use Rattle.btf_plain.specs.declared.error.BtfError.TheVariants as plain
use Rattle.btf_loader_model.specs.Loader.{AreRelocationSections, bytes_named}
use Rattle.btf_loader_model.specs.Refused.{Reason, HasTable, HasReason, IsReasonAmong, sections_reason}
use Rattle.btf_object_model.specs.Sanitized.{table_name, ext_name}
use Rattle.btf_relocate_model.specs.Modules.{Targets}
use Rattle.btf_loader.specs.Results.{kernel_setting}
use Rattle.btf_loader.specs.Errors.{of_object, of_table, of_ext, IsReport, IsLoaderCause}
use Rattle.btf_loader.specs.declared.error.LoaderError.{LoaderError}
use Rattle.btf_loader.specs.declared.error.LoaderError.TheVariants as loader

-- what is known about an error that is converted to another
pub becomes : {T E : Type 0} (P : E → Type 0) (e : E) (r : Result T E) → P e → IsErrAnd r (λ y. y ≡ e) → IfErr r P
becomes {T} {E} P e r known err =
    let q = err_from_is_err_and r err in
    subst (λ (x : Result T E). IfErr x P) (sym (q.1 ∙ ap (λ (x : E). Err x) q.2)) known

pub has_table : (bytes : List ℕ) (o : Object) (h : FileHeader) (table : List ℕ) (local : Table) → IsObject bytes o → h ≡ o.header → Some table ≡ bytes_named o table_name
    → IsTable h.order table local → HasTable bytes o local
has_table bytes o h table local object header named is = record {
  is_object = object;
  table = table;
  has_table = sym named;
  is_table = subst (λ (x : FileHeader). IsTable x.order table local) header is;
}

-- the sections of records
pub are_sections : (o : Object) (h : FileHeader) (section : List ℕ) (local : Table) (e : Ext) (sections : List (ℕ × List (List ℕ))) → h ≡ o.header → Some section ≡ bytes_named o ext_name
    → IsExt h.order section local.strings (Ok e) → sections ≡ e.relocations → AreRelocationSections o.header.order local.strings (bytes_named o ext_name) sections
are_sections o h section local e sections header has_ext is_ext are =
    subst (λ (b : Option (List ℕ)). AreRelocationSections o.header.order local.strings b sections) has_ext
    (e, subst (λ (x : FileHeader). IsExt x.order section local.strings (Ok e)) header is_ext, are)

module _ (bytes : List ℕ) (targets : Targets) (is_shared refuses_errors : Bool) where
  abbrev pub Is : Option Reason → Type 0
  Is reason = IsReasonAmong bytes targets is_shared refuses_errors reason

  -- the bytes are no object
  pub object_cause : (e : ObjectError) → IsObjectReason bytes e → IsLoaderCause Is (of_object e)
  object_cause (object.Parse p) is = (p, refl, is)
  object_cause object.OutOfMemory is = tt

  -- the object has no table
  pub no_table : (o : Object) → IsObject bytes o → bytes_named o table_name ≡ None → IsLoaderCause Is loader.NoTable
  no_table o object none = (o, object, none)

  -- the section has no table
  pub table_cause : (o : Object) (h : FileHeader) (table : List ℕ) (e : BtfError) → IsObject bytes o → h ≡ o.header → Some table ≡ bytes_named o table_name
      → IfSome (refusal_of e) (IsRefusal h.order table) → IsLoaderCause Is (of_table e)
  table_cause o h table e object header named refused =
      let here : IfSome (refusal_of e) (IsRefusal o.header.order table) = subst (λ (x : FileHeader). IfSome (refusal_of e) (IsRefusal x.order table)) header refused in
      elim e as (λ (x : BtfError). IfSome (refusal_of x) (IsRefusal o.header.order table) → IsLoaderCause Is (of_table x))
      [ plain.OutOfMemory ↦ λ _. tt | _ ↦ λ is. (_, refl, (o, table, object, sym named, is)) ] here

  -- the section with relocation records is refused
  pub ext_cause : (o : Object) (h : FileHeader) (local : Table) (ext : List ℕ) (e : BtfError) → HasTable bytes o local → h ≡ o.header → Some ext ≡ bytes_named o ext_name
      → IfSome (refusal_of e) (λ f. IsExt h.order ext local.strings (Err f)) → IsLoaderCause Is (of_ext e)
  ext_cause o h local ext e has header named refused =
      let here : IfSome (refusal_of e) (λ f. IsExt o.header.order ext local.strings (Err f)) = subst (λ (x : FileHeader). IfSome (refusal_of e) (λ f. IsExt x.order ext local.strings (Err f))) header refused in
      elim e as (λ (x : BtfError). IfSome (refusal_of x) (λ f. IsExt o.header.order ext local.strings (Err f)) → IsLoaderCause Is (of_ext x))
      [ plain.OutOfMemory ↦ λ _. tt | _ ↦ λ is. (_, refl, (o, local, ext, has, sym named, is)) ] here

  module _ (o : Object) (local : Table) (sections : List (ℕ × List (List ℕ))) (has : HasTable bytes o local)
      (are : AreRelocationSections o.header.order local.strings (bytes_named o ext_name) sections) where
    abbrev pub found : Option Reason
    found = sections_reason (kernel_setting local targets) is_shared refuses_errors o bytes sections

    has_reason : (reason : Option Reason) → found ≡ reason → HasReason bytes targets is_shared refuses_errors reason
    has_reason reason is = record { object = o; local = local; has_table = has; sections = sections; are_sections = are; reason_is = is }

    -- a section of records is refused
    pub section_cause : (e : LoaderError) → IsReport found e → IsLoaderCause Is e
    section_cause (loader.SectionName n) is = has_reason _ is
    section_cause (loader.SharedPlace i) is = has_reason _ is
    section_cause (loader.Refused n i cause) is = has_reason _ is
    section_cause loader.OutOfMemory is = tt
    section_cause (loader.Object e) is = absurd is
    section_cause loader.NoTable is = absurd is
    section_cause (loader.Table e) is = absurd is
    section_cause (loader.Ext e) is = absurd is

    -- no section of records is refused
    pub accepted : found ≡ None → Is None
    accepted none = has_reason None none
