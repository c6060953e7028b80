-- The object with its code relocated, from what its parts are.
use Rattle.std.proofs.Common.{◌≡◌, ℕ, Bool, false, List, Some, Ok, sym, ap, ◌∙◌, subst}
use Rattle.std.specs.List.{list_any}
use Rattle.btf_model.specs.Blob.{IsTable}
use Rattle.btf_model.specs.Ext.{Ext, IsExt}
use Rattle.btf_model.specs.Table.{Table}
use Rattle.btf_elf_model.specs.Object.{Object, IsObject}
use Rattle.btf_elf_model.specs.declared.file_header.FileHeader.{FileHeader}
use Rattle.btf_relocate_model.specs.Modules.{Targets}
use Rattle.btf_loader_model.specs.Loader.{Outcomes, IsRelocatedAmong, bytes_named, is_unreadable, relocated_file}
use Rattle.btf_loader.specs.Results.{kernel_setting}
use Rattle.btf_loader.proofs.Causes.{are_sections}
use Rattle.btf_object_model.specs.Sanitized.{table_name, ext_name}

pub is_relocated : (bytes : List ℕ) (targets : Targets) (is_shared : Bool) (o : Object) (h : FileHeader) (table section : List ℕ) (local : Table) (e : Ext)
    (sections : List (ℕ × List (List ℕ))) (outcomes : List (ℕ × Outcomes)) (start new file : List ℕ)
    → IsObject bytes o → h ≡ o.header
    → Some table ≡ bytes_named o table_name → IsTable h.order table local
    → Some section ≡ bytes_named o ext_name → IsExt h.order section local.strings (Ok e) → sections ≡ e.relocations
    → start ≡ bytes → file ≡ new
    → list_any (is_unreadable local.strings) sections ≡ false
    → (outcomes, new) ≡ relocated_file (kernel_setting local targets) is_shared o start sections
    → IsRelocatedAmong bytes targets is_shared outcomes file
is_relocated bytes targets is_shared o h table section local e sections outcomes start new file object header has_table is_table has_ext is_ext are starts ends readable did = record {
  object = o;
  is_object = object;
  table = table;
  has_table = sym has_table;
  local = local;
  is_table = subst (λ (x : FileHeader). IsTable x.order table local) header is_table;
  sections = sections;
  are_sections = are_sections o h section local e sections header has_ext is_ext are;
  are_readable = readable;
  relocated = ap (λ (f : List ℕ). (outcomes, f)) ends ∙ did ∙ ap (λ (b : List ℕ). relocated_file (kernel_setting local targets) is_shared o b sections) starts;
}
