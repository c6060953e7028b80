-- The .BTF.ext that is opened over a table.
use Rattle.std.specs.Prelude.{◌≡◌, ◌⊎◌, ℕ, List, length, Bool, true, false, Option, Some, None, is_some, Result, Ok, Err}
use Rattle.std.specs.List.{IsDistinct}
use Rattle.std.specs.Set.{is_member}
use Rattle.std.specs.Str.{bytes_eq}
use Rattle.std.specs.declared.hash.DefaultHasher.{DefaultHasher}
use Rattle.vbtf.specs.declared.seed.Keys.{Keys}
use Rattle.btf_ext.specs.declared.ext.BtfExt.{BtfExt}
use Rattle.btf_ext.specs.BtfExt.{ext as said}
use Rattle.btf_model.specs.Ext.{IsExt}
use Rattle.btf_model.specs.Refusal.{Refusal}
use Rattle.btf_model.specs.declared.endianness.Endianness.{Endianness}
use Rattle.vbtf.specs.declared.ext.ExtSizes.{ExtSizes}
use Rattle.vbtf.specs.declared.fault.Fault.{Fault}
use Rattle.vbtf.specs.declared.handle.Handle.{Handle}
use Rattle.vbtf.specs.declared.opened.Opened.{Opened}
use Rattle.vbtf.specs.Status.{ReportsRefusal, ReportsNoMemory}

-- a .BTF.ext whose maps have random keys
abbrev pub OpenedExt : Type 0
OpenedExt = BtfExt Keys DefaultHasher

-- After a change of the .BTF.ext: it is this one, and the table and its index are unchanged.
pub record ExtChangedTo (old new : Opened) (found : Option OpenedExt) : Type 0 where
  pub btf : new.btf ≡ old.btf
  pub ext : new.ext ≡ found
  pub index : new.index ≡ old.index

-- The result of opening: true, and the opened .BTF.ext has the contents of the bytes, with names in the table's
-- strings; false if a .BTF.ext is open; or the error of the bytes. In the last two cases nothing changes.
abbrev pub AddsExt : Endianness → List ℕ → Opened → Opened → Result Bool Refusal → Type 0
AddsExt order bytes old new (Ok true) =
    (old.ext ≡ None) × (ext : OpenedExt) × ExtChangedTo old new (Some ext)
    × IsExt order bytes old.btf.strings (Ok (said ext))
AddsExt order bytes old new (Ok false) = (ext : OpenedExt) × (old.ext ≡ Some ext) × (new ≡ old)
AddsExt order bytes old new (Err refusal) =
    (old.ext ≡ None) × (new ≡ old) × IsExt order bytes old.btf.strings (Err refusal)

-- The outcomes of a call that opens it: status 0, status 102 if one is open, an error, or a failed allocation.
abbrev pub EndsOpeningExt : ℕ → Endianness → List ℕ → Handle → Handle → Fault → Type 0
EndsOpeningExt status order bytes old new fault =
    (new.state ≡ 1)
    × (((status ≡ 0) × AddsExt order bytes old.opened new.opened (Ok true))
    ⊎ ((status ≡ 102) × AddsExt order bytes old.opened new.opened (Ok false))
    ⊎ (ReportsNoMemory status fault × (new.opened ≡ old.opened))
    ⊎ ((refusal : Refusal) × ReportsRefusal status fault refusal
    × AddsExt order bytes old.opened new.opened (Err refusal)))

-- These are the names for which a look-up finds something, each once, in any order.
pub record AreNames {X : Type 0} (found : List ℕ → Option X) (names : List (List ℕ)) : Type 0 where
  pub distinct : IsDistinct bytes_eq names
  pub each : (name : List ℕ) → is_member bytes_eq names name ≡ is_some (found name)

-- the number of names for which a look-up finds something
abbrev pub CountsNames : {X : Type 0} → (List ℕ → Option X) → ℕ → Type 0
CountsNames found count = (names : List (List ℕ)) × AreNames found names × (count ≡ length names)

-- These are the lengths of the records of a .BTF.ext, and the numbers of its sections.
pub record HasSizes (ext : OpenedExt) (sizes : ExtSizes) : Type 0 where
  pub func_size : sizes.func_size ≡ (said ext).func_size
  pub line_size : sizes.line_size ≡ (said ext).line_size
  pub func_sections : CountsNames (said ext).func sizes.func_sections
  pub line_sections : CountsNames (said ext).line sizes.line_sections
  pub relocation_sections : sizes.relocation_sections ≡ length (said ext).relocations
