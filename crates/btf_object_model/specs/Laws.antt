-- The laws of the definitions. Each is the contract of a public function of this crate.
use Rattle.std.specs.Prelude.{◌≡◌, ◌≢◌, ℕ, Bool, List, Option, Ok, Err}
use Rattle.btf_model.specs.declared.endianness.Endianness.{Endianness}
use Rattle.btf_model.specs.Ext.{Ext, IsExt}
use Rattle.btf_model.specs.Refusal.{Refusal, InvalidStringOffset}
use Rattle.btf_model.specs.Table.{Table}
use Rattle.btf_model.specs.Text.{text_at}
use Rattle.btf_model.specs.Blob.{IsTable}
use Rattle.btf_elf_model.specs.Object.{Object, section_bytes}
use Rattle.btf_elf_model.specs.declared.section_header.SectionHeader.{SectionHeader}
use Rattle.btf_rewrite_model.specs.Pass.{Layout}
use Rattle.btf_rewrite_model.specs.Rewritten.{Rewritten}
use Rattle.btf_rewrite_model.specs.declared.feature.BtfFeature.{BtfFeature}
use Rattle.btf_rewrite_model.specs.declared.feature.FeatureAnswer.{FeatureAnswer}
use Rattle.btf_rewrite_model.specs.declared.feature.FillPolicy.{FillPolicy}
use Rattle.btf_rewrite_model.specs.declared.ksyms_ids.KsymsIds.{KsymsIds}
use Rattle.btf_object_model.specs.Finalized.{IsFinalized}
use Rattle.btf_object_model.specs.SanitizedFinalized.{IsOpened, IsSanitizedFinalized}
use Rattle.btf_object_model.specs.declared.reader.TableReader.{TableReader}
use Rattle.btf_object_model.specs.Sanitized.{Target, HasSection, IsSanitized, table_name, ext_name}

-- A text that can be read at an offset of a table's strings is read at the same offset of the rewritten table.
abbrev pub TextsStay : Type 0
TextsStay =
    (policy : FillPolicy) (old new : Table) (ids : Option KsymsIds) (layout : Layout) (answers : List FeatureAnswer)
    → Rewritten policy old ids layout answers new
    → (offset : ℕ) (text : List ℕ) → text_at old.strings offset ≡ Ok text → text_at new.strings offset ≡ Ok text

-- The bytes of `.BTF.ext` have the same contents with both tables. A refusal is the same too, unless its reason is a
-- name that cannot be read, because the rewrite may append this name.
pub record HasSameContents (order : Endianness) (bytes : List ℕ) (old new : Table) : Type 0 where
  pub ok : (ext : Ext) → IsExt order bytes old.strings (Ok ext) → IsExt order bytes new.strings (Ok ext)
  pub err : (refusal : Refusal) → ((offset : ℕ) → refusal ≢ InvalidStringOffset offset)
      → IsExt order bytes old.strings (Err refusal) → IsExt order bytes new.strings (Err refusal)

-- A rewrite does not change the contents of `.BTF.ext`.
abbrev pub ExtStays : Type 0
ExtStays =
    (policy : FillPolicy) (old new : Table) (ids : Option KsymsIds) (layout : Layout) (answers : List FeatureAnswer)
    → Rewritten policy old ids layout answers new
    → (order : Endianness) (bytes : List ℕ) → HasSameContents order bytes old new

-- A rewritten object and its `.BTF.ext`: the section has the same index and the same bytes as in the old object. With
-- the table in the new `.BTF` these bytes have the same contents as with the table in the old `.BTF`.
pub record KeepsExt (bytes file : List ℕ) (o new : Object) (index : ℕ) (s : SectionHeader) : Type 0 where
  pub section : HasSection file ext_name new index s
  pub same_bytes : section_bytes new s ≡ section_bytes o s
  pub says : (old_table new_table : Table) (at at' : ℕ) (t t' : SectionHeader)
      → HasSection bytes table_name o at t → IsTable o.header.order (section_bytes o t) old_table
      → HasSection file table_name new at' t' → IsTable o.header.order (section_bytes new t') new_table
      → HasSameContents o.header.order (section_bytes o s) old_table new_table

-- The written object retains the function, line and relocation records of the old object.
abbrev pub SanitizedKeepsExt : Type 0
SanitizedKeepsExt =
    (bytes file : List ℕ) (target : Target) (answers : List FeatureAnswer) → IsSanitized bytes target file answers
    → (o : Object) (index : ℕ) (s : SectionHeader) → HasSection bytes ext_name o index s
    → (new : Object) × KeepsExt bytes file o new index s

-- The same for an object whose table is finalized and then rewritten.
abbrev pub FinalizedKeepsExt : Type 0
FinalizedKeepsExt =
    (bytes file : List ℕ) (has : BtfFeature → Bool) (reader : TableReader) (answers : List FeatureAnswer)
    → IsSanitizedFinalized bytes has reader file answers
    → (o : Object) (index : ℕ) (s : SectionHeader) → HasSection bytes ext_name o index s
    → (new : Object) × KeepsExt bytes file o new index s

-- A table is finalized in one way: an object determines the finalized table.
abbrev pub IsFinalizedOnce : Type 0
IsFinalizedOnce =
    (layout : Layout) (old new other : Table) → IsFinalized layout old new → IsFinalized layout old other → new ≡ other

-- A loader opens an object in one way: an object determines the table that it then has.
abbrev pub IsOpenedOnce : Type 0
IsOpenedOnce =
    (o : Object) (old new other : Table) → IsOpened o old new → IsOpened o old other → new ≡ other
