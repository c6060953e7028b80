-- The object whose table is finalized as by a loader and then rewritten for a kernel, or why there is none.
-- Source: libbpf lays out externs and finalizes a table when it opens an object (`bpf_object__collect_externs`,
-- `bpf_object__finalize_btf`), and rewrites it for the kernel when it loads the object (`bpf_object__sanitize_btf`).
use Rattle.std.specs.Prelude.{◌≡◌, ◌⊎◌, ℕ, Bool, true, false, not, List, Option, Some, None, Ok, Err}
use Rattle.btf_model.specs.Refusal.{Refusal}
use Rattle.btf_model.specs.Table.{Table, strip}
use Rattle.btf_model.specs.Blob.{IsTable, IsRefusal, canon}
use Rattle.btf_elf_model.specs.Object.{Object, IsObject, section_bytes}
use Rattle.btf_elf_model.specs.Replaced.{ReplacesSection}
use Rattle.btf_elf_model.specs.declared.section_header.SectionHeader.{SectionHeader}
use Rattle.btf_rewrite_model.specs.Pass.{Asked}
use Rattle.btf_rewrite_model.specs.Rewritten.{pass_of, Rewritten, IsRefused}
use Rattle.btf_rewrite_model.specs.declared.feature.BtfFeature.{BtfFeature}
use Rattle.btf_rewrite_model.specs.declared.feature.BtfFeature.TheVariants.{DataSec}
use Rattle.btf_rewrite_model.specs.declared.feature.FeatureAnswer.{FeatureAnswer}
use Rattle.btf_rewrite_model.specs.declared.feature.FillPolicy.TheVariants.{FillSized}
use Rattle.btf_rewrite_model.specs.declared.ksyms_ids.KsymsIds.{KsymsIds}
use Rattle.btf_object_model.specs.Finalized.{IsFinalized, placeholder_fault, with_placeholder, with_placeholder_id, with_ksyms_size, with_old_sizes}
use Rattle.btf_object_model.specs.Kconfig.{IsConfigured}
use Rattle.btf_object_model.specs.Externs.{for_reader}
use Rattle.btf_object_model.specs.Hidden.{hidden_type, with_hidden_static}
use Rattle.btf_object_model.specs.declared.reader.TableReader.{TableReader}
use Rattle.btf_object_model.specs.declared.reader.TableReader.TheVariants.{Kernel, Loaders}
use Rattle.btf_rewrite_model.specs.FeatureSet.{answers_of}
use Rattle.btf_object_model.specs.Ksyms.{FindsKsyms}
use Rattle.btf_object_model.specs.Layout.{object_layout}
use Rattle.btf_object_model.specs.Sanitized.{Target, HasSection, AreAnswers, table_name}

-- the target of a rewrite for a kernel with these features, without a placeholder
abbrev pub kernel_target : (BtfFeature → Bool) → Target
kernel_target has = record { has = has; policy = FillSized; placeholder = None }

-- The table as a loader has it when it has opened an object: `.kconfig` is laid out, then the table is finalized, and
-- then hidden functions and variables become Static, which before had to get the offsets of their symbols.
abbrev pub IsOpened : Object → Table → Table → Type 0
IsOpened o old new =
    (configured final : Table) × IsConfigured old configured × IsFinalized (object_layout o) configured final
    × (new ≡ with_hidden_static (hidden_type o) final)

-- Functions of `.ksyms` get a placeholder in a table for a kernel. In a table for loaders they stay, except for a kernel
-- without DATASECs, for which no externs can stay.
abbrev pub takes_placeholder : TableReader → (BtfFeature → Bool) → Bool
takes_placeholder Kernel has = true
takes_placeholder Loaders has = not (has DataSec)

-- the table that is rewritten: the opened table, with the placeholder if it takes one
abbrev pub begun_table : Bool → Table → Option KsymsIds → Table
begun_table true base ids = with_placeholder base ids
begun_table false base ids = base

-- the ids of `.ksyms` in it
abbrev pub begun_ids : Bool → Table → Option KsymsIds → Option KsymsIds
begun_ids true base ids = with_placeholder_id base ids
begun_ids false base ids = ids

-- why the placeholder does not fit
abbrev pub begun_fault : Bool → Table → Option KsymsIds → Option Refusal
begun_fault true base ids = placeholder_fault base ids
begun_fault false base ids = None

-- The table that is written: the rewritten table with the sizes that the DATASECs of the opened table have, where
-- `.ksyms` has the size that the rewrite gives it; and for loaders with the externs of the old table.
abbrev pub written_table : TableReader → Table → Table → Option KsymsIds → Table → Table
written_table reader old base ids new = for_reader reader old (with_old_sizes (with_ksyms_size base ids) new)

-- The bytes of a section represent a table, and `base` is this table opened. It gets a placeholder for functions of
-- `.ksyms` if it needs one, and `new` is the rewrite of the result, of which the written table is made.
pub record RewritesFinalized (o : Object) (bytes : List ℕ) (has : BtfFeature → Bool) (reader : TableReader)
    (old base new : Table) (answers : List FeatureAnswer) : Type 0 where
  pub ids : Option KsymsIds
  pub table : IsTable o.header.order bytes old
  pub opened : IsOpened o old base
  pub ksyms : FindsKsyms base None (Ok ids)
  pub fits : begun_fault (takes_placeholder reader has) base ids ≡ None
  pub rewritten : Rewritten FillSized (begun_table (takes_placeholder reader has) base ids)
      (begun_ids (takes_placeholder reader has) base ids) (object_layout o) (answers_of has) new
  pub answers_are : AreAnswers (kernel_target has)
      (Asked (pass_of FillSized (begun_table (takes_placeholder reader has) base ids)
      (begun_ids (takes_placeholder reader has) base ids) (object_layout o) answers))
      answers
  pub written : IsTable o.header.order (canon (written_table reader old base ids new))
      (strip (written_table reader old base ids new))

-- The bytes of a section represent no table, or the search for the ids of `.ksyms` in the opened table fails, or
-- the placeholder does not fit, or the rewrite is refused.
abbrev pub RefusesFinalized : Object → List ℕ → (BtfFeature → Bool) → TableReader → Refusal → Type 0
RefusesFinalized o bytes has reader refusal =
    IsRefusal o.header.order bytes refusal
    ⊎ ((old base : Table) × IsTable o.header.order bytes old × IsOpened o old base
    × (FindsKsyms base None (Err refusal) ⊎ ((ids : Option KsymsIds) × FindsKsyms base None (Ok ids)
    × ((begun_fault (takes_placeholder reader has) base ids ≡ Some refusal)
    ⊎ ((begun_fault (takes_placeholder reader has) base ids ≡ None)
    × IsRefused FillSized (begun_table (takes_placeholder reader has) base ids)
    (begun_ids (takes_placeholder reader has) base ids) (object_layout o) (answers_of has) refusal)))))

-- The file is the object with its table finalized and rewritten for a kernel with these features, as the reader gets
-- it: the written form of the new table is in the section of the old one.
pub record IsSanitizedFinalized (bytes : List ℕ) (has : BtfFeature → Bool) (reader : TableReader) (file : List ℕ)
    (answers : List FeatureAnswer) : Type 0 where
  pub object : Object
  pub index : ℕ
  pub header : SectionHeader
  pub section : HasSection bytes table_name object index header
  pub old : Table
  pub base : Table
  pub new : Table
  pub table : RewritesFinalized object (section_bytes object header) has reader old base new answers
  pub replaced : (new_object : Object) × IsObject file new_object
      × ReplacesSection object index header (canon (written_table reader old base table.ids new)) new_object
