-- The policy KeepSized does not change DATASECs that have a size.
use Rattle.std.proofs.Common.{◌≡◌, ◌≢◌, ℕ, ◌+◌, Bool, true, false, ◌&&◌, ◌||◌, not, List, [], ◌∷◌, ◌++◌, Option, Some, refl, ap, ◌∙◌}
use Rattle.std.specs.Prelude.{◌==◌, if◌then◌else◌}
use Rattle.std.specs.Option.{is_none, unwrap_or}
use Rattle.std.specs.List.{flat_map, sum_by}
use Rattle.std.proofs.lemmas.Bool.{ne_eqb}
use Rattle.std.proofs.lemmas.List.{append-nil}
use Rattle.btf_model.specs.Record as kinds
use Rattle.btf_model.specs.Record.{Kind, Record, vlen}
use Rattle.btf_rewrite_model.specs.declared.feature.BtfFeature.TheVariants as features
use Rattle.btf_rewrite_model.specs.Feature.{fills_sized, is_sized_and_empty, has_no_entries}
use Rattle.btf_rewrite_model.specs.declared.feature.FillPolicy.{FillPolicy}
use Rattle.btf_rewrite_model.specs.declared.feature.FillPolicy.TheVariants.{KeepSized}
use Rattle.btf_rewrite_model.specs.Made.{record_at, kind_at, section_entries, struct}
use Rattle.btf_rewrite_model.specs.Checks.{Check, first_fault, fits, record_len}
use Rattle.btf_rewrite_model.specs.Pass.{Pass, has, name_checks, fills_unsized, gets_filler, is_unsized, is_zero_or, section_size, least, added, type_len_at, unsized_asks_zero, data_sec_asks}
use Rattle.btf_rewrite_model.specs.Rule.{becomes, becomes_by, ruled_below, completed, sized, filled, new_name, entry_members}
use Rattle.btf_rewrite_model.specs.Fault.{fault, checks_by, completing_checks, filling_checks, filler_checks, growth_checks, member_checks}
use Rattle.btf_rewrite_model.specs.RewriteLaws.{SizedSectionsAreKept}

module _ (p : Pass) (id : ℕ) (keeps : p.policy ≡ KeepSized) where
  fills : gets_filler p id ≡ (has p features.DataSec && fills_unsized p id)
  fills = ap (λ (policy : FillPolicy). has p features.DataSec && ((fills_sized policy && is_sized_and_empty (kind_at p.table id) (record_at p.table id) && not (has p features.DataSecZero)) || fills_unsized p id)) keeps

  asks_as : (r : Record) → data_sec_asks p id r ≡ (if has p features.DataSec && unsized_asks_zero p id r then features.DataSec ∷ features.DataSecZero ∷ [] else features.DataSec ∷ [])
  asks_as r =
      ap (λ (policy : FillPolicy). if has p features.DataSec && ((fills_sized policy && not (r.third == 0) && has_no_entries r && is_none (first_fault (name_checks p id))) || unsized_asks_zero p id r)
      then features.DataSec ∷ features.DataSecZero ∷ [] else features.DataSec ∷ []) keeps

  module _ (kind : kind_at p.table id ≡ Some kinds.DataSec) (has_size : (record_at p.table id).third ≢ 0) (granted : has p features.DataSec ≡ true) where
    is_sized : ((record_at p.table id).third == 0) ≡ false
    is_sized = ne_eqb (record_at p.table id).third 0 has_size

    no_filler : gets_filler p id ≡ false
    no_filler =
        let r : Record = record_at p.table id in
        fills ∙ ap (λ (b : Bool). b && fills_unsized p id) granted
        ∙ ap (λ (k : Option Kind). is_unsized k r && has_no_entries r && is_zero_or (not (has p features.DataSecZero)) (section_size p id)) kind
        ∙ ap (λ (b : Bool). b && has_no_entries r && is_zero_or (not (has p features.DataSecZero)) (section_size p id)) is_sized

    stays : becomes p id ≡ record (record_at p.table id) { name = new_name p id (record_at p.table id) }
    stays =
        let r : Record = record_at p.table id in
        let lower : List Record = ruled_below p id in
        ap (λ (k : Option Kind). becomes_by p lower id k r) kind
        ∙ ap (λ (b : Bool). if b then (if r.third == 0 then completed p id (unwrap_or (section_size p id) 0) r else sized p id r) else struct (new_name p id r) (vlen r.info) (vlen r.info) (entry_members p lower id (section_entries r.tail))) granted
        ∙ ap (λ (b : Bool). if b then completed p id (unwrap_or (section_size p id) 0) r else sized p id r) is_sized
        ∙ ap (λ (b : Bool). if b then filled p id r.third r else record r { name = new_name p id r }) no_filler

    passes : fault p id ≡ first_fault (name_checks p id)
    passes =
        let r : Record = record_at p.table id in
        let none_tested : filling_checks p id ≡ [] =
        ap (λ (b : Bool). (if b && (least (gets_filler p) id == id) then filler_checks p id else []) ++ growth_checks p id) no_filler
        ∙ ap (λ (b : Bool). if b then fits (type_len_at p id + sum_by record_len (added p id)) 12 ∷ [] else []) no_filler in
        ap (λ (k : Option Kind). first_fault (checks_by p id k r)) kind
        ∙ ap (λ (b : Bool). first_fault (name_checks p id ++ (if b then (if r.third == 0 then completing_checks p id r else filling_checks p id) else flat_map (member_checks p) (section_entries r.tail)))) granted
        ∙ ap (λ (b : Bool). first_fault (name_checks p id ++ (if b then completing_checks p id r else filling_checks p id))) is_sized
        ∙ ap (λ (cs : List Check). first_fault (name_checks p id ++ cs)) none_tested ∙ ap first_fault (append-nil (name_checks p id))

pub sized_sections_are_kept : SizedSectionsAreKept
sized_sections_are_kept = record {
  needed = λ before r. refl;
  filled = fills;
  asked = λ p id r keeps. asks_as p id keeps r;
  kept = stays;
  tested = passes;
}
