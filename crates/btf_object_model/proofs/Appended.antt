-- The strings of a rewritten table are those of the old one, with more after them.
use Rattle.std.proofs.Common.{◌≡◌, ℕ, List, [], ◌∷◌, ◌++◌, Option, None, Some, Ok, sym, ap, ◌∙◌, append_assoc}
use Rattle.std.specs.List.{flat_map}
use Rattle.std.proofs.lemmas.List.{append-nil}
use Rattle.btf_model.specs.Table.{Table}
use Rattle.btf_model.specs.Text.{text_at}
use Rattle.btf_model.proofs.Texts.{text_stays}
use Rattle.btf_rewrite_model.specs.declared.feature.FeatureAnswer.{FeatureAnswer}
use Rattle.btf_rewrite_model.specs.declared.feature.FillPolicy.{FillPolicy}
use Rattle.btf_rewrite_model.specs.declared.ksyms_ids.KsymsIds.{KsymsIds}
use Rattle.btf_rewrite_model.specs.Ksyms.{appends_int, each_stepped, int_text}
use Rattle.btf_rewrite_model.specs.Pass.{Layout, texts_below}
use Rattle.btf_rewrite_model.specs.Rewritten.{begun, with_zero_byte, old_count, pass_of, Rewritten}
use Rattle.btf_rewrite_model.proofs.Kept.{by_table}

begun_strings : (t : Table) (ids : Option KsymsIds) → (more : List ℕ) × ((begun t ids).strings ≡ t.strings ++ more)
begun_strings t None = ([], sym (append-nil t.strings))
begun_strings t (Some ids) =
    by_table (λ u. (more : List ℕ) × (u.strings ≡ t.strings ++ more)) (appends_int t ids.placeholder_id) _ (each_stepped t ids)
    (int_text ++ 0 ∷ [], append_assoc t.strings int_text (0 ∷ []))
    ([], sym (append-nil t.strings))

pub texts_stay : (policy : FillPolicy) (old new : Table) (ids : Option KsymsIds) (layout : Layout) (answers : List FeatureAnswer) → Rewritten policy old ids layout answers new
    → (offset : ℕ) (text : List ℕ) → text_at old.strings offset ≡ Ok text → text_at new.strings offset ≡ Ok text
texts_stay policy old new ids layout answers is offset text reads =
    let first = begun_strings old ids in
    let added : List ℕ = flat_map with_zero_byte (texts_below (pass_of policy old ids layout answers) (old_count (pass_of policy old ids layout answers))) in
    let strings_are : new.strings ≡ (old.strings ++ first.0) ++ added = ap (λ (t : Table). t.strings) is.table ∙ ap (λ xs. xs ++ added) first.1 in
    ap (λ xs. text_at xs offset) strings_are ∙ text_stays (old.strings ++ first.0) added offset text (text_stays old.strings first.0 offset text reads)
