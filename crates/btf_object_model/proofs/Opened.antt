-- When a loader opens an object, only records of its table change; and so when its externs are put back.
use Rattle.std.proofs.Common.{◌≡◌, ℕ, zero, suc, length, ◌&&◌, ◌^◌, Bool, true, false, List, [], ◌∷◌, map, Option, None, Some, Result, Ok, Err, refl, sym, ap, ◌∙◌}
use Rattle.std.specs.Prelude.{◌==◌, nat_lt, if◌then◌else◌}
use Rattle.btf_model.specs.Record.{Record}
use Rattle.btf_model.specs.Refusal.{Refusal}
use Rattle.btf_model.specs.Table.{Table}
use Rattle.btf_rewrite_model.specs.Made.{record_at, kind_at}
use Rattle.btf_rewrite_model.proofs.Kept.{by_table}
use Rattle.btf_object_model.specs.Kconfig.{Extern, with_record, with_globals, made_global, total, with_externs, LaysOut, ConfiguresIf, ConfiguresAt}
use Rattle.btf_elf_model.specs.Object.{Object}
use Rattle.btf_object_model.specs.Hidden.{hidden_type, with_hidden_static}
use Rattle.btf_object_model.specs.SanitizedFinalized.{IsOpened}
use Rattle.btf_object_model.specs.Externs.{is_still_extern, with_old_extern, with_old_externs, has_externs, is_still_section, entry_types, with_old_section, with_old_sections, for_reader}
use Rattle.btf_object_model.specs.declared.reader.TableReader.{TableReader}
use Rattle.btf_object_model.specs.declared.reader.TableReader.TheVariants.{Kernel, Loaders}

-- only records differ
abbrev pub OnlyRecords : Table → Table → Type 0
OnlyRecords old u = u ≡ record old { records = u.records }

same_table : (old u : Table) → u ≡ old → OnlyRecords old u
same_table old u is = is ∙ ap (λ (rs : List Record). record old { records = rs }) (ap (λ (t : Table). t.records) (sym is))

globals_others : (ids : List ℕ) (t : Table) → OnlyRecords t (with_globals ids t)
globals_others [] t = refl
globals_others (id ∷ ids) t = globals_others ids (with_record t id (made_global (kind_at t id) (record_at t id)))

laid_out_others : (t : Table) (id : ℕ) (xs : Option (List Extern)) (u : Table) → LaysOut t id xs u → OnlyRecords t u
laid_out_others t id (Some xs) u l =
    let new : List Extern → Table = with_externs t id in
    let begun : OnlyRecords t (with_globals (map (λ (x : Extern). x.entry.type) l.sorted) t) = globals_others (map (λ (x : Extern). x.entry.type) l.sorted) t in
    let laid : OnlyRecords t (new l.sorted) = ap (λ (v : Table). record v { records = (new l.sorted).records }) begun in
    let made : Table = if nat_lt (total l.sorted) (2 ^ 32) then new l.sorted else t in
    let here : OnlyRecords t made = by_table (OnlyRecords t) (nat_lt (total l.sorted) (2 ^ 32)) (new l.sorted) t laid refl in
    l.table ∙ here ∙ ap (λ (v : Table). record t { records = v.records }) (sym l.table)
laid_out_others t id None u same = same_table t u same

configured_by_others : (b : Bool) (t : Table) (id : ℕ) (u : Table) → ConfiguresIf b t id u → OnlyRecords t u
configured_by_others true t id u z = laid_out_others t id z.0 u z.2
configured_by_others false t id u same = same_table t u same

configured_at_others : (t : Table) (found : Result ℕ Refusal) (u : Table) → ConfiguresAt t found u → OnlyRecords t u
configured_at_others t (Ok id) u z = configured_by_others ((record_at t id).third == 0) t id u z
configured_at_others t (Err refusal) u same = same_table t u same

after : (t u v : Table) → OnlyRecords t u → OnlyRecords u v → OnlyRecords t v
after t u v first second = second ∙ ap (λ (w : Table). record w { records = v.records }) first

hidden_others : (t u : Table) (hidden : List ℕ → Option ℕ) → u ≡ with_hidden_static hidden t → OnlyRecords t u
hidden_others t u hidden is = is ∙ ap (λ (rs : List Record). record t { records = rs }) (ap (λ (v : Table). v.records) (sym is))

pub opened_others : (o : Object) (old u : Table) → IsOpened o old u → OnlyRecords old u
opened_others o old u z =
    let configured : Table = z.0 in
    let final : Table = z.1 in
    let done : OnlyRecords old final = z.3.others ∙ ap (λ (t : Table). record t { records = final.records }) (configured_at_others old z.2.0 configured z.2.2) in
    after old final u done (hidden_others final u (hidden_type o) z.4)

-- ---- the externs of the old table

old_extern_others : (old : Table) (id : ℕ) (t : Table) → OnlyRecords t (with_old_extern old id t)
old_extern_others old id t = by_table (OnlyRecords t) (is_still_extern (kind_at old id) (kind_at t id)) (with_record t id (record_at old id)) t refl refl

old_externs_others : (old : Table) (ids : List ℕ) (t : Table) → OnlyRecords t (with_old_externs old ids t)
old_externs_others old [] t = refl
old_externs_others old (id ∷ ids) t =
    after t (with_old_extern old id t) (with_old_externs old ids (with_old_extern old id t)) (old_extern_others old id t) (old_externs_others old ids (with_old_extern old id t))

old_section_others : (old : Table) (id : ℕ) (t : Table) → OnlyRecords t (with_old_section old id t)
old_section_others old id t =
    let section : Record = record_at old id in
    let put : Table = with_record t id section in
    by_table (OnlyRecords t) (has_externs old section && is_still_section section (record_at t id)) (with_old_externs old (entry_types section) put) t
    (after t put (with_old_externs old (entry_types section) put) refl (old_externs_others old (entry_types section) put))
    refl

old_sections_others : (old : Table) (n : ℕ) (t : Table) → OnlyRecords t (with_old_sections old n t)
old_sections_others old zero t = refl
old_sections_others old (suc id) t =
    after t (with_old_sections old id t) (with_old_section old id (with_old_sections old id t)) (old_sections_others old id t) (old_section_others old id (with_old_sections old id t))

pub reader_others : (reader : TableReader) (old t : Table) → OnlyRecords t (for_reader reader old t)
reader_others Kernel old t = refl
reader_others Loaders old t = old_sections_others old (length old.records) t
