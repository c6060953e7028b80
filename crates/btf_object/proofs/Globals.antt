-- `.kconfig` with its variables in a table.
use Rattle.std.proofs.Common.{◌≡◌, ◌≢◌, ℕ, ◌+◌, ◌*◌, ◌<◌, ◌≤◌, ◌^◌, Bool, true, false, List, [], ◌∷◌, ◌++◌, length, get_or, set, take, map, Option, None, Some, Ok, Err, refl, sym, ap, subst, ◌∙◌, inl, inr, ⊎_elim, arith}
use Rattle.std.specs.Prelude.{◌⊎◌, ◌==◌, nat_lt, slice_get, if◌then◌else◌}
use Rattle.std.specs.List.{flat_map}
use Rattle.std.proofs.lemmas.Bool.{cases_eq, cases_Bool, false≢true}
use Rattle.std.proofs.lemmas.Bool.Decides.{nat_tests}
use Rattle.std.proofs.lemmas.List.{map-append, take_more, take_all, set-get_or, get_or-set_same, get_or-set_other, length-set}
use Rattle.std.proofs.lemmas.Option.{slice_get_within, slice_get-get_or, get_or_from_slice_get, unwrap_or-slice_get}
use Rattle.btf_model.specs.Record as kinds
use Rattle.btf_model.specs.Record.{Kind, Record, unknown, kind_of, vlen}
use Rattle.btf_model.specs.Table.{Table, Fallback}
use Rattle.btf_model.specs.Text.{FindsName}
use Rattle.btf_rewrite_model.specs.Made.{Entry, section_entries, record_at, kind_at, made_data_sec}
use Rattle.btf_rewrite_model.specs.Made as made
use Rattle.btf_rewrite_model.proofs.Granted.{kind_made, vlen_small}
use Rattle.btf_plain.specs.Items.{code_entry_words}
use Rattle.btf_plain.specs.declared.items.DataSecEntry.{DataSecEntry}
use Rattle.btf_table.specs.Btf.{HasShapeOf}
use Rattle.btf_table.specs.KsymsStep.{model_entry}
use Rattle.btf_table.proofs.KsymsEntries.{at, zero_entry}
use Rattle.btf_object_model.specs.Finalized.{kconfig_name, has_data_sec_kind}
use Rattle.btf_object_model.specs.Kconfig as model
use Rattle.btf_object_model.specs.Kconfig.{total, externs_laid_out, with_record, with_globals, with_externs, made_global, ConfiguresIf, IsConfigured}
use Rattle.btf_object.specs.Kconfig.{has_var_kind, IsVariable, IsDataSec, IsKconfigSection, StaysAsItIs, LaysOutSection, MakesGlobal, FindsKconfig, HasDataSecOf, PutsSection}
use Rattle.btf_object.proofs.Externs.{at_id, kind_at_id}
use Rattle.btf_object.proofs.FinalSections.{all_entries}

set_here : {X : Type 0} (xs : List X) (id : ℕ) (x : X) → slice_get xs id ≡ Some x → set xs id x ≡ xs
set_here xs id x is = ap (set xs id) (sym (get_or_from_slice_get xs id x x is)) ∙ set-get_or xs id x

-- a replaced record with the same fallback
pub replaced : (old new : Table) (id : ℕ) (r : Record) → slice_get old.fallbacks id ≡ Some None → new ≡ record old { records = set old.records id r; fallbacks = set old.fallbacks id None } → new ≡ with_record old id r
replaced old new id r at is = is ∙ ap (λ (fs : List (Option Fallback)). record old { records = set old.records id r; fallbacks = fs }) (set_here old.fallbacks id None at)

-- ---- one variable

same_made : (k : Option Kind) (r : Record) → has_var_kind k ≡ false → made_global k r ≡ r
same_made k r other = elim k as (λ (k : Option Kind). has_var_kind k ≡ false → made_global k r ≡ r) [ Some kinds.Var ↦ λ is. absurd (false≢true (sym is)) | _ ↦ λ is. refl ] other

-- a type that is no variable
pub not_global : (t : Table) (id : ℕ) → has_var_kind (kind_at t id) ≡ false → MakesGlobal id t t
not_global t id other =
    let same : set t.records id (made_global (kind_at t id) (record_at t id)) ≡ t.records =
    ap (set t.records id) (same_made (kind_at t id) (record_at t id) other ∙ unwrap_or-slice_get t.records id unknown) ∙ set-get_or t.records id unknown in
    ap (λ (rs : List Record). record t { records = rs }) (sym same)

-- a variable
pub one_global : (old new : Table) (id : ℕ) (r g : Record) → IsVariable old id r → g ≡ record r { tail = 1 ∷ [] } → new ≡ record old { records = set old.records id g; fallbacks = set old.fallbacks id None } → MakesGlobal id old new
one_global old new id r g is g_is made_of =
    let made : new ≡ record old { records = set old.records id (record r { tail = 1 ∷ [] }); fallbacks = set old.fallbacks id None } =
    made_of ∙ ap (λ (x : Record). record old { records = set old.records id x; fallbacks = set old.fallbacks id None }) g_is in
    let global : made_global (kind_at old id) (record_at old id) ≡ record r { tail = 1 ∷ [] } =
    ap (λ (k : Option Kind). made_global k (record_at old id)) (kind_at_id old id r kinds.Var is.here is.kind) ∙ ap (λ (x : Record). record x { tail = 1 ∷ [] }) (at_id old id r is.here) in
    replaced old new id (record r { tail = 1 ∷ [] }) is.fallback made ∙ ap (with_record old id) (sym global)

-- the Global variable that is made of a VAR
pub global_made : (var : Record) (name third info : ℕ) (new global : Record) → name ≡ var.name → third ≡ var.third → info ≡ var.info → new ≡ record { name = name; info = 14 * 2 ^ 24; third = third; tail = 1 ∷ [] } → global ≡ record new { info = info }
    → global ≡ record var { tail = 1 ∷ [] }
global_made var name third info new global name_is third_is info_is new_is is =
    is ∙ ap (λ (r : Record). record r { info = info }) new_is ∙ ap (λ (n : ℕ). record { name = n; info = info; third = third; tail = 1 ∷ [] }) name_is
    ∙ ap (λ (n : ℕ). record { name = var.name; info = n; third = third; tail = 1 ∷ [] }) info_is ∙ ap (λ (n : ℕ). record { name = var.name; info = var.info; third = n; tail = 1 ∷ [] }) third_is

-- ---- several variables

abbrev stepped : Table → ℕ → Table
stepped t id = with_record t id (made_global (kind_at t id) (record_at t id))

globals-append : (ids : List ℕ) (id : ℕ) (t : Table) → with_globals (ids ++ id ∷ []) t ≡ stepped (with_globals ids t) id
globals-append [] id t = refl
globals-append (i ∷ ids) id t = globals-append ids id (stepped t i)

abbrev type_of : DataSecEntry → ℕ
type_of e = e.btf_type

-- The variables before a place are Global.
abbrev pub AreGlobalBefore : Table → List DataSecEntry → ℕ → Table → Type 0
AreGlobalBefore old es i now = now ≡ with_globals (map (λ (e : DataSecEntry). e.btf_type) (take i es)) old

pub one_more_global : (old now new : Table) (es : List DataSecEntry) (i : ℕ) → i < length es → AreGlobalBefore old es i now → MakesGlobal (at es i).btf_type now new → AreGlobalBefore old es (i + 1) new
one_more_global old now new es i lt are is =
    let ids : List ℕ = map type_of (take i es) in
    let more : map type_of (take (i + 1) es) ≡ ids ++ (at es i).btf_type ∷ [] = ap (map type_of) (take_more es i zero_entry lt) ∙ map-append type_of (take i es) (at es i ∷ []) in
    is ∙ ap (λ (t : Table). stepped t (at es i).btf_type) are ∙ sym (ap (λ (xs : List ℕ). with_globals xs old) more ∙ globals-append ids (at es i).btf_type old)

globals_fallbacks : (ids : List ℕ) (t : Table) → (with_globals ids t).fallbacks ≡ t.fallbacks
globals_fallbacks [] t = refl
globals_fallbacks (i ∷ ids) t = globals_fallbacks ids (stepped t i)

-- a DATASEC is unchanged
step_keeps : (t : Table) (i id : ℕ) (r : Record) → slice_get t.records id ≡ Some r → kind_of r.info ≡ Some kinds.DataSec → slice_get (stepped t i).records id ≡ Some r
step_keeps t i id r here kind =
    let rs : List Record = t.records in
    let g : Record = made_global (kind_at t i) (record_at t i) in
    let lt : id < length rs = slice_get_within rs id r here in
    let len : length (set rs i g) ≡ length rs = length-set rs i g in
    let there : slice_get (set rs i g) id ≡ Some (get_or (set rs i g) id unknown) = slice_get-get_or (set rs i g) id unknown (omega (arith, lt, len)) in
    let same : get_or (set rs i g) id unknown ≡ r =
    ⊎_elim
    (λ (is : id ≡ i).
    let own : made_global (kind_at t id) (record_at t id) ≡ r = ap (λ (k : Option Kind). made_global k (record_at t id)) (kind_at_id t id r kinds.DataSec here kind) ∙ at_id t id r here in
    subst (λ (j : ℕ). get_or (set rs j (made_global (kind_at t j) (record_at t j))) id unknown ≡ r) is (get_or-set_same rs id (made_global (kind_at t id) (record_at t id)) unknown lt ∙ own))
    (λ (other : id ≢ i). get_or-set_other rs i id g unknown other ∙ get_or_from_slice_get rs id r unknown here)
    (cases_eq id i) in
    there ∙ ap (λ (x : Record). Some x) same

globals_keep : (ids : List ℕ) (t : Table) (id : ℕ) (r : Record) → slice_get t.records id ≡ Some r → kind_of r.info ≡ Some kinds.DataSec → slice_get (with_globals ids t).records id ≡ Some r
globals_keep [] t id r here kind = here
globals_keep (i ∷ ids) t id r here kind = globals_keep ids (stepped t i) id r (step_keeps t i id r here kind) kind

-- ---- the section in the table

pub has_shape : (old now : Table) (id : ℕ) (section : Record) (es : List DataSecEntry) (i : ℕ) → HasDataSecOf old id section → AreGlobalBefore old es i now → HasShapeOf now id section
has_shape old now id section es i has are = subst (λ (t : Table). HasShapeOf t id section) (sym are) (record {
  old = has.0;
  here = globals_keep (map type_of (take i es)) old id has.0 has.1.here has.1.kind;
  kind = has.2 ∙ sym has.1.kind;
  len = has.3;
})

pub types_of : (es : List DataSecEntry) → map (λ (e : Entry). e.type) (map model_entry es) ≡ map type_of es
types_of [] = refl
types_of (e ∷ es) = ap (λ (xs : List ℕ). e.btf_type ∷ xs) (types_of es)

pub puts : (old now new : Table) (id : ℕ) (section : Record) (es : List DataSecEntry) (i : ℕ) → HasDataSecOf old id section → section.tail ≡ flat_map code_entry_words es → length es ≤ i → AreGlobalBefore old es i now
    → new ≡ record now { records = set now.records id section; fallbacks = set now.fallbacks id None } → PutsSection id section old new
puts old now new id section es i has words end are made =
    let ids : List ℕ = map type_of (take i es) in
    let fallback : slice_get now.fallbacks id ≡ Some None = ap (λ (t : Table). slice_get t.fallbacks id) are ∙ ap (λ (fs : List (Option Fallback)). slice_get fs id) (globals_fallbacks ids old) ∙ has.1.fallback in
    let ids_are : ids ≡ map (λ (e : Entry). e.type) (section_entries section.tail) = ap (map type_of) (take_all i es end) ∙ sym (ap (map (λ (e : Entry). e.type)) (all_entries section.tail es words) ∙ types_of es) in
    replaced now new id section fallback made ∙ ap (λ (t : Table). with_record t id section) are ∙ ap (λ (xs : List ℕ). with_record (with_globals xs old) id section) ids_are

-- ---- the whole step

laid_types : (from : ℕ) (xs : List model.Extern) → map (λ (e : Entry). e.type) (externs_laid_out from xs) ≡ map (λ (x : model.Extern). x.entry.type) xs
laid_types from [] = refl
laid_types from (x ∷ xs) = ap (λ (ids : List ℕ). x.entry.type ∷ ids) (laid_types (from + x.value.size) xs)

entries_again : (es : List Entry) → section_entries (flat_map made.entry_words es) ≡ es
entries_again [] = refl
entries_again (e ∷ es) = ap (λ (rest : List Entry). e ∷ rest) (entries_again es)

below : (n m : ℕ) → n < m → nat_lt n m ≡ true
below n m lt = grind (arith, nat_tests, lt)

not_below : (n m : ℕ) → m ≤ n → nat_lt n m ≡ false
not_below n m le = grind (arith, nat_tests, le)

is_zero : (n : ℕ) → n ≡ 0 → (n == 0) ≡ true
is_zero n is = ap (λ (k : ℕ). k == 0) is

zero_test : (n : ℕ) → (n == 0) ≡ true → n ≡ 0
zero_test n h = grind (arith, nat_tests, h)

not_zero : (n : ℕ) → n ≢ 0 → (n == 0) ≡ false
not_zero n not = elim (cases_Bool (n == 0)) [ inl is ↦ absurd (not (zero_test n is)) | inr is ↦ is ]

module _ (old : Table) (id : ℕ) (r : Record) (finds : FindsName old.strings old.records kinds.DataSec kconfig_name (Ok id)) (is : IsDataSec old id r) where
  record_is : record_at old id ≡ r
  record_is = at_id old id r is.here

  configured_by : (new : Table) (b : Bool) → (r.third == 0) ≡ b → ConfiguresIf b old id new → IsConfigured old new
  configured_by new b size z = (
    Ok id,
    finds,
    subst (λ (c : Bool). ConfiguresIf c old id new) (sym (ap (λ (x : Record). x.third == 0) record_is ∙ size)) z,
  )

  pub configures : (section : Record) (new : Table) → IsKconfigSection old r section → PutsSection id section old new → IsConfigured old new
  configures section new s put =
      let types_are : map (λ (e : Entry). e.type) (section_entries section.tail) ≡ map (λ (x : model.Extern). x.entry.type) s.sorted =
      ap (λ (x : Record). map (λ (e : Entry). e.type) (section_entries x.tail)) s.made ∙ ap (map (λ (e : Entry). e.type)) (entries_again (externs_laid_out 0 s.sorted)) ∙ laid_types 0 s.sorted in
      let table_is : new ≡ with_externs old id s.sorted =
      put ∙ ap (λ (ids : List ℕ). with_record (with_globals ids old) id section) types_are
      ∙ ap (with_record (with_globals (map (λ (x : model.Extern). x.entry.type) s.sorted) old) id) (s.made ∙ ap (λ (x : Record). made_data_sec x.name (total s.sorted) (vlen x.info) (externs_laid_out 0 s.sorted)) (sym record_is)) in
      let chosen : new ≡ (if nat_lt (total s.sorted) (2 ^ 32) then with_externs old id s.sorted else old) =
      table_is ∙ sym (ap (λ (b : Bool). if b then with_externs old id s.sorted else old) (below (total s.sorted) (2 ^ 32) s.fits)) in
      configured_by new true (is_zero r.third s.empty) (
        Some s.externs.externs,
        subst (λ (x : Record). model.FindsExterns old (section_entries x.tail) (Some s.externs.externs)) (sym record_is) s.externs.known,
        record { sorted = s.sorted; rising = s.externs.rising; stable = s.externs.stable; table = chosen },
      )

  pub stays : (r.third ≡ 0) ⊎ (r.third ≢ 0) → StaysAsItIs old r → IsConfigured old old
  stays (inr sized) z = configured_by old false (not_zero r.third sized) refl
  stays (inl empty) (inl sized) = absurd (sized empty)
  stays (inl empty) (inr (inl none)) =
      configured_by old true (is_zero r.third empty) (None, subst (λ (x : Record). model.FindsExterns old (section_entries x.tail) None) (sym record_is) none, refl)
  stays (inl empty) (inr (inr large)) =
      let chosen : old ≡ (if nat_lt (total large.0) (2 ^ 32) then with_externs old id large.0 else old) =
      sym (ap (λ (b : Bool). if b then with_externs old id large.0 else old) (not_below (total large.0) (2 ^ 32) large.2)) in
      configured_by old true (is_zero r.third empty) (
        Some large.1.externs,
        subst (λ (x : Record). model.FindsExterns old (section_entries x.tail) (Some large.1.externs)) (sym record_is) large.1.known,
        record { sorted = large.0; rising = large.1.rising; stable = large.1.stable; table = chosen },
      )

-- the DATASEC is laid out, and is as long as before
pub has_data_sec : (t : Table) (id : ℕ) (r section : Record) → IsDataSec t id r → IsKconfigSection t r section → HasDataSecOf t id section
has_data_sec t id r section is s =
    (r, is, ap (λ (x : Record). kind_of x.info) s.made ∙ kind_made 15 (vlen r.info) kinds.DataSec (omega arith) (vlen_small r.info) refl, s.len)

-- the id that the search finds is a DATASEC's
pub no_data_sec : (t : Table) (id : ℕ) → FindsName t.strings t.records kinds.DataSec kconfig_name (Ok id) → has_data_sec_kind (kind_at t id) ≡ false → ⊥
no_data_sec t id z other = false≢true (sym other ∙ ap has_data_sec_kind (kind_at_id t id z.0 kinds.DataSec z.1.1 z.1.2))

-- the search for `.kconfig`
pub not_found : (t : Table) (o : Option ℕ) → o ≡ None → FindsKconfig t o → IsConfigured t t
not_found t o none finds =
    let z : FindsKconfig t None = subst (FindsKconfig t) none finds in
    (Err z.0, z.1, refl)

pub found_id : (t : Table) (o : Option ℕ) (id : ℕ) → o ≡ Some id → FindsKconfig t o → FindsName t.strings t.records kinds.DataSec kconfig_name (Ok id)
found_id t o id is finds = subst (FindsKconfig t) is finds

pub section_stays : (t : Table) (r : Record) (o : Option Record) → o ≡ None → LaysOutSection t r o → StaysAsItIs t r
section_stays t r o none made = subst (LaysOutSection t r) none made

pub section_is : (t : Table) (r : Record) (o : Option Record) (section : Record) → o ≡ Some section → LaysOutSection t r o → IsKconfigSection t r section
section_is t r o section is made = subst (LaysOutSection t r) is made
