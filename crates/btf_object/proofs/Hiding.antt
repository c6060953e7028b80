-- Hidden functions and variables in a table, one id after another.
use Rattle.std.proofs.Common.{◌≡◌, ℕ, ◌+◌, ◌<◌, ◌≤◌, Bool, true, false, List, length, get_or, set, map, Option, None, Some, refl, sym, ap, subst, ◌∙◌, ⊎_elim, arith}
use Rattle.std.specs.Prelude.{slice_get, if◌then◌else◌}
use Rattle.std.specs.Option.{unwrap_or}
use Rattle.std.specs.Str.{is_utf8, IsUtf8}
use Rattle.std.proofs.lemmas.Str.{IsUtf8-from_is_utf8, is_utf8-from_IsUtf8}
use Rattle.std.proofs.Math.Path.{fun_ext}
use Rattle.std.proofs.lemmas.Bool.{cases_lt}
use Rattle.std.proofs.lemmas.List.{length-set, length-map, get_or-map, set-get_or, ext_get_or}
use Rattle.std.proofs.lemmas.Option.{unwrap_or-slice_get}
use Rattle.btf_model.specs.Record.{Kind, Record, unknown}
use Rattle.btf_model.specs.Table.{Table, Fallback}
use Rattle.btf_records.specs.BtfType.{record_of, fallback_of, type_kind}
use Rattle.btf_records.specs.declared.btf_type.BtfType.{BtfType}
use Rattle.btf_rewrite_model.specs.Made.{record_at}
use Rattle.btf_table.specs.Btf.{IsType}
use Rattle.btf_elf_model.specs.Object.{Object}
use Rattle.btf_rewrite_model.specs.Pass.{Layout}
use Rattle.btf_object_model.specs.Finalized.{IsFinalized}
use Rattle.btf_object_model.specs.Hidden.{global_type, hidden_type, is_same_type, made_static, static_if_hidden, type_of_name, with_hidden_static}
use Rattle.btf_object_model.specs.Kconfig.{extern_name, with_record, IsConfigured}
use Rattle.btf_object_model.specs.Layout.{object_layout}
use Rattle.btf_object_model.specs.SanitizedFinalized.{IsOpened}
use Rattle.btf_object.specs.Hidden.{IsMadeStatic, IsNeither, HidesAt}
use Rattle.btf_object.proofs.Externs.{at_id}
use Rattle.btf_object.proofs.Finalizing.{at_set, at_other}
use Rattle.btf_object.proofs.Globals.{replaced}

-- ---- the name of a type

-- a name that is UTF-8
pub text_known : (hidden : List ℕ → Option ℕ) (found : Option (List ℕ)) (name : List ℕ) → found ≡ Some name → IsUtf8 name → hidden name ≡ type_of_name hidden found
text_known hidden found name is text =
    sym (ap (type_of_name hidden) is ∙ ap (λ (b : Bool). if b then hidden name else None) (is_utf8-from_IsUtf8 name text))

-- a name that is not UTF-8
pub no_text_known : (hidden : List ℕ → Option ℕ) (found : Option (List ℕ)) (name : List ℕ) → found ≡ Some name → ¬ (IsUtf8 name) → None ≡ type_of_name hidden found
no_text_known hidden found name is none =
    let no : is_utf8 name ≡ false = elim (is_utf8 name) as (λ (b : Bool). is_utf8 name ≡ b → b ≡ false) [ true ↦ λ utf8. absurd (none (IsUtf8-from_is_utf8 name utf8)) | false ↦ λ other. refl ] refl in
    sym (ap (type_of_name hidden) is ∙ ap (λ (b : Bool). if b then hidden name else None) no)

-- ---- one type

module _ (hidden : List ℕ → Option ℕ) (old : Table) (id : ℕ) where
  abbrev changed : Record → Record
  changed = static_if_hidden hidden old.strings

  -- nothing changes if the record does not
  pub unchanged : changed (record_at old id) ≡ record_at old id → HidesAt hidden id old old
  unchanged same =
      let records : set old.records id (changed (record_at old id)) ≡ old.records =
      ap (set old.records id) (same ∙ unwrap_or-slice_get old.records id unknown) ∙ set-get_or old.records id unknown in
      ap (λ (rs : List Record). record old { records = rs }) (sym records)

  module _ (b : BtfType) (at : IsType old id b) where
    here : record_at old id ≡ record_of b
    here = at_id old id (record_of b) at.record_is

    abbrev asked : Bool
    asked = is_same_type (global_type (Some (type_kind b)) (record_of b)) (type_of_name hidden (extern_name old.strings (record_of b).name))

    -- the record by the kind and the test of its type
    by_type : (t : Bool) → asked ≡ t → changed (record_at old id) ≡ (if t then made_static (Some (type_kind b)) (record_of b) else record_of b)
    by_type t is =
        ap changed here
        ∙ ap (λ (k : Option Kind). if is_same_type (global_type k (record_of b)) (type_of_name hidden (extern_name old.strings (record_of b).name)) then made_static k (record_of b) else record_of b) at.kind_is
        ∙ ap (λ (t : Bool). if t then made_static (Some (type_kind b)) (record_of b) else record_of b) is

    -- the type is not hidden
    pub not_hidden : asked ≡ false → HidesAt hidden id old old
    not_hidden is = unchanged (by_type false is ∙ sym here)

    -- the type is hidden, but neither a FUNC nor a VAR
    pub neither_hidden : asked ≡ true → IsNeither (type_kind b) → HidesAt hidden id old old
    neither_hidden is neither = unchanged (by_type true is ∙ neither (record_of b) ∙ sym here)

    -- the type is hidden
    pub one_hidden : (new : Table) (made : BtfType) → asked ≡ true → IsMadeStatic b made
        → new ≡ record old { records = set old.records id (record_of made); fallbacks = set old.fallbacks id (fallback_of made) } → HidesAt hidden id old new
    one_hidden new made is static made_of =
        let fallback : slice_get old.fallbacks id ≡ Some None = at.fallback_is ∙ ap (λ (f : Option Fallback). Some f) static.old_fallback in
        let put : new ≡ record old { records = set old.records id (record_of made); fallbacks = set old.fallbacks id None } =
        made_of ∙ ap (λ (f : Option Fallback). record old { records = set old.records id (record_of made); fallbacks = set old.fallbacks id f }) static.fallback in
        replaced old new id (record_of made) fallback put ∙ ap (with_record old id) (static.record_is ∙ sym (by_type true is))

-- ---- all types

-- The types below an id are Static if they are hidden, and the others are unchanged.
pub record ArePartlyHidden (hidden : List ℕ → Option ℕ) (old now : Table) (id : ℕ) : Type 0 where
  pub others : now ≡ record old { records = now.records }
  pub count : length now.records ≡ length old.records
  pub done : (k : ℕ) → k < id → record_at now k ≡ static_if_hidden hidden old.strings (record_at old k)
  pub rest : (k : ℕ) → id ≤ k → record_at now k ≡ record_at old k

pub none_hidden : (hidden : List ℕ → Option ℕ) (t : Table) → ArePartlyHidden hidden t t 0
none_hidden hidden t = record { others = refl; count = refl; done = λ k lt. absurd (omega (arith, lt)); rest = λ k le. refl }

pub one_more_hidden : (hidden : List ℕ → Option ℕ) (old now new : Table) (id : ℕ) → id < length old.records → HidesAt hidden id now new → ArePartlyHidden hidden old now id → ArePartlyHidden hidden old new (id + 1)
one_more_hidden hidden old now new id lt made p =
    let f : Record → Record = static_if_hidden hidden now.strings in
    let records : new.records ≡ set now.records id (f (record_at now id)) = ap (λ (t : Table). t.records) made in
    let strings : now.strings ≡ old.strings = ap (λ (t : Table). t.strings) p.others in
    let here : record_at new id ≡ static_if_hidden hidden old.strings (record_at old id) =
    ap (λ (rs : List Record). unwrap_or (slice_get rs id) unknown) records ∙ at_set now.records id (f (record_at now id)) (omega (arith, lt, p.count))
    ∙ ap (λ (ss : List ℕ). static_if_hidden hidden ss (record_at now id)) strings ∙ ap (static_if_hidden hidden old.strings) (p.rest id (omega arith)) in
    let elsewhere : (k : ℕ) → (k ≡ id → ⊥) → record_at new k ≡ record_at now k =
    λ k other. ap (λ (rs : List Record). unwrap_or (slice_get rs k) unknown) records ∙ at_other now.records id k (f (record_at now id)) other in
    record {
      others = made ∙ ap (λ (t : Table). record t { records = set now.records id (f (record_at now id)) }) p.others ∙ ap (λ (rs : List Record). record old { records = rs }) (sym records);
      count = ap (λ (rs : List Record). length rs) records ∙ length-set now.records id (f (record_at now id)) ∙ p.count;
      done = λ k low. ⊎_elim
          (λ (below : k < id). elsewhere k (λ is. omega (arith, is, below)) ∙ p.done k below)
          (λ (from : id ≤ k). let is : id ≡ k = omega (arith, from, low) in
          subst (λ (j : ℕ). record_at new j ≡ static_if_hidden hidden old.strings (record_at old j)) is here)
          (cases_lt k id);
      rest = λ k le. elsewhere k (λ is. omega (arith, is, le)) ∙ p.rest k (omega (arith, le));
    }

pub all_hidden : (hidden : List ℕ → Option ℕ) (old new : Table) (id : ℕ) → length old.records ≤ id → ArePartlyHidden hidden old new id → new ≡ with_hidden_static hidden old
all_hidden hidden old new id end p =
    let f : Record → Record = static_if_hidden hidden old.strings in
    let same : (k : ℕ) → k < length new.records → get_or new.records k unknown ≡ get_or (map f old.records) k unknown =
    λ k lt.
    let within : k < length old.records = omega (arith, lt, p.count) in
    sym (unwrap_or-slice_get new.records k unknown) ∙ p.done k (omega (arith, within, end)) ∙ ap f (unwrap_or-slice_get old.records k unknown) ∙ sym (get_or-map f old.records k unknown unknown within) in
    p.others ∙ ap (λ (rs : List Record). record old { records = rs }) (ext_get_or unknown new.records (map f old.records) (p.count ∙ sym (length-map old.records f)) same)

-- the symbols of a map as those of an object
pub hidden_alike : (map_of other : List ℕ → Option ℕ) (t new : Table) → ((name : List ℕ) → map_of name ≡ other name) → new ≡ with_hidden_static map_of t → new ≡ with_hidden_static other t
hidden_alike map_of other t new same is = is ∙ ap (λ (f : List ℕ → Option ℕ). with_hidden_static f t) (fun_ext same)

-- the table of an opened object, by the three steps that make it
pub opened : (o : Object) (layout : Layout) (old configured final new : Table) → layout ≡ object_layout o → IsConfigured old configured → IsFinalized layout configured final → new ≡ with_hidden_static (hidden_type o) final → IsOpened o old new
opened o layout old configured final new same is_configured is_final is =
    (configured, final, is_configured, subst (λ (l : Layout). IsFinalized l configured final) same is_final, is)
