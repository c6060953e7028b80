-- What the data structures of the step of `.ksyms` represent.
use Rattle.std.specs.Prelude.{◌≡◌, ℕ, ◌*◌, ◌==◌, ◌&&◌, Bool, false, if◌then◌else◌, List, length, map, take, Option, Some, None, Result, Ok, Err, IfOk}
use Rattle.std.specs.List.{list_any, flat_map, range_with_len}
use Rattle.std.specs.Option.{option_map, unwrap_or}
use Rattle.std.specs.Ordering.{nat_cmp}
use Rattle.std.specs.BTreeSet as ordered
use Rattle.std.specs.BTreeSet.{BTreeSet}
use Rattle.btf_model.specs.Record.{Kind, Record, kind_of}
use Rattle.btf_model.specs.Refusal.{Refusal}
use Rattle.btf_model.specs.Table.{Table}
use Rattle.btf_rewrite_model.specs.Checks.{first_fault}
use Rattle.btf_rewrite_model.specs.Made.{Entry, section_entries, entry_words, record_at, kind_at}
use Rattle.btf_rewrite_model.specs.Ksyms.{is_func, symbol_type, appends_int, ksyms_entry_checks, laid_out, ksyms_entries, stepped, ksyms_fault, ksyms_table}
use Rattle.btf_rewrite_model.specs.declared.ksyms_ids.KsymsIds.{KsymsIds}
use Rattle.btf_plain.specs.declared.items.DataSecEntry.{DataSecEntry}
use Rattle.btf_records.specs.BtfType.{record_of, fallback_of}
use Rattle.btf_records.specs.declared.btf_type.BtfType.{BtfType}
use Rattle.btf_table.specs.Changes.{put_all, each, AreInside, AreChangesOf, changed}
use Rattle.btf_table.specs.declared.table.changes.Changes.{Changes}
use Rattle.btf_table.specs.declared.sanitize.ksyms.Step.{Step}
use Rattle.btf_table.specs.declared.sanitize.ksyms.Target.{Target}
use Rattle.btf_table.specs.declared.sanitize.ksyms.Symbols.{Symbols}
use Rattle.btf_table.specs.Checked.{checked}
use Rattle.btf_rewrite_model.specs.Ksyms as model
use Rattle.btf_plain.specs.declared.error.BtfError.{BtfError}
use Rattle.btf_plain.specs.Error.{IsOrNoMemory}
use Rattle.btf_records.specs.declared.btf_type.BtfType.TheVariants as types

-- the ids of `.ksyms`, from two arguments of a call
abbrev pub ksyms_ids : ℕ → Option ℕ → KsymsIds
ksyms_ids datasec placeholder = record { datasec_id = datasec; placeholder_id = placeholder }

-- what the step changes symbols to
abbrev pub symbol_target : Table → Option ℕ → Target
symbol_target t placeholder = record {
  symbol_type = symbol_type t placeholder;
  appends_int = appends_int t placeholder;
  placeholder = option_map (λ (id : ℕ). record { id = id; name_offset = (record_at t id).name }) placeholder;
}

-- a DATASEC with a new layout of its entries
abbrev pub laid_out_anew : Table → Option ℕ → Record → Record
laid_out_anew t placeholder r = record r {
  third = 4 * length (section_entries r.tail);
  tail = flat_map entry_words (laid_out t placeholder 0 (section_entries r.tail));
}

-- an entry of the code as an entry of the definitions
abbrev pub model_entry : DataSecEntry → Entry
model_entry e = record { type = e.btf_type; offset = e.offset; size = e.size }

-- the prototype of a FUNC
abbrev pub prototype_of : Table → ℕ → Option ℕ
prototype_of t id = if is_func (kind_at t id) then Some (record_at t id).third else None

-- the prototype, if there is one, is this
abbrev pub is_this : Option ℕ → ℕ → Bool
is_this (Some prototype) id = prototype == id
is_this None id = false

-- the set has the id
abbrev pub has_id : BTreeSet ℕ → ℕ → Bool
has_id set id = ordered.contains nat_cmp set id

-- the sets have the ids of these entries, and the prototypes of the functions among them
pub record HasSymbols (t : Table) (es : List Entry) (symbols : Symbols) : Type 0 where
  pub ids : (id : ℕ) → has_id symbols.ids id ≡ list_any (λ (e : Entry). e.type == id) es
  pub prototypes : (id : ℕ) → has_id symbols.prototypes id ≡ list_any
      (λ (e : Entry). is_func (kind_at t e.type) && ((record_at t e.type).third == id)) es

-- The entries pass their tests, and the sets have their ids; or a test refuses an entry.
abbrev pub FindsSymbols : Table → Option ℕ → List Entry → Result Symbols Refusal → Type 0
FindsSymbols t placeholder es (Ok symbols) =
    (first_fault (flat_map (ksyms_entry_checks t placeholder) es) ≡ None) × HasSymbols t es symbols
FindsSymbols t placeholder es (Err refusal) = first_fault (flat_map (ksyms_entry_checks t placeholder) es) ≡ Some refusal

-- the step is for this table and these ids: it has the target of the symbols and their ids
pub record IsStep (t : Table) (ids : KsymsIds) (step : Step) : Type 0 where
  pub target : step.target ≡ symbol_target t ids.placeholder_id
  pub symbols : HasSymbols t (ksyms_entries t ids) step.symbols
  pub datasec : step.datasec_id ≡ ids.datasec_id

-- The tests of the step pass, and this is the step; or a test refuses it.
abbrev pub StepsWith : Table → KsymsIds → Result Step Refusal → Type 0
StepsWith t ids (Ok step) = (ksyms_fault t ids ≡ None) × IsStep t ids step
StepsWith t ids (Err refusal) = ksyms_fault t ids ≡ Some refusal

-- what the record of an id becomes in the step
abbrev pub step_record : Table → KsymsIds → ℕ → Record → Record
step_record t ids id r = stepped t ids id (kind_of r.info) r

-- the new type has the kind, the length and the fallback of the old type
pub record IsLike (old new : BtfType) : Type 0 where
  pub kind : kind_of (record_of new).info ≡ kind_of (record_of old).info
  pub length : length (record_of new).tail ≡ length (record_of old).tail
  pub fallback : fallback_of new ≡ fallback_of old

-- what the step does not change in a record: its kind and its length
abbrev pub kind_and_len : Record → Option Kind × ℕ
kind_and_len r = (kind_of r.info, length r.tail)

-- With these new types, each id below a count has the record that the step gives it, with an unchanged fallback and
-- shape.
pub record AreStepped (t : Table) (ids : KsymsIds) (count : ℕ) (cs : List (ℕ × BtfType)) : Type 0 where
  pub inside : AreInside count cs
  pub records : put_all (each record_of cs) (take count t.records) ≡ map (λ id. step_record t ids id (record_at t id))
      (range_with_len 0 count)
  pub fallbacks : put_all (each fallback_of cs) (take count t.fallbacks) ≡ take count t.fallbacks
  pub shapes : map kind_and_len (put_all (each record_of cs) (take count t.records)) ≡ map kind_and_len (take count t.records)

-- These are the new types of the whole table. This part never fails.
abbrev pub StepsAll : Table → KsymsIds → Result (List (ℕ × BtfType)) Refusal → Type 0
StepsAll t ids (Ok cs) = AreStepped t ids (length t.records) cs
StepsAll t ids (Err refusal) = ⊥

-- The tests of the step pass, and the changes make the table after the step; or a test refuses it.
abbrev pub MakesKsyms : Table → KsymsIds → Result Changes Refusal → Type 0
MakesKsyms t ids (Ok changes) = (ksyms_fault t ids ≡ None) × AreChangesOf t changes × (changed t changes ≡ ksyms_table t ids)
MakesKsyms t ids (Err refusal) = ksyms_fault t ids ≡ Some refusal

-- The prototype of an entry of `.ksyms` that is a FUNC, or why the entry is refused.
abbrev pub symbol_prototype_of : Entry → Table → ℕ → Option ℕ → Result (Option ℕ) Refusal
symbol_prototype_of e btf id placeholder_id =
    checked (first_fault (ksyms_entry_checks btf placeholder_id e)) (prototype_of btf id)

-- Whenever the target is that of a table and a placeholder, the result is the prototype whose parameters have the
-- names that `.ksyms` gives them.
abbrev pub HasSymbolNames : Target → Record → Result (Option BtfType) BtfError → Type 0
HasSymbolNames own proto result =
    (t : Table) (placeholder : Option ℕ) → own ≡ symbol_target t placeholder
    → IsOrNoMemory (λ new. record_of (unwrap_or new (types.FuncProto proto))) result
    (Ok (record proto { tail = model.with_names t placeholder proto.tail }))

-- The result has as many words as the DATASEC.
abbrev pub IsLaidOutLike : Target → Table → Record → Result Record BtfError → Type 0
IsLaidOutLike own btf data_sec result =
    (placeholder : Option ℕ) → own ≡ symbol_target btf placeholder
    → IfOk result (λ s. IsLike (types.DataSec data_sec) (types.DataSec s))

-- The result is the DATASEC of `.ksyms` with its entries one after another.
abbrev pub IsLaidOutAnew : Target → Table → Record → Result Record BtfError → Type 0
IsLaidOutAnew own btf data_sec result =
    (placeholder : Option ℕ) → own ≡ symbol_target btf placeholder
    → IsOrNoMemory (λ s. s) result (Ok (laid_out_anew btf placeholder data_sec))

-- The result is what the step makes of the type of an id.
abbrev pub MakesType : Step → Table → ℕ → BtfType → Result (Option BtfType) BtfError → Type 0
MakesType own btf id btf_type result =
    (ids : KsymsIds) → IsStep btf ids own
    → IsOrNoMemory (λ new. record_of (unwrap_or new btf_type)) result
    (Ok (step_record btf ids id (record_of btf_type)))
