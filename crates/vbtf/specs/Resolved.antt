-- The relocation of one record, for C.
use Rattle.std.specs.Prelude.{◌≡◌, ◌⊎◌, ℕ, Bool, List, [], ◌∷◌, if◌then◌else◌, Result, Ok, Err, is_some, true}
use Rattle.btf_model.specs.Table.{Table}
use Rattle.btf_relocate_model.specs.Resolution.{resolution}
use Rattle.btf_relocate_model.specs.Section.{candidates_of}
use Rattle.btf_relocate_model.specs.declared.error.RelocationError.{RelocationError}
use Rattle.btf_relocate_model.specs.declared.error.RelocationError.TheVariants.{OutOfMemory}
use Rattle.btf_relocate_model.specs.declared.resolved.Resolved.{Resolved}
use Rattle.vbtf.specs.Relocate.{ReportsRefused}
use Rattle.vbtf.specs.Status.{ReportsNoMemory}
use Rattle.vbtf.specs.declared.fault.Fault.{Fault}
use Rattle.vbtf.specs.declared.target.Relocated.{Relocated}
use Rattle.vbtf.specs.declared.target.Relocation.{Relocation}
use Rattle.vbtf.specs.declared.handle.Handle.{Handle}
use Rattle.vbtf.specs.declared.opened.Opened.{Opened}

-- the words of a record
abbrev pub words_of : Relocation → List ℕ
words_of r = r.offset ∷ r.type_id ∷ r.access_offset ∷ r.kind ∷ []

-- 1 for true, and otherwise 0
abbrev pub flag : Bool → ℕ
flag b = if b then 1 else 0

-- what C reads of a resolved record
abbrev pub relocated_of : Resolved → Relocated
relocated_of r = record {
  expected = r.expected;
  value = r.value;
  local_size = r.local_size;
  target_size = r.target_size;
  is_poisoned = flag r.is_poisoned;
  validates = flag r.validates;
  is_adjustable = flag r.is_adjustable;
}

-- The status and the fault report the error of a record, or a failed allocation.
abbrev pub ReportsRelocation : ℕ → Fault → RelocationError → Type 0
ReportsRelocation status fault OutOfMemory = ReportsNoMemory status fault
ReportsRelocation status fault e = ReportsRefused status fault e 0 0

-- The result for a record that has all candidates of the target, or its first error, or a failed allocation.
abbrev pub ResolvesRecord : Table → Table → Relocation → Result Resolved RelocationError → Type 0
ResolvesRecord local target relocation (Ok r) =
    (rest : List ℕ) × (resolution (record { local = local; target = target })
    (candidates_of local target relocation.type_id) (words_of relocation) ≡ Ok (r, rest))
ResolvesRecord local target relocation (Err e) =
    (e ≡ OutOfMemory) ⊎ (resolution (record { local = local; target = target })
    (candidates_of local target relocation.type_id) (words_of relocation) ≡ Err e)

-- The outcomes of the relocation of one record: status 0 and the result; or its error or a failed allocation, and the
-- result is unchanged.
abbrev pub EndsResolving : ℕ → Table → Table → Relocation → Relocated → Relocated → Fault → Type 0
EndsResolving status local target relocation old new fault =
    ((r : Resolved) × (status ≡ 0) × (new ≡ relocated_of r) × ResolvesRecord local target relocation (Ok r))
    ⊎ ((e : RelocationError) × (new ≡ old) × ReportsRelocation status fault e
    × ResolvesRecord local target relocation (Err e))

-- The same for a target whose index is open.
abbrev pub ResolvesIndexed : Table → Opened → Relocation → Relocated → Relocated → Fault → ℕ → Type 0
ResolvesIndexed local target relocation old new fault status =
    is_some target.index ≡ true → EndsResolving status local target.btf relocation old new fault

-- For two open tables, where the target has an open index, the call ends with what the record asks to be written.
abbrev pub EndsRelocatingOne : Handle → Handle → Relocation → Relocated → Relocated → Fault → ℕ → Type 0
EndsRelocatingOne local target relocation old_relocated new_relocated fault result =
    local.state ≡ 2 → target.state ≡ 2 → is_some target.opened.index ≡ true
    → EndsResolving result local.opened.btf target.opened.btf relocation old_relocated new_relocated fault
