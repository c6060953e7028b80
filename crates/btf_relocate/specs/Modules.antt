-- What the parts of `resolve_among` return, as the definitions see it.
use Rattle.std.specs.Prelude.{◌≡◌, ◌⊎◌, List, map, Option, Result, Ok, Err, ℕ}
use Rattle.std.specs.Global.{Vec}
use Rattle.btf_relocate_model.specs.Modules as model
use Rattle.btf_relocate_model.specs.declared.answer.Answer.{Answer}
use Rattle.btf_relocate_model.specs.declared.error.RelocationError.{RelocationError}
use Rattle.btf_relocate_model.specs.declared.error.RelocationError.TheVariants.{OutOfMemory}
use Rattle.btf_relocate_model.specs.declared.resolved.Resolved.{Resolved}
use Rattle.btf_relocate.specs.declared.modules.Candidates.{Candidates}
use Rattle.btf_relocate.specs.declared.modules.Candidates.TheVariants.{InKernel, InModules}
use Rattle.btf_relocate.specs.declared.modules.InModule.{InModule}
use Rattle.btf_relocate.specs.declared.modules.Targets.{Targets}
use Rattle.btf_model.specs.Table.{Table}
use Rattle.btf_relocate.specs.Resolving.{subject_view}
use Rattle.btf_relocate.specs.declared.resolving.Question.{Question}

abbrev pub targets_view : Targets → model.Targets
targets_view ts = record { kernel = ts.kernel.now; modules = ts.modules.now }

abbrev pub found_view : InModule → model.InModule
found_view one = record { table = one.target.now; ids = one.ids.items }

abbrev pub candidates_view : Candidates → model.Candidates
candidates_view (InKernel v) = model.InKernel v.items
candidates_view (InModules v) = model.InModules (map found_view v.items)

abbrev pub answers_view : Option Answer × Vec InModule → Option Answer × List model.InModule
answers_view p = (p.0, map found_view p.1.items)

-- The result is the expected one, and the candidates are those that remain; or an allocation failed. The candidates are
-- unchanged after an error.
abbrev pub HasResolvedAmong : {A B : Type 0} → (A → B) → A → A → Result (Resolved × B) RelocationError
    → Result Resolved RelocationError → Type 0
HasResolvedAmong view old new expected (Ok r) = expected ≡ Ok (r, view new)
HasResolvedAmong view old new expected (Err e) = ((e ≡ OutOfMemory) ⊎ (expected ≡ Err e)) × (view new ≡ view old)

-- A record is resolved for its candidates, which are in the kernel's table or in those of modules.
abbrev pub ResolvesAmong : Table → Targets → List ℕ → Candidates → Candidates → Result Resolved RelocationError → Type 0
ResolvesAmong local targets words old new result =
    HasResolvedAmong candidates_view old new
    (model.resolution_among local (targets_view targets) (candidates_view old) words) result

-- A record is resolved for its candidates in the tables of modules.
abbrev pub ResolvesInModules : Table → Table → List ℕ → Vec InModule → Vec InModule → Result Resolved RelocationError
    → Type 0
ResolvesInModules local kernel words old new result =
    HasResolvedAmong (λ v. map found_view v.items) old new
    (model.resolution_in_modules local kernel (map found_view old.items) words) result

-- the answer that a candidate in a table has for a question
abbrev pub answer_in_table : Table → Question → Table → ℕ → Result (Option Answer) RelocationError
answer_in_table local question = model.answer_in local question.kind (subject_view question.subject)
