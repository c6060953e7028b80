-- The sections of records, one after another.
use Rattle.std.proofs.Common.{◌≡◌, ℕ, ◌+◌, List, [], ◌∷◌, ◌++◌, drop, map, Bool, false, Option, Some, None, refl, sym, ap, ◌∙◌, append_assoc}
use Rattle.std.specs.Prelude.{Vec, is_err, if◌then◌else◌, slice_get}
use Rattle.std.specs.Option.{option_and_then, option_or}
use Rattle.std.proofs.lemmas.List.{map-append}
use Rattle.btf_elf_model.specs.Object.{Object}
use Rattle.btf_elf_model.specs.declared.section_header.SectionHeader.{SectionHeader}
use Rattle.btf_ext.specs.Relocation.{relocation}
use Rattle.btf_model.specs.Text.{text_at}
use Rattle.btf_relocate_model.specs.Modules.{Candidates, KernelSetting, all_candidates}
use Rattle.btf_relocate.specs.Sections.{is_shared}
use Rattle.btf_loader_model.specs.Loader.{Outcomes, index_at, left_at, relocated_at, sections_relocated, section_at, then_section}
use Rattle.btf_loader_model.specs.Refused.{Reason, BadSectionName, SharedPlace, bad_outcome, reason_from, reason_when, records_reason, section_reason, shared_place, shares_place}
use Rattle.btf_loader.specs.Results.{code_relocated, left_by, left_by_code, loader_section_reason, loader_setting, outcomes_of, refuses_errors, section_relocated}
use Rattle.btf_loader.specs.declared.step.Loader.{Loader}
use Rattle.btf_loader.specs.declared.step.SectionOutcomes.{SectionOutcomes}

-- the outcomes so far, before those of the others
abbrev pub after_these : List (ℕ × Outcomes) → List (ℕ × Outcomes) × List ℕ → List (ℕ × Outcomes) × List ℕ
after_these so_far rest = (so_far ++ rest.0, rest.1)

module _ (g : KernelSetting) (is_shared : Bool) (o : Object) where
  -- what is made of these sections
  abbrev pub made : {A : Type 0} → (ℕ → Candidates) → List ℕ → List (ℕ × Vec (List ℕ) A) → List (ℕ × Outcomes) × List ℕ
  made left file all = sections_relocated g is_shared o left file (map relocation all)

  -- the outcomes so far complete the outcomes of the others
  abbrev pub Continues : {A : Type 0} → List ℕ → List (ℕ × Vec (List ℕ) A) → List SectionOutcomes → (ℕ → Candidates) → List ℕ → List (ℕ × Vec (List ℕ) A) → Type 0
  Continues start all so_far left file rest = after_these (map outcomes_of so_far) (made left file rest) ≡ made (all_candidates g) start all

  pub begins : {A : Type 0} (start : List ℕ) (all : List (ℕ × Vec (List ℕ) A)) (so_far : List SectionOutcomes) (left : ℕ → Candidates) → so_far ≡ [] → left ≡ all_candidates g → Continues start all so_far left start all
  begins start all so_far left none every =
      ap (λ (xs : List SectionOutcomes). after_these (map outcomes_of xs) (made left start all)) none ∙ ap (λ (l : ℕ → Candidates). made l start all) every

  pub continues : {A : Type 0} (start : List ℕ) (all : List (ℕ × Vec (List ℕ) A)) (so_far more : List SectionOutcomes) (left later : ℕ → Candidates) (file new : List ℕ) (rest others : List (ℕ × Vec (List ℕ) A)) (s : ℕ × Vec (List ℕ) A) (done : SectionOutcomes)
      → Continues start all so_far left file rest → rest ≡ s ∷ others → more ≡ so_far ++ done ∷ [] → done.name_offset ≡ s.0
      → ((outcomes_of done).1, new) ≡ relocated_at g is_shared left (section_at g o s.0) file (relocation s).1 → later ≡ left_at g is_shared left (section_at g o s.0) (relocation s).1
      → Continues start all more later new others
  continues {A} start all so_far more left later file new rest others s done sofar here pushed name did lists =
      let before : List (ℕ × Outcomes) = map outcomes_of so_far in
      let at = section_at g o s.0 in
      let r = relocated_at g is_shared left at file (relocation s).1 in
      let after : List (ℕ × Outcomes) × List ℕ = made later new others in
      let last : ℕ × Outcomes = outcomes_of done in
      ap (λ (xs : List SectionOutcomes). after_these (map outcomes_of xs) after) pushed
      ∙ ap (λ (xs : List (ℕ × Outcomes)). after_these xs after) (map-append outcomes_of so_far (done ∷ []))
      ∙ ap (λ (xs : List (ℕ × Outcomes)). (xs, after.1)) (append_assoc before (last ∷ []) after.0)
      ∙ ap (λ (n : ℕ). after_these before (then_section (n, last.1) after)) name
      ∙ ap (λ (l : ℕ → Candidates). after_these before (then_section (s.0, last.1) (made l new others))) lists
      ∙ ap (λ (x : Outcomes × List ℕ). after_these before (then_section (s.0, x.0) (made (left_at g is_shared left at (relocation s).1) x.1 others))) did
      ∙ ap (λ (xs : List (ℕ × Vec (List ℕ) A)). after_these before (made left file xs)) (sym here) ∙ sofar

  -- the reason of the sections that are left, if one more is not refused
  pub no_reason : {A : Type 0} (refuses : Bool) (left later : ℕ → Candidates) (file new : List ℕ) (rest others : List (ℕ × Vec (List ℕ) A)) (s : ℕ × Vec (List ℕ) A) (done : Outcomes)
      → rest ≡ s ∷ others → records_reason g is_shared refuses o left file (relocation s) ≡ None
      → (done, new) ≡ relocated_at g is_shared left (section_at g o s.0) file (relocation s).1 → later ≡ left_at g is_shared left (section_at g o s.0) (relocation s).1
      → reason_from g is_shared refuses o left file (map relocation rest) ≡ reason_from g is_shared refuses o later new (map relocation others)
  no_reason {A} refuses left later file new rest others s done here none did lists =
      let at = section_at g o s.0 in
      let r = relocated_at g is_shared left at file (relocation s).1 in
      ap (λ (xs : List (ℕ × Vec (List ℕ) A)). reason_from g is_shared refuses o left file (map relocation xs)) here
      ∙ ap (λ (x : Option Reason). option_or x (reason_from g is_shared refuses o (left_at g is_shared left at (relocation s).1) r.1 (map relocation others))) none
      ∙ ap (λ (l : ℕ → Candidates). reason_from g is_shared refuses o l r.1 (map relocation others)) (sym lists)
      ∙ ap (λ (x : Outcomes × List ℕ). reason_from g is_shared refuses o later x.1 (map relocation others)) (sym did)

-- a section of records whose code is in a section of the object
module _ (loader : Loader) (left : ℕ → Candidates) (file : List ℕ) (section : ℕ × List (List ℕ)) (index : ℕ) (header : SectionHeader) (indexed : index_at (loader_setting loader) loader.object.now section.0 ≡ Some index)
    (here : slice_get loader.object.now.sections index ≡ Some header) (records : List (List ℕ)) (same : records ≡ section.1) where
  abbrev g : KernelSetting
  g = loader_setting loader

  abbrev o : Object
  o = loader.object.now

  at : section_at g o section.0 ≡ Some header
  at = ap (option_and_then (slice_get o.sections)) indexed ∙ here

  pub as_section : (r : Outcomes × List ℕ) → r ≡ code_relocated loader left file header records → r ≡ section_relocated loader left file section
  as_section r is =
      is ∙ ap (code_relocated loader left file header) same
      ∙ ap (λ (s : Option SectionHeader). relocated_at g (is_shared loader.policy) left s file section.1) (sym at)

  pub as_left : (l : ℕ → Candidates) → l ≡ left_by_code loader left records → l ≡ left_by loader left section
  as_left l is =
      is ∙ ap (left_by_code loader left) same ∙ ap (λ (s : Option SectionHeader). left_at g (is_shared loader.policy) left s section.1) (sym at)

  -- why it is refused, if its name can be read and its place is its own
  pub reason_is : is_err (text_at loader.local.now.strings section.0) ≡ false → shares_place o.sections index ≡ false → (outcomes : Outcomes) (new : List ℕ) → (outcomes, new) ≡ code_relocated loader left file header records
      → loader_section_reason loader left file section ≡ (if refuses_errors loader.refusals then bad_outcome section.0 outcomes else None)
  reason_is readable placed outcomes new is =
      let refuses = refuses_errors loader.refusals in
      let rest : Option Reason = if refuses then bad_outcome section.0 outcomes else None in
      let place : Option Reason = option_and_then (shared_place o) (index_at g o section.0) in
      ap (λ (x : Outcomes × List ℕ). section_reason g refuses o section.0 x.0) (sym (as_section (outcomes, new) is))
      ∙ ap (λ (b : Bool). option_or (reason_when b (BadSectionName section.0)) (option_or place rest)) readable
      ∙ ap (λ (i : Option ℕ). option_or (option_and_then (shared_place o) i) rest) indexed
      ∙ ap (λ (b : Bool). option_or (reason_when b (SharedPlace index)) rest) placed
