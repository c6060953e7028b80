-- The records of a section, one after another, for a kernel with modules.
use Rattle.std.proofs.Common.{◌≡◌, ℕ, ◌+◌, List, [], ◌∷◌, ◌++◌, drop, map, Bool, true, false, Option, Result, Ok, Err, refl, sym, ap, subst, ◌∙◌, inl, inr, append_assoc}
use Rattle.std.proofs.Math.Path.{fun_ext}
use Rattle.std.specs.Prelude.{cond, if◌then◌else◌, Some, None, IfOk}
use Rattle.std.specs.Global.{Vec}
use Rattle.std.specs.BTreeMap.{BTreeMap, get, is_at, IsEmpty}
use Rattle.std.specs.Cmp.{unsigned_tied}
use Rattle.std.specs.Map.{lookup}
use Rattle.std.specs.Ordering.{nat_cmp}
use Rattle.std.proofs.lemmas.List.{append-nil}
use Rattle.btf_model.specs.Table.{Table}
use Rattle.btf_relocate_model.proofs.Reports.{reports_have_outcomes}
use Rattle.btf_relocate_model.specs.Instruction.{patched_code}
use Rattle.btf_relocate_model.specs.Modules as model
use Rattle.btf_relocate_model.specs.Modules.{candidates_among, first_matched, left_after_section, relocated_section_among, reported_section, resolution_among}
use Rattle.btf_relocate_model.specs.Resolution.{type_word, instruction_word}
use Rattle.btf_relocate_model.specs.Section.{patched_outcome, code_after, candidates_after, changed_at, left_after_all, matched_by, patch_in, relocated_by, report_of, reported_by, then_reports}
use Rattle.btf_relocate_model.specs.declared.error.RelocationError.{RelocationError}
use Rattle.btf_relocate_model.specs.declared.instruction.Patched.{Patched}
use Rattle.btf_relocate_model.specs.declared.report.Matched.{Matched}
use Rattle.btf_relocate_model.specs.declared.report.Matched.TheVariants.{Nothing}
use Rattle.btf_relocate_model.specs.declared.report.Report.{Report}
use Rattle.btf_relocate_model.specs.declared.resolved.Resolved.{Resolved}
use Rattle.btf_relocate.specs.Modules.{HasResolvedAmong, candidates_view, targets_view}
use Rattle.btf_relocate.specs.Patch.{HasPatched}
use Rattle.btf_relocate.specs.Sections.{HasOthers, is_shared, left_with}
use Rattle.btf_relocate.specs.SectionsAmong.{PatchedAmong, ReportedAmong, left_among, setting_among, view_or}
use Rattle.btf_relocate.specs.declared.modules.Candidates.{Candidates}
use Rattle.btf_relocate.specs.declared.modules.Targets.{Targets}
use Rattle.btf_relocate.specs.declared.section.CandidatePolicy.{CandidatePolicy}
use Rattle.btf_relocate.specs.declared.section.CandidatePolicy.TheVariants.{Shared, Fresh}
use Rattle.btf_relocate.proofs.Sections.{is_out_of_memory}

-- under `Shared` the type has these candidates, and the other types have theirs
abbrev pub HasLeft : CandidatePolicy → ℕ → Candidates → BTreeMap ℕ Candidates → BTreeMap ℕ Candidates → Type 0
HasLeft policy id v old new =
    policy ≡ Shared → (q : ℕ) → get nat_cmp new q ≡ cond (is_at (nat_cmp id) q) (Some v) (get nat_cmp old q)

module _ (local : Table) (ts : model.Targets) (words : List ℕ) (before after : Candidates) (old : List ℕ) where
  abbrev Resolves : Result Resolved RelocationError → Type 0
  Resolves r = HasResolvedAmong candidates_view before after (resolution_among local ts (candidates_view before) words) r

  -- a record that cannot be resolved
  pub not_resolved : (e : RelocationError) → Resolves (Err e) → PatchedAmong local ts words before after old old (Err e) Nothing
  not_resolved e (inl memory, kept) = inl (ap (λ (x : RelocationError). let r : Result Patched RelocationError = Err x in r) memory)
  not_resolved e (inr same, kept) = inr (
    kept ∙ sym (ap (candidates_after (candidates_view before)) same),
    sym (ap (λ (x : Result (Resolved × model.Candidates) RelocationError). patched_outcome (patch_in local.order old words x)) same),
    sym (ap (matched_by first_matched) same),
    sym (ap (λ (x : Result (Resolved × model.Candidates) RelocationError). code_after old (patch_in local.order old words x)) same),
  )

  -- a record that is resolved, and then patched
  pub patched_as : (new : List ℕ) (o : Result Patched RelocationError) (r : Resolved) (m : Matched) → Resolves (Ok r) → HasPatched old new (patched_code local.order r old (instruction_word words)) o
      → m ≡ (if r.is_matched then first_matched (candidates_view after) else Nothing) → PatchedAmong local ts words before after old new o m
  patched_as new (Ok p) r m known is first =
      let patch = ap (patch_in local.order old words) known ∙ is in
      inr (sym (ap (candidates_after (candidates_view before)) known), sym (ap patched_outcome patch), first ∙ sym (ap (matched_by first_matched) known), sym (ap (code_after old) patch))
  patched_as new (Err e) r m known is first =
      let patch = ap (patch_in local.order old words) known ∙ is.0 in
      inr (sym (ap (candidates_after (candidates_view before)) known), sym (ap patched_outcome patch), first ∙ sym (ap (matched_by first_matched) known), is.1 ∙ sym (ap (code_after old) patch))

-- the candidates of each type before the first record
pub no_lists : (policy : CandidatePolicy) (local : Table) (ts : model.Targets) (m : BTreeMap ℕ Candidates) → IsEmpty m → left_among policy local ts m ≡ candidates_among local ts
no_lists Shared local ts m empty = fun_ext (λ (q : ℕ). ap (λ es. view_or (candidates_among local ts q) (lookup (is_at (nat_cmp q)) es)) empty)
no_lists Fresh local ts m empty = fun_ext (λ (q : ℕ). refl)

-- the candidates of each type after a record
lists_after : (policy : CandidatePolicy) (local : Table) (ts : model.Targets) (id : ℕ) (v : Candidates) (m taken n : BTreeMap ℕ Candidates) → HasOthers id m taken → HasLeft policy id v taken n
    → left_among policy local ts n ≡ left_with (is_shared policy) id (candidates_view v) (left_among policy local ts m)
lists_after Shared local ts id v m taken n others put = fun_ext (λ (q : ℕ). at_type q (is_at (nat_cmp id) q) refl)
  where
    at_type : (q : ℕ) (b : Bool) → is_at (nat_cmp id) q ≡ b → left_among Shared local ts n q ≡ changed_at id (candidates_view v) (left_among Shared local ts m) q
    at_type q true is =
        ap (view_or (candidates_among local ts q)) (put refl q ∙ ap (λ (c : Bool). cond c (Some v) (get nat_cmp taken q)) is)
        ∙ sym (ap (λ (c : Bool). if c then candidates_view v else left_among Shared local ts m q) (sym (unsigned_tied id q) ∙ is))
    at_type q false is =
        ap (view_or (candidates_among local ts q)) (put refl q ∙ ap (λ (c : Bool). cond c (Some v) (get nat_cmp taken q)) is ∙ others q is)
        ∙ sym (ap (λ (c : Bool). if c then candidates_view v else left_among Shared local ts m q) (sym (unsigned_tied id q) ∙ is))
lists_after Fresh local ts id v m taken n others put = fun_ext (λ (q : ℕ). refl)

-- the reports so far, before those of the others
abbrev pub after_these : List Report → List Report × List ℕ → List Report × List ℕ
after_these so_far rest = (so_far ++ rest.0, rest.1)

module _ (policy : CandidatePolicy) (local : Table) (ts : model.Targets) where
  abbrev resolve : model.Candidates → List ℕ → Result (Resolved × model.Candidates) RelocationError
  resolve c words = resolution_among local ts c words

  abbrev of_rest : (ℕ → model.Candidates) → List ℕ → List (List ℕ) → List Report × List ℕ
  of_rest left code records = reported_by first_matched local.order (resolution_among local ts) (is_shared policy) left code records

  abbrev left_of : (ℕ → model.Candidates) → List (List ℕ) → ℕ → model.Candidates
  left_of left records = left_after_all (resolution_among local ts) (is_shared policy) left records

  -- the reports so far complete the reports of the others, and so do the candidates that are left
  pub record Continues (old : BTreeMap ℕ Candidates) (start : List ℕ) (all : List (List ℕ)) (before : List Report) (m : BTreeMap ℕ Candidates) (code : List ℕ) (records : List (List ℕ)) : Type 0 where
    pub reports : after_these before (of_rest (left_among policy local ts m) code records) ≡ of_rest (left_among policy local ts old) start all
    pub lists : left_of (left_among policy local ts m) records ≡ left_of (left_among policy local ts old) all

  pub begins : (old : BTreeMap ℕ Candidates) (start : List ℕ) (all : List (List ℕ)) (before : List Report) → before ≡ [] → Continues old start all before old start all
  begins old start all before none = record {
    reports = ap (λ (rs : List Report). after_these rs (of_rest (left_among policy local ts old) start all)) none;
    lists = refl;
  }

  -- what the definition has after one record
  module _ (left : ℕ → model.Candidates) (words : List ℕ) (c v : Candidates) (code new : List ℕ) (o : Report) (own : candidates_view c ≡ left (type_word words))
      (done : ReportedAmong local ts words c v code new o) (not_memory : is_out_of_memory o.outcome ≡ false) where
    abbrev id : ℕ
    id = type_word words

    abbrev shares : Bool
    shares = is_shared policy

    abbrev r : model.Candidates → Result (Resolved × model.Candidates) RelocationError
    r x = resolution_among local ts x words

    abbrev p : model.Candidates → Result (Patched × List ℕ) RelocationError
    p x = patch_in local.order code words (r x)

    abbrev said : model.Candidates → Report
    said x = report_of local.order code words (matched_by first_matched (r x)) (p x)

    -- what was done
    abbrev Done : Type 0
    Done = (candidates_view v ≡ candidates_after (candidates_view c) (r (candidates_view c))) × (o ≡ said (candidates_view c)) × (new ≡ code_after code (p (candidates_view c)))

    is_done : Done
    is_done = by_case done
      where
        by_case : ReportedAmong local ts words c v code new o → Done
        by_case (inl memory) = absurd (let wrong : true ≡ false = ap is_out_of_memory (sym memory) ∙ not_memory in cc)
        by_case (inr all) = all

    same_left : left_with shares id (candidates_view v) left ≡ left_with shares id (candidates_after (left id) (r (left id))) left
    same_left =
        ap (λ (x : model.Candidates). left_with shares id x left) is_done.0
        ∙ ap (λ (x : model.Candidates). left_with shares id (candidates_after x (r x)) left) own

    one_report : (records : List (List ℕ)) → then_reports o (of_rest (left_with shares id (candidates_view v) left) new records) ≡ of_rest left code (words ∷ records)
    one_report records =
        ap (λ (l : ℕ → model.Candidates). then_reports o (of_rest l new records)) same_left
        ∙ ap (λ (x : Report). then_reports x (of_rest (left_with shares id (candidates_after (left id) (r (left id))) left) new records)) (is_done.1 ∙ ap said own)
        ∙ ap (λ (x : List ℕ). then_reports (said (left id)) (of_rest (left_with shares id (candidates_after (left id) (r (left id))) left) x records)) (is_done.2 ∙ ap (λ (x : model.Candidates). code_after code (p x)) own)

    one_list : (records : List (List ℕ)) → left_of (left_with shares id (candidates_view v) left) records ≡ left_of left (words ∷ records)
    one_list records = ap (λ (l : ℕ → model.Candidates). left_of l records) same_left

  pub continues : (old : BTreeMap ℕ Candidates) (start : List ℕ) (all : List (List ℕ)) (before more : List Report) (words : List ℕ) (c v : Candidates) (m taken n : BTreeMap ℕ Candidates) (code new : List ℕ) (o : Report) (i : ℕ)
      → Continues old start all before m code (drop i all) → drop i all ≡ words ∷ drop (i + 1) all → more ≡ before ++ o ∷ []
      → candidates_view c ≡ left_among policy local ts m (type_word words) → HasOthers (type_word words) m taken → HasLeft policy (type_word words) v taken n
      → ReportedAmong local ts words c v code new o → is_out_of_memory o.outcome ≡ false → Continues old start all more n new (drop (i + 1) all)
  continues old start all before more words c v m taken n code new o i sofar here pushed own others put done not_memory =
      let rest : List (List ℕ) = drop (i + 1) all in
      let left : ℕ → model.Candidates = left_among policy local ts m in
      let later : List Report × List ℕ = of_rest (left_among policy local ts n) new rest in
      let lists : left_among policy local ts n ≡ left_with (is_shared policy) (type_word words) (candidates_view v) left = lists_after policy local ts (type_word words) v m taken n others put in
      record {
        reports = ap (λ (rs : List Report). after_these rs later) pushed
            ∙ ap (λ (rs : List Report). (rs, later.1)) (append_assoc before (o ∷ []) later.0)
            ∙ ap (λ (l : ℕ → model.Candidates). after_these before (then_reports o (of_rest l new rest))) lists
            ∙ ap (after_these before) (one_report left words c v code new o own done not_memory rest)
            ∙ ap (λ (rs : List (List ℕ)). after_these before (of_rest left code rs)) (sym here) ∙ sofar.reports;
        lists = ap (λ (l : ℕ → model.Candidates). left_of l rest) lists ∙ one_list left words c v code new o own done not_memory rest
            ∙ ap (λ (rs : List (List ℕ)). left_of left rs) (sym here) ∙ sofar.lists;
      }

  pub all_done : (old : BTreeMap ℕ Candidates) (start : List ℕ) (all : List (List ℕ)) (before : List Report) (m : BTreeMap ℕ Candidates) (code : List ℕ) (rest : List (List ℕ))
      → Continues old start all before m code rest → rest ≡ []
      → ((before, code) ≡ of_rest (left_among policy local ts old) start all) × (left_among policy local ts m ≡ left_of (left_among policy local ts old) all)
  all_done old start all before m code rest sofar none = (
    ap (λ (rs : List Report). (rs, code)) (sym (append-nil before))
        ∙ ap (λ (rs : List (List ℕ)). after_these before (of_rest (left_among policy local ts m) code rs)) (sym none) ∙ sofar.reports,
    ap (λ (rs : List (List ℕ)). left_of (left_among policy local ts m) rs) (sym none) ∙ sofar.lists,
  )

-- the outcomes in the reports of the records of a section, from all candidates on
pub all_outcomes : {E : Type 0} (policy : CandidatePolicy) (local : Table) (targets : Targets) (start new : List ℕ) (all : List (List ℕ)) (reports : List Report) (left : ℕ → model.Candidates)
    → left ≡ model.all_candidates (setting_among local targets) → (reports, new) ≡ reported_section (setting_among local targets) (is_shared policy) left start all → (seen : List Report) → seen ≡ reports
    → (r : Result (Vec (Result Patched RelocationError)) E) → IfOk r (λ v. v.items ≡ map (λ (x : Report). x.outcome) seen)
    → IfOk r (λ v. (v.items, new) ≡ relocated_section_among local (targets_view targets) (is_shared policy) start all)
all_outcomes policy local targets start new all reports left every said seen same (Err e) are = are
all_outcomes policy local targets start new all reports left every said seen same (Ok v) are =
    let g = setting_among local targets in
    ap (λ (os : List (Result Patched RelocationError)). (os, new)) (are ∙ ap (map (λ (x : Report). x.outcome)) same)
    ∙ ap (λ (x : List Report × List ℕ). (map (λ (r : Report). r.outcome) x.0, x.1)) (said ∙ ap (λ (l : ℕ → model.Candidates). reported_section g (is_shared policy) l start all) every)
    ∙ reports_have_outcomes g (is_shared policy) (model.all_candidates g) start all
