-- The answers in the tables of modules, one after another.
use Rattle.std.proofs.Common.{◌≡◌, ℕ, suc, ◌+◌, ◌<◌, ◌≤◌, List, [], ◌∷◌, ◌++◌, length, drop, get_or, map, Bool, true, false, Option, None, Result, Ok, Err, refl, sym, ap, subst, ◌∙◌, inl, inr, add-one, drop-cons, append_assoc}
use Rattle.std.specs.Prelude.{◌⊎◌, ◌==◌, if◌then◌else◌}
use Rattle.std.specs.Global.{Vec}
use Rattle.std.specs.Result.{IsErrAnd}
use Rattle.std.proofs.lemmas.List.{drop_all, append-nil, map-append}
use Rattle.btf_model.specs.Table.{Table}
use Rattle.btf_relocate_model.specs.Modules as model
use Rattle.btf_relocate_model.specs.Resolution.{table_answers, resolution}
use Rattle.btf_relocate_model.specs.Types.{◌>>=◌}
use Rattle.btf_relocate_model.specs.declared.answer.Answer.{Answer}
use Rattle.btf_relocate_model.specs.declared.error.RelocationError.{RelocationError}
use Rattle.btf_relocate_model.specs.declared.error.RelocationError.TheVariants.{OutOfMemory}
use Rattle.btf_relocate_model.specs.declared.resolved.Resolved.{Resolved}
use Rattle.btf_relocate.specs.Gives.{GivesBy}
use Rattle.btf_relocate.specs.Modules.{HasResolvedAmong, answers_view, candidates_view, found_view}
use Rattle.btf_relocate.specs.Resolving.{HasResolved}
use Rattle.btf_relocate.specs.declared.modules.Candidates.{Candidates}
use Rattle.btf_relocate.specs.declared.modules.Candidates.TheVariants.{InKernel, InModules}
use Rattle.btf_relocate.proofs.Compatibles.{from_err}
use Rattle.btf_relocate.specs.declared.modules.InModule.{InModule}

-- what matches so far, and what matches of the rest
abbrev pub before : List model.InModule → Result (Option Answer × List model.InModule) RelocationError → Result (Option Answer × List model.InModule) RelocationError
before kept (Ok q) = Ok (q.0, kept ++ q.1)
before kept (Err e) = Err e

before_nothing : (o : Result (Option Answer × List model.InModule) RelocationError) → before [] o ≡ o
before_nothing (Ok q) = refl
before_nothing (Err e) = refl

before_one : (kept : List model.InModule) (m : model.InModule) (o : Result (Option Answer × List model.InModule) RelocationError)
    → before kept (o >>= λ rest. Ok (rest.0, m ∷ rest.1)) ≡ before (kept ++ m ∷ []) o
before_one kept m (Ok q) = ap (λ (xs : List model.InModule). let p : Option Answer × List model.InModule = (q.0, xs) in Ok p) (sym (append_assoc kept (m ∷ []) q.1))
before_one kept m (Err e) = refl

module _ (answer : Table → ℕ → Result (Option Answer) RelocationError) (found : List InModule) where
  abbrev pub Left : Option Answer → List InModule → ℕ → Type 0
  Left first kept i =
      before (map found_view kept) (model.answers_among answer first (map found_view (drop i found))) ≡ model.answers_among answer None (map found_view found)

  pub starts : Left None [] 0
  starts = before_nothing (model.answers_among answer None (map found_view found))

  here : (first : Option Answer) (kept : List InModule) (i : ℕ) (one : InModule) → drop i found ≡ one ∷ drop (i + 1) found → Left first kept i
      → before (map found_view kept) (model.answers_among answer first (found_view one ∷ map found_view (drop (i + 1) found))) ≡ model.answers_among answer None (map found_view found)
  here first kept i one is left = ap (λ (xs : List InModule). before (map found_view kept) (model.answers_among answer first (map found_view xs))) (sym is) ∙ left

  pub refused : (first : Option Answer) (kept : List InModule) (i : ℕ) (one : InModule) → drop i found ≡ one ∷ drop (i + 1) found → Left first kept i → (e : RelocationError)
      → table_answers (answer one.target.now) first one.ids.items ≡ Err e → model.answers_among answer None (map found_view found) ≡ Err e
  refused first kept i one at left e is = sym (here first kept i one at left) ∙ rw is refl

  pub all_answered : (first : Option Answer) (kept : List InModule) (i : ℕ) → length found ≤ i → Left first kept i → model.answers_among answer None (map found_view found) ≡ Ok (first, map found_view kept)
  all_answered first kept i le left =
      sym left ∙ ap (λ (xs : List InModule). before (map found_view kept) (model.answers_among answer first (map found_view xs))) (drop_all i found le)
      ∙ ap (λ (xs : List model.InModule). let p : Option Answer × List model.InModule = (first, xs) in Ok p) (append-nil (map found_view kept))

  pub goes_on : (first : Option Answer) (kept : List InModule) (i : ℕ) (one : InModule) → drop i found ≡ one ∷ drop (i + 1) found → Left first kept i
      → (answered : Option Answer) (v : Vec ℕ) → table_answers (answer one.target.now) first one.ids.items ≡ Ok (answered, v.items)
      → (more : List InModule) → more ≡ kept ++ record { target = one.target; ids = v } ∷ [] → Left answered more (i + 1)
  goes_on first kept i one at left answered v is more pushed =
      let matched : InModule = record { target = one.target; ids = v } in
      let step : before (map found_view kept) (model.answers_among answer answered (map found_view (drop (i + 1) found)) >>= λ rest. Ok (rest.0, found_view matched ∷ rest.1)) ≡ model.answers_among answer None (map found_view found)
      = rw is at (here first kept i one at left) in
      ap (λ (xs : List model.InModule). before xs (model.answers_among answer answered (map found_view (drop (i + 1) found)))) (ap (map found_view) pushed ∙ map-append found_view kept (matched ∷ []))
      ∙ sym (before_one (map found_view kept) (found_view matched) (model.answers_among answer answered (map found_view (drop (i + 1) found)))) ∙ step

-- the tables that are left
pub at_item : (found : List InModule) (i : ℕ) (one : InModule) → i < length found → one ≡ get_or found i one → drop i found ≡ one ∷ drop (i + 1) found
at_item found i one lt is =
    drop-cons found i one lt ∙ ap (λ (x : InModule). x ∷ drop (suc i) found) (sym is) ∙ ap (λ (n : ℕ). one ∷ drop n found) (sym (add-one i))

-- an error of the answers in one table
pub refused_by : (r : Result (Option Answer × Vec InModule) RelocationError) (e : RelocationError) (expected : Result (Option Answer × List model.InModule) RelocationError) (own : Result (Option Answer × List ℕ) RelocationError)
    → IsErrAnd r (λ x. x ≡ e) → (own ≡ Err e → expected ≡ Err e) → ((e ≡ OutOfMemory) ⊎ (own ≡ Err e)) → GivesBy answers_view expected r
refused_by r e expected own same next (inl memory) = subst (λ (x : Result (Option Answer × Vec InModule) RelocationError). GivesBy answers_view expected x) (sym (from_err r e same)) (inl memory)
refused_by r e expected own same next (inr is) = subst (λ (x : Result (Option Answer × Vec InModule) RelocationError). GivesBy answers_view expected x) (sym (from_err r e same)) (inr (next is))

-- the table of the first candidates
module _ (other : Table) (found : List InModule) (i : ℕ) where
  abbrev pub SameTable : Type 0
  SameTable = model.first_table other (map found_view (drop i found)) ≡ model.first_table other (map found_view found)

  first_here : SameTable → (one : InModule) → drop i found ≡ one ∷ drop (i + 1) found
      → (if length one.ids.items == 0 then model.first_table other (map found_view (drop (i + 1) found)) else one.target.now) ≡ model.first_table other (map found_view found)
  first_here same one at = ap (λ (xs : List InModule). model.first_table other (map found_view xs)) (sym at) ∙ same

  pub first_is : SameTable → (one : InModule) → drop i found ≡ one ∷ drop (i + 1) found → (b : Bool) → b ≡ (length one.ids.items == 0) → b ≡ false → one.target.now ≡ model.first_table other (map found_view found)
  first_is same one at b is some =
      sym (ap (λ (c : Bool). if c then model.first_table other (map found_view (drop (i + 1) found)) else one.target.now) (sym is ∙ some)) ∙ first_here same one at

  pub first_later : SameTable → (one : InModule) → drop i found ≡ one ∷ drop (i + 1) found → (b : Bool) → b ≡ (length one.ids.items == 0) → b ≡ true
      → model.first_table other (map found_view (drop (i + 1) found)) ≡ model.first_table other (map found_view found)
  first_later same one at b is none =
      sym (ap (λ (c : Bool). if c then model.first_table other (map found_view (drop (i + 1) found)) else one.target.now) (sym is ∙ none)) ∙ first_here same one at

  pub first_none : SameTable → length found ≤ i → other ≡ model.first_table other (map found_view found)
  first_none same le = sym (ap (λ (xs : List InModule). model.first_table other (map found_view xs)) (drop_all i found le)) ∙ same

-- the candidates are in the kernel's table, or in those of modules
module _ (local : Table) (ts : model.Targets) (words : List ℕ) where
  pub in_kernel : (old : Candidates) (v new : Vec ℕ) (r : Result Resolved RelocationError) → old ≡ InKernel v → HasResolved v.items new.items (resolution (record { local = local; target = ts.kernel }) v.items words) r
      → HasResolvedAmong candidates_view old (InKernel new) (model.resolution_among local ts (candidates_view old) words) r
  in_kernel old v new (Ok r) is known = ap (λ (c : Candidates). model.resolution_among local ts (candidates_view c) words) is ∙ ap (model.left_as model.InKernel) known
  in_kernel old v new (Err e) is (inl memory, kept) = (inl memory, ap (λ (ids : List ℕ). model.InKernel ids) kept ∙ sym (ap candidates_view is))
  in_kernel old v new (Err e) is (inr same, kept) = (
    inr (ap (λ (c : Candidates). model.resolution_among local ts (candidates_view c) words) is ∙ ap (model.left_as model.InKernel) same),
    ap (λ (ids : List ℕ). model.InKernel ids) kept ∙ sym (ap candidates_view is),
  )

  pub in_modules : (old : Candidates) (v new : Vec InModule) (r : Result Resolved RelocationError) → old ≡ InModules v
      → HasResolvedAmong (λ (x : Vec InModule). map found_view x.items) v new (model.resolution_in_modules local ts.kernel (map found_view v.items) words) r
      → HasResolvedAmong candidates_view old (InModules new) (model.resolution_among local ts (candidates_view old) words) r
  in_modules old v new (Ok r) is known = ap (λ (c : Candidates). model.resolution_among local ts (candidates_view c) words) is ∙ ap (model.left_as model.InModules) known
  in_modules old v new (Err e) is (inl memory, kept) = (inl memory, ap (λ (found : List model.InModule). model.InModules found) kept ∙ sym (ap candidates_view is))
  in_modules old v new (Err e) is (inr same, kept) = (
    inr (ap (λ (c : Candidates). model.resolution_among local ts (candidates_view c) words) is ∙ ap (model.left_as model.InModules) same),
    ap (λ (found : List model.InModule). model.InModules found) kept ∙ sym (ap candidates_view is),
  )
