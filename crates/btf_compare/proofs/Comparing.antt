-- The loop of the comparison of types, as a run of the definitions.
use Rattle.std.proofs.Common.{◌≡◌, ℕ, ◌+◌, ◌<◌, List, [], ◌∷◌, ◌++◌, length, map, reverse, refl, sym, ap, subst, ◌∙◌, inl, inr, Bool, true, false, Some, Ok, Err, Result, Contains, arith}
use Rattle.std.specs.Prelude.{◌⊎◌, cond, IsErrAnd}
use Rattle.std.specs.Result.{result_ok}
use Rattle.std.proofs.lemmas.Bool.{false≢true}
use Rattle.std.proofs.lemmas.List.{reverse-append, map-append, length-append}
use Rattle.std.proofs.lemmas.Option.{none-some, same_Some}
use Rattle.std.proofs.lemmas.Result.{err_from_is_err_and}
use Rattle.btf_model.specs.Record.{Kind, compared_kind}
use Rattle.btf_model.specs.Refusal.{Refusal, UnknownBtfType, MaximumTypeDepthReached}
use Rattle.btf_model.specs.Table.{Table}
use Rattle.btf_model.specs.Fields.{Pair, HaveKinds}
use Rattle.btf_model.specs.Compat.{Plain, AreKnown, pair_eq, firsts}
use Rattle.btf_model.proofs.Firsts.{eq_itself, eq_same, eq_other}
use Rattle.btf_model.proofs.Known.{Among, among_from_contains, contains_from_among, known_pairs}
use Rattle.btf_model.proofs.PlainAnswers.{plain_answers}
use Rattle.btf_model.specs.Run as runs
use Rattle.btf_model.specs.Run.{new_frame, IsNext}
use Rattle.btf_model.proofs.RunStates as states
use Rattle.btf_model.specs.Run.{Begins}
use Rattle.btf_model.proofs.RunStates.{open_pairs, Outcome, BeginsWith, run_begun, run_on, run_compared, run_starts, run_fails, run_refused, run_differs, run_ends, run_begins, run_settles}
use Rattle.btf_model.proofs.RunLengths.{widest, left_to_do, less_started}
use Rattle.btf_plain.specs.Error.{MeetsOrNoMemory, Meets, refusal_of}
use Rattle.btf_plain.specs.declared.error.BtfError.{BtfError}
use Rattle.btf_plain.specs.declared.error.BtfError.TheVariants as errors
use Rattle.btf_compare.specs.declared.frame.Frame.{Frame}
use Rattle.btf_compare.specs.Compared.{frame_of, IsStarted, CannotStart, TracesBy, Compares}
use Rattle.btf_compare.specs.Pairs.{pair_of, ids_of}
use Rattle.btf_plain.proofs.Refused.{known_refusal}

-- ---- what the call returns

-- after these pairs one more was reported
abbrev pub ReportsOneMore : (List (ℕ × ℕ) → Type 0) → (List (ℕ × ℕ) → Type 0) → ℕ × ℕ → Type 0
ReportsOneMore IsReported IsReportedNow ids = (before : List (ℕ × ℕ)) → IsReported before → IsReportedNow (before ++ ids ∷ [])

answered : (local target : Table) (Settled : Pair → Type 0) (root : Pair) (answer : Result Bool Refusal) (listed : List Pair) (result : Result Bool BtfError) (IsReported : List (ℕ × ℕ) → Type 0) → Outcome local target Settled root answer listed → Meets (λ b. b) result (λ a. a ≡ answer) → IsReported (map ids_of listed)
    → Compares local target root result IsReported
answered local target Settled root answer listed result IsReported outcome tells added = (answer, outcome.0, outcome.1, inl (tells, subst (λ (x : List Pair). IsReported (map ids_of x)) (sym outcome.2) added))

cut_short : (local target : Table) (Settled : Pair → Type 0) (root : Pair) (listed : List Pair) (result : Result Bool BtfError) (IsReported : List (ℕ × ℕ) → Type 0) → BeginsWith local target Settled root listed → result ≡ Err errors.OutOfMemory → IsReported (map ids_of listed) → Compares local target root result IsReported
cut_short local target Settled root listed result IsReported begins is added = (begins.0, begins.1, begins.3, inr (is, listed, begins.2, begins.4, added))

-- pairs that were reported earlier stay reported
pub reported_on : (local target : Table) (root : Pair) (result : Result Bool BtfError) (IsReported IsReportedNow : List (ℕ × ℕ) → Type 0) → ((ids : List (ℕ × ℕ)) → IsReported ids → IsReportedNow ids) → Compares local target root result IsReported → Compares local target root result IsReportedNow
reported_on local target root result IsReported IsReportedNow more h = (h.0, h.1, h.2, elim h.3 [ inl t ↦ inl (t.0, more (map ids_of (firsts h.1)) t.1) | inr t ↦ inr (t.0, t.1, t.2, t.3, more (map ids_of t.1) t.4) ])

-- each error has its refusal
refusal_reported : (result : Result Bool BtfError) (e : BtfError) (refusal : Refusal) → result ≡ Err e → refusal_of e ≡ Some refusal → Meets (λ b. b) result (λ a. a ≡ Err refusal)
refusal_reported result e refusal is known = subst (λ (r : Result Bool BtfError). Meets (λ b. b) r (λ a. a ≡ Err refusal)) (sym is) (refusal, known, refl)

not_true : (refusal : Refusal) → ◌≡◌ {A = Result Bool Refusal} (Err refusal) (Ok true) → ⊥
not_true refusal is = none-some true (ap result_ok is)

pub false_is_not_true : ◌≡◌ {A = Result Bool Refusal} (Ok false) (Ok true) → ⊥
false_is_not_true is = false≢true (same_Some false true (ap result_ok is))

-- an error that `?` propagates
pub propagated : (r : Result Bool BtfError) (e : BtfError) → IsErrAnd r (λ y. y ≡ e) → r ≡ Err e
propagated r e h = let given = err_from_is_err_and r h in given.1 ∙ ap (λ (x : BtfError). Err x) given.2

-- ---- the state of the loop

abbrev pub stack_of : List Frame → List runs.Frame
stack_of frames = reverse (map frame_of frames)

-- the frame that was pushed last comes first
pub stack_push : (frames more : List Frame) (f : Frame) → more ≡ frames ++ f ∷ [] → stack_of more ≡ frame_of f ∷ stack_of frames
stack_push frames more f is = ap stack_of is ∙ ap reverse (map-append frame_of frames (f ∷ [])) ∙ reverse-append (map frame_of frames) (frame_of f ∷ [])

-- which pairs of ids are in a set
abbrev pub PairSet : Type 0
PairSet = Pair → Bool

abbrev pub IsIn : PairSet → Pair → Type 0
IsIn set p = set p ≡ true

-- the set has p if b is true, and otherwise what it had
abbrev pub Changes : PairSet → PairSet → Pair → Bool → Type 0
Changes old new p b = (q : Pair) → new q ≡ cond (pair_eq p q) b (old q)

-- What holds at each step of the loop: it is a run, and the set of open pairs has those of the stack.
pub record IsRunning (local target : Table) (root : Pair) (opened settled : PairSet) (top : runs.Frame) (below : List runs.Frame) (many : ℕ) (IsReported : List (ℕ × ℕ) → Type 0) : Type 0 where
  pub listed : List Pair
  pub added : IsReported (map ids_of listed)
  pub counts : many ≡ length listed
  pub run : states.Run local target (IsIn settled) root top below listed
  pub among : (q : Pair) → IsIn opened q → Among (top.pair ∷ open_pairs below) q
  pub has_all : (q : Pair) → Among (top.pair ∷ open_pairs below) q → IsIn opened q

-- what is in a set after a change
set_or_cond : (b : Bool) (x : Bool) → cond b true x ≡ true → (b ≡ true) ⊎ (x ≡ true)
set_or_cond true x is = inl refl
set_or_cond false x is = inr is

pub now_in : (old new : PairSet) (p : Pair) → Changes old new p true → (q : Pair) → IsIn new q → IsIn old q ⊎ (p ≡ q)
now_in old new p changes q h = elim (set_or_cond (pair_eq p q) (old q) (sym (changes q) ∙ h)) [ inl is ↦ inr (eq_same p q is) | inr was ↦ inl was ]

in_cond : (b x : Bool) → x ≡ true → cond b true x ≡ true
in_cond true x is = refl
in_cond false x is = is

pub still_in : (old new : PairSet) (p : Pair) → Changes old new p true → (q : Pair) → IsIn old q → IsIn new q
still_in old new p changes q h = changes q ∙ in_cond (pair_eq p q) (old q) h

pub itself_in : (old new : PairSet) (p : Pair) → Changes old new p true → IsIn new p
itself_in old new p changes = changes p ∙ ap (λ (b : Bool). cond b true (old p)) (eq_itself p)

-- ---- a pair that is started

pub started : (local target : Table) (p : Pair) (k q : Kind) → AreKnown local target p k q → (b : Bool) → ((b ≡ true) → compared_kind k ≡ compared_kind q) → ((compared_kind k ≡ compared_kind q) → b ≡ true) → IsStarted local target p b
started local target p k q known true same is = (k, q, known, same refl)
started local target p k q known false same is = (k, q, known, λ alike. false≢true (is alike))

-- ---- before the loop

module _ (local target : Table) (root : ℕ × ℕ) where
  -- nothing is open
  none_open : ¬ (Contains [] (pair_of root))
  none_open h = elim (among_from_contains [] (pair_of root) h) [ ]

  none : Pair → Type 0
  none q = ⊥

  pub root_refused : HaveKinds local → HaveKinds target → (e : BtfError) (result : Result Bool BtfError) (IsReported : List (ℕ × ℕ) → Type 0) → CannotStart local target (pair_of root) e → result ≡ Err e → IsReported [] → Compares local target (pair_of root) result IsReported
  root_refused ls ts e result IsReported (inl memory) is added =
      let whole = plain_answers local target ls ts [] (pair_of root) in
      cut_short local target none (pair_of root) [] result IsReported (whole.0, whole.1, firsts whole.1, whole.2, refl) (is ∙ ap (λ (x : BtfError). Err x) memory) added
  root_refused ls ts e result IsReported (inr (inl h)) is added =
      answered local target none (pair_of root) (Err (UnknownBtfType root.0)) [] result IsReported ([], Plain.no_local [] (pair_of root) none_open h.0, refl) (refusal_reported result e (UnknownBtfType root.0) is (ap refusal_of h.1)) added
  root_refused ls ts e result IsReported (inr (inr h)) is added =
      answered local target none (pair_of root) (Err (UnknownBtfType root.1)) [] result IsReported ([], Plain.no_target [] (pair_of root) h.0 none_open h.1 h.2, refl) (refusal_reported result e (UnknownBtfType root.1) is (ap refusal_of h.3)) added

  pub root_differs : (IsReported : List (ℕ × ℕ) → Type 0) → IsStarted local target (pair_of root) false → IsReported (root ∷ []) → Compares local target (pair_of root) (Ok false) IsReported
  root_differs IsReported h added = answered local target none (pair_of root) (Ok false) (pair_of root ∷ []) (Ok false) IsReported (pair_of root ∷ [], Plain.kinds_differ [] (pair_of root) h.0 h.1 none_open h.2 h.3, refl) refl added

  pub root_started : (top : Frame) (begun opened settled : PairSet) (items : List Frame) (many : ℕ) (IsReported : List (ℕ × ℕ) → Type 0) → IsStarted local target (pair_of root) true → frame_of top ≡ new_frame (pair_of root) → items ≡ [] → ((q : Pair) → begun q ≡ false) → ((q : Pair) → settled q ≡ false) → Changes begun opened (pair_of root) true → many ≡ 1 → IsReported (root ∷ [])
      → IsRunning local target (pair_of root) opened settled (frame_of top) (stack_of items) many IsReported
  root_started top begun opened settled items many IsReported h new below empty none_settled changes is_one added =
      subst (λ (x : runs.Frame). IsRunning local target (pair_of root) opened settled x (stack_of items) many IsReported) (sym new)
      (subst (λ (xs : List Frame). IsRunning local target (pair_of root) opened settled (new_frame (pair_of root)) (stack_of xs) many IsReported) (sym below)
      (record {
        listed = pair_of root ∷ [];
        counts = is_one;
        added = added;
        run = run_begun local target (IsIn settled) (pair_of root) h (λ q is. false≢true (sym (none_settled q) ∙ is));
        among = λ q is. elim (now_in begun opened (pair_of root) changes q is) [ inl was ↦ absurd (false≢true (sym (empty q) ∙ was)) | inr same ↦ inl same ];
        has_all = λ q. elim [ inl same ↦ subst (IsIn opened) same (itself_in begun opened (pair_of root) changes) | inr m ↦ absurd m ];
      }))

-- ---- in the loop

-- the refusal of an error is the refusal of an equal error
decided_again : (answer result : Result Bool BtfError) (e : BtfError) (P : Result Bool Refusal → Type 0) → answer ≡ Err e → result ≡ Err e → Meets (λ b. b) answer P → (refusal : Refusal) × P (Err refusal) × Meets (λ b. b) result (λ a. a ≡ Err refusal)
decided_again answer result e P is same h =
    let given = subst (λ (r : Result Bool BtfError). Meets (λ b. b) r P) is h in
    (given.0, given.2, refusal_reported result e given.0 same given.1)

module _ (local target : Table) (root : Pair) (opened settled : PairSet) (top : runs.Frame) (below : List runs.Frame) (many : ℕ) (IsReported : List (ℕ × ℕ) → Type 0) (state : IsRunning local target root opened settled top below many IsReported) where
  pub no_memory : HaveKinds local → HaveKinds target → (result : Result Bool BtfError) → result ≡ Err errors.OutOfMemory → Compares local target root result IsReported
  no_memory ls ts result is = cut_short local target (IsIn settled) root state.listed result IsReported (run_begins local target (IsIn settled) ls ts root top below state.listed state.run) is state.added

  pub ends_refused : (answer result : Result Bool BtfError) (e : BtfError) → answer ≡ Err e → result ≡ Err e → Meets (λ b. b) answer (λ a. IsNext local target top (runs.Ends a)) → Compares local target root result IsReported
  ends_refused answer result e is same h =
      let decided = decided_again answer result e (λ a. IsNext local target top (runs.Ends a)) is same h in
      answered local target (IsIn settled) root (Err decided.0) state.listed result IsReported (run_fails local target (IsIn settled) root top below state.listed state.run (Err decided.0) decided.1 (not_true decided.0)) decided.2 state.added

  pub ends_false : IsNext local target top (runs.Ends (Ok false)) → Compares local target root (Ok false) IsReported
  ends_false next = answered local target (IsIn settled) root (Ok false) state.listed (Ok false) IsReported (run_fails local target (IsIn settled) root top below state.listed state.run (Ok false) next false_is_not_true) refl state.added

  pub ends_true : IsNext local target top (runs.Ends (Ok true)) → below ≡ [] → Compares local target root (Ok true) IsReported
  ends_true next is =
      answered local target (IsIn settled) root (Ok true) state.listed (Ok true) IsReported
      (run_ends local target (IsIn settled) root top state.listed (subst (λ (x : List runs.Frame). states.Run local target (IsIn settled) root top x state.listed) is state.run) next) refl state.added

  pub goes_on : (g : runs.Frame) → IsNext local target top (runs.GoesOn g) → IsRunning local target root opened settled g below many IsReported
  goes_on g next =
      let same : top.pair ≡ g.pair = sym (ap (λ (x : runs.Frame). x.pair) next.3) in
      record {
        listed = state.listed;
        counts = state.counts;
        added = state.added;
        run = run_on local target (IsIn settled) root top g below state.listed state.run next;
        among = subst (λ (p : Pair). (q : Pair) → IsIn opened q → Among (p ∷ open_pairs below) q) same state.among;
        has_all = subst (λ (p : Pair). (q : Pair) → Among (p ∷ open_pairs below) q → IsIn opened q) same state.has_all;
      }

  module _ (p : Pair) (g : runs.Frame) (next : IsNext local target top (runs.Waits p g)) where
    same_pair : top.pair ≡ g.pair
    same_pair = sym (ap (λ (x : runs.Frame). x.pair) next.5)

    pub compares_all : IsIn settled p → IsRunning local target root opened settled g below many IsReported
    compares_all is = record {
      listed = state.listed;
      counts = state.counts;
      added = state.added;
      run = run_compared local target (IsIn settled) root top g p below state.listed state.run next is;
      among = subst (λ (o : Pair). (q : Pair) → IsIn opened q → Among (o ∷ open_pairs below) q) same_pair state.among;
      has_all = subst (λ (o : Pair). (q : Pair) → Among (o ∷ open_pairs below) q → IsIn opened q) same_pair state.has_all;
    }

    pub is_open : IsIn opened p → Compares local target root (Err (errors.MaximumTypeDepthReached p.local)) IsReported
    is_open is =
        answered local target (IsIn settled) root (Err (MaximumTypeDepthReached p.local)) state.listed (Err (errors.MaximumTypeDepthReached p.local)) IsReported
        (run_refused local target (IsIn settled) root top g p below state.listed state.run next (Err (MaximumTypeDepthReached p.local)) (Plain.again (top.pair ∷ open_pairs below) p (contains_from_among (top.pair ∷ open_pairs below) p (state.among p is))) (not_true (MaximumTypeDepthReached p.local)))
        (MaximumTypeDepthReached p.local, refl, refl) state.added

    module _ (not_open : opened p ≡ false) (not_settled : settled p ≡ false) where
      new_pair : Among (top.pair ∷ open_pairs below) p → ⊥
      new_pair m = false≢true (sym not_open ∙ state.has_all p m)

      unsettled : IsIn settled p → ⊥
      unsettled is = false≢true (sym not_settled ∙ is)

      not_above : ¬ (Contains (top.pair ∷ open_pairs below) p)
      not_above h = new_pair (among_from_contains (top.pair ∷ open_pairs below) p h)

      refused_with : (result : Result Bool BtfError) (e : BtfError) (refusal : Refusal) → result ≡ Err e → refusal_of e ≡ Some refusal → Plain local target (top.pair ∷ open_pairs below) p (Err refusal) [] → Compares local target root result IsReported
      refused_with result e refusal is known plain =
          answered local target (IsIn settled) root (Err refusal) state.listed result IsReported (run_refused local target (IsIn settled) root top g p below state.listed state.run next (Err refusal) plain (not_true refusal)) (refusal_reported result e refusal is known) state.added

      pub is_refused : HaveKinds local → HaveKinds target → (e : BtfError) (result : Result Bool BtfError) → CannotStart local target p e → result ≡ Err e → Compares local target root result IsReported
      is_refused ls ts e result (inl memory) is = no_memory ls ts result (is ∙ ap (λ (x : BtfError). Err x) memory)
      is_refused ls ts e result (inr (inl h)) is = refused_with result e (UnknownBtfType p.local) is (ap refusal_of h.1) (Plain.no_local (top.pair ∷ open_pairs below) p not_above h.0)
      is_refused ls ts e result (inr (inr h)) is = refused_with result e (UnknownBtfType p.target) is (ap refusal_of h.3) (Plain.no_target (top.pair ∷ open_pairs below) p h.0 not_above h.1 h.2)

      adds_one : (IsReportedNow : List (ℕ × ℕ) → Type 0) → ReportsOneMore IsReported IsReportedNow (ids_of p) → IsReportedNow (map ids_of (state.listed ++ p ∷ []))
      adds_one IsReportedNow tells = subst IsReportedNow (sym (map-append ids_of state.listed (p ∷ []))) (tells (map ids_of state.listed) state.added)

      pub differs : (IsReportedNow : List (ℕ × ℕ) → Type 0) → IsStarted local target p false → ReportsOneMore IsReported IsReportedNow (ids_of p) → Compares local target root (Ok false) IsReportedNow
      differs IsReportedNow h tells =
          answered local target (IsIn settled) root (Ok false) (state.listed ++ p ∷ []) (Ok false) IsReportedNow
          (run_differs local target (IsIn settled) root top g p below state.listed state.run next new_pair unsettled (Ok false) (Plain.kinds_differ (top.pair ∷ open_pairs below) p h.0 h.1 not_above h.2 h.3) false_is_not_true) refl (adds_one IsReportedNow tells)

      pub starts : (f : Frame) (more_open : PairSet) (now : ℕ) (IsReportedNow : List (ℕ × ℕ) → Type 0) → IsStarted local target p true → frame_of f ≡ new_frame p → Changes opened more_open p true → now ≡ many + 1 → ReportsOneMore IsReported IsReportedNow (ids_of p) → IsRunning local target root more_open settled (frame_of f) (g ∷ below) now IsReportedNow
      starts f more_open now IsReportedNow h new changes one tells =
          subst (λ (x : runs.Frame). IsRunning local target root more_open settled x (g ∷ below) now IsReportedNow) (sym new)
          (record {
            listed = state.listed ++ p ∷ [];
            added = adds_one IsReportedNow tells;
            counts = omega (arith, one, state.counts, length-append state.listed (p ∷ []));
            run = run_starts local target (IsIn settled) root top g p below state.listed state.run next new_pair unsettled h;
            among = λ q m. elim (now_in opened more_open p changes q m) [
              | inl was ↦ inr (subst (λ (o : Pair). Among (o ∷ open_pairs below) q) same_pair (state.among q was))
              | inr same ↦ inl same
            ];
            has_all = λ q. elim [
              | inl same ↦ subst (IsIn more_open) same (itself_in opened more_open p changes)
              | inr m ↦ still_in opened more_open p changes q (state.has_all q (subst (λ (o : Pair). Among (o ∷ open_pairs below) q) (sym same_pair) m))
            ];
          })

-- ---- a pair that is known to be compatible

out_cond : (b x : Bool) → cond b false x ≡ true → (b ≡ false) × (x ≡ true)
out_cond true x is = absurd (false≢true is)
out_cond false x is = (refl, is)

module _ (local target : Table) (root : Pair) (opened settled : PairSet) (top g : runs.Frame) (below : List runs.Frame) (many : ℕ) (IsReported : List (ℕ × ℕ) → Type 0) (state : IsRunning local target root opened settled top (g ∷ below) many IsReported) where
  other_pair : (q : Pair) → Among (open_pairs (g ∷ below)) q → pair_eq top.pair q ≡ false
  other_pair q m = eq_other top.pair q (λ same. state.run.apart.0 (subst (λ (x : Pair). Among (open_pairs (g ∷ below)) x) (sym same) m))

  pub settles : (fewer more : PairSet) → IsNext local target top (runs.Ends (Ok true)) → Changes settled more top.pair true → Changes opened fewer top.pair false → IsRunning local target root fewer more g below many IsReported
  settles fewer more next changes closes = record {
    listed = state.listed;
    counts = state.counts;
    added = state.added;
    run = run_settles local target (IsIn settled) (IsIn more) (still_in settled more top.pair changes) root top g below state.listed state.run next (itself_in settled more top.pair changes) (now_in settled more top.pair changes);
    among = λ q is.
        let out = out_cond (pair_eq top.pair q) (opened q) (sym (closes q) ∙ is) in
        elim (state.among q out.1) [
          | inl same ↦ absurd (false≢true (sym out.0 ∙ ap (pair_eq top.pair) (sym same) ∙ eq_itself top.pair))
          | inr m ↦ m
        ];
    has_all = λ q m. closes q ∙ ap (λ (b : Bool). cond b false (opened q)) (other_pair q m) ∙ state.has_all q (inr m);
  }

-- ---- the steps terminate

module _ (local target : Table) (root : Pair) where
  -- if this number of pairs is started
  abbrev pub left : ℕ → runs.Frame → List runs.Frame → ℕ
  left many top below = left_to_do (length (known_pairs local target)) many (widest local.records) top below

  pub less_by_start : (opened settled : PairSet) (f top g : runs.Frame) (p : Pair) (below : List runs.Frame) (many now : ℕ) (IsReportedNow : List (ℕ × ℕ) → Type 0) → IsNext local target top (runs.Waits p g) → f ≡ new_frame p → now ≡ many + 1
      → IsRunning local target root opened settled f (g ∷ below) now IsReportedNow → left now f (g ∷ below) < left many top below
  less_by_start opened settled f top g p below many now IsReportedNow next is one started =
      rw (is, one) (less_started local target (length (known_pairs local target)) many top g p below next (omega (arith, one, started.counts, started.run.counts)))

-- ---- the answer alone

tells_answer : (result : Result Bool BtfError) (answer : Result Bool Refusal) (P : Result Bool Refusal → Type 0) → Meets (λ b. b) result (λ a. a ≡ answer) → P answer → MeetsOrNoMemory (λ b. b) result P
tells_answer (Ok b) answer P is h = subst P (sym is) h
tells_answer (Err e) answer P is h = known_refusal e is.0 (λ f. P (Err f)) is.1 (subst P (sym is.2) h)

no_answer : (result : Result Bool BtfError) (P : Result Bool Refusal → Type 0) → result ≡ Err errors.OutOfMemory → MeetsOrNoMemory (λ b. b) result P
no_answer result P is = subst (λ (r : Result Bool BtfError). MeetsOrNoMemory (λ b. b) r P) (sym is) tt

pub answers : (local target : Table) (root : Pair) (result : Result Bool BtfError) (IsReported : List (ℕ × ℕ) → Type 0) → Compares local target root result IsReported → MeetsOrNoMemory (λ b. b) result (λ answer. (listed : List Pair) × Plain local target [] root answer listed)
answers local target root result IsReported h =
    elim h.3 [
      | inl decided ↦ tells_answer result h.0 (λ answer. (listed : List Pair) × Plain local target [] root answer listed) decided.0 (h.1, h.2)
      | inr short ↦ no_answer result (λ answer. (listed : List Pair) × Plain local target [] root answer listed) short.0
    ]
