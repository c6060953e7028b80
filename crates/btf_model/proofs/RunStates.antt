-- The invariant of a run of the comparison: facts about the settled pairs (known to be compatible), about the open
-- pairs, and about the pairs that are listed.
use Rattle.std.proofs.Common.{◌≡◌, ◌≢◌, ℕ, zero, suc, ◌+◌, ◌<◌, List, [], ◌∷◌, ◌++◌, length, refl, sym, ap, subst, ◌∙◌, inl, inr, Bool, true, false, Result, Ok, arith, append_assoc, Contains}
use Rattle.std.specs.Prelude.{◌⊎◌, map, not, cond, slice_get, Some}
use Rattle.std.proofs.lemmas.List.{append-nil, length-append}
use Rattle.std.proofs.lemmas.List.Elements.{Contains-append_left, Contains-push}
use Rattle.btf_model.specs.Refusal.{Refusal}
use Rattle.btf_model.specs.Table.{Table}
use Rattle.btf_model.specs.Walk.{walk_limit}
use Rattle.btf_model.specs.Fields.{Pair, HaveKinds}
use Rattle.std.specs.List.{filter}
use Rattle.btf_model.specs.Compat.{Plain, Pending, Finds, ResolvesPair, pair_eq, firsts}
use Rattle.btf_model.proofs.Comparisons.{one_position}
use Rattle.btf_model.proofs.RunLengths.{pending_at}
use Rattle.std.proofs.lemmas.Option.{same_Some, slice_get_cases}
use Rattle.btf_model.proofs.Known.{Among, among_from_contains, HasIds, Covers, known_pairs, known_pairs_cover, known_pairs_among, Without, without}
use Rattle.btf_model.proofs.PlainAnswers.{true_or_not}
use Rattle.btf_model.specs.Run.{Begins}
use Rattle.btf_model.proofs.Firsts.{firsts_new, firsts_of_known, firsts_begin}
use Rattle.btf_model.specs.Run.{Frame, new_frame, Ends, GoesOn, Waits, IsNext}
use Rattle.btf_model.proofs.Runs.{RestOf, WalkOf, walked_from_rest, ends_rest, goes_on_rest, fails_rest, compares_rest, rest_answers}

-- ---- lists of pairs

abbrev pub open_pairs : List Frame → List Pair
open_pairs fs = map (λ f. f.pair) fs

-- no pair is in the list twice
abbrev pub AreApart : List Pair → Type 0
AreApart [] = Unit {0}
AreApart (p ∷ ps) = (Among ps p → ⊥) × AreApart ps

-- P holds for none of the pairs
abbrev pub AvoidsAll : (Pair → Type 0) → List Pair → Type 0
AvoidsAll P ps = (q : Pair) → Among ps q → P q → ⊥

pub among_append : (ps qs : List Pair) (q : Pair) → Among (ps ++ qs) q → Among ps q ⊎ Among qs q
among_append [] qs q m = inr m
among_append (p ∷ ps) qs q (inl is) = inl (inl is)
among_append (p ∷ ps) qs q (inr m) = elim (among_append ps qs q m) [ inl h ↦ inl (inr h) | inr h ↦ inr h ]

among_front : (ps qs : List Pair) (q : Pair) → Among ps q → Among (ps ++ qs) q
among_front [] qs q m = elim m [ ]
among_front (p ∷ ps) qs q (inl is) = inl is
among_front (p ∷ ps) qs q (inr m) = inr (among_front ps qs q m)

among_back : (ps qs : List Pair) (q : Pair) → Among qs q → Among (ps ++ qs) q
among_back [] qs q m = m
among_back (p ∷ ps) qs q m = inr (among_back ps qs q m)

not_open : (ps : List Pair) (p : Pair) → (Among ps p → ⊥) → ¬ (Contains ps p)
not_open ps p new h = new (among_from_contains ps p h)

among_kept : (b : Bool) (p : Pair) (ps kept : List Pair) (q : Pair) → (Among kept q → Among ps q) → Among (cond b (p ∷ kept) kept) q → Among (p ∷ ps) q
among_kept true p ps kept q more (inl is) = inl is
among_kept true p ps kept q more (inr m) = inr (more m)
among_kept false p ps kept q more m = inr (more m)

among_filtered : (test : Pair → Bool) (ps : List Pair) (q : Pair) → Among (filter test ps) q → Among ps q
among_filtered test [] q m = m
among_filtered test (p ∷ ps) q m = among_kept (test p) p ps (filter test ps) q (among_filtered test ps q) m

pub among_of_firsts : (ps : List Pair) (q : Pair) → Among (firsts ps) q → Among ps q
among_of_firsts [] q m = m
among_of_firsts (p ∷ ps) q (inl is) = inl is
among_of_firsts (p ∷ ps) q (inr m) = inr (among_of_firsts ps q (among_filtered (λ r. not (pair_eq p r)) (firsts ps) q m))

-- after a pair is listed, the rest without it still covers all other pairs
covers_at_end : (local target : Table) (listed rest : List Pair) (p : Pair) (fewer : Without rest p) → Covers local target rest listed → Covers local target fewer.rest (listed ++ p ∷ [])
covers_at_end local target listed rest p fewer covers q ids =
    elim (covers q ids) [
      | inl h ↦ inl (Contains-append_left listed (p ∷ []) q h)
      | inr m ↦ elim (fewer.others q m) [
        | inl is ↦ inl (subst (λ (x : Pair). Contains (listed ++ p ∷ []) x) is (Contains-push listed p))
        | inr g ↦ inr g
      ]
    ]

-- the same list, with the pairs that were listed before grouped together
lists_as : (early went before t rest : List Pair) (p : Pair) → before ≡ early ++ p ∷ went → early ++ ((p ∷ (went ++ t)) ++ rest) ≡ before ++ (t ++ rest)
lists_as early went before t rest p is = rw is (simp append_assoc)

lists_on : (early went before t more rest : List Pair) (p : Pair) → before ≡ early ++ p ∷ went → early ++ ((p ∷ (went ++ (t ++ more))) ++ rest) ≡ before ++ (t ++ (more ++ rest))
lists_on early went before t more rest p is = rw is (simp append_assoc)

earlier_or_last : (index place : ℕ) → index < suc place → (index < place) ⊎ (place ≡ index)
earlier_or_last zero zero lt = inr refl
earlier_or_last zero (suc place) lt = inl (omega arith)
earlier_or_last (suc index) zero lt = absurd (omega (arith, lt))
earlier_or_last (suc index) (suc place) lt = elim (earlier_or_last index place (omega (arith, lt))) [ inl less ↦ inl (omega (arith, less)) | inr is ↦ inr (ap (λ (n : ℕ). suc n) is) ]

there_within : (pending : List Pair) (index : ℕ) → index < length pending → (at : Pair) × (slice_get pending index ≡ Some at)
there_within pending index lt = elim (slice_get_cases pending index).1 [ inl h ↦ (h.0, h.2) | inr past ↦ absurd (omega (arith, past.0, lt)) ]

module _ (local target : Table) where
  -- each pair before this place resolves to a pair for which P holds
  abbrev pub AllBefore : List Pair → ℕ → (Pair → Type 0) → Type 0
  AllBefore pending place P = (index : ℕ) → index < place → (at : Pair) → slice_get pending index ≡ Some at → (p : Pair) × ResolvesPair local target at (Ok p) × P p

  -- the same for the parameters of an open pair's position that were compared
  abbrev pub HaveCompared : Frame → (Pair → Type 0) → Type 0
  HaveCompared f P = (pending : List Pair) (to : Pair) → Finds local target f.at (Pending pending to) → AllBefore pending f.parameter P

  -- the comparison of a pair that is started and walked
  walked_pair : (above : List Pair) (p : Pair) (b : Result Bool Refusal) (t : List Pair) → Begins local target p → (Among above p → ⊥) → WalkOf local target above p b t → Plain local target above p b (p ∷ t)
  walked_pair above p b t begins new h = Plain.walked above p begins.0 begins.1 b t (not_open above p new) begins.2 begins.3 h

  module _ (Settled : Pair → Type 0) where
    -- An open pair that is walked: `went` is what it has started. The rest of its walk completes the whole walk, under
    -- any open pairs that are not settled.
    pub record Walks (f : Frame) (went : List Pair) : Type 0 where
      pub begins : Begins local target f.pair
      pub starts : (q : Pair) → Among went q → Settled q
      pub compared : HaveCompared f Settled
      pub goes : (above : List Pair) → AvoidsAll Settled above → (b : Result Bool Refusal) (t : List Pair) → RestOf local target above f b t → WalkOf local target above f.pair b (went ++ t)

    -- The same for an open pair that waits for the answer of p, and then goes on.
    pub record Awaits (g : Frame) (p : Pair) (went : List Pair) : Type 0 where
      pub begins : Begins local target g.pair
      pub starts : (q : Pair) → Among went q → Settled q
      pub compared : HaveCompared g (λ q. Settled q ⊎ (p ≡ q))
      pub fails : (above : List Pair) → AvoidsAll Settled above → (b : Result Bool Refusal) (t : List Pair) → Plain local target (g.pair ∷ above) p b t → b ≢ Ok true → WalkOf local target above g.pair b (went ++ t)
      pub compares_all : (above : List Pair) → AvoidsAll Settled above → (first : List Pair) → Plain local target (g.pair ∷ above) p (Ok true) first → (b : Result Bool Refusal) (t : List Pair) → RestOf local target above g b t
          → WalkOf local target above g.pair b (went ++ (first ++ t))

    -- Each settled pair is compatible under any open pairs that are not settled. It starts only settled pairs, and
    -- always the same list.
    abbrev pub IsClosed : Type 0
    IsClosed = (p : Pair) → Settled p → (starts : List Pair) × ((q : Pair) → Among starts q → Settled q) × ((above : List Pair) → AvoidsAll Settled above → Plain local target above p (Ok true) starts)

    -- The open pairs below p, and what was listed before p. Each of these pairs waits for the one above it.
    abbrev pub IsStack : Pair → List Frame → Pair → List Pair → Type 0
    IsStack root [] p before = (p ≡ root) × (before ≡ [])
    IsStack root (g ∷ below) p before = (early went : List Pair) × (before ≡ early ++ g.pair ∷ went) × IsStack root below g.pair early × Awaits g p went

    -- ---- the steps of a frame

    begun_walks : (p : Pair) → Begins local target p → Walks (new_frame p) []
    begun_walks p begins = record {
      begins = begins;
      starts = λ q m. elim m [ ];
      compared = λ pending to finds index lt. absurd (omega (arith, lt));
      goes = λ above avoids b t h. walked_from_rest local target (p ∷ above) walk_limit p b t h;
    }

    walks_on : (f g : Frame) (went : List Pair) → Walks f went → IsNext local target f (GoesOn g) → Walks g went
    walks_on f g went walks next =
        let on : Frame = record { pair = f.pair; at = next.1; left = next.0; parameter = zero } in
        let to : IsNext local target f (GoesOn on) = (next.0, next.1, next.2, refl, next.4) in
        subst (λ (x : Frame). Walks x went) (sym next.3)
        (record {
          begins = walks.begins;
          starts = walks.starts;
          compared = λ pending to finds index lt. absurd (omega (arith, lt));
          goes = λ above avoids b t h. walks.goes above avoids b t (goes_on_rest local target f on to above b t h);
        })

    -- the parameters that were compared, and the one that the frame waits for now
    compared_or_next : (f : Frame) (p : Pair) (went : List Pair) → Walks f went → IsNext local target f (Waits p (record f { parameter = suc f.parameter })) → (pending : List Pair) (to : Pair) → Finds local target f.at (Pending pending to) → (index : ℕ) (at : Pair) → slice_get pending index ≡ Some at
        → (index < f.parameter) ⊎ (f.parameter ≡ index) → (q : Pair) × ResolvesPair local target at (Ok q) × (Settled q ⊎ (p ≡ q))
    compared_or_next f p went walks next pending to finds index at is (inl lt) = let was = walks.compared pending to finds index lt at is in (was.0, was.1, inl was.2)
    compared_or_next f p went walks next pending to finds index at is (inr last) =
        let is_pending = next.4 in
        let same : next.1 ≡ pending = ap pending_at (one_position local target f.at (Pending next.1 next.2) (Pending pending to) is_pending.0 finds) in
        let there : is_pending.1.0 ≡ at = same_Some is_pending.1.0 at (sym is_pending.1.1 ∙ ap (λ (x : List Pair). slice_get x f.parameter) same ∙ ap (slice_get pending) last ∙ is) in
        (p, subst (λ (x : Pair). ResolvesPair local target x (Ok p)) there is_pending.1.2, inr refl)

    walks_into : (f : Frame) (p : Pair) (went : List Pair) → Walks f went → IsNext local target f (Waits p (record f { parameter = suc f.parameter })) → Awaits (record f { parameter = suc f.parameter }) p went
    walks_into f p went walks next = record {
      begins = walks.begins;
      starts = walks.starts;
      compared = λ pending to finds index lt at is. compared_or_next f p went walks next pending to finds index at is (earlier_or_last index f.parameter lt);
      fails = λ above avoids b t plain not_true. walks.goes above avoids b t (fails_rest local target f (record f { parameter = suc f.parameter }) p next above b t plain not_true);
      compares_all = λ above avoids first plain b t h. walks.goes above avoids b (first ++ t) (compares_rest local target f (record f { parameter = suc f.parameter }) p next above first plain b t h);
    }

    -- a pair goes on with its walk after it got the answer
    compared_walks : (g : Frame) (p : Pair) (went first : List Pair) → Awaits g p went → ((q : Pair) → Among first q → Settled q) → ((above : List Pair) → AvoidsAll Settled above → Plain local target above p (Ok true) first) → (Settled g.pair → ⊥) → Settled p
        → Walks g (went ++ first)
    compared_walks g p went first awaits starts plain not_settled settled = record {
      begins = awaits.begins;
      starts = λ q m. elim (among_append went first q m) [ inl h ↦ awaits.starts q h | inr h ↦ starts q h ];
      compared = λ pending to finds index lt at is. let was = awaits.compared pending to finds index lt at is in (was.0, was.1, elim was.2 [ inl s ↦ s | inr same ↦ subst Settled same settled ]);
      goes = λ above avoids b t h.
          subst (λ (x : List Pair). WalkOf local target above g.pair b x) (sym (append_assoc went first t))
          (awaits.compares_all above avoids first (plain (g.pair ∷ above) (λ q. elim [ inl is ↦ (λ s. not_settled (subst Settled (sym is) s)) | inr m ↦ avoids q m ])) b t h);
    }

    -- ---- the whole invariant

    pub record Run (root : Pair) (top : Frame) (below : List Frame) (listed : List Pair) : Type 0 where
      pub before : List Pair
      pub went : List Pair
      pub stack : IsStack root below top.pair before
      pub walks : Walks top went
      pub lists : firsts (before ++ top.pair ∷ went) ≡ listed
      pub closed : IsClosed
      pub avoids : AvoidsAll Settled (top.pair ∷ open_pairs below)
      pub apart : AreApart (top.pair ∷ open_pairs below)
      pub made_of : (q : Pair) → Among (before ++ top.pair ∷ went) q → Among (top.pair ∷ open_pairs below) q ⊎ Settled q
      pub seen : (q : Pair) → Settled q → Among (before ++ top.pair ∷ went) q
      pub rest : List Pair
      pub covers : Covers local target rest listed
      pub counts : length listed + length rest ≡ length (known_pairs local target)

    pub run_on : (root : Pair) (f g : Frame) (below : List Frame) (listed : List Pair) → Run root f below listed → IsNext local target f (GoesOn g) → Run root g below listed
    run_on root f g below listed run next =
        let on : Frame = record { pair = f.pair; at = next.1; left = next.0; parameter = zero } in
        let to : IsNext local target f (GoesOn on) = (next.0, next.1, next.2, refl, next.4) in
        subst (λ (x : Frame). Run root x below listed) (sym next.3)
        (record {
          before = run.before;
          went = run.went;
          stack = run.stack;
          walks = walks_on f on run.went run.walks to;
          lists = run.lists;
          closed = run.closed;
          avoids = run.avoids;
          apart = run.apart;
          made_of = run.made_of;
          seen = run.seen;
          rest = run.rest;
          covers = run.covers;
          counts = run.counts;
        })

    -- a parameter whose pair is already settled is compared immediately
    pub run_compared : (root : Pair) (f g : Frame) (p : Pair) (below : List Frame) (listed : List Pair) → Run root f below listed → IsNext local target f (Waits p g) → Settled p → Run root g below listed
    run_compared root f g p below listed run next settled =
        let on : Frame = record f { parameter = suc f.parameter } in
        let to : IsNext local target f (Waits p on) = (next.0, next.1, next.2, next.3, next.4, refl) in
        let known = run.closed p settled in
        let listed_so_far = run.before ++ f.pair ∷ run.went in
        let same : run.before ++ f.pair ∷ (run.went ++ known.0) ≡ listed_so_far ++ known.0 = sym (append_assoc run.before (f.pair ∷ run.went) known.0) in
        subst (λ (x : Frame). Run root x below listed) (sym next.5)
        (record {
          before = run.before;
          went = run.went ++ known.0;
          stack = run.stack;
          walks = compared_walks on p run.went known.0 (walks_into f p run.went run.walks to) known.1 known.2 (run.avoids f.pair (inl refl)) settled;
          lists = ap firsts same ∙ firsts_of_known listed_so_far known.0 (λ q m. run.seen q (known.1 q m)) ∙ run.lists;
          closed = run.closed;
          avoids = run.avoids;
          apart = run.apart;
          made_of = λ q m. elim (among_append listed_so_far known.0 q (subst (λ (x : List Pair). Among x q) same m)) [ inl h ↦ run.made_of q h | inr h ↦ inr (known.1 q h) ];
          seen = λ q s. subst (λ (x : List Pair). Among x q) (sym same) (among_front listed_so_far known.0 q (run.seen q s));
          rest = run.rest;
          covers = run.covers;
          counts = run.counts;
        })

    -- If each parameter from here on resolves to a settled pair, all are compared, and the walk goes on.
    pub run_passes : (root : Pair) (many : ℕ) (f : Frame) (n : ℕ) (pending : List Pair) (to : Pair) (below : List Frame) (listed : List Pair) → Run root f below listed → f.left ≡ suc n → Finds local target f.at (Pending pending to) → AllBefore pending (length pending) Settled → f.parameter + many ≡ length pending
        → Run root (record { pair = f.pair; at = to; left = n; parameter = zero }) below listed
    run_passes root zero f n pending to below listed run left finds settled is = run_on root f (record { pair = f.pair; at = to; left = n; parameter = zero }) below listed run (n, to, left, refl, inr (pending, finds, omega (arith, is)))
    run_passes root (suc many) f n pending to below listed run left finds settled is =
        let lt : f.parameter < length pending = omega (arith, is) in
        let there = there_within pending f.parameter lt in
        let compares_all = settled f.parameter lt there.0 there.1 in
        let on : Frame = record f { parameter = suc f.parameter } in
        run_passes root many on n pending to below listed (run_compared root f on compares_all.0 below listed run (n, pending, to, left, (finds, (there.0, there.1, compares_all.1)), refl) compares_all.2) left finds settled (omega (arith, is))

    ids_of : (p : Pair) → Begins local target p → HasIds local target p
    ids_of p begins = (begins.2.0, begins.2.1, begins.2.2.0, begins.2.3.0)

    -- a pair that is neither open nor settled is not listed
    not_listed : (root : Pair) (f : Frame) (below : List Frame) (listed : List Pair) (p : Pair) (run : Run root f below listed) → (Among (f.pair ∷ open_pairs below) p → ⊥) → (Settled p → ⊥) → Among (run.before ++ f.pair ∷ run.went) p → ⊥
    not_listed root f below listed p run not_open_yet not_settled m = elim (run.made_of p m) [ inl h ↦ not_open_yet h | inr s ↦ not_settled s ]

    left_to_list : (root : Pair) (f : Frame) (below : List Frame) (listed : List Pair) (p : Pair) (run : Run root f below listed) → (Among (f.pair ∷ open_pairs below) p → ⊥) → (Settled p → ⊥) → HasIds local target p → Among run.rest p
    left_to_list root f below listed p run not_open_yet not_settled ids =
        elim (run.covers p ids) [
          | inl h ↦ absurd (not_listed root f below listed p run not_open_yet not_settled (among_of_firsts (run.before ++ f.pair ∷ run.went) p (subst (λ (x : List Pair). Among x p) (sym run.lists) (among_from_contains listed p h))))
          | inr m ↦ m
        ]

    -- another pair is started
    pub run_starts : (root : Pair) (f g : Frame) (p : Pair) (below : List Frame) (listed : List Pair) → Run root f below listed → IsNext local target f (Waits p g) → (Among (f.pair ∷ open_pairs below) p → ⊥) → (Settled p → ⊥) → Begins local target p
        → Run root (new_frame p) (g ∷ below) (listed ++ p ∷ [])
    run_starts root f g p below listed run next not_open_yet not_settled begins =
        let on : Frame = record f { parameter = suc f.parameter } in
        let to : IsNext local target f (Waits p on) = (next.0, next.1, next.2, next.3, next.4, refl) in
        let listed_so_far = run.before ++ f.pair ∷ run.went in
        let fewer = without run.rest p (left_to_list root f below listed p run not_open_yet not_settled (ids_of p begins)) in
        subst (λ (x : Frame). Run root (new_frame p) (x ∷ below) (listed ++ p ∷ [])) (sym next.5)
        (record {
          before = listed_so_far;
          went = [];
          stack = (run.before, run.went, refl, run.stack, walks_into f p run.went run.walks to);
          walks = begun_walks p begins;
          lists = firsts_new listed_so_far p (not_listed root f below listed p run not_open_yet not_settled) ∙ ap (λ (x : List Pair). x ++ p ∷ []) run.lists;
          closed = run.closed;
          avoids = λ q. elim [ inl is ↦ (λ s. not_settled (subst Settled (sym is) s)) | inr m ↦ run.avoids q m ];
          apart = (not_open_yet, run.apart);
          made_of = λ q m. elim (among_append listed_so_far (p ∷ []) q m) [
            | inl h ↦ elim (run.made_of q h) [ inl o ↦ inl (inr o) | inr s ↦ inr s ]
            | inr h ↦ inl (among_front (p ∷ []) (f.pair ∷ open_pairs below) q h)
          ];
          seen = λ q s. among_front listed_so_far (p ∷ []) q (run.seen q s);
          rest = fewer.rest;
          covers = covers_at_end local target listed run.rest p fewer run.covers;
          counts = omega (arith, run.counts, fewer.shorter, length-append listed (p ∷ []));
        })

    -- ---- what the whole comparison returns

    -- an answer of p other than true is the answer of each pair that waits for p
    falls : (root : Pair) (below : List Frame) (p : Pair) (before : List Pair) (b : Result Bool Refusal) (t : List Pair) → IsStack root below p before → AvoidsAll Settled (open_pairs below) → AreApart (open_pairs below) → b ≢ Ok true
        → Plain local target (open_pairs below) p b t → Plain local target [] root b (before ++ t)
    falls root [] p before b t stack avoids apart not_true plain =
        subst (λ (x : List Pair). Plain local target [] root b (x ++ t)) (sym stack.1) (subst (λ (x : Pair). Plain local target [] x b t) stack.0 plain)
    falls root (g ∷ below) p before b t stack avoids apart not_true plain =
        let awaits = stack.4 in
        let same : stack.0 ++ (g.pair ∷ (stack.1 ++ t)) ≡ before ++ t = sym (append_assoc stack.0 (g.pair ∷ stack.1) t) ∙ ap (λ (x : List Pair). x ++ t) (sym stack.2) in
        let avoids_below : AvoidsAll Settled (open_pairs below) = λ q m. avoids q (inr m) in
        subst (λ (x : List Pair). Plain local target [] root b x) same
        (falls root below g.pair stack.0 b (g.pair ∷ (stack.1 ++ t)) stack.3 avoids_below apart.1 not_true
        (walked_pair (open_pairs below) g.pair b (stack.1 ++ t) awaits.begins apart.0 (awaits.fails (open_pairs below) avoids_below b t plain not_true)))

    -- whatever the answer of p is, the whole comparison has an answer, and its list begins with what was listed before
    whole_has_answer : HaveKinds local → HaveKinds target → (root : Pair) (below : List Frame) (p : Pair) (before : List Pair) (b : Result Bool Refusal) (t : List Pair) → IsStack root below p before → AvoidsAll Settled (open_pairs below)
        → AreApart (open_pairs below) → Plain local target (open_pairs below) p b t → (a : Result Bool Refusal) × (rest : List Pair) × Plain local target [] root a (before ++ (t ++ rest))
    whole_has_answer ls ts root [] p before b t stack avoids apart plain =
        (b, [], subst (λ (x : List Pair). Plain local target [] root b x) (ap (λ (x : List Pair). x ++ t) (sym stack.1) ∙ ap (λ (x : List Pair). before ++ x) (sym (append-nil t))) (subst (λ (x : Pair). Plain local target [] x b t) stack.0 plain))
    whole_has_answer ls ts root (g ∷ below) p before b t stack avoids apart plain =
        let awaits = stack.4 in
        let avoids_below : AvoidsAll Settled (open_pairs below) = λ q m. avoids q (inr m) in
        let more = rest_answers local target ls ts (open_pairs below) g in
        elim (true_or_not b) [
          | inl is ↦
              let whole = whole_has_answer ls ts root below g.pair stack.0 more.0 (g.pair ∷ (stack.1 ++ (t ++ more.1))) stack.3 avoids_below apart.1
              (walked_pair (open_pairs below) g.pair more.0 (stack.1 ++ (t ++ more.1)) awaits.begins apart.0 (awaits.compares_all (open_pairs below) avoids_below t (subst (λ (x : Result Bool Refusal). Plain local target (g.pair ∷ open_pairs below) p x t) is plain) more.0 more.1 more.2)) in
              (whole.0, more.1 ++ whole.1, subst (λ (x : List Pair). Plain local target [] root whole.0 x) (lists_on stack.0 stack.1 before t more.1 whole.1 g.pair stack.2) whole.2)
          | inr not_true ↦
              let whole = whole_has_answer ls ts root below g.pair stack.0 b (g.pair ∷ (stack.1 ++ t)) stack.3 avoids_below apart.1 (walked_pair (open_pairs below) g.pair b (stack.1 ++ t) awaits.begins apart.0 (awaits.fails (open_pairs below) avoids_below b t plain not_true)) in
              (whole.0, whole.1, subst (λ (x : List Pair). Plain local target [] root whole.0 x) (lists_as stack.0 stack.1 before t whole.1 g.pair stack.2) whole.2)
        ]

    -- The whole comparison returns b, and lists these pairs.
    abbrev pub Outcome : Pair → Result Bool Refusal → List Pair → Type 0
    Outcome root b listed = (starts : List Pair) × Plain local target [] root b starts × (firsts starts ≡ listed)

    -- the pair at the top has its answer when its walk ends
    top_answers : (root : Pair) (f : Frame) (below : List Frame) (listed : List Pair) (run : Run root f below listed) (b : Result Bool Refusal) (t : List Pair) → RestOf local target (open_pairs below) f b t → Plain local target (open_pairs below) f.pair b (f.pair ∷ (run.went ++ t))
    top_answers root f below listed run b t h =
        walked_pair (open_pairs below) f.pair b (run.went ++ t) run.walks.begins run.apart.0 (run.walks.goes (open_pairs below) (λ q m. run.avoids q (inr m)) b t h)

    -- an answer other than true is the answer of the whole comparison
    fails_with : (root : Pair) (f : Frame) (below : List Frame) (listed : List Pair) (run : Run root f below listed) (b : Result Bool Refusal) (t : List Pair) → RestOf local target (open_pairs below) f b t → b ≢ Ok true
        → Plain local target [] root b ((run.before ++ f.pair ∷ run.went) ++ t)
    fails_with root f below listed run b t h not_true =
        subst (λ (x : List Pair). Plain local target [] root b x) (sym (append_assoc run.before (f.pair ∷ run.went) t))
        (falls root below f.pair run.before b (f.pair ∷ (run.went ++ t)) run.stack (λ q m. run.avoids q (inr m)) run.apart.1 not_true (top_answers root f below listed run b t h))

    -- the same if nothing more is listed
    outcome_now : (root : Pair) (f : Frame) (below : List Frame) (listed : List Pair) (run : Run root f below listed) (b : Result Bool Refusal) → RestOf local target (open_pairs below) f b [] → b ≢ Ok true → Outcome root b listed
    outcome_now root f below listed run b h not_true =
        ((run.before ++ f.pair ∷ run.went) ++ [], fails_with root f below listed run b [] h not_true, ap firsts (append-nil (run.before ++ f.pair ∷ run.went)) ∙ run.lists)

    pub run_fails : (root : Pair) (f : Frame) (below : List Frame) (listed : List Pair) → Run root f below listed → (b : Result Bool Refusal) → IsNext local target f (Ends b) → b ≢ Ok true → Outcome root b listed
    run_fails root f below listed run b next not_true = outcome_now root f below listed run b (ends_rest local target f b next (open_pairs below)) not_true

    -- the pair that the top waits for is refused, or incompatible, without being started
    pub run_refused : (root : Pair) (f g : Frame) (p : Pair) (below : List Frame) (listed : List Pair) → Run root f below listed → IsNext local target f (Waits p g) → (b : Result Bool Refusal) → Plain local target (f.pair ∷ open_pairs below) p b [] → b ≢ Ok true → Outcome root b listed
    run_refused root f g p below listed run next b plain not_true = outcome_now root f below listed run b (fails_rest local target f g p next (open_pairs below) b [] plain not_true) not_true

    pub run_differs : (root : Pair) (f g : Frame) (p : Pair) (below : List Frame) (listed : List Pair) → Run root f below listed → IsNext local target f (Waits p g) → (Among (f.pair ∷ open_pairs below) p → ⊥) → (Settled p → ⊥)
        → (b : Result Bool Refusal) → Plain local target (f.pair ∷ open_pairs below) p b (p ∷ []) → b ≢ Ok true → Outcome root b (listed ++ p ∷ [])
    run_differs root f g p below listed run next not_open_yet not_settled b plain not_true = (
      (run.before ++ f.pair ∷ run.went) ++ p ∷ [],
      fails_with root f below listed run b (p ∷ []) (fails_rest local target f g p next (open_pairs below) b (p ∷ []) plain not_true) not_true,
      firsts_new (run.before ++ f.pair ∷ run.went) p (not_listed root f below listed p run not_open_yet not_settled) ∙ ap (λ (x : List Pair). x ++ p ∷ []) run.lists,
    )

    -- the last open pair is the root
    pub run_ends : (root : Pair) (f : Frame) (listed : List Pair) → Run root f [] listed → IsNext local target f (Ends (Ok true)) → Outcome root (Ok true) listed
    run_ends root f listed run next =
        let plain : Plain local target [] f.pair (Ok true) (f.pair ∷ (run.went ++ [])) = top_answers root f [] listed run (Ok true) [] (ends_rest local target f (Ok true) next []) in
        let same : f.pair ∷ (run.went ++ []) ≡ run.before ++ f.pair ∷ run.went = ap (λ (x : List Pair). f.pair ∷ x) (append-nil run.went) ∙ ap (λ (x : List Pair). x ++ f.pair ∷ run.went) (sym run.stack.1) in
        (f.pair ∷ (run.went ++ []), subst (λ (x : Pair). Plain local target [] x (Ok true) (f.pair ∷ (run.went ++ []))) run.stack.0 plain, ap firsts same ∙ run.lists)

    -- The list of the whole comparison begins with what is listed so far.
    abbrev pub BeginsWith : Pair → List Pair → Type 0
    BeginsWith root listed = (b : Result Bool Refusal) × (starts rest : List Pair) × Plain local target [] root b starts × (firsts starts ≡ listed ++ rest)

    pub run_begins : HaveKinds local → HaveKinds target → (root : Pair) (f : Frame) (below : List Frame) (listed : List Pair) → Run root f below listed → BeginsWith root listed
    run_begins ls ts root f below listed run =
        let more = rest_answers local target ls ts (open_pairs below) f in
        let whole = whole_has_answer ls ts root below f.pair run.before more.0 (f.pair ∷ (run.went ++ more.1)) run.stack (λ q m. run.avoids q (inr m)) run.apart.1 (top_answers root f below listed run more.0 more.1 more.2) in
        let behind = firsts_begin (run.before ++ f.pair ∷ run.went) (more.1 ++ whole.1) in (
          whole.0,
          run.before ++ ((f.pair ∷ (run.went ++ more.1)) ++ whole.1),
          behind.0,
          whole.2,
          ap firsts (lists_as run.before run.went (run.before ++ f.pair ∷ run.went) more.1 whole.1 f.pair refl) ∙ behind.1 ∙ ap (λ (x : List Pair). x ++ behind.0) run.lists,
        )

    -- a run begins with its root
    pub run_begun : (root : Pair) → Begins local target root → ((q : Pair) → Settled q → ⊥) → Run root (new_frame root) [] (root ∷ [])
    run_begun root begins none =
        let fewer = without (known_pairs local target) root (known_pairs_among local target root (ids_of root begins)) in
        record {
          before = [];
          went = [];
          stack = (refl, refl);
          walks = begun_walks root begins;
          lists = refl;
          closed = λ q s. absurd (none q s);
          avoids = λ q m s. none q s;
          apart = ((λ m. m), tt);
          made_of = λ q m. inl m;
          seen = λ q s. absurd (none q s);
          rest = fewer.rest;
          covers = covers_at_end local target [] (known_pairs local target) root fewer (known_pairs_cover local target []);
          counts = omega (arith, fewer.shorter);
        }

  -- ---- one more pair is settled

  module _ (Settled More : Pair → Type 0) (more : (q : Pair) → Settled q → More q) where
    avoids_less : (ps : List Pair) → AvoidsAll More ps → AvoidsAll Settled ps
    avoids_less ps avoids q m s = avoids q m (more q s)

    awaits_more : (g : Frame) (p : Pair) (went : List Pair) → Awaits Settled g p went → Awaits More g p went
    awaits_more g p went awaits = record {
      begins = awaits.begins;
      starts = λ q m. more q (awaits.starts q m);
      compared = λ pending to finds index lt at is. let was = awaits.compared pending to finds index lt at is in (was.0, was.1, elim was.2 [ inl s ↦ inl (more was.0 s) | inr same ↦ inr same ]);
      fails = λ above avoids. awaits.fails above (avoids_less above avoids);
      compares_all = λ above avoids. awaits.compares_all above (avoids_less above avoids);
    }

    stack_more : (root : Pair) (below : List Frame) (p : Pair) (before : List Pair) → IsStack Settled root below p before → IsStack More root below p before
    stack_more root [] p before stack = stack
    stack_more root (g ∷ below) p before stack = (stack.0, stack.1, stack.2, stack_more root below g.pair stack.0 stack.3, awaits_more g p stack.1 stack.4)

    -- the pair at the top is compatible, and so is settled
    module _ (root : Pair) (f : Frame) (below : List Frame) (listed : List Pair) (run : Run Settled root f below listed) (next : IsNext local target f (Ends (Ok true))) (settled : More f.pair) (either : (q : Pair) → More q → Settled q ⊎ (f.pair ≡ q)) where
      its_starts : (q : Pair) → Among (f.pair ∷ run.went) q → More q
      its_starts q (inl is) = subst More is settled
      its_starts q (inr m) = more q (run.walks.starts q m)

      is_plain : (above : List Pair) → AvoidsAll More above → Plain local target above f.pair (Ok true) (f.pair ∷ run.went)
      is_plain above avoids =
          walked_pair above f.pair (Ok true) run.went run.walks.begins (λ m. avoids f.pair m settled)
          (subst (λ (x : List Pair). WalkOf local target above f.pair (Ok true) x) (append-nil run.went) (run.walks.goes above (avoids_less above avoids) (Ok true) [] (ends_rest local target f (Ok true) next above)))

      now_closed : IsClosed More
      now_closed p m =
          elim (either p m) [
            | inl s ↦ let known = run.closed p s in (known.0, (λ q h. more q (known.1 q h)), (λ above avoids. known.2 above (avoids_less above avoids)))
            | inr is ↦ (f.pair ∷ run.went, its_starts, λ above avoids. subst (λ (x : Pair). Plain local target above x (Ok true) (f.pair ∷ run.went)) is (is_plain above avoids))
          ]

    -- and the pair below it goes on
    pub run_settles : (root : Pair) (f g : Frame) (below : List Frame) (listed : List Pair) → Run Settled root f (g ∷ below) listed → IsNext local target f (Ends (Ok true)) → More f.pair → ((q : Pair) → More q → Settled q ⊎ (f.pair ≡ q)) → Run More root g below listed
    run_settles root f g below listed run next settled either =
        let early = run.stack.0 in
        let went = run.stack.1 in
        let same : early ++ g.pair ∷ (went ++ (f.pair ∷ run.went)) ≡ run.before ++ f.pair ∷ run.went = sym (append_assoc early (g.pair ∷ went) (f.pair ∷ run.went)) ∙ ap (λ (x : List Pair). x ++ f.pair ∷ run.went) (sym run.stack.2) in
        let avoids : AvoidsAll More (open_pairs (g ∷ below)) = λ q m s. elim (either q s) [ inl h ↦ run.avoids q (inr m) h | inr is ↦ run.apart.0 (subst (λ (x : Pair). Among (open_pairs (g ∷ below)) x) (sym is) m) ] in
        record {
          before = early;
          went = went ++ (f.pair ∷ run.went);
          stack = stack_more root below g.pair early run.stack.3;
          walks = compared_walks More g f.pair went (f.pair ∷ run.went) (awaits_more g f.pair went run.stack.4) (its_starts root f (g ∷ below) listed run next settled either) (is_plain root f (g ∷ below) listed run next settled either) (avoids g.pair (inl refl)) settled;
          lists = ap firsts same ∙ run.lists;
          closed = now_closed root f (g ∷ below) listed run next settled either;
          avoids = avoids;
          apart = run.apart.1;
          made_of = λ q m. elim (run.made_of q (subst (λ (x : List Pair). Among x q) same m)) [
            | inl o ↦ elim o [ inl is ↦ inr (subst More is settled) | inr h ↦ inl h ]
            | inr s ↦ inr (more q s)
          ];
          seen = λ q s. subst (λ (x : List Pair). Among x q) (sym same) (elim (either q s) [ inl h ↦ run.seen q h | inr is ↦ among_back run.before (f.pair ∷ run.went) q (inl is) ]);
          rest = run.rest;
          covers = run.covers;
          counts = run.counts;
        }
