-- Comparisons of pairs of types that remember their answers have the results of the comparisons that remember none.
use Rattle.std.proofs.Common.{◌≡◌, ℕ, zero, suc, ◌-◌, ◌<◌, ◌≤◌, List, [], ◌∷◌, ◌++◌, Bool, true, false, Option, Some, None, Result, Ok, Err, refl, sym, ap, subst, ◌∙◌, inl, inr, arith}
use Rattle.std.specs.Prelude.{◌⊎◌, reverse}
use Rattle.std.specs.Result.{IsErrAnd}
use Rattle.std.proofs.lemmas.List.{reverse-append}
use Rattle.std.specs.BTreeMap.{Updates, IsEmpty}
use Rattle.std.proofs.lemmas.Bool.{cases_Bool}
use Rattle.btf_model.specs.Walk.{walk_limit}
use Rattle.btf_model.specs.Table.{Table}
use Rattle.btf_relocate_model.specs.Comparison as model
use Rattle.btf_relocate_model.specs.Comparison.{Comparison, compared, pair_count, resolved_pair, same_pair, walked, each_member, each_parameter, decided, step_at}
use Rattle.btf_relocate_model.specs.Field.{Member}
use Rattle.btf_relocate_model.specs.Types.{◌>>=◌}
use Rattle.btf_relocate_model.specs.declared.comparison.Pair.{Pair}
use Rattle.btf_relocate_model.specs.declared.error.RelocationError.{RelocationError}
use Rattle.btf_relocate_model.specs.declared.error.RelocationError.TheVariants.{OutOfMemory, MaximumTypeDepthReached}
use Rattle.btf_relocate.specs.Comparing.{Answers, known_answer, is_among, pair_cmp, InTables, left_of, Unanswered, AreResults, inside, GoesOn, WaitsFor, starts, AreWaiting, AreBegun, HaveComparisons, IsUnderWay, beginning, IsAsked, RunsOn}
use Rattle.btf_relocate.specs.Steps.{Compare, Continues, NextMember, after_comparison, next_of, rest, rest_by, resumed, from_member}
use Rattle.btf_relocate.specs.declared.types.Frame.{Frame}
use Rattle.btf_relocate.specs.declared.types.Progress.{Progress}
use Rattle.btf_relocate.specs.declared.types.walk.Next.{Next}
use Rattle.btf_relocate.specs.declared.types.walk.Next.TheVariants as next
use Rattle.btf_relocate.proofs.Compatibles.{from_err}
use Rattle.btf_relocate.proofs.Pairs.{at_same, same_itself, same_is, same_turned, fewer_left, all_left, pair_within}

-- ---- the beginning of a comparison

member_start : (inner : Compare) (local target : Table) (others ms : List Member) → from_member inner local target others others ms ≡ each_member inner local target others ms
member_start inner local target others [] = refl
member_start inner local target others (m ∷ ms) = refl

step_start : (inner further : Compare) (c : Comparison) (s : model.Step) → resumed inner further c.local c.target s 0 0 None ≡ decided inner further c s
step_start inner further c (model.Ends b) = refl
step_start inner further c (model.GoesOn p) = refl
step_start inner further c (model.EachParameter types others p) = refl
step_start inner further c (model.EachMember ms others) = member_start inner c.local c.target others ms

then_start : (inner further : Compare) (c : Comparison) (o : Result model.Step RelocationError)
    → (o >>= λ s. resumed inner further c.local c.target s 0 0 None) ≡ (o >>= decided inner further c)
then_start inner further c (Ok s) = step_start inner further c s
then_start inner further c (Err e) = refl

at_start : (inner further : Compare) (c : Comparison) (o : Result Pair RelocationError)
    → (o >>= λ p. step_at c p >>= λ s. resumed inner further c.local c.target s 0 0 None) ≡ (o >>= λ p. step_at c p >>= decided inner further c)
at_start inner further c (Ok p) = then_start inner further c (step_at c p)
at_start inner further c (Err e) = refl

-- a position with nothing passed
pub from_start : (inner : Compare) (c : Comparison) (start at : Pair) (n : ℕ)
    → rest inner c (record { start = start; at = at; left = n; index = 0; other = 0 }) None ≡ walked n c start.local inner at
unfolding walked
from_start inner c start at zero = refl
from_start inner c start at (suc n) = at_start inner (walked n c start.local inner) c (resolved_pair c at)

compared_suc : (c : Comparison) (room : ℕ) (begun : List Pair) (p : Pair) → is_among p begun ≡ false
    → compared (suc room) c begun p ≡ walked walk_limit c p.local (inside room c begun p) p
unfolding compared
compared_suc c room begun p out = rw out refl

-- a pair that is begun is refused
refused : (c : Comparison) (room : ℕ) (begun : List Pair) (p : Pair) → is_among p begun ≡ true → compared room c begun p ≡ Err (MaximumTypeDepthReached p.local)
unfolding compared
refused c zero begun p met = refl
refused c (suc room) begun p met = rw met refl

-- ---- room

has_room : (n room : ℕ) → n < room → (k : ℕ) × (room ≡ suc k)
has_room n zero lt = absurd (omega (arith, lt))
has_room n (suc k) lt = (k, refl)

-- there is room for a pair that is not begun
room_for : (c : Comparison) (p : Pair) (begun : List Pair) (room : ℕ) → InTables c p → is_among p begun ≡ false → left_of c begun ≤ room → (k : ℕ) × (room ≡ suc k)
room_for c p begun room within out le =
    let less : left_of c (p ∷ begun) < left_of c begun = fewer_left c p begun within out in
    has_room (left_of c (p ∷ begun)) room (omega (arith, less, le))

room_inside : (c : Comparison) (p : Pair) (begun : List Pair) (room : ℕ) → InTables c p → is_among p begun ≡ false → left_of c begun ≤ suc room → left_of c (p ∷ begun) ≤ room
room_inside c p begun room within out le =
    let less : left_of c (p ∷ begun) < left_of c begun = fewer_left c p begun within out in
    omega (arith, less, le)

-- ---- what is remembered

module _ (m n : Answers) (p : Pair) (o : Option Bool) (set : Updates pair_cmp m n p (Some o)) where
  here : known_answer n p ≡ Some o
  here = set.1

  elsewhere : (q : Pair) → same_pair p q ≡ false → known_answer n q ≡ known_answer m q
  elsewhere q differs = set.2 q (sym (at_same p q) ∙ differs)

differs_by : (m : Answers) (p q : Pair) (a b : Option (Option Bool)) → known_answer m p ≡ a → known_answer m q ≡ b → (a ≡ b → ⊥) → same_pair p q ≡ false
differs_by m p q a b one other apart = elim (cases_Bool (same_pair p q)) [
  | inl same ↦ absurd (apart (sym one ∙ ap (known_answer m) (same_is p q same) ∙ other))
  | inr differs ↦ differs
]

-- an answer that is set is the only new one
unanswered_before : (m n : Answers) (p : Pair) (o : Option Bool) → Updates pair_cmp m n p (Some o) → (known_answer m p ≡ None) ⊎ (known_answer m p ≡ Some None) → (begun : List Pair) → Unanswered n begun → Unanswered m begun
unanswered_before m n p o set before begun now q b is = elim (cases_Bool (same_pair p q)) [
  | inl same ↦ elim before [
    | inl none ↦ absurd (let wrong : None ≡ Some (Some b) = sym none ∙ ap (known_answer m) (same_is p q same) ∙ is in cc)
    | inr open_one ↦ absurd (let wrong : Some None ≡ Some (Some b) = sym open_one ∙ ap (known_answer m) (same_is p q same) ∙ is in cc)
  ]
  | inr differs ↦ now q b (elsewhere m n p o set q differs ∙ is)
]

module _ (c : Comparison) where
  -- ---- comparisons that wait stay the same when an answer is added
  module _ (m n : Answers) (fewer_begun : (begun : List Pair) → Unanswered n begun → Unanswered m begun) where
    waits_on : (f : Frame) (p : Pair) → WaitsFor c m f p → WaitsFor c n f p
    waits_on f p waits room begun le none out = waits room begun le (fewer_begun begun none) out

    goes_on_with : (f : Frame) (a : Option Bool) → GoesOn c m f a → GoesOn c n f a
    goes_on_with f a goes room begun le none out = goes room begun le (fewer_begun begun none) out

    waiting_on : (root : Pair) (fs : List Frame) (p : Pair) → ((q : Pair) → is_among q (starts fs) ≡ true → known_answer n q ≡ known_answer m q)
        → AreWaiting c root m fs p → AreWaiting c root n fs p
    waiting_on root [] p same is = is
    waiting_on root (f ∷ fs) p same is =
        let front : is_among f.start (starts (f ∷ fs)) ≡ true = rw (same_itself f.start) refl in (
          waits_on f p is.0,
          record { within = is.1.within; no_answer = same f.start front ∙ is.1.no_answer; once = is.1.once },
          waiting_on root fs f.start (λ q among. same q (later q f fs among)) is.2,
        )
      where
        later : (q : Pair) (f : Frame) (fs : List Frame) → is_among q (starts fs) ≡ true → is_among q (starts (f ∷ fs)) ≡ true
        later q f fs among = elim (cases_Bool (same_pair q f.start)) [ inl same ↦ rw same refl | inr differs ↦ rw differs among ]

  -- ---- the pairs of the comparisons that are begun have no answer
  start_open : (m : Answers) (root : Pair) (fs : List Frame) (p q : Pair) → AreWaiting c root m fs p → is_among q (starts fs) ≡ true → known_answer m q ≡ Some None
  start_open m root [] p q waiting among = absurd (cc)
  start_open m root (f ∷ fs) p q waiting among = elim (cases_Bool (same_pair q f.start)) [
    | inl same ↦ ap (known_answer m) (same_is q f.start same) ∙ waiting.1.no_answer
    | inr differs ↦ start_open m root fs f.start q waiting.2 (let more : is_among q (starts fs) ≡ true = rw differs at among in more)
  ]

  starts_unanswered : (m : Answers) (root : Pair) (fs : List Frame) (p : Pair) → AreWaiting c root m fs p → Unanswered m (starts fs)
  starts_unanswered m root fs p waiting q b is = elim (cases_Bool (is_among q (starts fs))) [
    | inl among ↦ absurd (let wrong : Some None ≡ Some (Some b) = sym (start_open m root fs p q waiting among) ∙ is in cc)
    | inr out ↦ out
  ]

  -- a begun pair is outside those that have an answer
  unanswered_inside : (m : Answers) (p : Pair) (begun : List Pair) → known_answer m p ≡ Some None → Unanswered m begun → Unanswered m (p ∷ begun)
  unanswered_inside m p begun no_answer none q b is =
      let apart : same_pair q p ≡ false = differs_by m q p (Some (Some b)) (Some None) is no_answer (λ wrong. cc) in
      let out : is_among q begun ≡ false = none q b is in
      rw (apart, out) refl

  -- ---- an error goes up to the root
  fails_up : (m : Answers) (root : Pair) (fs : List Frame) (p : Pair) (e : RelocationError) → AreWaiting c root m fs p
      → ((room : ℕ) → left_of c (starts fs) ≤ room → compared room c (starts fs) p ≡ Err e) → compared (pair_count c) c [] root ≡ Err e
  fails_up m root [] p e is fails = ap (compared (pair_count c) c []) (sym is) ∙ fails (pair_count c) (all_left c)
  fails_up m root (f ∷ fs) p e is fails = fails_up m root fs f.start e is.2 (λ room le. up room (room_for c f.start (starts fs) room is.1.within is.1.once le) le)
    where
      up : (room : ℕ) → (k : ℕ) × (room ≡ suc k) → left_of c (starts fs) ≤ room → compared room c (starts fs) f.start ≡ Err e
      up room (k, same) le =
          let le-suc : left_of c (starts fs) ≤ suc k = omega (arith, le, same) in
          let inner : compared k c (f.start ∷ starts fs) p ≡ Err e = fails k (room_inside c f.start (starts fs) k is.1.within is.1.once le-suc) in
          ap (λ (r : ℕ). compared r c (starts fs) f.start) same
          ∙ sym (is.0 k (starts fs) le-suc (starts_unanswered m root fs f.start is.2) is.1.once)
          ∙ ap (λ (o : Result Bool RelocationError). o >>= λ b. rest (inside k c (starts fs) f.start) c f (Some b)) inner

  -- the comparison at the front has an error
  pub fails : (m : Answers) (root : Pair) (f : Frame) (fs : List Frame) (a : Option Bool) (e : RelocationError) → IsUnderWay c root m (f ∷ fs) a
      → ((room : ℕ) (begun : List Pair) → begun ≡ starts fs → rest (inside room c begun f.start) c f a ≡ Err e) → compared (pair_count c) c [] root ≡ Err e
  fails m root f fs a e under error =
      fails_up m root fs f.start e under.begun.2 (λ room le. up room (room_for c f.start (starts fs) room under.begun.1.within under.begun.1.once le) le)
    where
      up : (room : ℕ) → (k : ℕ) × (room ≡ suc k) → left_of c (starts fs) ≤ room → compared room c (starts fs) f.start ≡ Err e
      up room (k, same) le =
          ap (λ (r : ℕ). compared r c (starts fs) f.start) same
          ∙ sym (under.begun.0 k (starts fs) (omega (arith, le, same)) (starts_unanswered m root fs f.start under.begun.2) under.begun.1.once)
          ∙ error k (starts fs) refl

  -- ---- the comparison at the front ends

  apart_from : (p q : Pair) (fs : List Frame) → is_among q (starts fs) ≡ true → is_among p (starts fs) ≡ false → same_pair p q ≡ false
  apart_from p q fs among out = elim (cases_Bool (same_pair p q)) [
    | inl same ↦ absurd (let wrong : true ≡ false = sym among ∙ ap (λ (r : Pair). is_among r (starts fs)) (sym (same_is p q same)) ∙ out in cc)
    | inr differs ↦ differs
  ]

  module _ (m n : Answers) (root : Pair) (f : Frame) (fs : List Frame) (a : Option Bool) (b : Bool) (under : IsUnderWay c root m (f ∷ fs) a)
      (over : (inner : Compare) → Ok b ≡ rest inner c f a) (set : Updates pair_cmp m n f.start (Some (Some b))) where
    before : (begun : List Pair) → Unanswered n begun → Unanswered m begun
    before = unanswered_before m n f.start (Some b) set (inr under.begun.1.no_answer)

    own : (room : ℕ) (begun : List Pair) → left_of c begun ≤ room → Unanswered n begun → compared room c begun f.start ≡ Ok b
    own room begun le none =
        let out : is_among f.start begun ≡ false = none f.start b (here m n f.start (Some b) set) in
        by_room out (room_for c f.start begun room under.begun.1.within out le)
      where
        by_room : is_among f.start begun ≡ false → (k : ℕ) × (room ≡ suc k) → compared room c begun f.start ≡ Ok b
        by_room out (k, same) =
            ap (λ (r : ℕ). compared r c begun f.start) same
            ∙ sym (under.begun.0 k begun (omega (arith, le, same)) (before begun none) out) ∙ sym (over (inside k c begun f.start))

    ended_results : AreResults c n
    ended_results q b-2 is room begun le none = elim (cases_Bool (same_pair f.start q)) [
      | inl same ↦
          let this : f.start ≡ q = same_is f.start q same in
          let answer : Some (Some b) ≡ Some (Some b-2) = sym (here m n f.start (Some b) set) ∙ ap (known_answer n) this ∙ is in
          let value : b ≡ b-2 = cc in
          ap (compared room c begun) (sym this) ∙ own room begun le none ∙ ap (λ (x : Bool). let r : Result Bool RelocationError = Ok x in r) value
      | inr differs ↦ under.results q b-2 (sym (elsewhere m n f.start (Some b) set q differs) ∙ is) room begun le (before begun none)
    ]

    ended_found : HaveComparisons n fs
    ended_found q is = elim (cases_Bool (same_pair f.start q)) [
      | inl same ↦ absurd (let wrong : Some (Some b) ≡ Some None = sym (here m n f.start (Some b) set) ∙ ap (known_answer n) (same_is f.start q same) ∙ is in cc)
      | inr differs ↦
          let among : is_among q (starts (f ∷ fs)) ≡ true = under.found q (sym (elsewhere m n f.start (Some b) set q differs) ∙ is) in
          let apart : same_pair q f.start ≡ false = sym (same_turned f.start q) ∙ differs in
          let more : is_among q (starts fs) ≡ true = rw apart at among in
          more
    ]

    ended_begun : (gs : List Frame) → gs ≡ fs → AreWaiting c root m gs f.start → is_among f.start (starts gs) ≡ false → AreBegun c root n gs (Some b)
    ended_begun [] same waiting out = (b, refl, ap (compared (pair_count c) c []) (sym waiting) ∙ own (pair_count c) [] (all_left c) (λ q x is. refl))
    ended_begun (g ∷ gs) same waiting out =
        let apart : same_pair f.start g.start ≡ false = apart_from f.start g.start (g ∷ gs) (let front : is_among g.start (starts (g ∷ gs)) ≡ true = rw (same_itself g.start) refl in front) out in
        let no_answer : known_answer n g.start ≡ Some None = elsewhere m n f.start (Some b) set g.start apart ∙ waiting.1.no_answer in (
          (λ room begun le none out_of.
              sym (ap (λ (o : Result Bool RelocationError). o >>= λ x. rest (inside room c begun g.start) c g (Some x))
              (own room (g.start ∷ begun) (room_inside c g.start begun room waiting.1.within out_of le) (unanswered_inside n g.start begun no_answer none)))
              ∙ waiting.0 room begun le (before begun none) out_of),
          record { within = waiting.1.within; no_answer = no_answer; once = waiting.1.once },
          waiting_on m n before root gs g.start
              (λ q among. elsewhere m n f.start (Some b) set q (apart_from f.start q (g ∷ gs) (later q among) out)) waiting.2,
        )
      where
        later : (q : Pair) → is_among q (starts gs) ≡ true → is_among q (starts (g ∷ gs)) ≡ true
        later q among = elim (cases_Bool (same_pair q g.start)) [ inl is ↦ rw is refl | inr differs ↦ rw differs among ]

    pub ends : IsUnderWay c root n fs (Some b)
    ends = record {
      results = ended_results;
      found = ended_found;
      begun = ended_begun fs refl under.begun.2 under.begun.1.once;
    }

  -- ---- the comparison at the front goes on

  abbrev pub moved : Frame → Pair → ℕ → ℕ → ℕ → Frame
  moved f at left index other = record { start = f.start; at = at; left = left; index = index; other = other }

  module _ (m : Answers) (root : Pair) (f : Frame) (fs : List Frame) (a : Option Bool) (under : IsUnderWay c root m (f ∷ fs) a) (at : Pair) (left index other : ℕ) where
    moved_on : (b : Option Bool) → GoesOn c m (moved f at left index other) b → IsUnderWay c root m (moved f at left index other ∷ fs) b
    moved_on b goes = record {
      results = under.results;
      found = under.found;
      begun = (goes, record { within = under.begun.1.within; no_answer = under.begun.1.no_answer; once = under.begun.1.once }, under.begun.2);
    }

    -- the comparison asks for another pair
    abbrev pub Asks : Pair → Type 0
    Asks p = (inner : Compare) → (inner p >>= λ b. rest inner c (moved f at left index other) (Some b)) ≡ rest inner c f a

    asked_inside : (p q : Pair) → resolved_pair c p ≡ Ok q → (room : ℕ) (begun : List Pair) → inside room c begun f.start p ≡ compared room c (f.start ∷ begun) q
    asked_inside p q is room begun = ap (λ (o : Result Pair RelocationError). o >>= compared room c (f.start ∷ begun)) is

    waits : (p q : Pair) → Asks p → resolved_pair c p ≡ Ok q → WaitsFor c m (moved f at left index other) q
    waits p q asks is room begun le none out =
        ap (λ (o : Result Bool RelocationError). o >>= λ b. rest (inside room c begun f.start) c (moved f at left index other) (Some b)) (sym (asked_inside p q is room begun))
        ∙ asks (inside room c begun f.start) ∙ under.begun.0 room begun le none out

    -- the pair has an answer
    answered : (p q : Pair) (b : Bool) → Asks p → resolved_pair c p ≡ Ok q → known_answer m q ≡ Some (Some b) → IsUnderWay c root m (moved f at left index other ∷ fs) (Some b)
    answered p q b asks is answer =
        moved_on (Some b) (λ room begun le none out.
        sym (ap (λ (o : Result Bool RelocationError). o >>= λ x. rest (inside room c begun f.start) c (moved f at left index other) (Some x))
        (under.results q b answer room (f.start ∷ begun) (room_inside c f.start begun room under.begun.1.within out le) (unanswered_inside m f.start begun under.begun.1.no_answer none)))
        ∙ waits p q asks is room begun le none out)

    -- an error of the pair
    asked_fails : (p : Pair) (e : RelocationError) → Asks p → ((room : ℕ) (begun : List Pair) → begun ≡ starts fs → inside room c begun f.start p ≡ Err e) → compared (pair_count c) c [] root ≡ Err e
    asked_fails p e asks error =
        fails m root f fs a e under (λ room begun same.
        sym (asks (inside room c begun f.start))
        ∙ ap (λ (o : Result Bool RelocationError). o >>= λ x. rest (inside room c begun f.start) c (moved f at left index other) (Some x)) (error room begun same))

    unresolved : (p : Pair) (e : RelocationError) → Asks p → resolved_pair c p ≡ Err e → compared (pair_count c) c [] root ≡ Err e
    unresolved p e asks is = asked_fails p e asks (λ room begun same. ap (λ (o : Result Pair RelocationError). o >>= compared room c (f.start ∷ begun)) is)

    -- the pair is met inside its own comparison
    met_again : (p q : Pair) → Asks p → resolved_pair c p ≡ Ok q → known_answer m q ≡ Some None → compared (pair_count c) c [] root ≡ Err (MaximumTypeDepthReached q.local)
    met_again p q asks is no_answer =
        asked_fails p (MaximumTypeDepthReached q.local) asks (λ room begun same.
        asked_inside p q is room begun
        ∙ ap (λ (ps : List Pair). compared room c (f.start ∷ ps) q) same ∙ refused c room (starts (f ∷ fs)) q (under.found q no_answer))

    -- the comparison of the pair begins
    module _ (n : Answers) (p q : Pair) (asks : Asks p) (is : resolved_pair c p ≡ Ok q) (new : known_answer m q ≡ None) (set : Updates pair_cmp m n q (Some None)) where
      begun_before : (begun : List Pair) → Unanswered n begun → Unanswered m begun
      begun_before = unanswered_before m n q None set (inl new)

      all_waiting : AreWaiting c root m (moved f at left index other ∷ fs) q
      all_waiting = (
        waits p q asks is,
        record { within = under.begun.1.within; no_answer = under.begun.1.no_answer; once = under.begun.1.once },
        under.begun.2,
      )

      outside : is_among q (starts (moved f at left index other ∷ fs)) ≡ false
      outside = elim (cases_Bool (is_among q (starts (moved f at left index other ∷ fs)))) [
        | inl among ↦ absurd (let wrong : Some None ≡ None = sym (start_open m root (moved f at left index other ∷ fs) q q all_waiting among) ∙ new in cc)
        | inr out ↦ out
      ]

      begun_results : AreResults c n
      begun_results r b answer room begun le none = elim (cases_Bool (same_pair q r)) [
        | inl same ↦ absurd (let wrong : Some None ≡ Some (Some b) = sym (here m n q None set) ∙ ap (known_answer n) (same_is q r same) ∙ answer in cc)
        | inr differs ↦ under.results r b (sym (elsewhere m n q None set r differs) ∙ answer) room begun le (begun_before begun none)
      ]

      begun_found : HaveComparisons n (beginning q ∷ moved f at left index other ∷ fs)
      begun_found r answer = elim (cases_Bool (same_pair r q)) [
        | inl same ↦ rw same refl
        | inr differs ↦
            let among : is_among r (starts (f ∷ fs)) ≡ true = under.found r (sym (elsewhere m n q None set r (sym (same_turned r q) ∙ differs)) ∙ answer) in
            rw differs among
      ]

      pub begins : IsUnderWay c root n (beginning q ∷ moved f at left index other ∷ fs) None
      begins = record {
        results = begun_results;
        found = begun_found;
        begun = (
          (λ room begun le none out. from_start (inside room c begun q) c q q walk_limit ∙ sym (compared_suc c room begun q out)),
          record { within = pair_within c p q is; no_answer = here m n q None set; once = outside },
          waiting_on m n begun_before root (moved f at left index other ∷ fs) q
              (λ r among. elsewhere m n q None set r (apart_from q r (moved f at left index other ∷ fs) among outside)) all_waiting,
        );
      }

  -- ---- from the first pair to the result

  pub first : (m n : Answers) (p q : Pair) → IsEmpty m → resolved_pair c p ≡ Ok q → Updates pair_cmp m n q (Some None) → IsUnderWay c q n (beginning q ∷ []) None
  first m n p q empty is set = record {
    results = λ r b answer room begun le none. absurd (only r (Some b) answer (λ wrong. cc));
    found = λ r answer. elim (cases_Bool (same_pair r q)) [
      | inl same ↦ rw same refl
      | inr differs ↦ absurd (let wrong : None ≡ Some None = sym (none_in r) ∙ sym (elsewhere m n q None set r (sym (same_turned r q) ∙ differs)) ∙ answer in cc)
    ];
    begun = (
      (λ room begun le none out. from_start (inside room c begun q) c q q walk_limit ∙ sym (compared_suc c room begun q out)),
      record { within = pair_within c p q is; no_answer = here m n q None set; once = refl },
      refl,
    );
  }
    where
      none_in : (r : Pair) → known_answer m r ≡ None
      none_in r = rw empty refl

      only : (r : Pair) (o : Option Bool) → known_answer n r ≡ Some o → (o ≡ None → ⊥) → ⊥
      only r o answer some = elim (cases_Bool (same_pair q r)) [
        | inl same ↦ some (let both : Some None ≡ Some o = sym (here m n q None set) ∙ ap (known_answer n) (same_is q r same) ∙ answer in let value : None ≡ o = cc in sym value)
        | inr differs ↦ let wrong : None ≡ Some o = sym (none_in r) ∙ sym (elsewhere m n q None set r differs) ∙ answer in cc
      ]

  -- the comparison at the front has another position
  pub goes_on : (m : Answers) (root : Pair) (f : Frame) (fs : List Frame) (a : Option Bool) (under : IsUnderWay c root m (f ∷ fs) a) (at : Pair) (left : ℕ) → left ≡ f.left - 1
      → ((inner : Compare) → walked (f.left - 1) c f.start.local inner at ≡ rest inner c f a) → IsUnderWay c root m (moved f at left 0 0 ∷ fs) None
  goes_on m root f fs a under at left is further =
      moved_on m root f fs a under at left 0 0 None
      (λ room begun le none out.
      from_start (inside room c begun f.start) c f.start at left
      ∙ ap (λ (n : ℕ). walked n c f.start.local (inside room c begun f.start) at) is
      ∙ further (inside room c begun f.start) ∙ under.begun.0 room begun le none out)

  -- ---- what the code does

  pub pushed : (xs ys : List Frame) (f : Frame) → ys ≡ xs ++ f ∷ [] → reverse ys ≡ f ∷ reverse xs
  pushed xs ys f is = ap reverse is ∙ reverse-append xs (f ∷ [])

  pub pushed_on : (root : Pair) (m : Answers) (xs ys : List Frame) (f : Frame) (a : Option Bool) → ys ≡ xs ++ f ∷ [] → IsUnderWay c root m (f ∷ reverse xs) a → IsUnderWay c root m (reverse ys) a
  pushed_on root m xs ys f a is under = subst (λ (fs : List Frame). IsUnderWay c root m fs a) (sym (pushed xs ys f is)) under

  pub failed : (root : Pair) (p : Progress) (f : Frame) (fs : List Frame) (a : Option Bool) (r : Result (Option Bool) RelocationError) (e : RelocationError) → IsErrAnd r (λ x. x ≡ e)
      → IsUnderWay c root p.pairs (f ∷ fs) a → ((e ≡ OutOfMemory) ⊎ ((inner : Compare) → rest inner c f a ≡ Err e)) → RunsOn c root p r
  failed root p f fs a r e same under error =
      subst (λ (x : Result (Option Bool) RelocationError). RunsOn c root p x) (sym (from_err r e same))
      (elim error [
        | inl memory ↦ inl memory
        | inr all ↦ inr (fails p.pairs root f fs a e under (λ room begun is. all (inside room c begun f.start)))
      ])

  pub runs_asked : (root : Pair) (f : Frame) (fs : List Frame) (a : Option Bool) (index other : ℕ) (p : Pair) (old new : Progress) (r : Result (Option Bool) RelocationError)
      (under : IsUnderWay c root old.pairs (f ∷ fs) a) → Asks old.pairs root f fs a under f.at f.left index other p → reverse old.frames.items ≡ moved f f.at f.left index other ∷ fs
      → IsAsked c p old new r → RunsOn c root new r
  runs_asked root f fs a index other p old new (Ok (Some b)) under asks items (q, is, answer, same) =
      subst (λ (x : Progress). IsUnderWay c root x.pairs (reverse x.frames.items) (Some b)) (sym same)
      (subst (λ (gs : List Frame). IsUnderWay c root old.pairs gs (Some b)) (sym items) (answered old.pairs root f fs a under f.at f.left index other p q b asks is answer))
  runs_asked root f fs a index other p old new (Ok None) under asks items (q, is, none, set, more) =
      subst (λ (gs : List Frame). IsUnderWay c root new.pairs gs None) (sym (pushed old.frames.items new.frames.items (beginning q) more ∙ ap (λ (gs : List Frame). beginning q ∷ gs) items))
      (begins old.pairs root f fs a under f.at f.left index other new.pairs p q asks is none set)
  runs_asked root f fs a index other p old new (Err e) under asks items (inl memory) = inl memory
  runs_asked root f fs a index other p old new (Err e) under asks items (inr (inl is)) = inr (unresolved old.pairs root f fs a under f.at f.left index other p e asks is)
  runs_asked root f fs a index other p old new (Err e) under asks items (inr (inr (q, is, no_answer, same))) =
      inr (met_again old.pairs root f fs a under f.at f.left index other p q asks is no_answer ∙ ap (λ (x : RelocationError). let o : Result Bool RelocationError = Err x in o) (sym same))

  -- ---- the next step

  at_step : (inner : Compare) (f : Frame) (a : Option Bool) (n : ℕ) → (n ≡ 0 → ⊥) → (p : Pair) → resolved_pair c f.at ≡ Ok p → (s : model.Step) → step_at c p ≡ Ok s
      → rest_by n inner c f a ≡ resumed inner (walked (n - 1) c f.start.local inner) c.local c.target s f.index f.other a
  at_step inner f a zero some p is s step = absurd (some refl)
  at_step inner f a (suc n) some p is s step =
      let less : suc n - 1 ≡ n = omega arith in
      rw (is, step, less) refl

  after_next : (inner : Compare) (f : Frame) → (f.left ≡ 0 → ⊥) → (p : Pair) → resolved_pair c f.at ≡ Ok p → (s : model.Step) → step_at c p ≡ Ok s
      → (n : Next) → after_comparison inner c f n ≡ next_of inner (walked (f.left - 1) c f.start.local inner) c.local c.target s n
  after_next inner f some p is s step (next.Ends b) = refl
  after_next inner f some p is s step (next.GoesOn q) = refl
  after_next inner f some p is s step (next.Asks q k l) = by_answer (inner q)
    where
      by_answer : (o : Result Bool RelocationError) → (o >>= λ b. rest inner c (record f { index = k; other = l }) (Some b)) ≡ (o >>= λ b. resumed inner (walked (f.left - 1) c f.start.local inner) c.local c.target s k l (Some b))
      by_answer (Ok b) = at_step inner (record f { index = k; other = l }) (Some b) f.left some p is s step
      by_answer (Err e) = refl

  pub continues : (f : Frame) (a : Option Bool) → (f.left ≡ 0 → ⊥) → (p : Pair) → resolved_pair c f.at ≡ Ok p → (s : model.Step) → step_at c p ≡ Ok s
      → (n : Next) → ((inner further : Compare) → next_of inner further c.local c.target s n ≡ resumed inner further c.local c.target s f.index f.other a) → Continues c f a (Ok n)
  continues f a some p is s step n same inner =
      after_next inner f some p is s step n ∙ same inner (walked (f.left - 1) c f.start.local inner) ∙ sym (at_step inner f a f.left some p is s step)

  pub continues_member : (f : Frame) (a : Option Bool) → (f.left ≡ 0 → ⊥) → (p : Pair) → resolved_pair c f.at ≡ Ok p → (ms others : List Member) → step_at c p ≡ Ok (model.EachMember ms others)
      → (r : Result Next RelocationError) → NextMember c.local c.target ms others f.index f.other a r → Continues c f a r
  continues_member f a some p is ms others step (Ok n) same = continues f a some p is (model.EachMember ms others) step n same
  continues_member f a some p is ms others step (Err e) error =
      inr (λ inner. at_step inner f a f.left some p is (model.EachMember ms others) step ∙ error inner (walked (f.left - 1) c f.start.local inner))

  -- ---- the whole comparison

  -- the comparison of the pair that two ids resolve to is under way
  pub record Runs (p : Pair) (progress : Progress) (answer : Option Bool) : Type 0 where
    pub root : Pair
    pub is : resolved_pair c p ≡ Ok root
    pub under : IsUnderWay c root progress.pairs (reverse progress.frames.items) answer

  no_answers : (m : Answers) (q : Pair) → IsEmpty m → known_answer m q ≡ None
  no_answers m q empty = rw empty refl

  pub begin : (p : Pair) (old new : Progress) (answer : Option Bool) → IsEmpty old.pairs → old.frames.items ≡ [] → IsAsked c p old new (Ok answer) → Runs p new answer
  begin p old new (Some b) empty none (q, is, answer, same) = absurd (let wrong : None ≡ Some (Some b) = sym (no_answers old.pairs q empty) ∙ answer in cc)
  begin p old new None empty none (q, is, no_answer, set, more) = record {
    root = q;
    is = is;
    under = subst (λ (fs : List Frame). IsUnderWay c q new.pairs fs None)
        (sym (pushed old.frames.items new.frames.items (beginning q) more ∙ ap (λ (fs : List Frame). beginning q ∷ reverse fs) none))
        (first old.pairs new.pairs p q empty is set);
  }

  pub not_begun : (p : Pair) (old new : Progress) (e : RelocationError) → IsEmpty old.pairs → IsAsked c p old new (Err e)
      → (e ≡ OutOfMemory) ⊎ ((resolved_pair c p >>= compared (pair_count c) c []) ≡ Err e)
  not_begun p old new e empty (inl memory) = inl memory
  not_begun p old new e empty (inr (inl is)) = inr (ap (λ (o : Result Pair RelocationError). o >>= compared (pair_count c) c []) is)
  not_begun p old new e empty (inr (inr (q, is, no_answer, same))) = absurd (let wrong : None ≡ Some None = sym (no_answers old.pairs q empty) ∙ no_answer in cc)

  -- a comparison is taken from the others
  pub popped : (p : Pair) (old : Progress) (m : Answers) (fs : List Frame) (f : Frame) (answer : Option Bool) (runs : Runs p old answer) → old.pairs ≡ m → old.frames.items ≡ fs ++ f ∷ []
      → IsUnderWay c runs.root m (f ∷ reverse fs) answer
  popped p old m fs f answer runs same is =
      subst (λ (x : Answers). IsUnderWay c runs.root x (f ∷ reverse fs) answer) same
      (subst (λ (gs : List Frame). IsUnderWay c runs.root old.pairs gs answer) (pushed fs old.frames.items f is) runs.under)

  pub over : (p : Pair) (old : Progress) (answer : Option Bool) (runs : Runs p old answer) → old.frames.items ≡ [] → (b : Bool) × (answer ≡ Some b) × ((resolved_pair c p >>= compared (pair_count c) c []) ≡ Ok b)
  over p old answer runs none =
      let end : AreBegun c runs.root old.pairs [] answer = subst (λ (fs : List Frame). AreBegun c runs.root old.pairs (reverse fs) answer) none runs.under.begun in
      (end.0, end.1, ap (λ (o : Result Pair RelocationError). o >>= compared (pair_count c) c []) runs.is ∙ end.2)

  pub root_fails : (p : Pair) (old : Progress) (answer : Option Bool) (runs : Runs p old answer) (e : RelocationError) → ((e ≡ OutOfMemory) ⊎ (compared (pair_count c) c [] runs.root ≡ Err e))
      → (e ≡ OutOfMemory) ⊎ ((resolved_pair c p >>= compared (pair_count c) c []) ≡ Err e)
  root_fails p old answer runs e (inl memory) = inl memory
  root_fails p old answer runs e (inr is) = inr (ap (λ (o : Result Pair RelocationError). o >>= compared (pair_count c) c []) runs.is ∙ is)
