-- Comparisons: at most one thing is found at a position, and something is found in tables whose records have kinds.
use Rattle.std.proofs.Common.{◌≡◌, ℕ, List, Result, Ok, Err, sym, ap, subst, ◌∙◌, refl, false, inl, inr}
use Rattle.std.specs.Prelude.{slice_get}
use Rattle.std.specs.Result.{result_ok, result_err}
use Rattle.std.proofs.lemmas.Option.{same_Some, none-some}
use Rattle.btf_model.specs.Record.{Record, Kind, kind_of, compared_kind}
use Rattle.btf_model.specs.Refusal.{Refusal, MaximumTypeDepthReached}
use Rattle.btf_model.specs.Table.{Table}
use Rattle.btf_model.specs.Walk.{By, unmodified_in, Resolves}
use Rattle.btf_model.specs.Fields.{Pair, IsAt, HaveKinds}
use Rattle.btf_model.specs.Compat.{Position, Decided, position_by, PositionFound, ResolvesPair, Finds}
use Rattle.btf_model.proofs.Walks.{one_answer, by_one, resolving_has_answer, resolved_is_known}
use Rattle.btf_model.proofs.SameKinds.{same_kind_or_not}

-- an id resolves to one type, or fails for one reason
pub one_id : (records : List Record) (id : ℕ) (a b : Result ℕ Refusal) → Resolves records id a → Resolves records id b → a ≡ b
one_id records id a b p q = one_answer (By (λ at. unmodified_in at (slice_get records at))) (by_one (λ at. unmodified_in at (slice_get records at))) id (λ _. MaximumTypeDepthReached id) a b p q

pub same_ok : {A E : Type 0} (a b : A) → ◌≡◌ {A = Result A E} (Ok a) (Ok b) → a ≡ b
same_ok a b is = same_Some a b (ap result_ok is)

pub same_err : {A E : Type 0} (a b : E) → ◌≡◌ {A = Result A E} (Err a) (Err b) → a ≡ b
same_err a b is = same_Some a b (ap result_err is)

ok_or_err : {A E : Type 0} (a : A) (b : E) → ◌≡◌ {A = Result A E} (Ok a) (Err b) → ⊥
ok_or_err a b is = none-some a (sym (ap result_ok is))

-- two pairs of the same ids are equal
pub same_pair : (a b : Pair) → a.local ≡ b.local → a.target ≡ b.target → a ≡ b
same_pair a b p q = ap (λ (id : ℕ). record { local = id; target = a.target }) p ∙ ap (λ (id : ℕ). record { local = b.local; target = id }) q

-- an id that resolves to a type is not refused
pub not_refused : (records : List Record) (id end : ℕ) (refusal : Refusal) → Resolves records id (Ok end) → Resolves records id (Err refusal) → ⊥
not_refused records id end refusal p q = ok_or_err end refusal (one_id records id (Ok end) (Err refusal) p q)

pair_not_refused : (local target : Table) (at p : Pair) (refusal : Refusal) → ResolvesPair local target at (Ok p) → ResolvesPair local target at (Err refusal) → ⊥
pair_not_refused local target at p refusal h (inl g) = not_refused local.records at.local p.local refusal h.0 g
pair_not_refused local target at p refusal h (inr g) = not_refused target.records at.target p.target refusal h.1 g.2

one_refusal : (local target : Table) (at : Pair) (a b : Refusal) → ResolvesPair local target at (Err a) → ResolvesPair local target at (Err b) → a ≡ b
one_refusal local target at a b (inl p) (inl q) = same_err a b (one_id local.records at.local (Err a) (Err b) p q)
one_refusal local target at a b (inl p) (inr q) = absurd (not_refused local.records at.local q.0 a q.1 p)
one_refusal local target at a b (inr p) (inl q) = absurd (not_refused local.records at.local p.0 b p.1 q)
one_refusal local target at a b (inr p) (inr q) = same_err a b (one_id target.records at.target (Err a) (Err b) p.2 q.2)

-- a pair resolves to one pair, or fails for one reason
pub one_resolved : (local target : Table) (at : Pair) (a b : Result Pair Refusal) → ResolvesPair local target at a → ResolvesPair local target at b → a ≡ b
one_resolved local target at (Ok a) (Ok b) p q =
    ap (λ (x : Pair). Ok x) (same_pair a b (same_ok a.local b.local (one_id local.records at.local (Ok a.local) (Ok b.local) p.0 q.0)) (same_ok a.target b.target (one_id target.records at.target (Ok a.target) (Ok b.target) p.1 q.1)))
one_resolved local target at (Ok a) (Err b) p q = absurd (pair_not_refused local target at a b p q)
one_resolved local target at (Err a) (Ok b) p q = absurd (pair_not_refused local target at b a q p)
one_resolved local target at (Err a) (Err b) p q = ap (λ (x : Refusal). Err x) (one_refusal local target at a b p q)

-- an id has one record and one kind
pub one_record : (t : Table) (id : ℕ) (k q : Kind) (r s : Record) → IsAt t id k r → IsAt t id q s → r ≡ s
one_record t id k q r s h g = same_Some r s (sym h.0 ∙ g.0)

pub one_kind : (t : Table) (id : ℕ) (k q : Kind) (r s : Record) → IsAt t id k r → IsAt t id q s → k ≡ q
one_kind t id k q r s h g = same_Some k q (sym h.1 ∙ ap (λ (x : Record). kind_of x.info) (one_record t id k q r s h g) ∙ g.1)

-- at most one thing is found at two types
found_one : (id : ℕ) (k q : Kind) (r s : Record) (a b : Position) → PositionFound id k q r s a → PositionFound id k q r s b → a ≡ b
found_one id k q r s a b (inl p) (inl g) = p.1 ∙ sym g.1
found_one id k q r s a b (inl p) (inr g) = absurd (p.0 g.0)
found_one id k q r s a b (inr p) (inl g) = absurd (g.0 p.0)
found_one id k q r s a b (inr p) (inr g) = p.1 ∙ sym g.1

-- what is found depends on nothing but the id, the kinds and the records
found_of_same : (id other : ℕ) (k l q m : Kind) (r t s u : Record) (a : Position) → id ≡ other → k ≡ l → q ≡ m → r ≡ t → s ≡ u → PositionFound other l m t u a → PositionFound id k q r s a
found_of_same id other k l q m r t s u a ids ks qs rs ss h =
    subst (λ (x : ℕ). PositionFound x k q r s a) (sym ids)
    (subst (λ (x : Kind). PositionFound other x q r s a) (sym ks)
    (subst (λ (x : Kind). PositionFound other l x r s a) (sym qs)
    (subst (λ (x : Record). PositionFound other l m x s a) (sym rs)
    (subst (λ (x : Record). PositionFound other l m t x a) (sym ss) h))))

-- at most one thing is found at a position
pub one_position : (local target : Table) (at : Pair) (a b : Position) → Finds local target at a → Finds local target at b → a ≡ b
one_position local target at a b (inl p) (inl q) = p.2 ∙ ap (λ (x : Refusal). Decided (Err x)) (one_refusal local target at p.0 q.0 p.1 q.1) ∙ sym q.2
one_position local target at a b (inl p) (inr q) = absurd (pair_not_refused local target at q.0 p.0 q.5 p.1)
one_position local target at a b (inr p) (inl q) = absurd (pair_not_refused local target at p.0 q.0 p.5 q.1)
one_position local target at a b (inr p) (inr q) =
    let pairs : p.0 ≡ q.0 = same_ok p.0 q.0 (one_resolved local target at (Ok p.0) (Ok q.0) p.5 q.5) in
    let here : IsAt local p.0.local q.1 q.3 = subst (λ (x : Pair). IsAt local x.local q.1 q.3) (sym pairs) q.6 in
    let there : IsAt target p.0.target q.2 q.4 = subst (λ (x : Pair). IsAt target x.target q.2 q.4) (sym pairs) q.7 in
    found_one p.0.local p.1 p.2 p.3 p.4 a b p.8
    (found_of_same p.0.local q.0.local p.1 q.1 p.2 q.2 p.3 q.3 p.4 q.4 b (ap (λ (x : Pair). x.local) pairs) (one_kind local p.0.local p.1 q.1 p.3 q.3 p.6 here) (one_kind target p.0.target p.2 q.2 p.4 q.4 p.7 there)
    (one_record local p.0.local p.1 q.1 p.3 q.3 p.6 here) (one_record target p.0.target p.2 q.2 p.4 q.4 p.7 there) q.8)

-- the same is found at ids that resolve to the same types
pub found_alike : (local target : Table) (at other p : Pair) (found : Position) → ResolvesPair local target at (Ok p) → ResolvesPair local target other (Ok p) → Finds local target at found → Finds local target other found
found_alike local target at other p found here there (inl h) = absurd (pair_not_refused local target at p h.0 here h.1)
found_alike local target at other p found here there (inr h) =
    let same : p ≡ h.0 = same_ok p h.0 (one_resolved local target at (Ok p) (Ok h.0) here h.5) in
    inr (h.0, h.1, h.2, h.3, h.4, subst (λ (x : Pair). ResolvesPair local target other (Ok x)) same there, h.6, h.7, h.8)

-- ---- something is found

pair_answer_by : (local target : Table) (at : Pair) (a b : Result ℕ Refusal) → Resolves local.records at.local a → Resolves target.records at.target b → (answer : Result Pair Refusal) × ResolvesPair local target at answer
pair_answer_by local target at (Err refusal) b p q = (Err refusal, inl p)
pair_answer_by local target at (Ok id) (Err refusal) p q = (Err refusal, inr (id, p, q))
pair_answer_by local target at (Ok id) (Ok other) p q = (Ok (record { local = id; target = other }), (p, q))

-- a pair resolves to a pair, or to a refusal
pub pair_answer : (local target : Table) (at : Pair) → (answer : Result Pair Refusal) × ResolvesPair local target at answer
pair_answer local target at =
    let here = resolving_has_answer local.records at.local in
    let there = resolving_has_answer target.records at.target in
    pair_answer_by local target at here.0 there.0 here.1 there.1

something_found : (id : ℕ) (k q : Kind) (r s : Record) → (found : Position) × PositionFound id k q r s found
something_found id k q r s =
    elim (same_kind_or_not (compared_kind k) (compared_kind q)) [
      | inl same ↦ (position_by id k r s, inr (same, refl))
      | inr differ ↦ (Decided (Ok false), inl (differ, refl))
    ]

-- the type that an id resolves to has a record and a kind
pub resolved_is_at : (t : Table) (id end : ℕ) → HaveKinds t → Resolves t.records id (Ok end) → (k : Kind) × (r : Record) × IsAt t end k r
resolved_is_at t id end kinds h =
    let here = resolved_is_known t.records id end h in
    let is = kinds end here.0 here.1 in
    (is.0, here.0, (here.1, is.1))

position_of : (local target : Table) (at : Pair) (a : Result Pair Refusal) → HaveKinds local → HaveKinds target → ResolvesPair local target at a → (found : Position) × Finds local target at found
position_of local target at (Err refusal) ls ts h = (Decided (Err refusal), inl (refusal, h, refl))
position_of local target at (Ok p) ls ts h =
    let here = resolved_is_at local at.local p.local ls h.0 in
    let there = resolved_is_at target at.target p.target ts h.1 in
    let found = something_found p.local here.0 there.0 here.1 there.1 in
    (found.0, inr (p, here.0, there.0, here.1, there.1, h, here.2, there.2, found.1))

-- at each position something is found
pub position_answer : (local target : Table) (at : Pair) → HaveKinds local → HaveKinds target → (found : Position) × Finds local target at found
position_answer local target at ls ts = position_of local target at (pair_answer local target at).0 ls ts (pair_answer local target at).1
