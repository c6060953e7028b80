-- Positions of the comparison of types.
use Rattle.std.proofs.Common.{◌≡◌, ℕ, zero, suc, ◌<◌, ◌≤◌, ◌^◌, arith, nat_lt, lit<, slice_get, slice_index_or, Option, None, List, [], ◌∷◌, length, refl, sym, ap, subst, ◌∙◌, inl, inr, Bool, true, false, Some, Ok, Err, Result}
use Rattle.std.specs.List.{flat_map}
use Rattle.std.specs.Option.{option_map}
use Rattle.std.specs.Option.{is_some}
use Rattle.std.proofs.lemmas.Bool.{eq-eqb, ne_eqb, ltb-true, ltb-false, false≢true}
use Rattle.std.proofs.lemmas.Option.{same_Some, slice_get-map, slice_get_past, slice_get_read, slice_get_within}
use Rattle.std.proofs.lemmas.List.{length-map}
use Rattle.std.proofs.Math.Nat.{mod-lt}
use Rattle.btf_model.specs.Record.{Record, Kind, vlen}
use Rattle.btf_model.specs.Refusal.{Refusal}
use Rattle.btf_model.specs.Table.{Table}
use Rattle.btf_model.specs.Fields.{Pair, IsAt}
use Rattle.btf_model.specs.Walk.{modified_type, unmodified_in, after_modifier}
use Rattle.btf_model.specs.Compat as model
use Rattle.btf_model.specs.Compat.{Decided, On, Pending, Finds, PositionFound, parameter_types, pairs, prototypes, ResolvesPair}
use Rattle.btf_model.proofs.Comparisons.{same_pair}
use Rattle.btf_plain.specs.Error.{Meets}
use Rattle.btf_plain.specs.declared.error.BtfError.{BtfError}
use Rattle.btf_plain.specs.Items.{param_words}
use Rattle.btf_plain.specs.declared.items.BtfParam.{BtfParam}
use Rattle.btf_compare.specs.declared.position.Position.{Position}
use Rattle.btf_compare.specs.declared.position.Position.TheVariants as positions
use Rattle.btf_compare.specs.Compared.{PositionIs, IfPrototypes, types_of}
use Rattle.btf_compare.specs.Pairs.{pair_of, IsResolved}

-- ---- prototypes

types_from_words : (params : List BtfParam) → parameter_types (flat_map param_words params) ≡ types_of params
types_from_words [] = refl
types_from_words (p ∷ params) = ap (λ (ts : List ℕ). p.btf_type ∷ ts) (types_from_words params)

its_types : (r : Record) (params : List BtfParam) → r.tail ≡ flat_map param_words params → parameter_types r.tail ≡ types_of params
its_types r params is = ap parameter_types is ∙ types_from_words params

count_of : (params : List BtfParam) → length (types_of params) ≡ length params
count_of params = length-map params (λ (p : BtfParam). p.btf_type)

pub as_many_parameters : (r s : Record) (params others : List BtfParam) → r.tail ≡ flat_map param_words params → s.tail ≡ flat_map param_words others → length params ≡ length others
    → Pending (pairs (types_of params) (types_of others)) (record { local = r.third; target = s.third }) ≡ prototypes r s
as_many_parameters r s params others is there same =
    rw (its_types r params is, its_types s others there, eq-eqb (length (types_of params)) (length (types_of others)) (count_of params ∙ same ∙ sym (count_of others))) refl

pub other_parameters : (r s : Record) (params others : List BtfParam) → r.tail ≡ flat_map param_words params → s.tail ≡ flat_map param_words others → (length params ≡ length others → ⊥) → Decided (Ok false) ≡ prototypes r s
other_parameters r s params others is there differ =
    rw (its_types r params is, its_types s others there, ne_eqb (length (types_of params)) (length (types_of others)) (λ same. differ (sym (count_of params) ∙ same ∙ count_of others))) refl

-- ---- the position after modifiers

pub no_local_type : (local target : Table) (at : Pair) (refusal : Refusal) → IsResolved local at.local (Err refusal) → Finds local target at (Decided (Err refusal))
no_local_type local target at refusal h = inl (refusal, inl h, refl)

pub no_target_type : (local target : Table) (at : Pair) (found : ℕ × Kind × Record) (refusal : Refusal) → IsResolved local at.local (Ok found) → IsResolved target at.target (Err refusal) → Finds local target at (Decided (Err refusal))
no_target_type local target at found refusal h g = inl (refusal, inr (found.0, h.0, g), refl)

decided_more : (answer : Result Bool BtfError) (P Q : model.Position → Type 0) → ((x : model.Position) → P x → Q x) → Meets (λ b. b) answer (λ a. P (Decided a)) → Meets (λ b. b) answer (λ a. Q (Decided a))
decided_more (Ok b) P Q more h = more (Decided (Ok b)) h
decided_more (Err e) P Q more h = (h.0, h.1, more (Decided (Err h.0)) h.2)

position_more : (x : Position) (P Q : model.Position → Type 0) → ((y : model.Position) → P y → Q y) → PositionIs x P → PositionIs x Q
position_more (positions.Decided answer) P Q more h = decided_more answer P Q more h
position_more (positions.On next) P Q more h = more _ h
position_more (positions.Prototypes found) P Q more h = more _ h

pub found_at_ends : (local target : Table) (at : Pair) (found other : ℕ × Kind × Record) (x : Position) → IsResolved local at.local (Ok found) → IsResolved target at.target (Ok other) → PositionIs x (PositionFound found.0 found.1 other.1 found.2 other.2) → PositionIs x (Finds local target at)
found_at_ends local target at found other x h g is =
    position_more x (PositionFound found.0 found.1 other.1 found.2 other.2) (Finds local target at)
    (λ y is. inr (record { local = found.0; target = other.0 }, found.1, other.1, found.2, other.2, (h.0, g.0), h.1, g.1, is)) is

-- the pair resolves to the ids of the prototypes of its position
pub if_prototypes : (local target : Table) (at ids : Pair) (x : Position) → ResolvesPair local target at (Ok ids) → IfPrototypes x (λ ids_of_prototypes. ids_of_prototypes ≡ ids) → IfPrototypes x (λ ids_of_prototypes. ResolvesPair local target at (Ok ids_of_prototypes))
if_prototypes local target at ids (positions.Decided answer) h is = tt
if_prototypes local target at ids (positions.On next) h is = tt
if_prototypes local target at ids (positions.Prototypes found) h is = subst (λ (p : Pair). ResolvesPair local target at (Ok p)) (sym is) h

-- ---- parameters by their index

pairs_at : (ids others : List ℕ) (index id other : ℕ) → slice_get ids index ≡ Some id → slice_get others index ≡ Some other → slice_get (pairs ids others) index ≡ Some (record { local = id; target = other })
pairs_at [] others index id other is there = absurd (omega (arith, slice_get_within [] index id is))
pairs_at (a ∷ ids) [] index id other is there = absurd (omega (arith, slice_get_within [] index other there))
pairs_at (a ∷ ids) (b ∷ others) zero id other is there = ap (λ (p : Pair). Some p) (same_pair (record { local = a; target = b }) (record { local = id; target = other }) (same_Some a id is) (same_Some b other there))
pairs_at (a ∷ ids) (b ∷ others) (suc index) id other is there = pairs_at ids others index id other is there

length-pairs : (ids others : List ℕ) → (length (pairs ids others) ≤ length ids) × (length (pairs ids others) ≤ length others)
length-pairs [] others = (omega arith, omega arith)
length-pairs (id ∷ ids) [] = (omega arith, omega arith)
length-pairs (id ∷ ids) (other ∷ others) = let le = length-pairs ids others in (omega (arith, le.0), omega (arith, le.1))

-- there are no more pending pairs than a vlen can count
pub few_pending : (params others : List BtfParam) (info : ℕ) → vlen info ≡ length params → length (pairs (types_of params) (types_of others)) < 2 ^ 16
few_pending params others info is = omega (arith, is, (length-pairs (types_of params) (types_of others)).0, count_of params, mod-lt info {m = 2 ^ 16} (omega arith))

its_type : (params : List BtfParam) (index : ℕ) (p : BtfParam) → true ≡ nat_lt index (length params) → p ≡ slice_index_or params index p → slice_get (types_of params) index ≡ Some p.btf_type
its_type params index p lt is = slice_get-map (λ (x : BtfParam). x.btf_type) params index ∙ ap (option_map (λ (x : BtfParam). x.btf_type)) (slice_get_read params (length params) index p refl (ltb-true index (length params) (sym lt)) is)

pub parameters_there : (params others : List BtfParam) (index : ℕ) (p q : BtfParam) → true ≡ nat_lt index (length params) → p ≡ slice_index_or params index p → true ≡ nat_lt index (length others) → q ≡ slice_index_or others index q
    → Some (pair_of (p.btf_type, q.btf_type)) ≡ slice_get (pairs (types_of params) (types_of others)) index
parameters_there params others index p q lt is there at = sym (pairs_at (types_of params) (types_of others) index p.btf_type q.btf_type (its_type params index p lt is) (its_type others index q there at))

pub no_parameter : (params others : List BtfParam) (index : ℕ) → false ≡ nat_lt index (length params) → None ≡ slice_get (pairs (types_of params) (types_of others)) index
no_parameter params others index lt = sym (slice_get_past _ index (omega (arith, (length-pairs (types_of params) (types_of others)).0, count_of params, ltb-false index (length params) (sym lt))))

pub no_other_parameter : (params others : List BtfParam) (index : ℕ) → false ≡ nat_lt index (length others) → None ≡ slice_get (pairs (types_of params) (types_of others)) index
no_other_parameter params others index lt = sym (slice_get_past _ index (omega (arith, (length-pairs (types_of params) (types_of others)).1, count_of others, ltb-false index (length others) (sym lt))))

-- ---- types that are no modifiers

pub none_from : (o : Option ℕ) → is_some o ≡ false → o ≡ None
none_from None is = refl
none_from (Some x) is = absurd (false≢true (sym is))

-- the id of a type that is no modifier resolves to itself
pub resolved_itself : (t : Table) (id : ℕ) (k : Kind) (r : Record) → IsAt t id k r → modified_type r ≡ None → IsResolved t id (Ok (id, k, r))
resolved_itself t id k r at none = (inl (0, id, lit< tt, refl, ap (unmodified_in id) at.0 ∙ ap (after_modifier id) none), at)
