-- Worked examples of the comparison of types: small tables, with their answers and starts. The examples with longer
-- proofs are in proofs/ChainExamples.antt, and the examples of fields in proofs/FieldsExamples.antt.
use Rattle.std.specs.Prelude.{◌≡◌, ◌≢◌, ℕ, List, [], ◌∷◌, Bool, true, false, Result, Ok, Err, Contains, refl}
use Rattle.std.specs.Result.{is_ok}
use Rattle.std.proofs.Common.{ap, arith, inl, inr}
use Rattle.std.proofs.lemmas.Bool.{false≢true}
use Rattle.btf_model.specs.Record.{Record, Kind, Int, Ptr, Const, FuncProto, unknown, tail_words}
use Rattle.btf_model.specs.Refusal.{Refusal, UnknownBtfType, MaximumTypeDepthReached}
use Rattle.btf_model.specs.Table.{Table, empty_table}
use Rattle.std.specs.Prelude.{slice_get}
use Rattle.btf_model.specs.Walk.{Ends, Resolves, unmodified_in}
use Rattle.btf_model.specs.Fields.{Pair}
use Rattle.btf_model.specs.Compat.{Plain}
use Rattle.btf_model.specs.Compat.Plain.{again, kinds_differ, walked}
use Rattle.btf_model.specs.Compat.Walked.{on, not_compatible}
use Rattle.btf_model.specs.Compat.ComparedInOrder.{unresolved, other}

-- a table of these records from id 1 on
abbrev pub table_with : List Record → Table
table_with rs = record empty_table { records = unknown ∷ rs }

-- the pair of a local id and a target id
abbrev pub pair_of_ids : ℕ → ℕ → Pair
pair_of_ids id target = record { local = id; target = target }

-- nothing is open
pub none_open : (p : Pair) → ¬ (Contains [] p)
none_open p c = absurd (omega (arith, c.1))

-- CONST and INT are two kinds
const_is_no_int : Const ≢ Int
const_is_no_int e = let words : tail_words Const 0 ≡ tail_words Int 0 = ap (λ (k : Kind). tail_words k 0) e in omega (arith, words)

-- INT 1, PTR 2 to 1, CONST 3 to 1: the kinds of a pair are compared before it is resolved, so 3 and 1 are not
-- compatible.
abbrev qualified : Table
qualified = table_with (record { name = 0; info = 0x01000000; third = 4; tail = 0x20 ∷ [] } ∷ record { name = 0; info = 0x02000000; third = 1; tail = [] } ∷ record { name = 0; info = 0x0a000000; third = 1; tail = [] } ∷ [])

qualified_is_not_plain : Plain qualified qualified [] (pair_of_ids 3 1) (Ok false) (pair_of_ids 3 1 ∷ [])
qualified_is_not_plain = kinds_differ [] (pair_of_ids 3 1) Const Int (none_open (pair_of_ids 3 1)) (_, _, (refl, refl), (refl, refl)) const_is_no_int

-- an id that is no modifier resolves to itself
pub itself : (t : Table) (id : ℕ) → unmodified_in id (slice_get t.records id) ≡ Ends (Ok id) → Resolves t.records id (Ok id)
itself t id ends = inl (0, id, omega arith, refl, ends)

-- an id that has no record is refused
no_record : (t : Table) (id : ℕ) → unmodified_in id (slice_get t.records id) ≡ Ends (Err (UnknownBtfType id)) → Resolves t.records id (Err (UnknownBtfType id))
no_record t id ends = inl (0, id, omega arith, refl, ends)

-- a refusal is not true
refused_is_not_true : (refusal : Refusal) → ◌≡◌ {A = Result Bool Refusal} (Err refusal) (Ok true) → ⊥
refused_is_not_true refusal e = false≢true (ap is_ok e)

-- FUNC_PROTO 1 has one parameter, whose type does not exist: the pair is started, and then its parameter is refused.
abbrev without_parameter : Table
without_parameter = table_with (record { name = 0; info = 0x0d000001; third = 0; tail = 0 ∷ 9 ∷ [] } ∷ [])

parameter_is_unknown : Plain without_parameter without_parameter [] (pair_of_ids 1 1) (Err (UnknownBtfType 9)) (pair_of_ids 1 1 ∷ [])
parameter_is_unknown =
    walked [] (pair_of_ids 1 1) FuncProto FuncProto (Err (UnknownBtfType 9)) [] (none_open (pair_of_ids 1 1)) (_, _, (refl, refl), (refl, refl)) refl
    (not_compatible (pair_of_ids 1 1 ∷ []) 31 (pair_of_ids 1 1) (pair_of_ids 0 0) (pair_of_ids 9 9 ∷ []) (Err (UnknownBtfType 9)) []
    (inr (pair_of_ids 1 1, FuncProto, FuncProto, _, _, (itself without_parameter 1 refl, itself without_parameter 1 refl), (refl, refl), (refl, refl), inr (refl, refl)))
    (unresolved (pair_of_ids 1 1 ∷ []) (pair_of_ids 9 9) [] (UnknownBtfType 9) (inl (no_record without_parameter 9 refl)))
    (refused_is_not_true (UnknownBtfType 9)))

-- PTR 1 to 2, and FUNC_PROTO 2 with one parameter of type 1: the pair is met again while it is open, and is started
-- once.
abbrev cyclic : Table
cyclic = table_with (record { name = 0; info = 0x02000000; third = 2; tail = [] } ∷ record { name = 0; info = 0x0d000001; third = 0; tail = 0 ∷ 1 ∷ [] } ∷ [])

open_pair_is_refused : Plain cyclic cyclic [] (pair_of_ids 1 1) (Err (MaximumTypeDepthReached 1)) (pair_of_ids 1 1 ∷ [])
open_pair_is_refused =
    walked [] (pair_of_ids 1 1) Ptr Ptr (Err (MaximumTypeDepthReached 1)) [] (none_open (pair_of_ids 1 1)) (_, _, (refl, refl), (refl, refl)) refl
    (on (pair_of_ids 1 1 ∷ []) 31 (pair_of_ids 1 1) (pair_of_ids 2 2) (Err (MaximumTypeDepthReached 1)) []
    (inr (pair_of_ids 1 1, Ptr, Ptr, _, _, (itself cyclic 1 refl, itself cyclic 1 refl), (refl, refl), (refl, refl), inr (refl, refl)))
    (not_compatible (pair_of_ids 1 1 ∷ []) 30 (pair_of_ids 2 2) (pair_of_ids 0 0) (pair_of_ids 1 1 ∷ []) (Err (MaximumTypeDepthReached 1)) []
    (inr (pair_of_ids 2 2, FuncProto, FuncProto, _, _, (itself cyclic 2 refl, itself cyclic 2 refl), (refl, refl), (refl, refl), inr (refl, refl)))
    (other (pair_of_ids 1 1 ∷ []) (pair_of_ids 1 1) (pair_of_ids 1 1) [] (Err (MaximumTypeDepthReached 1)) [] (itself cyclic 1 refl, itself cyclic 1 refl)
    (again (pair_of_ids 1 1 ∷ []) (pair_of_ids 1 1) (0, omega arith, refl))
    (refused_is_not_true (MaximumTypeDepthReached 1)))
    (refused_is_not_true (MaximumTypeDepthReached 1))))
