-- Strings that are appended to the program's table do not change comparisons by the rule `Compatible`.
use Rattle.std.proofs.Common.{◌≡◌, ℕ, zero, suc, List, [], ◌∷◌, Bool, true, false, Option, Some, Result, Ok, Err, refl, ap, subst, ◌∙◌}
use Rattle.std.proofs.Math.Path.{fun_ext}
use Rattle.std.specs.Prelude.{◌==◌, if◌then◌else◌, length}
use Rattle.std.specs.List.{list_any}
use Rattle.btf_model.specs.Record.{Kind, Unknown, Int, Ptr, Array, Struct, Union, Enum, Fwd, FuncProto, Enum64, Record, kind_of, kind_number}
use Rattle.btf_model.specs.Table.{Table}
use Rattle.btf_model.specs.Walk.{walk_limit}
use Rattle.btf_relocate_model.proofs.OwnPaths.{ok_of, same_ok}
use Rattle.btf_relocate_model.specs.Candidates.{compared_number}
use Rattle.btf_relocate_model.specs.Comparison.{Comparison, Step, Ends, GoesOn, EachParameter, EachMember, parameter_ids, compatible_step, step_compatible_by, compatible_through, decided, resolved_pair, step_at, walked, compared, pair, pair_count, same_pair, types_alike}
use Rattle.btf_relocate_model.specs.Laws.{with_strings}
use Rattle.btf_relocate_model.specs.Types.{◌>>=◌, required_record}
use Rattle.btf_relocate_model.specs.declared.comparison.Pair.{Pair}
use Rattle.btf_relocate_model.specs.declared.comparison.Rule.TheVariants.{Compatible}
use Rattle.btf_relocate_model.specs.declared.error.RelocationError.{RelocationError}
use Rattle.btf_relocate_model.specs.declared.error.RelocationError.TheVariants.{MaximumTypeDepthReached}

-- a step that reads no names
IsNameless : Step → Type 0
IsNameless (Ends is_alike) = Unit {0}
IsNameless (GoesOn next) = Unit {0}
IsNameless (EachParameter types others returned) = Unit {0}
IsNameless (EachMember members others) = ⊥

by_test : (test : Bool) (a b : Step) → IsNameless a → IsNameless b → IsNameless (if test then a else b)
by_test true a b first second = first
by_test false a b first second = second

through : (is_pointee : Bool) (k q : Option Kind) (r s : Record) → IsNameless (compatible_through is_pointee k q r s)
unfolding IsNameless
through is_pointee (Some Ptr) (Some Ptr) r s = tt
through is_pointee (Some Array) (Some Array) r s = tt
through is_pointee (Some FuncProto) (Some FuncProto) r s =
    by_test (length (parameter_ids r.tail) == length (parameter_ids s.tail)) (EachParameter (parameter_ids r.tail) (parameter_ids s.tail) (pair is_pointee r.third s.third)) (Ends false) tt tt
through is_pointee k q r s = tt

by_kind : (is_pointee : Bool) (k q : Option Kind) (r s : Record) → IsNameless (step_compatible_by is_pointee k q r s)
unfolding IsNameless
by_kind is_pointee (Some Unknown) q r s = tt
by_kind is_pointee (Some Struct) q r s = tt
by_kind is_pointee (Some Union) q r s = tt
by_kind is_pointee (Some Enum) q r s = tt
by_kind is_pointee (Some Enum64) q r s = tt
by_kind is_pointee (Some Fwd) q r s = tt
by_kind is_pointee (Some Int) (Some Int) r s = tt
by_kind is_pointee k q r s = through is_pointee k q r s

compatible_reads_none : (is_pointee : Bool) (r s : Record) → IsNameless (compatible_step is_pointee r s)
unfolding IsNameless
compatible_reads_none is_pointee r s =
    by_test (compared_number (kind_number r.info) == compared_number (kind_number s.info)) (step_compatible_by is_pointee (kind_of r.info) (kind_of s.info) r s) (Ends false) (by_kind is_pointee (kind_of r.info) (kind_of s.info) r s) tt

-- the comparison of two tables by the rule
abbrev rule_with : Table → Table → Comparison
rule_with local target = record { rule = Compatible; local = local; target = target }

decided_same : (more : List ℕ) (local target : Table) (inner further : Pair → Result Bool RelocationError) (s : Step) → IsNameless s
    → decided inner further (rule_with (with_strings more local) target) s ≡ decided inner further (rule_with local target) s
unfolding IsNameless
decided_same more local target inner further (Ends is_alike) none = refl
decided_same more local target inner further (GoesOn next) none = refl
decided_same more local target inner further (EachParameter types others returned) none = refl
decided_same more local target inner further (EachMember members others) none = absurd none

after_same : {A B : Type 0} (x : Result A RelocationError) (f h : A → Result B RelocationError) → ((a : A) → f a ≡ h a) → x >>= f ≡ x >>= h
after_same (Ok a) f h same = same a
after_same (Err e) f h same = refl

after_known : {A B : Type 0} (x : Result A RelocationError) (f h : A → Result B RelocationError) → ((a : A) → x ≡ Ok a → f a ≡ h a) → x >>= f ≡ x >>= h
after_known (Ok a) f h same = same a refl
after_known (Err e) f h same = refl

steps_read_none : (local target : Table) (p : Pair) (s : Step) → step_at (rule_with local target) p ≡ Ok s → IsNameless s
steps_read_none local target p s is =
    let r = ok_of (required_record local p.local) (λ r. required_record target p.target >>= λ q. Ok (compatible_step p.is_pointee r q)) s is in
    let q = ok_of (required_record target p.target) (λ q. Ok (compatible_step p.is_pointee r.0 q)) s r.2 in
    subst IsNameless (same_ok _ _ q.2) (compatible_reads_none p.is_pointee r.0 q.0)

walked_same : (n : ℕ) (more : List ℕ) (local target : Table) (start : ℕ) (inner : Pair → Result Bool RelocationError)
    → walked n (rule_with (with_strings more local) target) start inner ≡ walked n (rule_with local target) start inner
unfolding walked
walked_same zero more local target start inner = refl
walked_same (suc n) more local target start inner =
    let old = rule_with local target in
    let new = rule_with (with_strings more local) target in
    fun_ext (λ at.
    after_same (resolved_pair old at) (λ p. step_at new p >>= decided inner (walked n new start inner) new) (λ p. step_at old p >>= decided inner (walked n old start inner) old) (λ p.
    after_known (step_at old p) (decided inner (walked n new start inner) new) (decided inner (walked n old start inner) old) (λ s is.
    ap (λ (further : Pair → Result Bool RelocationError). decided inner further new s) (walked_same n more local target start inner)
    ∙ decided_same more local target inner (walked n old start inner) s (steps_read_none local target p s is))))

compared_same : (room : ℕ) (more : List ℕ) (local target : Table) (begun : List Pair)
    → compared room (rule_with (with_strings more local) target) begun ≡ compared room (rule_with local target) begun
unfolding compared
compared_same zero more local target begun = refl
compared_same (suc room) more local target begun =
    let old = rule_with local target in
    let new = rule_with (with_strings more local) target in
    fun_ext (λ p.
    ap (λ (x : Result Bool RelocationError). if list_any (same_pair p) begun then Err (MaximumTypeDepthReached p.local) else x)
    (ap (λ (further : Pair → Result Bool RelocationError). walked walk_limit new p.local (λ i. resolved_pair old i >>= further) p) (compared_same room more local target (p ∷ begun))
    ∙ ap (λ (f : Pair → Result Bool RelocationError). f p) (walked_same walk_limit more local target p.local (λ i. resolved_pair old i >>= compared room old (p ∷ begun)))))

pub types_alike_same : (more : List ℕ) (local target : Table) (id c : ℕ) → types_alike (rule_with (with_strings more local) target) id c ≡ types_alike (rule_with local target) id c
types_alike_same more local target id c =
    after_same (resolved_pair (rule_with local target) (pair false id c)) _ _ (λ p. ap (λ (f : Pair → Result Bool RelocationError). f p) (compared_same (pair_count (rule_with local target)) more local target []))
