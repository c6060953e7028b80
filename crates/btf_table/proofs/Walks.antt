-- Looking up the records of a walk.
use Rattle.std.proofs.Common.{◌≡◌, ℕ, List, true, false, nat_lt, length, None, Some, Result, Ok, Err, ◌<◌, ◌≤◌, ◌*◌, ◌^◌, slice_index_or, refl, sym, ap, subst, ◌∙◌, arith, inl}
use Rattle.std.specs.Prelude.{map, slice_get, MatchResult, IsErrAnd}
use Rattle.std.specs.Option.{option_map}
use Rattle.std.proofs.lemmas.Bool.{ltb-true, ltb-false, lt-ltb, le-ltb}
use Rattle.std.proofs.lemmas.List.{length-map}
use Rattle.std.proofs.lemmas.Option.{slice_get-map, slice_get_past, slice_get_read}
use Rattle.std.proofs.lemmas.Result.{err_from_is_err_and}
use Rattle.btf_model.specs.Record.{kind_of}
use Rattle.btf_model.specs.Refusal.{InvalidTypeInfo}
use Rattle.btf_model.specs.Walk.{Finding, Ends, GoesOn, Leads, By, walk_limit, Extent, Bytes, Times, extent, Elements, size_by, size_in, HasSize}
use Rattle.btf_plain.specs.Error.{Meets, refusal_of}
use Rattle.btf_plain.specs.declared.error.BtfError.{BtfError}
use Rattle.btf_plain.specs.declared.error.BtfError.TheVariants as errors
use Rattle.btf_records.specs.BtfType.{record_of}
use Rattle.btf_records.specs.declared.btf_type.BtfType.{BtfType}

-- the record of a type that exists
pub found : (types : List BtfType) (id : ℕ) (t : BtfType) → true ≡ nat_lt id (length types) → t ≡ slice_index_or types id t → slice_get (map record_of types) id ≡ Some (record_of t)
found types id t lt is = slice_get-map record_of types id ∙ ap (option_map record_of) (slice_get_read types (length types) id t refl (ltb-true id (length types) (sym lt)) is)

-- no type has this id
pub missing : (types : List BtfType) (id : ℕ) → false ≡ nat_lt id (length types) → slice_get (map record_of types) id ≡ None
missing types id lt = slice_get_past (map record_of types) id (omega (arith, length-map types record_of, ltb-false id (length types) (sym lt)))

-- a walk over this number of places
pub as_many : {P A : Type 0} (Finds : P → Finding P A → Type 0) (n m : ℕ) (start end : P) → n ≡ m → Leads Finds n start end → Leads Finds m start end
as_many Finds n m start end is p = subst (λ (k : ℕ). Leads Finds k start end) is p

-- what the walk for a size finds at a count of a type
abbrev pub find_size : List BtfType → Elements → Finding Elements ℕ
find_size types at = size_in at (slice_get (map record_of types) at.type)

-- a count of 1
abbrev pub one : ℕ → Elements
one id = record { count = 1; type = id }

-- it finds what the record gives
pub size_found : (types : List BtfType) (at : Elements) (t : BtfType) (e : Extent) → slice_get (map record_of types) at.type ≡ Some (record_of t) → e ≡ extent (kind_of (record_of t).info) (record_of t) → find_size types at ≡ size_by at e
size_found types at t e is said = ap (size_in at) is ∙ ap (size_by at) (sym said)

bytes_fit : (at : Elements) (bytes : ℕ) → bytes * at.count < 2 ^ 32 → size_by at (Bytes bytes) ≡ Ends (Ok (bytes * at.count))
bytes_fit at bytes lt = rw (lt-ltb (bytes * at.count) (2 ^ 32) lt) refl

bytes_too_many : (at : Elements) (bytes : ℕ) → 2 ^ 32 ≤ bytes * at.count → size_by at (Bytes bytes) ≡ Ends (Err InvalidTypeInfo)
bytes_too_many at bytes le = rw (le-ltb (bytes * at.count) (2 ^ 32) le) refl

pub times_fit : (at : Elements) (times next : ℕ) → at.count * times < 2 ^ 32 → size_by at (Times times next) ≡ GoesOn (record { count = at.count * times; type = next })
times_fit at times next lt = rw (lt-ltb (at.count * times) (2 ^ 32) lt) refl

times_too_many : (at : Elements) (times next : ℕ) → 2 ^ 32 ≤ at.count * times → size_by at (Times times next) ≡ Ends (Err InvalidTypeInfo)
times_too_many at times next le = rw (le-ltb (at.count * times) (2 ^ 32) le) refl

-- the walk ends with bytes
pub ends_with_bytes : (types : List BtfType) (n id bytes : ℕ) (at : Elements) (r : Result ℕ BtfError) → n < walk_limit → Leads (By (find_size types)) n (one id) at → find_size types at ≡ size_by at (Bytes bytes) → MatchResult r (λ x. (x ≡ bytes * at.count) × (bytes * at.count < 2 ^ 32)) (λ e. (2 ^ 32 ≤ bytes * at.count) × (e ≡ errors.InvalidTypeInfo)) → Meets (λ x. x) r (HasSize (map record_of types) id)
ends_with_bytes types n id bytes at (Ok x) lt p is m = inl (n, at, lt, p, is ∙ bytes_fit at bytes m.1 ∙ ap (λ (v : ℕ). Ends (Ok v)) (sym m.0))
ends_with_bytes types n id bytes at (Err e) lt p is m = (InvalidTypeInfo, ap refusal_of m.1, inl (n, at, lt, p, is ∙ bytes_too_many at bytes m.0))

-- the walk ends with a product that is too large
pub ends_at_product : (types : List BtfType) (n id times next : ℕ) (at : Elements) (e : BtfError) (r : Result ℕ BtfError) → n < walk_limit → Leads (By (find_size types)) n (one id) at → find_size types at ≡ size_by at (Times times next) → 2 ^ 32 ≤ at.count * times → e ≡ errors.InvalidTypeInfo → IsErrAnd r (λ y. y ≡ e) → Meets (λ x. x) r (HasSize (map record_of types) id)
ends_at_product types n id times next at e r lt p is le e-is err =
    let q = err_from_is_err_and r err in
    let refused : Meets {X = ℕ} (λ x. x) (Err e) (HasSize (map record_of types) id) = (InvalidTypeInfo, ap refusal_of e-is, inl (n, at, lt, p, is ∙ times_too_many at times next le)) in
    subst (λ (x : Result ℕ BtfError). Meets (λ y. y) x (HasSize (map record_of types) id)) (sym (q.1 ∙ ap (λ (x : BtfError). Err x) q.2)) refused
