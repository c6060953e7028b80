-- Looking up the records of a walk.
use Rattle.std.proofs.Common.{◌≡◌, ℕ, List, true, false, nat_lt, length, None, Some, Result, Ok, Err, ◌<◌, ◌≤◌, ◌*◌, ◌^◌, slice_index_or, refl, sym, ap, subst, ◌∙◌, arith, inl}
use Rattle.std.specs.Prelude.{slice_get, MatchResult}
use Rattle.std.proofs.lemmas.Bool.{ltb-true, ltb-false, lt-ltb, le-ltb}
use Rattle.std.proofs.lemmas.Option.{slice_get_past, slice_get_read}
use Rattle.btf_model.specs.declared.endianness.Endianness.{Endianness}
use Rattle.btf_model.specs.Record.{Record, kind_of}
use Rattle.btf_model.specs.Refusal.{Refusal, InvalidTypeInfo}
use Rattle.btf_model.specs.Walk.{Finding, Ends, GoesOn, Leads, By, walk_limit, Extent, Bytes, Times, extent, Elements, size_by, size_in, HasSize}
use Rattle.btf_plain.specs.Error.{Meets, refusal_of}
use Rattle.btf_plain.specs.declared.error.BtfError.{BtfError}
use Rattle.btf_plain.specs.declared.error.BtfError.TheVariants as errors
use Rattle.btf_view.specs.Places.{AreIndexed, IsRecordAt}
use Rattle.btf_view.proofs.Places.{placed, as_many_places}

-- the record of an id that exists, and its place
pub there : (order : Endianness) (types places : List ℕ) (records : List Record) (id place : ℕ) → AreIndexed order types places records → true ≡ nat_lt id (length places) → place ≡ slice_index_or places id place → (r : Record) × (slice_get records id ≡ Some r) × IsRecordAt order types place r
there order types places records id place h lt is = placed order types places records id place h.are (slice_get_read places (length places) id place refl (ltb-true id (length places) (sym lt)) is)

-- no type has this id
pub missing : (order : Endianness) (types places : List ℕ) (records : List Record) (id : ℕ) → AreIndexed order types places records → false ≡ nat_lt id (length places) → slice_get records id ≡ None
missing order types places records id h lt = slice_get_past records id (omega (arith, as_many_places order types places records h.are, ltb-false id (length places) (sym lt)))

-- a walk over this number of places
pub as_many : {P A : Type 0} (Finds : P → Finding P A → Type 0) (n m : ℕ) (start end : P) → n ≡ m → Leads Finds n start end → Leads Finds m start end
as_many Finds n m start end is p = subst (λ (k : ℕ). Leads Finds k start end) is p

-- what the walk for a size finds at a count of a type
abbrev pub find_size : List Record → Elements → Finding Elements ℕ
find_size records at = size_in at (slice_get records at.type)

-- a count of 1
abbrev pub one : ℕ → Elements
one id = record { count = 1; type = id }

-- it finds what the record gives
pub size_found : (records : List Record) (at : Elements) (r : Record) (e : Extent) → slice_get records at.type ≡ Some r → e ≡ extent (kind_of r.info) r → find_size records at ≡ size_by at e
size_found records at r e is said = ap (size_in at) is ∙ ap (size_by at) (sym said)

bytes_fit : (at : Elements) (bytes : ℕ) → bytes * at.count < 2 ^ 32 → size_by at (Bytes bytes) ≡ Ends (Ok (bytes * at.count))
bytes_fit at bytes lt = rw (lt-ltb (bytes * at.count) (2 ^ 32) lt) refl

bytes_too_many : (at : Elements) (bytes : ℕ) → 2 ^ 32 ≤ bytes * at.count → size_by at (Bytes bytes) ≡ Ends (Err InvalidTypeInfo)
bytes_too_many at bytes le = rw (le-ltb (bytes * at.count) (2 ^ 32) le) refl

pub times_fit : (at : Elements) (times next : ℕ) → at.count * times < 2 ^ 32 → size_by at (Times times next) ≡ GoesOn (record { count = at.count * times; type = next })
times_fit at times next lt = rw (lt-ltb (at.count * times) (2 ^ 32) lt) refl

times_too_many : (at : Elements) (times next : ℕ) → 2 ^ 32 ≤ at.count * times → size_by at (Times times next) ≡ Ends (Err InvalidTypeInfo)
times_too_many at times next le = rw (le-ltb (at.count * times) (2 ^ 32) le) refl

-- the walk ends with bytes
pub ends_with_bytes : (records : List Record) (n id bytes : ℕ) (at : Elements) (r : Result ℕ BtfError) → n < walk_limit → Leads (By (find_size records)) n (one id) at → find_size records at ≡ size_by at (Bytes bytes) → MatchResult r (λ x. (x ≡ bytes * at.count) × (bytes * at.count < 2 ^ 32)) (λ e. (2 ^ 32 ≤ bytes * at.count) × (e ≡ errors.InvalidTypeInfo)) → Meets (λ x. x) r (HasSize records id)
ends_with_bytes records n id bytes at (Ok x) lt p is m = inl (n, at, lt, p, is ∙ bytes_fit at bytes m.1 ∙ ap (λ (v : ℕ). Ends (Ok v)) (sym m.0))
ends_with_bytes records n id bytes at (Err e) lt p is m = (InvalidTypeInfo, ap refusal_of m.1, inl (n, at, lt, p, is ∙ bytes_too_many at bytes m.0))

-- the walk ends with a product that is too large
pub ends_at_product : (records : List Record) (n id times next : ℕ) (at : Elements) (e : BtfError) → n < walk_limit → Leads (By (find_size records)) n (one id) at → find_size records at ≡ size_by at (Times times next) → 2 ^ 32 ≤ at.count * times → e ≡ errors.InvalidTypeInfo → (refusal : Refusal) × (refusal_of e ≡ Some refusal) × HasSize records id (Err refusal)
ends_at_product records n id times next at e lt p is le e-is = (InvalidTypeInfo, ap refusal_of e-is, inl (n, at, lt, p, is ∙ times_too_many at times next le))
