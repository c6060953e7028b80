-- Types of a table, as a relocation looks them up: records, names, what an id resolves to, sizes.
-- Source: libbpf's `skip_mods_and_typedefs`, `btf__resolve_size` and `btf__pointer_size`, with the limit of 32 types of
-- its `MAX_RESOLVE_DEPTH`; libbpf follows modifiers without a limit, and reads past the table for an unknown id.
use Rattle.std.specs.Prelude.{ℕ, zero, suc, ◌==◌, ◌&&◌, ◌||◌, Bool, true, false, List, [], ◌∷◌, codes, filter, slice_get, Option, Some, None, Result, Ok, Err}
use Rattle.std.specs.List.{list_any}
use Rattle.std.specs.Str.{bytes_eq}
use Rattle.btf_model.specs.Record.{Kind, Int, Ptr, FuncProto, Record, kind_of}
use Rattle.btf_model.specs.Refusal as refusals
use Rattle.btf_model.specs.Refusal.{Refusal}
use Rattle.btf_model.specs.Table.{Table}
use Rattle.btf_model.specs.Text.{bytes_at}
use Rattle.btf_model.specs.Walk.{Finding, Ends, GoesOn, walk_limit, unmodified_in, Extent, Bytes, NoExtent, extent, Elements, size_by}
use Rattle.btf_relocate_model.specs.declared.error.RelocationError.{RelocationError}
use Rattle.btf_relocate_model.specs.declared.error.RelocationError.TheVariants.{UnknownBtfType, MaximumTypeDepthReached, InvalidStringOffset, NoSize}

-- a step, and then another one with its value; the first error ends both
infixl 10 ◌>>=◌
abbrev pub ◌>>=◌ : {A B : Type 0} → Result A RelocationError → (A → Result B RelocationError) → Result B RelocationError
(Ok x) >>= f = f x
(Err e) >>= f = Err e

-- ---- records and names

-- the record of an id
abbrev pub known_record : ℕ → Option Record → Result Record RelocationError
known_record id (Some r) = Ok r
known_record id None = Err (UnknownBtfType id)

abbrev pub required_record : Table → ℕ → Result Record RelocationError
required_record t id = known_record id (slice_get t.records id)

-- the bytes of a name that is needed
abbrev pub readable : ℕ → Option (List ℕ) → Result (List ℕ) RelocationError
readable offset (Some bytes) = Ok bytes
readable offset None = Err (InvalidStringOffset offset)

abbrev pub name_at : Table → ℕ → Result (List ℕ) RelocationError
name_at t offset = readable offset (bytes_at t.strings offset)

-- the bytes of a name, which is empty if there is no text at its offset
abbrev pub bytes_or_none : Option (List ℕ) → List ℕ
bytes_or_none (Some bytes) = bytes
bytes_or_none None = []

abbrev pub name_or_none : Table → ℕ → List ℕ
name_or_none t offset = bytes_or_none (bytes_at t.strings offset)

-- ---- what an id resolves to

-- the end of a walk of at most n steps, if it ends
abbrev pub walk_on : {Place Answer : Type 0} → (Place → Option (Result Answer Refusal)) → Finding Place Answer
    → Option (Result Answer Refusal)
walk_on further (GoesOn next) = further next
walk_on further (Ends answer) = Some answer

unfoldable pub walk : {Place Answer : Type 0} → (Place → Finding Place Answer) → ℕ → Place
    → Option (Result Answer Refusal)
walk find zero place = None
walk find (suc n) place = walk_on (walk find n) (find place)

-- The id that a walk over modifiers ends with. Such a walk is refused at an unknown id alone.
abbrev pub walked_id : ℕ → Option (Result ℕ Refusal) → Result ℕ RelocationError
walked_id id (Some (Ok end)) = Ok end
walked_id id (Some (Err (refusals.UnknownBtfType unknown))) = Err (UnknownBtfType unknown)
walked_id id answer = Err (MaximumTypeDepthReached id)

-- The first type from an id on that is no TYPEDEF, VOLATILE, CONST, RESTRICT or TYPE_TAG, among the first 32.
abbrev pub resolved : Table → ℕ → Result ℕ RelocationError
resolved t id = walked_id id (walk (λ at. unmodified_in at (slice_get t.records at)) walk_limit id)

-- the record of the type that an id resolves to
abbrev pub resolved_record : Table → ℕ → Result Record RelocationError
resolved_record t id = resolved t id >>= λ end. required_record t end

-- ---- sizes

-- What a record gives for the size of its type, where a pointer has a given size: as for the table alone, but a
-- FUNC_PROTO has no size.
abbrev pub extent_with : ℕ → Option Kind → Record → Extent
extent_with pointer (Some Ptr) r = Bytes pointer
extent_with pointer (Some FuncProto) r = NoExtent
extent_with pointer k r = extent k r

-- what the walk for a size finds at a type, by its record, if there is one
abbrev pub size_found : ℕ → Elements → Option Record → Finding Elements ℕ
size_found pointer at (Some r) = size_by at (extent_with pointer (kind_of r.info) r)
size_found pointer at None = Ends (Err (refusals.UnknownBtfType at.type))

-- the size that a walk ends with
abbrev pub sized_by : ℕ → Option (Result ℕ Refusal) → Result ℕ RelocationError
sized_by id (Some (Ok size)) = Ok size
sized_by id answer = Err (NoSize id)

-- The size of a type in bytes, in a table whose pointers have this size: the size that the first of at most 32 types
-- gives, after modifiers, variables and arrays, times the lengths of the arrays.
abbrev pub size_of : ℕ → Table → ℕ → Result ℕ RelocationError
size_of pointer t id =
    sized_by id (walk (λ at. size_found pointer at (slice_get t.records at.type)) walk_limit
    (record { count = 1; type = id }))

-- ---- the size of a pointer

-- the names that compilers give to the C type `long`
abbrev pub long_names : List (List ℕ)
long_names =
    codes "long" ∷ codes "long int" ∷ codes "int long" ∷ codes "unsigned long" ∷ codes "long unsigned"
    ∷ codes "unsigned long int" ∷ codes "unsigned int long" ∷ codes "long unsigned int" ∷ codes "long int unsigned"
    ∷ codes "int unsigned long" ∷ codes "int long unsigned" ∷ []

-- an INT of 4 or 8 bytes with the name of `long`
abbrev pub is_int : Option Kind → Bool
is_int (Some Int) = true
is_int k = false

abbrev pub is_long : Table → Record → Bool
is_long t r =
    is_int (kind_of r.info) && (r.third == 4 || r.third == 8)
    && list_any (bytes_eq (name_or_none t r.name)) long_names

-- the size of the first of these types, or 8
abbrev pub first_size : List Record → ℕ
first_size [] = 8
first_size (r ∷ rs) = r.third

-- The size of a pointer in the machine that a target's table describes.
abbrev pub pointer_size : Table → ℕ
pointer_size t = first_size (filter (is_long t) t.records)
