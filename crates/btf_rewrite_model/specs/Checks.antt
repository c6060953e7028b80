-- The tests of a rewrite: each one passes or gives a refusal, and the first refusal counts. Source: aya-obj's
-- `fixup_and_sanitize`, whose order the tests have. The limits of both sections are the kernel's, because its header
-- has 32 bits for a length.
use Rattle.std.specs.Prelude.{ℕ, ◌+◌, ◌*◌, ◌^◌, nat_le, nat_lt, if◌then◌else◌, List, [], ◌∷◌, length, slice_get, Option, Some, None, Result, Ok, Err}
use Rattle.btf_model.specs.Record.{Record}
use Rattle.btf_model.specs.Refusal.{Refusal, InvalidTypeInfo, InvalidStringOffset, UnknownBtfType}
use Rattle.btf_model.specs.Table.{Table, section_limit}

-- none if the test passes, else the refusal
abbrev pub Check : Type 0
Check = Option Refusal

-- the first refusal of these tests
abbrev pub first_fault : List Check → Option Refusal
first_fault [] = None
first_fault (None ∷ checks) = first_fault checks
first_fault (Some refusal ∷ checks) = Some refusal

-- a name can be read
abbrev pub name_is_read : Result (List ℕ) Refusal → Check
name_is_read (Ok name) = None
name_is_read (Err refusal) = Some refusal

-- an id has a record
abbrev pub is_record : ℕ → Option Record → Check
is_record id (Some r) = None
is_record id None = Some (UnknownBtfType id)

-- a type has the id
abbrev pub is_known : Table → ℕ → Check
is_known t id = is_record id (slice_get t.records id)

-- a text and its zero byte fit after this number of string bytes
abbrev pub has_room : ℕ → List ℕ → Check
has_room offset text =
    if nat_le (offset + length text + 1) section_limit then None else Some (InvalidStringOffset offset)

-- the texts fit, one after the other
abbrev pub have_room : ℕ → List (List ℕ) → List Check
have_room offset [] = []
have_room offset (text ∷ texts) = has_room offset text ∷ have_room (offset + length text + 1) texts

-- this number of bytes of records fits after the bytes that are used
abbrev pub fits : ℕ → ℕ → Check
fits used bytes = if nat_le (used + bytes) section_limit then None else Some InvalidTypeInfo

-- the number of bytes of a record
abbrev pub record_len : Record → ℕ
record_len r = 4 * (3 + length r.tail)

-- a number, if it has at most 32 bits
abbrev pub in_a_word : Option ℕ → Option ℕ
in_a_word (Some n) = if nat_lt n (2 ^ 32) then Some n else None
in_a_word None = None
