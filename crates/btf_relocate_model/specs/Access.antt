-- Access strings: which member, element or enumerator of a type a record is about.
-- Source: the kernel's documentation of `struct bpf_core_relo`, `access_str_off`; libbpf's `bpf_core_parse_spec`, whose
-- limit is `BPF_CORE_SPEC_MAX_LEN`. An index has digits alone, as compilers write it; libbpf also reads signs and
-- blanks, which let an index be negative.
use Rattle.std.specs.Prelude.{ℕ, List, [], ◌∷◌, length, Bool, ◌==◌, ◌&&◌, nat_lt, nat_le, if◌then◌else◌, Option, Some, None}
use Rattle.std.specs.Char.{is_ascii_digit}
use Rattle.std.specs.List.{slice_split, list_all}
use Rattle.std.specs.Str.Parse.{digits_value}

-- the maximum number of indices of an access
abbrev pub access_limit : ℕ
access_limit = 64

-- the greatest index
abbrev pub index_limit : ℕ
index_limit = 2147483647

-- the byte `:`
abbrev pub is_colon : ℕ → Bool
is_colon byte = byte == 58

-- a part of an access: one or more digits, whose number is an index
abbrev pub index_of : List ℕ → Option ℕ
index_of part =
    if nat_lt 0 (length part) && list_all is_ascii_digit part && nat_le (digits_value 10 part) index_limit
    then Some (digits_value 10 part) else None

-- the indices of all parts, if each is one
abbrev pub with_index : Option ℕ → Option (List ℕ) → Option (List ℕ)
with_index (Some i) (Some is) = Some (i ∷ is)
with_index i is = None

abbrev pub indices_of : List (List ℕ) → Option (List ℕ)
indices_of [] = Some []
indices_of (part ∷ parts) = with_index (index_of part) (indices_of parts)

-- The indices of an access string: indices with a colon between them, at least one and at most 64; none if the text is
-- outside this grammar.
abbrev pub access_of : List ℕ → Option (List ℕ)
access_of text =
    if nat_le (length (slice_split is_colon text)) access_limit then indices_of (slice_split is_colon text) else None
