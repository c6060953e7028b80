-- What the reader of the header returns.
use Rattle.btf_model.specs.Blob as blob
use Rattle.btf_table.specs.declared.table.header.Header.{Header}
use Rattle.btf_plain.specs.declared.error.BtfError.TheVariants as errors
use Rattle.btf_plain.specs.declared.error.BtfError.{BtfError}
use Rattle.btf_model.specs.declared.endianness.Endianness.{Endianness}
use Rattle.std.specs.Prelude.{List, MatchResult, Result, length, ℕ, ◌<◌, ◌≡◌, ◌≤◌, MatchOption, Option, ◌+◌}
use Rattle.btf_model.specs.Blob.{header_len, header_of, slice}
use Rattle.std.specs.Borrow.{Bor}

-- a header of the code as a header of the definitions
abbrev pub model_header : Header → blob.Header
model_header h = record {
  magic = h.magic;
  version = h.version;
  flags = h.flags;
  hdr_len = h.hdr_len;
  type_off = h.type_off;
  type_len = h.type_len;
  str_off = h.str_off;
  str_len = h.str_len;
}

-- The result is the header that bytes begin with; it is refused if there are fewer bytes.
abbrev pub ReadsHeader : List ℕ → Endianness → Result Header BtfError → Type 0
ReadsHeader bytes endianness result =
    MatchResult result (λ h. (header_len ≤ length bytes) × (model_header h ≡ header_of endianness bytes))
    (λ e. (length bytes < header_len) × (e ≡ errors.InvalidHeader))

-- The result is the bytes of a section whose offset counts from the end of the header; None if they exceed the
-- bytes.
abbrev pub IsSectionAt : List ℕ → ℕ → ℕ → ℕ → Option (Bor (List ℕ)) → Type 0
IsSectionAt bytes hdr_len offset len result =
    MatchOption result (length bytes < hdr_len + offset + len)
    (λ s. (hdr_len + offset + len ≤ length bytes) × (s.now ≡ slice (hdr_len + offset) len bytes))
