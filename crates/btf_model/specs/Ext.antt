-- `.BTF.ext`: the function, line and relocation records of a program's sections, and why bytes are refused.
-- Source: the kernel's BTF documentation, ".BTF.ext section", `struct btf_ext_header`, `btf_ext_info_sec`,
-- `bpf_func_info`, `bpf_line_info`, `bpf_core_relo`; aya-obj's `BtfExt::parse`, with sums in 64 bits, determines three
-- things: how a header of another length is read, the order of the tests, and which of several sections of one name
-- counts.
use Rattle.std.specs.Prelude.{◌≡◌, ◌≢◌, ◌⊎◌, ℕ, zero, suc, ◌+◌, ◌*◌, ◌-◌, ◌/◌, ◌<◌, ◌≤◌, ◌^◌, ◌==◌, min, nat_lt, if◌then◌else◌, List, [], ◌∷◌, ◌++◌, length, take, drop, map, filter, replicate, option_map, Option, None, Result, Ok, Err}
use Rattle.std.specs.List.{flat_map, AllByRecursion, last_or}
use Rattle.std.specs.Str.{bytes_eq}
use Rattle.btf_model.specs.Word.{word, words_at}
use Rattle.btf_model.specs.declared.endianness.Endianness.{Endianness}
use Rattle.btf_model.specs.declared.endianness.Endianness.TheVariants.{Little}
use Rattle.btf_model.specs.Refusal.{Refusal, InvalidHeader, InvalidInfo}
use Rattle.btf_model.specs.Blob.{slice, word_at}
use Rattle.btf_model.specs.Text.{text_at}

-- ---- sections

-- A section: the string offset of its name, the number of its records, and their bytes.
pub record Section : Type 0 where
  pub name : ℕ
  pub count : ℕ
  pub bytes : List ℕ

-- The bytes of a section: the word of its name, the word of its count, and its records.
abbrev pub ext_section_bytes : Endianness → Section → List ℕ
ext_section_bytes order s = word order s.name ++ word order s.count ++ s.bytes

-- A section of records of this size: it has at least one record, each record has at least one byte, and its bytes are
-- exactly the records.
pub record IsSection (size : ℕ) (s : Section) : Type 0 where
  pub name : s.name < 2 ^ 32
  pub count : s.count < 2 ^ 32
  pub some_record : 0 < s.count
  pub some_byte : 0 < size
  pub records : length s.bytes ≡ size * s.count

-- The bytes are these sections, one after another, and then a rest.
abbrev pub BeginsWith : Endianness → ℕ → List ℕ → List Section → List ℕ → Type 0
BeginsWith order size bytes sections rest =
    AllByRecursion (IsSection size) sections × (bytes ≡ flat_map (ext_section_bytes order) sections ++ rest)

-- The longest list of sections that the bytes begin with, and the rest after it.
pub record Sections (order : Endianness) (size : ℕ) (bytes : List ℕ) (sections : List Section) (rest : List ℕ) : Type 0 where
  pub cut : BeginsWith order size bytes sections rest
  pub longest : (others : List Section) (more : List ℕ) → BeginsWith order size bytes others more → length rest ≤ length more

-- The bytes begin with no section.
abbrev pub BeginsNoSection : Endianness → ℕ → List ℕ → Type 0
BeginsNoSection order size bytes =
    (s : Section) (more : List ℕ) → IsSection size s → bytes ≡ ext_section_bytes order s ++ more → ⊥

-- the largest number of bytes that is reported
abbrev pub largest_len : ℕ
largest_len = 18446744073709551615

-- Why a rest begins with no section: its first two words are truncated, or its count is 0, or its records are
-- truncated.
abbrev pub cut_refusal : Endianness → ℕ → List ℕ → Refusal
cut_refusal order size rest =
    if nat_lt (length rest) 8 then InvalidInfo 0 8 (length rest)
    else InvalidInfo 8 (min (size * word_at order 4 rest) largest_len) (length rest)

-- Bytes whose sections are read one after another: the byte order, the size of a record, and the bytes that are left.
pub record SectionBytes : Type 0 where
  pub order : Endianness
  pub size : ℕ
  pub bytes : List ℕ

-- What reading all sections without their names returns: the sections, or why the rest after them is refused.
abbrev pub AreSections : Endianness → ℕ → List ℕ → Result (List Section) Refusal → Type 0
AreSections order size bytes (Ok sections) = BeginsWith order size bytes sections []
AreSections order size bytes (Err refusal) =
    (sections : List Section) × (rest : List ℕ) × Sections order size bytes sections rest × (rest ≢ [])
    × (refusal ≡ cut_refusal order size rest)

-- ---- named sections

-- a section and the text of its name
pub record Named : Type 0 where
  pub text : List ℕ
  pub section : Section

-- The name of each section can be read, and is this text.
abbrev pub HaveNames : List ℕ → List Named → Type 0
HaveNames strings named = AllByRecursion (λ n. text_at strings n.section.name ≡ Ok n.text) named

-- the sections, without their names
abbrev pub sections_of : List Named → List Section
sections_of named = map (λ n. n.section) named

-- After these named sections the bytes have a section whose name cannot be read.
abbrev pub IsUnnamedAfter : Endianness → ℕ → List ℕ → List ℕ → List Named → Refusal → Type 0
IsUnnamedAfter order size strings bytes named refusal =
    (s : Section) × (more : List ℕ) × BeginsWith order size bytes (sections_of named ++ s ∷ []) more
    × (text_at strings s.name ≡ Err refusal)

-- After these named sections the bytes have a rest that is truncated.
abbrev pub IsTruncatedAfter : Endianness → ℕ → List ℕ → List Named → Refusal → Type 0
IsTruncatedAfter order size bytes named refusal =
    (rest : List ℕ) × Sections order size bytes (sections_of named) rest × (rest ≢ [])
    × (refusal ≡ cut_refusal order size rest)

-- What reading all sections with their names returns, if each name is read right after its section: the named sections,
-- or the first refusal after some of them.
abbrev pub AreNamed : Endianness → ℕ → List ℕ → List ℕ → Result (List Named) Refusal → Type 0
AreNamed order size strings bytes (Ok named) =
    BeginsWith order size bytes (sections_of named) [] × HaveNames strings named
AreNamed order size strings bytes (Err refusal) =
    (named : List Named) × HaveNames strings named
    × (IsUnnamedAfter order size strings bytes named refusal ⊎ IsTruncatedAfter order size bytes named refusal)

-- ---- records

-- the first width words of each of count records of this size
abbrev pub record_words : Endianness → ℕ → ℕ → ℕ → List ℕ → List (List ℕ)
record_words order size width zero bytes = []
record_words order size width (suc count) bytes =
    words_at order width bytes ∷ record_words order size width count (drop size bytes)

-- the number of bytes of an instruction
abbrev pub instruction_size : ℕ
instruction_size = 8

-- a record whose first word, the place of its instruction, is counted in instructions instead of bytes
abbrev pub in_instructions : List ℕ → List ℕ
in_instructions [] = []
in_instructions (offset ∷ words) = (offset / instruction_size) ∷ words

-- The records of a section of a program: the count that the section gives, and the words of each record.
pub record Records : Type 0 where
  pub count : ℕ
  pub words : List (List ℕ)

-- no records
abbrev pub no_records : Records
no_records = record { count = 0; words = [] }

-- The bytes that are passed to the kernel: the words of each record in little-endian order, whatever order they were
-- read in.
abbrev pub little_bytes : List (List ℕ) → List ℕ
little_bytes records = flat_map (flat_map (word Little)) records

-- function or line records, with this number of words from each
abbrev pub instruction_records : Endianness → ℕ → ℕ → Section → Records
instruction_records order size width s = record {
  count = s.count;
  words = map in_instructions (record_words order size width s.count s.bytes);
}

-- The section of a name: the last one with this name.
abbrev pub section_named : List Named → List ℕ → Option Section
section_named named name = option_map (λ n. n.section) (last_or None (filter (λ n. bytes_eq name n.text) named))

-- ---- the whole

-- A range of the bytes: its start, its length in bytes, and the least size of its records.
pub record Range : Type 0 where
  pub start : ℕ
  pub len : ℕ
  pub least : ℕ

-- The header: the ranges of the function, line and relocation records.
pub record HeaderOfExt : Type 0 where
  pub func : Range
  pub line : Range
  pub core : Range

-- the length of the header with all its words
abbrev pub full_header : ℕ
full_header = 32

-- The 32 bytes of the header: as many bytes as its length gives, and zeros after them.
abbrev pub ext_header_bytes : Endianness → List ℕ → List ℕ
ext_header_bytes order bytes = let given = take (min (word_at order 4 bytes) full_header) bytes in given
    ++ replicate (full_header - length given) 0

-- a range by two words of the header: its offset, which counts from the end of the header, and its length
abbrev pub range_at : Endianness → ℕ → ℕ → List ℕ → Range
range_at order at least bytes = record {
  start = word_at order 4 bytes + word_at order at bytes;
  len = word_at order (at + 4) bytes;
  least = least;
}

-- The ranges by the words of the header. A function record has at least two words, a line record and a relocation
-- record at least four.
abbrev pub header_words : Endianness → List ℕ → HeaderOfExt
header_words order bytes = record {
  func = range_at order 8 8 bytes;
  line = range_at order 16 16 bytes;
  core = range_at order 24 16 bytes;
}

-- The header is complete up to its length, which is its second word; or it is truncated.
abbrev pub HasHeader : Endianness → List ℕ → Result HeaderOfExt Refusal → Type 0
HasHeader order bytes (Ok h) =
    (8 ≤ length bytes) × (word_at order 4 bytes ≤ length bytes) × (h ≡ header_words order (ext_header_bytes order bytes))
HasHeader order bytes (Err refusal) =
    ((length bytes < 8) ⊎ (length bytes < word_at order 4 bytes)) × (refusal ≡ InvalidHeader)

-- A range is within the bytes. If it is not empty, its first word is the size of its records, which is at least the
-- least size.
pub record IsRange (order : Endianness) (bytes : List ℕ) (r : Range) : Type 0 where
  pub within : r.start + r.len ≤ length bytes
  pub has_word : 0 < r.len → 4 ≤ r.len
  pub large_enough : 0 < r.len → r.least ≤ word_at order r.start bytes

-- the contents of a range: the size of its records, and the bytes of its sections
pub record Part : Type 0 where
  pub size : ℕ
  pub bytes : List ℕ

-- An empty range has records of size 0 and no sections. In any other range the first word is the size of the records,
-- and the sections are after it.
abbrev pub part_of : Endianness → List ℕ → Range → Part
part_of order bytes r =
    if r.len == 0 then record { size = 0; bytes = [] }
    else record { size = word_at order r.start bytes; bytes = slice (r.start + 4) (r.len - 4) bytes }

-- The contents of a range, or a refusal if it is not a range.
abbrev pub HasPart : Endianness → List ℕ → Range → Result Part Refusal → Type 0
HasPart order bytes r (Ok part) = IsRange order bytes r × (part ≡ part_of order bytes r)
HasPart order bytes r (Err refusal) = ¬ (IsRange order bytes r) × (refusal ≡ InvalidInfo r.start r.len (length bytes))

-- The contents of `.BTF.ext`: the record size and the records by section name, for functions and for lines; and the
-- relocation sections, each as the string offset of its name and the first four words of each record.
pub record Ext : Type 0 where
  pub func_size : ℕ
  pub func : List ℕ → Option Records
  pub line_size : ℕ
  pub line : List ℕ → Option Records
  pub relocations : List (ℕ × List (List ℕ))

-- the records of the section of a name, with width words from each
abbrev pub records_named : Endianness → ℕ → Part → List Named → List ℕ → Option Records
records_named order width part named name =
    option_map (instruction_records order part.size width) (section_named named name)

-- a section of relocations: the string offset of its name, and the words of each record
abbrev pub relocation_section : Endianness → ℕ → Section → ℕ × List (List ℕ)
relocation_section order size s = (s.name, record_words order size 4 s.count s.bytes)

-- the contents that these function, line and relocation sections give
abbrev pub ext_of : Endianness → Part → List Named → Part → List Named → Part → List Section → Ext
ext_of order func funcs line lines core relocations = record {
  func_size = func.size;
  func = records_named order 2 func funcs;
  line_size = line.size;
  line = records_named order 4 line lines;
  relocations = map (relocation_section order core.size) relocations;
}

-- Two steps in order, where the second depends on the value of the first: the result of the second step, or the refusal
-- of the first step that fails.
abbrev pub Then : {A B : Type 0} → (Result A Refusal → Type 0) → (A → Result B Refusal → Type 0) → Result B Refusal
    → Type 0
Then first second (Ok b) = (a : _) × first (Ok a) × second a (Ok b)
Then first second (Err refusal) = first (Err refusal) ⊎ ((a : _) × first (Ok a) × second a (Err refusal))

-- The contents of the bytes, with names from a table's strings, or the first refusal. The tests are in this order: the
-- header, the three ranges, the function sections, the line sections, the relocation sections.
abbrev pub IsExt : Endianness → List ℕ → List ℕ → Result Ext Refusal → Type 0
IsExt order bytes strings =
    Then (HasHeader order bytes) (λ h.
    Then (HasPart order bytes h.func) (λ func.
    Then (HasPart order bytes h.line) (λ line.
    Then (HasPart order bytes h.core) (λ core.
    Then (AreNamed order func.size strings func.bytes) (λ funcs.
    Then (AreNamed order line.size strings line.bytes) (λ lines.
    Then (AreSections order core.size core.bytes) (λ relocations answer.
    answer ≡ Ok (ext_of order func funcs line lines core relocations))))))))
