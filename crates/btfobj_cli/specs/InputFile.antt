-- The kind of a file, by its bytes.
use Rattle.std.specs.Prelude.{◌≡◌, ℕ, List, Bool, true, false, slice_get, slice_index, Option, Some, None}
use Rattle.btf_model.specs.Blob as model
use Rattle.btf_model.specs.Table as tables
use Rattle.btf_model.specs.declared.endianness.Endianness.{Endianness}
use Rattle.btf_model.specs.declared.endianness.Endianness.TheVariants.{Little, Big}
use Rattle.btf_split_model.specs.Split.{IsJoined}
use Rattle.btf_elf_model.specs.Object as elf
use Rattle.btf_elf_model.specs.declared.section_header.SectionHeader.{SectionHeader}
use Rattle.btf_object_model.specs.Sanitized.{first_section_index, table_name, ext_name}
use Rattle.btfobj_cli.specs.declared.input_file.InputFile.{InputFile}
use Rattle.btfobj_cli.specs.declared.input_file.InputFile.TheVariants.{Object, Table}

-- The bytes begin with the first byte of ELF's magic number (the gABI, chapter 4, `ELFMAG0`).
abbrev pub BeginsObject : List ℕ → Type 0
BeginsObject bytes = slice_index bytes 0 ≡ 127

-- The bytes begin with ELF's magic number (the gABI, chapter 4, "ELF Identification").
abbrev pub HasMagic : List ℕ → Type 0
HasMagic bytes =
    (slice_index bytes 0 ≡ 127) × (slice_index bytes 1 ≡ 69) × (slice_index bytes 2 ≡ 76) × (slice_index bytes 3 ≡ 70)

-- The bytes begin with BTF's magic number, 0xeb9f, in a byte order (the kernel's documentation, "BTF_MAGIC").
abbrev pub BeginsTable : Endianness → List ℕ → Type 0
BeginsTable Little bytes = (slice_index bytes 0 ≡ 159) × (slice_index bytes 1 ≡ 235)
BeginsTable Big bytes = (slice_index bytes 0 ≡ 235) × (slice_index bytes 1 ≡ 159)

-- whether the file is an object, and not a table alone
abbrev pub is_object : InputFile → Bool
is_object (Object object) = true
is_object (Table bytes order) = false

-- The file is a table alone: these bytes, in this order.
abbrev pub IsTableAlone : Endianness → List ℕ → InputFile → Type 0
IsTableAlone order bytes (Object object) = ⊥
IsTableAlone order bytes (Table own own_order) = (own.now ≡ bytes) × (own_order ≡ order)

-- The bytes are this file: an object, or a table alone.
abbrev pub IsFile : List ℕ → InputFile → Type 0
IsFile bytes (Object object) = elf.IsObject bytes object
IsFile bytes (Table own order) = (own.now ≡ bytes) × BeginsTable order bytes

-- the byte order of the words: of an object, the order in its header
abbrev pub file_order : InputFile → Endianness
file_order (Object object) = object.header.order
file_order (Table bytes order) = order

-- The first section of a name has these bytes.
abbrev pub IsFirstSection : elf.Object → List ℕ → List ℕ → Type 0
IsFirstSection o name bytes =
    (index : ℕ) × (s : SectionHeader) × (first_section_index o name ≡ Some index) × (slice_get o.sections index ≡ Some s)
    × (bytes ≡ elf.section_bytes o s)

-- The bytes of the table: of the section `.BTF` of an object, or of the file.
abbrev pub HasTableBytes : InputFile → List ℕ → Type 0
HasTableBytes (Object object) bytes = IsFirstSection object table_name bytes
HasTableBytes (Table own order) bytes = bytes ≡ own.now

-- The bytes are those of the table of a file.
abbrev pub IsTableOf : List ℕ → List ℕ → Type 0
IsTableOf file bytes = (input : InputFile) × IsFile file input × HasTableBytes input bytes

-- The file has this table.
abbrev pub HasFileTable : InputFile → tables.Table → Type 0
HasFileTable input t = (bytes : List ℕ) × HasTableBytes input bytes × model.IsTable (file_order input) bytes t

-- The file has this table over a base: the bytes of its table are a split table over the base.
abbrev pub HasSplitTable : InputFile → tables.Table → tables.Table → Type 0
HasSplitTable input base t = (bytes : List ℕ) × HasTableBytes input bytes × IsJoined (file_order input) base bytes t

-- The file has this table, over a base if there is one.
abbrev pub HasTableOver : InputFile → Option tables.Table → tables.Table → Type 0
HasTableOver input None t = HasFileTable input t
HasTableOver input (Some base) t = HasSplitTable input base t

-- The file is an object, and these are the bytes of its section `.BTF.ext`.
abbrev pub HasExt : InputFile → List ℕ → Type 0
HasExt (Object object) bytes = IsFirstSection object ext_name bytes
HasExt (Table own order) bytes = ⊥
