-- The data that the rewrite of a table reads from an object: the sizes of its sections and the offsets of its symbols,
-- by name.
-- Source: ELF gABI, chapter 4, "Sections" (sh_size) and "Symbol Table" (st_info, st_value); aya-obj's `Object::parse`
-- determines which symbols count, and that the last of several with the same name counts. libbpf uses only symbols of
-- type STT_OBJECT that are global or weak, and lays out `.kconfig` itself (`find_elf_var_offset`,
-- `bpf_object__init_kconfig_map`).
use Rattle.std.specs.Prelude.{ℕ, ◌==◌, ◌||◌, ◌&&◌, not, nat_lt, Bool, if◌then◌else◌, List, length, map, Option, None}
use Rattle.std.specs.List.{filter, last_or, enumerate_from}
use Rattle.std.specs.Str.{bytes_eq, is_utf8}
use Rattle.btf_elf_model.specs.Object.{Object, section_name, symbols, symbol_name}
use Rattle.btf_elf_model.specs.declared.section_header.SectionHeader.{SectionHeader}
use Rattle.btf_elf_model.specs.declared.symbol.Symbol.{Symbol}
use Rattle.btf_rewrite_model.specs.Pass.{Layout}

-- A name that a rewrite may ask for is shorter than this: KSYM_NAME_LEN of include/linux/kallsyms.h. `__btf_name_valid`
-- of kernel/bpf/btf.c reads no name beyond this length, so a kernel that has DATASECs refuses a longer name.
abbrev pub name_limit : ℕ
name_limit = 512

-- A rewrite may ask for the name: it is UTF-8, like each text that is read in a table, and not too long.
abbrev pub is_askable : List ℕ → Bool
is_askable name = is_utf8 name && nat_lt (length name) name_limit

-- the number of the last pair that has this name; none for a name that no rewrite asks for
abbrev pub last_named : {T : Type 0} → (T → List ℕ) → (T → ℕ) → List T → List ℕ → Option ℕ
last_named name_of number all name =
    if is_askable name
    then last_or None (map number (filter (λ t. bytes_eq (name_of t) name) all))
    else None

-- the size of the last section of a name
abbrev pub last_section_size : Object → List ℕ → Option ℕ
last_section_size o name = last_named (section_name o) (λ (s : SectionHeader). s.size) o.sections name

-- the index of the last section of a name
abbrev pub last_index_of : Object → List ℕ → Option ℕ
last_index_of o name =
    last_named (λ (p : ℕ × SectionHeader). section_name o p.1) (λ (p : ℕ × SectionHeader). p.0)
    (enumerate_from 0 o.sections) name

-- STB_LOCAL: the binding of a symbol that no other object sees
abbrev pub stb_local : ℕ
stb_local = 0

-- STT_OBJECT: the type of a symbol of a variable
abbrev pub stt_object : ℕ
stt_object = 1

-- The offset of a symbol is read if the symbol is not local, or if it is a variable. This includes undefined symbols,
-- which have the value 0.
abbrev pub is_read_symbol : Symbol → Bool
is_read_symbol s = not (s.binding == stb_local) || (s.kind == stt_object)

-- the value of the last of these symbols that has a name
abbrev pub offset_of : Object → List ℕ → Option ℕ
offset_of o name = last_named (symbol_name o) (λ (s : Symbol). s.value) (filter is_read_symbol (symbols o)) name

-- the layout that a rewrite reads from an object
abbrev pub object_layout : Object → Layout
object_layout o = record { sections = last_section_size o; symbols = offset_of o }
