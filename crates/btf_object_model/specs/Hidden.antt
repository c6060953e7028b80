-- Functions and variables that are hidden: a loader makes them Static, so that the kernel verifies such a function where
-- it is called, and not by itself.
-- Source: ELF gABI, chapter 4, "Symbol Table" (st_other). libbpf determines the variables in `btf_fixup_datasec`, when
-- it opens an object; and the functions in `bpf_object__add_programs` and `prog_is_subprog`, and changes them before it
-- rewrites the table for the kernel. It reads the first symbol of a name, and here the last counts; an object has one.
use Rattle.std.specs.Prelude.{ℕ, ◌%◌, ◌==◌, ◌&&◌, ◌||◌, not, Bool, false, if◌then◌else◌, List, [], ◌∷◌, map, codes, slice_index, Option, Some, None}
use Rattle.std.specs.List.{filter}
use Rattle.std.specs.Str.{is_utf8}
use Rattle.btf_model.specs.Made.{func}
use Rattle.btf_model.specs.Record as kinds
use Rattle.btf_model.specs.Record.{Kind, Record, kind_of, vlen}
use Rattle.btf_model.specs.Table.{Table}
use Rattle.btf_elf_model.specs.Object.{Object, symbols, symbol_name}
use Rattle.btf_elf_model.specs.declared.symbol.Symbol.{Symbol}
use Rattle.btf_object_model.specs.Kconfig.{extern_name}
use Rattle.btf_object_model.specs.Layout.{last_named, stb_local, stt_object}
use Rattle.btf_object_model.specs.Sanitized.{first_section_index}

-- ---- symbols

-- STT_FUNC: the type of a symbol of a function
abbrev pub stt_func : ℕ
stt_func = 2

-- STV_INTERNAL (1) or STV_HIDDEN (2): the visibility of a symbol that only the objects see with which it is linked
abbrev pub is_restricted : Symbol → Bool
is_restricted s = (s.other % 4 == 1) || (s.other % 4 == 2)

-- the symbol belongs to the section of this index
abbrev pub is_within : Option ℕ → Symbol → Bool
is_within (Some index) s = s.section == index
is_within None s = false

-- A hidden variable, or a hidden function in `.text`, which has this index. A function in another section is a program,
-- which is called by the kernel.
abbrev pub is_hidden_symbol : Option ℕ → Symbol → Bool
is_hidden_symbol text s =
    not (s.binding == stb_local) && is_restricted s
    && ((s.kind == stt_object) || ((s.kind == stt_func) && is_within text s))

-- the section of functions that are no programs
abbrev pub text_name : List ℕ
text_name = codes ".text"

-- the type of the last hidden symbol of a name, if `.text` has this index
abbrev pub hidden_type_in : Object → Option ℕ → List ℕ → Option ℕ
hidden_type_in o text name =
    last_named (symbol_name o) (λ (s : Symbol). s.kind) (filter (is_hidden_symbol text) (symbols o)) name

-- the type of the last hidden symbol of a name
abbrev pub hidden_type : Object → List ℕ → Option ℕ
hidden_type o name = hidden_type_in o (first_section_index o text_name) name

-- ---- records

-- the type of the symbol of a FUNC or a VAR that has Global linkage
abbrev pub global_type : Option Kind → Record → Option ℕ
global_type (Some kinds.Func) r = if vlen r.info == 1 then Some stt_func else None
global_type (Some kinds.Var) r = if slice_index r.tail 0 == 1 then Some stt_object else None
global_type k r = None

-- both types are known, and are the same
abbrev pub is_same_type : Option ℕ → Option ℕ → Bool
is_same_type (Some a) (Some b) = a == b
is_same_type a b = false

-- the type of the hidden symbol of a name, if there is a name, and if it is UTF-8
abbrev pub type_of_name : (List ℕ → Option ℕ) → Option (List ℕ) → Option ℕ
type_of_name hidden (Some name) = if is_utf8 name then hidden name else None
type_of_name hidden None = None

-- The record is a FUNC or a VAR with Global linkage, and a symbol of its type and its name is hidden.
abbrev pub is_hidden : (List ℕ → Option ℕ) → List ℕ → Record → Bool
is_hidden hidden strings r =
    is_same_type (global_type (kind_of r.info) r) (type_of_name hidden (extern_name strings r.name))

-- a FUNC or a VAR with Static linkage; another record is unchanged
abbrev pub made_static : Option Kind → Record → Record
made_static (Some kinds.Func) r = func r.name r.third 0
made_static (Some kinds.Var) r = record r { tail = 0 ∷ [] }
made_static k r = r

-- a record that is Static if it is hidden
abbrev pub static_if_hidden : (List ℕ → Option ℕ) → List ℕ → Record → Record
static_if_hidden hidden strings r = if is_hidden hidden strings r then made_static (kind_of r.info) r else r

-- the table in which the hidden FUNCs and VARs are Static
abbrev pub with_hidden_static : (List ℕ → Option ℕ) → Table → Table
with_hidden_static hidden t = record t { records = map (static_if_hidden hidden t.strings) t.records }
