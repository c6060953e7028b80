-- The parts of a .BTF.ext that C reads.
use Rattle.std.specs.Prelude.{◌≡◌, ℕ, zero, suc, List, [], ◌∷◌, ◌++◌, Option, Some, None, unwrap_or, Result, Ok, Err, ◌≤◌}
use Rattle.std.specs.List.{flat_map}
use Rattle.btf_ext.specs.BtfExt.{ext as said}
use Rattle.btf_model.specs.Ext.{Records, little_bytes, no_records}
use Rattle.btf_model.specs.Refusal.{Refusal}
use Rattle.btf_model.specs.RelocationWords.{RelocationSection, Words}
use Rattle.vbtf.specs.Ext.{OpenedExt, AreNames}
use Rattle.vbtf.specs.Status.{EndsFilling}
use Rattle.vbtf.specs.declared.fault.Fault.{Fault}
use Rattle.vbtf.specs.declared.handle.Handle.{Handle}
use Rattle.std.specs.Str.{IsUtf8}
use Rattle.vbtf.specs.declared.opened.Opened.{Opened}

-- texts, each with a zero byte after it
abbrev pub zero_ended : List (List ℕ) → List ℕ
zero_ended texts = flat_map (λ text. text ++ 0 ∷ []) texts

-- The names for which a look-up finds something, each once, in any order, with a zero byte after it; never an error.
abbrev pub ListsNames : {X : Type 0} → (List ℕ → Option X) → Result (List ℕ) Refusal → Type 0
ListsNames found answer = (names : List (List ℕ)) × AreNames found names × (answer ≡ Ok (zero_ended names))

-- The names of the sections of a part: 0 for functions, 1 for lines.
abbrev pub NamesOf : OpenedExt → ℕ → Result (List ℕ) Refusal → Type 0
NamesOf ext zero = ListsNames (said ext).func
NamesOf ext (suc n) = ListsNames (said ext).line

-- Status 0, and a section of relocations has the name at this string offset; or status 103, and there is none.
abbrev pub HasSectionName : ℕ → ℕ → Option RelocationSection → Type 0
HasSectionName status name (Some section) = (status ≡ 0) × (name ≡ section.0)
HasSectionName status name None = status ≡ 103

-- the bytes of the records of a section, as little-endian words
abbrev pub record_bytes : Option Records → List ℕ
record_bytes found = little_bytes (unwrap_or found no_records).words

-- The records of a section of a part: 0 for functions, 1 for lines.
abbrev pub RecordsOf : OpenedExt → ℕ → List ℕ → Result (List ℕ) Refusal → Type 0
RecordsOf ext zero name answer = answer ≡ Ok (record_bytes ((said ext).func name))
RecordsOf ext (suc n) name answer = answer ≡ Ok (record_bytes ((said ext).line name))

-- the relocations of a section, one word after another
abbrev pub RelocationsOf : List ℕ → OpenedExt → List ℕ → Result (List ℕ) Refusal → Type 0
RelocationsOf strings ext name (Ok words) =
    (records : List (List ℕ)) × Words strings (said ext).relocations name (Ok records)
    × (words ≡ flat_map (λ r. r) records)
RelocationsOf strings ext name (Err refusal) = Words strings (said ext).relocations name (Err refusal)

-- For an open table with `.BTF.ext`, a name that is UTF-8, and one of the two parts, the call fills the buffer with
-- the records of the section.
abbrev pub EndsRecords : Handle → ℕ → List ℕ → List ℕ → List ℕ → ℕ → Fault → ℕ → Type 0
EndsRecords table part name old_out new_out needed fault result =
    table.state ≡ 2 → IsUtf8 name → (ext : OpenedExt) → table.opened.ext ≡ Some ext → part ≤ 1
    → EndsFilling result old_out new_out needed fault (RecordsOf ext part name)

-- For an open table with `.BTF.ext` and a name that is UTF-8, the call fills the buffer with the relocation records
-- of the section.
abbrev pub EndsRelocations : Handle → List ℕ → List ℕ → List ℕ → ℕ → Fault → ℕ → Type 0
EndsRelocations table name old_out new_out needed fault result =
    table.state ≡ 2 → IsUtf8 name → (ext : OpenedExt) → table.opened.ext ≡ Some ext
    → EndsFilling result old_out new_out needed fault (RelocationsOf table.opened.btf.strings ext name)

-- P holds of the `.BTF.ext` that is open with a table, if one is open.
abbrev pub IfExt : Opened → (OpenedExt → Type 0) → Type 0
IfExt opened P = (ext : OpenedExt) → opened.ext ≡ Some ext → P ext

-- P holds of the `.BTF.ext` that a handle lends, if it lends one.
abbrev pub IfLendsExt : Handle → (OpenedExt → Type 0) → Type 0
IfLendsExt handle P = handle.state ≡ 2 → IfExt handle.opened P
