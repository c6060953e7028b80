-- What the steps find and make that make hidden functions and variables Static.
use Rattle.std.specs.Prelude.{◌≡◌, ℕ, Bool, List, Option, Some, None}
use Rattle.btf_model.specs.Record.{Kind, Record}
use Rattle.btf_model.specs.Table.{Table}
use Rattle.btf_elf_model.specs.Object.{Object}
use Rattle.btf_elf_model.specs.declared.symbol.Symbol.{Symbol}
use Rattle.btf_records.specs.BtfType.{record_of, fallback_of, type_kind}
use Rattle.btf_records.specs.declared.btf_type.BtfType.{BtfType}
use Rattle.btf_rewrite_model.specs.Made.{record_at}
use Rattle.btf_object_model.specs.Hidden.{is_hidden_symbol, global_type, is_same_type, type_of_name, made_static, static_if_hidden}
use Rattle.btf_object_model.specs.Kconfig.{extern_name, with_record}
use Rattle.btf_object.specs.Names.{IsNamedSymbol, IsUnnamed}

-- The symbol of an index is hidden. It has this name, and a rewrite may ask for the name; and it has this type.
abbrev pub IsHiddenSymbol : Option ℕ → Object → ℕ → List ℕ → ℕ → Type 0
IsHiddenSymbol text = IsNamedSymbol (is_hidden_symbol text) (λ (s : Symbol). s.kind)

-- The symbol of this index, if there is one, is not hidden, or no rewrite asks for its name.
abbrev pub IsHiddenLeftOut : Option ℕ → Object → ℕ → Type 0
IsHiddenLeftOut text = IsUnnamed (is_hidden_symbol text)

-- A type is a FUNC or a VAR with Global linkage, and a symbol of its type and its name is hidden.
abbrev pub is_hidden_type : (List ℕ → Option ℕ) → List ℕ → BtfType → Bool
is_hidden_type hidden strings b =
    is_same_type (global_type (Some (type_kind b)) (record_of b))
    (type_of_name hidden (extern_name strings (record_of b).name))

-- The new type is the FUNC or VAR with Static linkage.
pub record IsMadeStatic (old new : BtfType) : Type 0 where
  pub record_is : record_of new ≡ made_static (Some (type_kind old)) (record_of old)
  pub kind : type_kind new ≡ type_kind old
  pub old_fallback : fallback_of old ≡ None
  pub fallback : fallback_of new ≡ None

-- The kind is neither FUNC nor VAR.
abbrev pub IsNeither : Kind → Type 0
IsNeither k = (r : Record) → made_static (Some k) r ≡ r

-- The record of an id is Static if it is hidden, and nothing else changes.
abbrev pub HidesAt : (List ℕ → Option ℕ) → ℕ → Table → Table → Type 0
HidesAt hidden id old new = new ≡ with_record old id (static_if_hidden hidden old.strings (record_at old id))
