-- What an `Object` represents, and the invariant of its fields.
use Rattle.std.specs.Prelude.{◌≡◌, Some}
use Rattle.btf_elf_model.specs.Symbols.{symbol_table}
use Rattle.btf_elf_model.specs.Object as model
use Rattle.btf_elf.specs.SymbolTable.{IsSymbolTable}
use Rattle.btf_elf.specs.declared.object.Object.TheInside.{Inside}

-- the object as a value of the definitions
abbrev pub as_object : Inside → model.Object
as_object a = record { header = a.header; sections = a.sections.items; bytes = a.bytes.now }

-- The bytes represent an object, and the fields agree with it.
pub record IsWholeObject (a : Inside) : Type 0 where
  pub object : model.IsObject a.bytes.now (as_object a)
  pub names : model.name_table (as_object a) ≡ Some a.names.now
  pub symbols : IsSymbolTable a.bytes.now a.sections.items (symbol_table a.sections.items) a.symbols
