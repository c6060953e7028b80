-- Kinds, as values of the definitions and as numbers in tables.
use Rattle.std.specs.Prelude.{◌≡◌, ℕ, List, codes, Result, Ok, Err, None, Some, slice_get}
use Rattle.btf_model.specs.Record as model
use Rattle.btf_model.specs.Record.{Kind, kinds}
use Rattle.btf_plain.specs.declared.error.BtfError.TheVariants as errors
use Rattle.btf_plain.specs.declared.error.BtfError.{BtfError}
use Rattle.btf_plain.specs.declared.kind.BtfKind.{BtfKind}
use Rattle.btf_plain.specs.declared.kind.BtfKind.TheVariants.{Unknown, Int, Ptr, Array, Struct, Union, Enum, Fwd, Typedef, Volatile, Const, Restrict, Func, FuncProto, Var, DataSec, Float, DeclTag, TypeTag, Enum64}

-- the kind of a `BtfKind`
abbrev pub kind : BtfKind → Kind
kind Unknown = model.Unknown
kind Int = model.Int
kind Ptr = model.Ptr
kind Array = model.Array
kind Struct = model.Struct
kind Union = model.Union
kind Enum = model.Enum
kind Fwd = model.Fwd
kind Typedef = model.Typedef
kind Volatile = model.Volatile
kind Const = model.Const
kind Restrict = model.Restrict
kind Func = model.Func
kind FuncProto = model.FuncProto
kind Var = model.Var
kind DataSec = model.DataSec
kind Float = model.Float
kind DeclTag = model.DeclTag
kind TypeTag = model.TypeTag
kind Enum64 = model.Enum64

-- The result for a number: its kind if the list has one, else a refusal.
abbrev pub KindOfNumber : ℕ → Result BtfKind BtfError → Type 0
KindOfNumber n (Ok k) = slice_get kinds n ≡ Some (kind k)
KindOfNumber n (Err e) = (slice_get kinds n ≡ None) × (e ≡ errors.InvalidTypeKind n)

-- how a kind is printed
abbrev pub kind_text : Kind → List ℕ
kind_text model.Unknown = codes "[UNKNOWN]"
kind_text model.Int = codes "[INT]"
kind_text model.Ptr = codes "[PTR]"
kind_text model.Array = codes "[ARRAY]"
kind_text model.Struct = codes "[STRUCT]"
kind_text model.Union = codes "[UNION]"
kind_text model.Enum = codes "[ENUM]"
kind_text model.Fwd = codes "[FWD]"
kind_text model.Typedef = codes "[TYPEDEF]"
kind_text model.Volatile = codes "[VOLATILE]"
kind_text model.Const = codes "[CONST]"
kind_text model.Restrict = codes "[RESTRICT]"
kind_text model.Func = codes "[FUNC]"
kind_text model.FuncProto = codes "[FUNC_PROTO]"
kind_text model.Var = codes "[VAR]"
kind_text model.DataSec = codes "[DATASEC]"
kind_text model.Float = codes "[FLOAT]"
kind_text model.DeclTag = codes "[DECL_TAG]"
kind_text model.TypeTag = codes "[TYPE_TAG]"
kind_text model.Enum64 = codes "[ENUM64]"
