-- The record that a `BtfType` represents, its kind, and its fallback.
use Rattle.std.specs.Prelude.{Bool, true, false, if◌then◌else◌, Option, Some, None}
use Rattle.btf_model.specs.Record as model
use Rattle.btf_model.specs.Record.{Kind, Record, unknown}
use Rattle.btf_model.specs.Table.{Fallback}
use Rattle.btf_records.specs.declared.btf_type.BtfType.{BtfType}
use Rattle.btf_records.specs.declared.btf_type.BtfType.TheVariants.{Unknown, Int, Ptr, Array, Struct, Union, Enum, Fwd, Typedef, Volatile, Const, Restrict, Func, FuncProto, Var, DataSec, Float, DeclTag, TypeTag, Enum64}

-- the record of a type
abbrev pub record_of : BtfType → Record
record_of Unknown = unknown
record_of (Int r) = r
record_of (Ptr r) = r
record_of (Array r) = r
record_of (Struct r) = r
record_of (Union u) = u.words
record_of (Enum r) = r
record_of (Fwd r) = r
record_of (Typedef r) = r
record_of (Volatile r) = r
record_of (Const r) = r
record_of (Restrict r) = r
record_of (Func r) = r
record_of (FuncProto r) = r
record_of (Var r) = r
record_of (DataSec r) = r
record_of (Float r) = r
record_of (DeclTag r) = r
record_of (TypeTag r) = r
record_of (Enum64 r) = r

-- the kind of a type
abbrev pub type_kind : BtfType → Kind
type_kind Unknown = model.Unknown
type_kind (Int r) = model.Int
type_kind (Ptr r) = model.Ptr
type_kind (Array r) = model.Array
type_kind (Struct r) = model.Struct
type_kind (Union r) = model.Union
type_kind (Enum r) = model.Enum
type_kind (Fwd r) = model.Fwd
type_kind (Typedef r) = model.Typedef
type_kind (Volatile r) = model.Volatile
type_kind (Const r) = model.Const
type_kind (Restrict r) = model.Restrict
type_kind (Func r) = model.Func
type_kind (FuncProto r) = model.FuncProto
type_kind (Var r) = model.Var
type_kind (DataSec r) = model.DataSec
type_kind (Float r) = model.Float
type_kind (DeclTag r) = model.DeclTag
type_kind (TypeTag r) = model.TypeTag
type_kind (Enum64 r) = model.Enum64

-- what a STRUCT or a UNION has; None for the other kinds
abbrev pub of_composite : {X : Type 0} → BtfType → X → Option X
of_composite t x = if model.is_composite (type_kind t) then Some x else None

-- ARRAY and FWD do not use the third word
abbrev pub has_no_third : Kind → Bool
has_no_third model.Array = true
has_no_third model.Fwd = true
has_no_third k = false

-- the fallback of a UNION that replaces an ENUM64
abbrev pub fallback_of : BtfType → Option Fallback
fallback_of (Union u) = u.fallback
fallback_of t = None
