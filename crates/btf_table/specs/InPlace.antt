-- What a type becomes in place, for a kernel that lacks the feature that its kind asks for. Such a rule appends
-- nothing, and is never refused. Source: aya-obj's `fixup_and_sanitize`.
use Rattle.std.specs.Prelude.{Option, Some, []}
use Rattle.btf_model.specs.Record as kinds
use Rattle.btf_model.specs.Record.{Kind, Record, kind_of}
use Rattle.btf_rewrite_model.specs.Made.{byte_int, struct, const, typedef, unsigned}
use Rattle.btf_records.specs.declared.btf_type.BtfType.{BtfType}
use Rattle.btf_records.specs.declared.btf_type.BtfType.TheVariants.{Int, Ptr, Struct, Enum, Typedef, Const, Func, Var, Float, DeclTag, TypeTag}

-- the record that a record of this kind becomes
abbrev pub denied_by : Option Kind → Record → Record
denied_by (Some kinds.Ptr) r = record r { name = 0 }
denied_by (Some kinds.Var) r = byte_int r.name
denied_by (Some kinds.Float) r = struct 0 r.third 0 []
denied_by (Some kinds.DeclTag) r = byte_int r.name
denied_by (Some kinds.TypeTag) r = const r.third
denied_by (Some kinds.Enum) r = unsigned r
denied_by (Some kinds.Func) r = typedef r.name r.third
denied_by k r = r

-- the record that a record becomes if the kernel lacks its one feature
abbrev pub denied : Record → Record
denied r = denied_by (kind_of r.info) r

-- the type that a type becomes
abbrev pub denied_type : BtfType → BtfType
denied_type (Ptr r) = Ptr (record r { name = 0 })
denied_type (Var r) = Int (byte_int r.name)
denied_type (Float r) = Struct (struct 0 r.third 0 [])
denied_type (DeclTag r) = Int (byte_int r.name)
denied_type (TypeTag r) = Const (const r.third)
denied_type (Enum r) = Enum (unsigned r)
denied_type (Func r) = Typedef (typedef r.name r.third)
denied_type b = b
