-- A record of each kind, by what differs between records of that kind. A list is given as the number of its items and
-- their words.
-- Source: the kernel's BTF documentation, "Type Encoding".
use Rattle.std.specs.Prelude.{ℕ, ◌+◌, ◌*◌, ◌^◌, Bool, List, [], ◌∷◌}
use Rattle.btf_model.specs.Record.{Record}
use Rattle.btf_model.specs.Info.{flag_bit}

-- an INT, by its name, its size and its data word
abbrev pub int : ℕ → ℕ → ℕ → Record
int name size word = record { name = name; info = 2 ^ 24; third = size; tail = word ∷ [] }

-- a PTR, by its name and the type that it refers to
abbrev pub ptr : ℕ → ℕ → Record
ptr name type = record { name = name; info = 2 * 2 ^ 24; third = type; tail = [] }

-- an ARRAY, by its name, its element type, its index type and its length
abbrev pub array : ℕ → ℕ → ℕ → ℕ → Record
array name element index len = record {
  name = name;
  info = 3 * 2 ^ 24;
  third = 0;
  tail = element ∷ index ∷ len ∷ [];
}

-- a STRUCT, by its name, its size and its members
abbrev pub struct : ℕ → ℕ → ℕ → List ℕ → Record
struct name size count members = record { name = name; info = 4 * 2 ^ 24 + count; third = size; tail = members }

-- a UNION, by its name, its size and its members
abbrev pub union : ℕ → ℕ → ℕ → List ℕ → Record
union name size count members = record { name = name; info = 5 * 2 ^ 24 + count; third = size; tail = members }

-- an unsigned ENUM of 4 bytes, by its name and its variants
abbrev pub enum : ℕ → ℕ → List ℕ → Record
enum name count variants = record { name = name; info = 6 * 2 ^ 24 + count; third = 4; tail = variants }

-- a FWD, by its name and whether it declares a union
abbrev pub fwd : ℕ → Bool → Record
fwd name is_union = record { name = name; info = 7 * 2 ^ 24 + flag_bit is_union; third = 0; tail = [] }

-- a TYPEDEF, by its name and the type that it refers to
abbrev pub typedef : ℕ → ℕ → Record
typedef name type = record { name = name; info = 8 * 2 ^ 24; third = type; tail = [] }

-- a VOLATILE without a name, by the type that it refers to
abbrev pub volatile : ℕ → Record
volatile type = record { name = 0; info = 9 * 2 ^ 24; third = type; tail = [] }

-- a CONST without a name, by the type that it refers to
abbrev pub const : ℕ → Record
const type = record { name = 0; info = 10 * 2 ^ 24; third = type; tail = [] }

-- a RESTRICT without a name, by the type that it refers to
abbrev pub restrict : ℕ → Record
restrict type = record { name = 0; info = 11 * 2 ^ 24; third = type; tail = [] }

-- a FUNC, by its name, its prototype and its linkage
abbrev pub func : ℕ → ℕ → ℕ → Record
func name proto linkage = record { name = name; info = 12 * 2 ^ 24 + linkage; third = proto; tail = [] }

-- a FUNC_PROTO without a name, by its return type and its parameters
abbrev pub func_proto : ℕ → ℕ → List ℕ → Record
func_proto return_type count params = record {
  name = 0;
  info = 13 * 2 ^ 24 + count;
  third = return_type;
  tail = params;
}

-- a VAR, by its name, its type and its linkage
abbrev pub var : ℕ → ℕ → ℕ → Record
var name type linkage = record { name = name; info = 14 * 2 ^ 24; third = type; tail = linkage ∷ [] }

-- a DATASEC, by its name, its size and its entries
abbrev pub data_sec : ℕ → ℕ → ℕ → List ℕ → Record
data_sec name size count entries = record { name = name; info = 15 * 2 ^ 24 + count; third = size; tail = entries }

-- a FLOAT, by its name and its size
abbrev pub float : ℕ → ℕ → Record
float name size = record { name = name; info = 16 * 2 ^ 24; third = size; tail = [] }

-- a DECL_TAG, by its name, the type that is tagged and the index of the member or parameter that is tagged
abbrev pub decl_tag : ℕ → ℕ → ℕ → Record
decl_tag name type index = record { name = name; info = 17 * 2 ^ 24; third = type; tail = index ∷ [] }

-- a TYPE_TAG, by its name and the type that is tagged
abbrev pub type_tag : ℕ → ℕ → Record
type_tag name type = record { name = name; info = 18 * 2 ^ 24; third = type; tail = [] }

-- an unsigned ENUM64 of 8 bytes, by its name and its variants
abbrev pub enum64 : ℕ → ℕ → List ℕ → Record
enum64 name count variants = record { name = name; info = 19 * 2 ^ 24 + count; third = 8; tail = variants }

-- an unsigned ENUM or ENUM64, with a sign if there is one
abbrev pub with_sign : Bool → Record → Record
with_sign signed r = record r { info = r.info + flag_bit signed }
