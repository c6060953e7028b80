-- The words of the record at a place.
use Rattle.std.specs.Prelude.{◌≡◌, ◌≢◌, ℕ, ◌*◌, ◌≤◌, List, length, Some, Result, Ok, Err, slice_get}
use Rattle.btf_model.specs.declared.endianness.Endianness.{Endianness}
use Rattle.btf_model.specs.Record.{Kind, Var, Record, kind_of, vlen, tail_words}
use Rattle.btf_model.specs.Word.{words_at}
use Rattle.btf_model.specs.Spelling.{kept}
use Rattle.btf_plain.specs.Head.{headed}
use Rattle.btf_plain.specs.Kind as code
use Rattle.btf_plain.specs.declared.error.BtfError.{BtfError}
use Rattle.btf_plain.specs.declared.error.BtfError.TheVariants.{UnknownBtfType}
use Rattle.btf_plain.specs.declared.head.Head.{Head}
use Rattle.btf_view.specs.declared.record.Parts.{Parts}

-- The head is the first three words of the record.
pub record HasHead (head : Head) (r : Record) : Type 0 where
  pub name : head.name ≡ r.name
  pub info : head.info ≡ r.info
  pub third : head.third ≡ r.third

-- The head is that of a record of which reading retains r.
pub record IsReadAs (head : Head) (r : Record) : Type 0 where
  pub kind : Kind
  pub tail : List ℕ
  pub has : kind_of head.info ≡ Some kind
  pub is : r ≡ kept kind (headed head tail)

-- The bytes begin with the other words of the record. Reading does not retain each linkage of a VAR.
pub record HasTail (order : Endianness) (bytes : List ℕ) (r : Record) : Type 0 where
  pub kind : Kind
  pub has : kind_of r.info ≡ Some kind
  pub len : length r.tail ≡ tail_words kind (vlen r.info)
  pub long : 4 * length r.tail ≤ length bytes
  pub words : kind ≢ Var → r.tail ≡ words_at order (length r.tail) bytes

-- The result is the head of the record of an id, or the error if no type has the id.
abbrev pub FindsHead : List Record → ℕ → Result Head BtfError → Type 0
FindsHead records id (Ok head) = (r : Record) × (slice_get records id ≡ Some r) × HasHead head r
FindsHead records id (Err error) = (length records ≤ id) × (error ≡ UnknownBtfType id)

-- The parts are the kind and the info word of the record, and bytes that begin with its other words.
pub record AreParts (order : Endianness) (parts : Parts) (r : Record) : Type 0 where
  pub kind_is : kind_of r.info ≡ Some (code.kind parts.kind)
  pub info_is : parts.info ≡ r.info
  pub tail_is : HasTail order parts.tail.now r

-- The result is the parts of the record of an id, or the error if no type has the id.
abbrev pub FindsParts : Endianness → List Record → ℕ → Result Parts BtfError → Type 0
FindsParts order records id (Ok parts) = (r : Record) × (slice_get records id ≡ Some r) × AreParts order parts r
FindsParts order records id (Err error) = (length records ≤ id) × (error ≡ UnknownBtfType id)
