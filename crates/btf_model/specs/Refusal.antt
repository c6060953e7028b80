-- Why a call fails, apart from allocation failure: the errors of the crate. Names are the bytes of their text.
-- Source: aya-obj's `BtfError`, without the errors of what this project leaves out.
use Rattle.std.specs.Prelude.{ℕ, List}

-- The reasons for which a call fails, apart from allocation failure. They have the names of the errors.
pub data Refusal : Type 0 where
  InvalidHeader : Refusal
  InvalidTypeInfo : Refusal
  InvalidRelocationInfo : Refusal
  InvalidTypeKind : (kind : ℕ) → Refusal
  InvalidRelocationKind : (kind : ℕ) → Refusal
  InvalidStringOffset : (offset : ℕ) → Refusal
  InvalidInfo : (offset len section_len : ℕ) → Refusal
  InvalidLineInfo : (offset len section_len : ℕ) → Refusal
  UnknownBtfType : (type_id : ℕ) → Refusal
  UnexpectedBtfType : (type_id : ℕ) → Refusal
  UnknownBtfTypeName : (type_name : List ℕ) → Refusal
  MaximumTypeDepthReached : (type_id : ℕ) → Refusal
  SymbolOffsetNotFound : (symbol_name : List ℕ) → Refusal
  InvalidDatasec : Refusal
  UnknownSectionSize : (section_name : List ℕ) → Refusal
  InvalidSymbolName : Refusal
  InnerMapCannotBePinned : (name : List ℕ) → Refusal
  MultiLevelMapInMapNotSupported : (name : List ℕ) → Refusal
  InvalidValuesSpec : (name : List ℕ) → Refusal
