-- The status that an exported call returns, and the details of an error in the fault.
use Rattle.std.specs.Prelude.{◌≡◌, ◌⊎◌, ◌<◌, ◌≤◌, ℕ, List, [], ◌++◌, take, drop, length, Option, Some, None, Result, Ok, Err, IfSome}
use Rattle.btf_model.specs.Refusal as refusals
use Rattle.btf_model.specs.Refusal.{Refusal}
use Rattle.btf_model.specs.Table.{Table}
use Rattle.vbtf.specs.declared.fault.Fault.{Fault}
use Rattle.vbtf.specs.declared.handle.Handle.{Handle}
use Rattle.btf_model.specs.Text.{bytes_at, text_at}
use Rattle.std.specs.Str.{IsUtf8}

-- The status of an error: its position among the errors, from 1 on.
abbrev pub status_of : Refusal → ℕ
status_of refusals.InvalidHeader = 1
status_of refusals.InvalidTypeInfo = 2
status_of refusals.InvalidRelocationInfo = 3
status_of (refusals.InvalidTypeKind kind) = 4
status_of (refusals.InvalidRelocationKind kind) = 5
status_of (refusals.InvalidStringOffset offset) = 6
status_of (refusals.InvalidInfo offset len section_len) = 7
status_of (refusals.InvalidLineInfo offset len section_len) = 8
status_of (refusals.UnknownBtfType type_id) = 9
status_of (refusals.UnexpectedBtfType type_id) = 10
status_of (refusals.UnknownBtfTypeName type_name) = 11
status_of (refusals.MaximumTypeDepthReached type_id) = 12
status_of (refusals.SymbolOffsetNotFound symbol_name) = 13
status_of refusals.InvalidDatasec = 14
status_of (refusals.UnknownSectionSize section_name) = 15
status_of refusals.InvalidSymbolName = 16
status_of (refusals.InnerMapCannotBePinned name) = 17
status_of (refusals.MultiLevelMapInMapNotSupported name) = 18
status_of (refusals.InvalidValuesSpec name) = 19

-- The status of a call in which an allocation failed.
abbrev pub no_memory : ℕ
no_memory = 20

-- the maximum number of bytes of a name in a fault
abbrev pub name_room : ℕ
name_room = 255

-- The details of an error. A number that the error does not have is 0, and a name that it does not have is empty.
pub record Details : Type 0 where
  pub id : ℕ
  pub offset : ℕ
  pub len : ℕ
  pub section_len : ℕ
  pub name : List ℕ

abbrev pub no_details : Details
no_details = record { id = 0; offset = 0; len = 0; section_len = 0; name = [] }

-- the id of a type, or the number of a kind
abbrev pub an_id : ℕ → Details
an_id id = record no_details { id = id }

-- an offset and the lengths of a section in the bytes
abbrev pub a_place : ℕ → ℕ → ℕ → Details
a_place offset len section_len = record { id = 0; offset = offset; len = len; section_len = section_len; name = [] }

abbrev pub a_name : List ℕ → Details
a_name name = record no_details { name = name }

-- the details of each error
abbrev pub details_of : Refusal → Details
details_of refusals.InvalidHeader = no_details
details_of refusals.InvalidTypeInfo = no_details
details_of refusals.InvalidRelocationInfo = no_details
details_of (refusals.InvalidTypeKind kind) = an_id kind
details_of (refusals.InvalidRelocationKind kind) = an_id kind
details_of (refusals.InvalidStringOffset offset) = a_place offset 0 0
details_of (refusals.InvalidInfo offset len section_len) = a_place offset len section_len
details_of (refusals.InvalidLineInfo offset len section_len) = a_place offset len section_len
details_of (refusals.UnknownBtfType type_id) = an_id type_id
details_of (refusals.UnexpectedBtfType type_id) = an_id type_id
details_of (refusals.UnknownBtfTypeName type_name) = a_name type_name
details_of (refusals.MaximumTypeDepthReached type_id) = an_id type_id
details_of (refusals.SymbolOffsetNotFound symbol_name) = a_name symbol_name
details_of refusals.InvalidDatasec = no_details
details_of (refusals.UnknownSectionSize section_name) = a_name section_name
details_of refusals.InvalidSymbolName = no_details
details_of (refusals.InnerMapCannotBePinned name) = a_name name
details_of (refusals.MultiLevelMapInMapNotSupported name) = a_name name
details_of (refusals.InvalidValuesSpec name) = a_name name

-- The fault has exactly these details, and the first bytes of the name, as many as fit.
pub record HasDetails (fault : Fault) (details : Details) : Type 0 where
  pub id : fault.id ≡ details.id
  pub offset : fault.offset ≡ details.offset
  pub len : fault.len ≡ details.len
  pub section_len : fault.section_len ≡ details.section_len
  pub name_len : fault.name_len ≡ length (take name_room details.name)
  pub name : take fault.name_len fault.name ≡ take name_room details.name

-- The status and the fault report the error.
abbrev pub ReportsRefusal : ℕ → Fault → Refusal → Type 0
ReportsRefusal status fault refusal =
    (status ≡ status_of refusal) × (fault.number ≡ status_of refusal) × HasDetails fault (details_of refusal)

-- The status and the fault report a failed allocation.
abbrev pub ReportsNoMemory : ℕ → Fault → Type 0
ReportsNoMemory status fault = (status ≡ no_memory) × (fault.number ≡ no_memory) × HasDetails fault no_details

-- The status and the fault report the error, or a failed allocation.
abbrev pub ReportsError : ℕ → Fault → Option Refusal → Type 0
ReportsError status fault (Some refusal) = ReportsRefusal status fault refusal
ReportsError status fault None = ReportsNoMemory status fault

-- The outcomes of a call that allocates nothing: status 0 and a value, or an error; each meets P.
abbrev pub EndsCall : {Y : Type 0} → ℕ → Y → Fault → (Result Y Refusal → Type 0) → Type 0
EndsCall status value fault P =
    ((status ≡ 0) × P (Ok value)) ⊎ ((refusal : Refusal) × ReportsRefusal status fault refusal × P (Err refusal))

-- The outcomes of a search that allocates nothing: status 0 and a value, status 103 if there is none, or an error; each
-- meets P.
abbrev pub EndsFinding : {Y : Type 0} → ℕ → Y → Fault → (Result (Option Y) Refusal → Type 0) → Type 0
EndsFinding status value fault P =
    ((status ≡ 0) × P (Ok (Some value))) ⊎ ((status ≡ 103) × P (Ok None))
    ⊎ ((refusal : Refusal) × ReportsRefusal status fault refusal × P (Err refusal))

-- The outcomes of a search that allocates: the same, or an allocation fails.
abbrev pub EndsFindingOrNoMemory : {Y : Type 0} → ℕ → Y → Fault → (Result (Option Y) Refusal → Type 0) → Type 0
EndsFindingOrNoMemory status value fault P = EndsFinding status value fault P ⊎ ReportsNoMemory status fault

-- The outcomes of a call that allocates: as of one that does not, or an allocation fails.
abbrev pub EndsOrNoMemory : {Y : Type 0} → ℕ → Y → Fault → (Result Y Refusal → Type 0) → Type 0
EndsOrNoMemory status value fault P = EndsCall status value fault P ⊎ ReportsNoMemory status fault

-- The failures of a call: a failed allocation, or an error that meets P.
abbrev pub Fails : {Y : Type 0} → ℕ → Fault → (Result Y Refusal → Type 0) → Type 0
Fails status fault P =
    ReportsNoMemory status fault ⊎ ((refusal : Refusal) × ReportsRefusal status fault refusal × P (Err refusal))

-- The outcomes of a call that opens a handle: status 0, and the handle owns a table that meets P, without .BTF.ext and
-- index; or an error that meets P or a failed allocation, and the handle is unchanged.
abbrev pub Opens : ℕ → Handle → Handle → Fault → (Result Table Refusal → Type 0) → Type 0
Opens status old new fault P =
    ((status ≡ 0) × (new.state ≡ 1) × (new.opened.ext ≡ None) × (new.opened.index ≡ None)
    × P (Ok new.opened.btf))
    ⊎ ((new ≡ old) × Fails status fault P)

-- A call that only reads leaves the handle unchanged.
pub record KeepsHandle (old new : Handle) : Type 0 where
  pub at : new.at ≡ old.at
  pub state : new.state ≡ old.state
  pub opened : new.opened ≡ old.opened
  pub life : new.life ≡ old.life
  pub share : new.share ≡ old.share

-- Bytes or words are written to a buffer; 'needed' is their number. With status 0 the buffer begins with them, and the
-- rest of it is unchanged. With status 100 the buffer is too small for them, and unchanged.
abbrev pub Fills : {X : Type 0} → List X → List X → List X → ℕ → ℕ → Type 0
Fills items old new needed status =
    (needed ≡ length items)
    × (((status ≡ 0) × (length items ≤ length old) × (new ≡ items ++ drop (length items) old))
    ⊎ ((status ≡ 100) × (length old < length items) × (new ≡ old)))

-- The outcomes of a call that writes a text to a buffer: a text, or a failed allocation, and the buffer is unchanged.
abbrev pub WritesText : List ℕ → List ℕ → ℕ → ℕ → Type 0
WritesText old new needed status =
    ((status ≡ no_memory) × (new ≡ old)) ⊎ ((text : List ℕ) × Fills text old new needed status)

-- The outcomes of a call that writes bytes to a buffer: bytes that meet P; or an error that meets P or a failed
-- allocation, and the buffer is unchanged.
abbrev pub EndsFilling : ℕ → List ℕ → List ℕ → ℕ → Fault → (Result (List ℕ) Refusal → Type 0) → Type 0
EndsFilling status old new needed fault P =
    ((bytes : List ℕ) × Fills bytes old new needed status × P (Ok bytes)) ⊎ ((new ≡ old) × Fails status fault P)

-- The outcomes of a call that writes bytes to a buffer and allocates nothing: bytes that meet P; or an error that meets
-- P, and the buffer is unchanged.
abbrev pub FillsOrReports : ℕ → List ℕ → List ℕ → ℕ → Fault → (Result (List ℕ) Refusal → Type 0) → Type 0
FillsOrReports status old new needed fault P =
    ((bytes : List ℕ) × Fills bytes old new needed status × P (Ok bytes))
    ⊎ ((new ≡ old) × (refusal : Refusal) × ReportsRefusal status fault refusal × P (Err refusal))

-- If the bytes at a string offset are UTF-8, the call fills the buffer with their text or reports why it does not, and
-- no allocation can fail.
abbrev pub FillsWithoutMemory : List ℕ → ℕ → List ℕ → List ℕ → ℕ → Fault → ℕ → Type 0
FillsWithoutMemory strings offset old_out new_out needed fault result =
    IfSome (bytes_at strings offset) IsUtf8
    → FillsOrReports result old_out new_out needed fault (λ answer. answer ≡ text_at strings offset)

-- The status and the fault report a text that would be too long.
abbrev pub ReportsTooLong : ℕ → Fault → Type 0
ReportsTooLong status fault = (status ≡ 111) × (fault.number ≡ 111) × HasDetails fault no_details

-- The status and the fault report why a text is not written: it would be too long, or the table has an error, or an
-- allocation failed.
abbrev pub ReportsNoText : ℕ → Fault → Type 0
ReportsNoText status fault =
    ReportsTooLong status fault ⊎ ((refusal : Option Refusal) × ReportsError status fault refusal)

-- The outcomes of a call that writes a text to a buffer, if the text is not defined here: some text fills the buffer; or
-- the buffer is unchanged, and the status reports why.
abbrev pub FillsOrReportsText : ℕ → List ℕ → List ℕ → ℕ → Fault → Type 0
FillsOrReportsText status old new needed fault =
    ((text : List ℕ) × Fills text old new needed status) ⊎ ((new ≡ old) × ReportsNoText status fault)

-- P holds of the table that a handle lends, if it lends one.
abbrev pub IfLends : Handle → (Table → Type 0) → Type 0
IfLends handle P = handle.state ≡ 2 → P handle.opened.btf

-- No error, and no failed allocation, has this number.
abbrev pub IsNoError : ℕ → Type 0
IsNoError number = (number < 1) ⊎ (no_memory < number)

-- P holds of the tables that two handles lend, if both lend one.
abbrev pub IfBothLend : Handle → Handle → (Table → Table → Type 0) → Type 0
IfBothLend one other P = one.state ≡ 2 → other.state ≡ 2 → P one.opened.btf other.opened.btf
