-- The items of a type, in the form that C reads.
-- Source: the kernel's BTF documentation, what follows `struct btf_type` in "BTF_KIND_STRUCT", "BTF_KIND_UNION",
-- "BTF_KIND_ENUM", "BTF_KIND_ENUM64", "BTF_KIND_FUNC_PROTO" and "BTF_KIND_DATASEC".
use Rattle.std.specs.Prelude.{◌≡◌, ◌⊎◌, ◌≤◌, ◌<◌, ◌+◌, ◌*◌, ◌^◌, ℕ, refl, min, map, unwrap_or, option_and_then, List, [], ◌∷◌, take, drop, length, Option, Some, None, Result, Ok, Err, slice_get}
use Rattle.std.specs.List.{flat_map}
use Rattle.btf_model.specs.Record as kinds
use Rattle.btf_model.specs.declared.endianness.Endianness.{Endianness}
use Rattle.btf_model.specs.Word.{words_at}
use Rattle.btf_model.specs.Record.{Kind, Record, kind_of, kind_flag, vlen, member_bit_offset, member_bit_field_size}
use Rattle.btf_model.specs.Refusal.{Refusal, UnknownBtfType, UnexpectedBtfType}
use Rattle.btf_view.specs.Forms.{Begins, HasAppended}
use Rattle.btf_view.specs.declared.forms.Member.{Member}
use Rattle.btf_view.specs.declared.forms.Variant.{Variant}
use Rattle.btf_view.specs.declared.forms.Param.{Param}
use Rattle.btf_view.specs.declared.forms.Entry.{Entry}

-- a member of a record with this info word, by the three words of the member
abbrev pub member_form : ℕ → ℕ → ℕ → ℕ → Member
member_form info name target offset =
    record {
      name_offset = name;
      btf_type = target;
      bit_offset = member_bit_offset info offset;
      bit_field_size = member_bit_field_size info offset;
    }

-- a variant of a record with this info word: the values are signed if the kind flag is set
abbrev pub variant_form : ℕ → ℕ → ℕ → ℕ → Variant
variant_form info bits name value =
    record { name_offset = name; bits = bits; is_signed = kind_flag info; value = value }

-- a parameter, by its two words
abbrev pub param_form : ℕ → ℕ → Param
param_form name target = record { name_offset = name; btf_type = target }

-- an entry, by its three words
abbrev pub entry_form : ℕ → ℕ → ℕ → Entry
entry_form target offset size = record { btf_type = target; offset = offset; size = size }

-- The members in the words after the third of a record with this info word, each of three words.
abbrev pub member_forms : ℕ → List ℕ → List Member
member_forms info (name ∷ target ∷ offset ∷ rest) = member_form info name target offset ∷ member_forms info rest
member_forms info words = []

-- The variants of an ENUM in these words, each of two words.
abbrev pub variant_forms : ℕ → List ℕ → List Variant
variant_forms info (name ∷ value ∷ rest) = variant_form info 32 name value ∷ variant_forms info rest
variant_forms info words = []

-- The variants of an ENUM64 in these words, each of three words: the value has its low half first.
abbrev pub wide_variant_forms : ℕ → List ℕ → List Variant
wide_variant_forms info (name ∷ low ∷ high ∷ rest) =
    variant_form info 64 name (high * 2 ^ 32 + low) ∷ wide_variant_forms info rest
wide_variant_forms info words = []

-- the parameters in these words, each of two words
abbrev pub param_forms : List ℕ → List Param
param_forms (name ∷ target ∷ rest) = param_form name target ∷ param_forms rest
param_forms words = []

-- the entries in these words, each of three words
abbrev pub entry_forms : List ℕ → List Entry
entry_forms (target ∷ offset ∷ size ∷ rest) = entry_form target offset size ∷ entry_forms rest
entry_forms words = []

-- The members, variants, parameters or entries of a record of this kind; None if records of the kind have none.
abbrev pub members : Kind → Record → Option (List Member)
members kinds.Struct r = Some (member_forms r.info r.tail)
members kinds.Union r = Some (member_forms r.info r.tail)
members k r = None

abbrev pub variants : Kind → Record → Option (List Variant)
variants kinds.Enum r = Some (variant_forms r.info r.tail)
variants kinds.Enum64 r = Some (wide_variant_forms r.info r.tail)
variants k r = None

abbrev pub params : Kind → Record → Option (List Param)
params kinds.FuncProto r = Some (param_forms r.tail)
params k r = None

abbrev pub entries : Kind → Record → Option (List Entry)
entries kinds.DataSec r = Some (entry_forms r.tail)
entries k r = None

-- The items of the type of an id; or the error if there is no such type, or if types of its kind have no such items.
abbrev pub ItemsOf : {X : Type 0} → (Kind → Record → Option (List X)) → List Record → ℕ → Result (List X) Refusal
    → Type 0
ItemsOf items_of records id (Ok items) =
    (k : Kind) × (r : Record) × (slice_get records id ≡ Some r) × (kind_of r.info ≡ Some k)
    × (items_of k r ≡ Some items)
ItemsOf items_of records id (Err refusal) =
    ((length records ≤ id) × (refusal ≡ UnknownBtfType id))
    ⊎ ((k : Kind) × (r : Record) × (slice_get records id ≡ Some r) × (kind_of r.info ≡ Some k) × (items_of k r ≡ None)
    × (refusal ≡ UnexpectedBtfType id))

-- The buffer begins with the items of a record with this info word, as many as fit, if the bytes are long enough: the
-- words of the items, of which each has this width, are at the front of the bytes.
abbrev pub FillsItems : {X : Type 0} → ℕ → (ℕ → List ℕ → List X) → Endianness → ℕ → List ℕ → List X → List X → ℕ
    → Type 0
FillsItems width forms_in order info bytes old new count =
    4 * (width * vlen info) ≤ length bytes
    → Begins (take (length old) (forms_in info (words_at order (width * vlen info) bytes))) old new count

-- All members of a record with this info word are written from an index on, or they do not fit, if the bytes are long
-- enough: the words of the members are at the front of the bytes.
abbrev pub AppendsMembers : Endianness → ℕ → List ℕ → List Member → List Member → ℕ → Option ℕ → Type 0
AppendsMembers order info bytes old new at result =
    4 * (3 * vlen info) ≤ length bytes
    → HasAppended (member_forms info (words_at order (3 * vlen info) bytes)) old new at result

-- the members of a record; none if records of its kind have none
abbrev pub members_or_none : Record → List Member
members_or_none r = unwrap_or (option_and_then (λ k. members k r) (kind_of r.info)) []

-- The members of these records are written to a buffer, record after record, and the numbers of their members to
-- another one, for as many records as have a place and whose members fit: for `done` records, with `written` members.
pub record ListsMembers (rs : List Record) (old_counts new_counts : List ℕ) (old new : List Member) (done written : ℕ)
    : Type 0 where
  pub counts : Begins (map (λ r. length (members_or_none r)) (take done rs)) old_counts new_counts done
  pub members : Begins (flat_map members_or_none (take done rs)) old new written
  pub stops : (done ≡ min (length old_counts) (length rs))
      ⊎ ((r : Record) × (slice_get rs done ≡ Some r) × (length old < written + length (members_or_none r)))

-- The same, and the result is the numbers of records and of members.
abbrev pub EndsMembers : List Record → List ℕ → List ℕ → List Member → List Member → ℕ × ℕ → Type 0
EndsMembers rs old_counts counts old out result = ListsMembers rs old_counts counts old out result.0 result.1

-- The same for the records from an id on.
abbrev pub ListsMembersFrom : List Record → ℕ → List ℕ → List ℕ → List Member → List Member → ℕ × ℕ → Type 0
ListsMembersFrom records first = EndsMembers (drop first records)

-- Two members at bits 0 and 32; with the kind flag, a bit-field of 3 bits at bit 5.
two_members : member_forms 0x04000002 (10 ∷ 1 ∷ 0 ∷ 15 ∷ 2 ∷ 32 ∷ [])
    ≡ member_form 0 10 1 0 ∷ member_form 0 15 2 32 ∷ []
two_members = refl

bit_field : member_forms 0x84000001 (10 ∷ 1 ∷ 0x03000005 ∷ [])
    ≡ record { name_offset = 10; btf_type = 1; bit_offset = 5; bit_field_size = 3 } ∷ []
bit_field = refl

signed_variant : variant_forms 0x86000001 (26 ∷ 7 ∷ [])
    ≡ record { name_offset = 26; bits = 32; is_signed = 1; value = 7 } ∷ []
signed_variant = refl

wide_variant : wide_variant_forms 0x13000001 (26 ∷ 7 ∷ 1 ∷ [])
    ≡ record { name_offset = 26; bits = 64; is_signed = 0; value = 0x100000007 } ∷ []
wide_variant = refl
