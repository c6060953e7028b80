-- Worked examples of split tables, computed.
use Rattle.std.specs.Prelude.{◌≡◌, [], ◌∷◌, Some, None, Ok, Err, refl}
use Rattle.btf_model.specs.declared.endianness.Endianness.TheVariants.{Little, Big}
use Rattle.btf_model.specs.Record.{Record, unknown}
use Rattle.btf_model.specs.Refusal.{UnknownBtfType, InvalidStringOffset}
use Rattle.btf_model.specs.Table.{Table}
use Rattle.btf_model.specs.Text.{bytes_at}
use Rattle.btf_model.specs.Walk.{Ends, unmodified_in}
use Rattle.std.specs.Prelude.{slice_get}
use Rattle.btf_split_model.specs.Split.{appended, cut, joined, above, split_canon, split_blob}

-- an INT of 4 bytes whose name is at offset 1
int_record : Record
int_record = record { name = 1; info = 0x01000000; third = 4; tail = 0x20 ∷ [] }

-- a TYPEDEF of type 3, which the base does not have
open_typedef : Record
open_typedef = record { name = 1; info = 0x08000000; third = 3; tail = [] }

-- a STRUCT without members whose name is at offset 5, the length of the base's strings
own_struct : Record
own_struct = record { name = 5; info = 0x04000000; third = 0; tail = [] }

-- The base: the strings "" and "int", and the types 0 to 2.
base : Table
base = record {
  order = Little;
  magic = 0xeb9f;
  version = 1;
  flags = 0;
  strings = 0 ∷ 0x69 ∷ 0x6e ∷ 0x74 ∷ 0 ∷ [];
  records = unknown ∷ int_record ∷ open_typedef ∷ [];
  fallbacks = None ∷ None ∷ None ∷ [];
}

-- a split table as a blob of its own: the string "m", and one type
own : Table
own = record {
  order = Little;
  magic = 0xeb9f;
  version = 1;
  flags = 0;
  strings = 0x6d ∷ 0 ∷ [];
  records = unknown ∷ own_struct ∷ [];
  fallbacks = None ∷ None ∷ [];
}

-- a split table without types and strings
nothing : Table
nothing = record own { strings = []; records = unknown ∷ []; fallbacks = None ∷ [] }

-- over a base whose header has the same values it is the base
empty_split : joined base nothing ≡ base
unfolding base nothing own
empty_split = refl

-- the type after the base's last has the next id
next_id : (slice_get (joined base own).records 2 ≡ Some open_typedef)
    × (slice_get (joined base own).records 3 ≡ Some own_struct) × (slice_get (joined base own).records 4 ≡ None)
unfolding base own
next_id = (refl, refl, refl)

-- an offset in the base's last string names the end of this string
in_last_string : bytes_at (joined base own).strings 2 ≡ Some (0x6e ∷ 0x74 ∷ [])
unfolding base own
in_last_string = refl

-- the length of the base's strings is the offset of the first own byte
at_the_length : bytes_at (joined base own).strings 5 ≡ Some (0x6d ∷ [])
unfolding base own
at_the_length = refl

-- a name that the base's strings do not end goes on in the own strings
name_goes_on : (bytes_at (0 ∷ 0x69 ∷ []) 1 ≡ None)
    × (bytes_at (joined (record base { strings = 0 ∷ 0x69 ∷ [] }) own).strings 1 ≡ Some (0x69 ∷ 0x6d ∷ []))
unfolding base own
name_goes_on = (refl, refl)

-- a type of the base may refer to a type of the split table, which the base alone does not have
base_refers_to_split : (unmodified_in 3 (slice_get base.records 3) ≡ Ends (Err (UnknownBtfType 3)))
    × (unmodified_in 3 (slice_get (joined base own).records 3) ≡ Ends (Ok 3))
unfolding base own own_struct
base_refers_to_split = (refl, refl)

-- the part above the base is the split table again
part_above : above 3 5 (joined base own) ≡ own
unfolding base own
part_above = refl

-- its blob: the header, the STRUCT, and "m"
part_written : split_canon 3 5 (joined base own)
    ≡ 0x9f ∷ 0xeb ∷ 1 ∷ 0 ∷ 0x18 ∷ 0 ∷ 0 ∷ 0 ∷ 0 ∷ 0 ∷ 0 ∷ 0 ∷ 12 ∷ 0 ∷ 0 ∷ 0 ∷ 12 ∷ 0 ∷ 0 ∷ 0 ∷ 2 ∷ 0 ∷ 0 ∷ 0
    ∷ 5 ∷ 0 ∷ 0 ∷ 0 ∷ 0 ∷ 0 ∷ 0 ∷ 4 ∷ 0 ∷ 0 ∷ 0 ∷ 0
    ∷ 0x6d ∷ 0 ∷ []
unfolding base own own_struct
part_written = refl

-- more strings than the table has, and a base without id 0
beyond_the_end : (split_blob 3 8 (joined base own) ≡ Err (InvalidStringOffset 8))
    × (split_blob 0 8 (joined base own) ≡ Err (UnknownBtfType 0))
unfolding base own
beyond_the_end = (refl, refl)

-- a base of the other byte order keeps it when the split table is appended
order_stays : (appended (record base { order = Big }) (joined base own)).order ≡ Big
order_stays = refl

-- cut to three records and five bytes of strings, it is the base
cut_again : cut 3 5 (appended base (joined base own)) ≡ base
unfolding base own
cut_again = refl
