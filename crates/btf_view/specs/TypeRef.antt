-- A type of a table, whatever holds the table, and its items.
use Rattle.std.specs.Prelude.{ℕ, zero, suc, ◌*◌, List, [], ◌∷◌, drop, Option, Some, None}
use Rattle.std.specs.Option.{option_map}
use Rattle.btf_model.specs.Record.{Record}
use Rattle.btf_plain.specs.Kind as kinds
use Rattle.btf_plain.specs.declared.head.Head.{Head}
use Rattle.btf_records.specs.BtfType.{record_of}
use Rattle.btf_view.specs.Words.{record_before}
use Rattle.btf_view.specs.declared.record_words.RecordWords.{RecordWords}
use Rattle.btf_view.specs.declared.type_ref.TypeRef.{TypeRef}
use Rattle.btf_view.specs.declared.type_ref.TypeRef.TheVariants.{Parsed, Viewed}

-- the record in the bytes of a view
abbrev pub record_of_words : RecordWords → Record
record_of_words w = record_before (kinds.kind w.kind) w.endianness w.head w.tail.now

-- the record of a type
abbrev pub record_in : TypeRef → Record
record_in (Parsed t) = record_of t.now
record_in (Viewed w) = record_of_words w

-- the first three words of a record
abbrev pub first_three : Record → Head
first_three r = record { name = r.name; info = r.info; third = r.third }

-- the first words of a list, if it has so many
abbrev pub first_words : ℕ → List ℕ → Option (List ℕ)
first_words zero words = Some []
first_words (suc n) [] = None
first_words (suc n) (word ∷ words) = option_map (λ rest. word ∷ rest) (first_words n words)

-- the words of the item of an index, where each item has this number of words
abbrev pub item_at : ℕ → List ℕ → ℕ → Option (List ℕ)
item_at width words index = first_words width (drop (width * index) words)
