-- The grammar of one record, and its one written form. Source: the kernel's BTF documentation, "Type Encoding". What
-- reading drops is as in aya-obj's `BtfType::read`, except for the linkage of a VAR and the words of an Unknown, which
-- are this project's choice (docs/DIFFERENCES.md).
use Rattle.std.specs.Prelude.{◌≡◌, ℕ, ◌<◌, ◌^◌, min, List, map, length, Some}
use Rattle.std.specs.List.{flat_map, AllByRecursion}
use Rattle.btf_model.specs.Word.{word}
use Rattle.btf_model.specs.declared.endianness.Endianness.{Endianness}
use Rattle.btf_model.specs.Record.{Kind, Unknown, Fwd, Array, Var, Record, kind_of, vlen, tail_words, unknown, words}

-- The spelling of a record: its words, one after another.
abbrev pub spell : Endianness → Record → List ℕ
spell order r = flat_map (word order) (words r)

-- r is a record of this kind: info has the kind, the tail has the length that the kind and vlen give, and each word has
-- 32 bits.
pub record HasKind (k : Kind) (r : Record) : Type 0 where
  pub kind : kind_of r.info ≡ Some k
  pub tail : length r.tail ≡ tail_words k (vlen r.info)
  pub words : AllByRecursion (λ w. w < 2 ^ 32) (words r)

-- What reading retains of a record. An Unknown retains only its kind; FWD and ARRAY lose their third word; a VAR
-- linkage above 2 becomes 3, the number of a linkage that has no name. All other words are retained.
abbrev pub kept : Kind → Record → Record
kept Unknown r = unknown
kept Fwd r = record r { third = 0 }
kept Array r = record r { third = 0 }
kept Var r = record r { tail = map (min 3) r.tail }
kept k r = r

-- The bytes spell the record r: they are the words of a record w, and r is what reading retains of w.
abbrev pub IsRecord : Endianness → List ℕ → Record → Type 0
IsRecord order bytes r = (k : Kind) × (w : Record) × HasKind k w × (bytes ≡ spell order w) × (r ≡ kept k w)

-- Reading retains all of r, so its own spelling is read as r.
abbrev pub IsWhole : Record → Type 0
IsWhole r = (k : Kind) × HasKind k r × (kept k r ≡ r)
