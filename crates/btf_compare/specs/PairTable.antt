-- A hash table of pairs of ids, in buckets.
use Rattle.std.specs.Prelude.{◌≡◌, ℕ, suc, ◌+◌, ◌-◌, ◌*◌, ◌^◌, ◌<◌, ◌≤◌, length, map, get_or, Bool, false, List, [], ◌∷◌, Option, None, if◌then◌else◌, ltb}
use Rattle.std.specs.Option.{option_or}
use Rattle.btf_compare.specs.Entries.{values_in}
use Rattle.btf_compare.specs.Buckets.{bucket_of, is_numbered}
use Rattle.btf_compare.specs.declared.pair_table.Bucket.{Bucket}
use Rattle.btf_compare.specs.declared.entries.Progress.{Progress}

-- the mean number of pairs per bucket at which the table grows by a bucket
abbrev pub bucket_load : ℕ
bucket_load = 6

-- The number of pairs that this number of buckets takes before the table grows: 16 for one bucket, 17 for two, and
-- `load` per bucket from three buckets on.
unfoldable pub capacity : ℕ → ℕ
capacity buckets = if ltb buckets 3 then 15 + buckets else bucket_load * buckets

-- The contents of a table: the entries of each bucket, whether each bucket has overflowed, the mask that gives the
-- index of a pair's bucket, and the entries whose buckets were full.
pub record BucketLayout (V : Type 0) : Type 0 where
  pub rows : List (List ((ℕ × ℕ) × V))
  pub marks : List Bool
  pub mask : ℕ
  pub further : List ((ℕ × ℕ) × V)

-- the pairs of a bucket, with the progress of each
abbrev pub entries_of : Bucket → List ((ℕ × ℕ) × Progress)
entries_of bucket = bucket.entries.list.items

-- whether the bucket has overflowed
abbrev pub mark_of : Bucket → Bool
mark_of bucket = bucket.overflows

-- the layout of these buckets, this mask, and the pairs whose buckets were full
abbrev pub layout : List Bucket → ℕ → List ((ℕ × ℕ) × Progress) → BucketLayout Progress
layout buckets mask further = record {
  rows = map entries_of buckets;
  marks = map mark_of buckets;
  mask = mask;
  further = further;
}

module _ {V : Type 0} where
  -- A bucket is split in two: an entry is in the second if the masked hash of its pair is this number.
  abbrev pub AreShared : ℕ → ℕ → List ((ℕ × ℕ) × V) → List ((ℕ × ℕ) × V) → List ((ℕ × ℕ) × V) → Type 0
  AreShared mask number stay go all = (ids : ℕ × ℕ)
      → values_in (if is_numbered mask number ids then go else stay) ids ≡ values_in all ids

  -- the index of a pair's bucket
  abbrev pub place_in : BucketLayout V → ℕ × ℕ → ℕ
  place_in t ids = bucket_of t.mask (length t.rows) ids

  -- the value of a pair: in its bucket, or in the ordered map
  abbrev pub value_of : BucketLayout V → ℕ × ℕ → Option V
  value_of t ids = option_or (values_in (get_or t.rows (place_in t ids) []) ids) (values_in t.further ids)

  -- the number of entries of these buckets
  unfoldable pub held : List (List ((ℕ × ℕ) × V)) → ℕ
  held [] = 0
  held (row ∷ rows) = length row + held rows

  -- the number of entries of the table
  abbrev pub count_in : BucketLayout V → ℕ
  count_in t = held t.rows + length t.further

  -- The buckets take `left` more pairs before the table grows.
  abbrev pub TakesMore : BucketLayout V → ℕ → Type 0
  TakesMore t left = held t.rows + left ≡ capacity (length t.rows)

  -- The buckets take at least one more pair before the table grows.
  abbrev pub HasRoom : BucketLayout V → Type 0
  HasRoom t = held t.rows < capacity (length t.rows)

  -- The mask covers the index of each bucket, and without its highest bit it is the index of a bucket. The ordered map
  -- has an entry only if the entry's bucket has overflowed.
  pub record IsPairTable (t : BucketLayout V) : Type 0 where
    pub bits : ℕ
    pub ones : t.mask ≡ 2 ^ suc bits - 1
    pub least : 2 ^ bits ≤ length t.rows
    pub most : length t.rows ≤ t.mask
    pub marked : (ids : ℕ × ℕ) → get_or t.marks (place_in t ids) false ≡ false → values_in t.further ids ≡ None
