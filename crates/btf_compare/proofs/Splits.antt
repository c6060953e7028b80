-- A table to which a bucket is added, for some pairs of the one that is split.
use Rattle.std.proofs.Common.{◌≡◌, ◌≢◌, ℕ, suc, ◌+◌, ◌-◌, ◌/◌, ◌^◌, ◌<◌, ◌≤◌, List, [], ◌∷◌, ◌++◌, length, get_or, map, set, sym, ap, ◌∙◌, Bool, true, false, Option, arith, inl, inr}
use Rattle.std.specs.Prelude.{if◌then◌else◌}
use Rattle.std.specs.Option.{option_or}
use Rattle.std.proofs.lemmas.Bool.{cases_Bool, cases_eq}
use Rattle.std.proofs.lemmas.List.{map-append, map-set, get_or-set_same, get_or-set_other, get_or_append_left, length-map, length-set, length-append}
use Rattle.std.proofs.lemmas.Nat.{pow_pos}
use Rattle.std.proofs.Math.Nat.{pow-suc}
use Rattle.std.proofs.Math.Seq.{get_or-append_seam}
use Rattle.btf_compare.specs.Entries.{values_in}
use Rattle.btf_compare.specs.Buckets.{bucket_of, is_numbered}
use Rattle.btf_compare.specs.PairTable.{AreShared, IsPairTable, count_in, entries_of, held, layout, mark_of, place_in, value_of}
use Rattle.btf_compare.specs.declared.pair_table.Bucket.{Bucket}
use Rattle.btf_compare.specs.declared.entries.Progress.{Progress}
use Rattle.btf_compare.proofs.Buckets.{IsNextMask, bucket_within, half, next_bucket, split_from}
use Rattle.btf_compare.proofs.PairTables.{held_push, held_set, read_column}

-- ---- a column of a table: one bucket is another now, and there is one more
module _ {X : Type 0} (f : Bucket → X) (d : X) (buckets : List Bucket) (n : ℕ) (lo up : Bucket) where
  column : map f (set buckets n lo ++ up ∷ []) ≡ set (map f buckets) n (f lo) ++ f up ∷ []
  column = map-append f (set buckets n lo) (up ∷ []) ∙ ap (λ (c : List X). c ++ f up ∷ []) (map-set f buckets n lo)

  long : length (set (map f buckets) n (f lo)) ≡ length buckets
  long = length-set (map f buckets) n (f lo) ∙ length-map buckets f

  column_long : length (map f (set buckets n lo ++ up ∷ [])) ≡ length buckets + 1
  column_long = ap length column ∙ length-append (set (map f buckets) n (f lo)) (f up ∷ []) ∙ ap (λ (k : ℕ). k + 1) long

  column_new : get_or (map f (set buckets n lo ++ up ∷ [])) (length buckets) d ≡ f up
  column_new = ap (λ (c : List X). get_or c (length buckets) d) column ∙ ap (λ (k : ℕ). get_or (set (map f buckets) n (f lo) ++ f up ∷ []) k d) (sym long) ∙ get_or-append_seam (set (map f buckets) n (f lo)) (f up) [] d

  column_left : (j : ℕ) → j < length buckets → get_or (map f (set buckets n lo ++ up ∷ [])) j d ≡ get_or (set (map f buckets) n (f lo)) j d
  column_left j lt = ap (λ (c : List X). get_or c j d) column ∙ get_or_append_left (set (map f buckets) n (f lo)) (f up ∷ []) d j (omega (arith, lt, long))

  column_here : n < length buckets → get_or (map f (set buckets n lo ++ up ∷ [])) n d ≡ f lo
  column_here lt = column_left n lt ∙ get_or-set_same (map f buckets) n (f lo) d (omega (arith, lt, length-map buckets f))

  column_other : (j : ℕ) → j < length buckets → j ≢ n → get_or (map f (set buckets n lo ++ up ∷ [])) j d ≡ get_or (map f buckets) j d
  column_other j lt differs = column_left j lt ∙ get_or-set_other (map f buckets) n j (f lo) d differs

module _ (buckets : List Bucket) (mask : ℕ) (further : List ((ℕ × ℕ) × Progress)) (table : IsPairTable (layout buckets mask further)) where
  many : length (map entries_of buckets) ≡ length buckets
  many = length-map buckets entries_of

  least : 2 ^ table.bits ≤ length buckets
  least = omega (arith, table.least, many)

  pub most : length buckets ≤ mask
  most = omega (arith, table.most, many)

  halved : mask / 2 + 1 ≡ 2 ^ table.bits
  halved = omega (arith, half table.bits mask table.ones, pow_pos table.bits)

  -- there is a bucket to split
  pub half_within : mask / 2 + 1 ≤ length buckets
  half_within = omega (arith, halved, least)

  pub next_within : length buckets - (mask / 2 + 1) < length buckets
  next_within = omega (arith, halved, least, pow_pos table.bits)

  module _ (n : ℕ) (from : n ≡ length buckets - (mask / 2 + 1)) (b : Bucket) (is : b ≡ get_or buckets n b) (lo up : Bucket) (shared : AreShared mask (length buckets) (entries_of lo) (entries_of up) (entries_of b)) (counts : length (entries_of lo) + length (entries_of up) ≡ length (entries_of b))
      (lo_mark : lo.overflows ≡ b.overflows) (up_mark : up.overflows ≡ b.overflows) (next : ℕ) (masks : IsNextMask mask (length buckets) next) where
    after : List Bucket
    after = set buckets n lo ++ up ∷ []

    n_within : n < length buckets
    n_within = omega (arith, from, next_within)

    old_place : (ids : ℕ × ℕ) → place_in (layout buckets mask further) ids ≡ bucket_of mask (length buckets) ids
    old_place ids = ap (λ (k : ℕ). bucket_of mask k ids) many

    new_place : (ids : ℕ × ℕ) → place_in (layout (set buckets n lo ++ up ∷ []) next further) ids ≡ (if is_numbered mask (length buckets) ids then length buckets else bucket_of mask (length buckets) ids)
    new_place ids = ap (λ (k : ℕ). bucket_of next k ids) (column_long entries_of [] buckets n lo up) ∙ next_bucket table.bits mask (length buckets) table.ones least most next masks ids

    goes_to : (ids : ℕ × ℕ) → is_numbered mask (length buckets) ids ≡ true → place_in (layout (set buckets n lo ++ up ∷ []) next further) ids ≡ length buckets
    goes_to ids numbered = new_place ids ∙ ap (λ (c : Bool). if c then length buckets else bucket_of mask (length buckets) ids) numbered

    goes_from : (ids : ℕ × ℕ) → is_numbered mask (length buckets) ids ≡ true → place_in (layout buckets mask further) ids ≡ n
    goes_from ids numbered = omega (arith, old_place ids, split_from table.bits mask (length buckets) table.ones least most ids numbered, from, halved)

    stays_in : (ids : ℕ × ℕ) → is_numbered mask (length buckets) ids ≡ false → place_in (layout (set buckets n lo ++ up ∷ []) next further) ids ≡ place_in (layout buckets mask further) ids
    stays_in ids not = new_place ids ∙ ap (λ (c : Bool). if c then length buckets else bucket_of mask (length buckets) ids) not ∙ sym (old_place ids)

    old_within : (ids : ℕ × ℕ) → place_in (layout buckets mask further) ids < length buckets
    old_within ids = omega (arith, old_place ids, bucket_within table.bits mask (length buckets) table.ones least most ids)

    -- the value of a pair in its bucket does not change
    row_same : (ids : ℕ × ℕ) → values_in (get_or (map entries_of (set buckets n lo ++ up ∷ [])) (place_in (layout (set buckets n lo ++ up ∷ []) next further) ids) []) ids ≡ values_in (get_or (map entries_of buckets) (place_in (layout buckets mask further) ids) []) ids
    row_same ids =
        let old : List (List ((ℕ × ℕ) × Progress)) = map entries_of buckets in
        let new : List (List ((ℕ × ℕ) × Progress)) = map entries_of (set buckets n lo ++ up ∷ []) in
        elim (cases_Bool (is_numbered mask (length buckets) ids)) [
          | inl numbered ↦
              ap (λ (j : ℕ). values_in (get_or new j []) ids) (goes_to ids numbered) ∙ ap (λ (row : List ((ℕ × ℕ) × Progress)). values_in row ids) (column_new entries_of [] buckets n lo up)
              ∙ sym (ap (λ (c : Bool). values_in (if c then entries_of up else entries_of lo) ids) numbered) ∙ shared ids
              ∙ sym (ap (λ (j : ℕ). values_in (get_or old j []) ids) (goes_from ids numbered) ∙ ap (λ (row : List ((ℕ × ℕ) × Progress)). values_in row ids) (read_column entries_of buckets n b [] n_within is))
          | inr not ↦
              ap (λ (j : ℕ). values_in (get_or new j []) ids) (stays_in ids not)
              ∙ elim (cases_eq (place_in (layout buckets mask further) ids) n) [
                | inl here ↦
                    ap (λ (j : ℕ). values_in (get_or new j []) ids) here ∙ ap (λ (row : List ((ℕ × ℕ) × Progress)). values_in row ids) (column_here entries_of [] buckets n lo up n_within)
                    ∙ sym (ap (λ (c : Bool). values_in (if c then entries_of up else entries_of lo) ids) not) ∙ shared ids
                    ∙ sym (ap (λ (j : ℕ). values_in (get_or old j []) ids) here ∙ ap (λ (row : List ((ℕ × ℕ) × Progress)). values_in row ids) (read_column entries_of buckets n b [] n_within is))
                | inr there ↦
                    ap (λ (row : List ((ℕ × ℕ) × Progress)). values_in row ids) (column_other entries_of [] buckets n lo up (place_in (layout buckets mask further) ids) (old_within ids) there)
              ]
        ]

    mark_same : (ids : ℕ × ℕ) → get_or (map mark_of (set buckets n lo ++ up ∷ [])) (place_in (layout (set buckets n lo ++ up ∷ []) next further) ids) false ≡ get_or (map mark_of buckets) (place_in (layout buckets mask further) ids) false
    mark_same ids =
        let old : List Bool = map mark_of buckets in
        let new : List Bool = map mark_of (set buckets n lo ++ up ∷ []) in
        elim (cases_Bool (is_numbered mask (length buckets) ids)) [
          | inl numbered ↦
              ap (λ (j : ℕ). get_or new j false) (goes_to ids numbered) ∙ column_new mark_of false buckets n lo up ∙ up_mark
              ∙ sym (ap (λ (j : ℕ). get_or old j false) (goes_from ids numbered) ∙ read_column mark_of buckets n b false n_within is)
          | inr not ↦
              ap (λ (j : ℕ). get_or new j false) (stays_in ids not)
              ∙ elim (cases_eq (place_in (layout buckets mask further) ids) n) [
                | inl here ↦
                    ap (λ (j : ℕ). get_or new j false) here ∙ column_here mark_of false buckets n lo up n_within ∙ lo_mark
                    ∙ sym (ap (λ (j : ℕ). get_or old j false) here ∙ read_column mark_of buckets n b false n_within is)
                | inr there ↦ column_other mark_of false buckets n lo up (place_in (layout buckets mask further) ids) (old_within ids) there
              ]
        ]

    pub split_values : (ids : ℕ × ℕ) → value_of (layout (set buckets n lo ++ up ∷ []) next further) ids ≡ value_of (layout buckets mask further) ids
    split_values ids = ap (λ (o : Option Progress). option_or o (values_in further ids)) (row_same ids)

    pub split_counts : count_in (layout (set buckets n lo ++ up ∷ []) next further) ≡ count_in (layout buckets mask further)
    split_counts =
        omega (
          arith,
          ap held (column entries_of [] buckets n lo up),
          held_push (set (map entries_of buckets) n (entries_of lo)) (entries_of up),
          held_set (map entries_of buckets) n (entries_of b) (entries_of lo) (omega (arith, n_within, many)) (read_column entries_of buckets n b [] n_within is),
          counts,
        )

    longer : length (map entries_of (set buckets n lo ++ up ∷ [])) ≡ length buckets + 1
    longer = column_long entries_of [] buckets n lo up

    pub split_table : IsPairTable (layout (set buckets n lo ++ up ∷ []) next further)
    split_table =
        elim masks [
          | inl same ↦ record {
            bits = table.bits;
            ones = same.1 ∙ table.ones;
            least = omega (arith, longer, least);
            most = omega (arith, longer, same.0, same.1);
            marked = λ ids fits. table.marked ids (sym (mark_same ids) ∙ fits);
          }
          | inr more ↦ record {
            bits = suc table.bits;
            ones = omega (arith, more.1, table.ones, pow-suc 2 table.bits, pow-suc 2 (suc table.bits), pow_pos table.bits);
            least = omega (arith, longer, more.0, table.ones, pow_pos (suc table.bits));
            most = omega (arith, longer, more.0, more.1);
            marked = λ ids fits. table.marked ids (sym (mark_same ids) ∙ fits);
          }
        ]
