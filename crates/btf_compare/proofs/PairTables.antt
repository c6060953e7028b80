-- Tables of pairs: buckets that are split, and the entries of a table to which a bucket is added.
use Rattle.std.proofs.Common.{◌≡◌, ◌≢◌, ℕ, zero, suc, ◌+◌, ◌<◌, List, [], ◌∷◌, ◌++◌, length, get_or, map, set, refl, sym, ap, subst, ◌∙◌, Bool, true, false, Some, None, Option, arith, inl, inr}
use Rattle.std.specs.Prelude.{cond, if◌then◌else◌}
use Rattle.std.specs.Option.{option_or}
use Rattle.std.proofs.lemmas.Bool.{cases_Bool, cases_eq, false≢true}
use Rattle.btf_compare.specs.Entries.{is_ids, values_in, Sets}
use Rattle.btf_compare.specs.Buckets.{bucket_of, is_numbered}
use Rattle.std.proofs.lemmas.List.{map-set, get_or-set_same, get_or-set_other, length-map, length-set, length-append}
use Rattle.btf_compare.specs.PairTable.{AreShared, IsPairTable, TakesMore, capacity, count_in, entries_of, held, layout, mark_of, place_in, value_of}
use Rattle.btf_compare.specs.declared.pair_table.Bucket.{Bucket}
use Rattle.btf_compare.specs.declared.entries.Progress.{Progress}
use Rattle.btf_compare.proofs.EntryLists.{is_same, array_push, further_set, nowhere, set_then_more}
use Rattle.btf_compare.proofs.Buckets.{bucket_within}

module _ {V : Type 0} where
  -- ---- an entry more

  -- the value of a pair in a list with one more entry
  entry_says : (ℕ × ℕ) × V → ℕ × ℕ → Option V
  entry_says e ids = cond (is_ids ids e.0) (Some e.1) None

  or_none : (o : Option V) → option_or o None ≡ o
  or_none None = refl
  or_none (Some v) = refl

  cond_or : (b : Bool) (v : V) (o more : Option V) → cond b (Some v) (option_or o more) ≡ option_or (cond b (Some v) o) more
  cond_or true v o more = refl
  cond_or false v o more = refl

  values_push : (es : List ((ℕ × ℕ) × V)) (e : (ℕ × ℕ) × V) (ids : ℕ × ℕ) → values_in (es ++ e ∷ []) ids ≡ option_or (values_in es ids) (entry_says e ids)
  unfolding entry_says
  values_push [] e ids = refl
  values_push (a ∷ es) e ids = ap (λ (o : Option V). cond (is_ids ids a.0) (Some a.1) o) (values_push es e ids) ∙ cond_or (is_ids ids a.0) a.1 (values_in es ids) (entry_says e ids)

  -- ---- the entries of a split bucket

  module _ (mask number : ℕ) (stay go all : List ((ℕ × ℕ) × V)) (shared : AreShared mask number stay go all) (e : (ℕ × ℕ) × V) where
    -- a pair with another masked hash is another pair
    unlike : (ids : ℕ × ℕ) → (is_numbered mask number ids ≡ is_numbered mask number e.0 → ⊥) → entry_says e ids ≡ None
    unfolding entry_says
    unlike ids differ =
        elim (cases_Bool (is_ids ids e.0)) [
          | inl is ↦ absurd (differ (ap (is_numbered mask number) (is_same ids e.0 is)))
          | inr other ↦ ap (λ (b : Bool). cond b (Some e.1) None) other
        ]

    pub one_goes : is_numbered mask number e.0 ≡ true → AreShared mask number stay (go ++ e ∷ []) (all ++ e ∷ [])
    one_goes numbered ids =
        elim (cases_Bool (is_numbered mask number ids)) [
          | inl is ↦
              ap (λ (b : Bool). values_in (if b then go ++ e ∷ [] else stay) ids) is ∙ values_push go e ids
              ∙ ap (λ (o : Option V). option_or o (entry_says e ids)) (sym (ap (λ (b : Bool). values_in (if b then go else stay) ids) is) ∙ shared ids) ∙ sym (values_push all e ids)
          | inr not ↦
              ap (λ (b : Bool). values_in (if b then go ++ e ∷ [] else stay) ids) not ∙ sym (ap (λ (b : Bool). values_in (if b then go else stay) ids) not) ∙ shared ids
              ∙ sym (values_push all e ids ∙ ap (option_or (values_in all ids)) (unlike ids (λ same. false≢true (sym not ∙ (same ∙ numbered)))) ∙ or_none (values_in all ids))
        ]

    pub one_stays : is_numbered mask number e.0 ≡ false → AreShared mask number (stay ++ e ∷ []) go (all ++ e ∷ [])
    one_stays unnumbered ids =
        elim (cases_Bool (is_numbered mask number ids)) [
          | inl is ↦
              ap (λ (b : Bool). values_in (if b then go else stay ++ e ∷ []) ids) is ∙ sym (ap (λ (b : Bool). values_in (if b then go else stay) ids) is) ∙ shared ids
              ∙ sym (values_push all e ids ∙ ap (option_or (values_in all ids)) (unlike ids (λ same. false≢true (sym unnumbered ∙ (sym same ∙ is)))) ∙ or_none (values_in all ids))
          | inr not ↦
              ap (λ (b : Bool). values_in (if b then go else stay ++ e ∷ []) ids) not ∙ values_push stay e ids
              ∙ ap (λ (o : Option V). option_or o (entry_says e ids)) (sym (ap (λ (b : Bool). values_in (if b then go else stay) ids) not) ∙ shared ids) ∙ sym (values_push all e ids)
        ]

-- ---- a table

none_below : (i : ℕ) → i < 0 → ⊥
none_below i lt = omega (arith, lt)

pub read_column : {X : Type 0} (f : Bucket → X) (bs : List Bucket) (i : ℕ) (b : Bucket) (d : X) → i < length bs → b ≡ get_or bs i b → get_or (map f bs) i d ≡ f b
read_column f [] i b d lt is = absurd (none_below i lt)
read_column f (a ∷ bs) zero b d lt is = ap f (sym is)
read_column f (a ∷ bs) (suc i) b d lt is = read_column f bs i b d (omega (arith, lt)) is

module _ {V : Type 0} where
  pub held_push : (rows : List (List ((ℕ × ℕ) × V))) (row : List ((ℕ × ℕ) × V)) → held (rows ++ row ∷ []) ≡ held rows + length row
  unfolding held
  held_push [] row = omega arith
  held_push (r ∷ rows) row = omega (arith, held_push rows row)

  pub held_set : (rows : List (List ((ℕ × ℕ) × V))) (i : ℕ) (old row : List ((ℕ × ℕ) × V)) → i < length rows → get_or rows i [] ≡ old → held (set rows i row) + length old ≡ held rows + length row
  unfolding held
  held_set [] i old row lt is = omega (arith, lt)
  held_set (r ∷ rows) zero old row lt is = let same : r ≡ old = is in omega (arith, ap length same)
  held_set (r ∷ rows) (suc i) old row lt is = omega (arith, held_set rows i old row (omega (arith, lt)) is)

module _ (buckets : List Bucket) (mask : ℕ) (further : List ((ℕ × ℕ) × Progress)) (table : IsPairTable (layout buckets mask further)) where
  rows : List (List ((ℕ × ℕ) × Progress))
  rows = map entries_of buckets

  many : length (map entries_of buckets) ≡ length buckets
  many = length-map buckets entries_of

  -- a pair's bucket
  abbrev place : ℕ × ℕ → ℕ
  place ids = place_in (layout buckets mask further) ids

  pub place_is : (ids : ℕ × ℕ) → place ids ≡ bucket_of mask (length buckets) ids
  place_is ids = ap (λ (n : ℕ). bucket_of mask n ids) many

  place_within : (ids : ℕ × ℕ) → place ids < length (map entries_of buckets)
  place_within ids = bucket_within table.bits mask (length (map entries_of buckets)) table.ones table.least table.most ids

  pub within : (ids : ℕ × ℕ) → bucket_of mask (length buckets) ids < length buckets
  within ids = omega (arith, place_within ids, place_is ids, many)

  module _ (ids : ℕ × ℕ) (i : ℕ) (at : i ≡ bucket_of mask (length buckets) ids) (b : Bucket) (is : b ≡ get_or buckets i b) where
    here : place ids ≡ i
    here = place_is ids ∙ sym at

    inside : i < length buckets
    inside = omega (arith, at, within ids)

    pub row_here : get_or (map entries_of buckets) i [] ≡ entries_of b
    row_here = read_column entries_of buckets i b [] inside is

    pub mark_here : get_or (map mark_of buckets) i false ≡ b.overflows
    mark_here = read_column mark_of buckets i b false inside is

    pub value_here : value_of (layout buckets mask further) ids ≡ option_or (values_in (entries_of b) ids) (values_in further ids)
    value_here = ap (λ (j : ℕ). option_or (values_in (get_or (map entries_of buckets) j []) ids) (values_in further ids)) here ∙ ap (λ (row : List ((ℕ × ℕ) × Progress)). option_or (values_in row ids) (values_in further ids)) row_here

    -- if the bucket has not overflowed, the ordered map has none of its pairs
    pub none_further : b.overflows ≡ false → values_in further ids ≡ None
    none_further fits = table.marked ids (ap (λ (j : ℕ). get_or (map mark_of buckets) j false) here ∙ mark_here ∙ fits)

    -- a pair without a value has no entry there
    pub absent : value_of (layout buckets mask further) ids ≡ None → values_in further ids ≡ None
    absent none = (nowhere ids (entries_of b) (values_in further ids) (sym value_here ∙ none)).1

    -- ---- another bucket in its place
    module _ (new : Bucket) (more : List ((ℕ × ℕ) × Progress)) where
      pub counts_set : count_in (layout (set buckets i new) mask more) + (length (entries_of b) + length further) ≡ count_in (layout buckets mask further) + (length (entries_of new) + length more)
      counts_set =
          let rows_set = map-set entries_of buckets i new in
          omega (arith, ap held rows_set, held_set (map entries_of buckets) i (entries_of b) (entries_of new) (omega (arith, inside, many)) row_here)

      -- the pairs that the buckets take before the table grows
      pub takes_more : (left now : ℕ) → TakesMore (layout buckets mask further) left → now + length (entries_of new) ≡ left + length (entries_of b) → TakesMore (layout (set buckets i new) mask more) now
      takes_more left now takes same =
          let rows_set = map-set entries_of buckets i new in
          omega (
            arith,
            takes,
            same,
            ap held rows_set,
            ap capacity (ap length rows_set ∙ length-set (map entries_of buckets) i (entries_of new)),
            held_set (map entries_of buckets) i (entries_of b) (entries_of new) (omega (arith, inside, many)) row_here,
          )

      module _ (p : Progress) (apart : (other : ℕ × ℕ) → is_ids ids other ≡ false → values_in more other ≡ values_in further other) where
        columns : length (map entries_of (set buckets i new)) ≡ length (map entries_of buckets)
        columns = ap length (map-set entries_of buckets i new) ∙ length-set (map entries_of buckets) i (entries_of new)

        place_set : (other : ℕ × ℕ) → place_in (layout (set buckets i new) mask more) other ≡ place other
        place_set other = ap (λ (n : ℕ). bucket_of mask n other) columns

        elsewhere : (other : ℕ × ℕ) → place other ≢ i → is_ids ids other ≡ false
        elsewhere other differs =
            elim (cases_Bool (is_ids ids other)) [
              | inl same ↦ absurd (differs (ap place (sym (is_same ids other same)) ∙ here))
              | inr not ↦ not
            ]

        row_set : (other : ℕ × ℕ) → place other ≡ i → get_or (map entries_of (set buckets i new)) (place_in (layout (set buckets i new) mask more) other) [] ≡ entries_of new
        row_set other is_here =
            ap (λ (j : ℕ). get_or (map entries_of (set buckets i new)) j []) (place_set other ∙ is_here) ∙ ap (λ (c : List (List ((ℕ × ℕ) × Progress))). get_or c i []) (map-set entries_of buckets i new)
            ∙ get_or-set_same (map entries_of buckets) i (entries_of new) [] (omega (arith, inside, many))

        row_kept : (other : ℕ × ℕ) → place other ≢ i → get_or (map entries_of (set buckets i new)) (place_in (layout (set buckets i new) mask more) other) [] ≡ get_or (map entries_of buckets) (place other) []
        row_kept other differs =
            ap (λ (j : ℕ). get_or (map entries_of (set buckets i new)) j []) (place_set other) ∙ ap (λ (c : List (List ((ℕ × ℕ) × Progress))). get_or c (place other) []) (map-set entries_of buckets i new)
            ∙ get_or-set_other (map entries_of buckets) i (place other) (entries_of new) [] differs

        pub sets : ((other : ℕ × ℕ) → option_or (values_in (entries_of new) other) (values_in more other) ≡ cond (is_ids ids other) (Some p) (option_or (values_in (entries_of b) other) (values_in further other)))
            → Sets (value_of (layout buckets mask further)) (value_of (layout (set buckets i new) mask more)) ids p
        sets changes other =
            elim (cases_eq (place other) i) [
              | inl is_here ↦
                  ap (λ (row : List ((ℕ × ℕ) × Progress)). option_or (values_in row other) (values_in more other)) (row_set other is_here) ∙ changes other
                  ∙ ap (λ (row : List ((ℕ × ℕ) × Progress)). cond (is_ids ids other) (Some p) (option_or (values_in row other) (values_in further other))) (sym (ap (λ (j : ℕ). get_or (map entries_of buckets) j []) is_here ∙ row_here))
              | inr differs ↦
                  ap (λ (row : List ((ℕ × ℕ) × Progress)). option_or (values_in row other) (values_in more other)) (row_kept other differs)
                  ∙ ap (λ (o : Option Progress). option_or (values_in (get_or (map entries_of buckets) (place other) []) other) o) (apart other (elsewhere other differs))
                  ∙ sym (ap (λ (same : Bool). cond same (Some p) (value_of (layout buckets mask further) other)) (elsewhere other differs))
            ]

        mark_set : (other : ℕ × ℕ) → place other ≡ i → get_or (map mark_of (set buckets i new)) (place_in (layout (set buckets i new) mask more) other) false ≡ new.overflows
        mark_set other is_here =
            ap (λ (j : ℕ). get_or (map mark_of (set buckets i new)) j false) (place_set other ∙ is_here) ∙ ap (λ (c : List Bool). get_or c i false) (map-set mark_of buckets i new)
            ∙ get_or-set_same (map mark_of buckets) i new.overflows false (omega (arith, inside, length-map buckets mark_of))

        mark_kept : (other : ℕ × ℕ) → place other ≢ i → get_or (map mark_of (set buckets i new)) (place_in (layout (set buckets i new) mask more) other) false ≡ get_or (map mark_of buckets) (place other) false
        mark_kept other differs =
            ap (λ (j : ℕ). get_or (map mark_of (set buckets i new)) j false) (place_set other) ∙ ap (λ (c : List Bool). get_or c (place other) false) (map-set mark_of buckets i new)
            ∙ get_or-set_other (map mark_of buckets) i (place other) new.overflows false differs

        pub is_table : (new.overflows ≡ false → b.overflows ≡ false) → (new.overflows ≡ false → values_in more ids ≡ None) → IsPairTable (layout (set buckets i new) mask more)
        is_table marks own = record {
          bits = table.bits;
          ones = table.ones;
          least = omega (arith, table.least, columns);
          most = omega (arith, table.most, columns);
          marked = λ other fits. elim (cases_eq (place other) i) [
            | inl is_here ↦
                let unmarked = sym (mark_set other is_here) ∙ fits in
                elim (cases_Bool (is_ids ids other)) [
                  | inl same ↦ subst (λ (x : ℕ × ℕ). values_in more x ≡ None) (is_same ids other same) (own unmarked)
                  | inr not ↦
                      apart other not ∙ table.marked other (ap (λ (j : ℕ). get_or (map mark_of buckets) j false) is_here ∙ mark_here ∙ marks unmarked)
                ]
            | inr differs ↦ apart other (elsewhere other differs) ∙ table.marked other (sym (mark_kept other differs) ∙ fits)
          ];
        }

-- ---- a pair that is added, or whose progress changes
module _ (buckets : List Bucket) (mask : ℕ) (further : List ((ℕ × ℕ) × Progress)) (table : IsPairTable (layout buckets mask further))
    (ids : ℕ × ℕ) (i : ℕ) (at : i ≡ bucket_of mask (length buckets) ids) (b : Bucket) (is : b ≡ get_or buckets i b) (p : Progress) where
  -- in its bucket
  module _ (none : value_of (layout buckets mask further) ids ≡ None) (new : Bucket) (pushed : entries_of new ≡ entries_of b ++ (ids, p) ∷ []) (same : new.overflows ≡ b.overflows) where
    pub pushed_sets : Sets (value_of (layout buckets mask further)) (value_of (layout (set buckets i new) mask further)) ids p
    pushed_sets =
        sets buckets mask further table ids i at b is new further p (λ other differs. refl)
        (λ other. ap (λ (es : List ((ℕ × ℕ) × Progress)). option_or (values_in es other) (values_in further other)) pushed
        ∙ array_push ids (entries_of b) p (values_in further) (nowhere ids (entries_of b) (values_in further ids) (sym (value_here buckets mask further table ids i at b is) ∙ none)).0 other)

    pub pushed_table : IsPairTable (layout (set buckets i new) mask further)
    pushed_table =
        is_table buckets mask further table ids i at b is new further p (λ other differs. refl) (λ fits. sym same ∙ fits)
        (λ fits. none_further buckets mask further table ids i at b is (sym same ∙ fits))

    pub pushed_counts : count_in (layout (set buckets i new) mask further) ≡ count_in (layout buckets mask further) + 1
    pushed_counts = omega (arith, counts_set buckets mask further table ids i at b is new further, ap length pushed, length-append (entries_of b) ((ids, p) ∷ []))

  -- in the ordered map, because its bucket is full
  module _ (none : value_of (layout buckets mask further) ids ≡ None) (new : Bucket) (stays : entries_of new ≡ entries_of b) (marked : new.overflows ≡ true) (more : List ((ℕ × ℕ) × Progress)) (changes : Sets (values_in further) (values_in more) ids p) (longer : length more ≡ length further + 1) where
    kept_apart : (other : ℕ × ℕ) → is_ids ids other ≡ false → values_in more other ≡ values_in further other
    kept_apart other differs = changes other ∙ ap (λ (b : Bool). cond b (Some p) (values_in further other)) differs

    pub over_sets : Sets (value_of (layout buckets mask further)) (value_of (layout (set buckets i new) mask more)) ids p
    over_sets =
        sets buckets mask further table ids i at b is new more p kept_apart
        (λ other. ap (λ (es : List ((ℕ × ℕ) × Progress)). option_or (values_in es other) (values_in more other)) stays
        ∙ further_set ids (entries_of b) p (values_in further) (values_in more) (nowhere ids (entries_of b) (values_in further ids) (sym (value_here buckets mask further table ids i at b is) ∙ none)).0 changes other)

    pub over_table : IsPairTable (layout (set buckets i new) mask more)
    over_table =
        is_table buckets mask further table ids i at b is new more p kept_apart (λ fits. absurd (false≢true (sym fits ∙ marked)))
        (λ fits. absurd (false≢true (sym fits ∙ marked)))

    pub over_counts : count_in (layout (set buckets i new) mask more) ≡ count_in (layout buckets mask further) + 1
    over_counts = omega (arith, counts_set buckets mask further table ids i at b is new more, ap length stays, longer)

  -- changed in its bucket
  module _ (new : Bucket) (changes : Sets (values_in (entries_of b)) (values_in (entries_of new)) ids p) (long : length (entries_of new) ≡ length (entries_of b)) (same : new.overflows ≡ b.overflows) where
    pub set_sets : Sets (value_of (layout buckets mask further)) (value_of (layout (set buckets i new) mask further)) ids p
    set_sets =
        sets buckets mask further table ids i at b is new further p (λ other differs. refl)
        (λ other. ap (λ (o : Option Progress). option_or o (values_in further other)) (changes other) ∙ set_then_more ids (is_ids ids other) p (values_in (entries_of b) other) (values_in further other))

    pub set_table : IsPairTable (layout (set buckets i new) mask further)
    set_table =
        is_table buckets mask further table ids i at b is new further p (λ other differs. refl) (λ fits. sym same ∙ fits)
        (λ fits. none_further buckets mask further table ids i at b is (sym same ∙ fits))

    pub set_counts : count_in (layout (set buckets i new) mask further) ≡ count_in (layout buckets mask further)
    set_counts = omega (arith, counts_set buckets mask further table ids i at b is new further, long)

  -- changed in the ordered map
  module _ (new : Bucket) (none : values_in (entries_of b) ids ≡ None) (stays : entries_of new ≡ entries_of b) (same : new.overflows ≡ b.overflows) (more : List ((ℕ × ℕ) × Progress)) (changes : Sets (values_in further) (values_in more) ids p) (long : length more ≡ length further) (some : values_in further ids ≡ None → ⊥) where
    apart_in_map : (other : ℕ × ℕ) → is_ids ids other ≡ false → values_in more other ≡ values_in further other
    apart_in_map other differs = changes other ∙ ap (λ (b : Bool). cond b (Some p) (values_in further other)) differs

    pub more_sets : Sets (value_of (layout buckets mask further)) (value_of (layout (set buckets i new) mask more)) ids p
    more_sets =
        sets buckets mask further table ids i at b is new more p apart_in_map
        (λ other. ap (λ (es : List ((ℕ × ℕ) × Progress)). option_or (values_in es other) (values_in more other)) stays ∙ further_set ids (entries_of b) p (values_in further) (values_in more) none changes other)

    pub more_table : IsPairTable (layout (set buckets i new) mask more)
    more_table =
        is_table buckets mask further table ids i at b is new more p apart_in_map (λ fits. sym same ∙ fits)
        (λ fits. absurd (some (none_further buckets mask further table ids i at b is (sym same ∙ fits))))

    pub more_counts : count_in (layout (set buckets i new) mask more) ≡ count_in (layout buckets mask further)
    more_counts = omega (arith, counts_set buckets mask further table ids i at b is new more, ap length stays, long)
