-- Types that replace others.
use Rattle.std.proofs.Common.{◌≡◌, ℕ, zero, suc, ◌+◌, ◌<◌, ◌≤◌, List, [], ◌∷◌, ◌++◌, length, get_or, take, drop, map, set, Option, refl, sym, ap, subst, ◌∙◌, arith, Vec, Global}
use Rattle.std.proofs.lemmas.List.{map-append, length-append, length-map, length-set, map-set, set-append_left, get_or_default, get_or-drop, drop-drop, drop-set-lt, take_more, take_more_set, take-set, take-map, get_or-take, length-take}
use Rattle.std.proofs.Math.Seq.{set-append_seam, take-append_seam, take-suc}
use Rattle.btf_model.specs.Record.{Record, unknown}
use Rattle.btf_model.specs.Table.{Table, Fallback, type_bytes}
use Rattle.btf_model.specs.Fields.{HaveKinds}
use Rattle.btf_records.specs.BtfType.{record_of, fallback_of}
use Rattle.btf_records.specs.declared.btf_type.BtfType.{BtfType}
use Rattle.btf_table.specs.declared.table.Btf.TheInside.{Inside}
use Rattle.btf_table.specs.declared.table.changes.Changes.{Changes}
use Rattle.btf_table.specs.Btf.{table_of, IsConsistent}
use Rattle.btf_table.specs.Changes.{put_all, put_back, before_changes, each, AreInside, AreChangesOf, changed, undone, Undoes}
use Rattle.btf_table.specs.declared.table.changes.Undo.{Undo}

-- replacing elements in order
pub put_append : {X : Type 0} (cs ds : List (ℕ × X)) (xs : List X) → put_all (cs ++ ds) xs ≡ put_all ds (put_all cs xs)
put_append [] ds xs = refl
put_append (c ∷ cs) ds xs = put_append cs ds (set xs c.0 c.1)

pub length-put : {X : Type 0} (cs : List (ℕ × X)) (xs : List X) → length (put_all cs xs) ≡ length xs
length-put [] xs = refl
length-put (c ∷ cs) xs = length-put cs (set xs c.0 c.1) ∙ length-set xs c.0 c.1

-- what the function gives for each of the types
pub map-put : {X : Type 0} (f : BtfType → X) (cs : List (ℕ × BtfType)) (ts : List BtfType) → map f (put_all cs ts) ≡ put_all (each f cs) (map f ts)
map-put f [] ts = refl
map-put f (c ∷ cs) ts = map-put f cs (set ts c.0 c.1) ∙ ap (put_all (each f cs)) (map-set f ts c.0 c.1)

-- elements after these ids do not change
pub put_front : {X : Type 0} (f : BtfType → X) (cs : List (ℕ × BtfType)) (xs ys : List X) → AreInside (length xs) cs → put_all (each f cs) (xs ++ ys) ≡ put_all (each f cs) xs ++ ys
put_front f [] xs ys inside = refl
put_front f (c ∷ cs) xs ys inside =
    ap (put_all (each f cs)) (set-append_left xs ys c.0 (f c.1) inside.0.1) ∙ put_front f cs (set xs c.0 (f c.1)) ys (subst (λ (n : ℕ). AreInside n cs) (sym (length-set xs c.0 (f c.1))) inside.1)

-- the element of id 0 does not change
pub first_stays : {X : Type 0} (f : BtfType → X) (count : ℕ) (cs : List (ℕ × BtfType)) (x : X) (xs : List X) → AreInside count cs → (rest : List X) × (put_all (each f cs) (x ∷ xs) ≡ x ∷ rest)
first_stays f count [] x xs inside = (xs, refl)
first_stays f count ((zero, t) ∷ cs) x xs inside = absurd (omega (arith, inside.0.0))
first_stays f count ((suc id, t) ∷ cs) x xs inside = first_stays f count cs x (set xs id (f t)) inside.1

-- one more id is unchanged
pub put_kept : {X : Type 0} (f : BtfType → X) (cs : List (ℕ × BtfType)) (xs : List X) (x : X) → AreInside (length xs) cs → put_all (each f cs) (xs ++ x ∷ []) ≡ put_all (each f cs) xs ++ x ∷ []
put_kept f cs xs x inside = put_front f cs xs (x ∷ []) inside

-- one more id has a new type
pub put_new : {X : Type 0} (f : BtfType → X) (cs : List (ℕ × BtfType)) (xs : List X) (x : X) (id : ℕ) (t : BtfType) → AreInside (length xs) cs → length xs ≡ id
    → put_all (each f (cs ++ (id, t) ∷ [])) (xs ++ x ∷ []) ≡ put_all (each f cs) xs ++ f t ∷ []
put_new f cs xs x id t inside at =
    let front : List _ = put_all (each f cs) xs in
    let here : length front ≡ id = length-put (each f cs) xs ∙ at in
    ap (λ ds. put_all ds (xs ++ x ∷ [])) (map-append (λ (c : ℕ × BtfType). (c.0, f c.1)) cs ((id, t) ∷ []))
    ∙ put_append (each f cs) ((id, f t) ∷ []) (xs ++ x ∷ []) ∙ ap (λ ys. set ys id (f t)) (put_kept f cs xs x inside)
    ∙ ap (λ (n : ℕ). set (front ++ x ∷ []) n (f t)) (sym here) ∙ set-append_seam front x [] (f t)

-- more ids are inside
pub inside_more : (count more : ℕ) (cs : List (ℕ × BtfType)) → count ≤ more → AreInside count cs → AreInside more cs
inside_more count more [] le inside = tt
inside_more count more (c ∷ cs) le inside = ((inside.0.0, omega (arith, inside.0.1, le)), inside_more count more cs le inside.1)

pub inside_next : (count : ℕ) (cs : List (ℕ × BtfType)) (id : ℕ) (t : BtfType) → AreInside count cs → 0 < id → id < count → AreInside count (cs ++ (id, t) ∷ [])
inside_next count [] id t inside low high = ((low, high), tt)
inside_next count (c ∷ cs) id t inside low high = (inside.0, inside_next count cs id t inside.1 low high)

-- the id at a place is inside
pub inside_at : (count : ℕ) (cs : List (ℕ × BtfType)) (k : ℕ) (d : ℕ × BtfType) → AreInside count cs → k < length cs → (get_or cs k d).0 < count
inside_at count [] k d inside lt = absurd (omega (arith, lt))
inside_at count (c ∷ cs) zero d inside lt = inside.0.1
inside_at count (c ∷ cs) (suc k) d inside lt = inside_at count cs k d inside.1 (omega (arith, lt))

-- the element at a place, if the rest from there on is the same
pub same_at : {X : Type 0} (xs ys : List X) (k : ℕ) (d e : X) → drop k xs ≡ drop k ys → k < length xs → get_or xs k d ≡ get_or ys k e
same_at xs ys k d e same lt =
    let here : k + 0 ≡ k = omega arith in
    get_or_default xs k d e lt ∙ ap (λ (n : ℕ). get_or xs n e) (sym here) ∙ sym (get_or-drop k xs 0 e) ∙ ap (λ zs. get_or zs 0 e) same ∙ get_or-drop k ys 0 e ∙ ap (λ (n : ℕ). get_or ys n e) here

-- one more type is swapped in
pub put_next : (cs old : List (ℕ × BtfType)) (types before : List BtfType) (k : ℕ) (d e f : ℕ × BtfType) (new : BtfType) → k < length cs → length cs ≡ length old → types ≡ put_all (take k old) before → drop k cs ≡ drop k old
    → new ≡ (get_or cs k d).1 → (set types (get_or cs k e).0 new ≡ put_all (take (k + 1) old) before) × (drop (k + 1) (set cs k f) ≡ drop (k + 1) old)
put_next cs old types before k d e f new lt long put rest is =
    let more : k + 1 ≡ suc k = omega arith in
    let lt_old : k < length old = omega (arith, lt, long) in
    let c : ℕ × BtfType = get_or old k e in
    let all : put_all (take (k + 1) old) before ≡ set (put_all (take k old) before) c.0 c.1 =
    ap (λ (n : ℕ). put_all (take n old) before) more ∙ ap (λ zs. put_all zs before) (take-suc old k e lt_old) ∙ put_append (take k old) (c ∷ []) before in (
      ap (λ (n : ℕ). set types n new) (ap (λ (p : ℕ × BtfType). p.0) (same_at cs old k e e rest lt)) ∙ ap (λ ts. set ts c.0 new) put
          ∙ ap (λ (t : BtfType). set (put_all (take k old) before) c.0 t) (is ∙ ap (λ (p : ℕ × BtfType). p.1) (same_at cs old k d e rest lt)) ∙ sym all,
      drop-set-lt (k + 1) cs k f (omega arith) ∙ sym (drop-drop 1 k cs) ∙ ap (drop 1) rest ∙ drop-drop 1 k old,
    )

-- ---- the whole table

-- the types after the changes are applied
pub changed_each : {X : Type 0} (f : BtfType → X) (cs : List (ℕ × BtfType)) (xs ys : List BtfType) → AreInside (length xs) cs → map f (put_all cs (xs ++ ys)) ≡ put_all (each f cs) (map f xs) ++ map f ys
changed_each f cs xs ys inside =
    map-put f cs (xs ++ ys) ∙ ap (put_all (each f cs)) (map-append f xs ys) ∙ put_front f cs (map f xs) (map f ys) (subst (λ (n : ℕ). AreInside n cs) (sym (length-map xs f)) inside)

module _ (b : Inside) (c : Changes) (strings : Vec ℕ Global) (types : Vec BtfType Global) (kept : IsConsistent b) (of : AreChangesOf (table_of b) c) (added : strings.items ≡ b.strings.items ++ c.new_strings.items)
    (put : types.items ≡ put_all c.types.items (b.types.items ++ c.new_types.items)) where
  abbrev after : Inside
  after = record b { strings = strings; types = types; type_len = c.type_len }

  inside : AreInside (length b.types.items) c.types.items
  inside = subst (λ (n : ℕ). AreInside n c.types.items) (length-map b.types.items record_of) of.ids

  -- the table is the one with the changes
  pub view_changed : table_of after ≡ changed (table_of b) c
  view_changed =
      let t : Table = table_of b in
      ap (λ (xs : List ℕ). record t { strings = xs; records = map record_of types.items; fallbacks = map fallback_of types.items }) added
      ∙ ap (λ (rs : List Record). record t { strings = t.strings ++ c.new_strings.items; records = rs; fallbacks = map fallback_of types.items })
      (ap (map record_of) put ∙ changed_each record_of c.types.items b.types.items c.new_types.items inside)
      ∙ ap (λ (fs : List (Option Fallback)). record (changed t c) { fallbacks = fs }) (ap (map fallback_of) put ∙ changed_each fallback_of c.types.items b.types.items c.new_types.items inside)

  pub consistent_changed : IsConsistent after
  consistent_changed =
      let head : (rest : List Record) × (put_all (each record_of c.types.items) (unknown ∷ kept.first.0) ≡ unknown ∷ rest) = first_stays record_of (length (table_of b).records) c.types.items unknown kept.first.0 of.ids in
      record {
        magic = kept.magic;
        version = kept.version;
        flags = kept.flags;
        limit = of.limit;
        strings = omega (arith, of.strings, ap length added, length-append b.strings.items c.new_strings.items);
        types = of.types ∙ ap (λ (t : Table). length (type_bytes t)) (sym view_changed);
        first = (
          head.0 ++ map record_of c.new_types.items,
          ap (λ (t : Table). t.records) view_changed ∙ ap (λ (rs : List Record). put_all (each record_of c.types.items) rs ++ map record_of c.new_types.items) kept.first.1
              ∙ ap (λ (rs : List Record). rs ++ map record_of c.new_types.items) head.1,
        );
        kinds = subst HaveKinds (sym view_changed) of.kinds;
      }

-- ---- the elements before the changes

pub replaced_append : {X : Type 0} (cs : List (ℕ × X)) (c : ℕ × X) (xs : List X) → before_changes (cs ++ c ∷ []) xs ≡ before_changes cs xs ++ (c.0, get_or (put_all cs xs) c.0 c.1) ∷ []
replaced_append [] c xs = refl
replaced_append (b ∷ cs) c xs = ap (λ ds. (b.0, get_or xs b.0 b.1) ∷ ds) (replaced_append cs c (set xs b.0 b.1))

-- the replacements are reverted
pub put_back_all : {X : Type 0} (cs : List (ℕ × X)) (xs : List X) → put_back (before_changes cs xs) (put_all cs xs) ≡ xs
put_back_all [] xs = refl
put_back_all (c ∷ cs) xs = ap (λ ys. set ys c.0 (get_or xs c.0 c.1)) (put_back_all cs (set xs c.0 c.1)) ∙ set-set xs c.0 c.1 (get_or xs c.0 c.1) ∙ set-own xs c.0 c.1
  where
    set-set : {X : Type 0} (xs : List X) (i : ℕ) (x y : X) → set (set xs i x) i y ≡ set xs i y
    set-set [] i x y = refl
    set-set (z ∷ xs) zero x y = refl
    set-set (z ∷ xs) (suc i) x y = ap (λ ys. z ∷ ys) (set-set xs i x y)

    set-own : {X : Type 0} (xs : List X) (i : ℕ) (d : X) → set xs i (get_or xs i d) ≡ xs
    set-own [] i d = refl
    set-own (z ∷ xs) zero d = refl
    set-own (z ∷ xs) (suc i) d = ap (λ ys. z ∷ ys) (set-own xs i d)

-- the last one is put back first
pub put_back_last : {X : Type 0} (cs : List (ℕ × X)) (c : ℕ × X) (xs : List X) → put_back (cs ++ c ∷ []) xs ≡ put_back cs (set xs c.0 c.1)
put_back_last [] c xs = refl
put_back_last (b ∷ cs) c xs = ap (λ ys. set ys b.0 b.1) (put_back_last cs c xs)

pub replaced_next : (cs old : List (ℕ × BtfType)) (types before : List BtfType) (k : ℕ) (d e : ℕ × BtfType) (x y : BtfType) → k < length cs → length cs ≡ length old → types ≡ put_all (take k old) before → drop k cs ≡ drop k old
    → take k cs ≡ before_changes (take k old) before → (get_or cs k d).0 < length types → y ≡ get_or types (get_or cs k d).0 x → take (k + 1) (set cs k ((get_or cs k e).0, y)) ≡ before_changes (take (k + 1) old) before
replaced_next cs old types before k d e x y lt long put rest has inside is =
    let more : k + 1 ≡ suc k = omega arith in
    let lt_old : k < length old = omega (arith, lt, long) in
    let c : ℕ × BtfType = get_or old k e in
    let same : (f : ℕ × BtfType) → (get_or cs k f).0 ≡ c.0 = λ f. ap (λ (p : ℕ × BtfType). p.0) (same_at cs old k f e rest lt) in
    let here : c.0 < length types = omega (arith, inside, same d) in
    let value : y ≡ get_or (put_all (take k old) before) c.0 c.1 = is ∙ ap (λ (n : ℕ). get_or types n x) (same d) ∙ get_or_default types c.0 x c.1 here ∙ ap (λ ts. get_or ts c.0 c.1) put in
    take_more_set cs k ((get_or cs k e).0, y) lt ∙ ap (λ zs. zs ++ ((get_or cs k e).0, y) ∷ []) has
    ∙ ap (λ (n : ℕ). before_changes (take k old) before ++ (n, y) ∷ []) (same e) ∙ ap (λ t. before_changes (take k old) before ++ (c.0, t) ∷ []) value
    ∙ sym (ap (λ (n : ℕ). before_changes (take n old) before) more ∙ ap (λ zs. before_changes zs before) (take-suc old k e lt_old) ∙ replaced_append (take k old) c before)

pub inside_replaced : (count : ℕ) (cs : List (ℕ × BtfType)) (xs : List BtfType) → AreInside count cs → AreInside count (before_changes cs xs)
inside_replaced count [] xs within = tt
inside_replaced count (c ∷ cs) xs within = (within.0, inside_replaced count cs (set xs c.0 c.1) within.1)

-- what the function gives for each of the types
map-put_back : {X : Type 0} (f : BtfType → X) (cs : List (ℕ × BtfType)) (ts : List BtfType) → map f (put_back cs ts) ≡ put_back (each f cs) (map f ts)
map-put_back f [] ts = refl
map-put_back f (c ∷ cs) ts = map-set f (put_back cs ts) c.0 c.1 ∙ ap (λ xs. set xs c.0 (f c.1)) (map-put_back f cs ts)

-- the front of a list is unchanged
front_is : {X : Type 0} (xs ys : List X) (n : ℕ) → n ≡ length xs → take n (xs ++ ys) ≡ xs
front_is xs ys n is = ap (λ (m : ℕ). take m (xs ++ ys)) is ∙ take-append_seam xs ys

taken_back : {X : Type 0} (f : BtfType → X) (cs : List (ℕ × BtfType)) (xs ys : List BtfType) (n : ℕ) → n ≡ length xs → take n (put_back (each f (before_changes cs (xs ++ ys))) (map f (put_all cs (xs ++ ys)))) ≡ map f xs
taken_back f cs xs ys n is =
    ap (take n) (sym (map-put_back f (before_changes cs (xs ++ ys)) (put_all cs (xs ++ ys))) ∙ ap (map f) (put_back_all cs (xs ++ ys))) ∙ take-map f n (xs ++ ys) ∙ ap (map f) (front_is xs ys n is)

-- With the replaced elements the changes can be reverted.
pub undoes : (b : Inside) (c : Changes) (strings : Vec ℕ Global) (types : Vec BtfType Global) → IsConsistent b → AreChangesOf (table_of b) c → strings.items ≡ b.strings.items ++ c.new_strings.items → types.items ≡ put_all c.types.items (b.types.items ++ c.new_types.items)
    → (undo : Undo) → undo.types.items ≡ before_changes c.types.items (b.types.items ++ c.new_types.items) → undo.string_len ≡ length b.strings.items → undo.count ≡ length b.types.items → undo.type_len ≡ b.type_len
    → Undoes undo (table_of (record b { strings = strings; types = types; type_len = c.type_len })) (table_of b)
undoes b c strings types kept of added put undo old string_len count type_len =
    let t : Table = table_of b in
    let all : List BtfType = b.types.items ++ c.new_types.items in
    record {
      table =
          ap (λ (xs : List ℕ). record t { strings = xs; records = take undo.count (put_back (each record_of undo.types.items) (map record_of types.items)); fallbacks = take undo.count (put_back (each fallback_of undo.types.items) (map fallback_of types.items)) })
          (ap (take undo.string_len) added ∙ front_is b.strings.items c.new_strings.items undo.string_len string_len)
          ∙ ap (λ (rs : List Record). record t { records = rs; fallbacks = take undo.count (put_back (each fallback_of undo.types.items) (map fallback_of types.items)) })
          (ap (λ ds. take undo.count (put_back (each record_of ds) (map record_of types.items))) old ∙ ap (λ ts. take undo.count (put_back (each record_of (before_changes c.types.items all)) (map record_of ts))) put
          ∙ taken_back record_of c.types.items b.types.items c.new_types.items undo.count count)
          ∙ ap (λ (fs : List (Option Fallback)). record t { fallbacks = fs })
          (ap (λ ds. take undo.count (put_back (each fallback_of ds) (map fallback_of types.items))) old ∙ ap (λ ts. take undo.count (put_back (each fallback_of (before_changes c.types.items all)) (map fallback_of ts))) put
          ∙ taken_back fallback_of c.types.items b.types.items c.new_types.items undo.count count);
      ids = subst (AreInside (length (map record_of types.items))) (sym old)
          (inside_replaced (length (map record_of types.items)) c.types.items all (inside_more (length t.records) (length (map record_of types.items)) c.types.items
          (omega (arith, length-map types.items record_of, ap length put, length-put c.types.items all, length-append b.types.items c.new_types.items, length-map b.types.items record_of)) of.ids));
      strings = kept.strings;
      limit = omega (arith, kept.limit, type_len);
      types = type_len ∙ kept.types;
      first = kept.first;
      kinds = kept.kinds;
    }

-- ---- reverting

-- the table is the old one, and has its invariant
pub view_undone : (b : Inside) (undo : Undo) (old : Table) (strings : Vec ℕ Global) (types : Vec BtfType Global) → Undoes undo (table_of b) old → strings.items ≡ take undo.string_len b.strings.items → types.items ≡ take undo.count (put_back undo.types.items b.types.items)
    → table_of (record b { strings = strings; types = types; type_len = undo.type_len }) ≡ old
view_undone b undo old strings types undoes cut put =
    let t : Table = table_of b in
    ap (λ (xs : List ℕ). record t { strings = xs; records = map record_of types.items; fallbacks = map fallback_of types.items }) cut
    ∙ ap (λ (rs : List Record). record t { strings = take undo.string_len t.strings; records = rs; fallbacks = map fallback_of types.items })
    (ap (map record_of) put ∙ sym (take-map record_of undo.count (put_back undo.types.items b.types.items)) ∙ ap (take undo.count) (map-put_back record_of undo.types.items b.types.items))
    ∙ ap (λ (fs : List (Option Fallback)). record (undone t undo) { fallbacks = fs })
    (ap (map fallback_of) put ∙ sym (take-map fallback_of undo.count (put_back undo.types.items b.types.items)) ∙ ap (take undo.count) (map-put_back fallback_of undo.types.items b.types.items))
    ∙ undoes.table

pub consistent_undone : (b : Inside) (undo : Undo) (old : Table) (strings : Vec ℕ Global) (types : Vec BtfType Global) → IsConsistent b → Undoes undo (table_of b) old → strings.items ≡ take undo.string_len b.strings.items → types.items ≡ take undo.count (put_back undo.types.items b.types.items)
    → IsConsistent (record b { strings = strings; types = types; type_len = undo.type_len })
consistent_undone b undo old strings types kept undoes cut put =
    let view = view_undone b undo old strings types undoes cut put in
    record {
      magic = kept.magic;
      version = kept.version;
      flags = kept.flags;
      limit = undoes.limit;
      strings = omega (arith, undoes.strings, ap (λ (t : Table). length t.strings) view);
      types = undoes.types ∙ ap (λ (t : Table). length (type_bytes t)) (sym view);
      first = (undoes.first.0, ap (λ (t : Table). t.records) view ∙ undoes.first.1);
      kinds = subst HaveKinds (sym view) undoes.kinds;
    }

-- one more type is put back
pub back_next : (cs old : List (ℕ × BtfType)) (types all : List BtfType) (k : ℕ) (d e : ℕ × BtfType) (new : BtfType) (v : ℕ × BtfType) → k < length cs → length cs ≡ length old → put_back (take (k + 1) old) types ≡ all → take (k + 1) cs ≡ take (k + 1) old
    → new ≡ (get_or cs k d).1 → (put_back (take k old) (set types (get_or cs k e).0 new) ≡ all) × (take k (set cs k v) ≡ take k old)
back_next cs old types all k d e new v lt long put front is =
    let lt_old : k < length old = omega (arith, lt, long) in
    let below : k < k + 1 = omega arith in
    let c : ℕ × BtfType = get_or old k e in
    let same : (f : ℕ × BtfType) → get_or cs k f ≡ c = λ f. sym (get_or-take (k + 1) cs k f below) ∙ ap (λ zs. get_or zs k f) front ∙ get_or-take (k + 1) old k f below ∙ get_or_default old k f e lt_old in
    let both : take k cs ++ get_or cs k e ∷ [] ≡ take k old ++ c ∷ [] = sym (take_more cs k e lt) ∙ front ∙ take_more old k e lt_old in (
      ap (λ (n : ℕ). put_back (take k old) (set types n new)) (ap (λ (p : ℕ × BtfType). p.0) (same e)) ∙ ap (λ (t : BtfType). put_back (take k old) (set types c.0 t)) (is ∙ ap (λ (p : ℕ × BtfType). p.1) (same d))
          ∙ sym (put_back_last (take k old) c types) ∙ ap (λ zs. put_back zs types) (sym (take_more old k e lt_old)) ∙ put,
      take-set cs k v ∙ sym (front_is (take k cs) (get_or cs k e ∷ []) k (omega (arith, length-take k cs, lt))) ∙ ap (take k) both ∙ front_is (take k old) (c ∷ []) k (omega (arith, length-take k old, lt_old)),
    )
