-- Types that are denied in place.
use Rattle.std.proofs.Common.{◌≡◌, ℕ, zero, suc, ◌+◌, ◌<◌, ◌≤◌, List, [], ◌∷◌, ◌++◌, length, get_or, set, take, map, Some, refl, sym, ap, subst, ◌∙◌, arith, Vec, Global}
use Rattle.std.specs.List.{sum_by}
use Rattle.std.proofs.lemmas.List.{length-append, length-set, length-map, map-set, set-append_left, get_or_append_left, get_or-map, take_more}
use Rattle.std.proofs.lemmas.List.Sums.{sum_by-set}
use Rattle.std.proofs.lemmas.Option.{same_Some}
use Rattle.std.proofs.Math.Seq.{set-append_seam, get_or-append_seam, map-set_same}
use Rattle.btf_model.specs.Record.{Kind, Record, unknown, kind_of}
use Rattle.btf_rewrite_model.specs.Checks.{record_len}
use Rattle.btf_records.specs.BtfType.{record_of, fallback_of, type_kind}
use Rattle.btf_records.specs.declared.btf_type.BtfType.{BtfType}
use Rattle.btf_table.specs.InPlace.{denied}
use Rattle.btf_model.specs.Table.{Table, type_bytes}
use Rattle.btf_table.specs.declared.table.Btf.TheInside.{Inside}
use Rattle.btf_table.specs.Btf.{table_of, IsConsistent}
use Rattle.btf_table.specs.Changes.{put_all, each, changed}
use Rattle.btf_table.specs.declared.table.changes.Changes.{Changes}
use Rattle.btf_table.proofs.Put.{length-put}
use Rattle.btf_table.proofs.Spelled.{after_len}
use Rattle.btf_table.specs.Denied.{AllHaveKinds, AreTypeIds, AreDenied, deny_all}

pub length-deny : (ids : List ℕ) (rs : List Record) → length (deny_all ids rs) ≡ length rs
length-deny [] rs = refl
length-deny (id ∷ ids) rs = length-deny ids (set rs id (denied (get_or rs id unknown))) ∙ length-set rs id (denied (get_or rs id unknown))

-- denying ids in order
pub deny_append : (ids more : List ℕ) (rs : List Record) → deny_all (ids ++ more) rs ≡ deny_all more (deny_all ids rs)
deny_append [] more rs = refl
deny_append (id ∷ ids) more rs = deny_append ids more (set rs id (denied (get_or rs id unknown)))

-- records after these ids do not change
pub deny_front : (ids : List ℕ) (xs ys : List Record) → AreTypeIds (length xs) ids → deny_all ids (xs ++ ys) ≡ deny_all ids xs ++ ys
deny_front [] xs ys inside = refl
deny_front (id ∷ ids) xs ys inside =
    let x : Record = denied (get_or xs id unknown) in
    ap (λ y. deny_all ids (set (xs ++ ys) id (denied y))) (get_or_append_left xs ys unknown id inside.0.1) ∙ ap (deny_all ids) (set-append_left xs ys id x inside.0.1)
    ∙ deny_front ids (set xs id x) ys (subst (λ (n : ℕ). AreTypeIds n ids) (sym (length-set xs id x)) inside.1)

-- nor does the record of id 0
pub deny_first : (count : ℕ) (ids : List ℕ) (x : Record) (xs : List Record) → AreTypeIds count ids → (rest : List Record) × (deny_all ids (x ∷ xs) ≡ x ∷ rest)
deny_first count [] x xs inside = (xs, refl)
deny_first count (zero ∷ ids) x xs inside = absurd (omega (arith, inside.0.0))
deny_first count (suc id ∷ ids) x xs inside = deny_first count ids x (set xs id (denied (get_or xs id unknown))) inside.1

-- the last id is denied
pub deny_last : (ids : List ℕ) (xs : List Record) (x : Record) (id : ℕ) → AreTypeIds (length xs) ids → length xs ≡ id → deny_all (ids ++ id ∷ []) (xs ++ x ∷ []) ≡ deny_all ids xs ++ denied x ∷ []
deny_last ids xs x id inside at =
    let front : List Record = deny_all ids xs in
    let here : length front ≡ id = length-deny ids xs ∙ at in
    deny_append ids (id ∷ []) (xs ++ x ∷ []) ∙ ap (deny_all (id ∷ [])) (deny_front ids xs (x ∷ []) inside)
    ∙ ap (λ (n : ℕ). set (front ++ x ∷ []) n (denied (get_or (front ++ x ∷ []) n unknown))) (sym here)
    ∙ ap (λ y. set (front ++ x ∷ []) (length front) (denied y)) (get_or-append_seam front x [] unknown) ∙ set-append_seam front x [] (denied x)

-- more ids are inside
pub ids_more : (count more : ℕ) (ids : List ℕ) → count ≤ more → AreTypeIds count ids → AreTypeIds more ids
ids_more count more [] le inside = tt
ids_more count more (id ∷ ids) le inside = ((inside.0.0, omega (arith, inside.0.1, le)), ids_more count more ids le inside.1)

pub ids_next : (count : ℕ) (ids : List ℕ) (id : ℕ) → AreTypeIds count ids → 0 < id → id < count → AreTypeIds count (ids ++ id ∷ [])
ids_next count [] id inside low lt = ((low, lt), tt)
ids_next count (j ∷ ids) id inside low lt = (inside.0, ids_next count ids id inside.1 low lt)

-- the id at a place
pub id_at : (count : ℕ) (ids : List ℕ) (k d : ℕ) → AreTypeIds count ids → k < length ids → get_or ids k d < count
id_at count [] k d inside lt = absurd (omega (arith, lt))
id_at count (id ∷ ids) zero d inside lt = inside.0.1
id_at count (id ∷ ids) (suc k) d inside lt = id_at count ids k d inside.1 (omega (arith, lt))

-- ---- one type more is denied

pub kinds_set : (rs : List Record) (i : ℕ) (x : Record) (k : Kind) → AllHaveKinds rs → kind_of x.info ≡ Some k → AllHaveKinds (set rs i x)
kinds_set [] i x k have is j y at = have j y at
kinds_set (r ∷ rs) zero x k have is zero y at = (k, ap (λ (z : Record). kind_of z.info) (sym (same_Some x y at)) ∙ is)
kinds_set (r ∷ rs) zero x k have is (suc j) y at = have (suc j) y at
kinds_set (r ∷ rs) (suc i) x k have is zero y at = have zero y at
kinds_set (r ∷ rs) (suc i) x k have is (suc j) y at = kinds_set rs i x k (λ n z there. have (suc n) z there) is j y at

pub one_denied : (ids : List ℕ) (k id : ℕ) (old types : List BtfType) (d new : BtfType) → k < length ids → get_or ids k 0 ≡ id → id < length types → AreDenied (take k ids) old types → record_of new ≡ denied (record_of (get_or types id d))
    → fallback_of new ≡ fallback_of (get_or types id d) → length (record_of new).tail ≡ length (record_of (get_or types id d)).tail → kind_of (record_of new).info ≡ Some (type_kind new) → AreDenied (take (k + 1) ids) old (set types id new)
one_denied ids k id old types d new lt id_is inside before words fallback tail kind =
    let rs : List Record = map record_of types in
    let here : get_or rs id unknown ≡ record_of (get_or types id d) = get_or-map record_of types id d unknown inside in
    let set_is : map record_of (set types id new) ≡ set rs id (record_of new) = map-set record_of types id new in
    let more : take (k + 1) ids ≡ take k ids ++ id ∷ [] = take_more ids k 0 lt ∙ ap (λ n. take k ids ++ n ∷ []) id_is in
    let within : id < length rs = omega (arith, inside, length-map types record_of) in
    record {
      records = set_is ∙ ap (set rs id) (words ∙ ap denied (sym here)) ∙ ap (λ xs. set xs id (denied (get_or xs id unknown))) before.records
          ∙ sym (deny_append (take k ids) (id ∷ []) (map record_of old)) ∙ ap (λ is. deny_all is (map record_of old)) (sym more);
      fallbacks = map-set_same fallback_of types id new d fallback ∙ before.fallbacks;
      len =
          let swap : sum_by record_len (set rs id (record_of new)) + record_len (get_or rs id unknown) ≡ sum_by record_len rs + record_len (record_of new) = sum_by-set record_len rs id (record_of new) unknown within in
          omega (arith, ap (sum_by record_len) set_is, swap, ap record_len here, tail, before.len);
      kinds = λ have. subst AllHaveKinds (sym set_is) (kinds_set rs id (record_of new) (type_kind new) (before.kinds have) kind);
    }

-- A table retains its invariant.
pub consistent_denied : (b : Inside) (types : Vec BtfType Global) (ids : List ℕ) → IsConsistent b → AreTypeIds (length b.types.items) ids → AreDenied ids b.types.items types.items → IsConsistent (record b { types = types })
consistent_denied b types ids kept inside d =
    let rs : List Record = map record_of types.items in
    let head = deny_first (length b.types.items) ids unknown kept.first.0 inside in
    let first : rs ≡ unknown ∷ head.0 = d.records ∙ ap (deny_all ids) kept.first.1 ∙ head.1 in
    let old_len : sum_by record_len (map record_of b.types.items) ≡ 12 + length (type_bytes (table_of b)) = after_len b.endianness kept.first.0 (map record_of b.types.items) kept.first.1 in
    let new_len : sum_by record_len rs ≡ 12 + length (type_bytes (table_of (record b { types = types }))) = after_len b.endianness head.0 rs first in
    record {
      magic = kept.magic;
      version = kept.version;
      flags = kept.flags;
      limit = kept.limit;
      strings = kept.strings;
      types = omega (arith, kept.types, old_len, new_len, d.len);
      first = (head.0, first);
      kinds = d.kinds kept.kinds;
    }

-- the ids of a table are ids of the table with changes
pub ids_changed : (t : Table) (c : Changes) (ids : List ℕ) → AreTypeIds (length t.records) ids → AreTypeIds (length (changed t c).records) ids
ids_changed t c ids inside =
    let front : List Record = put_all (each record_of c.types.items) t.records in
    ids_more (length t.records) (length (changed t c).records) ids (omega (arith, length-append front (map record_of c.new_types.items), length-put (each record_of c.types.items) t.records)) inside
