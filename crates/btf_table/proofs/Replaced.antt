-- A table in which one type is replaced by a type of the same kind and length.
use Rattle.std.proofs.Common.{◌≡◌, ℕ, zero, suc, ◌+◌, ◌<◌, List, ◌∷◌, length, get_or, set, map, Option, Some, refl, sym, ap, subst, ◌∙◌, arith, Vec, Global}
use Rattle.std.specs.Prelude.{slice_get}
use Rattle.std.specs.List.{sum_by}
use Rattle.std.proofs.lemmas.List.{map-set}
use Rattle.std.proofs.lemmas.List.Sums.{sum_by-set}
use Rattle.std.proofs.lemmas.Option.{same_Some, slice_get_within, get_or_from_slice_get}
use Rattle.btf_model.specs.Record as kinds
use Rattle.btf_model.specs.Record.{Kind, Record, unknown, kind_of}
use Rattle.btf_model.specs.Table.{Table, Fallback, type_bytes}
use Rattle.btf_rewrite_model.specs.Checks.{record_len}
use Rattle.btf_records.specs.BtfType.{record_of, fallback_of, type_kind}
use Rattle.btf_records.specs.declared.btf_type.BtfType.{BtfType}
use Rattle.btf_records.specs.declared.btf_type.BtfType.TheVariants.{Unknown}
use Rattle.btf_table.specs.declared.table.Btf.TheInside.{Inside}
use Rattle.btf_table.specs.Btf.{table_of, IsConsistent, HasShapeOf}
use Rattle.btf_table.proofs.Denials.{kinds_set}
use Rattle.btf_table.proofs.Spelled.{after_len}

-- the only type of this kind
unknown_is : (new : BtfType) → type_kind new ≡ kinds.Unknown → record_of new ≡ unknown
unknown_is new is = elim new as (λ (b : BtfType). type_kind b ≡ kinds.Unknown → record_of b ≡ unknown) [ Unknown ↦ λ _. refl | _ ↦ λ other. cc ] is

-- the first record stays
first_stays : (rs : List Record) (id : ℕ) (old : Record) (new : BtfType) → slice_get (unknown ∷ rs) id ≡ Some old → kind_of (record_of new).info ≡ kind_of old.info → kind_of (record_of new).info ≡ Some (type_kind new)
    → (rest : List Record) × (set (unknown ∷ rs) id (record_of new) ≡ unknown ∷ rest)
first_stays rs zero old new here same kind =
    let is : unknown ≡ old = same_Some unknown old here in
    let none : type_kind new ≡ kinds.Unknown = same_Some (type_kind new) kinds.Unknown (sym kind ∙ same ∙ ap (λ (r : Record). kind_of r.info) (sym is)) in
    (rs, ap (λ (r : Record). r ∷ rs) (unknown_is new none))
first_stays rs (suc id) old new here same kind = (set rs id (record_of new), refl)

pub consistent_set : (b : Inside) (types : Vec BtfType Global) (id : ℕ) (new : BtfType) → IsConsistent b → HasShapeOf (table_of b) id (record_of new) → kind_of (record_of new).info ≡ Some (type_kind new) → types.items ≡ set b.types.items id new
    → IsConsistent (record b { types = types })
consistent_set b types id new kept shape kind is =
    let rs : List Record = map record_of b.types.items in
    let records : map record_of types.items ≡ set rs id (record_of new) = ap (map record_of) is ∙ map-set record_of b.types.items id new in
    let head = first_stays kept.first.0 id shape.old new (ap (λ (xs : List Record). slice_get xs id) (sym kept.first.1) ∙ shape.here) shape.kind kind in
    let first : map record_of types.items ≡ unknown ∷ head.0 = records ∙ ap (λ (xs : List Record). set xs id (record_of new)) kept.first.1 ∙ head.1 in
    let old_len : sum_by record_len rs ≡ 12 + length (type_bytes (table_of b)) = after_len b.endianness kept.first.0 rs kept.first.1 in
    let new_len : sum_by record_len (map record_of types.items) ≡ 12 + length (type_bytes (table_of (record b { types = types }))) = after_len b.endianness head.0 (map record_of types.items) first in
    let within : id < length rs = slice_get_within rs id shape.old shape.here in
    let here : get_or rs id unknown ≡ shape.old = get_or_from_slice_get rs id shape.old unknown shape.here in
    let swap : sum_by record_len (set rs id (record_of new)) + record_len (get_or rs id unknown) ≡ sum_by record_len rs + record_len (record_of new) = sum_by-set record_len rs id (record_of new) unknown within in
    record {
      magic = kept.magic;
      version = kept.version;
      flags = kept.flags;
      limit = kept.limit;
      strings = kept.strings;
      types = omega (arith, kept.types, old_len, new_len, swap, ap (sum_by record_len) records, ap record_len here, shape.len);
      first = (head.0, first);
      kinds = subst (λ (xs : List Record). (j : ℕ) (y : Record) → slice_get xs j ≡ Some y → (k : Kind) × (kind_of y.info ≡ Some k)) (sym records) (kinds_set rs id (record_of new) (type_kind new) kept.kinds kind);
    }

-- the table of the changed types is the changed table
pub table_set : (b : Inside) (types : Vec BtfType Global) (id : ℕ) (new : BtfType) → types.items ≡ set b.types.items id new
    → table_of (record b { types = types }) ≡ record (table_of b) { records = set (table_of b).records id (record_of new); fallbacks = set (table_of b).fallbacks id (fallback_of new) }
table_set b types id new is =
    let t : Table = table_of b in
    ap (λ (xs : List BtfType). record t { records = map record_of xs; fallbacks = map fallback_of xs }) is
    ∙ ap (λ (rs : List Record). record t { records = rs; fallbacks = map fallback_of (set b.types.items id new) }) (map-set record_of b.types.items id new)
    ∙ ap (λ (fs : List (Option Fallback)). record t { records = set t.records id (record_of new); fallbacks = fs }) (map-set fallback_of b.types.items id new)
