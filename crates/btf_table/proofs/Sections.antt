-- Reading a type section record by record.
use Rattle.std.proofs.Common.{◌≡◌, ℕ, ◌+◌, ◌*◌, ◌≤◌, List, [], ◌∷◌, ◌++◌, length, drop, Option, None, Result, Ok, Err, refl, sym, ap, subst, ◌∙◌, append_assoc, arith, Vec, Global}
use Rattle.std.specs.Prelude.{◌≢◌, map, IfSome, IsErrAnd}
use Rattle.std.proofs.lemmas.List.{append-nil, map-append, length-append, drop_at}
use Rattle.std.proofs.lemmas.Option.{IfSome_then}
use Rattle.std.proofs.lemmas.Result.{err_from_is_err_and}
use Rattle.btf_model.specs.declared.endianness.Endianness.{Endianness}
use Rattle.btf_model.specs.Record.{Record, unknown}
use Rattle.btf_model.specs.Table.{Fallback, no_fallbacks}
use Rattle.btf_model.specs.Blob.{AreRecords, ReadsFront}
use Rattle.btf_model.proofs.Records.{AreRecords-push, length-spelling}
use Rattle.btf_model.proofs.Blobs.{rest_from_none}
use Rattle.btf_plain.specs.declared.error.BtfError.{BtfError}
use Rattle.btf_plain.specs.Error.{MeetsOrNoMemory, refusal_of}
use Rattle.btf_records.specs.BtfType.{record_of, fallback_of}
use Rattle.btf_records.specs.declared.btf_type.BtfType.{BtfType}
use Rattle.btf_table.specs.Records.{ReadsTypes}

-- the data up to the rest is the spellings of the types so far
pub record CutInto (order : Endianness) (bytes : List ℕ) (types : List BtfType) (rest : List ℕ) : Type 0 where
  pub front : List ℕ
  pub records : List Record
  pub whole : bytes ≡ front ++ rest
  pub types_are : map record_of types ≡ unknown ∷ records
  pub cut : AreRecords order front records
  pub fallbacks : map fallback_of types ≡ no_fallbacks (map record_of types)

-- before the first record
pub cut_begins : (order : Endianness) (bytes : List ℕ) (types : List BtfType) (t : BtfType) → types ≡ t ∷ [] → record_of t ≡ unknown → fallback_of t ≡ None → CutInto order bytes types bytes
cut_begins order bytes types t is r f = record {
  front = [];
  records = [];
  whole = refl;
  types_are = ap (map record_of) is ∙ ap (λ (x : Record). x ∷ []) r;
  cut = refl;
  fallbacks = rw is (ap (λ x. x ∷ []) f);
}

-- the record that is read is within the rest
pub record_within : (order : Endianness) (rest : List ℕ) (r : Record) (size : ℕ) → ReadsFront order rest (Ok r) → size ≡ 12 + 4 * length r.tail → size ≤ length rest
record_within order rest r size p is = omega (arith, ap length p.2, length-append p.0 p.1, length-spelling order p.0 r p.3)

no_fallbacks-push : (rs : List Record) (r : Record) → no_fallbacks (rs ++ r ∷ []) ≡ no_fallbacks rs ++ None ∷ []
no_fallbacks-push rs r = map-append _ rs (r ∷ [])

-- one more record
pub cut_goes_on : (order : Endianness) (bytes : List ℕ) (types more_types : List BtfType) (rest next : List ℕ) (t : BtfType) (size : ℕ) → CutInto order bytes types rest → ReadsFront order rest (Ok (record_of t)) → fallback_of t ≡ None → size ≡ 12 + 4 * length (record_of t).tail → next ≡ drop size rest → more_types ≡ types ++ t ∷ [] → CutInto order bytes more_types next
cut_goes_on order bytes types more_types rest next t size h p f size-is next-is more-is =
    let is : next ≡ p.1 = next-is ∙ ap (drop size) p.2 ∙ drop_at p.0 p.1 size (length-spelling order p.0 (record_of t) p.3 ∙ sym size-is) in
    let mapped : map record_of more_types ≡ unknown ∷ (h.records ++ record_of t ∷ []) = ap (map record_of) more-is ∙ map-append record_of types (t ∷ []) ∙ ap (λ (x : List Record). x ++ record_of t ∷ []) h.types_are in
    record {
      front = h.front ++ p.0;
      records = h.records ++ record_of t ∷ [];
      whole = h.whole ∙ ap (λ (x : List ℕ). h.front ++ x) p.2 ∙ sym (append_assoc h.front p.0 p.1) ∙ ap (λ (x : List ℕ). h.front ++ p.0 ++ x) (sym is);
      types_are = mapped;
      cut = AreRecords-push order h.front p.0 h.records (record_of t) h.cut p.3;
      fallbacks =
          ap (map fallback_of) more-is ∙ map-append fallback_of types (t ∷ []) ∙ ap (λ (x : List (Option Fallback)). x ++ fallback_of t ∷ []) h.fallbacks
          ∙ ap (λ (o : Option Fallback). no_fallbacks (map record_of types) ++ o ∷ []) f ∙ sym (no_fallbacks-push (map record_of types) (record_of t))
          ∙ ap no_fallbacks (sym (map-append record_of types (t ∷ [])) ∙ ap (map record_of) (sym more-is));
    }

-- no record begins the rest
pub cut_ends : (order : Endianness) (bytes : List ℕ) (types : List BtfType) (rest : List ℕ) (e : BtfError) (r : Result (Vec BtfType Global) BtfError) → CutInto order bytes types rest → IfSome (refusal_of e) (λ f. ReadsFront order rest (Err f)) → rest ≢ [] → IsErrAnd r (λ y. y ≡ e) → MeetsOrNoMemory (λ v. v.items) r (ReadsTypes order bytes)
cut_ends order bytes types rest e r h given not_done err =
    let p = err_from_is_err_and r err in
    let none : IfSome (refusal_of e) (λ f. ReadsTypes order bytes (Err f)) =
    IfSome_then (refusal_of e) given (λ f q. (rest, rest_from_none order bytes h.front rest h.records h.whole h.cut q.0, not_done, q.1)) in
    subst (λ (x : Result (Vec BtfType Global) BtfError). MeetsOrNoMemory (λ v. v.items) x (ReadsTypes order bytes)) (sym (p.1 ∙ ap (λ (x : BtfError). Err x) p.2)) none

-- all is read
pub cut_whole : (order : Endianness) (bytes : List ℕ) (types : List BtfType) (rest : List ℕ) → CutInto order bytes types rest → rest ≡ [] → ReadsTypes order bytes (Ok types)
cut_whole order bytes types rest h done =
    let front : h.front ≡ bytes = sym (h.whole ∙ ap (λ (x : List ℕ). h.front ++ x) done ∙ append-nil h.front) in
    (h.records, h.types_are, subst (λ (b : List ℕ). AreRecords order b h.records) front h.cut, h.fallbacks)
