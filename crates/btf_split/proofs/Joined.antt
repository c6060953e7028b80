-- A split table after its base.
use Rattle.std.proofs.Common.{◌≡◌, ℕ, ◌≤◌, List, ◌++◌, length, drop, Option, Result, Ok, Err, refl, sym, ap, subst, ◌∙◌, arith, inr}
use Rattle.std.proofs.lemmas.List.{map-append, drop-map}
use Rattle.std.proofs.lemmas.Option.{IfSome_then}
use Rattle.std.proofs.Math.Seq.{drop-append_seam}
use Rattle.btf_model.specs.declared.endianness.Endianness.{Endianness}
use Rattle.btf_model.specs.Refusal.{Refusal}
use Rattle.btf_model.specs.Table.{Table, Fallback, no_fallbacks, type_bytes, section_limit}
use Rattle.btf_model.specs.Blob.{IsTable}
use Rattle.btf_plain.specs.declared.error.BtfError.{BtfError}
use Rattle.btf_plain.specs.Error.{MeetsOrNoMemory, IsOrNoMemory, refusal_of}
use Rattle.btf_table.specs.declared.table.Btf.{Btf}
use Rattle.btf_table.specs.Joined.{Fits, followed, under}
use Rattle.btf_table.proofs.Joining.{same_len}
use Rattle.btf_split_model.specs.Split.{appended, joined, Appends, IsJoined, IsJoinedRefusal, IsTooLong, Joins}
use Rattle.btf_split_model.proofs.Joining.{one_joined, one_refusal, not_both}

-- ---- one result

-- data that is a table over the base is parsed as this table
pub gives_table : (order : Endianness) (base : Table) (split : List ℕ) (r : Result Btf BtfError) → MeetsOrNoMemory (λ b. b) r (Joins order base split) → (t : Table) → IsJoined order base split t → IsOrNoMemory (λ b. b) r (Ok t)
gives_table order base split (Ok b) h t p = ap (λ (x : Table). Ok x) (one_joined order base split b t h p)
gives_table order base split (Err e) h t p = IfSome_then (refusal_of e) h (λ f q. absurd (not_both order base split t f p q))

-- data that is refused is refused for its one reason
pub gives_refusal : (order : Endianness) (base : Table) (split : List ℕ) (r : Result Btf BtfError) → MeetsOrNoMemory (λ b. b) r (Joins order base split) → (f : Refusal) → IsJoinedRefusal order base split f → IsOrNoMemory (λ b. b) r (Err f)
gives_refusal order base split (Ok b) h f p = absurd (not_both order base split b f h p)
gives_refusal order base split (Err e) h f p = IfSome_then (refusal_of e) h (λ g q. ap (λ (x : Refusal). Err x) (one_refusal order base split g f q p))

-- ---- two tables

module _ (order : Endianness) (base own : Table) (bytes : List ℕ) (is : IsTable order bytes own) where
  own_fallbacks : drop 1 own.fallbacks ≡ no_fallbacks (drop 1 own.records)
  own_fallbacks = ap (λ (fs : List (Option Fallback)). drop 1 fs) is.fallbacks ∙ drop-map _ 1 own.records

  joined_whole : followed (under base own) own ≡ joined base own
  joined_whole =
      let both : no_fallbacks base.records ++ drop 1 own.fallbacks ≡ no_fallbacks (base.records ++ drop 1 own.records) = ap (λ (fs : List (Option Fallback)). no_fallbacks base.records ++ fs) own_fallbacks ∙ sym (map-append _ base.records (drop 1 own.records)) in
      λ i. record own { strings = base.strings ++ own.strings; records = base.records ++ drop 1 own.records; fallbacks = both i }

  appended_whole : followed base own ≡ appended base (joined base own)
  appended_whole =
      let more : drop 1 own.fallbacks ≡ no_fallbacks (drop (length base.records) (base.records ++ drop 1 own.records)) = own_fallbacks ∙ ap no_fallbacks (sym (drop-append_seam base.records (drop 1 own.records))) in
      λ i. record base { strings = base.strings ++ own.strings; records = base.records ++ drop 1 own.records; fallbacks = base.fallbacks ++ more i }

  -- the order of the joined table
  types_len : length (type_bytes (followed base own)) ≡ length (type_bytes (joined base own))
  types_len = same_len base.order own.order (drop 1 (base.records ++ drop 1 own.records))

  is_joined : length (base.strings ++ own.strings) ≤ section_limit → length (type_bytes (joined base own)) ≤ section_limit → IsJoined order base bytes (joined base own)
  is_joined strings types = record { own = own; blob = is; whole = refl; strings = strings; types = types }

  too_long : (f : Refusal) → IsTooLong (length (joined base own).strings) (length (type_bytes (joined base own))) f → IsJoinedRefusal order base bytes f
  too_long f h = inr (own, is, h)

  -- a copy of the base, and then the table
  pub joins_tables : (r : Result Btf BtfError) → MeetsOrNoMemory (λ b. b) r (Fits (followed (under base own) own) (λ t. t ≡ followed (under base own) own)) → MeetsOrNoMemory (λ b. b) r (Joins order base bytes)
  joins_tables (Ok b) h =
      subst (λ (t : Table). IsJoined order base bytes t) (sym (h.0 ∙ joined_whole)) (is_joined h.1.strings h.1.types)
  joins_tables (Err e) h = IfSome_then (refusal_of e) h (λ f q. too_long f (record { strings = q.strings; types = q.types }))

  -- the base itself, and then the table
  pub appends_table : (new : Table) (r : Result (Unit {0}) BtfError) → MeetsOrNoMemory (λ u. u) r (Fits (followed base own) (λ _. new ≡ followed base own)) → MeetsOrNoMemory (λ _. new) r (Appends order base bytes)
  appends_table new (Ok _) h =
      (joined base own, is_joined h.1.strings (omega (arith, h.1.types, types_len)), h.0 ∙ appended_whole)
  appends_table new (Err e) h =
      IfSome_then (refusal_of e) h (λ f q. too_long f (record { strings = q.strings; types = λ le. (omega (arith, (q.types le).0, types_len), (q.types le).1) }))
