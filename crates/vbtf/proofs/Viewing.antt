-- The outcomes of the calls that read a blob by the places of its records.
use Rattle.std.proofs.Common.{◌≡◌, ◌∙◌, ◌+◌, ◌≤◌, ℕ, List, length, take, Some, Result, Err, sym, subst, inr, arith}
use Rattle.std.specs.Prelude.{slice_get}
use Rattle.std.proofs.lemmas.Option.{same_Some}
use Rattle.btf_model.specs.declared.endianness.Endianness.{Endianness}
use Rattle.btf_model.specs.Record.{Kind, Record, kinds}
use Rattle.btf_model.specs.Blob.{slice}
use Rattle.btf_table.specs.Readable.{IsReadableEnd}
use Rattle.btf_view.specs.Finding.{LooksUp}
use Rattle.btf_view.specs.Index.{IsIndexed}
use Rattle.btf_view.specs.Places.{AreIndexed}
use Rattle.btf_view.specs.declared.finding.Lookup.{Lookup}
use Rattle.btf_view.specs.declared.indexing.Sections.{Sections}
use Rattle.vbtf.specs.Orders.{order_named, order_number}
use Rattle.vbtf.specs.View.{IsView, IsViewOf}
use Rattle.vbtf.specs.declared.view.ViewParts.{ViewParts}
use Rattle.btf_model.specs.Refusal.{Refusal}
use Rattle.btf_plain.specs.Error.{refusal_of}
use Rattle.btf_plain.specs.declared.error.BtfError.{BtfError}
use Rattle.vbtf.specs.Status.{EndsCall, ReportsError}
use Rattle.vbtf.specs.declared.fault.Fault.{Fault}

-- an error that was reported
pub reported : {Y : Type 0} (status : ℕ) (value : Y) (fault : Fault) (e : BtfError) (P : Result Y Refusal → Type 0) → (refusal : Refusal) × (refusal_of e ≡ Some refusal) × P (Err refusal) → ReportsError status fault (refusal_of e) → EndsCall status value fault P
reported status value fault e P given reports = inr (given.0, subst (ReportsError status fault) given.1 reports, given.2)

-- what a view shows in the order that a number names
pub in_order : (order : ℕ) (endianness : Endianness) (types places : List ℕ) (records : List Record) → endianness ≡ order_named order → AreIndexed (order_named order) types places records → AreIndexed endianness types places records
in_order order endianness types places records is h = subst (λ (e : Endianness). AreIndexed e types places records) (sym is) h

-- a result of a search for the name and the kind that C passed
pub looked_up : (seen strings : List ℕ) (records : List Record) (text name : List ℕ) (number : ℕ) (j k : Kind) (x : Lookup) → seen ≡ strings → text ≡ name → slice_get kinds number ≡ Some j → slice_get kinds number ≡ Some k → LooksUp seen records j text x → LooksUp strings records k name x
looked_up seen strings records text name number j k x at same a b looked =
    subst (λ (s : List ℕ). LooksUp s records k name x) at
    (subst (λ (n : List ℕ). LooksUp seen records k n x) same
    (subst (λ (i : Kind). LooksUp seen records i text x) (same_Some j k (sym a ∙ b)) looked))

-- ---- the parts of a view

pub viewed : (order : Endianness) (bytes places : List ℕ) (sections : Sections) (parts : ViewParts) → IsIndexed order bytes places sections → IsViewOf bytes (order_number order) sections parts → IsView order bytes places parts
viewed order bytes places sections parts h v =
    let at : slice parts.types_at parts.types_len bytes ≡ slice sections.types_at sections.types_len bytes = (λ i. slice (v.types_at i) (v.types_len i) bytes) in
    record {
      table = h.table;
      is_table = h.is_table;
      order_is = v.order_is;
      magic = v.magic ∙ h.magic;
      version = v.version ∙ h.version;
      flags = v.flags ∙ h.flags;
      types_fit = omega (arith, v.types_at, v.types_len, h.types_fit);
      strings_fit = omega (arith, v.strings_at, v.strings_len, h.strings_fit);
      strings = (λ i. slice (v.strings_at i) (v.strings_len i) bytes) ∙ h.strings;
      names = subst (λ (s : List ℕ). IsReadableEnd s parts.names_len) h.strings v.names;
      count = omega (arith, v.count, h.count);
      places_are = subst (λ (b : List ℕ). AreIndexed order b (take parts.count places) h.table.records) (sym at)
          (subst (λ (n : ℕ). AreIndexed order (slice sections.types_at sections.types_len bytes) (take n places) h.table.records) (sym v.count) h.places_are);
    }
