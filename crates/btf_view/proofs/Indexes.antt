-- What indexing returns, by the header and the two sections.
use Rattle.std.proofs.Common.{◌≡◌, ℕ, ◌+◌, ◌<◌, ◌≤◌, List, ◌∷◌, length, take, Ok, Err, refl, sym, ap, subst, ◌∙◌, arith}
use Rattle.std.proofs.lemmas.List.{length-take}
use Rattle.btf_model.specs.declared.endianness.Endianness.{Endianness}
use Rattle.btf_model.specs.Record.{Record, unknown}
use Rattle.btf_model.specs.Refusal as refusals
use Rattle.btf_model.specs.Table.{Table, no_fallbacks}
use Rattle.btf_model.specs.Blob as blob
use Rattle.btf_model.specs.Blob.{header_len, header_of, slice, strings_end, types_end}
use Rattle.btf_plain.specs.declared.error.BtfError.{BtfError}
use Rattle.btf_plain.specs.declared.error.BtfError.TheVariants.{InvalidHeader, InvalidTypeInfo}
use Rattle.btf_view.proofs.Places.{as_many_places}
use Rattle.btf_table.specs.Header.{model_header}
use Rattle.btf_view.specs.Places.{ArePlaces}
use Rattle.btf_view.specs.Index.{FillsPlaces, IndexesBlob, IsIndexed}
use Rattle.btf_table.specs.declared.table.header.Header.{Header}
use Rattle.btf_view.specs.declared.indexing.Unindexed.{Unindexed}
use Rattle.btf_view.specs.declared.indexing.Unindexed.TheVariants.{Refused, TooFewPlaces}

-- the first 24 bytes are this header
pub record HasHeader (order : Endianness) (bytes : List ℕ) (h : Header) : Type 0 where
  pub long : header_len ≤ length bytes
  pub is : model_header h ≡ header_of order bytes

-- a truncated header
pub no_header : (order : Endianness) (bytes places : List ℕ) (e : BtfError) → length bytes < header_len → e ≡ InvalidHeader → IndexesBlob order bytes places (Err (Refused e))
no_header order bytes places e lt is =
    subst (λ (x : BtfError). IndexesBlob order bytes places (Err (Refused x))) (sym is) (
      refusals.InvalidHeader,
      refl,
      record {
        header = λ _. refl;
        strings = λ le _. absurd (omega (arith, le, lt));
        types = λ le _ _. absurd (omega (arith, le, lt));
        record_at = λ le _ _. absurd (omega (arith, le, lt));
      },
    )

-- a string section that does not fit
pub no_strings : (order : Endianness) (bytes places : List ℕ) (h : Header) → HasHeader order bytes h → length bytes < h.hdr_len + h.str_off + h.str_len → IndexesBlob order bytes places (Err (Refused InvalidHeader))
no_strings order bytes places h has lt =
    let past : length bytes < strings_end (header_of order bytes) = subst (λ (x : blob.Header). length bytes < strings_end x) has.is lt in (
      refusals.InvalidHeader,
      refl,
      record {
        header = λ _. refl;
        strings = λ _ _. refl;
        types = λ _ le _. absurd (omega (arith, le, past));
        record_at = λ _ le _. absurd (omega (arith, le, past));
      },
    )

-- a type section that does not fit
pub no_types : (order : Endianness) (bytes places : List ℕ) (h : Header) → HasHeader order bytes h → h.hdr_len + h.str_off + h.str_len ≤ length bytes → length bytes < h.hdr_len + h.type_off + h.type_len → IndexesBlob order bytes places (Err (Refused InvalidTypeInfo))
no_types order bytes places h has fits lt =
    let within : strings_end (header_of order bytes) ≤ length bytes = subst (λ (x : blob.Header). strings_end x ≤ length bytes) has.is fits in
    let past : length bytes < types_end (header_of order bytes) = subst (λ (x : blob.Header). length bytes < types_end x) has.is lt in (
      refusals.InvalidTypeInfo,
      refl,
      record {
        header = λ short. absurd (omega (arith, short, has.long));
        strings = λ _ short. absurd (omega (arith, short, within));
        types = λ _ _ _. refl;
        record_at = λ _ _ le. absurd (omega (arith, le, past));
      },
    )

-- the table of the header's values and the records of the type section
abbrev pub table_of : Endianness → List ℕ → Header → List Record → Table
table_of order bytes h rs = record {
  order = order;
  magic = h.magic;
  version = h.version;
  flags = h.flags;
  strings = slice (h.hdr_len + h.str_off) h.str_len bytes;
  records = unknown ∷ rs;
  fallbacks = no_fallbacks (unknown ∷ rs);
}

-- the bytes represent this table
is_table_of : (order : Endianness) (bytes types : List ℕ) (h : Header) (rs : List Record) → HasHeader order bytes h → h.hdr_len + h.str_off + h.str_len ≤ length bytes → h.hdr_len + h.type_off + h.type_len ≤ length bytes → types ≡ slice (h.hdr_len + h.type_off) h.type_len bytes → blob.AreRecords order types rs → blob.IsTable order bytes (table_of order bytes h rs)
is_table_of order bytes types h rs has strings fits is cut =
    let within : strings_end (header_of order bytes) ≤ length bytes = subst (λ (x : blob.Header). strings_end x ≤ length bytes) has.is strings in
    let whole : types_end (header_of order bytes) ≤ length bytes = subst (λ (x : blob.Header). types_end x ≤ length bytes) has.is fits in
    let types-are : types ≡ slice ((header_of order bytes).hdr_len + (header_of order bytes).type_off) (header_of order bytes).type_len bytes = is ∙ ap (λ (x : blob.Header). slice (x.hdr_len + x.type_off) x.type_len bytes) has.is in
    record {
      header_fits = has.long;
      strings_fit = within;
      types_fit = whole;
      same_order = refl;
      magic = ap (λ (x : blob.Header). x.magic) has.is;
      version = ap (λ (x : blob.Header). x.version) has.is;
      flags = ap (λ (x : blob.Header). x.flags) has.is;
      strings = ap (λ (x : blob.Header). slice (x.hdr_len + x.str_off) x.str_len bytes) has.is;
      records = (rs, refl, subst (λ (x : List ℕ). blob.AreRecords order x rs) types-are cut);
      fallbacks = refl;
    }

-- the places of the records, or why there are none
pub no_places : (order : Endianness) (bytes types places : List ℕ) (h : Header) (why : Unindexed) → HasHeader order bytes h → h.hdr_len + h.str_off + h.str_len ≤ length bytes → h.hdr_len + h.type_off + h.type_len ≤ length bytes → types ≡ slice (h.hdr_len + h.type_off) h.type_len bytes → FillsPlaces order types places (Err why) → IndexesBlob order bytes places (Err why)
no_places order bytes types places h (Refused e) has strings fits is filled =
    let within : strings_end (header_of order bytes) ≤ length bytes = subst (λ (x : blob.Header). strings_end x ≤ length bytes) has.is strings in
    let whole : types_end (header_of order bytes) ≤ length bytes = subst (λ (x : blob.Header). types_end x ≤ length bytes) has.is fits in
    let types-are : types ≡ slice ((header_of order bytes).hdr_len + (header_of order bytes).type_off) (header_of order bytes).type_len bytes = is ∙ ap (λ (x : blob.Header). slice (x.hdr_len + x.type_off) x.type_len bytes) has.is in (
      filled.0,
      filled.1,
      record {
        header = λ short. absurd (omega (arith, short, has.long));
        strings = λ _ short. absurd (omega (arith, short, within));
        types = λ _ _ short. absurd (omega (arith, short, whole));
        record_at = λ _ _ _. (filled.2, subst (λ (x : List ℕ). blob.IsRest order x filled.2) types-are filled.3, filled.4, filled.5);
      },
    )
no_places order bytes types places h TooFewPlaces has strings fits is filled =
    (table_of order bytes h filled.0, is_table_of order bytes types h filled.0 has strings fits is filled.1, omega (arith, filled.2))

-- the table of the sections
pub indexed : (order : Endianness) (bytes types places : List ℕ) (h : Header) (count : ℕ) → HasHeader order bytes h → h.hdr_len + h.str_off + h.str_len ≤ length bytes → h.hdr_len + h.type_off + h.type_len ≤ length bytes → types ≡ slice (h.hdr_len + h.type_off) h.type_len bytes → FillsPlaces order types places (Ok count) → IsIndexed order bytes places (record { magic = h.magic; version = h.version; flags = h.flags; types_at = h.hdr_len + h.type_off; types_len = h.type_len; strings_at = h.hdr_len + h.str_off; strings_len = h.str_len; count = count })
indexed order bytes types places h count has strings fits is filled = record {
  table = table_of order bytes h filled.0;
  is_table = is_table_of order bytes types h filled.0 has strings fits is filled.1;
  magic = refl;
  version = refl;
  flags = refl;
  types_fit = fits;
  strings_fit = strings;
  strings = refl;
  count = filled.2;
  places_are = record {
    are = subst (λ (x : List ℕ). ArePlaces order x (take count places) (unknown ∷ filled.0)) is filled.4;
    ids = omega (arith, as_many_places order types (take count places) (unknown ∷ filled.0) filled.4, length-take count places, filled.3);
  };
}
