-- The bytes of an object in which the bytes of a section were replaced: what does not change, and their headers.
use Rattle.std.proofs.Common.{◌≡◌, ◌≢◌, ◌∙◌, ◌⊎◌, ℕ, ◌+◌, ◌-◌, ◌*◌, ◌^◌, ◌<◌, ◌≤◌, true, false, List, [], ◌++◌, length, take, get_or, None, sym, ap, arith, inl, inr, ⊎_elim}
use Rattle.std.specs.Prelude.{nat_lt, ◌==◌, ◌&&◌, not, max, replicate, slice_set, if◌then◌else◌}
use Rattle.std.specs.Int.{w64}
use Rattle.std.proofs.lemmas.Bool.{and_parts, cases_Bool, cond-true, cond-false, cond_both, cases_lt, cases_eq, not-true, ltb-true}
use Rattle.std.proofs.lemmas.List.{ext_get_or, length-set, get_or-set_other, get_or-set_same, length-append, length-replicate, take-replicate, take_all}
use Rattle.std.proofs.Math.Seq.{drop-append_seam}
use Rattle.btf_model.specs.Word.{bytes_of, number_of, word_of}
use Rattle.btf_model.specs.Blob.{slice, word_at}
use Rattle.btf_elf_model.specs.Header.{file_header_len, front, file_header, header_in, order_of, xword_at}
use Rattle.btf_elf_model.specs.Section.{section_header, headers_of, section_count, table_end, headers_in, has_bytes, contents, is_over_headers, sht_strtab, sht_symtab}
use Rattle.btf_elf_model.specs.Object.{object_of, parse_error}
use Rattle.btf_elf_model.specs.Replaced.{is_replaceable, place, fits_in_place, alignment_of, aligned, moved_header, place_in_header, Apart}
use Rattle.btf_elf_model.specs.declared.file_header.FileHeader.{FileHeader}
use Rattle.btf_elf_model.specs.declared.section_header.SectionHeader.{SectionHeader}
use Rattle.btf_elf.specs.Writing.{put}
use Rattle.btf_elf_model.proofs.Errors.{no_errors}
use Rattle.btf_elf_model.proofs.Tests.{not_past, IsClear, not_over, TableFits, table_fits, SectionsFit, sections_fit}
use Rattle.btf_elf.proofs.Writes.{slice-put, slice-put_same, slice-append, slice-slice, length-put}
use Rattle.btf_elf.proofs.Placing.{fits_apart, aligned_above}
use Rattle.btf_elf.proofs.Entries.{length-xword, number_of-bytes_of, slice-first, slice-second, length-headers, header_at}

-- These are new bytes of an object, in which the bytes of the section of an index were replaced.
pub record IsWritten (bytes : List ℕ) (index : ℕ) (s : SectionHeader) (given new : List ℕ) : Type 0 where
  pub no_error : parse_error bytes ≡ None
  pub within : index < length (headers_in bytes)
  pub header : get_or (headers_in bytes) index s ≡ s
  pub replaceable : is_replaceable index s ≡ true
  pub spare : ℕ
  pub room : length bytes + spare ≡ max (length bytes) (place (object_of bytes) index s (length given) + length given)
  pub small : place (object_of bytes) index s (length given) < 2 ^ 64
  pub short : length given < 2 ^ 64
  pub new_is : new ≡ put (place_in_header (object_of bytes) index)
      (bytes_of w64 (file_header bytes).order (place (object_of bytes) index s (length given)) ++ bytes_of w64 (file_header bytes).order (length given))
      (put (place (object_of bytes) index s (length given)) given (bytes ++ replicate spare 0))

pub length-sections : (bytes : List ℕ) → length (headers_in bytes) ≡ section_count (file_header bytes) bytes
unfolding headers_in
length-sections bytes = length-headers (file_header bytes) (section_count (file_header bytes) bytes) bytes

-- ---- the place

module _ (bytes : List ℕ) (index : ℕ) (s : SectionHeader) (given new : List ℕ) (w : IsWritten bytes index s given new) where
  abbrev pub h : FileHeader
  h = file_header bytes

  abbrev pub at : ℕ
  at = place (object_of bytes) index s (length given)

  abbrev pub entry : ℕ
  entry = h.section_headers + file_header_len * index

  -- a replaceable section is not section 0, and has one of the allowed types
  pub is_some : (0 < index) × (has_bytes s ≡ true) × ((s.kind == sht_strtab) ≡ false) × ((s.kind == sht_symtab) ≡ false)
  unfolding is_replaceable
  is_some =
      let d = and_parts (nat_lt 0 index && has_bytes s && not (s.kind == sht_strtab)) (not (s.kind == sht_symtab)) w.replaceable in
      let c = and_parts (nat_lt 0 index && has_bytes s) (not (s.kind == sht_strtab)) d.0 in
      let b = and_parts (nat_lt 0 index) (has_bytes s) c.0 in
      (ltb-true 0 index b.0, b.1, not-true (s.kind == sht_strtab) c.1, not-true (s.kind == sht_symtab) d.1)

  pub count_is : section_count h bytes ≡ length (headers_in bytes)
  count_is = sym (length-sections bytes)

  pub table : TableFits h bytes
  table = table_fits h bytes (no_errors bytes w.no_error).1.1.0 (omega (arith, w.within, count_is))

  pub old_sections : SectionsFit h bytes (headers_in bytes)
  old_sections = sections_fit h bytes (headers_in bytes) (no_errors bytes w.no_error).1.1.1.0

  -- the bytes of the section are not written into the headers
  pub at_clear : IsClear h.section_headers (table_end h bytes) at (length given)
  unfolding place
  at_clear some =
      cond_both (fits_in_place (headers_in bytes) index s (length given)) s.offset (aligned (length bytes) (alignment_of s))
      (λ n. (file_header_len ≤ n) × ((table_end h bytes ≤ n) ⊎ (n + length given ≤ h.section_headers)))
      (λ fit.
      let few = (fits_apart (headers_in bytes) index s (length given) w.within fit).0 in
      let clear = not_over h.section_headers (table_end h bytes) s (ap (is_over_headers h.section_headers (table_end h bytes)) (sym w.header) ∙ old_sections.clear index s w.within) is_some.1 (omega (arith, some, few)) in
      (clear.0, ⊎_elim (λ le. inl le) (λ le. inr (omega (arith, le, few))) clear.1))
      (λ _. let above = aligned_above (length bytes) (alignment_of s) in
      (omega (arith, above, table.behind, table.within), inl (omega (arith, above, table.within))))

  -- they are not written into the bytes of any other section
  pub at_apart : (k : ℕ) (d : SectionHeader) → k ≢ index → k < length (headers_in bytes) → has_bytes (get_or (headers_in bytes) k d) ≡ true
      → Apart (get_or (headers_in bytes) k d).offset (get_or (headers_in bytes) k d).size at (length given)
  unfolding place
  at_apart k d other lt some =
      let t = get_or (headers_in bytes) k d in
      cond_both (fits_in_place (headers_in bytes) index s (length given)) s.offset (aligned (length bytes) (alignment_of s))
      (λ n. Apart t.offset t.size n (length given))
      (λ fit. (fits_apart (headers_in bytes) index s (length given) w.within fit).1 k d other lt some)
      (λ _ _ _. inl (omega (arith, aligned_above (length bytes) (alignment_of s), not_past (length bytes) t (old_sections.within k d lt) some)))

  -- the two words of the header
  abbrev pub words : List ℕ
  words = bytes_of w64 h.order at ++ bytes_of w64 h.order (length given)

  pub length-words : length words ≡ 16
  length-words = omega (arith, length-append (bytes_of w64 h.order at) (bytes_of w64 h.order (length given)), length-xword h.order at, length-xword h.order (length given))

  -- the bytes before the header changes
  abbrev pub base : List ℕ
  base = put at given (bytes ++ replicate w.spare 0)

  length-spare : length (bytes ++ replicate w.spare 0) ≡ length bytes + w.spare
  length-spare = omega (arith, length-append bytes (replicate w.spare 0), length-replicate {A = ℕ} w.spare 0)

  pub length-base : length base ≡ length bytes + w.spare
  length-base = length-put at given (bytes ++ replicate w.spare 0) (omega (arith, length-spare, w.room)) ∙ length-spare

  -- the header of the section is in the table
  pub entry_within : entry + file_header_len ≤ table_end h bytes
  entry_within = omega (arith, w.within, count_is)

  pub length-new : length new ≡ max (length bytes) (at + length given)
  length-new =
      ap length w.new_is
      ∙ length-put (entry + 24) words base (omega (arith, length-words, length-base, entry_within, table.within))
      ∙ length-base ∙ w.room

  -- the other bytes do not change
  pub keeps : (a l : ℕ) → a + l ≤ length bytes → Apart a l (entry + 24) 16 → Apart a l at (length given) → slice a l new ≡ slice a l bytes
  keeps a l within header apart =
      ap (slice a l) w.new_is
      ∙ slice-put a l (entry + 24) words base (λ some _. ⊎_elim (λ le. inl le) (λ le. inr (omega (arith, le, length-words))) (header some (omega arith))) (omega (arith, length-words, length-base, entry_within, table.within))
      ∙ slice-put a l at given (bytes ++ replicate w.spare 0) apart (omega (arith, length-spare, w.room))
      ∙ slice-append a l bytes (replicate w.spare 0) within

  -- the bytes between the end of the old file and the appended bytes are zeros
  pub gap_is : slice (length bytes) (at - length bytes) new ≡ replicate (at - length bytes) 0
  gap_is =
      let n : ℕ = at - length bytes in
      ap (slice (length bytes) n) w.new_is
      ∙ slice-put (length bytes) n (entry + 24) words base (λ _ _. inr (omega (arith, length-words, entry_within, table.within))) (omega (arith, length-words, length-base, entry_within, table.within))
      ∙ slice-put (length bytes) n at given (bytes ++ replicate w.spare 0) (λ some _. inl (omega (arith, some))) (omega (arith, length-spare, w.room))
      ∙ ap (take n) (drop-append_seam bytes (replicate w.spare 0))
      ∙ take-replicate n w.spare 0 (omega (arith, w.room))

  -- a place in the table of section headers is not in the bytes of the section
  table_apart : (a l : ℕ) → h.section_headers ≤ a → a + l ≤ table_end h bytes → Apart a l at (length given)
  table_apart a l from to _ some = ⊎_elim (λ le. inl (omega (arith, le, to))) (λ le. inr (omega (arith, le, from))) (at_clear some).1

  pub front_same : front new ≡ front bytes
  front_same =
      keeps 0 file_header_len (omega (arith, table.behind, table.within))
      (λ _ _. inl (omega (arith, table.behind)))
      (λ _ some. inl (omega (arith, (at_clear some).0)))

  pub header_same : file_header new ≡ h
  unfolding file_header
  header_same = ap (λ (f : List ℕ). header_in (order_of f) f) front_same

  pub count_same : section_count h new ≡ section_count h bytes
  unfolding section_count
  count_same =
      let first : slice h.section_headers file_header_len new ≡ slice h.section_headers file_header_len bytes =
      keeps h.section_headers file_header_len (omega (arith, table.within))
      (λ _ _. inl (omega (arith, is_some.0)))
      (table_apart h.section_headers file_header_len (omega arith) (omega arith)) in
      ap (λ (f : List ℕ). if h.section_headers == 0 then 0 else (if h.section_header_count == 0 then (section_header h.order f).size else h.section_header_count)) first

  pub table_end_same : table_end h new ≡ table_end h bytes
  table_end_same = ap (λ (n : ℕ). h.section_headers + file_header_len * max 1 n) count_same

  -- ---- the section headers

  header_kept : (k : ℕ) → k ≢ index → k < length (headers_in bytes)
      → slice (h.section_headers + file_header_len * k) file_header_len new ≡ slice (h.section_headers + file_header_len * k) file_header_len bytes
  header_kept k other lt =
      keeps (h.section_headers + file_header_len * k) file_header_len (omega (arith, lt, count_is, table.within))
      (λ _ _. ⊎_elim (λ before. inl (omega (arith, before))) (λ behind. inr (omega (arith, behind, other))) (cases_lt k index))
      (table_apart (h.section_headers + file_header_len * k) file_header_len (omega arith) (omega (arith, lt, count_is)))

  -- a part of the section's header outside the two words does not change
  part_kept : (j n : ℕ) → j + n ≤ file_header_len → (j + n ≤ 24) ⊎ (40 ≤ j) → slice j n (slice entry file_header_len new) ≡ slice j n (slice entry file_header_len bytes)
  part_kept j n within beside =
      slice-slice j n entry file_header_len new within
      ∙ keeps (entry + j) n (omega (arith, within, entry_within, table.within))
      (λ _ _. ⊎_elim (λ le. inl (omega (arith, le))) (λ le. inr (omega (arith, le))) beside)
      (table_apart (entry + j) n (omega arith) (omega (arith, within, entry_within)))
      ∙ sym (slice-slice j n entry file_header_len bytes within)

  -- the two words are the written ones
  word_written : (f : ℕ) → f + 8 ≤ 16 → slice (24 + f) 8 (slice entry file_header_len new) ≡ slice f 8 words
  word_written f within =
      let place : entry + (24 + f) ≡ (entry + 24) + f = omega arith in
      slice-slice (24 + f) 8 entry file_header_len new (omega (arith, within))
      ∙ ap (λ (n : ℕ). slice n 8 new) place
      ∙ ap (slice ((entry + 24) + f) 8) w.new_is
      ∙ slice-put_same f 8 (entry + 24) words base (omega (arith, within, length-words)) (omega (arith, length-words, length-base, entry_within, table.within))

  offset_written : xword_at h.order 24 (slice entry file_header_len new) ≡ at
  offset_written =
      ap (number_of w64 h.order) (word_written 0 (omega arith) ∙ slice-first (bytes_of w64 h.order at) (bytes_of w64 h.order (length given)) (length-xword h.order at))
      ∙ number_of-bytes_of h.order at w.small

  size_written : xword_at h.order 32 (slice entry file_header_len new) ≡ length given
  size_written =
      ap (number_of w64 h.order) (word_written 8 (omega arith)
      ∙ slice-second (bytes_of w64 h.order at) (bytes_of w64 h.order (length given)) (length-xword h.order at) (length-xword h.order (length given)))
      ∙ number_of-bytes_of h.order (length given) w.short

  header_was : section_header h.order (slice entry file_header_len bytes) ≡ s
  unfolding headers_in
  header_was = sym (header_at h (section_count h bytes) bytes index s (omega (arith, w.within, count_is))) ∙ w.header

  -- the section's header has another offset and size
  header_moved : section_header h.order (slice entry file_header_len new) ≡ moved_header at (length given) s
  unfolding section_header
  header_moved = fields ∙ ap (moved_header at (length given)) header_was
    where
      word : (j : ℕ) → j + 4 ≤ file_header_len → (j + 4 ≤ 24) ⊎ (40 ≤ j) → word_at h.order j (slice entry file_header_len new) ≡ word_at h.order j (slice entry file_header_len bytes)
      word j within beside = ap (word_of h.order) (part_kept j 4 within beside)

      xword : (j : ℕ) → j + 8 ≤ file_header_len → (j + 8 ≤ 24) ⊎ (40 ≤ j) → xword_at h.order j (slice entry file_header_len new) ≡ xword_at h.order j (slice entry file_header_len bytes)
      xword j within beside = ap (number_of w64 h.order) (part_kept j 8 within beside)

      fields : section_header h.order (slice entry file_header_len new) ≡ moved_header at (length given) (section_header h.order (slice entry file_header_len bytes))
      fields = λ i. record {
        name = word 0 (omega arith) (inl (omega arith)) i;
        kind = word 4 (omega arith) (inl (omega arith)) i;
        flags = xword 8 (omega arith) (inl (omega arith)) i;
        address = xword 16 (omega arith) (inl (omega arith)) i;
        offset = offset_written i;
        size = size_written i;
        link = word 40 (omega arith) (inr (omega arith)) i;
        info = word 44 (omega arith) (inr (omega arith)) i;
        alignment = xword 48 (omega arith) (inr (omega arith)) i;
        entry_size = xword 56 (omega arith) (inr (omega arith)) i;
      }

  -- the section headers of the new bytes
  pub sections_same : headers_in new ≡ slice_set (headers_in bytes) index (moved_header at (length given) s)
  unfolding headers_in
  sections_same =
      headers_new ∙ ext_get_or s (headers_of h (section_count h bytes) new) (slice_set (headers_in bytes) index (moved_header at (length given) s))
      (length-headers h (section_count h bytes) new ∙ count_is ∙ sym (length-set (headers_in bytes) index (moved_header at (length given) s)))
      (λ k lt. each k (omega (arith, lt, length-headers h (section_count h bytes) new, count_is)))
    where
      headers_new : headers_in new ≡ headers_of h (section_count h bytes) new
      headers_new = ap (λ (x : FileHeader). headers_of x (section_count x new) new) header_same ∙ ap (λ (n : ℕ). headers_of h n new) count_same

      at_old : (k : ℕ) → k < length (headers_in bytes) → get_or (headers_in bytes) k s ≡ section_header h.order (slice (h.section_headers + file_header_len * k) file_header_len bytes)
      at_old k lt = header_at h (section_count h bytes) bytes k s (omega (arith, lt, count_is))

      each : (k : ℕ) → k < length (headers_in bytes) → get_or (headers_of h (section_count h bytes) new) k s ≡ get_or (slice_set (headers_in bytes) index (moved_header at (length given) s)) k s
      each k lt =
          header_at h (section_count h bytes) new k s (omega (arith, lt, count_is))
          ∙ ⊎_elim
          (λ same. ap (λ (n : ℕ). section_header h.order (slice (h.section_headers + file_header_len * n) file_header_len new)) same
          ∙ header_moved
          ∙ sym (get_or-set_same (headers_in bytes) index (moved_header at (length given) s) s w.within)
          ∙ ap (λ (n : ℕ). get_or (slice_set (headers_in bytes) index (moved_header at (length given) s)) n s) (sym same))
          (λ other. ap (section_header h.order) (header_kept k other lt)
          ∙ sym (at_old k lt)
          ∙ sym (get_or-set_other (headers_in bytes) index k (moved_header at (length given) s) s other))
          (cases_eq k index)

  -- ---- the bytes of sections

  pub contents_kept : (k : ℕ) (d : SectionHeader) → k ≢ index → k < length (headers_in bytes)
      → contents new (get_or (headers_in bytes) k d) ≡ contents bytes (get_or (headers_in bytes) k d)
  unfolding contents
  contents_kept k d other lt =
      let t = get_or (headers_in bytes) k d in
      ⊎_elim
      (λ some.
      let clear = not_over h.section_headers (table_end h bytes) t (old_sections.clear k d lt) some in
      ap (λ (ys : List ℕ). if has_bytes t then ys else [])
      (keeps t.offset t.size (not_past (length bytes) t (old_sections.within k d lt) some)
      (λ size _. ⊎_elim (λ le. inr (omega (arith, le, entry_within))) (λ le. inl (omega (arith, le))) (clear size).1)
      (at_apart k d other lt some)))
      (λ none. cond-false (has_bytes t) (slice t.offset t.size new) [] none ∙ sym (cond-false (has_bytes t) (slice t.offset t.size bytes) [] none))
      (cases_Bool (has_bytes t))

  pub contents_new : contents new (moved_header at (length given) s) ≡ given
  unfolding contents
  contents_new =
      cond-true (has_bytes s) (slice at (length given) new) [] is_some.1
      ∙ ap (slice at (length given)) w.new_is
      ∙ slice-put at (length given) (entry + 24) words base
      (λ some _. ⊎_elim (λ le. inr (omega (arith, le, entry_within, length-words))) (λ le. inl (omega (arith, le))) (at_clear some).1)
      (omega (arith, length-words, length-base, entry_within, table.within))
      ∙ ap (λ (n : ℕ). slice n (length given) base) place_is
      ∙ slice-put_same 0 (length given) at given (bytes ++ replicate w.spare 0) (omega arith) (omega (arith, length-spare, w.room))
      ∙ take_all (length given) given (omega arith)
    where
      place_is : at ≡ at + 0
      place_is = omega arith
