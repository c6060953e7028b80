-- A `SecInfo` and the iterator `SecInfoIter` in the model's terms, and sections whose names can be read.
use Rattle.std.specs.Prelude.{◌≡◌, ◌≢◌, ℕ, List, [], ◌++◌, Option, Some, None, Result, Ok, Err, MatchOption, drop, length, ◌<◌, ◌≤◌, MatchResult}
use Rattle.btf_model.specs.Ext.{Section, SectionBytes, Named, IsSection, BeginsNoSection, AreNamed, ext_section_bytes, sections_of, cut_refusal, record_words}
use Rattle.btf_model.specs.Refusal.{Refusal}
use Rattle.btf_model.specs.declared.endianness.Endianness.{Endianness}
use Rattle.btf_plain.specs.declared.error.BtfError.{BtfError}
use Rattle.btf_plain.specs.Error.{refusal_of}
use Rattle.btf_ext.specs.declared.sections.SecInfo.{SecInfo}
use Rattle.std.specs.Borrow.{Bor}
use Rattle.btf_model.specs.Blob.{word_at}

-- a section of the code, in the model's terms
abbrev pub section_of : SecInfo → Section
section_of s = record { name = s.name_offset; count = s.num_info; bytes = s.bytes.now }

-- The next item of the iterator: none if no byte is left; the first section, after which the bytes after it are left;
-- or the error if the bytes begin with no section, after which no byte is left.
abbrev pub GivesSection : SectionBytes → Option (Result SecInfo BtfError) → SectionBytes → Type 0
GivesSection before None after = (before.bytes ≡ []) × (after ≡ before)
GivesSection before (Some (Ok s)) after =
    IsSection before.size (section_of s)
    × (before ≡ record after { bytes = ext_section_bytes before.order (section_of s) ++ after.bytes })
GivesSection before (Some (Err e)) after =
    (before.bytes ≢ []) × BeginsNoSection before.order before.size before.bytes
    × (refusal_of e ≡ Some (cut_refusal before.order before.size before.bytes))
    × (after ≡ record before { bytes = [] })

-- The result of reading the sections of a part and checking that each name can be read: the sections, without their
-- names, or the error.
abbrev pub ReadsSections : Endianness → ℕ → List ℕ → List ℕ → Result (List Section) Refusal → Type 0
ReadsSections order size strings bytes (Ok sections) =
    (named : List Named) × (sections_of named ≡ sections) × AreNamed order size strings bytes (Ok named)
ReadsSections order size strings bytes (Err refusal) = AreNamed order size strings bytes (Err refusal)

-- The result is the two words before the records of a section and the bytes after them; None if there are fewer
-- bytes.
abbrev pub SplitsHead : List ℕ → Endianness → Option (ℕ × ℕ × Bor (List ℕ)) → Type 0
SplitsHead bytes endianness result =
    MatchOption result (length bytes < 8) (λ x. (8 ≤ length bytes) × (x.0 ≡ word_at endianness 0 bytes)
    × (x.1 ≡ word_at endianness 4 bytes) × (x.2.now ≡ drop 4 (drop 4 bytes)))

-- The result is the section that bytes begin with and the bytes after it, or why they begin with none.
abbrev pub SplitsSection : List ℕ → ℕ → Endianness → Result (SecInfo × Bor (List ℕ)) BtfError → Type 0
SplitsSection bytes rec_size endianness result =
    MatchResult result (λ x. IsSection rec_size (section_of x.0)
    × (bytes ≡ ext_section_bytes endianness (section_of x.0) ++ x.1.now))
    (λ e. BeginsNoSection endianness rec_size bytes
    × (refusal_of e ≡ Some (cut_refusal endianness rec_size bytes)))

-- the first words of each record of a section, by the size of a record and the number of words
abbrev pub section_words : Endianness → ℕ → ℕ → SecInfo → List (List ℕ)
section_words order size width s = record_words order size width s.num_info s.bytes.now
