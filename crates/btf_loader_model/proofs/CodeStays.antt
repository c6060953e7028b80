-- A rewrite of the table changes no section of code.
use Rattle.std.proofs.Common.{◌≡◌, ◌≢◌, ℕ, ◌<◌, List, [], length, Bool, true, false, Option, None, Some, refl, sym, ap, subst, ◌∙◌}
use Rattle.std.specs.Prelude.{position, slice_get, slice_set, unwrap_or, nat_lt, if◌then◌else◌, ◌&&◌}
use Rattle.std.specs.List.{position_or_len}
use Rattle.std.specs.Str.{bytes_eq}
use Rattle.std.proofs.lemmas.Bool.{and_parts}
use Rattle.std.proofs.lemmas.List.{get_or-set_other, length-set}
use Rattle.std.proofs.lemmas.List.Folds.{position_or_len-set}
use Rattle.std.proofs.lemmas.List.Quantifiers.{position-Some}
use Rattle.std.proofs.lemmas.Option.{same_Some, none-some, slice_get_within, slice_get-get_or, get_or_from_slice_get}
use Rattle.std.proofs.lemmas.Slice.Eq.{bytes_eq-Decides}
use Rattle.btf_model.specs.Blob.{canon}
use Rattle.btf_elf_model.specs.Object.{Object, IsObject, section_name}
use Rattle.btf_elf_model.specs.Replaced.{ReplacesSection, moved_header, place}
use Rattle.btf_elf_model.specs.Section.{has_bytes, string_from}
use Rattle.btf_elf_model.specs.declared.section_header.SectionHeader.{SectionHeader}
use Rattle.btf_object_model.specs.Layout.{name_limit}
use Rattle.btf_object_model.specs.Sanitized.{first_section_index, table_name}
use Rattle.btf_loader_model.specs.Loader.{code_index}
use Rattle.btf_loader_model.specs.Prepared.{KeepsCode, RelocatedCodeStays}

-- the first place that passes a test does not change if an element is replaced by one with the same test result
position_stays : {X : Type 0} (p : X → Bool) (xs : List X) (i : ℕ) (x y : X) → slice_get xs i ≡ Some x → p y ≡ p x → position p (slice_set xs i y) ≡ position p xs
position_stays p xs i x y at alike =
    let place : position_or_len p (slice_set xs i y) ≡ position_or_len p xs = position_or_len-set p xs i y x (alike ∙ ap p (sym (get_or_from_slice_get xs i x x at))) in
    let len : length (slice_set xs i y) ≡ length xs = length-set xs i y in
    ap (λ (k : ℕ). if nat_lt k (length (slice_set xs i y)) then Some k else None) place ∙ ap (λ (n : ℕ). if nat_lt (position_or_len p xs) n then Some (position_or_len p xs) else None) len

-- what is found passes the test
passes : {X : Type 0} (p : X → Bool) (xs : List X) (i : ℕ) (x : X) → position p xs ≡ Some i → slice_get xs i ≡ Some x → p x ≡ true
passes p xs i x found at = ap p (sym (get_or_from_slice_get xs i x x at)) ∙ (position-Some p xs i x found).1

-- a section of code that is found has the name, and the name is not too long
abbrev is_code : (o : Object) (name : List ℕ) → SectionHeader → Bool
is_code o name s = has_bytes s && bytes_eq (section_name o s) name

found_position : (b : Bool) (found : Option ℕ) (index : ℕ) → (if b then found else None) ≡ Some index → found ≡ Some index
found_position true found index is = is
found_position false found index is = absurd (none-some index is)

module _ (old : Object) (at : ℕ) (s : SectionHeader) (given : List ℕ) (new : Object) (first : first_section_index old table_name ≡ Some at) (header : slice_get old.sections at ≡ Some s)
    (r : ReplacesSection old at s given new) where
  abbrev changed : SectionHeader
  changed = moved_header (place old at s (length given)) (length given) s

  -- each name is at the same place
  index_stays : (name : List ℕ) → code_index new name ≡ code_index old name
  index_stays name =
      ap (λ (found : Option ℕ). if nat_lt (length name) name_limit then found else None)
      (ap (λ (names : Option (List ℕ)). position (λ (t : SectionHeader). has_bytes t && bytes_eq (string_from (unwrap_or names []) t.name) name) new.sections) r.names
      ∙ ap (position (is_code old name)) r.sections
      ∙ position_stays (is_code old name) old.sections at s changed header refl)

  -- a section of another name has another index
  other_index : (name : List ℕ) (index : ℕ) (t : SectionHeader) → name ≢ table_name → code_index old name ≡ Some index → slice_get old.sections index ≡ Some t → index ≢ at
  other_index name index t other found here same =
      let is : section_name old t ≡ name = (bytes_eq-Decides (section_name old t) name).0 (and_parts (has_bytes t) (bytes_eq (section_name old t) name)
      (passes (is_code old name) old.sections index t (found_position (nat_lt (length name) name_limit) (position (is_code old name) old.sections) index found) here)).1 in
      let table : section_name old s ≡ table_name = (bytes_eq-Decides (section_name old s) table_name).0
      (passes (λ (u : SectionHeader). bytes_eq (section_name old u) table_name) old.sections at s first header) in
      let one : t ≡ s = same_Some t s (sym here ∙ ap (slice_get old.sections) same ∙ header) in
      other (sym is ∙ ap (section_name old) one ∙ table)

  header_stays : (index : ℕ) (t : SectionHeader) → index ≢ at → slice_get old.sections index ≡ Some t → slice_get new.sections index ≡ Some t
  header_stays index t other here =
      let lt : index < length old.sections = slice_get_within old.sections index t here in
      let len : length (slice_set old.sections at changed) ≡ length old.sections = length-set old.sections at changed in
      ap (λ (xs : List SectionHeader). slice_get xs index) r.sections
      ∙ slice_get-get_or (slice_set old.sections at changed) index t (subst (λ (n : ℕ). index < n) (sym len) lt)
      ∙ ap (λ (u : SectionHeader). Some u) (get_or-set_other old.sections at index changed t other ∙ get_or_from_slice_get old.sections index t t here)

  keeps : (name : List ℕ) (index : ℕ) (t : SectionHeader) → name ≢ table_name → code_index old name ≡ Some index → slice_get old.sections index ≡ Some t → KeepsCode old new name index t
  keeps name index t other found here =
      let apart : index ≢ at = other_index name index t other found here in record {
        same_index = index_stays name ∙ found;
        same_header = header_stays index t apart here;
        same_bytes = r.others index t apart here;
      }

pub code_stays : RelocatedCodeStays
code_stays middle file kernel answers z old object =
    let same : z.object ≡ old = z.section.object.object ∙ sym object.object in
    subst (λ (o : Object). (new : Object) × IsObject file new × ((name : List ℕ) (index : ℕ) (s : SectionHeader) → name ≢ table_name → code_index o name ≡ Some index → slice_get o.sections index ≡ Some s → KeepsCode o new name index s)) same
    (z.replaced.0, z.replaced.1, keeps z.object z.index z.header (canon z.new) z.replaced.0 z.section.first z.section.header z.replaced.2)
