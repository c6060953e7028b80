-- Sections that share a byte, by counts of numbers.
use Rattle.std.proofs.Common.{◌≡◌, ℕ, zero, suc, ◌+◌, ◌<◌, ◌≤◌, Bool, true, false, cond, ◌&&◌, ◌||◌, List, [], ◌∷◌, ◌++◌, length, take, drop, get_or, map, Option, None, Some, refl, sym, ap, ◌∙◌, subst, arith, ⊎_elim, add-one, take_all, drop-cons, append_assoc}
use Rattle.std.specs.Prelude.{nat_lt, filter, count_by, remove, slice_get, min}
use Rattle.std.specs.List.{list_any, sum_by}
use Rattle.std.specs.List.Sorted.{IsPartitionPoint, IsPermutation, IsSorted}
use Rattle.std.specs.Ordering.{nat_cmp}
use Rattle.std.specs.Option.{option_map_or}
use Rattle.std.proofs.lemmas.Bool.{lt-ltb, ltb-true, cases_lt, and_parts}
use Rattle.std.proofs.lemmas.Bool.Decides.{nat_tests}
use Rattle.std.proofs.lemmas.List.Sorted.{sum_by-IsPermutation, IsNonDecreasingBy-from_sort}
use Rattle.std.proofs.lemmas.List.Sums.{sum_by-cons, sum_by-remove, count_by_more_yes, count_by_more_no}
use Rattle.std.proofs.lemmas.List.{drop_all, append-nil}
use Rattle.std.proofs.lemmas.List.Folds.{list_any_none}
use Rattle.std.proofs.lemmas.Option.{slice_get_within, get_or_from_slice_get}
use Rattle.btf_elf_model.proofs.Sound.{within}
use Rattle.btf_elf_model.specs.Object.{Object, IsObject}
use Rattle.btf_elf_model.specs.Replaced.{shares_bytes}
use Rattle.btf_elf_model.specs.Section.{has_bytes}
use Rattle.btf_elf_model.specs.declared.section_header.SectionHeader.{SectionHeader}
use Rattle.btf_loader_model.specs.Refused.{shares_with, shares_place}
use Rattle.btf_loader.specs.Places.{has_byte, start_of, end_of, of_placed, AreSectionNumbers, IsPlace, HasNoPlace, ExtendsNumbers}

-- ---- counts

-- the count of the first elements, of which those before i pass
count_upto : (p : ℕ → Bool) (xs : List ℕ) (i : ℕ) → IsPartitionPoint (λ y. p y ≡ true) (λ y. p y ≡ false) xs i → (n : ℕ) → n ≤ length xs → count_by p (take n xs) ≡ min n i
count_upto p xs i parts zero le = omega arith
count_upto p xs i parts (suc n) le =
    let before : count_by p (take n xs) ≡ min n i = count_upto p xs i parts n (omega (arith, le)) in
    let lt : n < length xs = omega (arith, le) in
    ap (λ (k : ℕ). count_by p (take k xs)) (sym (add-one n)) ∙
    ⊎_elim
    (λ below. count_by_more_yes p xs n 0 lt (parts.0 n 0 (omega arith) below) ∙ omega (arith, before, below))
    (λ above. count_by_more_no p xs n 0 lt (parts.1 n 0 above lt) ∙ omega (arith, before, above))
    (cases_lt n i)

pub partition_counts : (p : ℕ → Bool) (xs : List ℕ) (i : ℕ) → i ≤ length xs → IsPartitionPoint (λ y. p y ≡ true) (λ y. p y ≡ false) xs i → i ≡ count_by p xs
partition_counts p xs i le parts =
    let all : count_by p (take (length xs) xs) ≡ min (length xs) i = count_upto p xs i parts (length xs) (omega arith) in
    let whole : take (length xs) xs ≡ xs = take_all (length xs) xs (omega arith) in
    let m : min (length xs) i ≡ i = omega (arith, le) in
    sym (ap (count_by p) (sym whole) ∙ all ∙ m)

-- a count of numbers of the sections that have a byte
one_placed : (b : Bool) (p : ℕ → Bool) (n : ℕ) (rest : List ℕ) (k : ℕ) → count_by p rest ≡ k → count_by p (cond b (n ∷ rest) rest) ≡ cond (b && p n) 1 0 + k
one_placed false p n rest k is = is ∙ omega arith
one_placed true p n rest k is = sum_by-cons (λ x. cond (p x) 1 0) n rest ∙ ap (λ (j : ℕ). cond (p n) 1 0 + j) is

pub count_placed : (p : ℕ → Bool) (number : SectionHeader → ℕ) (sections : List SectionHeader) → count_by p (of_placed number sections) ≡ count_by (λ s. has_byte s && p (number s)) sections
count_placed p number [] = refl
count_placed p number (s ∷ rest) =
    cond_map (has_byte s) number s (filter has_byte rest) p
    ∙ one_placed (has_byte s) p (number s) (of_placed number rest) (count_by (λ t. has_byte t && p (number t)) rest) (count_placed p number rest)
    ∙ sym (sum_by-cons (λ t. cond (has_byte t && p (number t)) 1 0) s rest)
  where
    cond_map : (b : Bool) (f : SectionHeader → ℕ) (t : SectionHeader) (ts : List SectionHeader) (q : ℕ → Bool) → count_by q (map f (cond b (t ∷ ts) ts)) ≡ count_by q (cond b (f t ∷ map f ts) (map f ts))
    cond_map true f t ts q = refl
    cond_map false f t ts q = refl

pub count_of : (p : ℕ → Bool) (number : SectionHeader → ℕ) (sections : List SectionHeader) (numbers : List ℕ) → AreSectionNumbers number sections numbers → count_by p numbers ≡ count_by (λ s. has_byte s && p (number s)) sections
count_of p number sections numbers are = sum_by-IsPermutation (λ x. cond (p x) 1 0) (of_placed number sections) numbers are.same ∙ count_placed p number sections

-- ---- sections that share bytes

-- A section that begins before the end of a range shares a byte with it, or ends at its start or before it.
one_shares : (b : Bool) (at len offset size : ℕ) → 0 < len
    → cond (b && nat_lt 0 len && nat_lt 0 size && nat_lt at (offset + size) && nat_lt offset (at + len)) 1 0 + cond ((b && nat_lt 0 size) && nat_lt (offset + size) (at + 1)) 1 0
    ≡ cond ((b && nat_lt 0 size) && nat_lt offset (at + len)) 1 0
one_shares false at len offset size some = refl
one_shares true at len offset size some = grind (arith, nat_tests)

shares : (at len : ℕ) (s : SectionHeader) → 0 < len
    → cond (shares_bytes at len s) 1 0 + cond (has_byte s && nat_lt (end_of s) (at + 1)) 1 0 ≡ cond (has_byte s && nat_lt (start_of s) (at + len)) 1 0
unfolding shares_bytes
shares at len s some = one_shares (has_bytes s) at len s.offset s.size some

sums : (f g h : SectionHeader → ℕ) → ((s : SectionHeader) → f s + g s ≡ h s) → (sections : List SectionHeader) → sum_by f sections + sum_by g sections ≡ sum_by h sections
sums f g h each [] = refl
sums f g h each (s ∷ rest) = omega (arith, sum_by-cons f s rest, sum_by-cons g s rest, sum_by-cons h s rest, each s, sums f g h each rest)

-- ---- one of several that pass

any_counts : (f : SectionHeader → Bool) (sections : List SectionHeader) → list_any f sections ≡ nat_lt 0 (count_by f sections)
any_counts f [] = refl
any_counts f (s ∷ rest) =
    either (f s) (list_any f rest) (count_by f rest) (any_counts f rest) ∙ ap (nat_lt 0) (sym (sum_by-cons (λ t. cond (f t) 1 0) s rest))
  where
    either : (b c : Bool) (n : ℕ) → c ≡ nat_lt 0 n → (b || c) ≡ nat_lt 0 (cond b 1 0 + n)
    either true c n is = sym (lt-ltb 0 (1 + n) (omega arith))
    either false c n is = is ∙ ap (nat_lt 0) (omega arith)

other_counts : (f : SectionHeader → Bool) (sections : List SectionHeader) (index : ℕ) (s : SectionHeader) → slice_get sections index ≡ Some s → f s ≡ true
    → list_any f (remove sections index) ≡ nat_lt 1 (count_by f sections)
other_counts f sections index s at is =
    let lt : index < length sections = slice_get_within sections index s at in
    let here : get_or sections index s ≡ s = get_or_from_slice_get sections index s s at in
    let as_number : Bool → ℕ = λ b. cond b 1 0 in
    let one : as_number (f (get_or sections index s)) ≡ as_number true = ap (λ (t : SectionHeader). as_number (f t)) here ∙ ap as_number is in
    let counts : count_by f (remove sections index) + cond (f (get_or sections index s)) 1 0 ≡ count_by f sections = sum_by-remove (λ t. cond (f t) 1 0) sections index s lt in
    any_counts f (remove sections index) ∙ grind (arith, nat_tests, counts, one)

shares_itself : (s : SectionHeader) → has_byte s ≡ true → shares_bytes s.offset s.size s ≡ true
unfolding shares_bytes
shares_itself s is = itself (has_bytes s) s.offset s.size is
  where
    itself : (b : Bool) (at len : ℕ) → (b && nat_lt 0 len) ≡ true → (b && nat_lt 0 len && nat_lt 0 len && nat_lt at (at + len) && nat_lt at (at + len)) ≡ true
    itself false at len is = is
    itself true at len is = grind (arith, nat_tests)

-- A section with a byte shares its place exactly if more sections begin before its end than end at its start or before
-- it, apart from itself.
pub shared_by_counts : (sections : List SectionHeader) (starts ends : List ℕ) (index : ℕ) (s : SectionHeader) → AreSectionNumbers start_of sections starts → AreSectionNumbers end_of sections ends
    → slice_get sections index ≡ Some s → has_byte s ≡ true
    → shares_place sections index ≡ nat_lt (count_by (λ n. nat_lt n (s.offset + 1)) ends + 1) (count_by (λ n. nat_lt n (s.offset + s.size)) starts)
shared_by_counts sections starts ends index s are_starts are_ends at is =
    let size : 0 < s.size = ltb-true 0 s.size (and_parts (has_bytes s) (nat_lt 0 s.size) is).1 in
    let f : SectionHeader → Bool = shares_bytes s.offset s.size in
    let all : count_by f sections + count_by (λ t. has_byte t && nat_lt (end_of t) (s.offset + 1)) sections ≡ count_by (λ t. has_byte t && nat_lt (start_of t) (s.offset + s.size)) sections =
    sums (λ t. cond (f t) 1 0) (λ t. cond (has_byte t && nat_lt (end_of t) (s.offset + 1)) 1 0) (λ t. cond (has_byte t && nat_lt (start_of t) (s.offset + s.size)) 1 0)
    (λ t. shares s.offset s.size t size) sections in
    let starts_are = count_of (λ n. nat_lt n (s.offset + s.size)) start_of sections starts are_starts in
    let ends_are = count_of (λ n. nat_lt n (s.offset + 1)) end_of sections ends are_ends in
    let others = other_counts f sections index s at (shares_itself s is) in
    ap (λ (o : Option SectionHeader). option_map_or (shares_with (remove sections index)) o false) at
    ∙ ap (λ (b : Bool). b && list_any f (remove sections index)) (and_parts (has_bytes s) (nat_lt 0 s.size) is).0
    ∙ others
    ∙ lt_moves (count_by f sections) (count_by (λ n. nat_lt n (s.offset + 1)) ends) (count_by (λ n. nat_lt n (s.offset + s.size)) starts) (ap (λ (k : ℕ). count_by f sections + k) ends_are ∙ all ∙ sym starts_are)
  where
    lt_moves : (a b c : ℕ) → a + b ≡ c → nat_lt 1 a ≡ nat_lt (b + 1) c
    lt_moves a b c is = grind (arith, nat_tests)

-- A section without a byte shares its place with none.
pub not_shared : (sections : List SectionHeader) (index : ℕ) (s : SectionHeader) → slice_get sections index ≡ Some s → has_byte s ≡ false → shares_place sections index ≡ false
unfolding shares_bytes
not_shared sections index s at is =
    ap (λ (o : Option SectionHeader). option_map_or (shares_with (remove sections index)) o false) at
    ∙ none (has_bytes s) (nat_lt 0 s.size) (list_any (shares_bytes s.offset s.size) (remove sections index)) is (λ empty. list_any_none (shares_bytes s.offset s.size) (remove sections index) (λ k d _. empty_range (get_or (remove sections index) k d) empty))
  where
    none : (b c d : Bool) → (b && c) ≡ false → (c ≡ false → d ≡ false) → (b && d) ≡ false
    none false c d is then = refl
    none true c d is then = then is

    in_the_middle : (b c d e f : Bool) → c ≡ false → (b && c && d && e && f) ≡ false
    in_the_middle false c d e f is = refl
    in_the_middle true c d e f is = ap (λ (x : Bool). x && d && e && f) is

    empty_range : (t : SectionHeader) → nat_lt 0 s.size ≡ false → shares_bytes s.offset s.size t ≡ false
    empty_range t empty = in_the_middle (has_bytes t) (nat_lt 0 s.size) (nat_lt 0 t.size) (nat_lt s.offset (t.offset + t.size)) (nat_lt t.offset (s.offset + s.size)) empty

-- ---- the numbers of all sections

pub are_of : (number : SectionHeader → ℕ) (sections : List SectionHeader) (index : ℕ) (items numbers : List ℕ) → length sections ≤ index → items ++ of_placed number (drop index sections) ≡ of_placed number sections
    → IsPermutation items numbers → IsSorted nat_cmp numbers → AreSectionNumbers number sections numbers
are_of number sections index items numbers end all same sorted =
    let none : drop index sections ≡ [] = drop_all index sections end in
    let whole : items ≡ of_placed number sections = sym (append-nil items) ∙ ap (λ (ss : List SectionHeader). items ++ of_placed number ss) (sym none) ∙ all in record {
      rising = IsNonDecreasingBy-from_sort (λ x. x) numbers sorted;
      same = subst (λ (xs : List ℕ). IsPermutation xs numbers) whole same;
    }

-- a section of an object ends in the file
pub ends_in : (bytes : List ℕ) (o : Object) (index : ℕ) (s : SectionHeader) → IsObject bytes o → slice_get o.sections index ≡ Some s → has_byte s ≡ true
    → (s.offset < s.offset + s.size) × (s.offset + s.size ≤ length bytes)
ends_in bytes o index s object at is =
    let parts = and_parts (has_bytes s) (nat_lt 0 s.size) is in
    let some : 0 < s.size = ltb-true 0 s.size parts.1 in
    (omega (arith, some), within bytes o index s object at parts.0)

-- the numbers of the sections from an index on
pub skips : (number : SectionHeader → ℕ) (sections : List SectionHeader) (index : ℕ) → HasNoPlace sections index → of_placed number (drop (index + 1) sections) ≡ of_placed number (drop index sections)
skips number [] index none = ap (map number) (ap (filter has_byte) (drop_all (index + 1) [] (omega arith) ∙ sym (drop_all index [] (omega arith))))
skips number (s ∷ rest) zero none =
    ap (λ (k : ℕ). of_placed number (drop k (s ∷ rest))) (add-one zero)
    ∙ sym (ap (λ (b : Bool). map number (cond b (s ∷ filter has_byte rest) (filter has_byte rest))) (none s refl))
skips number (s ∷ rest) (suc index) none =
    ap (λ (k : ℕ). of_placed number (drop k (s ∷ rest))) (add-one (suc index))
    ∙ ap (λ (k : ℕ). of_placed number (drop k rest)) (sym (add-one index))
    ∙ skips number rest index none

pub takes : (number : SectionHeader → ℕ) (sections : List SectionHeader) (index start end : ℕ) → (p : IsPlace sections index start end)
    → number p.section ∷ of_placed number (drop (index + 1) sections) ≡ of_placed number (drop index sections)
takes number sections index start end p =
    let s : SectionHeader = p.section in
    let lt : index < length sections = slice_get_within sections index s p.here in
    let rest : drop index sections ≡ s ∷ drop (index + 1) sections =
    drop-cons sections index s lt ∙ ap (λ (t : SectionHeader). t ∷ drop (suc index) sections) (get_or_from_slice_get sections index s s p.here) ∙ ap (λ (k : ℕ). s ∷ drop k sections) (sym (add-one index)) in
    sym (ap (of_placed number) rest ∙ ap (λ (b : Bool). map number (cond b (s ∷ filter has_byte (drop (index + 1) sections)) (filter has_byte (drop (index + 1) sections)))) p.placed)

pub extends : (number : SectionHeader → ℕ) (sections : List SectionHeader) (index start end : ℕ) (p : IsPlace sections index start end) (n : ℕ) (old new : List ℕ)
    → new ≡ old ++ n ∷ [] → n ≡ number p.section → ExtendsNumbers number sections index old new
extends number sections index start end p n old new is n_is =
    ap (λ (xs : List ℕ). xs ++ of_placed number (drop (index + 1) sections)) is
    ∙ append_assoc old (n ∷ []) (of_placed number (drop (index + 1) sections))
    ∙ ap (λ (k : ℕ). old ++ k ∷ of_placed number (drop (index + 1) sections)) n_is
    ∙ ap (λ (xs : List ℕ). old ++ xs) (takes number sections index start end p)

pub stays : (number : SectionHeader → ℕ) (sections : List SectionHeader) (index : ℕ) (old : List ℕ) → HasNoPlace sections index → ExtendsNumbers number sections index old old
stays number sections index old none = ap (λ (xs : List ℕ). old ++ xs) (skips number sections index none)

-- the same facts about the section of an index that has a place, or has none
pub shared_by_place : (sections : List SectionHeader) (starts ends : List ℕ) (index start end : ℕ) → AreSectionNumbers start_of sections starts → AreSectionNumbers end_of sections ends → IsPlace sections index start end
    → nat_lt (count_by (λ n. nat_lt n (start + 1)) ends + 1) (count_by (λ n. nat_lt n end) starts) ≡ shares_place sections index
shared_by_place sections starts ends index start end are_starts are_ends p =
    ap (λ (k : ℕ). nat_lt (count_by (λ n. nat_lt n (k + 1)) ends + 1) (count_by (λ n. nat_lt n end) starts)) p.start_is
    ∙ ap (λ (k : ℕ). nat_lt (count_by (λ n. nat_lt n (p.section.offset + 1)) ends + 1) (count_by (λ n. nat_lt n k) starts)) p.end_is
    ∙ sym (shared_by_counts sections starts ends index p.section are_starts are_ends p.here p.placed)

pub shared_by_none : (sections : List SectionHeader) (index : ℕ) → HasNoPlace sections index → shares_place sections index ≡ false
shared_by_none sections index none =
    elim (slice_get sections index) as (λ (o : Option SectionHeader). slice_get sections index ≡ o → shares_place sections index ≡ false) [
      | None ↦ λ is. ap (λ (o : Option SectionHeader). option_map_or (shares_with (remove sections index)) o false) is
      | Some s ↦ λ is. not_shared sections index s is (none s is)
    ] refl
