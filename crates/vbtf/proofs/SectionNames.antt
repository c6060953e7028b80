-- The section names of a map.
use Rattle.std.proofs.Common.{◌≡◌, ◌∙◌, ℕ, Bool, false, ◌||◌, List, [], ◌∷◌, Option, Some, None, refl, sym, ap, length, Global, Result, Ok, Err}
use Rattle.std.specs.Prelude.{map, option_map, is_some, string_bytes}
use Rattle.std.specs.HashMap as hash
use Rattle.std.specs.HashMap.{HashMap, get_by_text}
use Rattle.std.specs.List.{AllByRecursion, IsDistinct, list_any}
use Rattle.std.specs.Set.{is_member}
use Rattle.std.specs.Str.{bytes_eq}
use Rattle.std.specs.String.{string_eq}
use Rattle.std.specs.declared.string.String.{String}
use Rattle.std.proofs.lemmas.List.{length-map}
use Rattle.std.proofs.lemmas.Map.Entries.{length-keys_of}
use Rattle.std.proofs.lemmas.Map.Made.{is_some-lookup}
use Rattle.std.proofs.lemmas.Option.{IfSome_then}
use Rattle.std.proofs.lemmas.Map.Text.{is_text}
use Rattle.btf_model.specs.Refusal.{Refusal}
use Rattle.btf_plain.specs.declared.error.BtfError.{BtfError}
use Rattle.btf_plain.specs.Error.{MeetsOrNoMemory, refusal_of}
use Rattle.vbtf.specs.Ext.{AreNames, CountsNames}
use Rattle.vbtf.specs.ExtRead.{ListsNames}

-- the names, in the order of iteration
abbrev pub names_in : List (String Global) → List (List ℕ)
names_in keys = map string_bytes keys

-- ---- keys as texts

apart : (k : String Global) (ks : List (String Global)) → AllByRecursion (λ y. string_eq k y ≡ false) ks → AllByRecursion (λ y. bytes_eq (string_bytes k) y ≡ false) (names_in ks)
apart k [] all = tt
apart k (y ∷ ks) all = (all.0, apart k ks all.1)

distinct_names : (ks : List (String Global)) → IsDistinct string_eq ks → IsDistinct bytes_eq (names_in ks)
unfolding IsDistinct
distinct_names [] d = tt
distinct_names (k ∷ ks) d = (apart k ks d.0, distinct_names ks d.1)

member_name : (name : List ℕ) (ks : List (String Global)) → is_member bytes_eq (names_in ks) name ≡ list_any (is_text name) ks
member_name name [] = refl
member_name name (k ∷ ks) = ap (λ (b : Bool). bytes_eq name (string_bytes k) || b) (member_name name ks)

-- the keys of a map are the names for which it has something
pub names_are : {X S : Type 0} (m : HashMap (String Global) X S) → hash.IsUnique string_eq m → AreNames (get_by_text m) (names_in (hash.keys m))
names_are m unique = record {
  distinct = distinct_names (hash.keys m) unique;
  each = λ name. member_name name (hash.keys m) ∙ sym (is_some-lookup (is_text name) m.entries);
}

-- ---- the values under the names

is_some_seen : {X Y : Type 0} (f : X → Y) (o : Option X) → is_some (option_map f o) ≡ is_some o
is_some_seen f None = refl
is_some_seen f (Some x) = refl

-- the same names have something if the values are mapped by a function
pub seen_names : {X Y : Type 0} (f : X → Y) (found : List ℕ → Option X) (seen : List ℕ → Option Y) (names : List (List ℕ)) → ((name : List ℕ) → option_map f (found name) ≡ seen name) → AreNames found names → AreNames seen names
seen_names f found seen names is are = record {
  distinct = are.distinct;
  each = λ name. are.each name ∙ sym (is_some_seen f (found name)) ∙ ap is_some (is name);
}

-- the length of a map is the number of its names
pub counted : {X Y S : Type 0} (f : X → Y) (m : HashMap (String Global) X S) (seen : List ℕ → Option Y) (count : ℕ) → ((name : List ℕ) → option_map f (get_by_text m name) ≡ seen name) → hash.IsUnique string_eq m → count ≡ length m.entries → CountsNames seen count
counted f m seen count is unique len =
    let ks = hash.keys m in
    (names_in ks, seen_names f (get_by_text m) seen (names_in ks) is (names_are m unique), len ∙ sym (length-keys_of m.entries) ∙ sym (length-map ks string_bytes))

-- a list of the names of a map is a list of the names of its mapped values
listed_seen : {X Y : Type 0} (f : X → Y) (found : List ℕ → Option X) (seen : List ℕ → Option Y) (answer : Result (List ℕ) Refusal) → ((name : List ℕ) → option_map f (found name) ≡ seen name) → ListsNames found answer → ListsNames seen answer
listed_seen f found seen answer is listed = (listed.0, seen_names f found seen listed.0 is listed.1, listed.2)

pub lists_seen : {X Y Z : Type 0} (view : Z → List ℕ) (f : X → Y) (found : List ℕ → Option X) (seen : List ℕ → Option Y) (r : Result Z BtfError) → ((name : List ℕ) → option_map f (found name) ≡ seen name) → MeetsOrNoMemory view r (ListsNames found) → MeetsOrNoMemory view r (ListsNames seen)
lists_seen view f found seen (Ok z) is listed = listed_seen f found seen (Ok (view z)) is listed
lists_seen view f found seen (Err e) is listed = IfSome_then (refusal_of e) listed (λ refusal l. listed_seen f found seen (Err refusal) is l)
