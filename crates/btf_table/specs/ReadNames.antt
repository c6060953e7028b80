-- Names that a pass has read, and what it has found for them, by their string offsets.
use Rattle.std.specs.Prelude.{◌≡◌, ℕ, Bool, if◌then◌else◌, List, Option, Some, Ok}
use Rattle.std.specs.BTreeMap.{BTreeMap, get}
use Rattle.std.specs.Ordering.{nat_cmp}
use Rattle.btf_model.specs.Text.{text_at}
use Rattle.btf_rewrite_model.specs.Checks.{in_a_word}
use Rattle.btf_rewrite_model.specs.Pass.{Layout, replaced, slash, dot, underscore_byte}
use Rattle.btf_table.specs.Readable.{IsReadableEnd}
use Rattle.btf_table.specs.declared.sanitize.read_names.ReadNames.{ReadNames}

-- Each cached number is the one that `find` gives for the name at its string offset.
abbrev pub AreFound : List ℕ → (List ℕ → Option ℕ) → BTreeMap ℕ ℕ → Type 0
AreFound strings find found =
    (offset n : ℕ) → get nat_cmp found offset ≡ Some n
    → (name : List ℕ) × (text_at strings offset ≡ Ok name) × (in_a_word (find name) ≡ Some n)

-- A DATASEC retains the name at each of these string offsets, on a kernel that has DATASECs (true) or has none (false).
abbrev pub AreUnchanged : List ℕ → BTreeMap ℕ Bool → Type 0
AreUnchanged strings kept =
    (offset : ℕ) (granted : Bool) → get nat_cmp kept offset ≡ Some granted
    → (name : List ℕ) × (text_at strings offset ≡ Ok name)
    × ((if granted then replaced slash dot name else replaced dot underscore_byte name) ≡ name)

-- All cached entries are correct for these strings and this layout.
pub record AreRead (strings : List ℕ) (layout : Layout) (names : ReadNames) : Type 0 where
  pub end : IsReadableEnd strings names.readable_end
  pub kept : AreUnchanged strings names.kept
  pub sizes : AreFound strings layout.sections names.sizes
  pub offsets : AreFound strings layout.symbols names.offsets
