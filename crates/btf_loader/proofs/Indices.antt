-- The index of each name, while sections are added from the last one to the first.
use Rattle.std.proofs.Common.{◌≡◌, ℕ, ◌+◌, ◌<◌, ◌≤◌, List, ◌∷◌, drop, length, Bool, true, false, cond, Option, None, Some, refl, sym, ap, ◌∙◌, subst, arith}
use Rattle.std.specs.Prelude.{◌&&◌, if◌then◌else◌, position}
use Rattle.std.proofs.Math.Bool.{and-false}
use Rattle.std.proofs.lemmas.Bool.{lt-ltb}
use Rattle.std.proofs.lemmas.Slice.Eq.{bytes_eq-Decides}
use Rattle.std.specs.Borrow.{Bor}
use Rattle.std.specs.BTreeMap.{BTreeMap, Updates}
use Rattle.std.specs.Cmp.Lexicographic.{slice_cmp}
use Rattle.std.specs.List.{position_from}
use Rattle.std.specs.Ordering.{nat_cmp}
use Rattle.std.specs.Str.{bytes_eq}
use Rattle.std.proofs.lemmas.Iterator.Adapters.{position_from-zero}
use Rattle.std.proofs.lemmas.Map.Text.{is_eq-slice_cmp}
use Rattle.btf_elf_model.specs.Object.{Object, section_name}
use Rattle.btf_elf_model.specs.Section.{has_bytes}
use Rattle.btf_elf_model.specs.declared.section_header.SectionHeader.{SectionHeader}
use Rattle.btf_object_model.specs.Layout.{name_limit}
use Rattle.btf_loader.specs.Names.{HasIndices, HasIndicesFrom, name_index_in, is_code}

abbrev pub Named : Type 0
Named = BTreeMap (Bor (List ℕ)) ℕ

-- the search from a section on
from_here : (o : Object) (i : ℕ) (s : SectionHeader) (name : List ℕ) → drop i o.sections ≡ s ∷ drop (i + 1) o.sections
    → position_from (is_code o name) i (drop i o.sections)
    ≡ cond (is_code o name s) (Some i) (position_from (is_code o name) (i + 1) (drop (i + 1) o.sections))
from_here o i s name here = ap (position_from (is_code o name) i) here

pub added : (old new : Named) (o : Object) (i : ℕ) (s : SectionHeader) (key : Bor (List ℕ)) → drop i o.sections ≡ s ∷ drop (i + 1) o.sections
    → has_bytes s ≡ true → key.now ≡ section_name o s
    → Updates (λ (x y : Bor (List ℕ)). slice_cmp nat_cmp x.now y.now) old new key (Some i)
    → HasIndicesFrom old o (i + 1) → HasIndicesFrom new o i
added old new o i s key here some is updates before name short =
    updates.0 name
    ∙ ap (λ (b : Bool). cond b (Some i) (name_index_in old name)) (is_eq-slice_cmp key.now name.now ∙ ap (λ (k : List ℕ). bytes_eq k name.now) is)
    ∙ ap (λ (rest : Option ℕ). cond (bytes_eq (section_name o s) name.now) (Some i) rest) (before name short)
    ∙ sym (ap (λ (b : Bool). cond (b && bytes_eq (section_name o s) name.now) (Some i) (position_from (is_code o name.now) (i + 1) (drop (i + 1) o.sections))) some)
    ∙ sym (from_here o i s name.now here)

-- a section that has no such name is left out
pub left_out : (named : Named) (o : Object) (i : ℕ) (s : SectionHeader) → drop i o.sections ≡ s ∷ drop (i + 1) o.sections → ((name : List ℕ) → length name < name_limit → is_code o name s ≡ false)
    → HasIndicesFrom named o (i + 1) → HasIndicesFrom named o i
left_out named o i s here none before name short =
    before name short
    ∙ sym (ap (λ (b : Bool). cond b (Some i) (position_from (is_code o name.now) (i + 1) (drop (i + 1) o.sections))) (none name.now short))
    ∙ sym (from_here o i s name.now here)

-- the file has no bytes of a section
pub no_bytes : (named : Named) (o : Object) (i : ℕ) (s : SectionHeader) → drop i o.sections ≡ s ∷ drop (i + 1) o.sections → has_bytes s ≡ false
    → HasIndicesFrom named o (i + 1) → HasIndicesFrom named o i
no_bytes named o i s here none = left_out named o i s here (λ name short. ap (λ (b : Bool). b && bytes_eq (section_name o s) name) none)

-- the name of a section is too long
pub long_name : (named : Named) (o : Object) (i : ℕ) (s : SectionHeader) → drop i o.sections ≡ s ∷ drop (i + 1) o.sections → name_limit ≤ length (section_name o s)
    → HasIndicesFrom named o (i + 1) → HasIndicesFrom named o i
long_name named o i s here long =
    left_out named o i s here (λ name short. ap (λ (b : Bool). has_bytes s && b) (other name short) ∙ and-false (has_bytes s))
  where
    other : (name : List ℕ) → length name < name_limit → bytes_eq (section_name o s) name ≡ false
    other name short =
        elim (bytes_eq (section_name o s) name) as (λ (b : Bool). bytes_eq (section_name o s) name ≡ b → b ≡ false)
        [ true ↦ λ is. let same : length (section_name o s) ≡ length name = ap length ((bytes_eq-Decides (section_name o s) name).0 is) in absurd (omega (arith, same, short, long)) | false ↦ λ is. refl ] refl

pub all_named : (named : Named) (o : Object) (i : ℕ) → i ≡ 0 → HasIndicesFrom named o i → HasIndices named o
all_named named o i zero_is before name short =
    subst (λ (k : ℕ). HasIndicesFrom named o k) zero_is before name short ∙ sym (position_from-zero (is_code o name.now) o.sections)
    ∙ sym (ap (λ (b : Bool). if b then position (is_code o name.now) o.sections else None) (lt-ltb (length name.now) name_limit short))
