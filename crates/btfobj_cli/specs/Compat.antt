-- The comparison of the types of a name in two tables.
-- Source: this project's program, which looks types up as relocations of the first table would.
use Rattle.std.specs.Prelude.{◌≡◌, ◌⊎◌, ℕ, Bool, true, false, List, [], ◌∷◌, map, codes, Option, Some, None, Ok, Err}
use Rattle.std.specs.List.{list_all, AllByRecursion}
use Rattle.btf_model.specs.Compat.{Plain}
use Rattle.btf_model.specs.Fields.{Pair}
use Rattle.btf_model.specs.Refusal.{UnknownBtfTypeName}
use Rattle.btf_model.specs.Table.{Table}
use Rattle.btf_model.specs.Text.{FindsName}
use Rattle.btf_compare.specs.Pairs.{id_pair}
use Rattle.btf_plain.specs.Kind.{kind}
use Rattle.btf_plain.specs.declared.kind.BtfKind.{BtfKind}
use Rattle.btf_plain.specs.declared.kind.BtfKind.TheVariants.{Struct, Union, Enum, Enum64, Typedef, Int, Float, Fwd, Func}
use Rattle.btfobj_cli.specs.declared.compatibility.Finding.{Finding}
use Rattle.btfobj_cli.specs.declared.compatibility.Finding.TheVariants.{Compatible, Incompatible, NoLocal, NoTarget}

-- The first type of a kind and a name has this id; or there is none.
abbrev pub FindsOrNone : Table → BtfKind → List ℕ → Option ℕ → Type 0
FindsOrNone t k name (Some id) = FindsName t.strings t.records (kind k) name (Ok id)
FindsOrNone t k name None = FindsName t.strings t.records (kind k) name (Err (UnknownBtfTypeName name))

-- The first of these kinds that has a type of a name, and the id of its first type of the name; or none has one.
abbrev pub FindsFirst : Table → List ℕ → List BtfKind → Option (BtfKind × ℕ) → Type 0
FindsFirst t name [] found = found ≡ None
FindsFirst t name (k ∷ ks) found =
    ((id : ℕ) × FindsOrNone t k name (Some id) × (found ≡ Some (k, id)))
    ⊎ (FindsOrNone t k name None × FindsFirst t name ks found)

-- the kinds in which a name is looked up in the first table, in this order
abbrev pub compared_kinds : List BtfKind
compared_kinds = Struct ∷ Union ∷ Enum ∷ Enum64 ∷ Typedef ∷ Int ∷ Float ∷ Fwd ∷ Func ∷ []

-- the kinds in which the name is then looked up in the second table: the kinds of enumerations count as one
abbrev pub like_kinds : BtfKind → List BtfKind
like_kinds Enum = Enum ∷ Enum64 ∷ []
like_kinds Enum64 = Enum64 ∷ Enum ∷ []
like_kinds k = k ∷ []

-- The finding for the type of an id and for the type of the second table, if there is one.
abbrev pub FindsWith : Table → Table → ℕ → Option (BtfKind × ℕ) → Finding → Type 0
FindsWith local other id None finding = finding ≡ NoTarget
FindsWith local other id (Some found) Compatible =
    (listed : List Pair) × Plain local other [] (id_pair id found.1) (Ok true) listed
FindsWith local other id (Some found) Incompatible =
    (listed : List Pair) × Plain local other [] (id_pair id found.1) (Ok false) listed
FindsWith local other id (Some found) finding = ⊥

-- The finding for the type of the first table, if there is one.
abbrev pub FindsFor : Table → Table → List ℕ → Option (BtfKind × ℕ) → Finding → Type 0
FindsFor local other name None finding = finding ≡ NoLocal
FindsFor local other name (Some found) finding =
    (like : Option (BtfKind × ℕ)) × FindsFirst other name (like_kinds found.0) like
    × FindsWith local other found.1 like finding

-- The finding for a name.
abbrev pub FindsByName : Table → Table → List ℕ → Finding → Type 0
FindsByName local other name finding =
    (found : Option (BtfKind × ℕ)) × FindsFirst local name compared_kinds found
    × FindsFor local other name found finding

-- the text of a finding
abbrev pub finding_text : Finding → List ℕ
finding_text Compatible = codes "compatible"
finding_text Incompatible = codes "not compatible"
finding_text NoLocal = codes "not in the first file"
finding_text NoTarget = codes "not in the second file"

-- whether the types are compatible
abbrev pub is_compatible : Finding → Bool
is_compatible Compatible = true
is_compatible finding = false

-- These are the findings for names, in order, each with its name.
pub record AreFindings (local other : Table) (names : List (List ℕ)) (found : List (List ℕ × Finding)) : Type 0 where
  pub named : map (λ (f : List ℕ × Finding). f.0) found ≡ names
  pub each : AllByRecursion (λ (f : List ℕ × Finding). FindsByName local other f.0 f.1) found

-- whether the types of all names are compatible
abbrev pub are_compatible : List (List ℕ × Finding) → Bool
are_compatible found = list_all (λ (f : List ℕ × Finding). is_compatible f.1) found

-- whether the findings for all names are that the types are compatible
abbrev pub AreCompatible : Table → Table → List (List ℕ) → Bool → Type 0
AreCompatible local other names all =
    (found : List (List ℕ × Finding)) × AreFindings local other names found × (all ≡ are_compatible found)
