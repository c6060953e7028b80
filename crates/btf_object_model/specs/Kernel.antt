-- The first version of Linux with each feature, and the text of a version.
-- Source: the commit of Linux that introduced each feature, and the first release that has it.
use Rattle.std.specs.Prelude.{◌≡◌, ℕ, ◌<◌, ◌^◌, ◌==◌, ◌&&◌, ◌||◌, nat_lt, nat_le, Bool, true, List, [], ◌∷◌, ◌++◌, codes}
use Rattle.std.specs.Str.Parse.{IsNumeral, digits_value}
use Rattle.btf_rewrite_model.specs.declared.feature.BtfFeature.{BtfFeature}
use Rattle.btf_rewrite_model.specs.declared.feature.BtfFeature.TheVariants.{Func, FuncGlobal, DataSec, DataSecZero, Float, DeclTag, TypeTag, Enum64}
use Rattle.btf_object_model.specs.declared.version.Version.{Version}

-- a version, such as 5.0
abbrev pub version : ℕ → ℕ → Version
version major minor = record { major = major; minor = minor }

-- The first release with a feature. The features were introduced by the commits 2667a2626f4d for FUNC and FUNC_PROTO,
-- 51c39bb1d5d1 for global functions, 1dc92851849c for VAR and DATASEC, 13ca51d5eb35 for a DATASEC without entries,
-- b1828f0b0482 for FLOAT, b5ea834dde6b for DECL_TAG, 8c42d2fa4eea for TYPE_TAG, 6089fb325cf7 for ENUM64.
abbrev pub first_with : BtfFeature → Version
first_with Func = version 5 0
first_with FuncGlobal = version 5 6
first_with DataSec = version 5 2
first_with DataSecZero = version 5 12
first_with Float = version 5 13
first_with DeclTag = version 5 16
first_with TypeTag = version 5 17
first_with Enum64 = version 6 0

-- One version is not later than another.
abbrev pub is_up_to : Version → Version → Bool
is_up_to v w = nat_lt v.major w.major || ((v.major == w.major) && nat_le v.minor w.minor)

-- Linux of a version has a feature.
abbrev pub has_by_version : Version → BtfFeature → Bool
has_by_version v f = is_up_to (first_with f) v

-- one or more decimal digits, and their number, which has 32 bits
abbrev pub IsNumber : List ℕ → ℕ → Type 0
IsNumber text n = IsNumeral 10 text × (digits_value 10 text ≡ n) × (n < 2 ^ 32)

-- A text that may follow the numbers of a version: it is empty, or begins with `.`, `-` or `+`.
abbrev pub ends_version : List ℕ → Bool
ends_version [] = true
ends_version (byte ∷ rest) = (byte == 46) || (byte == 45) || (byte == 43)

-- A text is a version: two numbers with a dot between them, as in `5.4`, followed by what `uname -r` prints after them.
abbrev pub IsVersion : List ℕ → Version → Type 0
IsVersion text v =
    (major minor rest : List ℕ) × (text ≡ major ++ codes "." ++ minor ++ rest)
    × IsNumber major v.major × IsNumber minor v.minor × (ends_version rest ≡ true)
