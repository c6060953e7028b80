-- The part of a name that counts when a type of the target is searched for.
-- Source: libbpf's `bpf_core_essential_name_len` and `str_is_flavor_sep`.
use Rattle.std.specs.Prelude.{ℕ, List, [], ◌∷◌, Bool, true, false, ◌==◌, ◌&&◌, not, if◌then◌else◌}

-- the byte `_`
abbrev pub underscore : ℕ
underscore = 95

-- A flavor begins after the first byte: three underscores between two bytes that are no underscores, as in `a___b`.
abbrev pub separates : List ℕ → Bool
separates (x ∷ a ∷ b ∷ c ∷ y ∷ rest) =
    not (x == underscore) && (a == underscore) && (b == underscore) && (c == underscore) && not (y == underscore)
separates name = false

-- whether a flavor begins somewhere in the name
abbrev pub has_flavor : List ℕ → Bool
has_flavor [] = false
has_flavor (x ∷ name) = if separates (x ∷ name) then true else has_flavor name

-- The essential name: the name without its last flavor, if it has one. Of `task___v2` it is `task`, of `a___b___c` it
-- is `a___b`; `a____b`, `___a` and `a___` have no flavor.
abbrev pub essential : List ℕ → List ℕ
essential [] = []
essential (x ∷ name) = if separates (x ∷ name) && not (has_flavor name) then x ∷ [] else x ∷ essential name
