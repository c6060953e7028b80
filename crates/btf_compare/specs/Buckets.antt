-- The bucket of a pair of ids (linear hashing).
use Rattle.std.specs.Prelude.{ℕ, ◌+◌, ◌-◌, ◌*◌, ◌/◌, ◌%◌, ◌^◌, ◌==◌, Bool, bit_and, ltb, if◌then◌else◌}

-- the target id minus the local id, modulo 2 ^ 32
abbrev pub apart : ℕ × ℕ → ℕ
apart ids = (ids.1 + (2 ^ 32 - ids.0)) % 2 ^ 32

-- The hash of a pair of ids. Up to eight pairs with neighbouring local ids and an equal difference of the two ids have
-- consecutive hashes; a product spreads the first hashes of these groups.
unfoldable pub spread : ℕ × ℕ → ℕ
spread ids = (apart ids * 2 ^ 32 + ids.0 / 8) * 11400714819323198485 % 2 ^ 64 / 2 ^ 32 + ids.0 % 8

-- The index of a pair's bucket; `many` is the number of buckets. It is the masked hash of the pair. If there is no
-- bucket of that index yet, the mask has one bit less.
abbrev pub bucket_of : ℕ → ℕ → ℕ × ℕ → ℕ
bucket_of mask many ids =
    if ltb (bit_and (spread ids) mask) many then bit_and (spread ids) mask else bit_and (spread ids) (mask / 2)

-- whether the masked hash of a pair is this number
abbrev pub is_numbered : ℕ → ℕ → ℕ × ℕ → Bool
is_numbered mask number ids = bit_and (spread ids) mask == number
