-- The indices of buckets (linear hashing), before and after a bucket is added.
use Rattle.std.proofs.Common.{◌≡◌, ◌≢◌, ℕ, suc, ◌+◌, ◌-◌, ◌*◌, ◌/◌, ◌%◌, ◌^◌, ◌<◌, ◌≤◌, Bool, true, bit_and, inl, inr, sym, ap, subst, ◌∙◌, arith}
use Rattle.std.specs.Prelude.{if◌then◌else◌, ltb, ◌⊎◌}
use Rattle.std.proofs.lemmas.Bool.{cases_lt, cases_eq, lt-ltb, le-ltb, eq-eqb, ne_eqb, eqb-true}
use Rattle.std.proofs.lemmas.Nat.{and_mask, pow_pos}
use Rattle.std.proofs.Math.Nat.{mod-lt, mod-eq_of_lt, add-mod_left, pow-suc}
use Rattle.std.proofs.Math.Pow.{mod-mod-pow}
use Rattle.btf_compare.specs.Buckets.{bucket_of, is_numbered, spread}
use Rattle.btf_compare.specs.PairTable.{capacity, bucket_load}

-- the masked hash, with one bit less if there is no such bucket
abbrev pick : ℕ → ℕ → ℕ → ℕ
pick many wide narrow = if ltb wide many then wide else narrow

pick_wide : (many wide narrow : ℕ) → wide < many → pick many wide narrow ≡ wide
pick_wide many wide narrow lt = ap (λ (b : Bool). if b then wide else narrow) (lt-ltb wide many lt)

pick_narrow : (many wide narrow : ℕ) → many ≤ wide → pick many wide narrow ≡ narrow
pick_narrow many wide narrow le = ap (λ (b : Bool). if b then wide else narrow) (le-ltb wide many le)

le_not : (many w : ℕ) → many ≤ w → w ≢ many → many + 1 ≤ w
le_not many w le not =
    elim (cases_lt many w) [
      | inl lt ↦ omega (arith, lt)
      | inr ge ↦ absurd (not (omega (arith, le, ge)))
    ]

pub lt_not : (many w : ℕ) → w < many + 1 → w ≢ many → w < many
lt_not many w lt not =
    elim (cases_lt w many) [
      | inl less ↦ less
      | inr ge ↦ absurd (not (omega (arith, lt, ge)))
    ]

-- the masks before and after a bucket is added
abbrev pub IsNextMask : ℕ → ℕ → ℕ → Type 0
IsNextMask mask many next = ((many < mask) × (next ≡ mask)) ⊎ ((many ≡ mask) × (next ≡ 2 * mask + 1))

double : (bits : ℕ) → 2 ^ suc bits ≡ 2 * 2 ^ bits
double bits = omega (arith, pow-suc 2 bits)

pub half : (bits mask : ℕ) → mask ≡ 2 ^ suc bits - 1 → mask / 2 ≡ 2 ^ bits - 1
half bits mask ones = omega (arith, ones, double bits, pow_pos bits)

wide_of : (h bits mask : ℕ) → mask ≡ 2 ^ suc bits - 1 → bit_and h mask ≡ h % 2 ^ suc bits
wide_of h bits mask ones = ap (bit_and h) ones ∙ and_mask h (suc bits)

narrow_of : (h bits mask : ℕ) → mask ≡ 2 ^ suc bits - 1 → bit_and h (mask / 2) ≡ h % 2 ^ bits
narrow_of h bits mask ones = ap (bit_and h) (half bits mask ones) ∙ and_mask h bits

fewer : (h bits : ℕ) → h % 2 ^ suc bits % 2 ^ bits ≡ h % 2 ^ bits
fewer h bits = subst (λ (k : ℕ). h % 2 ^ k % 2 ^ bits ≡ h % 2 ^ bits) (omega arith) (mod-mod-pow h 1 bits)

module _ (bits mask many : ℕ) (ones : mask ≡ 2 ^ suc bits - 1) (least : 2 ^ bits ≤ many) (most : many ≤ mask) where
  -- each pair has a bucket
  pub bucket_within : (ids : ℕ × ℕ) → bucket_of mask many ids < many
  bucket_within ids =
      let h = spread ids in
      elim (cases_lt (bit_and h mask) many) [
        | inl lt ↦ subst (λ (i : ℕ). i < many) (sym (pick_wide many (bit_and h mask) (bit_and h (mask / 2)) lt)) lt
        | inr le ↦
            subst (λ (i : ℕ). i < many) (sym (pick_narrow many (bit_and h mask) (bit_and h (mask / 2)) le ∙ narrow_of h bits mask ones)) (omega (arith, least, mod-lt h (pow_pos bits)))
      ]

  -- a pair of the bucket that is added was in the one that is split
  pub split_from : (ids : ℕ × ℕ) → is_numbered mask many ids ≡ true → bucket_of mask many ids + 2 ^ bits ≡ many
  split_from ids numbered =
      let h = spread ids in
      let is : bit_and h mask ≡ many = eqb-true _ _ numbered in
      let far : 2 ^ bits + (many - 2 ^ bits) ≡ many = omega (arith, least) in
      let rest : h % 2 ^ bits ≡ many - 2 ^ bits = sym (fewer h bits) ∙ ap (λ (x : ℕ). x % 2 ^ bits) (sym (wide_of h bits mask ones) ∙ is ∙ sym far)
      ∙ add-mod_left (2 ^ bits) (many - 2 ^ bits) ∙ mod-eq_of_lt (omega (arith, most, ones, double bits, pow_pos bits)) in
      omega (arith, least, rest, narrow_of h bits mask ones, pick_narrow many (bit_and h mask) (bit_and h (mask / 2)) (omega (arith, is)))

  -- the bucket of each other pair does not change
  pub next_bucket : (next : ℕ) → IsNextMask mask many next → (ids : ℕ × ℕ) → bucket_of next (many + 1) ids ≡ (if is_numbered mask many ids then many else bucket_of mask many ids)
  next_bucket next (inl same) ids =
      let w = bit_and (spread ids) mask in
      let n = bit_and (spread ids) (mask / 2) in
      let stays : bucket_of next (many + 1) ids ≡ pick (many + 1) w n = ap (λ (m : ℕ). bucket_of m (many + 1) ids) same.1 in
      stays
      ∙ elim (cases_eq w many) [
        | inl is ↦ pick_wide (many + 1) w n (omega (arith, is)) ∙ is ∙ sym (ap (λ (b : Bool). if b then many else bucket_of mask many ids) (eq-eqb w many is))
        | inr not ↦
            elim (cases_lt w many) [
              | inl lt ↦
                  pick_wide (many + 1) w n (omega (arith, lt)) ∙ sym (pick_wide many w n lt) ∙ sym (ap (λ (b : Bool). if b then many else bucket_of mask many ids) (ne_eqb w many not))
              | inr le ↦
                  pick_narrow (many + 1) w n (le_not many w le not) ∙ sym (pick_narrow many w n le) ∙ sym (ap (λ (b : Bool). if b then many else bucket_of mask many ids) (ne_eqb w many not))
            ]
      ]
  next_bucket next (inr more) ids =
      let h = spread ids in
      let w = bit_and h mask in
      let n = bit_and h (mask / 2) in
      let ones2 : next ≡ 2 ^ suc (suc bits) - 1 = omega (arith, more.1, ones, double bits, double (suc bits), pow_pos bits) in
      let halved : next / 2 ≡ mask = omega (arith, more.1) in
      let below : w < many + 1 = omega (arith, more.0, ones, wide_of h bits mask ones, mod-lt h (pow_pos (suc bits)), pow_pos (suc bits)) in
      let here : pick (many + 1) (bit_and h next) (bit_and h (next / 2)) ≡ w =
      ap (λ (m : ℕ). pick (many + 1) (bit_and h next) (bit_and h m)) halved ∙
      elim (cases_lt (bit_and h next) (many + 1)) [
        | inl lt ↦
            let wider : bit_and h next ≡ h % 2 ^ suc (suc bits) = wide_of h (suc bits) next ones2 in
            let less : h % 2 ^ suc (suc bits) < 2 ^ suc bits = omega (arith, lt, wider, more.0, ones, pow_pos (suc bits)) in
            pick_wide (many + 1) (bit_and h next) w lt ∙ wider ∙ sym (mod-eq_of_lt less) ∙ fewer h (suc bits) ∙ sym (wide_of h bits mask ones)
        | inr le ↦ pick_narrow (many + 1) (bit_and h next) w le
      ] in
      here
      ∙ elim (cases_eq w many) [
        | inl is ↦ is ∙ sym (ap (λ (b : Bool). if b then many else bucket_of mask many ids) (eq-eqb w many is))
        | inr not ↦
            sym (pick_wide many w n (lt_not many w below not)) ∙ sym (ap (λ (b : Bool). if b then many else bucket_of mask many ids) (ne_eqb w many not))
      ]

-- ---- the number of pairs that the buckets take

pub few_buckets : (buckets : ℕ) → buckets ≤ 3 → capacity buckets ≡ 15 + buckets
unfolding capacity
few_buckets buckets le =
    elim (cases_lt buckets 3) [
      | inl lt ↦ ap (λ (few : Bool). if few then 15 + buckets else bucket_load * buckets) (lt-ltb buckets 3 lt)
      | inr ge ↦ ap (λ (few : Bool). if few then 15 + buckets else bucket_load * buckets) (le-ltb buckets 3 ge) ∙ omega (arith, le, ge)
    ]

pub more_buckets : (buckets : ℕ) → 3 ≤ buckets → capacity buckets ≡ bucket_load * buckets
unfolding capacity
more_buckets buckets ge = ap (λ (few : Bool). if few then 15 + buckets else bucket_load * buckets) (le-ltb buckets 3 ge)
