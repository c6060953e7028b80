-- Setting the low bits of an info word.
use Rattle.std.proofs.Common.{◌≡◌, ℕ, ◌+◌, ◌*◌, ◌%◌, ◌^◌, ◌<◌, ◌∙◌, arith, bit_and, bit_or, refl, ◌/◌}
use Rattle.std.proofs.lemmas.Nat.{and_comm, and_mask, and-not, or_shifted}
use Rattle.btf_model.specs.Record.{kind_number, kind_of}
use Rattle.btf_plain.specs.declared.linkage.FuncLinkage.{FuncLinkage}
use Rattle.btf_plain.specs.declared.linkage.FuncLinkage.TheVariants as func
use Rattle.btf_plain.specs.Linkage.{func_linkage_number}
use Rattle.btf_model.specs.Info.{with_vlen}

-- the high half of a word
high_half : (info : ℕ) → info < 2 ^ 32 → bit_and info 4294901760 ≡ info / 2 ^ 16 * 2 ^ 16
high_half info lt =
    let low : bit_and 65535 info ≡ info % 2 ^ 16 = and_comm 65535 info ∙ and_mask info 16 in
    let both : bit_and 4294901760 info + bit_and 65535 info ≡ info = and-not 32 65535 info (omega arith) lt in
    let turned : bit_and info 4294901760 ≡ bit_and 4294901760 info = and_comm info 4294901760 in
    omega (arith, low, both, turned)

-- a new low half
pub new_low_half : (info n : ℕ) → info < 2 ^ 32 → n < 2 ^ 16 → bit_or (bit_and info 4294901760) n ≡ with_vlen info n
new_low_half info n word lt = rw (high_half info word) (or_shifted (info / 2 ^ 16) 16 n lt)

-- the low half does not affect the kind
pub same_kind : (info n : ℕ) → n < 2 ^ 16 → kind_of (with_vlen info n) ≡ kind_of info
same_kind info n lt =
    let same : kind_number (with_vlen info n) ≡ kind_number info = omega (arith, lt) in
    rw same refl

-- a linkage has a small number
pub small_number : (l : FuncLinkage) → func_linkage_number l < 2 ^ 16
small_number func.Static = omega arith
small_number func.Global = omega arith
small_number func.Extern = omega arith
small_number func.Unknown = omega arith
