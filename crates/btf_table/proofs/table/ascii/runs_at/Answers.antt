use Rattle.std.proofs.Common.{ℕ, List, eqb, leb, cond, map, ◌%◌, ◌^◌, ap, sym, ◌∙◌, w8, arith}
use Rattle.std.proofs.lemmas.Simd.{bitmask_splat, first_set_mask_l, length-chunk, zip2_splat, zip2_splat_left}
use lib.Lanes.{chunk, mask_l, top}
use Rattle.btf_table.specs.Ascii.{lowest_bit}
use Rattle.btf_table.proofs.table.ascii.runs_at.Goals as goal

pub returns-clause-zero : goal.returns-clause-zero
returns-clause-zero c =
    let v = chunk c.args.at 16 c.args.bytes.now in
    let long = length-chunk c.args.at 16 c.args.bytes.now c.requires in
    c.lowest_bit.ensures ∙ ap (λ mask. lowest_bit mask 16) (bitmask_splat w8 eqb v 16 0 long (omega arith)) ∙ first_set_mask_l (λ x. eqb x 0) v 16 long (omega arith)

pub returns-clause-other : goal.returns-clause-other
returns-clause-other c =
    let v = chunk c.args.at 16 c.args.bytes.now in
    let long = length-chunk c.args.at 16 c.args.bytes.now c.requires in
    c.lowest_bit-2.ensures
    ∙ ap (λ (lanes : List ℕ). lowest_bit (mask_l (map (top 7) lanes) % 2 ^ 64) 16) (zip2_splat_left (λ a b. cond (leb a b) 255 0) 128 16 v long ∙ sym (zip2_splat (λ b a. cond (leb a b) 255 0) v 16 128 long))
    ∙ ap (λ mask. lowest_bit mask 16) (bitmask_splat w8 (λ b a. leb a b) v 16 128 long (omega arith)) ∙ first_set_mask_l (leb 128) v 16 long (omega arith)
