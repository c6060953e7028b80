use Rattle.std.proofs.Common.{◌≡◌, List, length, map, ◌%◌, ◌^◌, ap, ◌∙◌, Bool, arith}
use Rattle.std.proofs.lemmas.Simd.{first_set_mask_l, length-chunk, mask_l-mod}
use lib.Lanes.{chunk, mask_l}
use Rattle.btf_table.specs.Ascii.{lowest_bit, ends_plain}
use Rattle.btf_table.proofs.Ascii.{end_lanes, length-ends}
use Rattle.btf_table.proofs.table.ascii.plain_len.Goals as goal

pub returns : goal.returns
returns c =
    let v = chunk c.args.at 16 c.args.bytes.now in
    let long : length v ≡ 16 = length-chunk c.args.at 16 c.args.bytes.now c.requires in
    c.lowest_bit.ensures
    ∙ ap (λ (ms : List Bool). lowest_bit (mask_l ms % 2 ^ 64) 16) (end_lanes v 16 long)
    ∙ ap (λ mask. lowest_bit mask 16) (mask_l-mod (map ends_plain v) 64 (omega (arith, long, length-ends v)))
    ∙ first_set_mask_l ends_plain v 16 long (omega arith)
