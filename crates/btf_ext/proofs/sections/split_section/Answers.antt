use Rattle.std.proofs.Common.{◌≡◌, ◌<◌, ◌⊎◌, length, arith, inl, inr, refl}
use Rattle.btf_ext.specs.SecInfo.{section_of}
use Rattle.btf_ext.proofs.SecInfos.{IsHead, cut_section, whole_section}
use Rattle.btf_ext.proofs.sections.split_section.Goals as goal
use Rattle.btf_ext.proofs.sections.split_section.Goals.{then-len-eq0-via-then-len-eq0, then-len-eq0-via-else-len-eq0+then-len-rest}

pub returns-then-len-eq0 : goal.returns-then-len-eq0
returns-then-len-eq0 c =
    let head : IsHead c.args.endianness c.args.bytes.now c.in-Some.name_offset c.in-Some.num_info c.in-Some.rest.now = record { long = c.in-Some.ensures.0; name_is = c.in-Some.ensures.1; count_is = c.in-Some.ensures.2; rest_is = c.in-Some.ensures.3 } in
    let bad : (c.saturating_mul-len.result ≡ 0) ⊎ (length c.in-Some.rest.now < c.saturating_mul-len.result) = elim c.then-len-eq0.branch [
      | then-len-eq0-via-then-len-eq0 w ↦ inl w.if-len-eq0.true
      | then-len-eq0-via-else-len-eq0+then-len-rest w ↦ inr w.if-len-rest.true
    ] in
    cut_section c.args.endianness c.args.rec_size c.args.bytes.now c.in-Some.name_offset c.in-Some.num_info c.in-Some.rest.now c.saturating_mul-len.result head c.saturating_mul-len.ensures bad

pub returns : goal.returns
returns c =
    let head : IsHead c.args.endianness c.args.bytes.now c.in-Some.name_offset c.in-Some.num_info c.in-Some.rest.now = record { long = c.in-Some.ensures.0; name_is = c.in-Some.ensures.1; count_is = c.in-Some.ensures.2; rest_is = c.in-Some.ensures.3 } in
    whole_section c.args.endianness c.args.rec_size c.args.bytes.now c.in-Some.name_offset c.in-Some.num_info c.in-Some.rest.now c.saturating_mul-len.result
    (section_of (record { name_offset = c.in-Some.name_offset; num_info = c.in-Some.num_info; bytes = c.split_at.result.0 })) c.split_at.result.1.now
    (λ i. omega (arith, c.type_inv.bytes i)) (omega arith) head c.saturating_mul-len.ensures c.if-len-eq0.false (omega (arith, c.if-len-rest.false)) refl refl c.split_at.ensures.front c.split_at.ensures.back
