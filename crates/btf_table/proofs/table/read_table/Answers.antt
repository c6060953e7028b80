use Rattle.std.proofs.Common.{◌∙◌, sym, ap, arith, length}
use Rattle.btf_table.proofs.KnownKinds.{section_has_kinds}
use Rattle.btf_table.proofs.Tables.{read_len, read_header_fits, length-slice}
use Rattle.btf_table.proofs.table.read_table.Goals as goal

pub invariant_of-result : goal.invariant_of-result
invariant_of-result c =
    let order = c.args.endianness in
    let h = read_header_fits order c.args.data.now c.in_ok-header.header (λ i. omega (arith, c.type_inv.data i)) c.in_ok-header.ensures.1 in
    let strings = ap length (c.in_ok-from_slice.ensures.items ∙ c.in-Some.ensures.1) ∙ length-slice _ _ c.args.data.now c.in-Some.ensures.0 in
    let types = ap length c.in-Some-section.ensures.1 ∙ length-slice _ _ c.args.data.now c.in-Some-section.ensures.0 in
    record {
      magic = h.magic;
      version = h.version;
      flags = h.flags;
      limit = h.type_len;
      strings = omega (arith, strings, h.str_len);
      types = sym types ∙ read_len order _ c.in_ok-types.types.items c.in_ok-types.ensures.0 c.in_ok-types.ensures.1 c.in_ok-types.ensures.2;
      first = (c.in_ok-types.ensures.0, c.in_ok-types.ensures.1);
      kinds = section_has_kinds order _ c.in_ok-types.ensures.0 _ c.in_ok-types.ensures.1 c.in_ok-types.ensures.2;
    }
