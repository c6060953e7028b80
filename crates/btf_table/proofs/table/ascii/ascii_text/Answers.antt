use Rattle.btf_table.proofs.Ascii.{end_is_utf8}
use Rattle.btf_table.proofs.table.ascii.ascii_text.Goals as goal

pub from_utf8_unchecked-requires : goal.from_utf8_unchecked-requires
from_utf8_unchecked-requires c = end_is_utf8 c.args.bytes.now c.in_ok-text.field-0 c.in_ok-text.ensures.found
