use Rattle.std.proofs.Common.{◌≡◌, take, map, length}
use Rattle.std.specs.List.{flat_map}
use Rattle.btf_rewrite_model.specs.Rule.{variant_members}
use Rattle.btf_plain.specs.Items.{member_words}
use Rattle.btf_table.proofs.Enum64s.{variant}
use Rattle.btf_table.proofs.sanitize.enumeration64.variant_members.Given as goal

abbrev pub invariant-loop-variant : goal.invariant-loop-variant
invariant-loop-variant l = (flat_map member_words l.members.items ≡ variant_members l.member_type (map variant (take l.variant-index l.variants))) × (length l.members.items ≡ l.variant-index)
