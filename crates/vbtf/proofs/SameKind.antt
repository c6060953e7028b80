-- The kind of a number is unique.
use Rattle.std.proofs.Common.{◌≡◌, ap}
use Rattle.std.specs.Prelude.{Option, Some, None}
use Rattle.btf_model.specs.Record.{Kind, Unknown}

kind_or : Option Kind → Kind
kind_or (Some k) = k
kind_or None = Unknown

pub same_kind : (k l : Kind) → Some k ≡ Some l → k ≡ l
unfolding kind_or
same_kind k l e = ap kind_or e
