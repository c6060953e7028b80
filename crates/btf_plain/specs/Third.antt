-- What reading retains of the third word of a record.
use Rattle.std.specs.Prelude.{ℕ}
use Rattle.btf_model.specs.Record.{Kind, Fwd, Array}

-- nothing of FWD and ARRAY, which do not use the word; and the word of the other kinds
abbrev pub third_kept : Kind → ℕ → ℕ
third_kept Fwd n = 0
third_kept Array n = 0
third_kept k n = n
